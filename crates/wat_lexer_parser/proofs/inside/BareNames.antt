-- The name of an annotation whose word consists of idchars alone.
use Rattle.std.proofs.Common.{◌≡◌, ◌⊎◌, ◌<◌, zero, suc, [], ◌∷◌, refl, ◌+◌, ◌∙◌, ℕ, List, drop, get_or, get_or-drop, ap, sym, arith, true, false, inl, inr}
use Rattle.std.specs.Prelude.{◌==◌, Option, Some, None, slice_get, slice_index, option_map, unwrap_or}
use Rattle.std.proofs.lemmas.List.Sums.{prefix_len_passes}
use Rattle.wat_lex.specs.grammar.Classes.{at_sign, is_idchar, quote}
use Rattle.wat_lex.specs.tokens.BareWords.{bare_len}
use Rattle.wat_lex.specs.declared.lexer.kinds.Token.{Token}
use Rattle.wat_lex.proofs.lemmas.Tokens.{bare_word_is_idchars}
use Rattle.wat_lexer_parser.specs.inside.Table.{is_quoted}
use Rattle.wat_lexer_parser.proofs.inside.PlainNames.{no_quote}

-- The byte at an index within the list is the one that is read.
pub read_byte : (xs : List ℕ) (i c : ℕ) → slice_get xs i ≡ Some c → get_or xs i 0 ≡ c
read_byte [] i c e = cc
read_byte (x ∷ xs) zero c e = cc
read_byte (x ∷ xs) (suc i) c e = read_byte xs i c e

pub first_byte : (text : List ℕ) (p : ℕ) → slice_get text p ≡ Some at_sign → slice_index text p ≡ at_sign
first_byte text p e = read_byte text p at_sign e

not_quote : (o : Option ℕ) (c : ℕ) → (o ≡ None) ⊎ (o ≡ Some c) → is_idchar c ≡ true → unwrap_or (option_map (λ b. b == quote) o) false ≡ false
not_quote o c (inl e) h = ap (λ x. unwrap_or (option_map (λ b. b == quote) x) false) e
not_quote o c (inr e) h = ap (λ x. unwrap_or (option_map (λ b. b == quote) x) false) e ∙ no_quote c h

there_or_not : (xs : List ℕ) (i : ℕ) → (slice_get xs i ≡ None) ⊎ (slice_get xs i ≡ Some (get_or xs i 0))
there_or_not [] i = inl refl
there_or_not (x ∷ xs) zero = inr refl
there_or_not (x ∷ xs) (suc i) = there_or_not xs i

-- In such a word of at least two bytes, the second byte is not a quotation mark.
pub bare_plain : (text : List ℕ) (t : Token) (p q : ℕ) → t.offset ≡ p → q ≡ p + bare_len (drop p text) → p + 1 < q → is_quoted text t ≡ false
bare_plain text t p q at e l =
    let rest = drop p text in
    let m = bare_word_is_idchars rest (omega (arith, e, l)) in
    let idchar : is_idchar (get_or rest 1 0) ≡ true = prefix_len_passes is_idchar rest 1 0 (omega (arith, e, l, m.0)) in
    let same : get_or rest 1 0 ≡ get_or text (t.offset + 1) 0 = get_or-drop p text 1 0 ∙ ap (λ i. get_or text (i + 1) 0) (sym at) in
    not_quote (slice_get text (t.offset + 1)) (get_or text (t.offset + 1) 0) (there_or_not text (t.offset + 1)) (ap is_idchar (sym same) ∙ idchar)
