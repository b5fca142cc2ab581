-- A comment and its confusing characters.
use Rattle.std.proofs.Common.{◌≡◌, ◌+◌, ℕ, List, [], ◌∷◌, ◌++◌, length, take, refl, arith, ap, sym, ◌∙◌, subst, length-append, append_assoc, Bool, true, false, ◌&&◌, inl, inr}
use Rattle.std.proofs.lemmas.List.{take_at}
use Rattle.std.proofs.lemmas.Bool.{and_parts}
use Rattle.std.proofs.lemmas.Str.{chars-encodes, encodes-append, encodes-chars, scalars-chars, IsCharBoundary-at_seam}
use Rattle.std.specs.Str.{chars, NonePass, IsUtf8, IsCharBoundary}
use lib.Utf8.{encodes, scalar, scalars}
use Rattle.wat_lex.specs.grammar.Classes.{size, is_confusing, IsClear}
use Rattle.wat_lex.specs.tokens.Faults.{IsComment, confusing}
use Rattle.wat_lex.specs.grammar.Words.{Word}
use Rattle.wat_lex.specs.tokens.Setting.{allowing}
use Rattle.wat_lex.specs.declared.lexer.kinds.Lexeme.{Lexeme}
use Rattle.wat_lex.specs.inside.ScannedLexemes.{LexemeFound, Refused, FirstConfusing}
use Rattle.wat_lex.specs.declared.lexer.kinds.TokenKind.{TokenKind}
use Rattle.wat_lex.specs.declared.lexer.faults.LexError.TheVariants.{ConfusingUnicode}
use Rattle.wat_lex.proofs.inside.Confusing.{size-append}
use Rattle.wat_lex.specs.declared.lexer.settings.Settings.{Settings}

pub scalars_parts : (xs ys : List ℕ) → scalars (xs ++ ys) ≡ true → (scalars xs ≡ true) × (scalars ys ≡ true)
scalars_parts [] ys h = (refl, h)
scalars_parts (x ∷ xs) ys h =
    let p = and_parts (scalar x) (scalars (xs ++ ys)) h in
    let q = scalars_parts xs ys p.1 in
    (ap (λ b. b && scalars xs) p.0 ∙ q.0, q.1)

-- a text that is cut into two rows of characters
pub record Halves (text w rest : List ℕ) : Type 0 where
  pub bytes : text ≡ encodes w ++ encodes rest
  pub left : scalars w ≡ true
  pub right : scalars rest ≡ true

pub halves : (text w rest : List ℕ) → IsUtf8 text → chars text ≡ w ++ rest → Halves text w rest
halves text w rest u e =
    let p = scalars_parts w rest (subst (λ x. scalars x ≡ true) e (scalars-chars text u)) in
    record { bytes = sym (encodes-chars text u) ∙ ap encodes e ∙ encodes-append w rest; left = p.0; right = p.1 }

pub boundary_at : (flags : Settings) (text : List ℕ) (lexeme : Lexeme) → IsUtf8 text → LexemeFound flags text lexeme → IsCharBoundary text lexeme.len
boundary_at flags text lexeme u h =
    let p = halves text h.word h.rest u h.is_at.cut in
    subst (IsCharBoundary text) (sym h.len) (IsCharBoundary-at_seam text (encodes h.word) (encodes h.rest) p.bytes (h.rest, (p.right, refl)))

pub word_at : (flags : Settings) (text : List ℕ) (lexeme : Lexeme) → IsUtf8 text → (h : LexemeFound flags text lexeme) → chars (take lexeme.len text) ≡ h.word
word_at flags text lexeme u h =
    let p = halves text h.word h.rest u h.is_at.cut in
    ap (λ x. chars (take lexeme.len x)) p.bytes ∙ ap chars (take_at (encodes h.word) (encodes h.rest) lexeme.len (sym h.len)) ∙ chars-encodes h.word p.left

is_clear : (allow : Bool) (w : List ℕ) → NonePass is_confusing w → IsClear allow w
is_clear true w n = tt
is_clear false w n = n

pub clear_word : (flags : Settings) (kind : TokenKind) (w : List ℕ) → IsComment kind → Word kind w (allowing flags) → NonePass is_confusing w → Word kind w flags
clear_word flags kind w (inl e) h n = subst (λ k. Word k w flags) (sym e) (let g = subst (λ k. Word k w (allowing flags)) e h in (g.0, is_clear flags.allow w n))
clear_word flags kind w (inr e) h n = subst (λ k. Word k w flags) (sym e) (let g = subst (λ k. Word k w (allowing flags)) e h in (g.0, is_clear flags.allow w n))

pub found_clear : (flags : Settings) (text : List ℕ) (lexeme : Lexeme) → IsUtf8 text → IsComment lexeme.kind → LexemeFound (allowing flags) text lexeme → NonePass is_confusing (chars (take lexeme.len text)) → LexemeFound flags text lexeme
found_clear flags text lexeme u k h c = record {
  word = h.word;
  rest = h.rest;
  is_at = record { cut = h.is_at.cut; word = clear_word flags lexeme.kind h.word k h.is_at.word (subst (NonePass is_confusing) (word_at (allowing flags) text lexeme u h) c); ends = h.is_at.ends };
  len = h.len;
}

-- where confusing characters are allowed, that they are is nothing new
pub found_allowed : (flags : Settings) (text : List ℕ) (lexeme : Lexeme) → flags.allow ≡ true → LexemeFound (allowing flags) text lexeme → LexemeFound flags text lexeme
found_allowed flags text lexeme a h = subst (λ (b : Bool). LexemeFound (record flags { allow = b }) text lexeme) (sym a) h

pub found_confusing : (flags : Settings) (text : List ℕ) (lexeme : Lexeme) (i c : ℕ) → flags.allow ≡ false → IsUtf8 text → IsComment lexeme.kind → LexemeFound (allowing flags) text lexeme → FirstConfusing (take lexeme.len text) i c → Refused flags text (record { offset = i; error = ConfusingUnicode c })
found_confusing flags text lexeme i c a u k h f =
    let cut : h.word ≡ f.prefix ++ c ∷ f.after = sym (word_at (allowing flags) text lexeme u h) ∙ f.cut in
    let whole : chars text ≡ f.prefix ++ c ∷ (f.after ++ h.rest) = h.is_at.cut ∙ ap (λ x. x ++ h.rest) cut ∙ append_assoc f.prefix (c ∷ f.after) h.rest in
    record {
      at = c ∷ (f.after ++ h.rest);
      fault = confusing {w = h.word} {rest = h.rest} f.prefix a k h.is_at whole f.clear f.is (omega (arith, ap length cut, length-append f.prefix (c ∷ f.after)));
      place = ap (λ x. x + size (c ∷ (f.after ++ h.rest))) f.place ∙ sym (size-append f.prefix (c ∷ (f.after ++ h.rest))) ∙ sym (ap size whole) ∙ ap length (encodes-chars text u);
    }
