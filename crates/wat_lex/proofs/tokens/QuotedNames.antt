-- An annotation whose name is in quotes and has no escape is a token, and has a name.
use lib.Utf8.{encode}
use Rattle.std.proofs.Common.{◌≡◌, ◌≢◌, ◌≤◌, ◌<◌, ◌+◌, ◌-◌, ℕ, zero, suc, List, [], ◌∷◌, length, length-drop, length-take-le, take, drop, get_or, get_or-drop, refl, arith, ap, sym, ◌∙◌, subst, Bool, true, false, inl, inr, cond}
use Rattle.std.specs.Prelude.{◌==◌, ◌&&◌, ◌||◌, not, nat_lt, if◌then◌else◌, Ok, None}
use Rattle.std.specs.List.{prefix_len}
use Rattle.std.specs.Str.{chars, IsCharBoundary, IsUtf8}
use Rattle.std.proofs.lemmas.Bool.{and_parts, both_ways, cases_Bool, eqb-true, ltb-true, ltb-false}
use Rattle.std.proofs.lemmas.List.{get_or-take}
use Rattle.std.proofs.lemmas.List.Sums.{prefix_len_passes}
use Rattle.std.proofs.lemmas.Str.{IsUtf8-drop, IsUtf8-take}
use Rattle.memchr.specs.Find.{IsFirstByte, is_byte}
use Rattle.wat_lex.specs.declared.lexer.faults.LexError.TheVariants.{EmptyAnnotation}
use Rattle.wat_lex.specs.declared.lexer.kinds.Shape.TheVariants as shape
use Rattle.wat_lex.specs.declared.lexer.kinds.Token.{Token}
use Rattle.wat_lex.specs.declared.lexer.kinds.TokenKind.TheVariants.{Annotation}
use Rattle.wat_lex.specs.declared.lexer.settings.Settings.{Settings}
use Rattle.wat_lex.specs.grammar.Classes.{is_idchar, is_run_char}
use Rattle.wat_lex.specs.grammar.Runs.{named_kind}
use Rattle.wat_lex.specs.inside.ScannedLexemes.{LexemeFound}
use Rattle.wat_lex.specs.inside.ScannedRuns.{RunFound}
use Rattle.wat_lex.specs.inside.ScannedStrings.{is_plain}
use Rattle.wat_lex.specs.tokens.QuotedNames.{is_quoted_name, quoted_name_len, NamedAt}
use Rattle.wat_lex.specs.tokens.ReadableTokens.{IsTokenOf}
use Rattle.wat_lex.specs.tokens.Setting.{Setting}
use Rattle.wat_lex.specs.tokens.Tiling.{TokenAt}
use Rattle.wat_lex.specs.values.WordValues.{checked_name, name_value, named_bytes}
use Rattle.wat_lex.proofs.grammar.RunKinds.{found_run}
use Rattle.wat_lex.proofs.inside.Outlines.{named_run}
use Rattle.wat_lex.proofs.inside.RunSteps.{joined_start, joined_string, joined_end, after_quote}
use Rattle.wat_lex.proofs.inside.StringElements.{Continues, begin, plain_more, closed}
use Rattle.wat_lex.proofs.tokens.ReadableTokens.{token_of, token_ends, token_word}
use Rattle.wat_lex.proofs.tokens.Scans.{token_at}
use Rattle.wat_lex.proofs.values.NameParts.{name_checked, past_utf8}
use Rattle.wat_lex.proofs.values.Names.{NameTail, name_tail, name_elements, quoted_named}
use Rattle.wat_lex.proofs.values.StringValues.{closing, no_backslash}
use Rattle.wat_lex.proofs.values.WordValues.{good_name, named_is}

-- what the test says
pub record Cut (text : List ℕ) (n : ℕ) : Type 0 where
  pub marked : get_or text 0 0 ≡ 64
  pub opens : get_or text 1 0 ≡ 34
  pub some : 0 < n
  pub closes : get_or text (n + 2) 0 ≡ 34
  pub alone : is_run_char (get_or text (n + 3) 0) ≡ false

off : (b : Bool) → not b ≡ true → b ≡ false
off true e = cc
off false e = refl

cut : (text : List ℕ) (n : ℕ) → is_quoted_name text n ≡ true → Cut text n
cut text n e =
    let first = get_or text 0 0 == 64 in
    let second = get_or text 1 0 == 34 in
    let last = get_or text (n + 2) 0 == 34 in
    let next = not (is_run_char (get_or text (n + 3) 0)) in
    let a = and_parts (first && second) ((nat_lt 0 n && last) && next) e in
    let b = and_parts first second a.0 in
    let c = and_parts (nat_lt 0 n && last) next a.1 in
    let d = and_parts (nat_lt 0 n) last c.0 in
    record {
      marked = eqb-true (get_or text 0 0) 64 b.0;
      opens = eqb-true (get_or text 1 0) 34 b.1;
      some = ltb-true 0 n d.0;
      closes = eqb-true (get_or text (n + 2) 0) 34 d.1;
      alone = off (is_run_char (get_or text (n + 3) 0)) c.1;
    }

-- a byte other than 0 is in the text
inside : (text : List ℕ) (i c : ℕ) → get_or text i 0 ≡ c → 0 < c → i < length text
inside [] i c e l = absurd (omega (arith, e, l))
inside (b ∷ bs) zero c e l = omega arith
inside (b ∷ bs) (suc i) c e l = omega (arith, inside bs i c e l)

first_passes : (p : ℕ → Bool) (text : List ℕ) → 0 < length text → p (get_or text 0 0) ≡ true → prefix_len p text ≡ 1 + prefix_len p (drop 1 text)
first_passes p [] l e = absurd (omega arith)
first_passes p (b ∷ bs) l e = ap (λ x. cond x (1 + prefix_len p bs) 0) e

none_from : (text : List ℕ) (i : ℕ) → is_idchar (get_or text i 0) ≡ false → 0 ≡ prefix_len is_idchar (drop i text)
none_from [] zero e = refl
none_from [] (suc i) e = refl
none_from (b ∷ bs) zero e = sym (ap (λ x. cond x (1 + prefix_len is_idchar bs) 0) e)
none_from (b ∷ bs) (suc i) e = none_from bs i e

no_idchar : (b : ℕ) → is_run_char b ≡ false → is_idchar b ≡ false
no_idchar b e = elim (cases_Bool (is_idchar b)) [
  | inl i ↦ absurd (both_ways (is_run_char b) e (ap (λ x. x || b == 34) i))
  | inr i ↦ i
]

front : (text : List ℕ) (m : ℕ) → 0 < m → 0 < length text → (rest : List ℕ) × (take m text ≡ get_or text 0 0 ∷ rest)
front [] m p l = absurd (omega arith)
front (b ∷ bs) zero p l = absurd (omega arith)
front (b ∷ bs) (suc m) p l = (take m bs, refl)

annotates : (text : List ℕ) (m : ℕ) → 0 < m → 0 < length text → get_or text 0 0 ≡ 64 → named_kind (take m text) ≡ Annotation
annotates text m p l e = let f = front text m p l in ap named_kind f.1 ∙ ap (λ x. named_kind (x ∷ f.0)) e

-- it is an annotation
found : (flags : Settings) (text : List ℕ) (n : ℕ) → IsUtf8 text → n ≡ prefix_len is_plain (drop 2 text) → Cut text n → LexemeFound flags text (record { kind = Annotation; len = n + 3 })
found flags text n u e f =
    let long = inside text (n + 2) 34 f.closes (omega arith) in
    let one : 1 ≡ prefix_len is_idchar text = omega (arith, first_passes is_idchar text (omega (arith, long)) (ap is_idchar f.marked), none_from text 1 (ap is_idchar f.opens)) in
    let j = joined_start flags text 1 u one in
    let part = drop 2 text in
    let v = after_quote flags text 1 1 0 j (omega (arith, long)) f.opens in
    let here : get_or (drop n part) 0 0 ≡ 34 = get_or-drop n part 0 0 ∙ get_or-drop 2 text (n + 0) 0 ∙ ap (λ i. get_or text i 0) (let k : 2 + (n + 0) ≡ n + 2 = omega arith in k) ∙ f.closes in
    let zero : 0 + n ≡ n = omega arith in
    let string = closed flags part n (subst (Continues flags part) zero (plain_more flags part 0 n (begin flags part v) e)) (omega (arith, long, length-drop 2 text)) here in
    let end : 1 + (1 + (n + 1)) ≡ n + 3 = omega arith in
    let more = none_from text (1 + (1 + (n + 1))) (ap (λ i. is_idchar (get_or text i 0)) end ∙ no_idchar (get_or text (n + 3) 0) f.alone) in
    let k = joined_string flags text 1 1 0 (n + 1) 0 j (omega (arith, long)) f.opens string more in
    let same : 1 + (1 + (n + 1)) + 0 ≡ n + 3 = omega arith in
    let run = joined_end flags text (1 + (1 + (n + 1)) + 0) 1 1 k (λ l q. both_ways (is_run_char (get_or text (n + 3) 0)) f.alone (ap (λ i. is_run_char (get_or text i 0)) (sym same) ∙ ap is_run_char q)) in
    let kinds = named_run (take (n + 3) text) 1 1 shape.Annotation Annotation (λ x. cc) (λ i h. h) (annotates text (n + 3) (omega arith) (omega (arith, long)) f.marked) refl refl in
    found_run flags text (record { len = n + 3; idchars = 1; strings = 1 }) Annotation u (omega (arith, long)) (ap is_run_char f.marked)
    (subst (λ m. RunFound flags text (record { len = m; idchars = 1; strings = 1 })) same run) (kinds.kind Annotation refl)

-- no byte between the quotes is a backslash
clear : (text : List ℕ) (n i : ℕ) → n ≡ prefix_len is_plain (drop 2 text) → Cut text n → i < n + 1 → get_or text (2 + i) 0 ≢ 92
clear text n i e f l b = elim (cases_Bool (nat_lt i n)) [
  | inl k ↦
      let plain = prefix_len_passes is_plain (drop 2 text) i 0 (omega (arith, e, ltb-true i n k)) in
      both_ways (is_plain 92) refl (ap is_plain (sym b ∙ sym (get_or-drop 2 text i 0)) ∙ plain)
  | inr k ↦
      let last : 2 + i ≡ n + 2 = omega (arith, l, ltb-false i n k) in
      let no : 34 ≡ 92 = sym f.closes ∙ ap (λ m. get_or text m 0) (sym last) ∙ b in cc
]

split : (w : List ℕ) → 1 < length w → drop 1 w ≡ get_or w 1 0 ∷ drop 2 w
split [] l = absurd (omega arith)
split (a ∷ []) l = absurd (omega arith)
split (a ∷ b ∷ w) l = refl

one_quote : IsUtf8 (34 ∷ [])
unfolding encode
one_quote = (34 ∷ [], (refl, refl))

-- what is between the quotes is its name
name_of : (w : List ℕ) (n : ℕ) → IsUtf8 w → NameTail w → length w ≡ n + 3 → 0 < n → get_or w 1 0 ≡ 34 → ((i : ℕ) → i < n + 1 → get_or w (2 + i) 0 ≢ 92) → name_value EmptyAnnotation (chars w) ≡ Ok (take n (drop 2 w))
name_of w n u t len some opens none =
    let rest = drop 1 w in
    let elements = drop 2 w in
    let long : length elements ≡ n + 1 = omega (arith, len, length-drop 2 w) in
    let cut : rest ≡ 34 ∷ elements = split w (omega (arith, len)) ∙ ap (λ x. x ∷ elements) opens in
    let ru = IsUtf8-drop w 1 u t.boundary in
    let eu = past_utf8 (34 ∷ []) elements one_quote (subst IsUtf8 cut ru) in
    let q = name_elements rest elements ru cut t.named in
    let b : IsFirstByte (is_byte 92) elements None = λ k l m e. none k (omega (arith, m, long)) (sym (get_or-drop 2 w k 0) ∙ eqb-true (get_or elements k 0) 92 e) in
    let c = closing elements q.0 eu (no_backslash elements eu b) q.1 in
    let less : length elements - 1 ≡ n = omega (arith, long) in
    let value : q.0 ≡ take n elements = sym c.value ∙ ap (λ m. take m elements) less in
    let is : named_bytes (chars rest) ≡ take n elements = named_is (chars rest) q.0 (quoted_named rest elements q.0 ru cut q.1) ∙ value in
    let nu = IsUtf8-take elements n eu (subst (IsCharBoundary elements) less c.boundary) in
    let full : take n elements ≢ [] = λ e. absurd (omega (arith, some, ap length e, length-take-le n elements (omega (arith, long)))) in
    name_checked EmptyAnnotation w rest t refl ∙ ap (checked_name EmptyAnnotation) is ∙ good_name EmptyAnnotation (take n elements) nu full

measured : (text : List ℕ) → 0 < quoted_name_len text → (quoted_name_len text ≡ prefix_len is_plain (drop 2 text) + 3) × Cut text (prefix_len is_plain (drop 2 text))
measured text some =
    let n = prefix_len is_plain (drop 2 text) in
    elim (cases_Bool (is_quoted_name text n)) [
      | inl e ↦ (ap (λ b. if b then n + 3 else 0) e, cut text n e)
      | inr e ↦ let none : quoted_name_len text ≡ 0 = ap (λ b. if b then n + 3 else 0) e in absurd (omega (arith, some, none))
    ]

pub quoted_fits : (text : List ℕ) → quoted_name_len text ≤ length text
quoted_fits text =
    let n = prefix_len is_plain (drop 2 text) in
    elim (cases_Bool (is_quoted_name text n)) [
      | inl e ↦
          let all : quoted_name_len text ≡ n + 3 = ap (λ b. if b then n + 3 else 0) e in
          let f = cut text n e in
          omega (arith, all, inside text (n + 2) 34 f.closes (omega arith))
      | inr e ↦ let none : quoted_name_len text ≡ 0 = ap (λ b. if b then n + 3 else 0) e in omega (arith, none)
    ]

pub quoted_found : (flags : Settings) (text : List ℕ) (len : ℕ) → IsUtf8 text → len ≡ quoted_name_len text → 0 < len → LexemeFound flags text (record { kind = Annotation; len = len })
quoted_found flags text len u e some =
    let m = measured text (omega (arith, e, some)) in
    subst (λ x. LexemeFound flags text (record { kind = Annotation; len = x })) (sym (e ∙ m.0)) (found flags text (prefix_len is_plain (drop 2 text)) u refl m.1)

-- the token that it is
pub named : (s : Setting) (p len : ℕ) → IsUtf8 s.text → IsCharBoundary s.text p → len ≡ quoted_name_len (drop p s.text) → 0 < len → NamedAt s p (p + len)
named s p len u b e some =
    let text = drop p s.text in
    let n = prefix_len is_plain (drop 2 text) in
    let m = measured text (omega (arith, e, some)) in
    let f = m.1 in
    let t : Token = record { kind = Annotation; offset = p; len = len } in
    let there : TokenAt s p t = token_at s text p (record { kind = Annotation; len = len }) refl (quoted_found s.flags text len (IsUtf8-drop s.text p u b) e some) in
    let reader : IsTokenOf s.text t = token_of s p t b there in
    let w = take len text in
    let length_is : length w ≡ n + 3 = length-take-le len text (omega (arith, e, quoted_fits text)) ∙ e ∙ m.0 in
    let at : (i : ℕ) → i < n + 3 → get_or w i 0 ≡ get_or text i 0 = λ i l. get_or-take len text i 0 (omega (arith, l, e, m.0)) in
    let uw = IsUtf8-take text len (IsUtf8-drop s.text p u b) (token_ends s.text t u reader) in
    let tail = name_tail Annotation w uw (inr refl) (token_word s.text t u reader) in
    record {
      token = t;
      there = there;
      ends = refl;
      kind = refl;
      name = take n (drop 2 w);
      value = name_of w n uw tail length_is f.some (at 1 (omega arith) ∙ f.opens) (λ i l k. clear text n i refl f l (sym (at (2 + i) (omega (arith, l))) ∙ k));
    }

-- how the length is found
pub too_short : (text : List ℕ) → length text < 2 → quoted_name_len text ≡ 0
too_short text l =
    let n = prefix_len is_plain (drop 2 text) in
    elim (cases_Bool (is_quoted_name text n)) [
      | inl e ↦ let f = cut text n e in absurd (omega (arith, l, inside text 1 34 f.opens (omega arith)))
      | inr e ↦ ap (λ b. if b then n + 3 else 0) e
    ]

pub with_name : (text : List ℕ) (n : ℕ) → n ≡ prefix_len is_plain (drop 2 text) → is_quoted_name text n ≡ true → n + 3 ≡ quoted_name_len text
with_name text n e h = sym (ap (λ m. if is_quoted_name text m then m + 3 else 0) (sym e) ∙ ap (λ b. if b then n + 3 else 0) h)

pub without_name : (text : List ℕ) (n : ℕ) → n ≡ prefix_len is_plain (drop 2 text) → is_quoted_name text n ≡ false → 0 ≡ quoted_name_len text
without_name text n e h = sym (ap (λ m. if is_quoted_name text m then m + 3 else 0) (sym e) ∙ ap (λ b. if b then n + 3 else 0) h)
