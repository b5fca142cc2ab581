-- What the first byte of a word says of its shape.
use Rattle.std.proofs.Common.{◌≡◌, ◌≢◌, ◌≤◌, ◌<◌, ◌⊎◌, ℕ, zero, suc, List, take, [], ◌∷◌, sym, ◌∙◌, ap, true, false, arith, inr, refl, ◌&&◌, ◌||◌, get_or, length}
use Rattle.std.specs.Prelude.{nat_le, ◌==◌, if◌then◌else◌}
use Rattle.std.specs.Char.{is_ascii_digit}
use Rattle.std.proofs.lemmas.Bool.{ne_eqb}
use Rattle.std.proofs.lemmas.Bool.Decides.{nat_tests}
use Rattle.wat_lex.specs.grammar.Classes.{is_idchar, is_run_char, quote}
use Rattle.wat_lex.specs.grammar.Runs.{WordKind, kind_by_first, named_kind}
use Rattle.wat_lex.specs.inside.Outlines.{BeginsWord, Begun}
use Rattle.wat_lex.specs.declared.lexer.scan.starts.Start.{Start}
use Rattle.wat_lex.specs.declared.lexer.scan.starts.Start.TheVariants as start
use Rattle.wat_lex.specs.declared.lexer.kinds.TokenKind.{TokenKind}
use Rattle.wat_lex.specs.declared.lexer.kinds.TokenKind.TheVariants.{Id, Keyword, Annotation, Reserved}
use Rattle.wat_lex.proofs.grammar.NumberBegins.{BeginsNone, begins_none, one_none, third_none, two_none}

-- a word that begins as no number does goes by its first character
by_first : (c : ℕ) (k : TokenKind) → BeginsNone c → kind_by_first (c ∷ []) ≡ k → (rest : List ℕ) → WordKind (c ∷ rest) k
by_first c k n e rest = inr (begins_none c rest n, sym e)

no_digit : (c : ℕ) → (48 ≤ c → c ≤ 57 → ⊥) → is_ascii_digit c ≡ false
no_digit c n = grind (arith, nat_tests)

lower : (c : ℕ) → 97 ≤ c → c ≤ 122 → (nat_le 97 c && nat_le c 122) ≡ true
lower c a b = grind (arith, nat_tests)

not_lower : (c : ℕ) → (97 ≤ c → c ≤ 122 → ⊥) → (nat_le 97 c && nat_le c 122) ≡ false
not_lower c n = grind (arith, nat_tests)

-- a text whose first byte is not 0 has one
pub some_text : (text : List ℕ) → 97 ≤ get_or text 0 0 → 0 < length text
some_text [] a = absurd (omega arith)
some_text (c ∷ t) a = omega arith

pub letter_is_idchar : (c : ℕ) → 97 ≤ c → c ≤ 122 → is_idchar c ≡ true
letter_is_idchar c a b = grind (arith, nat_tests)

pub keyword_start : (c : ℕ) → 97 ≤ c → c ≤ 122 → c ≢ 105 → c ≢ 110 → BeginsWord c Keyword
keyword_start c a b i n =
    let none : BeginsNone c = record { digit = no_digit c (λ x y. omega arith); plus = λ e. omega arith; minus = λ e. omega arith; inf = i; nan = n } in
    record { idchar = letter_is_idchar c a b; kind = by_first c Keyword none (ap (λ t. if t then Keyword else named_kind (c ∷ [])) (lower c a b)) }

begins : (c : ℕ) → (48 ≤ c → c ≤ 57 → ⊥) → c ≢ 43 → c ≢ 45 → c ≢ 105 → c ≢ 110 → BeginsNone c
begins c d p m i n = record { digit = no_digit c d; plus = p; minus = m; inf = i; nan = n }

pub id_start : (c : ℕ) → c ≡ 36 → BeginsWord c Id
id_start c e = record { idchar = ap is_idchar e; kind = by_first c Id (begins c (λ x y. omega arith) (λ f. omega arith) (λ f. omega arith) (λ f. omega arith) (λ f. omega arith)) (ap (λ x. kind_by_first (x ∷ [])) e) }

pub annotation_start : (c : ℕ) → c ≡ 64 → BeginsWord c Annotation
annotation_start c e = record { idchar = ap is_idchar e; kind = by_first c Annotation (begins c (λ x y. omega arith) (λ f. omega arith) (λ f. omega arith) (λ f. omega arith) (λ f. omega arith)) (ap (λ x. kind_by_first (x ∷ [])) e) }

pub name_start : (c : ℕ) → is_idchar c ≡ true → (c < 48) ⊎ (57 < c) → (c < 97) ⊎ (122 < c) → c ≢ 36 → c ≢ 43 → c ≢ 45 → c ≢ 64 → BeginsWord c Reserved
name_start c h d l i p m a =
    let none = begins c (λ x y. omega (arith, d)) p m (λ e. omega (arith, l)) (λ e. omega (arith, l)) in
    record { idchar = h; kind = by_first c Reserved none (ap (λ t. if t then Keyword else named_kind (c ∷ [])) (not_lower c (λ x y. omega (arith, l))) ∙ ap (λ t. if t then Id else if c == 64 then Annotation else Reserved) (ne_eqb c 36 i) ∙ ap (λ t. if t then Annotation else Reserved) (ne_eqb c 64 a)) }

lower_kind : (c : ℕ) → 97 ≤ c → c ≤ 122 → Keyword ≡ kind_by_first (c ∷ [])
lower_kind c a b = sym (ap (λ t. if t then Keyword else named_kind (c ∷ [])) (lower c a b))

one_letter : (c : ℕ) → 97 ≤ c → c ≤ 122 → WordKind (c ∷ []) Keyword
one_letter c a b = inr (one_none c (no_digit c (λ x y. omega arith)) (λ e. omega arith) (λ e. omega arith), lower_kind c a b)

two_letters : (c d : ℕ) → 97 ≤ c → c ≤ 122 → WordKind (c ∷ d ∷ []) Keyword
two_letters c d a b = inr (two_none c d (no_digit c (λ x y. omega arith)) (λ e. omega arith) (λ e. omega arith), lower_kind c a b)

-- The third letter of `inf` is `f`, and that of `nan` is `n`.
pub keyword_of_three : (text : List ℕ) (len : ℕ) → 0 < len → 97 ≤ get_or text 0 0 → get_or text 0 0 ≤ 122 → get_or text 2 0 ≢ 102 → get_or text 2 0 ≢ 110 → WordKind (take len text) Keyword
keyword_of_three [] len p a b i n = absurd (omega arith)
keyword_of_three (c ∷ t) zero p a b i n = absurd (omega arith)
keyword_of_three (c ∷ []) (suc zero) p a b i n = one_letter c a b
keyword_of_three (c ∷ []) (suc (suc m)) p a b i n = one_letter c a b
keyword_of_three (c ∷ d ∷ t) (suc zero) p a b i n = one_letter c a b
keyword_of_three (c ∷ d ∷ []) (suc (suc zero)) p a b i n = two_letters c d a b
keyword_of_three (c ∷ d ∷ []) (suc (suc (suc m))) p a b i n = two_letters c d a b
keyword_of_three (c ∷ d ∷ x ∷ t) (suc (suc zero)) p a b i n = two_letters c d a b
keyword_of_three (c ∷ d ∷ x ∷ t) (suc (suc (suc m))) p a b i n =
    inr (third_none c d x (take m t) (no_digit c (λ y z. omega arith)) (λ e. omega arith) (λ e. omega arith) i n, lower_kind c a b)

idchar_is_run_char : (c : ℕ) → is_idchar c ≡ true → is_run_char c ≡ true
idchar_is_run_char c e = ap (λ b. b || c == quote) e

-- A byte that begins a token and is neither whitespace, a parenthesis, `;` nor punctuation begins a run.
pub begins_run : (c : ℕ) (s : Start) → Begun c s → s ≢ start.Whitespace → s ≢ start.OpenParen → s ≢ start.CloseParen → s ≢ start.Semicolon → s ≢ start.Punctuation → s ≢ start.Other → is_run_char c ≡ true
begins_run c start.Whitespace h w o p s m f = absurd (w refl)
begins_run c start.OpenParen h w o p s m f = absurd (o refl)
begins_run c start.CloseParen h w o p s m f = absurd (p refl)
begins_run c start.Semicolon h w o p s m f = absurd (s refl)
begins_run c start.Punctuation h w o p s m f = absurd (m refl)
begins_run c start.Other h w o p s m f = absurd (f refl)
begins_run c start.Quote h w o p s m f = ap is_run_char h
begins_run c (start.Number g) h w o p s m f = idchar_is_run_char c h.0
begins_run c start.Letter h w o p s m f = idchar_is_run_char c (letter_is_idchar c h.0 h.1)
begins_run c start.Keyword h w o p s m f = idchar_is_run_char c h.idchar
begins_run c start.Id h w o p s m f = idchar_is_run_char c h.idchar
begins_run c start.Annotation h w o p s m f = idchar_is_run_char c h.idchar
begins_run c start.Reserved h w o p s m f = idchar_is_run_char c h.idchar
