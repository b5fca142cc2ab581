-- Tokens of a tiling: how long they are, and in which order they are.
use lib.Utf8.{encode, encodes}
use Rattle.std.proofs.Common.{◌≡◌, ◌≢◌, ◌+◌, ◌<◌, ◌≤◌, ℕ, true, false, List, [], ◌∷◌, refl, sym, ap, ◌∙◌, subst, inl, inr, arith, length-append}
use Rattle.std.proofs.lemmas.Bool.{cases_Bool, false≢true}
use Rattle.std.proofs.lemmas.Str.{length-encode, len_utf8_bounds}
use Rattle.std.specs.Prelude.{cond, not}
use Rattle.std.specs.Str.{IsUtf8, IsCharBoundary, chars}
use Rattle.wat_lex.specs.grammar.Classes.{size}
use Rattle.wat_lex.specs.grammar.Runs.{Piece, Run}
use Rattle.wat_lex.specs.grammar.Words.{Word}
use Rattle.wat_lex.specs.tokens.EverySetting.{TokensAreReadable, TokensEndAtBoundaries, WordsOfTokens}
use Rattle.wat_lex.specs.tokens.ReadableTokens.{token_text}
use Rattle.wat_lex.specs.tokens.Setting.{Setting}
use Rattle.wat_lex.specs.tokens.Tiling.{Tiling}
use Rattle.wat_lex.specs.declared.lexer.settings.Settings.{Settings}
use Rattle.wat_lex.specs.declared.lexer.kinds.Token.{Token}
use Rattle.wat_lex.specs.declared.lexer.kinds.TokenKind.{TokenKind}
use Rattle.wat_lex.specs.declared.lexer.kinds.TokenKind.TheVariants.{LineComment, BlockComment, Whitespace, LParen, RParen, String, Id, Keyword, Annotation, Reserved, Integer, Float}
use Rattle.wat_lex.specs.tokens.Blanks.{is_blank}
use Rattle.wat_lexer_parser.specs.laws.Counting.{counting}
use Rattle.wat_format_theorems.specs.lemmas.Among.{paren_at}

size_some : (w : List ℕ) → w ≢ [] → 0 < size w
size_some [] h = absurd (h refl)
size_some (c ∷ w) h = omega (arith, length-append (encode c) (encodes w), length-encode c, (len_utf8_bounds c).0)

run_some : (flags : Settings) (w : List ℕ) (ps : List Piece) → ps ≢ [] → Run flags w ps [] → w ≢ []
run_some flags w ps n (Run.none) e = n refl
run_some flags w ps n (Run.idchar i h) e = cc
run_some flags w ps n (Run.string q h) e = cc

one_char : (w : List ℕ) (c : ℕ) → w ≡ c ∷ [] → w ≢ []
one_char w c e f = let k : c ∷ [] ≡ [] = sym e ∙ f in cc

reserved_some : (w : List ℕ) (flags : Settings) → Word Reserved w flags → w ≢ []
reserved_some w flags (inl h) = one_char w h.0 h.1
reserved_some w flags (inr h) = run_some flags w h.0 h.1 h.2

-- The lexeme of a significant token is not empty.
word_some : (k : TokenKind) (w : List ℕ) (flags : Settings) → is_blank k ≡ false → Word k w flags → w ≢ []
word_some Whitespace w flags b h = absurd (false≢true (sym b))
word_some LineComment w flags b h = absurd (false≢true (sym b))
word_some BlockComment w flags b h = absurd (false≢true (sym b))
word_some LParen w flags b h = one_char w 40 h
word_some RParen w flags b h = one_char w 41 h
word_some Reserved w flags b h = reserved_some w flags h
word_some String w flags b h = run_some flags w h.0 h.1 h.2
word_some Id w flags b h = run_some flags w h.0 h.1 h.2
word_some Keyword w flags b h = run_some flags w h.0 h.1 h.2
word_some Annotation w flags b h = run_some flags w h.0 h.1 h.2
word_some (Integer i) w flags b h = run_some flags w h.0 h.1 h.2
word_some (Float f) w flags b h = run_some flags w h.0 h.1 h.2

pub counting_blank : (t : Token) (r : List Token) → is_blank t.kind ≡ true → counting (t ∷ r) ≡ counting r
counting_blank t r e = ap (λ b. cond (not b) (t ∷ counting r) (counting r)) e

pub counting_other : (t : Token) (r : List Token) → is_blank t.kind ≡ false → counting (t ∷ r) ≡ t ∷ counting r
counting_other t r e = ap (λ b. cond (not b) (t ∷ counting r) (counting r)) e

-- Each token is after the one before it, and the first is not before the offset.
abbrev pub Rising : ℕ → List Token → Type 0
Rising p [] = Unit {0}
Rising p (t ∷ ts) = (p ≤ t.offset) × Rising (t.offset + 1) ts

rising_from : (p q : ℕ) (ts : List Token) → p ≤ q → Rising q ts → Rising p ts
rising_from p q [] le h = tt
rising_from p q (t ∷ ts) le h = (omega (arith, h.0), h.1)

pub rising : (s : Setting) (p to : ℕ) (ts : List Token) → Tiling s p to ts → Rising p (counting ts)
rising s p to [] h = tt
rising s p to (t ∷ ts) h =
    let ih = rising s (t.offset + t.len) to ts h.1 in
    let at = h.0.offset in
    elim (cases_Bool (is_blank t.kind)) [
      | inl b ↦ subst (Rising p) (sym (counting_blank t ts b)) (rising_from p (t.offset + t.len) (counting ts) (omega (arith, at)) ih)
      | inr b ↦
          let some = size_some h.0.word (word_some t.kind h.0.word s.flags b h.0.is_at.word) in
          subst (Rising p) (sym (counting_other t ts b)) ((omega (arith, at), rising_from (t.offset + 1) (t.offset + t.len) (counting ts) (omega (arith, some, h.0.len)) ih))
    ]

-- Each token is before the offset.
abbrev pub Before : ℕ → List Token → Type 0
Before p [] = Unit {0}
Before p (t ∷ ts) = (t.offset + 1 ≤ p) × Before p ts

within : (s : Setting) (p to : ℕ) (ts : List Token) → Tiling s p to ts → p ≤ to
within s p to [] h = omega (arith, h)
within s p to (t ∷ ts) h = omega (arith, h.0.offset, within s (t.offset + t.len) to ts h.1)

pub before : (s : Setting) (p to : ℕ) (ts : List Token) → Tiling s p to ts → Before to (counting ts)
before s p to [] h = tt
before s p to (t ∷ ts) h =
    let ih = before s (t.offset + t.len) to ts h.1 in
    elim (cases_Bool (is_blank t.kind)) [
      | inl b ↦ subst (Before to) (sym (counting_blank t ts b)) ih
      | inr b ↦
          let some = size_some h.0.word (word_some t.kind h.0.word s.flags b h.0.is_at.word) in
          subst (Before to) (sym (counting_other t ts b)) ((omega (arith, some, h.0.len, within s (t.offset + t.len) to ts h.1), ih))
    ]

-- how long a token is, by its text
pub record Measured (text : List ℕ) (t : Token) : Type 0 where
  pub len : t.len ≡ size (chars (token_text text t))
  pub paren : t.kind ≡ LParen → t.len ≡ 1

abbrev pub AllMeasured : List ℕ → List Token → Type 0
AllMeasured text [] = Unit {0}
AllMeasured text (t ∷ ts) = Measured text t × AllMeasured text ts

pub all_measured : TokensAreReadable → TokensEndAtBoundaries → WordsOfTokens → (s : Setting) (p to : ℕ) (ts : List Token) → IsUtf8 s.text → IsCharBoundary s.text p → Tiling s p to ts → AllMeasured s.text ts
all_measured readable ends words s p to [] u b h = tt
all_measured readable ends words s p to (t ∷ ts) u b h =
    let r = readable s p t b h.0 in
    (record { len = r.len ∙ sym (ap size (words s.text t u r)); paren = paren_at s p t h.0 }, all_measured readable ends words s (t.offset + t.len) to ts u (ends s p t u b h.0) h.1)
