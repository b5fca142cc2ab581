-- Tokens with the same kinds, lexemes and marks: their significant tokens are the same, one by one.
use Rattle.std.proofs.Common.{◌≡◌, ◌+◌, ℕ, zero, suc, true, false, List, [], ◌∷◌, drop, refl, sym, ap, ◌∙◌, subst, inl, inr}
use Rattle.std.proofs.lemmas.Bool.{cases_Bool, false≢true}
use Rattle.std.specs.Prelude.{slice_get, if◌then◌else◌}
use Rattle.std.specs.Str.{chars}
use Rattle.wat_lex.specs.grammar.Classes.{size}
use Rattle.wat_lex.specs.tokens.ReadableTokens.{token_text}
use Rattle.wat_lex.specs.declared.lexer.kinds.Token.{Token}
use Rattle.wat_lex.specs.declared.lexer.kinds.TokenKind.{TokenKind}
use Rattle.wat_lex.specs.declared.lexer.kinds.TokenKind.TheVariants.{Whitespace, LParen}
use Rattle.wat_lex.specs.tokens.Blanks.{is_blank, is_marked}
use Rattle.wat_lexer_parser.specs.lemmas.Parts.{is_mark}
use Rattle.wat_lexer_parser.specs.laws.Counting.{counting}
use Rattle.wat_format.specs.Laws.{words, begins_at, is_opening, marks}
use Rattle.wat_format.specs.Layout.{is_white}
use Rattle.wat_format_theorems.proofs.Tokens.{AllMeasured, counting_blank, counting_other}

-- The tokens except whitespace.
abbrev strip : List Token → List Token
strip [] = []
strip (t ∷ ts) = if is_white t.kind then strip ts else t ∷ strip ts

strip_white : (t : Token) (ts : List Token) → is_white t.kind ≡ true → strip (t ∷ ts) ≡ strip ts
strip_white t ts e = ap (λ b. if b then strip ts else t ∷ strip ts) e

strip_word : (t : Token) (ts : List Token) → is_white t.kind ≡ false → strip (t ∷ ts) ≡ t ∷ strip ts
strip_word t ts e = ap (λ b. if b then strip ts else t ∷ strip ts) e

white_is_blank : (k : TokenKind) → is_white k ≡ true → is_blank k ≡ true
white_is_blank Whitespace e = refl
white_is_blank k e = absurd (false≢true e)

white_opens_nothing : (k : TokenKind) → is_white k ≡ true → is_opening k ≡ false
white_opens_nothing Whitespace e = refl
white_opens_nothing k e = absurd (false≢true e)

abbrev pairs : List ℕ → List Token → List (TokenKind × List ℕ)
pairs x [] = []
pairs x (t ∷ ts) = (t.kind, token_text x t) ∷ pairs x ts

words_strip : (x : List ℕ) (ts : List Token) → words x ts ≡ pairs x (strip ts)
words_strip x [] = refl
words_strip x (t ∷ ts) =
    let h = words_strip x ts in
    elim (is_white t.kind) as (λ b. (if b then words x ts else (t.kind, token_text x t) ∷ words x ts) ≡ pairs x (if b then strip ts else t ∷ strip ts)) [ true ↦ h | false ↦ ap (λ v. (t.kind, token_text x t) ∷ v) h ]

marks_other : (x : List ℕ) (t : Token) (ts : List Token) → is_opening t.kind ≡ false → marks x (t ∷ ts) ≡ marks x ts
marks_other x t ts e = ap (λ b. if b then begins_at (drop (t.offset + t.len) x) ∷ marks x ts else marks x ts) e

marks_opening : (x : List ℕ) (t : Token) (ts : List Token) → is_opening t.kind ≡ true → marks x (t ∷ ts) ≡ begins_at (drop (t.offset + t.len) x) ∷ marks x ts
marks_opening x t ts e = ap (λ b. if b then begins_at (drop (t.offset + t.len) x) ∷ marks x ts else marks x ts) e

marks_strip : (x : List ℕ) (ts : List Token) → marks x ts ≡ marks x (strip ts)
marks_strip x [] = refl
marks_strip x (t ∷ ts) =
    let ih = marks_strip x ts in
    elim (cases_Bool (is_white t.kind)) [
      | inl w ↦ marks_other x t ts (white_opens_nothing t.kind w) ∙ ih ∙ sym (ap (marks x) (strip_white t ts w))
      | inr w ↦ (elim (cases_Bool (is_opening t.kind)) [
        | inl o ↦ marks_opening x t ts o ∙ ap (λ v. begins_at (drop (t.offset + t.len) x) ∷ v) ih ∙ sym (marks_opening x t (strip ts) o)
        | inr o ↦ marks_other x t ts o ∙ ih ∙ sym (marks_other x t (strip ts) o)
      ]) ∙ sym (ap (marks x) (strip_word t ts w))
    ]

counting_strip : (ts : List Token) → counting ts ≡ counting (strip ts)
counting_strip [] = refl
counting_strip (t ∷ ts) =
    let ih = counting_strip ts in
    elim (cases_Bool (is_white t.kind)) [
      | inl w ↦ counting_blank t ts (white_is_blank t.kind w) ∙ ih ∙ sym (ap counting (strip_white t ts w))
      | inr w ↦ (elim (cases_Bool (is_blank t.kind)) [
        | inl b ↦ counting_blank t ts b ∙ ih ∙ sym (counting_blank t (strip ts) b)
        | inr b ↦ counting_other t ts b ∙ ap (λ v. t ∷ v) ih ∙ sym (counting_other t (strip ts) b)
      ]) ∙ sym (ap counting (strip_word t ts w))
    ]

measured_strip : (x : List ℕ) (ts : List Token) → AllMeasured x ts → AllMeasured x (strip ts)
measured_strip x [] h = tt
measured_strip x (t ∷ ts) h =
    let ih = measured_strip x ts h.1 in
    elim (is_white t.kind) as (λ b. AllMeasured x (if b then strip ts else t ∷ strip ts)) [ true ↦ ih | false ↦ (h.0, ih) ]

-- the same token, wherever it is
pub record Twin (x y : List ℕ) (t u : Token) : Type 0 where
  pub kind : u.kind ≡ t.kind
  pub len : u.len ≡ t.len
  pub text : token_text y u ≡ token_text x t
  pub mark : t.kind ≡ LParen → is_marked y u ≡ is_marked x t

abbrev pub AllTwins : List ℕ → List ℕ → List Token → List Token → Type 0
AllTwins x y [] [] = Unit {0}
AllTwins x y [] (u ∷ us) = ⊥
AllTwins x y (t ∷ ts) [] = ⊥
AllTwins x y (t ∷ ts) (u ∷ us) = Twin x y t u × AllTwins x y ts us

same_mark : (w : List ℕ) (n : ℕ) → is_mark (slice_get w n) ≡ begins_at (drop n w)
same_mark [] zero = refl
same_mark [] (suc n) = refl
same_mark (c ∷ w) zero = refl
same_mark (c ∷ w) (suc n) = same_mark w n

abbrev head_of : {A : Type 0} → A → List A → A
head_of d [] = d
head_of d (x ∷ xs) = x

abbrev tail_of : {A : Type 0} → List A → List A
tail_of [] = []
tail_of (x ∷ xs) = xs

opens : (k : TokenKind) → k ≡ LParen → is_opening k ≡ true
opens k e = ap is_opening e

-- The mark of a parenthesis, which is 1 byte long.
mark_at : (x : List ℕ) (t : Token) → t.len ≡ 1 → is_marked x t ≡ begins_at (drop (t.offset + t.len) x)
mark_at x t e = same_mark x (t.offset + 1) ∙ ap (λ n. begins_at (drop (t.offset + n) x)) (sym e)

module _ (x y : List ℕ) where
  twins_by : (ts us : List Token) → pairs y us ≡ pairs x ts → marks y us ≡ marks x ts → AllMeasured x ts → AllMeasured y us → AllTwins x y (counting ts) (counting us)
  twins_by [] [] e m f g = tt
  twins_by [] (u ∷ us) e m f g = absurd (let k : pairs y (u ∷ us) ≡ [] = e in cc)
  twins_by (t ∷ ts) [] e m f g = absurd (let k : [] ≡ pairs x (t ∷ ts) = e in cc)
  twins_by (t ∷ ts) (u ∷ us) e m f g =
      let first : (u.kind, token_text y u) ≡ (t.kind, token_text x t) = ap (head_of (t.kind, token_text x t)) e in
      let kind : u.kind ≡ t.kind = ap (λ p. p.0) first in
      let text : token_text y u ≡ token_text x t = ap (λ p. p.1) first in
      let rest : pairs y us ≡ pairs x ts = ap tail_of e in
      let len : u.len ≡ t.len = g.0.len ∙ ap (λ w. size (chars w)) text ∙ sym f.0.len in
      elim (cases_Bool (is_opening t.kind)) [
        | inl o ↦
            let both = sym (marks_opening y u us (ap is_opening kind ∙ o)) ∙ m ∙ marks_opening x t ts o in
            let b : is_blank t.kind ≡ false = open_counts t.kind o in
            let twin : Twin x y t u = record {
              kind = kind;
              len = len;
              text = text;
              mark = λ k. mark_at y u (g.0.paren (kind ∙ k)) ∙ ap (head_of false) both ∙ sym (mark_at x t (f.0.paren k));
            } in
            subst (λ v. AllTwins x y v (counting (u ∷ us))) (sym (counting_other t ts b)) (subst (λ v. AllTwins x y (t ∷ counting ts) v) (sym (counting_other u us (ap is_blank kind ∙ b))) ((twin, twins_by ts us rest (ap tail_of both) f.1 g.1)))
        | inr o ↦
            let both = sym (marks_other y u us (ap is_opening kind ∙ o)) ∙ m ∙ marks_other x t ts o in
            let ih = twins_by ts us rest both f.1 g.1 in
            let twin : Twin x y t u = record { kind = kind; len = len; text = text; mark = λ k. absurd (false≢true (sym o ∙ opens t.kind k)) } in
            elim (cases_Bool (is_blank t.kind)) [
              | inl b ↦ subst (λ v. AllTwins x y v (counting (u ∷ us))) (sym (counting_blank t ts b)) (subst (λ v. AllTwins x y (counting ts) v) (sym (counting_blank u us (ap is_blank kind ∙ b))) ih)
              | inr b ↦ subst (λ v. AllTwins x y v (counting (u ∷ us))) (sym (counting_other t ts b)) (subst (λ v. AllTwins x y (t ∷ counting ts) v) (sym (counting_other u us (ap is_blank kind ∙ b))) ((twin, ih)))
            ]
      ]
    where
      open_counts : (k : TokenKind) → is_opening k ≡ true → is_blank k ≡ false
      open_counts LParen e = refl
      open_counts k e = absurd (false≢true e)

  pub twins : (ts us : List Token) → words y us ≡ words x ts → marks y us ≡ marks x ts → AllMeasured x ts → AllMeasured y us → AllTwins x y (counting ts) (counting us)
  twins ts us e m f g =
      let h = twins_by (strip ts) (strip us) (sym (words_strip y us) ∙ e ∙ words_strip x ts) (sym (marks_strip y us) ∙ m ∙ marks_strip x ts) (measured_strip x ts f) (measured_strip y us g) in
      subst (λ v. AllTwins x y v (counting us)) (sym (counting_strip ts)) (subst (λ v. AllTwins x y (counting (strip ts)) v) (sym (counting_strip us)) h)
