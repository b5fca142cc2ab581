-- The rows of the significant tokens from an offset are unique, and so are the offset at which they stop, and the
-- reason.
use Rattle.std.proofs.Common.{◌≡◌, ◌⊎◌, ◌<◌, ◌≤◌, ◌+◌, ℕ, zero, suc, List, [], ◌∷◌, length, refl, ap, sym, ◌∙◌, subst, arith, inl, inr}
use Rattle.std.specs.Prelude.{Some, None, Ok, Err, map}
use Rattle.std.proofs.lemmas.Bool.{cases_Bool}
use Rattle.wat_lex.specs.tokens.EverySetting.{ScanResultIsUnique}
use Rattle.wat_lex.specs.tokens.Setting.{Setting}
use Rattle.wat_lex.specs.tokens.Tiling.{TokenAt, Tiling}
use Rattle.wat_lex.specs.tokens.UniqueTilings.{ResultAt}
use Rattle.wat_lex.specs.declared.lexer.kinds.Token.{Token}
use Rattle.wat_lex.specs.tokens.Blanks.{is_blank}
use Rattle.wat_lexer_parser.specs.laws.Counting.{counting}
use Rattle.wat_c_records.specs.Counting.{EndsCounting, OneFillCounting, StopsCounting, StopsCounting.ended, StopsCounting.full, StopsCounting.faulty}
use Rattle.wat_c_records.specs.Counting.{row_of}
use Rattle.wat_c_records.proofs.Counted.{counting_blank, counting_other}
use Rattle.wat_c_records.proofs.OneFill.{IsEnd, Answered, code_of, some_token}
use Rattle.wat_c_records.proofs.RawPlaces.{counting_shorter}

-- If the last token is significant, there is a significant token.
one_counts : (t : Token) (ts : List Token) → EndsCounting (t ∷ ts) → 0 < length (counting (t ∷ ts))
one_counts t [] h = omega (arith, ap length (counting_other t [] h))
one_counts t (u ∷ ts) h = omega (arith, one_counts u ts h, counting_shorter t (u ∷ ts))

ends_after : (t : Token) (ts : List Token) → EndsCounting (t ∷ ts) → EndsCounting ts
ends_after t [] h = tt
ends_after t (u ∷ ts) h = h

-- The number of significant tokens is that of the first token and of the others.
counting_front : (t : Token) (ts : List Token) → length (counting (t ∷ ts)) ≡ length (counting (t ∷ [])) + length (counting ts)
counting_front t ts = elim (cases_Bool (is_blank t.kind)) [
  | inl b ↦ omega (arith, ap length (counting_blank t ts b), ap length (counting_blank t [] b))
  | inr o ↦ omega (arith, ap length (counting_other t ts o), ap length (counting_other t [] o))
]

module _ (is_at : ScanResultIsUnique) (s : Setting) (room : ℕ) where
  -- Either the buffer is full after the last token, which is significant; or it is not full, and the text ends or has a
  -- lexical error at the offset.
  abbrev Ending : ℕ → ℕ → ℕ → List Token → Type 0
  Ending at count why ts = ((count ≡ room) × (why ≡ 1) × EndsCounting ts) ⊎ ((r : Answered) × (count < room) × IsEnd r × ResultAt s at r ×
      (why ≡ code_of r))

  ending : (at count why : ℕ) (ts : List Token) → StopsCounting s at room count ts why → Ending at count why ts
  ending at count zero ts (ended l e) = inr (Ok None, l, tt, e, refl)
  ending at count (suc zero) ts (full e c) = inl (e, refl, c)
  ending at count _ ts (faulty f code l h e) = inr (Err f, l, tt, h, e)

  within : (at count why : ℕ) (ts : List Token) → Ending at count why ts → count ≤ room
  within at count why ts (inl x) = omega (arith, x.0)
  within at count why ts (inr y) = omega (arith, y.1)

  codes_one : (at end c d why other : ℕ) (ts us : List Token) → at ≡ end → c ≡ d → Ending at c why ts → Ending end d other us → why ≡ other
  codes_one at end c d why other ts us p q (inl x) (inl y) = x.1 ∙ sym y.1
  codes_one at end c d why other ts us p q (inl x) (inr y) = absurd (omega (arith, x.0, y.1, q))
  codes_one at end c d why other ts us p q (inr x) (inl y) = absurd (omega (arith, x.1, y.0, q))
  codes_one at end c d why other ts us p q (inr x) (inr y) = x.4 ∙ ap code_of (is_at s end x.0 y.0 (subst (λ k. ResultAt s k x.0) p x.3) y.3)
      ∙ sym y.4

  after : (at count why : ℕ) (t : Token) (ts : List Token) → Ending at count why (t ∷ ts) → Ending at count why ts
  after at count why t ts (inl x) = inl (x.0, x.1, ends_after t ts x.2)
  after at count why t ts (inr y) = inr y

  -- If one list stops, the other does not continue.
  no_more : (at end c d why other : ℕ) (t : Token) (ts : List Token) → d ≡ c + length (counting (t ∷ ts)) → TokenAt s at t → Ending at c why []
      → Ending end d other (t ∷ ts) → ⊥
  no_more at end c d why other t ts e h (inr x) y = subst IsEnd (is_at s at x.0 (Ok (Some t)) x.3 h) x.2
  no_more at end c d why other t ts e h (inl x) (inl y) = omega (arith, x.0, y.0, e, one_counts t ts y.2)
  no_more at end c d why other t ts e h (inl x) (inr y) = omega (arith, x.0, y.1, e)

  tilings_one : (from at end seen c d why other : ℕ) (ts us : List Token) → c ≡ seen + length (counting ts) → d ≡ seen + length (counting us)
      → Tiling s from at ts → Tiling s from end us → Ending at c why ts → Ending end d other us → (ts ≡ us) × (at ≡ end) × (why ≡ other)
  tilings_one from at end seen c d why other [] [] e f h g x y = let same : at ≡ end = sym h
      ∙ g in (refl, same, codes_one at end c d why other [] [] same (e ∙ sym f) x y)
  tilings_one from at end seen c d why other [] (u ∷ us) e f h g x y =
      absurd (no_more from end c d why other u us (omega (arith, e, f)) g.0 (subst (λ p. Ending p c why []) (sym h) x) y)
  tilings_one from at end seen c d why other (t ∷ ts) [] e f h g x y =
      absurd (no_more from at d c other why t ts (omega (arith, e, f)) h.0 (subst (λ p. Ending p d other []) (sym g) y) x)
  tilings_one from at end seen c d why other (t ∷ ts) (u ∷ us) e f h g x y =
      let k = some_token t u (is_at s from (Ok (Some t)) (Ok (Some u)) h.0 g.0) in
      let one = length (counting (t ∷ [])) in
      let a : c ≡ seen + one + length (counting ts) = omega (arith, e, counting_front t ts) in
      let b : d ≡ seen + one + length (counting us) = omega (arith, f, counting_front u us, ap (λ (v : Token). length (counting (v ∷ []))) k) in
      let r = tilings_one (t.offset + t.len) at end (seen + one) c d why other ts us a b h.1 (subst (λ (z : Token). Tiling s
      (z.offset + z.len) end us) (sym k) g.1) (after at c why t ts x) (after end d other u us y) in
      let l = r.0 in
      let q : t ∷ ts ≡ u ∷ us = cc in
      (q, r.1, r.2)

  pub one_fill_counting : (from : ℕ) → OneFillCounting s from room
  unfolding OneFillCounting
  one_fill_counting from rows others filled other h k =
      let a : filled.count ≡ 0 + length (counting h.tokens) = omega (arith, h.count) in
      let b : other.count ≡ 0 + length (counting k.tokens) = omega (arith, k.count) in
      let same = tilings_one from filled.at other.at 0 filled.count other.count filled.why other.why h.tokens k.tokens a b h.tiling k.tiling
      (ending filled.at filled.count filled.why h.tokens h.stops) (ending other.at other.count other.why k.tokens k.stops) in
      let count = h.count ∙ ap (λ ts. length (counting ts)) same.0 ∙ sym k.count in
      let at = same.1 in
      let why = same.2 in
      (h.rows_are ∙ ap (λ ts. map (row_of s.text 0) (counting ts)) same.0 ∙ sym k.rows_are, λ i. record { count = count i; at = at i; why = why i })
