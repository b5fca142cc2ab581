-- The rows from an offset are unique, and so are the offset at which they stop, and the reason.
use Rattle.std.proofs.Common.{◌≡◌, ◌⊎◌, ◌<◌, ◌≤◌, ◌+◌, ℕ, zero, suc, List, [], ◌∷◌, length, refl, ap, sym, ◌∙◌, subst, arith, inl, inr}
use Rattle.std.specs.Prelude.{Option, Some, None, Result, Ok, Err, map}
use Rattle.wat_lex.specs.tokens.EverySetting.{ScanResultIsUnique}
use Rattle.wat_lex.specs.tokens.Setting.{Setting}
use Rattle.wat_lex.specs.tokens.Tiling.{TokenAt, Tiling}
use Rattle.wat_lex.specs.tokens.UniqueTilings.{ResultAt}
use Rattle.wat_lex.specs.declared.lexer.faults.LexFault.{LexFault}
use Rattle.wat_lex.specs.declared.lexer.kinds.Token.{Token}
use Rattle.wat_c_records.specs.Rows.{Stops, Stops.ended, Stops.full, Stops.faulty, OneFill, token_row, fault_code}

-- The result of a scan.
abbrev pub Answered : Type 0
Answered = Result (Option Token) LexFault

abbrev pub token_is_at : Token → Answered
token_is_at t = Ok (Some t)

pub some_token : (t u : Token) → token_is_at t ≡ token_is_at u → t ≡ u
some_token t u e = ap (λ r. elim r [ Ok (Some x) ↦ x | Ok None ↦ t | Err f ↦ t ]) e

-- The end of the text, or a lexical error.
abbrev pub IsEnd : Answered → Type 0
IsEnd (Ok None) = Unit {0}
IsEnd (Ok (Some t)) = ⊥
IsEnd (Err f) = Unit {0}

abbrev pub code_of : Answered → ℕ
code_of (Ok found) = 0
code_of (Err f) = fault_code f.error

module _ (is_at : ScanResultIsUnique) (s : Setting) (room : ℕ) where
  -- Either the buffer is full; or it is not full, and the text ends or has a lexical error at the offset.
  abbrev Ending : ℕ → ℕ → ℕ → Type 0
  Ending at count why = ((count ≡ room) × (why ≡ 1)) ⊎ ((r : Answered) × (count < room) × IsEnd r × ResultAt s at r × (why ≡ code_of r))

  ending : (at count why : ℕ) → Stops s at room count why → Ending at count why
  ending at count zero (ended l e) = inr (Ok None, l, tt, e, refl)
  ending at count (suc zero) (full e) = inl (e, refl)
  ending at count _ (faulty f code l h e) = inr (Err f, l, tt, h, e)

  within : (at count why : ℕ) → Ending at count why → count ≤ room
  within at count why (inl x) = omega (arith, x.0)
  within at count why (inr y) = omega (arith, y.1)

  codes_one : (at count why other : ℕ) → Ending at count why → Ending at count other → why ≡ other
  codes_one at count why other (inl x) (inl y) = x.1 ∙ sym y.1
  codes_one at count why other (inl x) (inr y) = absurd (omega (arith, x.0, y.1))
  codes_one at count why other (inr x) (inl y) = absurd (omega (arith, x.1, y.0))
  codes_one at count why other (inr x) (inr y) = x.4 ∙ ap code_of (is_at s at x.0 y.0 x.3 y.3) ∙ sym y.4

  no_more : (at count why : ℕ) (t : Token) → TokenAt s at t → count < room → Ending at count why → ⊥
  no_more at count why t h l (inl x) = absurd (omega (arith, l, x.0))
  no_more at count why t h l (inr y) = subst IsEnd (is_at s at y.0 (Ok (Some t)) y.3 h) y.2

  tilings_one : (from at end seen why other : ℕ) (ts us : List Token) → Tiling s from at ts → Tiling s from end us
      → Ending at (seen + length ts) why → Ending end (seen + length us) other → (ts ≡ us) × (at ≡ end) × (why ≡ other)
  tilings_one from at end seen why other [] [] h g x y = let same : at ≡ end = sym h
      ∙ g in (refl, same, codes_one end (seen + 0) why other (subst (λ p. Ending p (seen + 0) why) same x) y)
  tilings_one from at end seen why other [] (u ∷ us) h g x y = absurd (no_more from (seen + 0) why u g.0 (omega (
    arith,
    within end (seen + length
        (u ∷ us)) other y,
  )) (subst (λ p. Ending p (seen + 0) why) (sym h) x))
  tilings_one from at end seen why other (t ∷ ts) [] h g x y = absurd (no_more from (seen + 0) other t h.0 (omega (
    arith,
    within at (seen + length
        (t ∷ ts)) why x,
  )) (subst (λ p. Ending p (seen + 0) other) (sym g) y))
  tilings_one from at end seen why other (t ∷ ts) (u ∷ us) h g x y =
      let k = some_token t u (is_at s from (Ok (Some t)) (Ok (Some u)) h.0 g.0) in
      let m : seen + length (t ∷ ts) ≡ seen + 1 + length ts = omega arith in
      let n : seen + length (u ∷ us) ≡ seen + 1 + length us = omega arith in
      let r = tilings_one (t.offset + t.len) at end (seen + 1) why other ts us h.1 (subst (λ (z : Token). Tiling s (z.offset + z.len) end us)
      (sym k) g.1)
      (subst (λ c. Ending at c why) m x) (subst (λ c. Ending end c other) n y) in
      let l = r.0 in
      let q : t ∷ ts ≡ u ∷ us = cc in
      (q, r.1, r.2)

  counted : (at count why : ℕ) (ts : List Token) → count ≡ length ts → Stops s at room count why → Ending at (0 + length ts) why
  counted at count why ts e h = let n : count ≡ 0 + length ts = omega (arith, e) in subst (λ c. Ending at c why) n (ending at count why h)

  pub one_fill : (from : ℕ) → OneFill s from room
  unfolding OneFill
  one_fill from rows others filled other h k =
      let same = tilings_one from filled.at other.at 0 filled.why other.why h.tokens k.tokens h.tiling k.tiling
      (counted filled.at filled.count filled.why h.tokens h.count h.stops) (counted other.at other.count other.why k.tokens k.count k.stops) in
      let count = h.count ∙ ap length same.0 ∙ sym k.count in
      let at = same.1 in
      let why = same.2 in
      (h.rows_are ∙ ap (map token_row) same.0 ∙ sym k.rows_are, λ i. record { count = count i; at = at i; why = why i })
