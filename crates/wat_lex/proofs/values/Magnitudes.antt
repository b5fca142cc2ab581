-- The number that digits write, underscores apart, a digit at a time.
use Rattle.std.proofs.Common.{◌≡◌, ◌≢◌, ◌<◌, ◌≤◌, ◌+◌, ◌*◌, ◌^◌, ℕ, List, [], ◌∷◌, length, drop, get_or, refl, ap, sym, ◌∙◌, arith, Bool, true, false, cond, not}
use Rattle.std.specs.Char.{digit_value}
use Rattle.std.specs.Str.Parse.{digits_value_after}
use Rattle.std.proofs.lemmas.Bool.{ne_eqb, eq-eqb}
use Rattle.std.proofs.lemmas.List.{drop_more, drop_all}
use Rattle.wat_lex.specs.values.NumberValues.{base, joined}

pub joined_at : (ds : List ℕ) (i : ℕ) → i < length ds → get_or ds i 0 ≢ 95 → joined (drop i ds) ≡ get_or ds i 0 ∷ joined (drop (i + 1) ds)
joined_at ds i l n =
    let c = get_or ds i 0 in
    let t = drop (i + 1) ds in
    ap joined (drop_more ds i 0 l) ∙ ap (λ b. cond (not b) (c ∷ joined t) (joined t)) (ne_eqb c 95 n)

pub joined_over : (ds : List ℕ) (i : ℕ) → i < length ds → get_or ds i 0 ≡ 95 → joined (drop i ds) ≡ joined (drop (i + 1) ds)
joined_over ds i l e =
    let c = get_or ds i 0 in
    let t = drop (i + 1) ds in
    ap joined (drop_more ds i 0 l) ∙ ap (λ b. cond (not b) (c ∷ joined t) (joined t)) (eq-eqb c 95 e)

-- The value of all digits is at least that of the first of them.
grows : (hex : Bool) (n : ℕ) (cs : List ℕ) → n ≤ digits_value_after (base hex) n cs
grows hex n [] = omega arith
grows true n (c ∷ cs) = omega (arith, grows true (n * 16 + digit_value c) cs)
grows false n (c ∷ cs) = omega (arith, grows false (n * 10 + digit_value c) cs)

pub next_digit : (hex : Bool) (b value next total : ℕ) (ds : List ℕ) (i : ℕ) → b ≡ base hex → i < length ds → get_or ds i 0 ≢ 95 → next ≡ value * b + digit_value (get_or ds i 0)
    → digits_value_after (base hex) value (joined (drop i ds)) ≡ total → digits_value_after (base hex) next (joined (drop (i + 1) ds)) ≡ total
next_digit hex b value next total ds i e l n m h =
    ap (λ x. digits_value_after (base hex) x (joined (drop (i + 1) ds))) (m ∙ ap (λ x. value * x + digit_value (get_or ds i 0)) e)
    ∙ sym (ap (digits_value_after (base hex) value) (joined_at ds i l n)) ∙ h

pub too_many : (hex : Bool) (b value total : ℕ) (ds : List ℕ) (i : ℕ) → b ≡ base hex → i < length ds → get_or ds i 0 ≢ 95 → 2 ^ 64 ≤ value * b + digit_value (get_or ds i 0)
    → digits_value_after (base hex) value (joined (drop i ds)) ≡ total → 2 ^ 64 ≤ total
too_many hex b value total ds i e l n m h =
    let next = value * b + digit_value (get_or ds i 0) in
    let k = next_digit hex b value next total ds i e l n refl h in
    omega (arith, m, grows hex next (joined (drop (i + 1) ds)), k)

pub no_digit : (hex : Bool) (value total : ℕ) (ds : List ℕ) (i : ℕ) → i < length ds → get_or ds i 0 ≡ 95
    → digits_value_after (base hex) value (joined (drop i ds)) ≡ total → digits_value_after (base hex) value (joined (drop (i + 1) ds)) ≡ total
no_digit hex value total ds i l e h = sym (ap (digits_value_after (base hex) value) (joined_over ds i l e)) ∙ h

pub all_digits : (hex : Bool) (value total : ℕ) (ds : List ℕ) (i : ℕ) → length ds ≤ i → digits_value_after (base hex) value (joined (drop i ds)) ≡ total → value ≡ total
all_digits hex value total ds i l h = sym (ap (λ x. digits_value_after (base hex) value (joined x)) (drop_all i ds l)) ∙ h
