-- Digits without their underscores, a digit at a time.
use Rattle.std.proofs.Common.{◌≡◌, ◌≢◌, ◌<◌, ◌+◌, ℕ, List, ◌∷◌, length, drop, get_or, ap, ◌∙◌, cond, not}
use Rattle.std.proofs.lemmas.Bool.{ne_eqb, eq-eqb}
use Rattle.std.proofs.lemmas.List.{drop_more}
use Rattle.wat_lex.specs.values.NumberValues.{joined}

pub joined_at : (ds : List ℕ) (i : ℕ) → i < length ds → get_or ds i 0 ≢ 95 → joined (drop i ds) ≡ get_or ds i 0 ∷ joined (drop (i + 1) ds)
joined_at ds i l n =
    let c = get_or ds i 0 in
    let t = drop (i + 1) ds in
    ap joined (drop_more ds i 0 l) ∙ ap (λ b. cond (not b) (c ∷ joined t) (joined t)) (ne_eqb c 95 n)

pub joined_over : (ds : List ℕ) (i : ℕ) → i < length ds → get_or ds i 0 ≡ 95 → joined (drop i ds) ≡ joined (drop (i + 1) ds)
joined_over ds i l e =
    let c = get_or ds i 0 in
    let t = drop (i + 1) ds in
    ap joined (drop_more ds i 0 l) ∙ ap (λ b. cond (not b) (c ∷ joined t) (joined t)) (eq-eqb c 95 e)
