-- Which names are registered that are between ends.
use Rattle.std.proofs.Common.{◌≡◌, ℕ, ◌+◌, ◌-◌, List, ◌∷◌, Bool, true, false, cond, refl, sym, ap, ◌∙◌, arith, length, take, drop, Some}
use Rattle.std.specs.Prelude.{Option, nat_lt, nat_le, ◌&&◌, if◌then◌else◌}
use Rattle.std.specs.Option.{unwrap_or}
use Rattle.std.specs.Str.{bytes_eq}
use Rattle.std.specs.FinMap as finmap
use Rattle.std.specs.FinMap.{get-empty, get-insert}
use Rattle.std.specs.Cmp.Lexicographic.{slice_cmp, nat_list_cmp_total}
use Rattle.std.specs.Cmp.{eq_by_cmp_equiv}
use Rattle.std.specs.Ordering.{nat_cmp, eq_by_cmp}
use Rattle.std.proofs.lemmas.Bool.{lt-ltb}
use Rattle.std.proofs.lemmas.Map.Text.{is_eq-slice_cmp}
use Rattle.wat_lexer_parser.specs.names.RegisteredNames.{Names, count, is_registered, more, no_names}
use Rattle.wat_c_records.specs.Looks.{names_between, registered}
use Rattle.wat_c_records.specs.inside.Naming.{is_between}

same_text : (x y : List ℕ) → bytes_eq y x ≡ eq_by_cmp (slice_cmp nat_cmp) x y
same_text x y = sym (is_eq-slice_cmp y x) ∙ (eq_by_cmp_equiv nat_list_cmp_total).symm y x

counted : (b : Bool) (c : ℕ) (o : Option ℕ) → nat_lt 0 (unwrap_or (cond b (Some (c + 1)) o) 0) ≡ cond b true (nat_lt 0 (unwrap_or o 0))
counted true c o = lt-ltb 0 (c + 1) (omega arith)
counted false c o = refl

-- a name more
pub registered_more : (m : Names) (x y : List ℕ) → is_registered (more m x) y ≡ cond (bytes_eq x y) true (is_registered m y)
registered_more m x y =
    ap (λ o. nat_lt 0 (unwrap_or o 0)) (get-insert nat_list_cmp_total m x (count m x + 1) y)
    ∙ counted (eq_by_cmp (slice_cmp nat_cmp) y x) (count m x) (finmap.get m y)
    ∙ ap (λ b. cond b true (is_registered m y)) (sym (same_text y x))

pub registered_none : (y : List ℕ) → is_registered no_names y ≡ false
registered_none y = ap (λ o. nat_lt 0 (unwrap_or o 0)) (get-empty (slice_cmp nat_cmp) y)

-- an end more
between_more : (bytes ends : List ℕ) (start end : ℕ) (y : List ℕ) (b : Bool)
    → is_registered (registered (if b then take (end - start) (drop start bytes) ∷ names_between end bytes ends else names_between end bytes ends)) y
    ≡ cond (b && bytes_eq (take (end - start) (drop start bytes)) y) true (is_registered (registered (names_between end bytes ends)) y)
between_more bytes ends start end y true = registered_more (registered (names_between end bytes ends)) (take (end - start) (drop start bytes)) y
between_more bytes ends start end y false = refl

pub between_front : (bytes ends : List ℕ) (start end : ℕ) (y : List ℕ)
    → is_registered (registered (names_between start bytes (end ∷ ends))) y ≡ cond (is_between bytes start end y) true (is_registered (registered
    (names_between end bytes ends)) y)
between_front bytes ends start end y = between_more bytes ends start end y (nat_le start end && nat_le end (length bytes))

module _ (bytes ends rest : List ℕ) (start end : ℕ) (y : List ℕ) (front : rest ≡ end ∷ ends) where
  pub between_here : is_between bytes start end y ≡ true → is_registered (registered (names_between start bytes rest)) y ≡ true
  between_here e = ap (λ r. is_registered (registered (names_between start bytes r)) y) front ∙ between_front bytes ends start end y
      ∙ ap (λ b. cond b true (is_registered (registered (names_between end bytes ends)) y)) e

  pub between_later : is_between bytes start end y ≡ false → is_registered (registered (names_between start bytes rest)) y ≡ is_registered
      (registered (names_between end bytes ends)) y
  between_later e = ap (λ r. is_registered (registered (names_between start bytes r)) y) front ∙ between_front bytes ends start end y
      ∙ ap (λ b. cond b true (is_registered (registered (names_between end bytes ends)) y)) e
