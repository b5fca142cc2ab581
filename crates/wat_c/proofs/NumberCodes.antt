-- The codes of number tokens.
use Rattle.std.proofs.Common.{◌≡◌, ◌≤◌, false, ap, arith, inl, inr}
use Rattle.std.specs.Prelude.{◌==◌}
use Rattle.std.proofs.lemmas.Bool.{cases_Bool, eqb-true}
use Rattle.std.proofs.lemmas.Bool.Decides.{nat_tests}
use Rattle.wat_c_records.specs.declared.rows.KindRow.{KindRow}
use Rattle.wat_c.specs.ByRow.{kind_of, kind_known}
use Rattle.wat_c.specs.FloatBits.{IsNumber}
use Rattle.wat_c.proofs.RowTokens.{integer_by_code}

-- The codes from 11 to 15 are those of numbers.
pub number_by_code : (k : KindRow) → 11 ≤ k.code → k.code ≤ 15 → IsNumber (kind_of k)
number_by_code k a b = elim (cases_Bool (k.code == 11)) [
  | inl e ↦ inl (_, integer_by_code k (eqb-true k.code 11 e))
  | inr n11 ↦ elim (cases_Bool (k.code == 12)) [
    | inl e ↦ inr (_, ap (λ c. kind_known c k.sign k.has_underscores k.hex) (eqb-true k.code 12 e))
    | inr n12 ↦ elim (cases_Bool (k.code == 13)) [
      | inl e ↦ inr (_, ap (λ c. kind_known c k.sign k.has_underscores k.hex) (eqb-true k.code 13 e))
      | inr n13 ↦ elim (cases_Bool (k.code == 14)) [
        | inl e ↦ inr (_, ap (λ c. kind_known c k.sign k.has_underscores k.hex) (eqb-true k.code 14 e))
        | inr n14 ↦ inr (_, ap (λ c. kind_known c k.sign k.has_underscores k.hex) (last n11 n12 n13 n14))
      ]
    ]
  ]
]
  where
    last : (k.code == 11) ≡ false → (k.code == 12) ≡ false → (k.code == 13) ≡ false → (k.code == 14) ≡ false → k.code ≡ 15
    last c d e f = grind (arith, nat_tests)
