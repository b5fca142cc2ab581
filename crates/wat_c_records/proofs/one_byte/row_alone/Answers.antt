use Rattle.std.proofs.Common.{◌≡◌, ◌==◌, ◌+◌, ◌∙◌, ap, get_or, refl, true}
use Rattle.std.proofs.lemmas.Bool.{agree_below_at, eqb-true}
use Rattle.wat_lex.specs.values.KindNumbers.{kind_number}
use Rattle.wat_c_records.specs.Rows.{plain}
use Rattle.wat_c_records.specs.inside.OneByte.{kind_alone}
use Rattle.wat_c_records.specs.declared.rows.KindRow.{KindRow}
use Rattle.wat_c_records.specs.declared.one_byte.TheConstants.{BYTES}
use Rattle.wat_c_records.proofs.OneByte.{row_by_code}
use Rattle.wat_c_records.proofs.one_byte.row_alone.Goals as goal

pub returns : goal.returns
returns c =
    let code : get_or BYTES (512 + c.args.byte) 0 ≡ kind_number (kind_alone c.args.byte) = eqb-true (get_or BYTES (512 + c.args.byte) 0)
    (kind_number (kind_alone c.args.byte))
    (agree_below_at (λ b. get_or BYTES (512 + b) 0 == kind_number (kind_alone b)) (λ _. true) 256 c.args.byte refl c.ranges.byte.fits) in
    ap (λ (r : KindRow). record { offset = c.args.at; len = 1; kind = r }) (c.plain.ensures ∙ ap plain code) ∙ row_by_code c.args.byte c.args.at
