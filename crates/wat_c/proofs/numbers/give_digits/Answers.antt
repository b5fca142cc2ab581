use Rattle.std.proofs.Common.{refl}
use Rattle.std.specs.Prelude.{◌==◌}
use Rattle.wat_c.specs.ByRow.{FindsOf}
use Rattle.wat_c.specs.Numbers.{signed_digits}
use Rattle.wat_c.specs.Readings.{IsInteger, ReadsInteger}
use Rattle.wat_c.specs.declared.answers.Refusal.TheVariants.{Other}
use Rattle.wat_c.proofs.Answering.{given, refused}
use Rattle.wat_c.proofs.RowTokens.{not_integer, integer_by_code}
use Rattle.wat_c.proofs.numbers.give_digits.Goals as goal

pub returns-then-row-ne-INTEGER-clause-found : goal.returns-then-row-ne-INTEGER-clause-found
returns-then-row-ne-INTEGER-clause-found c =
    refused (FindsOf IsInteger ReadsInteger c.args.text.now c.args.row) c.args.out.now Other c.answer.result
    (not_integer c.args.text.now c.args.row c.requires c.if-row-ne-INTEGER.true) c.answer.ensures

pub returns-clause-found : goal.returns-clause-found
returns-clause-found c =
    let digits = signed_digits (c.args.row.kind.sign == 2) c.digits.result.now in
    given (FindsOf IsInteger ReadsInteger c.args.text.now c.args.row) c.args.out.now c.give_signed.new.out digits digits c.give_signed.result
    ((_, integer_by_code c.args.row.kind c.if-row-ne-INTEGER.false), c.digits.ensures.read) refl c.give_signed.ensures.known c.give_signed.ensures.left
