use Rattle.std.proofs.Common.{◌∙◌, subst, refl, false}
use Rattle.std.specs.Option.{option_map}
use Rattle.std.specs.Str.{IsAscii}
use Rattle.wat_lex.proofs.values.NumberParts.{Plain, ascii_inherited, plain_inherited, point_inherits, power_inherits, each, point_texts, after_reference}
use Rattle.wat_lex.specs.values.NumberValues.{number_text, IsOptionalText}
use Rattle.wat_lex.proofs.lexer.read.numbers.decimals.Goals as goal

pub split_fraction-requires-clause-ascii : goal.split_fraction-requires-clause-ascii
split_fraction-requires-clause-ascii c = (ascii_inherited c.split_integral.result.0.now c.split_integral.result.1.now (subst IsAscii c.split_integral.ensures.cut c.requires.ascii)).1

pub number_text-requires-clause-ascii : goal.number_text-requires-clause-ascii
number_text-requires-clause-ascii c = (ascii_inherited c.split_integral.result.0.now c.split_integral.result.1.now (subst IsAscii c.split_integral.ensures.cut c.requires.ascii)).0

pub optional_text-requires-clause-ascii : goal.optional_text-requires-clause-ascii
optional_text-requires-clause-ascii c =
    let a = (ascii_inherited c.split_integral.result.0.now c.split_integral.result.1.now (subst IsAscii c.split_integral.ensures.cut c.requires.ascii)).1 in
    each IsAscii _ (point_inherits IsAscii ascii_inherited c.args.hex c.split_integral.result.1.now c.split_fraction.result.1.now _ c.split_fraction.ensures.point a).0

pub optional_text-requires-clause-plain : goal.optional_text-requires-clause-plain
optional_text-requires-clause-plain c = λ e.
    let a = (plain_inherited c.split_integral.result.0.now c.split_integral.result.1.now (subst Plain c.split_integral.ensures.cut (c.requires.plain e))).1 in
    each Plain _ (point_inherits Plain plain_inherited c.args.hex c.split_integral.result.1.now c.split_fraction.result.1.now _ c.split_fraction.ensures.point a).0

pub after_letter-requires : goal.after_letter-requires
after_letter-requires c =
    let a = (ascii_inherited c.split_integral.result.0.now c.split_integral.result.1.now (subst IsAscii c.split_integral.ensures.cut c.requires.ascii)).1 in
    record { ascii = (point_inherits IsAscii ascii_inherited c.args.hex c.split_integral.result.1.now c.split_fraction.result.1.now _ c.split_fraction.ensures.point a).1 }

pub optional_text-requires-2-clause-ascii : goal.optional_text-requires-2-clause-ascii
optional_text-requires-2-clause-ascii c =
    let a = (ascii_inherited c.split_integral.result.0.now c.split_integral.result.1.now (subst IsAscii c.split_integral.ensures.cut c.requires.ascii)).1 in
    let b = (point_inherits IsAscii ascii_inherited c.args.hex c.split_integral.result.1.now c.split_fraction.result.1.now _ c.split_fraction.ensures.point a).1 in
    each IsAscii _ (power_inherits IsAscii ascii_inherited c.args.hex c.split_fraction.result.1.now _ (c.after_letter.ensures c.args.hex c.split_fraction.ensures.rest) b)

pub optional_text-requires-2-clause-plain : goal.optional_text-requires-2-clause-plain
optional_text-requires-2-clause-plain c = λ e.
    let a = (plain_inherited c.split_integral.result.0.now c.split_integral.result.1.now (subst Plain c.split_integral.ensures.cut (c.requires.plain e))).1 in
    let b = (point_inherits Plain plain_inherited c.args.hex c.split_integral.result.1.now c.split_fraction.result.1.now _ c.split_fraction.ensures.point a).1 in
    each Plain _ (power_inherits Plain plain_inherited c.args.hex c.split_fraction.result.1.now _ (c.after_letter.ensures c.args.hex c.split_fraction.ensures.rest) b)

pub returns-clause-value : goal.returns-clause-value
returns-clause-value c =
    let point = c.split_fraction.ensures.point in
    let power = c.after_letter.ensures c.args.hex c.split_fraction.ensures.rest in
    let texts = after_reference (number_text false) c.split_fraction.result.0 ∙ point_texts c.args.hex c.split_integral.result.1.now c.split_fraction.result.1.now _ point in (
      refl,
      record {
        leading = c.split_integral.result.0.now;
        fraction = option_map (λ r. r.now) c.split_fraction.result.0;
        power = option_map (λ r. r.now) c.after_letter.result;
        parts = record { tail = c.split_integral.result.1.now; rest = c.split_fraction.result.1.now; cut = c.split_integral.ensures.cut; first = c.split_integral.ensures.integral; point = point; power = power };
        integral_is = c.in_ok-integral.ensures.value;
        fractional_is = subst (λ o. IsOptionalText c.args.underscores o c.in_ok-fractional.fractional) texts c.in_ok-fractional.ensures.value;
        exponent_is = subst (λ o. IsOptionalText c.args.underscores o c.in_ok-exponent.exponent) (after_reference (number_text false) c.after_letter.result) c.in_ok-exponent.ensures.value;
      },
    )
