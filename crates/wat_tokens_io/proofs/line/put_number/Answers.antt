use Rattle.std.proofs.Common.{◌+◌, ◌-◌, ◌++◌, ◌∙◌, ap, arith, length, sym, take}
use Rattle.std.proofs.lemmas.Fmt.{decimal_digit}
use Rattle.std.proofs.lemmas.List.{take_more_set}
use Rattle.wat_tokens_io.proofs.Decimals.{decimal_below_100}
use Rattle.wat_tokens_io.proofs.LineLaws.{digits_alone, over_piece}
use Rattle.wat_tokens_io.proofs.line.put_number.Goals as goal

pub returns-then-number-lt10-clause-put : goal.returns-then-number-lt10-clause-put
returns-then-number-lt10-clause-put c =
    let wide = c.requires.wide in
    take_more_set c.args.room.now c.args.at (48 + c.args.number) (omega (arith, wide)) ∙ ap (λ x. take c.args.at c.args.room.now ++ x) (sym (decimal_digit c.args.number c.if-number-lt10.true))

pub returns-then-number-lt100-clause-put : goal.returns-then-number-lt100-clause-put
returns-then-number-lt100-clause-put c =
    let wide = c.requires.wide in
    over_piece c.args.at 2 c.args.room.now c.copy_from_slice.new.self c.two_digits.result _ (omega (arith, wide)) (omega (arith, ap length c.two_digits.ensures)) c.copy_from_slice.ensures.after
    ∙ ap (λ x. take c.args.at c.args.room.now ++ take 2 x) c.two_digits.ensures ∙ ap (λ x. take c.args.at c.args.room.now ++ x) (sym (decimal_below_100 c.args.number c.if-number-lt10.false c.if-number-lt100.true))

pub returns-clause-put : goal.returns-clause-put
returns-clause-put c =
    let front = take c.args.at c.args.room.now in
    c.put_in.ensures.put ∙ ap (λ x. front ++ take (length x - 16) x) c.digits_of.ensures ∙ ap (λ x. front ++ x) (digits_alone c.args.number)
