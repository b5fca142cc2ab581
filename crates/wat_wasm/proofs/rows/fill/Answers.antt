use Rattle.std.proofs.Common.{◌<◌, ◌+◌, length, slice_set, arith, sym, subst}
use Rattle.wat_wasm.proofs.Filling.{Filling, filling_none, filling_more}
use Rattle.wat_wasm.proofs.rows.fill.Goals as goal

pub tokens-init : goal.tokens-init
tokens-init c = filling_none c.args.lexer.now c.args.rows.now c.input.ensures.utf8

pub tokens-preserved : goal.tokens-preserved
tokens-preserved c =
    let token = rw c.in-Ok-Some.field-0-is at c.in-Ok-Some.ensures.answer in
    let boundary = rw c.in-Ok-Some.field-0-is at c.in-Ok-Some.ensures.boundary in
    let room : c.tokens.count < length c.tokens.rows = omega (arith, c.tokens.invariant.fits, c.tokens.auto.rows, c.if-count-rows.false) in
    subst (λ r. Filling c.args.lexer.now c.args.rows.now (slice_set c.tokens.rows c.tokens.count r) (c.tokens.count + 1) (c.in-Ok-Some.token.offset + c.in-Ok-Some.token.len)) (sym c.row_of.ensures)
    (filling_more c.args.lexer.now c.args.rows.now c.tokens.rows c.tokens.count c.tokens.pos c.in-Ok-Some.token c.tokens.invariant token room boundary)
