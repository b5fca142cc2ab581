use Rattle.std.proofs.Common.{◌≡◌, ◌<◌, ◌+◌, subst, sym, arith, length, take}
use Rattle.std.specs.Str.{IsCharBoundary}
use Rattle.wat_lex.specs.tokens.Setting.{Setting}
use Rattle.wat_lex.specs.tokens.Tiling.{TokenAt}
use Rattle.wat_lex.specs.declared.lexer.kinds.Token.{Token}
use Rattle.wat_c_records.specs.inside.OneByte.{token_alone}
use Rattle.wat_c_records.specs.Rows.{Fills, Stops.full, Stops.ended, Stops.faulty}
use Rattle.wat_c_records.proofs.Filling.{listed_more, listed_fills}
use Rattle.wat_c_records.proofs.fill.fill.Goals as goal

pub rows-preserved : goal.rows-preserved
rows-preserved c =
    let token = rw c.in-Ok-Some.field-0-is at c.in-Ok-Some.ensures.token in
    let boundary = rw c.in-Ok-Some.field-0-is at c.in-Ok-Some.ensures.boundary in
    listed_more c.with_settings-lexer.result c.args.pos c.rows.at c.args.out.now c.rows.out c.rows.count c.in-Ok-Some.token c.token_row.result
    c.rows.invariant c.rows-test.true token boundary c.token_row.ensures

pub rows-preserved-in-Some : goal.rows-preserved-in-Some
rows-preserved-in-Some c =
    let s = c.with_settings-lexer.result in
    let row = c.in-Some.ensures in
    let alone = row.is_at in
    let t : Token = token_alone row.byte c.rows.at in
    let same = sym c.with_settings-lexer.ensures.setting in
    let token : TokenAt s c.rows.at t = subst (λ (x : Setting). TokenAt x c.rows.at t) same (alone.token c.args.settings) in
    let after : IsCharBoundary s.text (c.rows.at + 1) = subst (λ (x : Setting). IsCharBoundary x.text (c.rows.at + 1)) same alone.after in
    listed_more s c.args.pos c.rows.at c.args.out.now c.rows.out c.rows.count t c.in-Some.row c.rows.invariant c.rows-test.true token after
    row.known

pub returns-in-Ok-None-clause-rows : goal.returns-in-Ok-None-clause-rows
returns-in-Ok-None-clause-rows c =
    let end = rw c.in-Ok-None.field-0-is at c.in-Ok-None.ensures.end in
    let fits : c.rows.count < length c.args.out.now = omega (arith, c.rows-test.true, c.rows.auto.out) in
    subst (λ (s : Setting). Fills s c.args.pos (length c.args.out.now) (take c.rows.count c.rows.out)
    (record { count = c.rows.count; at = c.rows.at; why = 0 })) c.with_settings-lexer.ensures.setting
    (listed_fills c.with_settings-lexer.result c.args.pos c.rows.at (length c.args.out.now) c.args.out.now c.rows.out c.rows.count 0 c.rows.invariant
    (ended fits end))

pub returns-in-Err-clause-rows : goal.returns-in-Err-clause-rows
returns-in-Err-clause-rows c =
    let fits : c.rows.count < length c.args.out.now = omega (arith, c.rows-test.true, c.rows.auto.out) in
    subst (λ (s : Setting). Fills s c.args.pos (length c.args.out.now) (take c.rows.count c.rows.out)
    (record { count = c.rows.count; at = c.rows.at; why = c.fault_code-why.result })) c.with_settings-lexer.ensures.setting
    (listed_fills c.with_settings-lexer.result c.args.pos c.rows.at
    (length c.args.out.now) c.args.out.now c.rows.out c.rows.count c.fault_code-why.result c.rows.invariant
    (faulty c.in-Err.fault c.fault_code-why.result fits c.in-Err.ensures.fault c.fault_code-why.ensures))

pub returns-clause-rows : goal.returns-clause-rows
returns-clause-rows c =
    let all : c.rows.count ≡ length c.args.out.now = omega (arith, c.rows-test.false, c.rows.invariant.bound, c.rows.auto.out) in
    subst (λ (s : Setting). Fills s c.args.pos (length c.args.out.now) (take c.rows.count c.rows.out)
    (record { count = c.rows.count; at = c.rows.at; why = 1 })) c.with_settings-lexer.ensures.setting
    (listed_fills c.with_settings-lexer.result c.args.pos c.rows.at (length c.args.out.now) c.args.out.now c.rows.out c.rows.count 1 c.rows.invariant
    (full all))
