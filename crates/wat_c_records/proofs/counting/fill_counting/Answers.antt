use Rattle.std.proofs.Common.{◌≡◌, ◌<◌, ap, subst, sym, ◌∙◌, true, false, arith, length, take}
use Rattle.wat_lex.specs.tokens.Setting.{Setting}
use Rattle.wat_lex.specs.tokens.Blanks.{is_blank}
use Rattle.std.specs.Str.{IsCharBoundary}
use Rattle.wat_c_records.specs.Counting.{FillsCounting, row_of, StopsCounting.full, StopsCounting.ended, StopsCounting.faulty}
use Rattle.wat_c_records.proofs.Counted.{counted_start, counted_more, counted_blank, counted_fills}
use Rattle.wat_c_records.proofs.counting.fill_counting.Goals as goal

pub rows-init : goal.rows-init
rows-init c =
    let boundary : IsCharBoundary c.with_settings-lexer.result.text c.args.pos = subst (λ (s : Setting). IsCharBoundary s.text c.args.pos)
    (sym c.with_settings-lexer.ensures.setting) c.requires.boundary in
    counted_start c.with_settings-lexer.result c.args.pos c.args.out.now boundary

pub rows-preserved-then-is_blank : goal.rows-preserved-then-is_blank
rows-preserved-then-is_blank c =
    let token = rw c.in-Ok-Some.field-0-is at c.in-Ok-Some.ensures.token in
    let boundary = rw c.in-Ok-Some.field-0-is at c.in-Ok-Some.ensures.boundary in
    let blank : is_blank c.in-Ok-Some.token.kind ≡ true = sym c.is_blank.ensures ∙ c.if-is_blank.true in
    counted_blank c.with_settings-lexer.result c.args.pos c.rows.at c.args.out.now c.rows.out c.rows.count c.in-Ok-Some.token c.rows.invariant
    c.rows-test.true token boundary blank

pub rows-preserved : goal.rows-preserved
rows-preserved c =
    let token = rw c.in-Ok-Some.field-0-is at c.in-Ok-Some.ensures.token in
    let boundary = rw c.in-Ok-Some.field-0-is at c.in-Ok-Some.ensures.boundary in
    let counts : is_blank c.in-Ok-Some.token.kind ≡ false = sym c.is_blank.ensures ∙ c.if-is_blank.false in
    counted_more c.with_settings-lexer.result c.args.pos c.rows.at c.args.out.now c.rows.out c.rows.count c.in-Ok-Some.token c.row_of.result
    c.rows.invariant c.rows-test.true token boundary
    (c.row_of.ensures ∙ ap (λ (s : Setting). row_of s.text 0 c.in-Ok-Some.token) (sym c.with_settings-lexer.ensures.setting)) counts

pub returns-in-Ok-None-clause-rows : goal.returns-in-Ok-None-clause-rows
returns-in-Ok-None-clause-rows c =
    let end = rw c.in-Ok-None.field-0-is at c.in-Ok-None.ensures.end in
    let fits : c.rows.count < length c.args.out.now = omega (arith, c.rows-test.true, c.rows.auto.out) in
    subst (λ (s : Setting). FillsCounting s c.args.pos (length c.args.out.now) (take c.rows.count c.rows.out)
    (record { count = c.rows.count; at = c.rows.at; why = 0 })) c.with_settings-lexer.ensures.setting
    (counted_fills c.with_settings-lexer.result c.args.pos c.rows.at (length c.args.out.now) c.args.out.now c.rows.out c.rows.count 0 c.rows.invariant
    (ended fits end))

pub returns-in-Err-clause-rows : goal.returns-in-Err-clause-rows
returns-in-Err-clause-rows c =
    let fits : c.rows.count < length c.args.out.now = omega (arith, c.rows-test.true, c.rows.auto.out) in
    subst (λ (s : Setting). FillsCounting s c.args.pos (length c.args.out.now) (take c.rows.count c.rows.out)
    (record { count = c.rows.count; at = c.rows.at; why = c.fault_code-why.result })) c.with_settings-lexer.ensures.setting
    (counted_fills c.with_settings-lexer.result c.args.pos c.rows.at
    (length c.args.out.now) c.args.out.now c.rows.out c.rows.count c.fault_code-why.result c.rows.invariant
    (faulty c.in-Err.fault c.fault_code-why.result fits c.in-Err.ensures.fault c.fault_code-why.ensures))

pub returns-clause-rows : goal.returns-clause-rows
returns-clause-rows c =
    let all : c.rows.count ≡ length c.args.out.now = omega (arith, c.rows-test.false, c.rows.invariant.bound, c.rows.auto.out) in
    let room : c.rows.count ≡ length c.rows.out = omega (arith, c.rows-test.false, c.rows.invariant.bound) in
    subst (λ (s : Setting). FillsCounting s c.args.pos (length c.args.out.now) (take c.rows.count c.rows.out)
    (record { count = c.rows.count; at = c.rows.at; why = 1 })) c.with_settings-lexer.ensures.setting
    (counted_fills c.with_settings-lexer.result c.args.pos c.rows.at (length c.args.out.now) c.args.out.now c.rows.out c.rows.count 1 c.rows.invariant
    (full all (c.rows.invariant.last room)))
