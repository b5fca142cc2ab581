use Rattle.std.proofs.Common.{map, take, subst, ◌≤◌, arith}
use Rattle.wat_module_ast.specs.Views.{field_of}
use Rattle.wat_valid.specs.declared.module.Reason.TheVariants as reason
use Rattle.wat_valid.specs.ContextViews.{context_of}
use Rattle.std.specs.List.{flat_map}
use Rattle.wat_valid.specs.Modules.{export_names}
use Rattle.wat_valid.proofs.FirstViolations.{first, repeated, too_many, violated}
use Rattle.wat_valid.proofs.module.check_headers.Goals as goal

pub returns-in-Err : goal.returns-in-Err
returns-in-Err c =
    let C = context_of c.args.context.now in
    let before = map field_of (take c.loop-i.i c.args.fields.now) in
    let is = c.loop-i.invariant in
    first C c.args.fields.now c.index-fields-i.result _ c.loop-i.i c.in-Err.reason c.loop-i-test.true c.index-fields-i.is is.fields (subst (λ n. n ≤ 1) is.memories is.few) is.distinct (violated C before (field_of c.index-fields-i.result) c.in-Err.reason c.in-Err.ensures)

pub returns-then-memories-gt1 : goal.returns-then-memories-gt1
returns-then-memories-gt1 c =
    let C = context_of c.args.context.now in
    let before = map field_of (take c.loop-i.i c.args.fields.now) in
    let is = c.loop-i.invariant in
    first C c.args.fields.now c.index-fields-i.result _ c.loop-i.i reason.SecondMemory c.loop-i-test.true c.index-fields-i.is is.fields (subst (λ n. n ≤ 1) is.memories is.few) is.distinct (too_many C before (field_of c.index-fields-i.result) c.loop-i.memories c.memory_count.result c.in_default.ensures is.memories c.memory_count.ensures.is c.if-memories-gt1.true)

pub returns-then-not-branch : goal.returns-then-not-branch
returns-then-not-branch c =
    let C = context_of c.args.context.now in
    let before = map field_of (take c.loop-i.i c.args.fields.now) in
    let is = c.loop-i.invariant in
    let adds = c.in_ok-add_exports.ensures (flat_map export_names before) is.names is.distinct in
    first C c.args.fields.now c.index-fields-i.result _ c.loop-i.i reason.DuplicateExport c.loop-i-test.true c.index-fields-i.is is.fields (subst (λ n. n ≤ 1) is.memories is.few) is.distinct (repeated C before (field_of c.index-fields-i.result) c.loop-i.memories c.memory_count.result c.in_ok-add_exports.field-0 c.in_default.ensures is.memories c.memory_count.ensures.is (omega (arith, c.if-memories-gt1.false)) adds.distinct c.if-not-branch.true)
