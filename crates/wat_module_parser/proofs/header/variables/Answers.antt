use Rattle.std.proofs.Common.{Ok}
use Rattle.wat_module_tokens.specs.TokenCursor.{terminals_of}
use Rattle.wat_module_parser.proofs.Items.{groups_read}
use Rattle.wat_module_ast.specs.Fields as fields
use Rattle.wat_module_parser.specs.Reading as reading
use Rattle.wat_module_parser.proofs.Manies.{leads_on, leads_out, leads_from, faulted, smaller}
use Rattle.wat_module_parser.proofs.header.variables.Goals as goal

pub groups-smaller : goal.groups-smaller
groups-smaller c = let item = rw (c.in-Ok-Some.field-0-is) at c.in-Ok-Some.ensures in smaller (reading.group_item c.args.word.now c.args.may_have_name) (fields.Group c.args.word.now c.args.may_have_name) (groups_read c.args.word.now c.args.may_have_name) (terminals_of c.groups.left) (terminals_of c.in-Ok-Some.next) item.values item.is

pub groups-preserved : goal.groups-preserved
groups-preserved c =
    let item = rw (c.in-Ok-Some.field-0-is) at c.in-Ok-Some.ensures in
    λ q h. c.groups.invariant q (leads_on (reading.group_item c.args.word.now c.args.may_have_name) c.groups.found c.next_group.new.found item.values (terminals_of c.groups.left) (terminals_of c.in-Ok-Some.next) q item.is item.follow (smaller (reading.group_item c.args.word.now c.args.may_have_name) (fields.Group c.args.word.now c.args.may_have_name) (groups_read c.args.word.now c.args.may_have_name) (terminals_of c.groups.left) (terminals_of c.in-Ok-Some.next) item.values item.is) h)

pub returns-in-Ok-None : goal.returns-in-Ok-None
returns-in-Ok-None c =
    let none = rw (c.in-Ok-None.field-0-is) at c.in-Ok-None.ensures in
    leads_from (reading.group_item c.args.word.now c.args.may_have_name) c.none-found.result (terminals_of c.args.cursor) _ c.none-found.ensures
    (c.groups.invariant (Ok (c.next_group.new.found, terminals_of c.groups.left)) (leads_out (reading.group_item c.args.word.now c.args.may_have_name) c.groups.found c.next_group.new.found (terminals_of c.groups.left) none.0 none.1))

pub returns-in-Err : goal.returns-in-Err
returns-in-Err c =
    faulted (reading.group_item c.args.word.now c.args.may_have_name) c.none-found.result c.groups.found (terminals_of c.args.cursor) (terminals_of c.groups.left) c.in-Err.refusal c.none-found.ensures c.groups.invariant c.in-Err.ensures
