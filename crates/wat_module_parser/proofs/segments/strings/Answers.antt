use Rattle.std.proofs.Common.{Ok, ap}
use Rattle.wat_module_tokens.specs.TokenCursor.{terminals_of}
use Rattle.wat_module_parser.proofs.SegmentKinds.{strings_read}
use Rattle.wat_module_ast.specs.Fields as fields
use Rattle.wat_module_parser.specs.Reading as reading
use Rattle.wat_module_ast.specs.Views.{together}
use Rattle.wat_module_parser.proofs.Manies.{leads_on, leads_out, leads_from, faulted, smaller}
use Rattle.wat_module_parser.proofs.segments.strings.Goals as goal

pub strings-smaller : goal.strings-smaller
strings-smaller c = let item = rw (c.in-Ok-Some.field-0-is) at c.in-Ok-Some.ensures in smaller (reading.string_item) fields.StringIs strings_read (terminals_of c.strings.left) (terminals_of c.in-Ok-Some.next) item.values item.is

pub strings-preserved : goal.strings-preserved
strings-preserved c =
    let item = rw (c.in-Ok-Some.field-0-is) at c.in-Ok-Some.ensures in
    λ q h. c.strings.invariant q (leads_on (reading.string_item) (together c.strings.found.items) (together c.next_string.new.found.items) item.values (terminals_of c.strings.left) (terminals_of c.in-Ok-Some.next) q item.is item.follow (smaller (reading.string_item) fields.StringIs strings_read (terminals_of c.strings.left) (terminals_of c.in-Ok-Some.next) item.values item.is) h)

pub returns-in-Ok-None : goal.returns-in-Ok-None
returns-in-Ok-None c =
    let none = rw (c.in-Ok-None.field-0-is) at c.in-Ok-None.ensures in
    leads_from (reading.string_item) (together c.new-found.result.items) (terminals_of c.args.cursor) _ (ap together c.new-found.ensures.items)
    (c.strings.invariant (Ok (together c.next_string.new.found.items, terminals_of c.strings.left)) (leads_out (reading.string_item) (together c.strings.found.items) (together c.next_string.new.found.items) (terminals_of c.strings.left) none.0 none.1))

pub returns-in-Err : goal.returns-in-Err
returns-in-Err c =
    faulted (reading.string_item) (together c.new-found.result.items) (together c.strings.found.items) (terminals_of c.args.cursor) (terminals_of c.strings.left) c.in-Err.refusal (ap together c.new-found.ensures.items) c.strings.invariant c.in-Err.ensures
