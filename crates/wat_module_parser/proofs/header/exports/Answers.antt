use Rattle.std.proofs.Common.{ap, map, Ok}
use Rattle.wat_module_tokens.specs.TokenCursor.{terminals_of}
use Rattle.wat_module_ast.specs.Views.{text_of}
use Rattle.wat_module_parser.proofs.Items.{exports_read}
use Rattle.wat_module_ast.specs.Fields as fields
use Rattle.wat_module_parser.specs.Reading as reading
use Rattle.wat_module_parser.proofs.Manies.{leads_on, leads_out, leads_from, faulted, smaller}
use Rattle.wat_module_parser.proofs.header.exports.Goals as goal

pub exports-smaller : goal.exports-smaller
exports-smaller c = let item = rw (c.in-Ok-Some.field-0-is) at c.in-Ok-Some.ensures in smaller (reading.export_item) fields.InlineExport exports_read (terminals_of c.exports.left) (terminals_of c.in-Ok-Some.next) item.values item.is

pub exports-preserved : goal.exports-preserved
exports-preserved c =
    let item = rw (c.in-Ok-Some.field-0-is) at c.in-Ok-Some.ensures in
    λ q h. c.exports.invariant q (leads_on (reading.export_item) (map text_of c.exports.found.items) (map text_of c.next_export.new.found.items) item.values (terminals_of c.exports.left) (terminals_of c.in-Ok-Some.next) q item.is item.follow (smaller (reading.export_item) fields.InlineExport exports_read (terminals_of c.exports.left) (terminals_of c.in-Ok-Some.next) item.values item.is) h)

pub returns-in-Ok-None : goal.returns-in-Ok-None
returns-in-Ok-None c =
    let none = rw (c.in-Ok-None.field-0-is) at c.in-Ok-None.ensures in
    leads_from (reading.export_item) (map text_of c.new-found.result.items) (terminals_of c.args.cursor) _ (ap (λ x. map text_of x) c.new-found.ensures.items)
    (c.exports.invariant (Ok (map text_of c.next_export.new.found.items, terminals_of c.exports.left)) (leads_out (reading.export_item) (map text_of c.exports.found.items) (map text_of c.next_export.new.found.items) (terminals_of c.exports.left) none.0 none.1))

pub returns-in-Err : goal.returns-in-Err
returns-in-Err c =
    faulted (reading.export_item) (map text_of c.new-found.result.items) (map text_of c.exports.found.items) (terminals_of c.args.cursor) (terminals_of c.exports.left) c.in-Err.refusal (ap (λ x. map text_of x) c.new-found.ensures.items) c.exports.invariant c.in-Err.ensures
