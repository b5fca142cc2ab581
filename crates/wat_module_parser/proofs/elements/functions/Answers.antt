use Rattle.std.proofs.Common.{ap, map, Ok}
use Rattle.wat_module_tokens.specs.TokenCursor.{terminals_of}
use Rattle.wat_module_ast.specs.Fields.{ref_func}
use Rattle.wat_module_parser.specs.Views.{context_of}
use Rattle.wat_module_parser.proofs.ElementKinds.{functions_read}
use Rattle.wat_module_ast.specs.Fields as fields
use Rattle.wat_module_parser.specs.Reading as reading
use Rattle.wat_module_parser.proofs.Manies.{leads_on, leads_out, leads_from, faulted, smaller}
use Rattle.wat_module_parser.proofs.elements.functions.Goals as goal

pub functions-smaller : goal.functions-smaller
functions-smaller c = let item = rw (c.in-Ok-Some.field-0-is) at c.in-Ok-Some.ensures in smaller (reading.function_item (context_of c.args.names.now)) (fields.FunctionIs (context_of c.args.names.now)) (functions_read (context_of c.args.names.now)) (terminals_of c.functions.left) (terminals_of c.in-Ok-Some.next) item.values item.is

pub functions-preserved : goal.functions-preserved
functions-preserved c =
    let item = rw (c.in-Ok-Some.field-0-is) at c.in-Ok-Some.ensures in
    λ q h. c.functions.invariant q (leads_on (reading.function_item (context_of c.args.names.now)) (map ref_func c.functions.found.items) (map ref_func c.next_function.new.found.items) item.values (terminals_of c.functions.left) (terminals_of c.in-Ok-Some.next) q item.is item.follow (smaller (reading.function_item (context_of c.args.names.now)) (fields.FunctionIs (context_of c.args.names.now)) (functions_read (context_of c.args.names.now)) (terminals_of c.functions.left) (terminals_of c.in-Ok-Some.next) item.values item.is) h)

pub returns-in-Ok-None : goal.returns-in-Ok-None
returns-in-Ok-None c =
    let none = rw (c.in-Ok-None.field-0-is) at c.in-Ok-None.ensures in
    leads_from (reading.function_item (context_of c.args.names.now)) (map ref_func c.new-found.result.items) (terminals_of c.args.cursor) _ (ap (λ x. map ref_func x) c.new-found.ensures.items)
    (c.functions.invariant (Ok (map ref_func c.next_function.new.found.items, terminals_of c.functions.left)) (leads_out (reading.function_item (context_of c.args.names.now)) (map ref_func c.functions.found.items) (map ref_func c.next_function.new.found.items) (terminals_of c.functions.left) none.0 none.1))

pub returns-in-Err : goal.returns-in-Err
returns-in-Err c =
    faulted (reading.function_item (context_of c.args.names.now)) (map ref_func c.new-found.result.items) (map ref_func c.functions.found.items) (terminals_of c.args.cursor) (terminals_of c.functions.left) c.in-Err.refusal (ap (λ x. map ref_func x) c.new-found.ensures.items) c.functions.invariant c.in-Err.ensures
