use Rattle.std.proofs.Common.{ap, map, Ok}
use Rattle.wat_module_tokens.specs.TokenCursor.{terminals_of}
use Rattle.wat_module_ast.specs.Views.{expression_of}
use Rattle.wat_module_parser.specs.Views.{context_of}
use Rattle.wat_module_parser.proofs.ElementKinds.{items_read}
use Rattle.wat_module_ast.specs.Fields as fields
use Rattle.wat_module_parser.specs.Reading as reading
use Rattle.wat_module_parser.proofs.Manies.{leads_on, leads_out, leads_from, faulted, smaller}
use Rattle.wat_module_parser.proofs.elements.items.Goals as goal

pub items-smaller : goal.items-smaller
items-smaller c = let item = rw (c.in-Ok-Some.field-0-is) at c.in-Ok-Some.ensures in smaller (reading.element_item (context_of c.args.names.now)) (fields.ItemIs (context_of c.args.names.now)) (items_read (record { same = c.machine_is_grammar.ensures; folded = c.folded_is_grammar.ensures; balanced = c.instructions_are_balanced.ensures.balanced; taken = c.instructions_are_balanced.ensures.taken }) (context_of c.args.names.now)) (terminals_of c.items.left) (terminals_of c.in-Ok-Some.next) item.values item.is

pub items-preserved : goal.items-preserved
items-preserved c =
    let item = rw (c.in-Ok-Some.field-0-is) at c.in-Ok-Some.ensures in
    λ q h. c.items.invariant q (leads_on (reading.element_item (context_of c.args.names.now)) (map expression_of c.items.found.items) (map expression_of c.next_item.new.found.items) item.values (terminals_of c.items.left) (terminals_of c.in-Ok-Some.next) q item.is item.follow (smaller (reading.element_item (context_of c.args.names.now)) (fields.ItemIs (context_of c.args.names.now)) (items_read (record { same = c.machine_is_grammar.ensures; folded = c.folded_is_grammar.ensures; balanced = c.instructions_are_balanced.ensures.balanced; taken = c.instructions_are_balanced.ensures.taken }) (context_of c.args.names.now)) (terminals_of c.items.left) (terminals_of c.in-Ok-Some.next) item.values item.is) h)

pub returns-in-Ok-None : goal.returns-in-Ok-None
returns-in-Ok-None c =
    let none = rw (c.in-Ok-None.field-0-is) at c.in-Ok-None.ensures in
    leads_from (reading.element_item (context_of c.args.names.now)) (map expression_of c.new-found.result.items) (terminals_of c.args.cursor) _ (ap (λ x. map expression_of x) c.new-found.ensures.items)
    (c.items.invariant (Ok (map expression_of c.next_item.new.found.items, terminals_of c.items.left)) (leads_out (reading.element_item (context_of c.args.names.now)) (map expression_of c.items.found.items) (map expression_of c.next_item.new.found.items) (terminals_of c.items.left) none.0 none.1))

pub returns-in-Err : goal.returns-in-Err
returns-in-Err c =
    faulted (reading.element_item (context_of c.args.names.now)) (map expression_of c.new-found.result.items) (map expression_of c.items.found.items) (terminals_of c.args.cursor) (terminals_of c.items.left) c.in-Err.refusal (ap (λ x. map expression_of x) c.new-found.ensures.items) c.items.invariant c.in-Err.ensures
