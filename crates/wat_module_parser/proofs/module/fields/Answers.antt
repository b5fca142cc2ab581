use Rattle.std.proofs.Common.{ap, map, Ok}
use Rattle.wat_module_tokens.specs.TokenCursor.{terminals_of}
use Rattle.wat_module_ast.specs.Views.{field_of}
use Rattle.wat_module_parser.specs.Views.{context_of, types_of}
use Rattle.wat_module_parser.proofs.FieldKinds.{fields_read}
use Rattle.wat_module_ast.specs.Fields as fields
use Rattle.wat_module_parser.specs.Reading as reading
use Rattle.wat_module_parser.proofs.Manies.{leads_on, leads_out, leads_from, faulted, smaller}
use Rattle.wat_module_parser.proofs.module.fields.Goals as goal

pub fields-smaller : goal.fields-smaller
fields-smaller c = let item = rw (c.in-Ok-Some.field-0-is) at c.in-Ok-Some.ensures in smaller (reading.field_item (types_of c.args.names.now) (context_of c.args.names.now)) (fields.FieldIs (types_of c.args.names.now) (context_of c.args.names.now)) (fields_read (record { same = c.machine_is_grammar.ensures; folded = c.folded_is_grammar.ensures; balanced = c.instructions_are_balanced.ensures.balanced; taken = c.instructions_are_balanced.ensures.taken }) (types_of c.args.names.now) (context_of c.args.names.now)) (terminals_of c.fields.left) (terminals_of c.in-Ok-Some.next) item.values item.is

pub fields-preserved : goal.fields-preserved
fields-preserved c =
    let item = rw (c.in-Ok-Some.field-0-is) at c.in-Ok-Some.ensures in
    λ q h. c.fields.invariant q (leads_on (reading.field_item (types_of c.args.names.now) (context_of c.args.names.now)) (map field_of c.fields.found.items) (map field_of c.next_field.new.found.items) item.values (terminals_of c.fields.left) (terminals_of c.in-Ok-Some.next) q item.is item.follow (smaller (reading.field_item (types_of c.args.names.now) (context_of c.args.names.now)) (fields.FieldIs (types_of c.args.names.now) (context_of c.args.names.now)) (fields_read (record { same = c.machine_is_grammar.ensures; folded = c.folded_is_grammar.ensures; balanced = c.instructions_are_balanced.ensures.balanced; taken = c.instructions_are_balanced.ensures.taken }) (types_of c.args.names.now) (context_of c.args.names.now)) (terminals_of c.fields.left) (terminals_of c.in-Ok-Some.next) item.values item.is) h)

pub returns-in-Ok-None : goal.returns-in-Ok-None
returns-in-Ok-None c =
    let none = rw (c.in-Ok-None.field-0-is) at c.in-Ok-None.ensures in
    leads_from (reading.field_item (types_of c.args.names.now) (context_of c.args.names.now)) (map field_of c.new-found.result.items) (terminals_of c.args.cursor) _ (ap (λ x. map field_of x) c.new-found.ensures.items)
    (c.fields.invariant (Ok (map field_of c.next_field.new.found.items, terminals_of c.fields.left)) (leads_out (reading.field_item (types_of c.args.names.now) (context_of c.args.names.now)) (map field_of c.fields.found.items) (map field_of c.next_field.new.found.items) (terminals_of c.fields.left) none.0 none.1))

pub returns-in-Err : goal.returns-in-Err
returns-in-Err c =
    faulted (reading.field_item (types_of c.args.names.now) (context_of c.args.names.now)) (map field_of c.new-found.result.items) (map field_of c.fields.found.items) (terminals_of c.args.cursor) (terminals_of c.fields.left) c.in-Err.refusal (ap (λ x. map field_of x) c.new-found.ensures.items) c.fields.invariant c.in-Err.ensures
