-- Items and names of the code, as definitions.
use Rattle.std.specs.Prelude.{map, reverse, Option}
use Rattle.std.specs.Cow.{cow_str_bytes}
use Rattle.std.specs.Option.{option_map}
use Rattle.wat_lexer_parser.specs.declared.token.names.NameAnnotation.{NameAnnotation}
use Rattle.wat_module_tokens.specs.Terminals.{Label}
use Rattle.wat_module_annotations.specs.Items.{Block, Close, Field, FoldedBlock, FoldedIf, Header, Import, Item, Module, Occurrence, Open, Other, Stray, Then, Variable, Variables}
use Rattle.wat_module_annotations.specs.Names.{Context, FieldNames, ModuleNames}
use Rattle.wat_module_annotations.specs.declared.context.Context.{Context as CodeContext}
use Rattle.wat_module_annotations.specs.declared.names.FieldNames.{FieldNames as CodeFieldNames}
use Rattle.wat_module_annotations.specs.declared.names.ModuleNames.{ModuleNames as CodeModuleNames}
use Rattle.wat_module_annotations.specs.declared.reading.Item.{Item as CodeItem}
use Rattle.wat_module_annotations.specs.declared.reading.Item.TheVariants as code
use Rattle.wat_module_annotations.specs.declared.reading.Occurrence.{Occurrence as CodeOccurrence}
use Rattle.wat_module_annotations.specs.declared.reading.VariableName.{VariableName}

-- The name of an annotation, if there is one.
abbrev pub label_of : Option NameAnnotation → Label
label_of n = option_map (λ n. cow_str_bytes n.name) n

abbrev pub occurrence_of : CodeOccurrence → Occurrence
occurrence_of o = record { name = label_of o.name; offset = o.offset }

abbrev pub variable_of : VariableName → Label
variable_of v = label_of v.name

abbrev pub item_of : CodeItem → Item
item_of (code.Stray at) = Stray at
item_of code.Open = Open
item_of code.Close = Close
item_of code.Header = Header
item_of (code.Module o) = Module (occurrence_of o)
item_of (code.Field o) = Field (occurrence_of o)
item_of (code.Import o) = Import (occurrence_of o)
item_of (code.Variables is_param names) = Variables is_param (map variable_of names.items)
item_of (code.Variable is_param o) = Variable is_param (occurrence_of o)
item_of (code.Block o) = Block (occurrence_of o)
item_of (code.FoldedBlock o) = FoldedBlock (occurrence_of o)
item_of (code.FoldedIf o) = FoldedIf (occurrence_of o)
item_of code.Then = Then
item_of code.Other = Other

abbrev pub field_names_of : CodeFieldNames → FieldNames
field_names_of f = record {
  item = label_of f.item;
  has_params = f.has_params;
  variables = map variable_of f.variables.items;
  labels = map variable_of f.labels.items;
}

abbrev pub context_of : CodeContext → Context
context_of c = record {
  depth = c.depth;
  in_header = c.in_header;
  held = reverse (map variable_of c.held.items);
  field = field_names_of c.field;
}

abbrev pub module_names_of : CodeModuleNames → ModuleNames
module_names_of m = record { of_module = label_of m.of_module; fields = map field_names_of m.fields.items }
