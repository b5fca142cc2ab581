-- The contents of a parsed entry, as callers see them.
use Rattle.std.specs.Cow.{cow_str_bytes}
use Rattle.std.specs.Option.{option_map}
use Rattle.example_imports.specs.Imports.{Read}
use Rattle.example_imports.specs.declared.Entry.{Entry}
use Rattle.wat_lexer_parser.specs.readings.Types.{spelled}

abbrev pub read_of : Entry → Read
read_of e = record {
  place = cow_str_bytes e.place;
  field = cow_str_bytes e.field;
  id = option_map (λ i. spelled i) e.id;
  kind = e.kind;
  name = option_map (λ n. cow_str_bytes n.name) e.name;
}
