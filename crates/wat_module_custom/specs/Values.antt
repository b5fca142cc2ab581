-- Custom sections and items of the code, as callers see them.
use Rattle.std.specs.Prelude.{map}
use Rattle.std.specs.Cow.{cow_slice_items, cow_str_bytes}
use Rattle.std.specs.List.{flat_map}
use Rattle.wat_module_custom.specs.Customs.{CustomSection, Item, Plain, Annotated}
use Rattle.wat_module_custom.specs.declared.reading.Item.{Item as CodeItem}
use Rattle.wat_module_custom.specs.declared.reading.Item.TheVariants as code
use Rattle.wat_module_custom.specs.declared.sections.CustomSection.{CustomSection as CodeSection}

abbrev pub section_of : CodeSection → CustomSection
section_of s = record { name = cow_str_bytes s.name; place = s.place; contents = flat_map (λ v. v) (map cow_slice_items s.data.items) }

abbrev pub item_of : CodeItem → Item
item_of (code.Plain p) = Plain p
item_of (code.Annotated s at) = Annotated (section_of s) at
