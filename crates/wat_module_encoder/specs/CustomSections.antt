-- WebAssembly 2.0, 5.5.3 (custom section) and 5.5.16 (modules); 3.0, appendix, custom annotations (placement). The binary
-- of a module with its name section and with custom sections at their placements. Custom sections of one placement are in the
-- order of the text. Those after a section come before those before the next section, as 3.0 requires. The name section
-- follows the data section, and those at `(after last)` come after it, as in the crate `wat`; 3.0 leaves that open.
use Rattle.std.specs.Prelude.{ℕ, Bool, true, false, ◌==◌, if◌then◌else◌, List, [], ◌++◌}
use Rattle.std.specs.List.{flat_map}
use Rattle.wat_lex.specs.binary.Encoding.{text_encoding}
use Rattle.wat_module_ast.specs.Fields.{Field}
use Rattle.wat_module_custom.specs.Customs.{CustomSection}
use Rattle.wat_module_custom.specs.declared.sections.Anchor.{Anchor}
use Rattle.wat_module_custom.specs.declared.sections.Anchor.TheVariants as anchor
use Rattle.wat_module_custom.specs.declared.sections.Place.{Place}
use Rattle.wat_module_custom.specs.declared.sections.Place.TheVariants.{AfterLast, Around, BeforeFirst}
use Rattle.wat_module_custom.specs.declared.sections.Side.TheVariants.{After, Before}
use Rattle.wat_module_encoder.specs.Binary.{code_section, data_count_section, data_section, element_section, export_section, function_section, global_section, header, import_section, memory_section, section, start_section, table_section, type_section}
use Rattle.wat_module_encoder.specs.NameSection.{name_section}
use Rattle.wat_module_tokens.specs.Terminals.{Label}

-- 5.5.3, custom section: its id is 0, and its content begins with its name, a vector of bytes (5.2.4).
abbrev pub custom_bytes : CustomSection → List ℕ
custom_bytes c = section 0 (text_encoding c.name ++ c.contents)

-- A number of each section, by which two are compared. `first_sections`, `middle_sections` and `last_sections` have their
-- order.
abbrev pub position : Anchor → ℕ
position anchor.Type = 1
position anchor.Import = 2
position anchor.Func = 3
position anchor.Table = 4
position anchor.Memory = 5
position anchor.Tag = 6
position anchor.Global = 7
position anchor.Export = 8
position anchor.Start = 9
position anchor.Elem = 10
position anchor.DataCount = 11
position anchor.Code = 12
position anchor.Data = 13

-- Returns `true` if two placements are equal.
abbrev pub is_place : Place → Place → Bool
is_place BeforeFirst BeforeFirst = true
is_place AfterLast AfterLast = true
is_place (Around Before a) (Around Before b) = position a == position b
is_place (Around After a) (Around After b) = position a == position b
is_place p q = false

-- The custom sections at a placement, encoded.
unfoldable pub customs_at : Place → List CustomSection → List ℕ
customs_at p cs = flat_map (λ c. if is_place c.place p then custom_bytes c else []) cs

-- `with_section cs a out bytes`: the bytes `out`, and then the section `a`, which is encoded as `bytes`, with the custom
-- sections directly before and after it.
abbrev pub with_section : List CustomSection → Anchor → List ℕ → List ℕ → List ℕ
with_section cs a out bytes = ((out ++ customs_at (Around Before a) cs) ++ bytes) ++ customs_at (Around After a) cs

-- 5.5.16: the header, and the sections up to that of memories.
unfoldable pub first_sections : List Field → List CustomSection → List ℕ
first_sections fs cs =
    with_section cs anchor.Memory
    (with_section cs anchor.Table
    (with_section cs anchor.Func
    (with_section cs anchor.Import
    (with_section cs anchor.Type (header ++ customs_at BeforeFirst cs) (type_section fs)) (import_section fs)) (function_section fs)) (table_section fs)) (memory_section fs)

-- 5.5.16: the bytes `out`, and then the sections up to that of elements. There is no tag section.
unfoldable pub middle_sections : List Field → List CustomSection → List ℕ → List ℕ
middle_sections fs cs out =
    with_section cs anchor.Elem
    (with_section cs anchor.Start
    (with_section cs anchor.Export
    (with_section cs anchor.Global
    ((out ++ customs_at (Around Before anchor.Tag) cs) ++ customs_at (Around After anchor.Tag) cs) (global_section fs)) (export_section fs)) (start_section fs)) (element_section fs)

-- 5.5.16: the bytes `out`, and then the last sections.
unfoldable pub last_sections : List Field → List CustomSection → List ℕ → List ℕ
last_sections fs cs out =
    with_section cs anchor.Data
    (with_section cs anchor.Code
    (with_section cs anchor.DataCount out (data_count_section fs)) (code_section fs)) (data_section fs)

-- 5.5.16, 7.4.1: the binary of a module with this identifier, these fields and these custom sections.
unfoldable pub complete_bytes : Label → List Field → List CustomSection → List ℕ
complete_bytes l fs cs = (last_sections fs cs (middle_sections fs cs (first_sections fs cs)) ++ name_section l fs) ++ customs_at AfterLast cs
