-- WebAssembly 3.0, appendix (custom sections and custom annotations), custom annotations; custom annotations proposal. An
-- annotation `(@custom name placement? data..)` where a field of a module may be defines a custom section. The first string
-- is its name, which is UTF-8. The other strings together are its bytes. `(before first)` and `(after last)` put it before
-- the first and after the last section, `(before type)` and `(after type)` directly before and after the type section, and
-- so on. Without these it is put after the last section. 3.0 requires that the section is in the binary; here, as in the
-- crate `wat`, the custom section is put where that section would be. An annotation of this name with other contents, or
-- where no field may be, is an error.
use Rattle.std.specs.Prelude.{◌≡◌, refl, ℕ, suc, zero, ◌==◌, ◌&&◌, Bool, false, true, bytes_eq, if◌then◌else◌, List, [], ◌∷◌, codes, unwrap_or, Option, Some, None, Result, Ok, Err}
use Rattle.std.specs.List.{flat_map}
use Rattle.std.specs.Option.{option_map}
use Rattle.wat_lex.specs.errors.Errors.{Report, Custom, report_in}
use Rattle.wat_lex.specs.declared.lexer.kinds.TokenKind.TheVariants as kind
use Rattle.wat_lex.specs.tokens.Setting.{Setting}
use Rattle.wat_lexer_parser.specs.parser.Takers.{Reader, as_keyword}
use Rattle.wat_lexer_parser.specs.places.Source.{IsRead, Source}
use Rattle.wat_lexer_parser.specs.readings.Readings.{Reading, under, whole}
use Rattle.wat_lexer_parser.specs.rules.Formats.{Format, a_named, a_token, and_then, checked, group, many, mapped, optional, second, spanned, token, where_seen, while_seen}
use Rattle.wat_lexer_parser.specs.rules.FormatTypes.{a_group, a_keyword, annotation, bytes, keyword, text}
use Rattle.wat_module_custom.specs.declared.sections.Anchor.{Anchor}
use Rattle.wat_module_custom.specs.declared.sections.Anchor.TheVariants as anchor
use Rattle.wat_module_custom.specs.declared.sections.Place.{Place}
use Rattle.wat_module_custom.specs.declared.sections.Place.TheVariants.{AfterLast, Around, BeforeFirst}
use Rattle.wat_module_custom.specs.declared.sections.Side.{Side}
use Rattle.wat_module_custom.specs.declared.sections.Side.TheVariants.{After, Before}
use Rattle.wat_module_custom.specs.declared.reading.Piece.{Piece}
use Rattle.wat_module_custom.specs.declared.reading.Piece.TheVariants as piece
use Rattle.wat_module_custom.specs.declared.search.Sought.TheVariants as sought
use Rattle.wat_module_custom.specs.Search.{may_have}

-- A custom section: its name, its placement and its bytes.
pub record CustomSection : Type 0 where
  pub name : List ℕ
  pub place : Place
  pub contents : List ℕ

-- The section with a name in a placement: that of its keyword.
unfoldable pub anchor_named : List ℕ → Option Anchor
anchor_named w =
    if bytes_eq w (codes "type") then Some anchor.Type
    else if bytes_eq w (codes "import") then Some anchor.Import
    else if bytes_eq w (codes "func") then Some anchor.Func
    else if bytes_eq w (codes "table") then Some anchor.Table
    else if bytes_eq w (codes "memory") then Some anchor.Memory
    else if bytes_eq w (codes "tag") then Some anchor.Tag
    else if bytes_eq w (codes "global") then Some anchor.Global
    else if bytes_eq w (codes "export") then Some anchor.Export
    else if bytes_eq w (codes "start") then Some anchor.Start
    else if bytes_eq w (codes "elem") then Some anchor.Elem
    else if bytes_eq w (codes "datacount") then Some anchor.DataCount
    else if bytes_eq w (codes "code") then Some anchor.Code
    else if bytes_eq w (codes "data") then Some anchor.Data
    else None

-- `before` or `after`.
unfoldable pub side_named : List ℕ → Option Side
side_named w = if bytes_eq w (codes "before") then Some Before else if bytes_eq w (codes "after") then Some After else None

-- What follows `before` or `after`: `first` or `last`, or the keyword of a section.
unfoldable pub place_named : Side → List ℕ → Option Place
place_named Before w = if bytes_eq w (codes "first") then Some BeforeFirst else option_map (λ a. Around Before a) (anchor_named w)
place_named After w = if bytes_eq w (codes "last") then Some AfterLast else option_map (λ a. Around After a) (anchor_named w)

abbrev pub expected_place : Side → List ℕ
expected_place Before = codes "expected `first` or a section"
expected_place After = codes "expected `last` or a section"

-- A keyword that has a meaning.
abbrev pub keyword_as : {V : Type 0} → (List ℕ → Option V) → List ℕ → Format V
keyword_as meaning message = checked meaning message (token as_keyword message)

unfoldable pub side : Format Side
side = keyword_as side_named (codes "expected `before` or `after`")

unfoldable pub place_after : Side → Format Place
place_after s = keyword_as (place_named s) (expected_place s)

-- A placement, between its parentheses.
unfoldable pub place : Format Place
place = and_then side place_after

abbrev pub section_of : List ℕ → Option Place → List (List ℕ) → CustomSection
section_of name p strings = record { name = name; place = unwrap_or p AfterLast; contents = flat_map (λ v. v) strings }

-- The annotation after its name and its placement: strings.
unfoldable pub custom_data : List ℕ → Option Place → Format CustomSection
custom_data name p = mapped (section_of name p) (many bytes refl)

-- The annotation after its name: an optional placement, and strings.
unfoldable pub custom_place : List ℕ → Format CustomSection
custom_place name = and_then (optional a_group (group place)) (custom_data name)

-- The annotation, between its parentheses.
unfoldable pub custom : Format CustomSection
custom = and_then (annotation (codes "custom")) (λ at. and_then text custom_place)

-- A token outside of custom annotations.
abbrev pub as_piece : Reader Piece
as_piece text t kind.LParen = Some (Ok piece.Open)
as_piece text t kind.RParen = Some (Ok piece.Close)
as_piece text t kind.Id = Some (Ok piece.Id)
as_piece text t k = Some (Ok piece.Other)

-- A custom annotation with the offset of its `(`, or another token.
pub data Item : Type 0 where
  Plain : Piece → Item
  Annotated : CustomSection → ℕ → Item

abbrev pub annotated : CustomSection × ℕ → Item
annotated v = Annotated v.0 v.1

-- An item of a text.
unfoldable pub item : Format Item
item =
    where_seen (second (a_named (codes "custom"))) (mapped annotated (spanned (group custom)))
    (where_seen (a_keyword (codes "module")) (mapped (λ at. Plain piece.Module) (keyword (codes "module")))
    (mapped Plain (token as_piece (codes "expected a token"))))

-- All items of a text.
unfoldable pub items : Format (List Item)
unfolding item
items = while_seen (a_token as_piece) item refl

-- All items of a text. The annotation `@custom` is visible.
unfoldable pub all_items : Reading (List Item)
all_items = under (codes "custom") items.reading

-- The tokens outside of custom annotations.
abbrev pub pieces : List Item → List Piece
pieces [] = []
pieces (Plain p ∷ is) = p ∷ pieces is
pieces (Annotated c at ∷ is) = pieces is

-- 6.6.13: the number of tokens before the first field of a module: `(module` and the identifier, if there are any.
abbrev pub head : List Piece → ℕ
head (piece.Open ∷ piece.Module ∷ piece.Id ∷ ps) = 3
head (piece.Open ∷ piece.Module ∷ ps) = 2
head ps = 0

-- The number of open groups after a token, from that before it.
abbrev pub level : Piece → ℕ → ℕ
level piece.Open d = suc d
level piece.Close zero = zero
level piece.Close (suc d) = d
level p d = d

-- A custom section before further ones.
abbrev pub with_first : CustomSection → Result (List CustomSection) ℕ → Result (List CustomSection) ℕ
with_first c (Ok cs) = Ok (c ∷ cs)
with_first c (Err at) = Err at

-- The custom sections of these items, in their order, or the offset of the first annotation where no field may be.
-- `left` tokens follow before the first field. `d` groups are open, that of the module included, even if `(module` is
-- omitted. A field may be after the tokens before the first field, if no group is open but that of the module.
unfoldable pub sections_from : ℕ → ℕ → List Item → Result (List CustomSection) ℕ
sections_from left d [] = Ok []
sections_from (suc left) d (Plain p ∷ is) = sections_from left d is
sections_from zero d (Plain p ∷ is) = sections_from zero (level p d) is
sections_from left d (Annotated c at ∷ is) = if (left == 0) && (d == 1) then with_first c (sections_from left d is) else Err at

-- The custom sections of all items of a module.
abbrev pub sections_in : List Item → Result (List CustomSection) ℕ
sections_in is = sections_from (head (pieces is)) 1 is

abbrev pub misplaced : List ℕ → ℕ → Report
misplaced text at = report_in text at (Custom (codes "annotation `@custom` where no field may be"))

abbrev pub placed_by : List ℕ → Result (List CustomSection) ℕ → Result (List CustomSection) Report
placed_by text (Ok cs) = Ok cs
placed_by text (Err at) = Err (misplaced text at)

abbrev pub placed : List ℕ → Result (List Item) Report → Result (List CustomSection) Report
placed text (Ok is) = placed_by text (sections_in is)
placed text (Err r) = Err r

-- Returns `true` if an annotation of the name `custom` may begin at a byte of the text. Otherwise the text has no custom
-- sections, as `custom_sections` defines.
abbrev pub may_have_customs : List ℕ → Bool
may_have_customs text = may_have sought.Customs text

-- The custom sections of a text that is a module, or the first error in the contents of an annotation, or, if there is
-- none, that of the first annotation where no field may be.
unfoldable pub custom_sections : Source → Result (List CustomSection) Report
custom_sections s = if may_have_customs s.setting.text then placed s.setting.text (whole all_items s) else Ok []

-- A text with the lexer settings of the compiler of modules.
abbrev pub plain : List ℕ → Setting
plain text = record { text = text; flags = record { allow = true; strict = true } }

-- `HasSections text r`: `r` are the custom sections of the text, or the error.
pub record HasSections (text : List ℕ) (r : Result (List CustomSection) Report) : Type 0 where
  pub source : Source
  pub setting : source.setting ≡ plain text
  pub track : source.track ≡ false
  pub read : IsRead source
  pub are : r ≡ custom_sections source
