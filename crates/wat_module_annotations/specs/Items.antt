-- WebAssembly 3.0, appendix (custom sections and custom annotations), name annotations: `(@name "..")` is where the text
-- format has a binding occurrence of an identifier, after the identifier, if there is one. Its string is UTF-8. The
-- grammar of these occurrences: 2.0, 6.6.2 to 6.6.12 (module fields), 6.6.13 (modules), 6.4.5 and 6.6.5 (parameters,
-- locals) and 6.5.2 (labels). A text is read as a list of items: an occurrence with the tokens around it, a group, or
-- another token. It is a module without its annotations (`wat_modules` compiles it first), so an item is known by its
-- first tokens. Each format is a rule of the grammar.
use Rattle.std.specs.Prelude.{refl, ℕ, ◌||◌, Bool, false, true, bytes_eq, if◌then◌else◌, List, codes, Some, None, Ok}
use Rattle.wat_lex.specs.declared.lexer.kinds.TokenKind.TheVariants as kind
use Rattle.wat_lexer_parser.specs.parser.Takers.{Reader, as_close, as_keyword}
use Rattle.wat_lexer_parser.specs.readings.Readings.{Reading, under}
use Rattle.wat_lexer_parser.specs.rules.Formats.{Format, a_named, a_token, and_then, give, group, many, mapped, optional, refuse, second, spanned, token, where_seen, while_seen}
use Rattle.wat_lexer_parser.specs.rules.FormatTypes.{a_group, an_identifier, annotation, bytes, optional_name}
use Rattle.wat_lexer_parser.specs.rules.FormatTypes as formats
use Rattle.wat_words.specs.Words.{annotation_word}
use Rattle.wat_module_tokens.specs.Terminals.{Label}
use Rattle.wat_module_annotations.specs.declared.reading.Role.{Role}
use Rattle.wat_module_annotations.specs.declared.reading.Role.TheVariants as role

-- Tokens.

-- The role of a keyword.
unfoldable pub role_of : List ℕ → Role
role_of w =
    if bytes_eq w (codes "block") || bytes_eq w (codes "loop") then role.Block
    else if bytes_eq w (codes "if") then role.If
    else if bytes_eq w (codes "then") then role.Then
    else if bytes_eq w (codes "param") then role.Param
    else if bytes_eq w (codes "local") then role.Local
    else if bytes_eq w (codes "result") || bytes_eq w (codes "export") then role.Header
    else if bytes_eq w (codes "func") then role.Func
    else if bytes_eq w (codes "type") || bytes_eq w (codes "table") || bytes_eq w (codes "memory") || bytes_eq w (codes "global") || bytes_eq w (codes "elem") || bytes_eq w (codes "data") then role.Field
    else if bytes_eq w (codes "import") then role.Import
    else if bytes_eq w (codes "module") then role.Module
    else role.Other

-- A token that is not a keyword.
abbrev pub as_other : Reader Role
as_other text t kind.LParen = Some (Ok role.Open)
as_other text t kind.RParen = Some (Ok role.Close)
as_other text t k = Some (Ok role.Other)

-- A keyword.
unfoldable pub word : Format Role
word = mapped role_of (token as_keyword (codes "expected a keyword"))

-- A token.
unfoldable pub any_token : Format Role
any_token = where_seen (a_token as_keyword) word (token as_other (codes "expected a token"))

-- `)`.
unfoldable pub closing : Format (Unit {0})
closing = token as_close (codes "expected `)`")

-- Occurrences.

-- A binding occurrence: the string of its annotation, if it has one, and the offset of what follows its identifier, which
-- is that of the annotation.
pub record Occurrence : Type 0 where
  pub name : Label
  pub offset : ℕ

abbrev pub occurrence_by : Label × ℕ → Occurrence
occurrence_by v = record { name = v.0; offset = v.1 }

-- What may follow an occurrence. An identifier may not follow an annotation.
abbrev pub followed_by : Label → Occurrence → Format Occurrence
followed_by (Some x) o = where_seen an_identifier (refuse (codes "annotation `@name` before the identifier")) (give o)
followed_by None o = give o

unfoldable pub checked_occurrence : Occurrence → Format Occurrence
checked_occurrence o = followed_by o.name o

-- `(@name string)?`.
unfoldable pub after_id : Format Occurrence
after_id = and_then (mapped occurrence_by (spanned optional_name)) checked_occurrence

-- `id? (@name string)?`. The identifier is not looked at.
unfoldable pub occurrence : Format Occurrence
occurrence = and_then (optional an_identifier any_token) (λ id. after_id)

-- Items.

-- `(module id?`, a field and so on are without what follows, so those that begin with `(` open a group.
pub data Item : Type 0 where
  -- A misplaced annotation at an offset: not directly after the keyword or identifier of a binding occurrence.
  Stray : ℕ → Item
  -- `(`, with the keyword after it, if there is one, of any other group.
  Open : Item
  Close : Item
  -- `(export`, `(result` and an inline `(import name name`.
  Header : Item
  -- 6.6.13: `(module id?`.
  Module : Occurrence → Item
  -- 6.6.2, 6.6.5 to 6.6.8, 6.6.11, 6.6.12: `(type id?`, `(func id?`, `(table id?`, `(memory id?`, `(global id?`,
  -- `(elem id?`, `(data id?`: a field, or a reference in one.
  Field : Occurrence → Item
  -- 6.6.4: `(import name name (func id?`. In imports of tables, memories and globals no annotation may be, as in the
  -- crate `wat`.
  Import : Occurrence → Item
  -- 6.4.5, 6.6.5: `(param type*)` and `(local type*)`, whole: all their names, which are none. `true` for parameters.
  Variables : Bool → List Label → Item
  -- `(param id? (@name string) type)`, and so for `local`, whole.
  Variable : Bool → Occurrence → Item
  -- 6.5.2: `block label`, `loop label` and `if label`.
  Block : Occurrence → Item
  -- 6.5.10: `(block label` and `(loop label`.
  FoldedBlock : Occurrence → Item
  -- 6.5.10: `(if label`.
  FoldedIf : Occurrence → Item
  -- 6.5.10: `(then`.
  Then : Item
  -- Any other token.
  Other : Item

-- The type of a variable, which has no name.
unfoldable pub unnamed : Format Label
unnamed = mapped (λ r. None) word

-- The one type after an annotation, and `)`.
unfoldable pub one_type : Bool → Occurrence → Format Item
one_type is_param o = and_then (mapped (λ r. o) word) (λ o. mapped (λ u. Variable is_param o) closing)

-- Any number of types, and `)`.
unfoldable pub types : Bool → Format Item
unfolding unnamed word
types is_param = and_then (many unnamed refl) (λ ls. mapped (λ u. Variables is_param ls) closing)

abbrev pub variables_by : Bool → Occurrence → Label → Format Item
variables_by is_param o (Some x) = one_type is_param o
variables_by is_param o None = types is_param

-- A parameter or local after `(param` or `(local`.
unfoldable pub variables : Bool → Format Item
variables is_param = and_then occurrence (λ o. variables_by is_param o o.name)

-- `func id?` in an import, or the keyword of another item.
abbrev pub imported_by : Role → Format Item
imported_by role.Func = mapped Import occurrence
imported_by r = give (Import (record { name = None; offset = 0 }))

-- An import after its names.
unfoldable pub imported : Format Item
imported = where_seen a_group (and_then any_token (λ paren. and_then word imported_by)) (give Header)

-- An import after its keyword.
unfoldable pub import : Format Item
import = and_then bytes (λ m. and_then bytes (λ n. imported))

-- A group after `(` and its keyword.
abbrev pub group_by : Role → Format Item
group_by role.Module = mapped Module occurrence
group_by role.Func = mapped Field occurrence
group_by role.Field = mapped Field occurrence
group_by role.Import = import
group_by role.Header = give Header
group_by role.Param = variables true
group_by role.Local = variables false
group_by role.Block = mapped FoldedBlock occurrence
group_by role.If = mapped FoldedIf occurrence
group_by role.Then = give Then
group_by r = give Open

-- A group after `(`.
unfoldable pub opened : Format Item
opened = where_seen (a_token as_keyword) (and_then word group_by) (give Open)

-- An item after its first token.
abbrev pub item_by : Role → Format Item
item_by role.Open = opened
item_by role.Close = give Close
item_by role.Block = mapped Block occurrence
item_by role.If = mapped Block occurrence
item_by r = give Other

-- `(@name string)`, by its offset.
unfoldable pub stray : Format Item
stray = mapped (λ v. Stray v.1) (spanned (group (and_then (annotation (annotation_word 1)) (λ at. formats.text))))

-- An item.
unfoldable pub item : Format Item
unfolding stray any_token word
item = where_seen (second (a_named (annotation_word 1))) stray (and_then any_token item_by)

-- All items of a text.
unfoldable pub items : Format (List Item)
unfolding item any_token word
items = while_seen (a_token as_other) item refl

-- All items of a text. The annotation `@name` is visible, and no other.
unfoldable pub all_items : Reading (List Item)
all_items = under (codes "name") items.reading
