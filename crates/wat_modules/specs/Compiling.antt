-- WebAssembly 2.0, 6.6.13 (text format, modules), 5.5.16 (binary format, modules) and 7.4.1 (name section), and 3.0,
-- appendix, custom annotations and name annotations: which text denotes which module, and the result of compiling a text.
use Rattle.std.specs.Prelude.{◌≡◌, ◌<◌, ℕ, ◌^◌, ◌++◌, nat_lt, Bool, true, false, List, [], length, map, codes, if◌then◌else◌, Option, Some, None, Result, Ok, Err}
use Rattle.wat_lex.specs.declared.lexer.kinds.Token.{Token}
use Rattle.wat_lex.specs.errors.Errors.{Report, Custom, report_in}
use Rattle.wat_lexer_parser.specs.declared.parser.fault.Fault.{Fault}
use Rattle.wat_lexer_parser.specs.parser.State.{report_of}
use Rattle.wat_module_ast.specs.Grammar as grammar
use Rattle.wat_module_tokens.specs.Terminals.{Terminal, Label}
use Rattle.wat_modules.specs.Messages.{message, place}
use Rattle.wat_module_lexer.specs.TokenTerminals.{Shows, terminal_of}
use Rattle.wat_module_annotations.specs.Names.{ModuleNames, no_names}
use Rattle.wat_module_annotations.specs.Renaming.{HasNames, named, renamed}
use Rattle.wat_module_custom.specs.Customs.{CustomSection}
use Rattle.wat_module_custom.specs.Customs as custom
use Rattle.wat_module_custom.specs.Search.{may_have}
use Rattle.wat_module_custom.specs.declared.search.Sought.TheVariants as sought
use Rattle.wat_module_encoder.specs.Binary.{module_bytes}
use Rattle.wat_module_encoder.specs.CustomSections.{complete_bytes}
use Rattle.wat_module_encoder.specs.NameSection.{name_section}
use Rattle.wat_module_ast.specs.Fields.{Field}
use Rattle.wat_module_ast.specs.Modules.{Module}
use Rattle.wat_module_parser.specs.Reading as reading

-- 6.6.13: `DenotesModule text fs`: the text has no error (`Shows`), and its visible tokens match the grammar of a module
-- with the fields `fs`, which nothing follows.
pub record DenotesModule (text : List ℕ) (fs : List Field) : Type 0 where
  pub terminals : List Terminal
  pub shown : Shows text terminals
  pub spelled : Module terminals fs

-- The identifier with which these tokens begin, if there are tokens and they begin with one.
abbrev pub name_after : Option (List Terminal) → Label
name_after (Some ts) = (grammar.label_of ts).0
name_after None = None

-- 6.6.13: the identifier of a module with these tokens: that after `(module`, if there is one. `(module )` may be omitted
-- (`by_fields`), and no field has the keyword `module`.
abbrev pub module_name : List Terminal → Label
module_name ts = name_after (grammar.after (codes "module") ts)

-- `DenotesNamed text l fs`: the text denotes a module with the fields `fs`, and `l` is the identifier of the module, or
-- `None` if it has none. The identifier is determined by the tokens, as the fields are.
pub record DenotesNamed (text : List ℕ) (l : Label) (fs : List Field) : Type 0 where
  pub terminals : List Terminal
  pub shown : Shows text terminals
  pub spelled : Module terminals fs
  pub named : module_name terminals ≡ l

-- What the annotations of a text define: custom sections, and names of items.
pub record Annotations : Type 0 where
  pub customs : List CustomSection
  pub names : ModuleNames

abbrev pub annotations : List CustomSection → ModuleNames → Annotations
annotations cs ns = record { customs = cs; names = ns }

-- What annotations define, or the error in them.
abbrev pub Sections : Type 0
Sections = Result Annotations Report

-- Custom sections and names, or the first error: one in custom annotations precedes one in name annotations.
abbrev pub both : Result (List CustomSection) Report → Result ModuleNames Report → Sections
both (Ok cs) (Ok ns) = Ok (annotations cs ns)
both (Ok cs) (Err r) = Err r
both (Err r) names = Err r

-- 3.0, appendix, custom annotations and name annotations: `AnnotationsDefine text r`: `r` is what the annotations of the text
-- define, or the error in them.
pub record AnnotationsDefine (text : List ℕ) (r : Sections) : Type 0 where
  pub customs : Result (List CustomSection) Report
  pub names : Result ModuleNames Report
  pub has_customs : custom.HasSections text customs
  pub has_names : HasNames text names
  pub are : r ≡ both customs names

-- The identifier of a module and its fields, with the names of annotations instead of identifiers.
abbrev pub named_module : ModuleNames → Label → Label
named_module ns l = named ns.of_module l

abbrev pub named_fields : ModuleNames → List Field → List Field
named_fields ns fs = renamed ns.fields fs

-- 6.6.13, and 3.0, appendix, custom annotations and name annotations: `DenotesComplete text l fs cs`: the text denotes a
-- module, and its annotations define names and the custom sections `cs`, without an error. The module has the identifier
-- `l` and the fields `fs`, with the names of annotations instead of identifiers.
pub record DenotesComplete (text : List ℕ) (l : Label) (fs : List Field) (cs : List CustomSection) : Type 0 where
  pub identifier : Label
  pub fields : List Field
  pub names : ModuleNames
  pub denoted : DenotesNamed text identifier fields
  pub sections : AnnotationsDefine text (Ok (annotations cs names))
  pub named : l ≡ named_module names identifier
  pub renamed : fs ≡ named_fields names fields

-- Theorem: a text denotes at most one module.
abbrev pub SpellingIsOne : Type 0
SpellingIsOne = (text : List ℕ) (fs gs : List Field) → DenotesModule text fs → DenotesModule text gs → fs ≡ gs

-- Theorem: what the annotations of a text define, or the error in them, is unique.
abbrev pub SectionsAreOne : Type 0
SectionsAreOne = (text : List ℕ) (r q : Sections) → AnnotationsDefine text r → AnnotationsDefine text q → r ≡ q

-- Theorem: a text denotes at most one module with its identifier and its custom sections.
abbrev pub CompleteIsOne : Type 0
CompleteIsOne = (text : List ℕ) (l m : Label) (fs gs : List Field) (cs ds : List CustomSection) → DenotesComplete text l fs cs → DenotesComplete text m gs ds → (l ≡ m) × (fs ≡ gs) × (cs ≡ ds)

-- `Fits fs`: the binary of the module is shorter than 2^32 bytes. This limit is the library's, so that all sizes are
-- `u32`: 5.5.2 limits the size of each section, but not that of the module. Counts of locals (5.5.13) are `u32`
-- because the text is shorter than 2^32 bytes.
abbrev pub Fits : List Field → Type 0
Fits fs = length (module_bytes fs) < 2 ^ 32

-- 5.5.16, 7.4.1: the binary of a module with this identifier and these fields, followed by its name section.
abbrev pub named_bytes : Label → List Field → List ℕ
named_bytes l fs = module_bytes fs ++ name_section l fs

-- `FitsNamed l fs`: the binary of the module with its name section is shorter than 2^32 bytes.
abbrev pub FitsNamed : Label → List Field → Type 0
FitsNamed l fs = length (named_bytes l fs) < 2 ^ 32

-- `FitsComplete l fs cs`: the binary of the module with its name section and these custom sections is shorter than 2^32
-- bytes.
abbrev pub FitsComplete : Label → List Field → List CustomSection → Type 0
FitsComplete l fs cs = length (complete_bytes l fs cs) < 2 ^ 32

-- Theorem: without custom sections the binary is that with the name section alone.
abbrev pub CompleteIsNamed : Type 0
CompleteIsNamed = (l : Label) (fs : List Field) → complete_bytes l fs [] ≡ named_bytes l fs

-- The errors of the compiler; `Messages` has those of syntax errors. The standard does not define them.

abbrev pub too_long : List ℕ → Report
too_long text = report_in text 0 (Custom (codes "module too long"))

-- The bytes of a module, or an error if there are 2^32 or more.
abbrev pub fitted : List ℕ → List ℕ → Result (List ℕ) Report
fitted text bytes = if nat_lt (length bytes) (2 ^ 32) then Ok bytes else Err (too_long text)

-- What a binary has besides the fields: nothing, a name section, or a name section and what these annotations define.
pub data Wanted : Type 0 where
  Bare : Wanted
  Named : Wanted
  Complete : Sections → Wanted

-- With a name section if `has_names` is true.
abbrev pub wanted : Bool → Wanted
wanted false = Bare
wanted true = Named

-- The result for a module with this identifier and these fields. An error in annotations is reported instead of that of a
-- result that is too long.
abbrev pub finished : Wanted → List ℕ → Label → List Field → Result (List ℕ) Report
finished Bare text l fs = fitted text (module_bytes fs)
finished Named text l fs = fitted text (named_bytes l fs)
finished (Complete (Ok a)) text l fs = fitted text (complete_bytes (named_module a.names l) (named_fields a.names fs) a.customs)
finished (Complete (Err r)) text l fs = Err r

-- The result of compiling a text by the identifier of the module and the result of parsing the visible tokens.
abbrev pub compiled_by : Wanted → Label → List ℕ → List Token → Result (List Field) grammar.Fault → Result (List ℕ) Report
compiled_by w l text tokens (Ok fs) = finished w text l fs
compiled_by w l text tokens (Err f) = Err (report_in text (place text tokens (length f.1)) (Custom (message text tokens f.0 (length f.1))))

-- The result of compiling a text, by its visible tokens, if it has no error.
unfoldable pub compiled_tokens : Wanted → List ℕ → List Token → Result (List ℕ) Report
compiled_tokens w text tokens = compiled_by w (module_name (map (terminal_of text) tokens)) text tokens (reading.whole (map (terminal_of text) tokens))

-- The result of compiling a text, by its visible tokens and the error after them, if there is one.
abbrev pub compiled_with : Wanted → List ℕ → List Token → Option Fault → Result (List ℕ) Report
compiled_with w text tokens None = compiled_tokens w text tokens
compiled_with w text tokens (Some f) = Err (report_of text f)

-- The result of compiling a text, with a name section if `has_names` is true.
abbrev pub compiled_as : Bool → List ℕ → List Token → Option Fault → Result (List ℕ) Report
compiled_as has_names text tokens last = compiled_with (wanted has_names) text tokens last

-- The result of compiling a text without a name section.
abbrev pub compiled : List ℕ → List Token → Option Fault → Result (List ℕ) Report
compiled text tokens last = compiled_as false text tokens last

-- The result of compiling a text with a name section.
abbrev pub compiled_named : List ℕ → List Token → Option Fault → Result (List ℕ) Report
compiled_named text tokens last = compiled_as true text tokens last

-- The result of compiling a text with a name section and what these annotations define.
abbrev pub compiled_complete : Sections → List ℕ → List Token → Option Fault → Result (List ℕ) Report
compiled_complete r text tokens last = compiled_with (Complete r) text tokens last

-- Theorem: if no annotation of the name `custom` or `name` may begin in a text, its annotations define nothing. The result of
-- compiling it with what they define is then that with the name section alone.
pub record UnannotatedIsNamed : Type 0 where
  pub sections : (text : List ℕ) (r : Sections) → may_have sought.Either text ≡ false → AnnotationsDefine text r → r ≡ Ok (annotations [] no_names)
  pub result : (text : List ℕ) (tokens : List Token) (last : Option Fault) → compiled_complete (Ok (annotations [] no_names)) text tokens last ≡ compiled_named text tokens last
