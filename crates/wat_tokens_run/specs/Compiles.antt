-- WebAssembly specification, text format and binary format: modules. The output of the commands `types` and `module`:
-- the bytes of the module that the grammar derives from the text, or no bytes and an error. That no bytes are written
-- with an error is not part of the standard.
use Rattle.std.specs.Prelude.{◌≡◌, ◌<◌, ◌^◌, Bool, false, true, ℕ, List, [], length, Option, Some, Err, MatchOption}
use Rattle.std.specs.Str.{IsUtf8}
use Rattle.wat_module_ast.specs.Fields.{Field}
use Rattle.wat_lex.specs.errors.Errors.{Report}
use Rattle.wat_lex.specs.tokens.Tiling.{MaximalTiling}
use Rattle.wat_lex.specs.declared.lexer.faults.LexFault.{LexFault}
use Rattle.wat_lex.specs.declared.lexer.kinds.Token.{Token}
use Rattle.wat_lexer_parser.specs.declared.parser.fault.Fault.{Fault}
use Rattle.wat_lexer_parser.specs.laws.Blanking.{TextShows}
use Rattle.wat_lexer_parser.specs.names.RegisteredNames.{no_names}
use Rattle.wat_module_custom.specs.Customs.{CustomSection}
use Rattle.wat_modules.specs.Compiling as modules
use Rattle.wat_modules.specs.Validity.{IsErrorOf}
use Rattle.wat_tokens_args.specs.declared.options.ModuleOptions.{ModuleOptions}
use Rattle.wat_valid.specs.Modules.{ModuleIsValid}
use Rattle.wat_module_lexer.specs.TokenTerminals as lexer
use Rattle.wat_module_tokens.specs.Terminals.{Label}
use Rattle.wat_module_encoder.specs.Binary as encoder
use Rattle.wat_module_encoder.specs.CustomSections as sections
use Rattle.wat_types.specs.Binary as binary
use Rattle.wat_types.specs.Compiling as types
use Rattle.wat_types.specs.Signatures.{Signature}

-- `Compiled Spells Fits encoded written`: the bytes `written` are the encoding of a value. `Spells v` states that the
-- grammar derives the text with the value `v`, `Fits v` that its encoding is short enough, and `encoded v` is that
-- encoding.
pub record Compiled {V : Type 0} (Spells : V → Type 0) (Fits : V → Type 0) (encoded : V → List ℕ) (written : List ℕ) : Type 0 where
  pub value : V
  pub spelled : Spells value
  pub fit : Fits value
  pub bytes : written ≡ encoded value

-- `Rejected Spells Fits IsErrorOfText written error`: the grammar derives the text with no value whose encoding is short
-- enough, no byte is written, and `error` is the error of the text.
pub record Rejected {V : Type 0} (Spells : V → Type 0) (Fits : V → Type 0) (IsErrorOfText : Report → Type 0) (written : List ℕ) (error : Option Report) : Type 0 where
  pub unspelled : (value : V) → Spells value → ¬ Fits value
  pub nothing : written ≡ []
  pub refusal : Report
  pub refused : IsErrorOfText refusal
  pub reported : error ≡ Some refusal

-- `Compiles Spells Fits encoded IsErrorOf bytes written error`: the bytes are a text of at most 2^32-1 bytes. Without an
-- error, `written` is the encoding of the text's value; otherwise it is empty, and the text has that error.
pub record Compiles {V : Type 0} (Spells : List ℕ → V → Type 0) (Fits : V → Type 0) (encoded : V → List ℕ) (IsErrorOf : List ℕ → Report → Type 0) (bytes written : List ℕ) (error : Option (Option Report)) : Type 0 where
  pub utf8 : IsUtf8 bytes
  pub short : length bytes < 2 ^ 32
  pub compiled : MatchOption error (Compiled (Spells bytes) Fits encoded written) (Rejected (Spells bytes) Fits (IsErrorOf bytes) written)

-- `IsTypesError text refusal`: `types` rejects the text's raw tokens, which tile it up to its end or its first lexical
-- error, with the error `refusal`.
pub record IsTypesError (text : List ℕ) (refusal : Report) : Type 0 where
  pub tokens : List Token
  pub ending : Option LexFault
  pub tiling : MaximalTiling (types.plain text) 0 tokens ending
  pub refused : types.compiled_text (record { setting = types.plain text; track = false; tokens = tokens; ending = ending }) ≡ Err refusal

-- The output of `types`, for a module of function types.
abbrev pub CompilesTypes : List ℕ → List ℕ → Option (Option Report) → Type 0
CompilesTypes = Compiles {V = List Signature} types.SpellsTypes binary.Fits binary.module_bytes IsTypesError

-- `IsUnnamedError text refusal`: `module --no-names --no-validate` rejects the text's visible tokens, or the error after them, with the
-- error `refusal`.
pub record IsUnnamedError (text : List ℕ) (refusal : Report) : Type 0 where
  pub tokens : List Token
  pub last : Option Fault
  pub shown : TextShows (lexer.plain text) no_names tokens last
  pub refused : modules.compiled text tokens last ≡ Err refusal

-- The output of `module --no-names --no-validate`, for a module of any fields.
abbrev pub CompilesUnnamed : List ℕ → List ℕ → Option (Option Report) → Type 0
CompilesUnnamed = Compiles {V = List Field} modules.DenotesModule modules.Fits encoder.module_bytes IsUnnamedError

-- 3.4.10: the text denotes a module with these fields, which is valid.
abbrev pub DenotesValid : List ℕ → List Field → Type 0
DenotesValid text fs = modules.DenotesModule text fs × ModuleIsValid fs

-- The output of `module --no-names`, for a valid module of any fields.
abbrev pub CompilesValidUnnamed : List ℕ → List ℕ → Option (Option Report) → Type 0
CompilesValidUnnamed = Compiles {V = List Field} DenotesValid modules.Fits encoder.module_bytes (IsErrorOf modules.Bare)

-- A module of a text: its identifier and its fields, with the names of annotations instead of identifiers, and the custom
-- sections of its annotations.
pub record Complete : Type 0 where
  pub label : Label
  pub fields : List Field
  pub sections : List CustomSection

abbrev pub DenotesComplete : List ℕ → Complete → Type 0
DenotesComplete text m = modules.DenotesComplete text m.label m.fields m.sections

abbrev pub FitsComplete : Complete → Type 0
FitsComplete m = modules.FitsComplete m.label m.fields m.sections

abbrev pub complete_bytes : Complete → List ℕ
complete_bytes m = sections.complete_bytes m.label m.fields m.sections

-- `IsModuleError text refusal`: `module --no-validate` rejects the text's visible tokens, the error after them, or its annotations, which
-- define `customs`, with the error `refusal`.
pub record IsModuleError (text : List ℕ) (refusal : Report) : Type 0 where
  pub tokens : List Token
  pub last : Option Fault
  pub shown : TextShows (lexer.plain text) no_names tokens last
  pub customs : modules.Sections
  pub are : modules.AnnotationsDefine text customs
  pub refused : modules.compiled_complete customs text tokens last ≡ Err refusal

-- The output of `module --no-validate`, for a module of any fields: its bytes, with those of its name section and of its custom
-- sections.
abbrev pub CompilesComplete : List ℕ → List ℕ → Option (Option Report) → Type 0
CompilesComplete = Compiles {V = Complete} DenotesComplete FitsComplete complete_bytes IsModuleError

-- A valid module of a text.
abbrev pub DenotesValidComplete : List ℕ → Complete → Type 0
DenotesValidComplete text m = (d : DenotesComplete text m) × ModuleIsValid d.fields

-- `IsValidModuleError text refusal`: `module` rejects the text, whose annotations define `customs`, with the error `refusal`.
pub record IsValidModuleError (text : List ℕ) (refusal : Report) : Type 0 where
  pub customs : modules.Sections
  pub are : modules.AnnotationsDefine text customs
  pub refused : IsErrorOf (modules.Complete customs) text refusal

-- The output of `module`, for a valid module of any fields: its bytes, with those of its name section and of its custom
-- sections.
abbrev pub CompilesValid : List ℕ → List ℕ → Option (Option Report) → Type 0
CompilesValid = Compiles {V = Complete} DenotesValidComplete FitsComplete complete_bytes IsValidModuleError

-- The output of `module`, with a name section and custom sections, or with neither (`named`), and of valid modules alone, or
-- of all (`checked`).
abbrev pub CompilesAs : Bool → Bool → List ℕ → List ℕ → Option (Option Report) → Type 0
CompilesAs true true = CompilesValid
CompilesAs true false = CompilesComplete
CompilesAs false true = CompilesValidUnnamed
CompilesAs false false = CompilesUnnamed

abbrev pub CompilesModule : ModuleOptions → List ℕ → List ℕ → Option (Option Report) → Type 0
CompilesModule options = CompilesAs options.has_names options.is_checked
