-- WebAssembly 2.0, 6.4.1 (number types), 6.4.5 (function types), 6.6.2 (type definitions) and 6.6.13 (modules). The
-- readings of this crate's types, in the order of its parsers' calls. Each is one rule of the grammar.
use Rattle.std.specs.Prelude.{ℕ, false, List, [], ◌∷◌, Option, Some, None}
use Rattle.wat_lexer_parser.specs.parser.Sights.{Sight, second}
use Rattle.wat_lexer_parser.specs.parser.Takers.{as_keyword}
use Rattle.wat_lexer_parser.specs.readings.Choices.{Choice, choice, one_of}
use Rattle.wat_lexer_parser.specs.readings.Readings.{Reading, allocated, and_then, group, joined_while, many, mapped, optional, more_comes}
use Rattle.wat_lexer_parser.specs.readings.Types.{Spelled, an_identifier, identifier, keyword, sees_word}
use Rattle.wat_types.specs.Signatures.{Signature}
use Rattle.wat_types.specs.declared.types.ValType.{ValType}
use Rattle.wat_types.specs.declared.types.ValType.TheVariants.{I32, I64, F32, F64}
use Rattle.wat_words.specs.Words.{quoted, standard_word}

-- The keywords, by their indices in the table of standard keywords.
abbrev pub f32_word : List ℕ
f32_word = standard_word 48

abbrev pub f64_word : List ℕ
f64_word = standard_word 50

abbrev pub func_word : List ℕ
func_word = standard_word 54

abbrev pub i32_word : List ℕ
i32_word = standard_word 62

abbrev pub i64_word : List ℕ
i64_word = standard_word 64

abbrev pub module_word : List ℕ
module_word = standard_word 78

abbrev pub param_word : List ℕ
param_word = standard_word 98

abbrev pub type_word : List ℕ
type_word = standard_word 106

abbrev pub result_word : List ℕ
result_word = standard_word 118

abbrev pub kw : List ℕ → Reading ℕ
kw word = keyword false word

abbrev pub sees : List ℕ → Sight
sees word = sees_word as_keyword word

-- An alternative of a number type: its keyword is consumed.
abbrev pub number_type : ValType → List ℕ → Choice ValType
number_type v word = choice (sees word) (quoted false word) (mapped (λ at. v) (kw word))

-- The four number types, in the order of their peeks.
abbrev pub number_types : List (Choice ValType)
number_types = number_type I32 i32_word ∷ number_type I64 i64_word ∷ number_type F32 f32_word ∷ number_type F64 f64_word ∷ []

unfoldable pub val : Reading ValType
val = one_of number_types

-- The number types up to `)`.
abbrev pub vals : Reading (List ValType)
vals = many val

-- An identifier, if one is next.
abbrev pub name : Reading (Option Spelled)
name = optional an_identifier identifier

-- One number type after an identifier, otherwise all up to `)`.
abbrev pub named_or_all : Option Spelled → Reading (List ValType)
named_or_all (Some i) = allocated (mapped (λ v. v ∷ []) val)
named_or_all None = vals

-- The contents of a `(param ..)` group.
unfoldable pub param : Reading (List ValType)
param = and_then (kw param_word) (λ at. and_then name named_or_all)

-- The contents of a `(result ..)` group.
unfoldable pub returns : Reading (List ValType)
returns = and_then (kw result_word) (λ at. vals)

-- The types of all `param` groups, and those of all groups up to `)`, which must be `result` groups; both are
-- concatenated.
abbrev pub params : Reading (List ValType)
params = joined_while (second (sees param_word)) (group param)

abbrev pub results : Reading (List ValType)
results = joined_while more_comes (group returns)

-- The contents of a `(func ..)` group.
unfoldable pub func : Reading Signature
func = and_then (kw func_word) (λ at. and_then params (λ ps. mapped (λ rs. record { params = ps; results = rs }) results))

-- The contents of a `(type ..)` group.
unfoldable pub definition : Reading Signature
definition = and_then (kw type_word) (λ at. and_then name (λ n. group func))

-- The types of a module, up to its `)`.
abbrev pub definitions : Reading (List Signature)
definitions = many (group definition)

-- The contents of a `(module ..)` group.
unfoldable pub fields : Reading (List Signature)
fields = and_then (kw module_word) (λ at. definitions)

abbrev pub module_types : Reading (List Signature)
module_types = group fields
