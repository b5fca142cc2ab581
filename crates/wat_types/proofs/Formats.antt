-- The readings of this crate as formats, each with its rule.
use Rattle.std.proofs.Common.{◌≡◌, ◌∙◌, true, false, ℕ, List, [], ◌∷◌, Some, None, ap, refl}
use Rattle.std.specs.Prelude.{Option, codes}
use Rattle.wat_lexer_parser.specs.parser.Sights.{second as second_sight}
use Rattle.wat_lexer_parser.specs.readings.Readings as readings
use Rattle.wat_lexer_parser.specs.readings.Readings.{Reading, more_comes as more_sight}
use Rattle.wat_lexer_parser.specs.readings.Types.{Spelled}
use Rattle.wat_lexer_parser.specs.readings.Types as types
use Rattle.wat_lexer_parser.specs.rules.Formats.{Format, Choices, one_of, choice, nothing_else, mapped, and_then, group, many, joined_while, optional, second, more_comes, allocated}
use Rattle.wat_lexer_parser.specs.rules.FormatTypes.{keyword, a_keyword, an_identifier, identifier}
use Rattle.wat_types.specs.Meanings as meanings
use Rattle.wat_types.specs.Signatures.{Signature}
use Rattle.wat_types.specs.declared.types.ValType.{ValType}
use Rattle.wat_types.specs.declared.types.ValType.TheVariants.{I32, I64, F32, F64}
use Rattle.wat_words.specs.Words.{quoted, standard_word, standard_words}

abbrev pub number_type : ValType → List ℕ → Choices ValType → Choices ValType
number_type v w rest = choice (a_keyword w) (quoted false w) (mapped (λ at. v) (keyword w)) rest

unfoldable pub val : Format ValType
val = one_of (number_type I32 (codes "i32") (number_type I64 (codes "i64") (number_type F32 (codes "f32") (number_type F64 (codes "f64") nothing_else))))

pub val_takes : val.takes_token ≡ true
unfolding val
val_takes = refl

abbrev pub vals : Format (List ValType)
vals = many val val_takes

abbrev pub name : Format (Option Spelled)
name = optional an_identifier identifier

abbrev pub named_or_all : Option Spelled → Format (List ValType)
named_or_all (Some i) = allocated (mapped (λ v. v ∷ []) val)
named_or_all None = vals

unfoldable pub param : Format (List ValType)
param = and_then (keyword (codes "param")) (λ at. and_then name named_or_all)

unfoldable pub returns : Format (List ValType)
returns = and_then (keyword (codes "result")) (λ at. vals)

unfoldable pub func : Format Signature
func =
    and_then (keyword (codes "func")) (λ at. and_then (joined_while (second (a_keyword (codes "param"))) (group param) refl)
    (λ ps. mapped (λ rs. record { params = ps; results = rs }) (joined_while more_comes (group returns) refl)))

unfoldable pub definition : Format Signature
definition = and_then (keyword (codes "type")) (λ at. and_then name (λ n. group func))

abbrev pub module_types : Format (List Signature)
module_types = group (and_then (keyword (codes "module")) (λ at. many (group definition) refl))

-- The readings of these formats are those of the parsers' contracts.

val_is : val.reading ≡ meanings.val
unfolding val meanings.val types.keyword standard_word standard_words
val_is = refl

named_is : (i : Option Spelled) → (named_or_all i).reading ≡ meanings.named_or_all i
named_is (Some i) = ap (λ m. readings.allocated (readings.mapped (λ v. v ∷ []) m)) val_is
named_is None = ap (λ m. readings.many m) val_is

param_is : param.reading ≡ meanings.param
unfolding param meanings.param types.keyword standard_word standard_words
param_is =
    let each : (λ i. (named_or_all i).reading) ≡ meanings.named_or_all = λ at i. named_is i at in
    ap (λ next. readings.and_then (meanings.kw meanings.param_word) (λ at. readings.and_then meanings.name next)) each

returns_is : returns.reading ≡ meanings.returns
unfolding returns meanings.returns types.keyword standard_word standard_words
returns_is = ap (λ m. readings.and_then (meanings.kw meanings.result_word) (λ at. readings.many m)) val_is

abbrev func_of : Reading (List ValType) → Reading (List ValType) → Reading Signature
func_of p r =
    readings.and_then (meanings.kw meanings.func_word) (λ at. readings.and_then (readings.joined_while (second_sight (meanings.sees meanings.param_word)) (readings.group p))
    (λ ps. readings.mapped (λ rs. record { params = ps; results = rs }) (readings.joined_while more_sight (readings.group r))))

func_is : func.reading ≡ meanings.func
unfolding func meanings.func types.keyword standard_word standard_words
func_is = ap (λ p. func_of p returns.reading) param_is ∙ ap (λ r. func_of meanings.param r) returns_is

definition_is : definition.reading ≡ meanings.definition
unfolding definition meanings.definition types.keyword standard_word standard_words
definition_is = ap (λ f. readings.and_then (meanings.kw meanings.type_word) (λ at. readings.and_then meanings.name (λ n. readings.group f))) func_is

pub module_is : module_types.reading ≡ meanings.module_types
unfolding meanings.fields types.keyword standard_word standard_words
module_is = ap (λ d. readings.group (readings.and_then (meanings.kw meanings.module_word) (λ at. readings.many (readings.group d)))) definition_is
