-- The error of a module that is not valid.
use Rattle.std.proofs.Common.{◌≡◌, ℕ, List, ap, subst, map, Option, Some, None}
use Rattle.wat_lex.specs.declared.lexer.kinds.Token.{Token}
use Rattle.wat_lex.specs.errors.Errors.{Report, Custom, IsUnlessMemory, report_in}
use Rattle.wat_lex.specs.tokens.EverySetting.{TilingsAreUnique}
use Rattle.wat_lexer_parser.specs.laws.Blanking.{TextShows}
use Rattle.wat_lexer_parser.specs.laws.ShownLaws.{AllShownIsOne}
use Rattle.wat_lexer_parser.specs.names.RegisteredNames.{no_names}
use Rattle.wat_module_ast.specs.Fields.{Field}
use Rattle.wat_module_ast.specs.Modules.{Module}
use Rattle.wat_module_lexer.specs.TokenTerminals.{plain, terminal_of}
use Rattle.wat_module_tokens.specs.Terminals.{Terminal}
use Rattle.wat_modules.specs.Messages.{place}
use Rattle.wat_modules.specs.Validity.{RefusesFields}
use Rattle.wat_modules.specs.ValidityMessages as messages
use Rattle.wat_valid.specs.declared.code.Cause.{Cause}
use Rattle.wat_valid.specs.FirstErrors.{FirstInvalid}
use Rattle.wat_valid.specs.Modules.{ModuleIsValid}

pub refuses_by : (text : List ℕ) (ts : List Terminal) (fs : List Field) (field : ℕ) (reason : Cause) (e : Option Report) → (ModuleIsValid fs → ⊥) → FirstInvalid fs field reason
    → ((shown : List Token) → TextShows (plain text) no_names shown None → ts ≡ map (terminal_of text) shown → (m : Module ts fs) → IsUnlessMemory e (messages.report text shown m field reason)) → RefusesFields text ts fs e
refuses_by text ts fs field reason None v f h = tt
refuses_by text ts fs field reason (Some r) v f h = record { invalid = v; reported = λ us s are m. record { field = field; reason = reason; first = f; is = h us s are m } }

pub same_report : (text : List ℕ) (us vs : List Token) (left k : ℕ) (w v : List ℕ) (e : Option Report) → us ≡ vs → left ≡ k → w ≡ v → IsUnlessMemory e (report_in text (place text us left) (Custom w)) → IsUnlessMemory e (report_in text (place text vs k) (Custom v))
same_report text us vs left k w v e a b c h =
    subst (λ x. IsUnlessMemory e (report_in text (place text vs k) (Custom x))) c (subst (λ n. IsUnlessMemory e (report_in text (place text vs n) (Custom w))) b (subst (λ ts. IsUnlessMemory e (report_in text (place text ts left) (Custom w))) a h))
