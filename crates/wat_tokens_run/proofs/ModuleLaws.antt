-- What an error of compiling a module says of the text.
use Rattle.std.proofs.Common.{◌≡◌, ◌<◌, ◌∙◌, ◌^◌, ℕ, true, false, List, [], length, refl, sym, ap, subst}
use Rattle.std.specs.Prelude.{Option, Some, None, Ok, Err, IfSome, IsNone, IsSome, if◌then◌else◌}
use Rattle.std.proofs.lemmas.Bool.Decides.{Decides-ltb}
use Rattle.wat_module_custom.specs.Customs.{CustomSection}
use Rattle.wat_module_encoder.specs.Binary.{module_bytes}
use Rattle.wat_module_encoder.specs.CustomSections as sections
use Rattle.wat_module_ast.specs.Fields.{Field}
use Rattle.wat_lex.specs.errors.Errors.{Report}
use Rattle.wat_lex.specs.declared.lexer.kinds.Token.{Token}
use Rattle.wat_lexer_parser.specs.declared.parser.fault.Fault.{Fault}
use Rattle.wat_lexer_parser.specs.laws.Blanking.{TextShows}
use Rattle.wat_lexer_parser.specs.names.RegisteredNames.{no_names}
use Rattle.wat_lexer_parser.specs.parser.State.{Answers}
use Rattle.wat_tokens_run.specs.Compiles.{DenotesComplete, DenotesValid, DenotesValidComplete, FitsComplete, IsModuleError, IsUnnamedError, IsValidModuleError, Rejected, complete_bytes}
use Rattle.wat_modules.specs.Compiling as modules
use Rattle.wat_modules.specs.Compiling.{Fits, DenotesModule, AnnotationsDefine, Sections, compiled, compiled_complete, fitted, too_long}
use Rattle.wat_modules.specs.Validity.{IsErrorOf}
use Rattle.wat_valid.specs.Modules.{ModuleIsValid}
use Rattle.wat_module_lexer.specs.TokenTerminals.{plain}
use Rattle.wat_module_tokens.specs.Terminals.{Label}

fitted_fits : (text bytes : List ℕ) → length bytes < 2 ^ 32 → fitted text bytes ≡ Ok bytes
fitted_fits text bytes h = ap (λ b. if b then Ok bytes else Err (too_long text)) ((Decides-ltb (length bytes) (2 ^ 32)).1 h)

-- An error other than out of memory is the error of the text, if it is so with the report of the error.
refused_as : {T E V : Type 0} → (text : List ℕ) (f : T → List ℕ) (Spells Fits : V → Type 0) (encoded : V → List ℕ) (IsErrorOfText : Report → Type 0) (error : Option Report) (memory : Option E)
    → ((value : V) → Fits value → length (encoded value) < 2 ^ 32)
    → ((value : V) → Spells value → Answers {T = T} true f (fitted text (encoded value)) (Err error))
    → ((refusal : Report) → error ≡ Some refusal → IsErrorOfText refusal)
    → memory ≡ None → (IsNone error → IsSome memory) → Rejected Spells Fits IsErrorOfText [] error
refused_as text f Spells Fits encoded IsErrorOfText None None short spelled refused n some = absurd (let d : false ≡ true = some refl in cc)
refused_as text f Spells Fits encoded IsErrorOfText None (Some wanting) short spelled refused n some = absurd (let d : Some wanting ≡ None = n in cc)
refused_as text f Spells Fits encoded IsErrorOfText (Some refusal) memory short spelled refused n some =
    record {
      unspelled = λ value h fits. let k : Ok (encoded value) ≡ Err refusal = sym (fitted_fits text (encoded value) (short value fits)) ∙ spelled value h in cc;
      nothing = refl;
      refusal = refusal;
      refused = refused refusal refl;
      reported = refl;
    }

unnamed_error : {T : Type 0} → (text : List ℕ) (f : T → List ℕ) (error : Option Report) (tokens : List Token) (last : Option Fault) → TextShows (plain text) no_names tokens last
    → Answers {T = T} true f (compiled text tokens last) (Err error) → (refusal : Report) → error ≡ Some refusal → IsUnnamedError text refusal
unnamed_error {T} text f error tokens last shown h refusal e =
    record { tokens = tokens; last = last; shown = shown; refused = subst (λ x. Answers {T = T} true f (compiled text tokens last) (Err x)) e h }

pub refused_module : {T E : Type 0} → (text : List ℕ) (f : T → List ℕ) (error : Option Report) (memory : Option E) (tokens : List Token) (last : Option Fault) → TextShows (plain text) no_names tokens last
    → ((fields : List Field) → DenotesModule text fields → Answers {T = T} true f (fitted text (module_bytes fields)) (Err error))
    → Answers {T = T} true f (compiled text tokens last) (Err error)
    → memory ≡ None → (IsNone error → IsSome memory) → Rejected (DenotesModule text) Fits (IsUnnamedError text) [] error
refused_module {T} text f error memory tokens last shown spelled refused n some =
    refused_as {T = T} text f (DenotesModule text) Fits module_bytes (IsUnnamedError text) error memory (λ fields h. h) spelled (unnamed_error {T = T} text f error tokens last shown refused) n some

module_error : {T : Type 0} → (text : List ℕ) (f : T → List ℕ) (error : Option Report) (tokens : List Token) (last : Option Fault) (customs : Sections) → TextShows (plain text) no_names tokens last → AnnotationsDefine text customs
    → Answers {T = T} true f (compiled_complete customs text tokens last) (Err error) → (refusal : Report) → error ≡ Some refusal → IsModuleError text refusal
module_error {T} text f error tokens last customs shown are h refusal e =
    record { tokens = tokens; last = last; shown = shown; customs = customs; are = are; refused = subst (λ x. Answers {T = T} true f (compiled_complete customs text tokens last) (Err x)) e h }

pub refused_complete : {T E : Type 0} → (text : List ℕ) (f : T → List ℕ) (error : Option Report) (memory : Option E) (tokens : List Token) (last : Option Fault) (customs : Sections) → TextShows (plain text) no_names tokens last → AnnotationsDefine text customs
    → ((l : Label) (fields : List Field) (cs : List CustomSection) → modules.DenotesComplete text l fields cs → Answers {T = T} true f (fitted text (sections.complete_bytes l fields cs)) (Err error))
    → Answers {T = T} true f (compiled_complete customs text tokens last) (Err error)
    → memory ≡ None → (IsNone error → IsSome memory) → Rejected (DenotesComplete text) FitsComplete (IsModuleError text) [] error
refused_complete {T} text f error memory tokens last customs shown are spelled refused n some =
    refused_as {T = T} text f (DenotesComplete text) FitsComplete complete_bytes (IsModuleError text) error memory (λ m h. h)
    (λ m h. spelled m.label m.fields m.sections h) (module_error {T = T} text f error tokens last customs shown are refused) n some

of_some : {A : Type 0} (P : A → Type 0) (error : Option A) → IfSome error P → (a : A) → error ≡ Some a → P a
of_some P error h a e = subst (λ x. IfSome x P) e h

pub refused_valid : {T E : Type 0} → (text : List ℕ) (f : T → List ℕ) (error : Option Report) (memory : Option E)
    → ((fields : List Field) → DenotesModule text fields → ModuleIsValid fields → Answers {T = T} true f (fitted text (module_bytes fields)) (Err error))
    → IfSome error (IsErrorOf modules.Bare text)
    → memory ≡ None → (IsNone error → IsSome memory) → Rejected (DenotesValid text) Fits (IsErrorOf modules.Bare text) [] error
refused_valid {T} text f error memory spelled errors n some =
    refused_as {T = T} text f (DenotesValid text) Fits module_bytes (IsErrorOf modules.Bare text) error memory (λ fields h. h) (λ fields d. spelled fields d.0 d.1)
    (of_some (IsErrorOf modules.Bare text) error errors) n some

pub refused_valid_complete : {T E : Type 0} → (text : List ℕ) (f : T → List ℕ) (error : Option Report) (memory : Option E) (customs : Sections) → AnnotationsDefine text customs
    → ((l : Label) (fields : List Field) (cs : List CustomSection) (d : modules.DenotesComplete text l fields cs) → ModuleIsValid d.fields → Answers {T = T} true f (fitted text (sections.complete_bytes l fields cs)) (Err error))
    → IfSome error (IsErrorOf (modules.Complete customs) text)
    → memory ≡ None → (IsNone error → IsSome memory) → Rejected (DenotesValidComplete text) FitsComplete (IsValidModuleError text) [] error
refused_valid_complete {T} text f error memory customs are spelled errors n some =
    refused_as {T = T} text f (DenotesValidComplete text) FitsComplete complete_bytes (IsValidModuleError text) error memory (λ m h. h) (λ m d. spelled m.label m.fields m.sections d.0 d.1)
    (λ refusal e. record { customs = customs; are = are; refused = of_some (IsErrorOf (modules.Complete customs) text) error errors refusal e }) n some
