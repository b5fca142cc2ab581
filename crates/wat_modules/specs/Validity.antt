-- WebAssembly 2.0, 3.4.10 (validation, modules): the result for a text that denotes a module, if modules are validated. Which
-- modules are valid is defined in `wat_valid` (`Modules`).
use Rattle.std.specs.Prelude.{◌≡◌, ℕ, Bool, true, List, map, Option, Some, None, Result, Err, Vec}
use Rattle.std.specs.Result.{IsErrAnd}
use Rattle.std.specs.declared.alloc.Global.{Global}
use Rattle.wat_lex.specs.declared.lexer.kinds.Token.{Token}
use Rattle.wat_lex.specs.errors.Errors.{Report}
use Rattle.wat_lexer_parser.specs.laws.Blanking.{TextShows}
use Rattle.wat_lexer_parser.specs.names.RegisteredNames.{no_names}
use Rattle.wat_module_ast.specs.Fields.{Field}
use Rattle.wat_module_ast.specs.Modules.{Module}
use Rattle.wat_module_lexer.specs.TokenTerminals.{plain, terminal_of}
use Rattle.wat_module_tokens.specs.Terminals.{Terminal}
use Rattle.wat_lexer_parser.specs.parser.State.{Answers}
use Rattle.wat_lexer_parser.specs.declared.parser.fault.Fault.{Fault}
use Rattle.wat_modules.specs.Compiling.{DenotesModule, Wanted, compiled_tokens, compiled_with}
use Rattle.wat_modules.specs.ValidityMessages as messages
use Rattle.wat_valid.specs.declared.code.Cause.{Cause}
use Rattle.wat_valid.specs.FirstErrors.{FirstInvalid}
use Rattle.wat_valid.specs.Modules.{ModuleIsValid}

-- `IsReport text tokens m r`: the fields of the module `m`, whose visible tokens are `tokens`, are not valid, and `r` is the
-- error: it is about the first field that is not valid, and a reason for which it is not.
pub record IsReport {ts : List Terminal} {fs : List Field} (text : List ℕ) (tokens : List Token) (m : Module ts fs) (r : Report) : Type 0 where
  pub field : ℕ
  pub reason : Cause
  pub first : FirstInvalid fs field reason
  pub is : r ≡ messages.report text tokens m field reason

-- `IsInvalid text fs m e`: the text denotes a module that is not valid, and `e` is the error, or `None` for an allocation
-- failure.
abbrev pub IsInvalid : (text : List ℕ) (fs : List Field) → DenotesModule text fs → Option Report → Type 0
IsInvalid text fs m None = Unit {0}
IsInvalid text fs m (Some r) = IsReport text m.shown.tokens m.spelled r

-- The module that a text denotes, if it denotes one, is valid.
abbrev pub IsValidText : List ℕ → Type 0
IsValidText text = (fs : List Field) → DenotesModule text fs → ModuleIsValid fs

-- `IsErrorOf w text r`: `r` is the error of a text, with what `w` names: that of a module that is not valid, or, if the text
-- denotes none or a valid one, that without validation.
pub data IsErrorOf (w : Wanted) (text : List ℕ) (r : Report) : Type 0 where
  of_invalid : (fs : List Field) (m : DenotesModule text fs) → (ModuleIsValid fs → ⊥) → IsReport text m.shown.tokens m.spelled r → IsErrorOf w text r
  of_text : IsValidText text → ((tokens : List Token) (last : Option Fault) → TextShows (plain text) no_names tokens last → compiled_with w text tokens last ≡ Err r) → IsErrorOf w text r

-- `Refuses text ts fs r`: the module with the tokens `ts` and the fields `fs` is not valid, and `r` is its error.
pub record Refuses (text : List ℕ) (ts : List Terminal) (fs : List Field) (r : Report) : Type 0 where
  pub invalid : ModuleIsValid fs → ⊥
  pub reported : (tokens : List Token) → TextShows (plain text) no_names tokens None → ts ≡ map (terminal_of text) tokens → (m : Module ts fs) → IsReport text tokens m r

-- `RefusesFields text ts fs e`: the module with the tokens `ts` and the fields `fs` is not valid, and `e` is its error, or `None`
-- for an allocation failure.
abbrev pub RefusesFields : List ℕ → List Terminal → List Field → Option Report → Type 0
RefusesFields text ts fs None = Unit {0}
RefusesFields text ts fs (Some r) = Refuses text ts fs r

abbrev pub Compiled : Type 0
Compiled = Result (Vec ℕ Global) (Option Report)

-- `Compiles n checked text tokens x`: `x` is the result of compiling a text with these visible tokens, which has no lexical
-- error: that without validation, or the error of a module that is not valid. The module is validated if `checked` is true.
pub data Compiles (n : Wanted) (checked : Bool) (text : List ℕ) (tokens : List Token) (x : Compiled) : Type 0 where
  by_valid : (checked ≡ true → (fs : List Field) → Module (map (terminal_of text) tokens) fs → ModuleIsValid fs) → Answers {T = Vec ℕ Global} true (λ bytes. bytes.items) (compiled_tokens n text tokens) x → Compiles n checked text tokens x
  by_invalid : (fs : List Field) → Module (map (terminal_of text) tokens) fs → checked ≡ true → IsErrAnd x (RefusesFields text (map (terminal_of text) tokens) fs) → Compiles n checked text tokens x
  by_memory : x ≡ Err None → Compiles n checked text tokens x
