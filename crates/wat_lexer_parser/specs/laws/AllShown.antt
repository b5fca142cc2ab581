-- WebAssembly 2.0, 6.2.3 (white space) and 6.2.4 (comments); custom annotations proposal (annotations). All visible
-- tokens in order, and then the end of the text or an error.
use Rattle.std.specs.Prelude.{ℕ, List, [], ◌∷◌, Option, Some, None, Ok, Err}
use Rattle.wat_lex.specs.declared.lexer.faults.LexFault.{LexFault}
use Rattle.wat_lex.specs.declared.lexer.kinds.Token.{Token}
use Rattle.wat_lexer_parser.specs.declared.parser.fault.Fault.{Fault}
use Rattle.wat_lexer_parser.specs.names.RegisteredNames.{Names}
use Rattle.wat_lexer_parser.specs.shown.Shown.{Shown}

-- `AllShown text ending names ts us last`: the visible tokens of the raw tokens `ts` are `us`, followed by the end
-- (`last` is `None`) or this error.
pub data AllShown (text : List ℕ) (ending : Option LexFault) (names : Names) : List Token → List Token → Option Fault → Type 0 where
  end : {ts : List Token} → Shown text ending names ts (Ok None) → AllShown text ending names ts [] None
  fault : {ts : List Token} {f : Fault} → Shown text ending names ts (Err f) → AllShown text ending names ts [] (Some f)
  next : {ts r us : List Token} {t : Token} {e : Option Fault} → Shown text ending names ts (Ok (Some (t, r))) → AllShown text ending names r us e → AllShown text ending names ts (t ∷ us) e
