-- Errors of calls.
use Rattle.std.proofs.Common.{◌≡◌, Err, subst, sym}
use Rattle.std.specs.Prelude.{Option, Result}
use Rattle.wat_lex.specs.errors.Errors.{Report, IsUnlessMemory}
use Rattle.wat_lexer_parser.specs.parser.State.{IsRefusal}

pub refusal : {V : Type 0} (m : Result V Report) (e : Option Report) (r : Report) → m ≡ Err r → IsUnlessMemory e r → IsRefusal m e
refusal m e r h k = subst (λ x. IsRefusal x e) (sym h) k
