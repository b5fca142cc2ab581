use Rattle.std.proofs.Common.{sym}
use Rattle.wat_module_tokens.specs.TokenCursor.{terminals_of}
use Rattle.wat_module_instructions.specs.Parts.{scope_of}
use Rattle.wat_module_instructions.proofs.Opens.{at_operands_output}
use Rattle.wat_module_instructions.proofs.machine.folded_instruction.Goals as goal

pub returns-in_ok-push-in-None : goal.returns-in_ok-push-in-None
returns-in_ok-push-in-None c =
    at_operands_output (scope_of c.args.scope.now) (terminals_of c.args.cursor) (terminals_of c.args.rest) (terminals_of c.in_ok-instruction-in-None.rest) c.args.word.now c.in_ok-instruction-in-None.instruction c.args.frames.now c.push.new.self c.args.out.now.items (sym c.in-None.ensures) c.in_ok-instruction-in-None.ensures c.in_ok-push-in-None.ensures
