use Rattle.wat_module_tokens.specs.TokenCursor.{terminals_of}
use Rattle.wat_module_instructions.specs.Parts.{scope_of}
use Rattle.wat_module_tokens.specs.Terminals.{label}
use Rattle.wat_module_instructions.proofs.Opens.{at_condition_output}
use Rattle.wat_module_instructions.proofs.machine.folded_block.Goals as goal

pub returns-then-opcode-eq-IF : goal.returns-then-opcode-eq-IF
returns-then-opcode-eq-IF c =
    at_condition_output (scope_of c.args.scope.now) c.args.opcode (terminals_of c.args.cursor) (terminals_of c.label.result.1) (terminals_of c.in_ok-argument.rest) c.in_ok-argument.argument (label c.label.result.0) c.args.frames.now c.push.new.self c.args.out.now.items c.if-opcode-eq-IF.true c.label.ensures.name c.label.ensures.rest c.in_ok-argument.ensures c.in_ok-push.ensures
