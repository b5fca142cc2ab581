use Rattle.std.proofs.Common.{List, length}
use Rattle.wat_module_tokens.specs.TokenCursor.{terminals_of}
use Rattle.wat_module_ast.specs.declared.instruction.Instruction.{Instruction}
use Rattle.wat_module_ast.specs.declared.error.ParseFailure.{ParseFailure}
use Rattle.wat_module_instructions.specs.Parts.{RunsInto, RunsTo, scope_of}
use Rattle.wat_module_tokens.specs.Terminals.{Terminal}
use Rattle.wat_module_instructions.proofs.machine.steps.Given as goal

abbrev pub invariant-open : goal.invariant-open
invariant-open l = record {
  runs : (end : List Terminal) (after : List Instruction) → RunsTo (scope_of l.scope) l.frames (terminals_of l.left) l.out.items after end → RunsTo (scope_of l.scope) l.initial.frames (terminals_of l.initial.left) l.initial.out.items after end;
  fails : (e : ParseFailure) → RunsInto (scope_of l.scope) l.frames (terminals_of l.left) e → RunsInto (scope_of l.scope) l.initial.frames (terminals_of l.initial.left) e;
}

abbrev pub decreases-open : goal.decreases-open
decreases-open l = length (terminals_of l.left)
