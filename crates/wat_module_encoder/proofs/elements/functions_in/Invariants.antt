use Rattle.std.proofs.Common.{◌≡◌, map, drop}
use Rattle.wat_module_encoder.specs.Binary.{functions_in}
use Rattle.wat_module_ast.specs.Views.{expression_of}
use Rattle.wat_module_encoder.specs.Views.{put_before}
use Rattle.wat_module_encoder.proofs.elements.functions_in.Given as goal

abbrev pub invariant-loop-expression : goal.invariant-loop-expression
invariant-loop-expression l = functions_in (map expression_of l.expressions) ≡ put_before l.functions.items (functions_in (map expression_of (drop l.expression-index l.expressions)))
