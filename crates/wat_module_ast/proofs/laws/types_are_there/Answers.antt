use Rattle.wat_module_ast.proofs.FunctionTypes as function_types
use Rattle.wat_module_ast.proofs.laws.types_are_there.Goals as goal

pub returns : goal.returns
returns c = function_types.types_are_there
