-- The message of the reason for which a module is not valid, if it is not in the body of a function, as the code has it. Not part
-- of the standard.
use Rattle.std.specs.Prelude.{ℕ, ◌++◌, List, codes}
use Rattle.wat_modules.specs.declared.validity.Problem.{Problem}
use Rattle.wat_modules.specs.declared.validity.Problem.TheVariants as problem
use Rattle.wat_modules.specs.ValidityMessages as messages

abbrev pub problem_message : Problem → List ℕ
problem_message (problem.Header r n) = messages.reason_message r n
problem_message (problem.InitialValue of) = codes "initial value is not a constant expression of type `" ++ (of.now ++ codes "`")
problem_message problem.Offset = codes "offset is not a constant expression of type `i32`"
problem_message (problem.Element i of) = messages.element_message i of.now
