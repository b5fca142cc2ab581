-- The stack of the parser's code as a value of the definitions. Not part of the standard.
use Rattle.std.specs.Prelude.{List, [], ◌∷◌}
use Rattle.wat_module_instructions.specs.declared.frame.Frame.{Frame}
use Rattle.wat_module_instructions.specs.declared.frame.Frame.TheVariants as frame
use Rattle.wat_module_instructions.specs.Machine.{Part, Body, Block, Group, Operands, Condition, Then, Else}
use Rattle.wat_module_tokens.specs.Terminals.{label}

-- A frame of the code's stack.
abbrev pub part : Frame → Part
part frame.Body = Body
part (frame.Block b l) = Block b (label l)
part (frame.Group l) = Group (label l)
part (frame.Operands i) = Operands i
part (frame.Condition i l) = Condition i (label l)
part (frame.Then l) = Then (label l)
part (frame.Else l) = Else (label l)

-- The frames on top of the stack `ps`; the last frame is the innermost.
abbrev pub stack_on : List Frame → List Part → List Part
stack_on [] ps = ps
stack_on (f ∷ fs) ps = stack_on fs (part f ∷ ps)

-- The stack of these frames.
unfoldable pub stack : List Frame → List Part
stack fs = stack_on fs []
