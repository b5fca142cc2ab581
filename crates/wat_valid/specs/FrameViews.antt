-- The control frames of the code (7.3), as definitions.
use Rattle.std.specs.Prelude.{◌≡◌, Bool, List, ◌∷◌, Option, Some, None, if◌then◌else◌, map, reverse}
use Rattle.wat_module_ast.specs.Types.{from_to}
use Rattle.wat_valid.specs.Algorithm.{Frame, FrameKind, OfBlock, OfBody, OfElse, OfIf, OfLoop, frame, labels_of}
use Rattle.wat_valid.specs.declared.blocks.Frame as declared_frame
use Rattle.wat_valid.specs.declared.blocks.FrameKind as declared_kind
use Rattle.wat_valid.specs.declared.blocks.FrameKind.TheVariants as kinds
use Rattle.wat_valid.specs.declared.blocks.Frames as declared_frames
use Rattle.wat_valid.specs.Views.{labels_in, operands_of}

abbrev pub kind_of : declared_kind.FrameKind → FrameKind
kind_of kinds.Body = OfBody
kind_of kinds.Block = OfBlock
kind_of kinds.Loop = OfLoop
kind_of kinds.If = OfIf
kind_of kinds.Else = OfElse

-- A frame of the code.
abbrev pub frame_of : declared_frame.Frame → Frame
frame_of f = frame (kind_of f.kind) (from_to f.params.now f.results.now) (operands_of f.operands)

-- The open frames of the code, the innermost first.
abbrev pub frames_of : declared_frames.Frames → List Frame
frames_of s = frame_of s.current ∷ reverse (map frame_of s.outer.items)

-- The labels that the code keeps are those of the open frames.
abbrev pub HasLabels : declared_frames.Frames → Type 0
HasLabels s = labels_in s.labels.items ≡ labels_of (frames_of s)

-- `Leads step new fits`: `new` are the frames after a step of the algorithm; `fits` is `false` if it has an error.
abbrev pub Leads : Option (List Frame) → declared_frames.Frames → Bool → Type 0
Leads step new fits = step ≡ (if fits then Some (frames_of new) else None)
