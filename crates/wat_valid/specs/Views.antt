-- The types and operands of the code, as definitions.
use Rattle.std.specs.Prelude.{◌≡◌, ℕ, Bool, true, false, List, [], ◌∷◌, Option, Some, None, if◌then◌else◌, map, reverse, slice_get}
use Rattle.std.specs.Option.{option_to_list}
use Rattle.wat_module_ast.specs.declared.fields.TableType.{TableType}
use Rattle.wat_module_ast.specs.declared.instruction.Argument.{Argument}
use Rattle.wat_module_ast.specs.declared.instruction.Argument.TheVariants as argument
use Rattle.wat_module_ast.specs.declared.instruction.ReferenceType.TheVariants as reference
use Rattle.wat_module_ast.specs.declared.instruction.ValueType.{ValueType}
use Rattle.wat_module_ast.specs.Types.{FunctionType, from_to}
use Rattle.wat_valid.specs.Algorithm.{Effect, Operands, effect_on, fits_label, operands, same_reference}
use Rattle.wat_valid.specs.Contexts.{Labels}
use Rattle.wat_valid.specs.declared.operands.Operands as declared_operands
use Rattle.wat_valid.specs.declared.typing.Condition as declared_condition
use Rattle.wat_valid.specs.declared.typing.Condition.TheVariants as condition
use Rattle.wat_valid.specs.declared.typing.Signature as declared_signature
use Rattle.wat_valid.specs.declared.typing.Signature.TheVariants as signature
use Rattle.wat_valid.specs.declared.typing.Typing as declared_typing
use denote.Ref.{Bor}
use Rattle.wat_valid.specs.InstructionTypes.{Typing, Plain, Lane, Shuffle, Access, AccessLane, OnMemory}

-- A signature of the code.
abbrev pub signature_type : declared_signature.Signature → FunctionType
signature_type (signature.None r) = from_to [] (option_to_list r)
signature_type (signature.One a r) = from_to (a ∷ []) (option_to_list r)
signature_type (signature.Two a b r) = from_to (a ∷ b ∷ []) (option_to_list r)
signature_type (signature.Three a b c r) = from_to (a ∷ b ∷ c ∷ []) (option_to_list r)

abbrev pub typing_by : FunctionType → declared_condition.Condition → Typing
typing_by t condition.Nothing = Plain t
typing_by t (condition.Lane n) = Lane n t
typing_by t condition.Shuffle = Shuffle t
typing_by t (condition.Access n) = Access n t
typing_by t (condition.AccessLane n) = AccessLane n t
typing_by t condition.HasMemory = OnMemory t

-- The type of a plain instruction of the code, if there is one.
abbrev pub found_typing : Option declared_typing.Typing → Option Typing
found_typing None = None
found_typing (Some t) = Some (typing_by (signature_type t.signature) t.condition)

abbrev pub found_row : Option (Option declared_typing.Typing) → Option Typing
found_row None = None
found_row (Some r) = found_typing r

-- The type in a row of a table.
abbrev pub typing_at : List (Option declared_typing.Typing) → ℕ → Option Typing
typing_at rows n = found_row (slice_get rows n)

-- The operands of a frame of the code.
abbrev pub operands_of : declared_operands.Operands → Operands
operands_of o = operands o.is_unreachable o.types.items

-- `Does e old new fits`: the operands `new` are those after the effect `e` on the operands `old`; `fits` is `false` if there
-- is no effect, or if the operands do not match it.
abbrev pub Does : Option Effect → declared_operands.Operands → declared_operands.Operands → Bool → Type 0
Does e old new fits = effect_on e (operands_of old) ≡ (if fits then Some (operands_of new) else None)

-- The labels of the code, which lists the innermost last.
abbrev pub labels_in : List (Bor (List ValueType)) → Labels
labels_in ls = reverse (map (λ l. l.now) ls)

-- Returns `true` if the operands match the types of a label, which exists and has as many types as `default`.
abbrev pub fits_types : declared_operands.Operands → List ValueType → Option (List ValueType) → Bool
fits_types o default None = false
fits_types o default (Some ts) = fits_label o.is_unreachable o.types.items default ts

abbrev pub fits_at : Labels → declared_operands.Operands → List ValueType → ℕ → Bool
fits_at labels o default l = fits_types o default (slice_get labels l)

-- Returns `true` for a table of functions.
abbrev pub has_functions : Option TableType → Bool
has_functions None = false
has_functions (Some t) = same_reference t.element reference.Func

-- Returns `true` if there is no immediate.
abbrev pub is_nothing : Argument → Bool
is_nothing argument.Nothing = true
is_nothing a = false
