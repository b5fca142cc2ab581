-- The examples: those of bodies by running the algorithm, one of them by hand as well; those of modules by hand.
use Rattle.std.proofs.Common.{◌≡◌, Bool, true, false, List, [], ◌∷◌, Some, refl, arith}
use Rattle.wat_module_ast.specs.declared.instruction.Instruction.{Instruction}
use Rattle.wat_module_ast.specs.declared.instruction.ValueType.{ValueType}
use Rattle.wat_valid.specs.declared.operands.OperandType.TheVariants as operand
use Rattle.wat_valid.specs.Contexts.{Context}
use Rattle.wat_valid.specs.InstructionTypes as types
use Rattle.wat_valid.specs.InstructionTypes.{i32}
use Rattle.wat_valid.specs.Instructions as rules
use Rattle.wat_valid.specs.Instructions.{Expression, typing_of}
use Rattle.wat_valid.specs.Algorithm.{accepts, effect_of, step}
use Rattle.wat_module_ast.specs.ImplicitTypes as implicit
use Rattle.wat_module_ast.specs.declared.fields.GlobalType.{GlobalType}
use Rattle.wat_module_ast.specs.declared.instruction.Argument.{Argument}
use Rattle.wat_module_ast.specs.declared.instruction.Argument.TheVariants as argument
use Rattle.wat_module_ast.specs.declared.instruction.Opcode.{Opcode}
use Rattle.wat_module_ast.specs.declared.instruction.Opcode.TheVariants.{Byte, Prefixed}
use Rattle.wat_module_ast.specs.Types.{from_to}
use Rattle.std.specs.Prelude.{slice_get, ◌==◌}
use Rattle.std.proofs.lemmas.Option.{none-some}
use Rattle.std.proofs.Common.{lit≤, lit<}
use Rattle.wat_valid.specs.Instructions.{Constant, IsConstant}
use Rattle.wat_valid.specs.Examples.{BodyExamples, ModuleExamples, ReasonExamples, Valid, i32_add, i32_const, i64_const, local_get, with_locals}
use Rattle.wat_valid.proofs.Frames as frames
use Rattle.wat_valid.proofs.SingleConstants.{one_item}

-- `local.get 0 local.get 1 i32.add`, by the rules
pub sum_by_rules : Valid (with_locals (i32 ∷ i32 ∷ [])) (local_get 0 ∷ local_get 1 ∷ i32_add ∷ []) (i32 ∷ [])
unfolding typing_of types.typed_instructions types.low types.high types.prefixed types.low_vectors types.high_vectors
sum_by_rules = record {
  left = operand.Value i32 ∷ [];
  typed = rules.by_plain (rules.by_plain (rules.by_plain rules.by_none (rules.by_local_get refl) (record { below = []; taken = []; before = refl; match = tt; after = refl }))
      (rules.by_local_get refl) (record { below = operand.Value i32 ∷ []; taken = []; before = refl; match = tt; after = refl }))
      (rules.by_row {t = types.binop i32} refl refl tt) (record { below = []; taken = operand.Value i32 ∷ operand.Value i32 ∷ []; before = refl; match = (refl, (refl, tt)); after = refl });
  match = (refl, tt);
}

accepted : (C : Context) (is : List Instruction) (results : List ValueType) → accepts C is results ≡ true → Valid C is results
accepted C is results e = frames.sound C is results e

rejected : (C : Context) (is : List Instruction) (results : List ValueType) → accepts C is results ≡ false → Valid C is results → ⊥
rejected C is results e v = let yes = frames.complete C is results v in cc

pub bodies : BodyExamples
unfolding accepts step effect_of typing_of types.typed_instructions types.low types.high types.prefixed types.low_vectors types.high_vectors
bodies = record {
  sum = sum_by_rules;
  wrong_operand = rejected _ _ _ refl;
  no_local = rejected _ _ _ refl;
  nothing = accepted _ _ _ refl;
  no_result = rejected _ _ _ refl;
  left_over = rejected _ _ _ refl;
  after_unreachable = accepted _ _ _ refl;
  still_typed = rejected _ _ _ refl;
  branch = accepted _ _ _ refl;
  loop = accepted _ _ _ refl;
  no_label = rejected _ _ _ refl;
  meet_bottom = accepted _ _ _ refl;
  other_labels = rejected _ _ _ refl;
  if_else = accepted _ _ _ refl;
  if_alone = rejected _ _ _ refl;
  if_passes = accepted _ _ _ refl;
  loop_label = accepted _ _ _ refl;
  block_label = rejected _ _ _ refl;
  init = accepted _ _ _ refl;
  other_init = rejected _ _ _ refl;
  no_end = rejected _ _ _ refl;
  no_block = rejected _ _ _ refl;
  natural = accepted _ _ _ refl;
  aligned = rejected _ _ _ refl;
  no_memory = rejected _ _ _ refl;
  select_references = rejected _ _ _ refl;
  select_typed = accepted _ _ _ refl;
  select_bottom = accepted _ _ _ refl;
  not_declared = rejected _ _ _ refl;
  constant_global = rejected _ _ _ refl;
  lane = accepted _ _ _ refl;
  no_lane = rejected _ _ _ refl;
}

-- modules

constant_i32 : (C : Context) → Constant C (i32_const ∷ []) i32
unfolding typing_of types.typed_instructions types.low types.high types.prefixed types.low_vectors types.high_vectors
constant_i32 C = record {
  typed = record {
    left = operand.Value i32 ∷ [];
    typed = rules.by_plain rules.by_none (rules.by_row {t = types.const i32} refl refl tt) (record { below = []; taken = []; before = refl; match = tt; after = refl });
    match = (refl, tt);
  };
  constant = (rules.by_i32, tt);
}

-- a constant `global.get` has a global

abbrev If : Bool → Type 0 → Type 0
If true P = P
If false P = Unit {0}

abbrev HasGlobal : Context → Argument → Type 0
HasGlobal C (argument.Index x) = (t : GlobalType) × (slice_get C.globals x ≡ Some t)
HasGlobal C a = Unit {0}

abbrev Needs : Context → Opcode → Argument → Type 0
Needs C (Byte b) a = If (b == 0x23) (HasGlobal C a)
Needs C (Prefixed p n) a = Unit {0}

needs : (C : Context) (o : Opcode) (a : Argument) → IsConstant C o a → Needs C o a
needs C o a rules.by_i32 = tt
needs C o a rules.by_i64 = tt
needs C o a rules.by_f32 = tt
needs C o a rules.by_f64 = tt
needs C o a rules.by_v128 = tt
needs C o a rules.by_null = tt
needs C o a rules.by_func = tt
needs C o a (rules.by_global {t = t} at m) = (t, at)

pub modules : ModuleExamples
unfolding implicit.types_of
modules = record {
  valid = record {
    fields = (
      record { minimum = lit≤ tt; maximum = tt },
      (
        constant_i32 _,
        (
          record { type = from_to [] []; uses = refl; body = record { left = []; typed = rules.by_none; match = tt } },
          (
            lit< tt,
            (
              refl,
              tt,
            ),
          ),
        ),
      ),
    );
    memories = lit≤ tt;
    exports = refl;
  };
  declared = refl;
  too_large = λ v. let no = v.fields.0.minimum in absurd (omega (arith, no));
  two_memories = λ v. let no = v.memories in absurd (omega (arith, no));
  same_names = λ v. let no = v.exports in cc;
  no_function = λ v. let no = v.fields.0 in absurd (omega (arith, no));
  not_imported = λ v. let g = needs _ (Byte 0x23) (argument.Index 0) v.fields.1.0.constant.0 in none-some g.0 g.1;
}

-- reasons

other_type : (C : Context) → Constant C (i64_const ∷ []) i32 → ⊥
other_type C k = let no = (one_item C (i64_const ∷ []) i32 i64_const refl refl).1 k in cc

pub reasons : ReasonExamples
unfolding implicit.types_of
reasons = record {
  limits = record {
    field = _;
    is = refl;
    before = record { fields = (record { minimum = lit≤ tt; maximum = tt }, tt); memories = lit≤ tt; exports = refl };
    fails = λ v. let no = v.minimum in absurd (omega (arith, no));
  };
  second_memory = record {
    field = _;
    is = refl;
    before = record { fields = (record { minimum = lit≤ tt; maximum = tt }, tt); memories = lit≤ tt; exports = refl };
    fails = (record { minimum = lit≤ tt; maximum = tt }, lit< tt);
  };
  memory_before_name = record {
    field = _;
    is = refl;
    before = record { fields = (record { minimum = lit≤ tt; maximum = tt }, tt); memories = lit≤ tt; exports = refl };
    fails = (record { minimum = lit≤ tt; maximum = tt }, lit< tt);
  };
  index_before_name = record {
    field = _;
    is = refl;
    before = record { fields = (record { type = from_to [] []; uses = refl; body = record { left = []; typed = rules.by_none; match = tt } }, tt); memories = lit≤ tt; exports = refl };
    fails = lit≤ tt;
  };
  repeated_name = record {
    field = _;
    is = refl;
    before = record { fields = (record { type = from_to [] []; uses = refl; body = record { left = []; typed = rules.by_none; match = tt } }, tt); memories = lit≤ tt; exports = refl };
    fails = (lit< tt, lit≤ tt, refl);
  };
  name_before_body = record {
    field = _;
    is = refl;
    before = record { fields = (record { type = from_to [] []; uses = refl; body = record { left = []; typed = rules.by_none; match = tt } }, tt); memories = lit≤ tt; exports = refl };
    fails = (record { type = from_to [] []; is = refl }, lit≤ tt, refl);
  };
  offset_before_element = record {
    field = _;
    is = refl;
    before = record { fields = ((record { minimum = lit≤ tt; maximum = tt }, tt), tt); memories = lit≤ tt; exports = refl };
    fails = (
      record { fields = (record { minimum = lit≤ tt; maximum = tt }, (record { table = _; exists = refl; element = refl }, tt)); memories = lit≤ tt; exports = refl },
      other_type _,
    );
  };
  first_field = record {
    field = _;
    is = refl;
    before = record { fields = tt; memories = lit≤ tt; exports = refl };
    fails = (
      record { fields = (tt, tt); memories = lit≤ tt; exports = refl },
      other_type _,
    );
  };
}
