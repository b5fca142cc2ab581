-- WebAssembly 2.0, 6.6.3 (type uses): the types that instructions add by inline type uses, which are those without an
-- index. Also the statement that these types do not depend on the types of the context.
use Rattle.std.specs.Prelude.{◌≡◌, ℕ, Bool, false, List, [], ◌++◌, Some}
use Rattle.std.specs.List.{flat_map}
use Rattle.wat_module_ast.specs.declared.instruction.Argument.{Argument}
use Rattle.wat_module_ast.specs.declared.instruction.Argument.TheVariants as argument
use Rattle.wat_module_ast.specs.declared.instruction.Instruction.{Instruction}
use Rattle.wat_module_ast.specs.Grammar.{Context, Instructions, position}
use Rattle.wat_module_tokens.specs.Terminals.{Terminal, Label}
use Rattle.wat_module_ast.specs.Types.{FunctionType, Types, added_types}

-- 6.6.3: the type that the immediate of an instruction adds, if it has an inline type use: `call_indirect` or a block.
abbrev pub argument_types : Argument → List FunctionType
argument_types (argument.Indirect c) = added_types c.uses
argument_types (argument.BlockUse u) = added_types u
argument_types a = []

-- 6.6.3: the type that an instruction adds, if any.
abbrev pub instruction_types : Instruction → List FunctionType
instruction_types i = argument_types i.argument

-- 6.6.3: the types that instructions add, in order: those of operands before that of their folded instruction (6.5.10),
-- and a block's own type before those of its body. The standard expands abbreviations of type uses in order of
-- appearance. A folded instruction is an abbreviation too, and the standard does not define which of the two is
-- expanded first. This order is a choice of this library, the same as that of `wat2wasm`.
abbrev pub expression_types : List Instruction → List FunctionType
expression_types is = flat_map instruction_types is

-- The context `c` with other types, and with other identifiers of locals.
abbrev pub retyped : Types → List Label → Context → Context
retyped types locals c = record { types = types; locals = locals; funcs = c.funcs; tables = c.tables; memories = c.memories; globals = c.globals; elems = c.elems; datas = c.datas }

-- The types `types`, followed by `more`.
abbrev pub with_more_types : List FunctionType → Types → Types
with_more_types more types = record { names = types.names; types = types.types ++ more; are_known = types.are_known }

-- Lemma: tokens that match the grammar of instructions in a context match that of the same
-- instructions in the context with more types.
abbrev pub MoreTypesKeep : Type 0
MoreTypesKeep = (context : Context) (more : List FunctionType) (ls : List Label) (folded : Bool) (ts : List Terminal) (is : List Instruction) (r : List Terminal) → Instructions context ls folded ts is r
    → Instructions (retyped (with_more_types more context.types) context.locals context) ls folded ts is r

-- Types of which only the identifiers are known: `are_known` is false.
abbrev pub unknown : Types → Types
unknown types = record { names = types.names; types = []; are_known = false }

-- `AreAmong ls ms`: each identifier in `ls` also occurs in `ms`.
abbrev pub AreAmong : List Label → List Label → Type 0
AreAmong ls ms = (x : List ℕ) (n : ℕ) → position 0 x ls ≡ Some n → (m : ℕ) × (position 0 x ms ≡ Some m)

-- `Alike context ls folded ts is r`: in this context, the tokens `ts`, up to the rest `r`, match the grammar of
-- instructions that add the same types as `is`.
pub record Alike (context : Context) (ls : List Label) (folded : Bool) (ts : List Terminal) (is : List Instruction) (r : List Terminal) : Type 0 where
  pub others : List Instruction
  pub spelled : Instructions context ls folded ts others r
  pub brings : expression_types is ≡ expression_types others

-- Lemma: tokens that match the grammar of instructions in a context also match it if the types are not known, with any
-- locals that have the identifiers of the context's locals. The instructions may differ, but they add the same types.
abbrev pub UnknownTypesBring : Type 0
UnknownTypesBring = (context : Context) (locals : List Label) (ls : List Label) (folded : Bool) (ts : List Terminal) (is : List Instruction) (r : List Terminal) → AreAmong context.locals locals → Instructions context ls folded ts is r
    → Alike (retyped (unknown context.types) locals context) ls folded ts is r
