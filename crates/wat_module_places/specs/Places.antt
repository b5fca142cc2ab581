-- WebAssembly 2.0, 6.5 (text format, instructions), 6.5.10 (folded instructions) and 6.6 (text format, modules): where the
-- instructions of a module are written. Each rule of the grammar (`wat_module_ast.specs.Grammar` and `Fields`) says at which
-- token of its text each of its instructions is: a plain or structured instruction is at its keyword; `else` at its keyword,
-- also in `(else ..)`; `end` at its keyword, or at the `)` that ends a folded `block`, `loop` or `if`. A position is given
-- by the tokens from there on. Section numbers are those of WebAssembly 2.0.
use Rattle.std.specs.Prelude.{ℕ, Bool, List, [], ◌∷◌, ◌++◌, drop, Option, Some, None, slice_get}
use Rattle.std.specs.Option.{option_map}
use Rattle.wat_module_ast.specs.declared.instruction.Instruction.{Instruction}
use Rattle.wat_module_ast.specs.declared.instruction.ReferenceType.{ReferenceType}
use Rattle.wat_module_ast.specs.Fields.{Elements, ElementsAre, ExpressionIs, Field, FieldIs, ItemIs, Many}
use Rattle.wat_module_ast.specs.Fields as fields
use Rattle.wat_module_ast.specs.Grammar.{Context, Folded, Instructions, end, instruction, otherwise}
use Rattle.wat_module_ast.specs.Grammar as grammar
use Rattle.wat_module_ast.specs.Modules.{FieldsAre, Module}
use Rattle.wat_module_ast.specs.Modules as modules
use Rattle.wat_module_ast.specs.Types.{Types}
use Rattle.wat_module_tokens.specs.Terminals.{Terminal, Close, Word, Label}

-- An instruction, and the tokens from its position on.
pub record Placed : Type 0 where
  pub instruction : Instruction
  pub place : List Terminal

abbrev pub at : Instruction → List Terminal → Placed
at i ts = record { instruction = i; place = ts }

-- 6.5, `instr*`: the instructions that the grammar derives from tokens, in the order of the binary format (5.4), each with
-- its position.
unfoldable pub placed : {context : Context} {ls : List Label} {folded : Bool} {ts : List Terminal} {is : List Instruction} {r : List Terminal} → Instructions context ls folded ts is r → List Placed
-- No instruction.
placed grammar.by_none = []
-- 6.5.2 to 6.5.9: a plain instruction is at its keyword.
placed (grammar.by_plain {w = w} {ts = ts} {i = i} s h more) = at i (Word w ∷ ts) ∷ placed more
-- 6.5.2: `block`, `loop` or `if` is at its keyword, and `end` at its keyword.
placed (grammar.by_block {w = w} {v = v} {o = o} {a = a} {ts = ts} {us = us} s n body e l more) = at (instruction o a) (Word w ∷ ts) ∷ (placed body ++ (at end (Word v ∷ us) ∷ placed more))
-- 6.5.2: likewise, and `else` is at its keyword.
placed (grammar.by_if_else {w = w} {v = v} {x = x} {o = o} {a = a} {ts = ts} {us = us} {ys = ys} s c n body e l other f m more) =
    at (instruction o a) (Word w ∷ ts) ∷ (placed body ++ (at otherwise (Word v ∷ us) ∷ (placed other ++ (at end (Word x ∷ ys) ∷ placed more))))
-- 6.5.10: `(plaininstr foldedinstr*)`: the instruction is at its keyword, after its operands.
placed (grammar.by_folded {w = w} {ts = ts} {i = i} s h operands more) = placed operands ++ (at i (Word w ∷ ts) ∷ placed more)
-- 6.5.10: `(block label blocktype instr*)`, and `loop` likewise: `end` is at the `)`.
placed (grammar.by_folded_block {w = w} {o = o} {a = a} {ts = ts} {vs = vs} s c n body more) = at (instruction o a) (Word w ∷ ts) ∷ (placed body ++ (at end (Close ∷ vs) ∷ placed more))
-- 6.5.10: `(if label blocktype foldedinstr* (then instr*))`: `if` is at its keyword, after its condition, and `end` at the
-- `)` of `(if`.
placed (grammar.by_folded_if {w = w} {o = o} {a = a} {ts = ts} {vs = vs} s c n condition t body more) = placed condition ++ (at (instruction o a) (Word w ∷ ts) ∷ (placed body ++ (at end (Close ∷ vs) ∷ placed more)))
-- 6.5.10: `(if label blocktype foldedinstr* (then instr*) (else instr*))`: likewise, and `else` is at its keyword.
placed (grammar.by_folded_if_else {w = w} {e = e} {o = o} {a = a} {ts = ts} {es = es} {vs = vs} s c n condition t body l other more) =
    placed condition ++ (at (instruction o a) (Word w ∷ ts) ∷ (placed body ++ (at otherwise (Word e ∷ es) ∷ (placed other ++ (at end (Close ∷ vs) ∷ placed more)))))

-- 6.5.10: the instructions of one folded instruction.
unfoldable pub placed_folded : {context : Context} {ts : List Terminal} {is : List Instruction} {r : List Terminal} → Folded context ts is r → List Placed
placed_folded (grammar.by_group is p) = placed is

-- 6.6.11, 6.6.12: the instructions of an offset or of an element.
unfoldable pub placed_expression : {word : List ℕ} {context : Context} {ts : List Terminal} {is : List Instruction} {r : List Terminal} → ExpressionIs word context ts is r → List Placed
placed_expression (fields.by_word_expression w body) = placed body
placed_expression (fields.by_instruction one) = placed_folded one

unfoldable pub placed_item : {context : Context} {ts : List Terminal} {es : Elements} {r : List Terminal} → ItemIs context ts es r → List Placed
placed_item (fields.by_item e) = placed_expression e

-- 6.6.11: the instructions of elements, one element after another.
unfoldable pub placed_items : {context : Context} {ts : List Terminal} {es : Elements} {r : List Terminal} → Many (ItemIs context) ts es r → List Placed
placed_items fields.by_none = []
placed_items (fields.by_more one more) = placed_item one ++ placed_items more

-- 6.6.11: the instructions of an element list. The index of a function, which abbreviates `ref.func`, has no keyword, so
-- that its instruction has no position.
unfoldable pub placed_elements : {context : Context} {ts : List Terminal} {t : ReferenceType} {es : Elements} {r : List Terminal} → ElementsAre context ts t es r → List Placed
placed_elements (fields.by_items t items) = placed_items items
placed_elements (fields.by_functions w indices) = []

-- 6.6.5 to 6.6.12: the instructions of a field that have a position, one expression after another: those of the body of a
-- function, of the initial value of a global, of the offset of a segment, and of the elements that are written as
-- instructions.
unfoldable pub placed_in : {types : Types} {context : Context} {ts : List Terminal} {fs : List Field} {r : List Terminal} → FieldIs types context ts fs r → List Placed
placed_in (fields.by_func k names uses locals d body) = placed body
placed_in (fields.by_global k names t value) = placed value
placed_in (fields.by_table_items k names t e items n) = placed_items items
placed_in (fields.by_passive_elem k elements) = placed_elements elements
placed_in (fields.by_declarative_elem k l d elements) = placed_elements elements
placed_in (fields.by_active_elem k table offset elements) = placed_expression offset ++ placed_elements elements
placed_in (fields.by_function_elem k offset indices) = placed_expression offset
placed_in (fields.by_active_data k memory offset strings) = placed_expression offset
placed_in f = []

-- A field, the tokens from its keyword on, and its instructions that have a position.
pub record PlacedField : Type 0 where
  pub field : List Field
  pub keyword : List Terminal
  pub instructions : List Placed

abbrev pub placed_field : {types : Types} {context : Context} (ts : List Terminal) (fs : List Field) {r : List Terminal} → FieldIs types context ts fs r → PlacedField
placed_field ts fs f = record { field = fs; keyword = drop 1 ts; instructions = placed_in f }

-- 6.6.13: the fields of a module, in order. The first token of a field is its `(`.
unfoldable pub placed_fields : {types : Types} {context : Context} {ts : List Terminal} {fs : List Field} {r : List Terminal} → Many (FieldIs types context) ts fs r → List PlacedField
placed_fields fields.by_none = []
placed_fields (fields.by_more {ts = ts} {vs = fs} one more) = placed_field ts fs one ∷ placed_fields more

unfoldable pub placed_module : {ts : List Terminal} {fs : List Field} → Module ts fs → List PlacedField
placed_module (modules.by_module w fs) = placed_fields fs.spelled
placed_module (modules.by_fields fs) = placed_fields fs.spelled

-- The tokens from the position of an instruction on, or those from the keyword of its field on if the instruction has no
-- position.
abbrev pub place_or : List Terminal → Option Placed → List Terminal
place_or keyword (Some p) = p.place
place_or keyword None = keyword

abbrev pub place_by : ℕ → Option PlacedField → Option (List Terminal)
place_by i (Some f) = Some (place_or f.keyword (slice_get f.instructions i))
place_by i None = None

abbrev pub keyword_of : PlacedField → List Terminal
keyword_of f = f.keyword

-- The tokens from the keyword of the field `k` on, or `None` if there is no such field.
abbrev pub keyword_in : {ts : List Terminal} {fs : List Field} → Module ts fs → ℕ → Option (List Terminal)
keyword_in m k = option_map keyword_of (slice_get (placed_module m) k)

-- The position of the instruction `i` of the field `k`, or `None` if there is no such field.
abbrev pub place_in : {ts : List Terminal} {fs : List Field} → Module ts fs → ℕ → ℕ → Option (List Terminal)
place_in m k i = place_by i (slice_get (placed_module m) k)
