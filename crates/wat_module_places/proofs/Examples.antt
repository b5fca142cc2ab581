-- The instructions of the examples, rule by rule.
use Rattle.std.proofs.Common.{◌≡◌, ℕ, false, pos, List, [], ◌∷◌, ◌++◌, Ok, None, refl}
use Rattle.std.specs.Prelude.{codes}
use Rattle.wat_module_ast.specs.declared.instruction.Argument.TheVariants as argument
use Rattle.wat_module_ast.specs.declared.instruction.Instruction.{Instruction}
use Rattle.wat_module_ast.specs.Grammar as grammar
use Rattle.wat_module_ast.specs.Grammar.{Context, Instructions, block_type, end, instruction, otherwise, plain}
use Rattle.wat_module_ast.specs.Table.{high, low, mnemonics}
use Rattle.wat_module_places.specs.Examples as examples
use Rattle.wat_module_places.specs.Examples.{nothing}
use Rattle.wat_module_places.specs.Places.{placed}
use Rattle.wat_module_tokens.specs.declared.token.Sign.TheVariants.{Absent}
use Rattle.wat_module_tokens.specs.Terminals.{Terminal, Open, Close, Word, Integer, Label}

nop : Instruction
nop = instruction 0x01 argument.Nothing

dropped : Instruction
dropped = instruction 0x1A argument.Nothing

one : Instruction
one = instruction 0x41 (argument.I32 (pos 1))

nop_is : (ls : List Label) (ts : List Terminal) → plain nothing ls (Word (codes "nop") ∷ ts) ≡ Ok (nop, ts)
unfolding nop plain mnemonics low
nop_is ls ts = refl

drop_is : (ls : List Label) (ts : List Terminal) → plain nothing ls (Word (codes "drop") ∷ ts) ≡ Ok (dropped, ts)
unfolding dropped plain mnemonics low
drop_is ls ts = refl

one_is : (ls : List Label) (ts : List Terminal) → plain nothing ls (Word (codes "i32.const") ∷ Integer Absent 1 ∷ ts) ≡ Ok (one, ts)
unfolding one plain mnemonics low high
one_is ls ts = refl

no_type : (w : List ℕ) (ts : List Terminal) → block_type nothing.types (Word w ∷ ts) ≡ Ok (argument.Block None, Word w ∷ ts)
unfolding grammar.use_of grammar.lists_of grammar.listed
no_type w ts = refl

nop_group : (ts : List Terminal) → block_type nothing.types (Open ∷ Word (codes "nop") ∷ ts) ≡ Ok (argument.Block None, Open ∷ Word (codes "nop") ∷ ts)
unfolding grammar.use_of grammar.lists_of grammar.listed
nop_group ts = refl

one_group : (ts : List Terminal) → block_type nothing.types (Open ∷ Word (codes "i32.const") ∷ ts) ≡ Ok (argument.Block None, Open ∷ Word (codes "i32.const") ∷ ts)
unfolding grammar.use_of grammar.lists_of grammar.listed
one_group ts = refl

block_end : Instructions nothing [] false examples.block_end (instruction 0x02 (argument.Block None) ∷ (nop ∷ []) ++ (end ∷ [])) []
block_end = grammar.by_block {o = 0x02} refl (no_type (codes "nop") (Word (codes "end") ∷ [])) (grammar.by_plain refl (nop_is (None ∷ []) (Word (codes "end") ∷ [])) grammar.by_none) refl refl grammar.by_none

operand : Instructions nothing [] false examples.operand ((one ∷ []) ++ (dropped ∷ [])) []
operand =
    grammar.by_folded refl (drop_is [] (Open ∷ Word (codes "i32.const") ∷ Integer Absent 1 ∷ Close ∷ Close ∷ []))
    (grammar.by_folded {operands = []} refl (one_is [] (Close ∷ Close ∷ [])) grammar.by_none grammar.by_none) grammar.by_none

folded_block : Instructions nothing [] false examples.folded_block (instruction 0x02 (argument.Block None) ∷ (nop ∷ []) ++ (end ∷ [])) []
folded_block =
    grammar.by_folded_block {o = 0x02} refl refl (nop_group (Close ∷ Close ∷ []))
    (grammar.by_folded {operands = []} refl (nop_is (None ∷ []) (Close ∷ Close ∷ [])) grammar.by_none grammar.by_none) grammar.by_none

folded_if : Instructions nothing [] false examples.folded_if ((one ∷ []) ++ (instruction 0x04 (argument.Block None) ∷ ((nop ∷ []) ++ (otherwise ∷ ((dropped ∷ []) ++ (end ∷ [])))))) []
folded_if =
    let last = Word (codes "drop") ∷ Close ∷ Close ∷ [] in
    let middle = Word (codes "nop") ∷ Close ∷ Open ∷ Word (codes "else") ∷ last in
    grammar.by_folded_if_else {o = 0x04} refl refl (one_group (Integer Absent 1 ∷ Close ∷ Open ∷ Word (codes "then") ∷ middle))
    (grammar.by_folded {operands = []} refl (one_is [] (Close ∷ Open ∷ Word (codes "then") ∷ middle)) grammar.by_none grammar.by_none) refl
    (grammar.by_plain refl (nop_is (None ∷ []) (Close ∷ Open ∷ Word (codes "else") ∷ last)) grammar.by_none) refl
    (grammar.by_plain refl (drop_is (None ∷ []) (Close ∷ Close ∷ [])) grammar.by_none) grammar.by_none

pub proved : examples.Examples
unfolding placed block_end operand folded_block folded_if
proved = record {
  block_end = record { instructions = instruction 0x02 (argument.Block None) ∷ (nop ∷ []) ++ (end ∷ []); derived = block_end; places = refl };
  operand = record { instructions = (one ∷ []) ++ (dropped ∷ []); derived = operand; places = refl };
  folded_block = record { instructions = instruction 0x02 (argument.Block None) ∷ (nop ∷ []) ++ (end ∷ []); derived = folded_block; places = refl };
  folded_if = record { instructions = (one ∷ []) ++ (instruction 0x04 (argument.Block None) ∷ ((nop ∷ []) ++ (otherwise ∷ ((dropped ∷ []) ++ (end ∷ []))))); derived = folded_if; places = refl };
}
