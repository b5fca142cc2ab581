-- Steps over plain values, as the code's proofs cite them.
use Rattle.std.proofs.Common.{◌≡◌, ℕ, List, [], ◌∷◌, None, Ok, sym, ap, ◌∙◌, append-nil}
use Rattle.std.specs.Prelude.{if◌then◌else◌}
use Rattle.wat_module_ast.specs.declared.instruction.Argument.{Argument}
use Rattle.wat_module_ast.specs.declared.instruction.Instruction.{Instruction}
use Rattle.wat_module_ast.specs.Grammar.{Context, block_type, instruction, is_if, plain, label_of, structured}
use Rattle.wat_module_instructions.specs.Machine.{Part, Condition, at_condition, at_group, open_block, Operands, open_by, at_operands, labels_in}
use Rattle.wat_module_instructions.specs.Parts.{Stepped}
use Rattle.wat_module_tokens.specs.Terminals.{Terminal, Label}

pub at_operands_output : (context : Context) (all us left : List Terminal) (w : List ℕ) (i : Instruction) (ps qs : List Part) (out : List Instruction) → structured w ≡ None → plain context (labels_in ps) all ≡ Ok (i, left) → qs ≡ Operands i ∷ ps → Stepped (open_by context (structured w) all us ps) out out qs left
at_operands_output context all us left w i ps qs out s k q = record {
  output = [];
  is = ap (λ x. open_by context x all us ps) s ∙ ap (λ x. at_operands x ps) k ∙ ap (λ x. Ok (record { output = []; stack = x; left = left })) (sym q);
  follows = sym (append-nil out);
}

pub at_condition_output : (context : Context) (o : ℕ) (us vs left : List Terminal) (a : Argument) (l : Label) (ps qs : List Part) (out : List Instruction) → o ≡ 4 → l ≡ (label_of us).0 → vs ≡ (label_of us).1 → block_type context.types vs ≡ Ok (a, left) → qs ≡ Condition (instruction o a) l ∷ ps → Stepped (open_block context o us ps) out out qs left
at_condition_output context o us vs left a l ps qs out e n r k q = record {
  output = [];
  is =
      ap (λ b. if b then at_condition o (label_of us).0 (block_type context.types (label_of us).1) ps else at_group o (label_of us).0 (block_type context.types (label_of us).1) ps) (ap is_if e)
      ∙ ap (λ x. at_condition o (label_of us).0 x ps) (ap (block_type context.types) (sym r) ∙ k) ∙ ap (λ x. Ok (record { output = []; stack = Condition (instruction o a) x ∷ ps; left = left })) (sym n) ∙ ap (λ x. Ok (record { output = []; stack = x; left = left })) (sym q);
  follows = sym (append-nil out);
}
