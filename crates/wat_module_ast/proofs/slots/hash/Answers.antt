use Rattle.std.proofs.Common.{arith, sym, ◌∙◌}
use Rattle.std.proofs.lemmas.List.{at_drop_all}
use Rattle.wat_module_ast.specs.Slots.{hash, hash_from}
use Rattle.wat_module_ast.proofs.slots.hash.Goals as goal

pub returns : goal.returns
unfolding hash
returns c = sym (at_drop_all (hash_from c.loop-byte.hash) c.args.word.now c.loop-byte.byte-index (omega arith)) ∙ c.loop-byte.invariant
