use Rattle.wat_module_parser.proofs.Modules.{law}
use Rattle.wat_module_parser.proofs.laws.reading_is_grammar.Goals as goal

pub returns : goal.returns
returns c = law (record { base = record { same = c.machine_is_grammar.ensures; folded = c.folded_is_grammar.ensures; balanced = c.instructions_are_balanced.ensures.balanced; taken = c.instructions_are_balanced.ensures.taken }; more = c.types_are_looked_up.ensures.more; unknown = c.types_are_looked_up.ensures.unknown })
