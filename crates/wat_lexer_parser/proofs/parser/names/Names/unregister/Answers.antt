use Rattle.std.proofs.Common.{subst, sym}
use Rattle.wat_lexer_parser.specs.inside.MapEntries.{names_of}
use Rattle.wat_lexer_parser.specs.names.RegisteredNames.{IsPositive}
use Rattle.wat_lexer_parser.proofs.names.MapsOfTexts.{taken-last, names-removed, positive-remove}
use Rattle.wat_lexer_parser.proofs.parser.names.Names.unregister.Goals as goal

pub returns-else-count-gt1 : goal.returns-else-count-gt1
returns-else-count-gt1 c = taken-last c.self.inside.counts c.remove.new.self c.args.self.now c.args.name.now c.count-count.result c.self.view_is c.count-count.ensures c.if-count-gt1.false c.remove.ensures.updates

pub invariant_of-self : goal.invariant_of-self
invariant_of-self c = subst IsPositive (sym (names-removed c.self.inside.counts c.remove.new.self c.args.name.now c.remove.ensures.updates)) (positive-remove (names_of c.self.inside.counts.entries) c.args.name.now c.self.invariant)
