use Rattle.std.proofs.Common.{subst, sym}
use Rattle.wat_lexer_parser.specs.names.RegisteredNames.{IsPositive}
use Rattle.wat_lexer_parser.proofs.names.MapsOfTexts.{is_there, set-count, positive-insert}
use Rattle.wat_lexer_parser.proofs.parser.names.Names.set.Goals as goal

pub set_count-requires : goal.set_count-requires
set_count-requires c = is_there c.self.inside.counts c.args.self.now c.args.name.now c.self.view_is c.requires.there

pub returns : goal.returns
returns c = set-count c.self.inside.counts c.set_count.new.counts c.args.self.now c.args.name.now c.args.times c.self.view_is c.set_count.ensures

pub invariant_of-self : goal.invariant_of-self
invariant_of-self c =
    subst IsPositive (sym (set-count c.self.inside.counts c.set_count.new.counts c.args.self.now c.args.name.now c.args.times c.self.view_is c.set_count.ensures))
    (positive-insert c.args.self.now c.args.name.now c.args.times c.requires.some (subst IsPositive c.self.view_is c.self.invariant))
