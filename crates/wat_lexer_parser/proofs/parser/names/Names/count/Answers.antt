use Rattle.std.proofs.Common.{rules}
use Rattle.wat_lexer_parser.proofs.names.MapsOfTexts.{get-names}
use Rattle.wat_lexer_parser.proofs.parser.names.Names.count.Goals as goal

pub returns-in-Some : goal.returns-in-Some
returns-in-Some c = rw (← c.self.view_is, get-names c.self.inside.counts c.args.name.now) (search rules)

pub returns-in-None : goal.returns-in-None
returns-in-None c = rw (← c.self.view_is, get-names c.self.inside.counts c.args.name.now) (search rules)
