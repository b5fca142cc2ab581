use Rattle.std.proofs.Common.{◌∙◌, sym}
use Rattle.wat_lexer_parser.proofs.names.MapsOfTexts.{names-none}
use Rattle.wat_lexer_parser.proofs.parser.names.Names.are_none.Goals as goal

pub returns : goal.returns
returns c none = sym c.self.view_is ∙ names-none c.self.inside.counts (c.is_empty.ensures.0 none)
