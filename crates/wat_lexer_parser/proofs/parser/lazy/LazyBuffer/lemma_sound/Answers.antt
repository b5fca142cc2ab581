use Rattle.std.proofs.Common.{subst}
use Rattle.wat_lexer_parser.specs.places.Source.{IsRead}
use Rattle.wat_lexer_parser.proofs.inside.RawTokens.{raws_are}
use Rattle.wat_lexer_parser.proofs.parser.lazy.LazyBuffer.lemma_sound.Goals as goal

pub returns-clause-read : goal.returns-clause-read
returns-clause-read c = subst IsRead c.self.view_is (raws_are c.self.inside.lexer c.input-text.ensures.utf8)
