use Rattle.wat_lexer_parser.proofs.inside.RawTokens.{raws_are}
use Rattle.wat_lexer_parser.proofs.parser.text_ref.TextRef.new.Goals as goal

pub returns-clause-read : goal.returns-clause-read
returns-clause-read c = raws_are _ c.input-text.ensures.utf8
