use Rattle.wat_lexer_parser.proofs.calls.BlankTextsLaw.{blank_texts_show_the_same}
use Rattle.wat_lexer_parser.proofs.laws.blank_texts.Goals as goal

pub returns : goal.returns
returns c =
    blank_texts_show_the_same (record {
      tokens = c.blanks.ensures.tokens;
      text = c.blanks.ensures.text;
      boundary = c.tokens.ensures.boundary;
      same = c.blanking.ensures;
    })
