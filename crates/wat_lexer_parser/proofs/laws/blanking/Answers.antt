use Rattle.wat_lexer_parser.proofs.calls.BlankingLaw.{blanking_shows_the_same}
use Rattle.wat_lexer_parser.proofs.laws.blanking.Goals as goal

pub returns : goal.returns
returns c =
    blanking_shows_the_same (record {
      tokens = c.blanks.ensures.tokens;
      text = c.blanks.ensures.text;
      one_tiling = c.one_tiling.ensures.one;
      boundary = c.tokens.ensures.boundary;
      some = c.shown.ensures.some;
      one = c.shown.ensures.one;
      all_some = c.all_shown.ensures.all_some;
      all_one = c.all_shown.ensures.all_one;
    })
