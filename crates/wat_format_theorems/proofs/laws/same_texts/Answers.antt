use Rattle.wat_format_theorems.proofs.Places.{maps_are_one}
use Rattle.wat_format_theorems.proofs.Shows.{layouts_are_same_texts}
use Rattle.wat_format_theorems.proofs.laws.same_texts.Goals as goal

pub returns : goal.returns
returns c = record {
  same = layouts_are_same_texts (record {
    some_tiling = c.one_tiling.ensures.some;
    one_tiling = c.one_tiling.ensures.one;
    readable = c.tokens.ensures.readable;
    boundary = c.tokens.ensures.boundary;
    word = c.tokens.ensures.word;
    one = c.shown.ensures.one;
    all_some = c.all_shown.ensures.all_some;
    counting = c.counting.ensures.same;
    keep = c.kept_tokens.ensures.tokens;
    utf8 = c.kept_tokens.ensures.utf8;
  });
  one = maps_are_one;
}
