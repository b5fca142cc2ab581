use Rattle.wat_format.proofs.KeptTokens.{layouts_keep, layouts_utf8}
use Rattle.wat_format.proofs.laws.kept_tokens.Goals as goal

pub returns : goal.returns
returns c = record {
  tokens = layouts_keep c.tokens.ensures.boundary c.one_tiling.ensures.one;
  utf8 = layouts_utf8 c.tokens.ensures.boundary;
}
