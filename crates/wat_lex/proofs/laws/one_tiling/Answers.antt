use Rattle.wat_lex.proofs.tokens.EverySetting.{each_place_is_tiled, tilings_are_one}
use Rattle.wat_lex.proofs.laws.one_tiling.Goals as goal

pub returns-clause-some : goal.returns-clause-some
returns-clause-some c = each_place_is_tiled

pub returns-clause-one : goal.returns-clause-one
returns-clause-one c = tilings_are_one
