use Rattle.std.proofs.Common.{refl}
use Rattle.wat_lex.proofs.tokens.RawLaws.{laws_of}
use Rattle.wat_lex.proofs.tokens.CutTexts.{cuts}
use Rattle.wat_lex.proofs.tokens.MovedTexts.{moves}
use Rattle.wat_lex.proofs.tokens.OneTilings.{one_tiling}
use Rattle.wat_lex.proofs.tokens.Raws.{tiled, tiled_run}
use Rattle.wat_lex.proofs.tokens.SomeTilings.{some_tiling}
use Rattle.wat_lex.proofs.lexer.Lexer.iter.Goals as goal

pub returns-clause-raw : goal.returns-clause-raw
returns-clause-raw c = λ items h. tiled _ items refl h

pub returns-clause-runs : goal.returns-clause-runs
returns-clause-runs c = λ p _ e w. tiled_run _ refl p e w

pub returns-clause-laws : goal.returns-clause-laws
returns-clause-laws c = λ items h. laws_of _ _ items c.input.ensures.utf8 c.requires (tiled _ items refl h)

pub returns-clause-some : goal.returns-clause-some
returns-clause-some c = some_tiling _ _ c.input.ensures.utf8 c.requires

pub returns-clause-one : goal.returns-clause-one
returns-clause-one c = one_tiling _ _

pub returns-clause-cuts : goal.returns-clause-cuts
returns-clause-cuts c = cuts _ _ c.input.ensures.utf8 c.requires

pub returns-clause-moves : goal.returns-clause-moves
returns-clause-moves c = moves _ _ c.input.ensures.utf8 c.requires
