use Rattle.std.proofs.Common.{◌∙◌, drop, ap, subst, arith}
use Rattle.wat_lex.specs.inside.Recovered.{Covered}
use Rattle.wat_lex.proofs.inside.Recoveries.{reported, resumes, resumes_on}
use Rattle.wat_lex.proofs.tokens.OneRecovery.{resumes_once}
use Rattle.wat_lex.proofs.tokens.SomeTilings.{some_tiling}
use Rattle.wat_lex.proofs.lexer.Lexer.resume.Goals as goal
use Rattle.wat_lex.proofs.lexer.Lexer.resume.Goals.{After-covered_len}

covered : (c : After-covered_len) → Covered c.args.self.now.flags (drop c.args.pos c.args.self.now.text) c.args.fault.error c.covered_len.result
covered c =
    subst (λ f. Covered f (drop c.args.pos c.args.self.now.text) c.args.fault.error c.covered_len.result) c.settings.ensures
    (subst (λ x. Covered c.settings.result x c.args.fault.error c.covered_len.result) (c.range_from.ensures.value ∙ ap (drop c.args.pos) c.input.ensures.text) c.covered_len.ensures)

pub returns-clause-place : goal.returns-clause-place
returns-clause-place c = resumes c.args.self.now c.args.pos c.args.fault c.covered_len.result c.requires.start.0 (covered c)

pub returns-clause-one : goal.returns-clause-one
returns-clause-one c = λ place h. resumes_once c.args.self.now c.args.pos c.args.fault place _ h (resumes c.args.self.now c.args.pos c.args.fault c.covered_len.result c.requires.start.0 (covered c))

pub returns-clause-progress : goal.returns-clause-progress
returns-clause-progress c = let k = (resumes_on c.args.self.now c.args.pos c.args.fault c.covered_len.result c.input.ensures.utf8 c.requires.start (covered c)).1 in omega (arith, k)

pub returns-clause-boundary : goal.returns-clause-boundary
returns-clause-boundary c = (resumes_on c.args.self.now c.args.pos c.args.fault c.covered_len.result c.input.ensures.utf8 c.requires.start (covered c)).0

pub returns-clause-tiling : goal.returns-clause-tiling
returns-clause-tiling c = some_tiling c.args.self.now _ c.input.ensures.utf8 (resumes_on c.args.self.now c.args.pos c.args.fault c.covered_len.result c.input.ensures.utf8 c.requires.start (covered c)).0

pub returns-clause-reported : goal.returns-clause-reported
returns-clause-reported c = reported c.args.self.now c.args.pos c.args.fault c.covered_len.result c.input.ensures.utf8 c.requires.start c.requires.fault (covered c)
