use Rattle.std.proofs.Common.{◌≡◌, arith, refl, subst}
use Rattle.std.specs.Prelude.{replicate}
use Rattle.wat_lex.specs.errors.LaidPieces.{WritesAfter}
use Rattle.wat_lex.proofs.errors.Laying.{lays_nothing, lays_then, spaces_more}
use Rattle.wat_lex.proofs.error.pieces.write_spaces.Goals as goal

pub loop-init : goal.loop-init
loop-init c = lays_nothing c.args.out.now c.args.at c.requires

pub lay-at-requires : goal.lay-at-requires
lay-at-requires c = c.loop.invariant.within

pub loop-preserved : goal.loop-preserved
loop-preserved c = lays_then _ _ _ _ _ _ _ _ _ c.loop.invariant c.lay-at.ensures (spaces_more c.loop.counter _ refl)

pub returns : goal.returns
returns c =
    let all : c.loop.counter ≡ c.args.count = omega (arith, c.loop-test.false, c.loop.auto.counter-end) in
    subst (λ n. WritesAfter c.args.out.now c.args.at (replicate n 32) c.loop.out c.loop.at) all c.loop.invariant
