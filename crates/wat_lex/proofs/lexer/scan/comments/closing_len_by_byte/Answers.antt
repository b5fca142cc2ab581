use Rattle.std.proofs.Common.{arith, ◌+◌, ◌-◌, drop, subst}
use Rattle.std.proofs.lemmas.List.{drop_all}
use Rattle.wat_lex.specs.inside.Nesting.{Reaches}
use Rattle.wat_lex.proofs.grammar.Comments.{open_at, close_at, other_at, none_closes, all_closed}
use Rattle.wat_lex.proofs.lexer.scan.comments.closing_len_by_byte.Goals as goal
use Rattle.wat_lex.proofs.lexer.scan.comments.closing_len_by_byte.Goals.{else-i-text-via-then-i-text+then-text-i-eq40+else-text-i-eq59, else-i-text-via-then-i-text+else-text-i-eq40, else-i-text-via-else-i-text}
use Rattle.wat_lex.proofs.lexer.scan.comments.closing_len_by_byte.Goals.{else-i-text-2-via-then-i-text-2+then-text-i-eq59-2+else-text-i-eq41, else-i-text-2-via-then-i-text-2+else-text-i-eq59-2, else-i-text-2-via-else-i-text-2}

pub loop-i-preserved-then-text-i-eq59 : goal.loop-i-preserved-then-text-i-eq59
loop-i-preserved-then-text-i-eq59 c =
    let s = c.args.text.now in
    record {
      some = omega arith;
      few = omega (arith, c.loop-i.invariant.few);
      range = omega (arith, c.if-i-text.true);
      reaches = open_at s c.loop-i.i c.loop-i.level c.if-i-text.true c.if-text-i-eq40.true c.if-text-i-eq59.true c.loop-i.invariant.some c.loop-i.invariant.reaches;
    }

pub returns-then-level-eq0-clause-found : goal.returns-then-level-eq0-clause-found
returns-then-level-eq0-clause-found c =
    let s = c.args.text.now in
    all_closed s (c.loop-i.level - 1) (drop (c.loop-i.i + 2) s) c.if-level-eq0.true
    (close_at s c.loop-i.i c.loop-i.level c.if-i-text-2.true c.if-text-i-eq59-2.true c.if-text-i-eq41.true c.loop-i.invariant.some c.loop-i.invariant.reaches)

pub loop-i-preserved-then-text-i-eq41 : goal.loop-i-preserved-then-text-i-eq41
loop-i-preserved-then-text-i-eq41 c =
    let s = c.args.text.now in
    record {
      some = omega (arith, c.if-level-eq0.false);
      few = omega (arith, c.loop-i.invariant.few);
      range = omega (arith, c.if-i-text-2.true);
      reaches = close_at s c.loop-i.i c.loop-i.level c.if-i-text-2.true c.if-text-i-eq59-2.true c.if-text-i-eq41.true c.loop-i.invariant.some c.loop-i.invariant.reaches;
    }

pub loop-i-preserved : goal.loop-i-preserved
loop-i-preserved c =
    let s = c.args.text.now in
    record {
      some = c.loop-i.invariant.some;
      few = omega (arith, c.loop-i.invariant.few);
      range = omega (arith, c.loop-i-test.true);
      reaches = other_at s c.loop-i.i c.loop-i.level c.loop-i-test.true c.loop-i.invariant.some c.loop-i.invariant.reaches
          (λ x y z. elim c.else-i-text.branch [ else-i-text-via-then-i-text+then-text-i-eq40+else-text-i-eq59 w ↦ omega arith | else-i-text-via-then-i-text+else-text-i-eq40 w ↦ omega arith | else-i-text-via-else-i-text w ↦ omega arith ])
          (λ x y z. elim c.else-i-text-2.branch [ else-i-text-2-via-then-i-text-2+then-text-i-eq59-2+else-text-i-eq41 w ↦ omega arith | else-i-text-2-via-then-i-text-2+else-text-i-eq59-2 w ↦ omega arith | else-i-text-2-via-else-i-text-2 w ↦ omega arith ]);
    }

pub returns-clause-none : goal.returns-clause-none
returns-clause-none c =
    let e = drop_all c.loop-i.i c.args.text.now c.loop-i-test.false in
    none_closes c.args.text.now c.loop-i.level c.loop-i.invariant.some (subst (λ x. Reaches c.args.text.now c.loop-i.level x) e c.loop-i.invariant.reaches)
