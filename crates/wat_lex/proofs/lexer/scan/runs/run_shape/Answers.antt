use Rattle.std.proofs.Common.{rules, sym, subst, ◌∙◌, ◌<◌, ◌⊎◌, arith, inl, inr}
use Rattle.wat_lex.specs.grammar.Runs.{WordKind, RunKind}
use Rattle.wat_lex.specs.inside.ScannedRuns.{idchar_count, string_count}
use Rattle.wat_lex.proofs.grammar.RunKinds.{no_strings, kind_of_word, kind_of_many}
use Rattle.wat_lex.proofs.inside.Outlines.{named_run, named_id, named_annotation}
use Rattle.wat_lex.specs.declared.lexer.kinds.Shape.TheVariants as shape
use Rattle.wat_lex.specs.declared.lexer.kinds.TokenKind.TheVariants as kind
use Rattle.wat_lex.proofs.lexer.scan.runs.run_shape.Goals as goal
use Rattle.wat_lex.proofs.lexer.scan.runs.run_shape.Goals.{then-strings-gt1-via-then-strings-gt1, then-strings-gt1-via-else-strings-gt1+then-idchars-gt1}

pub returns-then-strings-eq0 : goal.returns-then-strings-eq0
returns-then-strings-eq0 c = record {
  is_at = λ e. cc;
  kind = λ k h flags w ps e r i s.
      let p = no_strings flags w ps r (sym s ∙ c.if-strings-eq0.true) in
      kind_of_word w ps k p.same (subst (λ x. WordKind x k) (e ∙ p.bytes) h);
}

pub returns-then-strings-gt1 : goal.returns-then-strings-gt1
returns-then-strings-gt1 c = record {
  is_at = λ e. cc;
  kind = λ k h flags w ps e r i s.
      let many : (1 < string_count ps) ⊎ (1 < idchar_count ps) = elim c.then-strings-gt1.branch [
        | then-strings-gt1-via-then-strings-gt1 v ↦ inl (subst (λ x. 1 < x) s v.if-strings-gt1.true)
        | then-strings-gt1-via-else-strings-gt1+then-idchars-gt1 v ↦ inr (subst (λ x. 1 < x) i v.if-idchars-gt1.true)
      ] in
      subst (RunKind ps) (sym h) (kind_of_many ps (omega (arith, s, c.if-strings-eq0.false)) many);
}

pub returns-in-36 : goal.returns-in-36
returns-in-36 c =
    named_run c.args.word.now c.args.idchars c.args.strings shape.Id kind.Id (λ e. cc) (λ j h. h) (named_id c.args.word.now (search rules) (search rules))
    (omega (arith, c.if-strings-eq0.false, c.if-strings-gt1.false)) (omega (arith, c.if-idchars-eq0.false, c.if-idchars-gt1.false))

pub returns-in-64 : goal.returns-in-64
returns-in-64 c =
    named_run c.args.word.now c.args.idchars c.args.strings shape.Annotation kind.Annotation (λ e. cc) (λ j h. h) (named_annotation c.args.word.now (search rules) (search rules))
    (omega (arith, c.if-strings-eq0.false, c.if-strings-gt1.false)) (omega (arith, c.if-idchars-eq0.false, c.if-idchars-gt1.false))
