use Rattle.std.proofs.Common.{◌≡◌, ◌<◌, ◌+◌, ◌∙◌, ap, sym, arith, rules, inl, inr, Some, None, Ok, Err}
use Rattle.std.specs.Prelude.{slice_get}
use Rattle.wat_lexer_parser.specs.declared.parser.fault.Step.TheVariants.{Take, Refuse, Skip}
use Rattle.wat_lexer_parser.specs.inside.Groups.{GroupEnds}
use Rattle.wat_lexer_parser.specs.inside.ShownIn.{step_of}
use Rattle.wat_lexer_parser.specs.shown.Shown.{ended}
use Rattle.wat_lexer_parser.specs.shown.Showing.{placed, shown}
use Rattle.wat_lexer_parser.proofs.shown.Looks.{shown_none, shown_group, shown_last, shown_passed, shown_taken, shown_refused, shown_from}
use Rattle.wat_lexer_parser.proofs.parser.text_ref.TextRef.look.Goals as goal

pub returns-in-Ok-None-clause-value : goal.returns-in-Ok-None-clause-value
returns-in-Ok-None-clause-value c =
    let s = c.args.self.now in
    let none : slice_get s.tokens c.tokens.i ≡ None = search rules in
    let end : s.ending ≡ None = search rules in
    sym (c.tokens.invariant.same ∙ shown_none s c.args.names.now c.tokens.i none ∙ ap (λ e. placed s.tokens (ended e)) end)

pub returns-in-Err-clause-value : goal.returns-in-Err-clause-value
returns-in-Err-clause-value c =
    let s = c.args.self.now in
    let none : slice_get s.tokens c.tokens.i ≡ None = search rules in
    let end : s.ending ≡ Some c.in-Err.fault = search rules in
    ap Err c.lexical.ensures ∙ sym (c.tokens.invariant.same ∙ shown_none s c.args.names.now c.tokens.i none ∙ ap (λ e. placed s.tokens (ended e)) end)

pub tokens-preserved-in-Pass : goal.tokens-preserved-in-Pass
tokens-preserved-in-Pass c =
    let s = c.args.self.now in
    let n = c.args.names.now in
    let i = c.tokens.i in
    let t = c.in-Ok-Some.token in
    let there : slice_get s.tokens i ≡ Some t = search rules in
    let same : shown s i n ≡ shown s (i + 1) n = elim c.in-Pass.is [
      | inl e ↦ shown_passed s n i t there (sym c.step.ensures ∙ e)
      | inr e ↦ shown_last s n i t there (sym c.step.ensures ∙ e)
    ] in
    record { place = search rules; on = omega (arith, c.tokens.invariant.on); same = c.tokens.invariant.same ∙ same }

pub returns-in-Take-clause-value : goal.returns-in-Take-clause-value
returns-in-Take-clause-value c =
    let s = c.args.self.now in
    let n = c.args.names.now in
    let i = c.tokens.i in
    let t = c.in-Ok-Some.token in
    let there : slice_get s.tokens i ≡ Some t = search rules in
    let step : step_of s.setting.text n t (slice_get s.tokens (i + 1)) ≡ Take = sym c.step.ensures ∙ c.in-Take.is in
    sym (c.tokens.invariant.same ∙ shown_taken s n i t there step)

pub returns-in-Refuse-clause-value : goal.returns-in-Refuse-clause-value
returns-in-Refuse-clause-value c =
    let s = c.args.self.now in
    let n = c.args.names.now in
    let i = c.tokens.i in
    let t = c.in-Ok-Some.token in
    let there : slice_get s.tokens i ≡ Some t = search rules in
    let step : step_of s.setting.text n t (slice_get s.tokens (i + 1)) ≡ Refuse c.in-Refuse.fault = sym c.step.ensures ∙ c.in-Refuse.is in
    sym (c.tokens.invariant.same ∙ shown_refused s n i t c.in-Refuse.fault there step)

pub tokens-preserved : goal.tokens-preserved
tokens-preserved c =
    let s = c.args.self.now in
    let n = c.args.names.now in
    let i = c.tokens.i in
    let t = c.in-Ok-Some.token in
    let there : slice_get s.tokens i ≡ Some t = search rules in
    let step : step_of s.setting.text n t (slice_get s.tokens (i + 1)) ≡ Skip = sym c.step.ensures ∙ c.in-Skip.is in
    let group : GroupEnds s (i + 1) (Ok (Some c.in-Ok-Some-past_group.after)) = search rules in
    let on : i + 1 < c.in-Ok-Some-past_group.after.0 = search rules in
    record {
      place = group.0;
      on = omega (arith, c.tokens.invariant.on, on);
      same = c.tokens.invariant.same ∙ shown_group s n i t there step ∙ ap (placed s.tokens) (group.1 n t) ∙ sym (shown_from s n c.in-Ok-Some-past_group.after.0);
    }

pub returns-in-Ok-None-past_group-clause-value : goal.returns-in-Ok-None-past_group-clause-value
returns-in-Ok-None-past_group-clause-value c =
    let s = c.args.self.now in
    let n = c.args.names.now in
    let i = c.tokens.i in
    let t = c.in-Ok-Some.token in
    let there : slice_get s.tokens i ≡ Some t = search rules in
    let step : step_of s.setting.text n t (slice_get s.tokens (i + 1)) ≡ Skip = sym c.step.ensures ∙ c.in-Skip.is in
    let group : GroupEnds s (i + 1) (Ok None) = search rules in
    ap Err c.unclosed.ensures ∙ sym (c.tokens.invariant.same ∙ shown_group s n i t there step ∙ ap (placed s.tokens) (group n t))

pub returns-in-Err-past_group-clause-value : goal.returns-in-Err-past_group-clause-value
returns-in-Err-past_group-clause-value c =
    let s = c.args.self.now in
    let n = c.args.names.now in
    let i = c.tokens.i in
    let t = c.in-Ok-Some.token in
    let there : slice_get s.tokens i ≡ Some t = search rules in
    let step : step_of s.setting.text n t (slice_get s.tokens (i + 1)) ≡ Skip = sym c.step.ensures ∙ c.in-Skip.is in
    let group : GroupEnds s (i + 1) (Err c.in-Err-past_group.fault) = search rules in
    ap Err c.lexical-in-Err-past_group.ensures ∙ sym (c.tokens.invariant.same ∙ shown_group s n i t there step ∙ ap (placed s.tokens) (group n t))
