use Rattle.std.proofs.Common.{drop, ◌≡◌, ◌≤◌, ◌<◌, ◌+◌, ◌∙◌, sym, subst, arith, rules, get_or, length, Some, None}
use Rattle.std.specs.Prelude.{slice_get}
use Rattle.wat_lexer_parser.specs.declared.parser.fault.Step.TheVariants.{Pass, Take, Finish, Refuse, Skip}
use Rattle.wat_lexer_parser.specs.inside.Table.{Pair}
use Rattle.wat_lexer_parser.specs.inside.ShownIn.{step_of}
use Rattle.wat_lexer_parser.proofs.groups.Closing.{closed_from, group_from}
use Rattle.wat_lexer_parser.proofs.shown.Looks.{shown_pass, shown_take, shown_finish, shown_refuse, shown_skip, shown_unclosed, shown_end, skip_heads}
use Rattle.wat_lexer_parser.proofs.parser.table_ref.TableRef.look.Goals as goal

pub loop-i-preserved-in-Pass : goal.loop-i-preserved-in-Pass
loop-i-preserved-in-Pass c =
    let t = c.index-token.result.now in
    let s = c.args.self.now in
    let n = c.args.names.now in
    let i = c.loop-i.i in
    let h : i < length s.tokens = search rules in
    let e : t ≡ get_or s.tokens i t = search rules in
    let f : step_of s.setting.text n t (slice_get s.tokens (i + 1)) ≡ Pass = sym c.step.ensures ∙ c.in-Pass.is in
    record { on = omega arith; same = c.loop-i.invariant.same ∙ shown_pass s n i t h e f }

pub returns-in-Take-clause-value : goal.returns-in-Take-clause-value
returns-in-Take-clause-value c =
    let t = c.index-token.result.now in
    let s = c.args.self.now in
    let n = c.args.names.now in
    let i = c.loop-i.i in
    let h : i < length s.tokens = search rules in
    let e : t ≡ get_or s.tokens i t = search rules in
    let f : step_of s.setting.text n t (slice_get s.tokens (i + 1)) ≡ Take = sym c.step.ensures ∙ c.in-Take.is in
    sym (c.loop-i.invariant.same ∙ shown_take s n i t h e f)

pub returns-in-Finish-clause-value : goal.returns-in-Finish-clause-value
returns-in-Finish-clause-value c =
    let t = c.index-token.result.now in
    let s = c.args.self.now in
    let n = c.args.names.now in
    let i = c.loop-i.i in
    let h : i < length s.tokens = search rules in
    let e : t ≡ get_or s.tokens i t = search rules in
    let f : step_of s.setting.text n t (slice_get s.tokens (i + 1)) ≡ Finish = sym c.step.ensures ∙ c.in-Finish.is in
    c.ending.ensures ∙ sym (c.loop-i.invariant.same ∙ shown_finish s n i t h e f)

pub returns-in-Refuse-clause-value : goal.returns-in-Refuse-clause-value
returns-in-Refuse-clause-value c =
    let t = c.index-token.result.now in
    let s = c.args.self.now in
    let n = c.args.names.now in
    let i = c.loop-i.i in
    let h : i < length s.tokens = search rules in
    let e : t ≡ get_or s.tokens i t = search rules in
    let f : step_of s.setting.text n t (slice_get s.tokens (i + 1)) ≡ Refuse c.in-Refuse.fault = sym c.step.ensures ∙ c.in-Refuse.is in
    sym (c.loop-i.invariant.same ∙ shown_refuse s n i t c.in-Refuse.fault h e f)

pub close_of-requires : goal.close_of-requires
close_of-requires c =
    let t = c.index-token.result.now in
    let s = c.args.self.now in
    let n = c.args.names.now in
    let i = c.loop-i.i in
    let h : i < length s.tokens = search rules in
    let e : t ≡ get_or s.tokens i t = search rules in
    let f : step_of s.setting.text n t (slice_get s.tokens (i + 1)) ≡ Skip = sym c.step.ensures ∙ c.in-Skip.is in
    skip_heads s n i t h e f

pub loop-i-preserved : goal.loop-i-preserved
loop-i-preserved c =
    let t = c.index-token.result.now in
    let s = c.args.self.now in
    let n = c.args.names.now in
    let i = c.loop-i.i in
    let h : i < length s.tokens = search rules in
    let e : t ≡ get_or s.tokens i t = search rules in
    let f : step_of s.setting.text n t (slice_get s.tokens (i + 1)) ≡ Skip = sym c.step.ensures ∙ c.in-Skip.is in
    let p : Pair s.tokens i (Some c.in-Some.close) = subst (Pair s.tokens i) c.in-Some.is c.close_of.ensures in
    record { on = omega (arith, p.0); same = c.loop-i.invariant.same ∙ shown_skip s n i c.in-Some.close t h e f (closed_from (drop (i + 1) s.tokens) (drop (c.in-Some.close + 1) s.tokens) p.2) }

pub returns-in-None-clause-value : goal.returns-in-None-clause-value
returns-in-None-clause-value c =
    let t = c.index-token.result.now in
    let s = c.args.self.now in
    let n = c.args.names.now in
    let i = c.loop-i.i in
    let h : i < length s.tokens = search rules in
    let e : t ≡ get_or s.tokens i t = search rules in
    let f : step_of s.setting.text n t (slice_get s.tokens (i + 1)) ≡ Skip = sym c.step.ensures ∙ c.in-Skip.is in
    let p : Pair s.tokens i None = subst (Pair s.tokens i) c.in-None.is c.close_of.ensures in
    c.unclosed_ending.ensures ∙ sym (c.loop-i.invariant.same ∙ shown_unclosed s n i t h e f (λ r k. p r (group_from (drop (i + 1) s.tokens) r k)))

pub returns-clause-value : goal.returns-clause-value
returns-clause-value c =
    let s = c.args.self.now in
    let h : length s.tokens ≤ c.loop-i.i = search rules in
    c.ending-2.ensures ∙ sym (c.loop-i.invariant.same ∙ shown_end s c.args.names.now c.loop-i.i h)
