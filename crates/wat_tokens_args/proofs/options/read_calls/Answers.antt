use Rattle.std.proofs.Common.{subst}
use Rattle.wat_tokens_output.specs.Calls.{NamesCall, NamesNoCall}
use Rattle.wat_tokens_args.proofs.CallLaws.{spells_next, spells_none}
use Rattle.wat_tokens_args.proofs.options.read_calls.Goals as goal

pub loop-word-preserved : goal.loop-word-preserved
loop-word-preserved c =
    let spelled = rw c.in-Some.is at c.in_ok-call.ensures.spelled in
    let text = subst (λ t. NamesCall t c.in-Some.call) c.deref.ensures spelled in
    let l = c.loop-word in
    spells_next c.args.words.now l.word-index l.calls.items c.push.new.self.items c.word-item.result c.in-Some.call c.loop-word-test.true c.word-item.is l.invariant text c.in_ok-push.ensures.items

pub returns-in_default : goal.returns-in_default
returns-in_default c =
    let none = rw c.in_default.is at c.in_ok-call.ensures.spelled in
    spells_none c.args.words.now c.loop-word.word-index c.word-item.result c.loop-word-test.true c.word-item.is (subst NamesNoCall c.deref.ensures none)
