use Rattle.std.proofs.Common.{◌≡◌, ◌+◌, ◌++◌, ◌∷◌, ◌∙◌, ap, sym, subst, arith, rules, []}
use Rattle.std.specs.Prelude.{List}
use Rattle.wat_lexer_parser.specs.declared.parser.calls.Call.{Call}
use Rattle.wat_lexer_parser.specs.declared.parser.calls.Reply.{Reply}
use Rattle.wat_lexer_parser.specs.calls.Calls.{IsStateAfterPrefix, answer}
use Rattle.wat_lexer_parser.proofs.calls.Beginnings.{Played, play_start, play_more, play_begins}
use Rattle.wat_lexer_parser.proofs.parser.calls.replay.Goals as goal

pub loop-i-init : goal.loop-i-init
loop-i-init c =
    let e : c.new-replies.result.items ≡ [] = search rules in
    record { within = omega arith; played = subst (λ (x : List Reply). Played c.args.parser.now c.args.calls.now 0 x c.args.parser.now) (sym e) (play_start c.args.parser.now c.args.calls.now) }

pub loop-i-preserved : goal.loop-i-preserved
loop-i-preserved c =
    let l = c.loop-i in
    let cs = c.args.calls.now in
    let x = c.index-calls-i.result in
    let r : c.in_ok-reply.reply ≡ (answer l.parser x).0 = search rules in
    let s : c.answer.new.self ≡ (answer l.parser x).1 = search rules in
    let r' = r ∙ ap (λ (y : Call). (answer l.parser y).0) c.index-calls-i.is in
    let s' = s ∙ ap (λ (y : Call). (answer l.parser y).1) c.index-calls-i.is in
    let e : c.push.new.self.items ≡ l.replies.items ++ (c.in_ok-reply.reply ∷ []) = search rules in
    let p = play_more c.args.parser.now cs l.i l.replies.items l.parser x c.in_ok-reply.reply c.answer.new.self c.loop-i-test.true r' s' l.invariant.played in
    record { within = omega arith; played = subst (λ (x : List Reply). Played c.args.parser.now cs (l.i + 1) x c.answer.new.self) (sym e) p }

pub returns-in_err-push-clause-beginning : goal.returns-in_err-push-clause-beginning
returns-in_err-push-clause-beginning c =
    let l = c.loop-i in
    let cs = c.args.calls.now in
    let x = c.index-calls-i.result in
    let r : c.in_ok-reply.reply ≡ (answer l.parser x).0 = search rules in
    let s : c.answer.new.self ≡ (answer l.parser x).1 = search rules in
    let r' = r ∙ ap (λ (y : Call). (answer l.parser y).0) c.index-calls-i.is in
    let s' = s ∙ ap (λ (y : Call). (answer l.parser y).1) c.index-calls-i.is in
    let b : IsStateAfterPrefix c.args.parser.now cs c.answer.new.self = play_begins c.args.parser.now cs (l.i + 1) _ c.answer.new.self (play_more c.args.parser.now cs l.i l.replies.items l.parser x c.in_ok-reply.reply c.answer.new.self c.loop-i-test.true r' s' l.invariant.played) in
    search rules
