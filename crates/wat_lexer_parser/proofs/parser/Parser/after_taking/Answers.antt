use Rattle.std.proofs.Common.{◌≡◌, ◌<◌, ◌∙◌, sym, ap, arith, rules, Some, None, Ok, Err}
use Rattle.wat_lexer_parser.specs.calls.Calls.{after_taking}
use Rattle.wat_lexer_parser.specs.shown.Showing.{shown}
use Rattle.wat_lexer_parser.proofs.calls.Takes.{takes_none, takes_token, takes_end, takes_fault}
use Rattle.wat_lexer_parser.proofs.parser.Parser.after_taking.Goals as goal

pub loop-left-preserved : goal.loop-left-preserved
loop-left-preserved c =
    let a = c.args.self.now in
    let l = c.loop-left in
    let e : shown a.source l.at a.names ≡ Ok (Some (c.in-Ok-Some.token, c.in-Ok-Some.next)) = search rules in
    let on : l.at < c.in-Ok-Some.next = search rules in
    record {
      same = l.invariant.same ∙ takes_token a.source a.names l.left l.at c.in-Ok-Some.next c.in-Ok-Some.token c.loop-left-test.true e;
      on = omega (arith, l.invariant.on, on);
      within = search rules;
    }

pub returns-in-Ok-None-clause-value : goal.returns-in-Ok-None-clause-value
returns-in-Ok-None-clause-value c =
    let a = c.args.self.now in
    let l = c.loop-left in
    let e : shown a.source l.at a.names ≡ Ok None = search rules in
    sym (l.invariant.same ∙ takes_end a.source a.names l.left l.at c.loop-left-test.true e)

pub returns-in-Err-clause-value : goal.returns-in-Err-clause-value
returns-in-Err-clause-value c =
    let a = c.args.self.now in
    let l = c.loop-left in
    let e : shown a.source l.at a.names ≡ Err c.in-Err.fault = search rules in
    sym (l.invariant.same ∙ takes_fault a.source a.names l.left l.at c.in-Err.fault c.loop-left-test.true e)

pub returns-clause-value : goal.returns-clause-value
returns-clause-value c =
    let a = c.args.self.now in
    let l = c.loop-left in
    let z : l.left ≡ 0 = omega (arith, c.loop-left-test.false) in
    sym (l.invariant.same ∙ ap (λ k. after_taking a.source a.names k l.at) z ∙ takes_none a.source a.names l.at)
