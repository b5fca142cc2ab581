use Rattle.std.proofs.Common.{◌≡◌, ◌≤◌, ◌∙◌, ◌++◌, ◌∷◌, [], length, map, true, false, arith, rules, sym, ap, subst, None, Ok, Err}
use Rattle.std.specs.Prelude.{Vec}
use Rattle.std.specs.declared.alloc.Global.{Global}
use Rattle.std.proofs.lemmas.List.{map-append}
use Rattle.wat_lexer_parser.specs.lemmas.WhileLaws.{IsSoFar, none_so_far, one_more_read, one_refused_read, look_refused_read, all_read_at, asks_at}
use Rattle.wat_lexer_parser.specs.parser.Sights.{PeekIs}
use Rattle.wat_lexer_parser.specs.readings.Readings.{while_seen}
use Rattle.wat_lexer_parser.specs.readings.Reads.{Reads}
use Rattle.wat_lexer_parser.proofs.parser.Parser.all_while.Goals as goal

pub each-init : goal.each-init
each-init g c =
    let a = c.args.self.now in
    record {
      kept = search rules;
      on = search rules;
      within = search rules;
      so_far = subst (λ vs. IsSoFar g.P.Peek.sight g.T.Parse.meaning a (map g.T.Parse.value vs) a.place) (sym c.new-values.ensures.items) (none_so_far g.P.Peek.sight g.T.Parse.meaning a);
    }

pub each-preserved : goal.each-preserved
each-preserved g c =
    let a = c.args.self.now in
    let b = c.each.self in
    let i = c.each.invariant in
    let seen : (g.P.Peek.sight b).known ≡ Ok true = search rules in
    let x = c.in_ok-value.value in
    let q = c.parse.new.self.place in
    let read : Reads g.T.Parse.value g.T.Parse.meaning b (Ok x) q = search rules in
    let items : c.push.new.self.items ≡ c.each.values.items ++ (x ∷ []) = search rules in
    let known : map g.T.Parse.value c.push.new.self.items ≡ map g.T.Parse.value c.each.values.items ++ (g.T.Parse.value x ∷ []) = ap (map g.T.Parse.value) items ∙ map-append g.T.Parse.value c.each.values.items (x ∷ []) in
    record {
      kept = search rules;
      on = search rules;
      within = search rules;
      so_far = subst (λ vs. IsSoFar g.P.Peek.sight g.T.Parse.meaning a vs q) (sym known) (one_more_read g.T.Parse.value g.P.Peek.sight g.T.Parse.meaning a b (map g.T.Parse.value c.each.values.items) x q c.requires i.so_far i.kept i.within seen read);
    }

pub each-smaller : goal.each-smaller
each-smaller g c =
    let a = c.args.self.now in
    let b = c.each.self in
    let x = c.in_ok-value.value in
    let d = c.parse.new.self in
    let read : Reads g.T.Parse.value g.T.Parse.meaning b (Ok x) d.place = search rules in
    let some = c.requires b (g.T.Parse.value x) read.0 in
    let far = read.1 in
    let within : d.place ≤ length d.source.tokens = search rules in
    let same : length d.source.tokens ≡ length b.source.tokens = search rules in
    omega (arith, some, far, within, same)

pub returns-clause-reads : goal.returns-clause-reads
returns-clause-reads g c =
    let b = c.each.self in
    let unseen : (g.P.Peek.sight b).known ≡ Ok false = search rules in
    all_read_at g.P.Peek.sight g.T.Parse.meaning c.args.self.now b (map g.T.Parse.value c.each.values.items) c.each.invariant.so_far c.each.invariant.kept c.each.invariant.within unseen

pub returns-in_err-push-clause-reads : goal.returns-in_err-push-clause-reads
returns-in_err-push-clause-reads g c =
    let a = c.args.self.now in
    let b = c.each.self in
    let seen : (g.P.Peek.sight b).known ≡ Ok true = search rules in
    let none : c.from_residual-in_err-push.result ≡ Err None = search rules in
    subst (λ r. Reads (λ v. map g.T.Parse.value v.items) (while_seen g.P.Peek.sight g.T.Parse.meaning) a r c.parse.new.self.place) (sym none) (asks_at g.P.Peek.sight g.T.Parse.meaning a b (map g.T.Parse.value c.each.values.items) c.each.invariant.so_far c.each.invariant.kept c.each.invariant.within seen)

pub returns-in_err-value-clause-reads : goal.returns-in_err-value-clause-reads
returns-in_err-value-clause-reads g c =
    let a = c.args.self.now in
    let b = c.each.self in
    let q = c.parse.new.self.place in
    let seen : (g.P.Peek.sight b).known ≡ Ok true = search rules in
    let e = c.in_err-value.field-0.0 in
    let is : c.from_residual-in_err-value.result ≡ Err e = search rules in
    let read : Reads g.T.Parse.value g.T.Parse.meaning b (Err e) q = search rules in
    subst (λ r. Reads (λ v. map g.T.Parse.value v.items) (while_seen g.P.Peek.sight g.T.Parse.meaning) a r q) (sym is) (one_refused_read g.T.Parse.value (λ (v : Vec _ Global). map g.T.Parse.value v.items) g.P.Peek.sight g.T.Parse.meaning a b (map g.T.Parse.value c.each.values.items) e q c.each.invariant.so_far c.each.invariant.kept c.each.invariant.within seen read)

pub returns-in_err-peek-clause-reads : goal.returns-in_err-peek-clause-reads
returns-in_err-peek-clause-reads g c =
    let a = c.args.self.now in
    let b = c.each.self in
    let e = c.in_err-peek.field-0.0 in
    let is : c.from_residual.result ≡ Err e = search rules in
    let known : PeekIs (g.P.Peek.sight b) (Err e) = search rules in
    subst (λ r. Reads (λ v. map g.T.Parse.value v.items) (while_seen g.P.Peek.sight g.T.Parse.meaning) a r b.place) (sym is) (look_refused_read (λ (v : Vec _ Global). map g.T.Parse.value v.items) g.P.Peek.sight g.T.Parse.meaning a b (map g.T.Parse.value c.each.values.items) e c.each.invariant.so_far c.each.invariant.kept c.each.invariant.within known)
