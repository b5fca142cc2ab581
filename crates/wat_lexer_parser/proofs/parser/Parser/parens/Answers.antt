use Rattle.std.proofs.Common.{rules, subst, refl, inl, inr}
use Rattle.std.specs.Fn.{FnOnceReturnsAtMut}
use Rattle.wat_lexer_parser.specs.parser.Closures.{inside}
use Rattle.wat_lexer_parser.proofs.parser.Parser.parens.Goals as goal

pub returns-in-Ok-close-clause-ok : goal.returns-in-Ok-close-clause-ok
returns-in-Ok-close-clause-ok g c =
    let inner = inside c.args.self.now c.open.new.self.place in
    let given : FnOnceReturnsAtMut g.F.FnOnce c.args.f inner c.f.result c.f.new.arg2 = record { shown = _; shows = search rules; left = _; met = c.f.ensures; leaves = refl } in
    (c.open.new.self.place, c.f.new.arg2, search rules, search rules, subst (λ r. FnOnceReturnsAtMut g.F.FnOnce c.args.f inner r c.f.new.arg2) c.in-Ok.is given, search rules, search rules, search rules)

pub returns-in-Err-clause-err : goal.returns-in-Err-clause-err
returns-in-Err-clause-err g c =
    let inner = inside c.args.self.now c.open.new.self.place in
    let given : FnOnceReturnsAtMut g.F.FnOnce c.args.f inner c.f.result c.f.new.arg2 = record { shown = _; shows = search rules; left = _; met = c.f.ensures; leaves = refl } in
    inr (inl (c.open.new.self.place, c.f.new.arg2, search rules, subst (λ r. FnOnceReturnsAtMut g.F.FnOnce c.args.f inner r c.f.new.arg2) c.in-Err.is given, search rules))

pub returns-in-Err-close-clause-err : goal.returns-in-Err-close-clause-err
returns-in-Err-close-clause-err g c =
    let inner = inside c.args.self.now c.open.new.self.place in
    let given : FnOnceReturnsAtMut g.F.FnOnce c.args.f inner c.f.result c.f.new.arg2 = record { shown = _; shows = search rules; left = _; met = c.f.ensures; leaves = refl } in
    inr (inr (c.open.new.self.place, c.f.new.arg2, c.in-Ok.value, search rules, subst (λ r. FnOnceReturnsAtMut g.F.FnOnce c.args.f inner r c.f.new.arg2) c.in-Ok.is given, search rules, search rules))
