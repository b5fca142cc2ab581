use Rattle.std.proofs.Common.{◌≡◌, ◌∙◌, ◌+◌, ℕ, sym, ap, arith, List, ◌∷◌, drop, get_or, true, false}
use Rattle.std.proofs.lemmas.List.{drop_more, drop_all}
use Rattle.wat_lexer_parser.specs.names.RegisteredNames.{is_registered}
use Rattle.wat_c_records.specs.Looks.{names_between, registered}
use Rattle.wat_c_records.specs.inside.Naming.{is_between}
use Rattle.wat_c_records.proofs.Registering.{between_here, between_later, registered_none}
use Rattle.wat_c_records.proofs.looks.is_registered.Goals as goal

pub returns-then-is_between : goal.returns-then-is_between
returns-then-is_between c =
    let end = get_or c.args.ends.now c.loop-end.end-index 0 in
    let front : drop c.loop-end.end-index c.args.ends.now ≡ end ∷ drop
    (c.loop-end.end-index + 1) c.args.ends.now = drop_more c.args.ends.now c.loop-end.end-index 0 c.loop-end-test.true in
    let here : is_between c.args.names.now c.loop-end.start end c.args.name.now ≡ true = sym c.is_between.ensures ∙ c.if-is_between.true in
    sym (c.loop-end.invariant ∙ between_here c.args.names.now (drop (c.loop-end.end-index + 1) c.args.ends.now)
    (drop c.loop-end.end-index c.args.ends.now) c.loop-end.start end c.args.name.now front here)

pub loop-end-preserved : goal.loop-end-preserved
loop-end-preserved c =
    let end = get_or c.args.ends.now c.loop-end.end-index 0 in
    let front : drop c.loop-end.end-index c.args.ends.now ≡ end ∷ drop
    (c.loop-end.end-index + 1) c.args.ends.now = drop_more c.args.ends.now c.loop-end.end-index 0 c.loop-end-test.true in
    let later : is_between c.args.names.now c.loop-end.start end c.args.name.now ≡ false = sym c.is_between.ensures ∙ c.if-is_between.false in
    c.loop-end.invariant ∙ between_later c.args.names.now (drop (c.loop-end.end-index + 1) c.args.ends.now)
    (drop c.loop-end.end-index c.args.ends.now) c.loop-end.start end c.args.name.now front later

pub returns : goal.returns
returns c =
    let none = drop_all c.loop-end.end-index c.args.ends.now (omega (arith, c.loop-end-test.false)) in
    sym (c.loop-end.invariant ∙ ap (λ (ends : List ℕ). is_registered (registered
    (names_between c.loop-end.start c.args.names.now ends)) c.args.name.now) none ∙ registered_none c.args.name.now)
