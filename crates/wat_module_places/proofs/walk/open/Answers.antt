use Rattle.std.proofs.Common.{◌≡◌, IfOk, subst, sym}
use Rattle.wat_module_tokens.specs.TokenCursor.{terminals_of}
use Rattle.wat_module_places.specs.Walk.{opened, places_of}
use Rattle.wat_module_places.proofs.walk.open.Goals as goal

pub returns-in-Then : goal.returns-in-Then
returns-in-Then c =
    subst (λ k. IfOk c.begin_branch.result (λ found. opened k (terminals_of c.args.place) c.args.groups.now ≡ (places_of found, c.begin_branch.new.groups))) (sym c.in-Then.is) (c.begin_branch.ensures (terminals_of c.args.place))
