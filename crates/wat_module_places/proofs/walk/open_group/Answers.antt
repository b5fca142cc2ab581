use Rattle.std.proofs.Common.{◌∙◌, ap, sym}
use Rattle.wat_module_tokens.specs.TokenCursor.{terminals_of}
use Rattle.wat_module_places.specs.Walk.{walk}
use Rattle.wat_module_places.proofs.Steps.{other_group, word_group}
use Rattle.wat_module_places.proofs.walk.open_group.Goals as goal

pub returns-in_ok-place-in-Some-clause-found : goal.returns-in_ok-place-in-Some-clause-found
returns-in_ok-place-in-Some-clause-found c =
    word_group c.args.groups.now c.open.new.groups (terminals_of c.args.inside) (terminals_of c.in-Some.rest) _ _ _ c.in-Some.ensures c.kind.ensures c.in_ok-place-in-Some.ensures

pub returns-in_ok-push-in-None-clause-found : goal.returns-in_ok-push-in-None-clause-found
returns-in_ok-push-in-None-clause-found c =
    other_group c.args.groups.now (terminals_of c.args.inside) c.in-None.ensures ∙ ap (λ gs. walk gs (terminals_of c.args.inside)) (sym c.in_ok-push-in-None.ensures)
