use Rattle.std.proofs.Common.{◌∙◌, ap, sym}
use Rattle.std.specs.Option.{option_map}
use Rattle.wat_module_tokens.specs.TokenCursor.{terminals_of}
use Rattle.wat_module_places.proofs.ModulePlaces.{found_place, other_place}
use Rattle.wat_module_places.proofs.places.place_in_module.Goals as goal

pub returns-in-Some-2 : goal.returns-in-Some-2
returns-in-Some-2 c fs m =
    found_place (terminals_of c.args.tokens) fs m c.args.field c.args.instruction (terminals_of c.in-Some.keyword) (terminals_of c.in-Some-2.place) (c.in-Some.ensures fs m) (sym (ap (option_map terminals_of) c.in-Some-2.is) ∙ c.in_ok-place.ensures)

pub returns-in-None : goal.returns-in-None
returns-in-None c fs m =
    other_place (terminals_of c.args.tokens) fs m c.args.field c.args.instruction (terminals_of c.in-Some.keyword) (c.in-Some.ensures fs m) (sym (ap (option_map terminals_of) c.in-None.is) ∙ c.in_ok-place.ensures)
