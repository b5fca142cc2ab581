use Rattle.std.proofs.Common.{◌∙◌, ap}
use Rattle.wat_module_tokens.specs.TokenCursor.{terminals_of}
use Rattle.wat_module_places.specs.Fields.{nth_field}
use Rattle.wat_module_places.proofs.ModulePlaces.{module_found}
use Rattle.wat_module_places.proofs.places.place_of_field.Goals as goal

pub returns : goal.returns
returns c fs m = c.nth_field.ensures ∙ ap (nth_field c.args.field) c.first_field.ensures ∙ module_found (terminals_of c.args.tokens) fs m c.args.field
