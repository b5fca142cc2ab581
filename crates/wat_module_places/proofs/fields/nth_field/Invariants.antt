use Rattle.std.proofs.Common.{◌≡◌}
use Rattle.wat_module_places.specs.Fields.{nth_field}
use Rattle.wat_module_tokens.specs.TokenCursor.{terminals_of}
use Rattle.wat_module_places.proofs.fields.nth_field.Given as goal

abbrev pub invariant-field : goal.invariant-field
invariant-field l = nth_field l.before (terminals_of l.left) ≡ nth_field l.fn.index (terminals_of l.fn.fields)

abbrev pub decreases-field : goal.decreases-field
decreases-field l = l.before
