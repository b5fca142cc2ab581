use Rattle.std.proofs.Common.{◌≡◌, length}
use Rattle.wat_lex.specs.errors.Rendering.{past_columns}
use Rattle.wat_lex.proofs.error.shown.Shown.skip_columns.Given as goal

abbrev pub invariant-characters : goal.invariant-characters
invariant-characters l = past_columns l.left l.column l.self ≡ past_columns l.fn.columns l.fn.column l.fn.self

abbrev pub decreases-characters : goal.decreases-characters
decreases-characters l = length l.self
