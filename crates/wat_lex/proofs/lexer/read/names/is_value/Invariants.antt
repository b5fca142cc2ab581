use Rattle.std.proofs.Common.{◌≡◌, ◌↔◌, length}
use denote.Text.{Utf8}
use denote.Shadow.{shadow}
use Rattle.std.specs.Str.{chars}
use Rattle.wat_lex.specs.values.Names.{IsQuoted}
use Rattle.wat_lex.specs.inside.StringParts.{value_of}
use Rattle.wat_lex.proofs.lexer.read.names.is_value.Given as goal

abbrev pub invariant-loop-part : goal.invariant-loop-part
invariant-loop-part l = shadow (Utf8 l.rest) × IsQuoted (chars l.rest) × ((value_of l.fn.elements ≡ l.fn.value) ↔ (value_of l.rest ≡ l.left))

abbrev pub decreases-loop-part : goal.decreases-loop-part
decreases-loop-part l = length l.rest
