use Rattle.std.proofs.Common.{length}
use denote.Text.{Utf8}
use denote.Shadow.{shadow}
use Rattle.wat_lex.proofs.values.StringValues.{Reading}
use Rattle.wat_lex.proofs.lexer.read.strings.unescaped.Given as goal

abbrev pub invariant-elements : goal.invariant-elements
invariant-elements l = shadow (Utf8 l.rest) × Reading l.fn.elements l.rest l.value.items

abbrev pub decreases-elements : goal.decreases-elements
decreases-elements l = length l.rest
