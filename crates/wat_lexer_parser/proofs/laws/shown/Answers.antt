use Rattle.std.proofs.Common.{sym}
use Rattle.std.proofs.lemmas.Str.{IsCharBoundary-start}
use Rattle.wat_lexer_parser.proofs.shown.Steps.{shows_is}
use Rattle.wat_lexer_parser.proofs.shown.SomethingShown.{something_shown}
use Rattle.wat_lexer_parser.proofs.laws.shown.Goals as goal

pub returns-clause-some : goal.returns-clause-some
returns-clause-some c = λ s n p u h.
    something_shown (record { there = c.names.ensures.some; values = c.names.ensures.value; readable = c.tokens.ensures.readable; boundary = c.tokens.ensures.boundary; words = c.tokens.ensures.word }) s n p u (IsCharBoundary-start s.setting.text u) h

pub returns-clause-one : goal.returns-clause-one
returns-clause-one c = λ x z n ts a h. sym (shows_is c.names.ensures.value x z n ts a h)
