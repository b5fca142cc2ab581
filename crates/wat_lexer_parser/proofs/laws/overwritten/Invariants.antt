use Rattle.std.proofs.Common.{◌≡◌, ◌++◌, take, replicate, string_bytes}
use Rattle.wat_lex.specs.tokens.Blanking.{space}
use Rattle.wat_lexer_parser.proofs.laws.overwritten.Given as goal

abbrev pub invariant-loop : goal.invariant-loop
invariant-loop l = string_bytes l.other ≡ take l.token.offset l.text ++ replicate l.counter space
