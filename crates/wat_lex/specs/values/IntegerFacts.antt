-- WebAssembly 2.0, 6.3.1 (integers): the kind of an integer as callers see it. By `Number` its fields are determined by
-- the lexeme.
use Rattle.std.specs.Prelude.{Bool, Option}
use Rattle.wat_lex.specs.grammar.Numbers.{sign_token}
use Rattle.wat_lex.specs.declared.lexer.kinds.IntegerKind.{IntegerKind}
use Rattle.wat_lex.specs.declared.lexer.kinds.SignToken.{SignToken}

-- The sign before the digits.
abbrev pub kind_sign : IntegerKind → Option SignToken
kind_sign kind = sign_token kind.sign

-- `true` if underscores separate the digits.
abbrev pub kind_has_underscores : IntegerKind → Bool
kind_has_underscores kind = kind.has_underscores

-- `true` if the digits follow `0x`.
abbrev pub kind_hex : IntegerKind → Bool
kind_hex kind = kind.hex
