-- WebAssembly 2.0, 6.2.3 (whitespace) and 6.2.4 (comments), and the annotations proposal, whose annotations begin with
-- `(@`: tests of a token.
use Rattle.std.specs.Prelude.{◌+◌, ◌==◌, ℕ, Bool, true, false, ◌||◌, List, slice_get, option_map, unwrap_or}
use Rattle.wat_lex.specs.grammar.Classes.{at_sign}
use Rattle.wat_lex.specs.declared.lexer.kinds.Token.{Token}
use Rattle.wat_lex.specs.declared.lexer.kinds.TokenKind.{TokenKind}
use Rattle.wat_lex.specs.declared.lexer.kinds.TokenKind.TheVariants.{LineComment, BlockComment, Whitespace}

abbrev pub is_space : TokenKind → Bool
is_space Whitespace = true
is_space kind = false

abbrev pub is_comment : TokenKind → Bool
is_comment LineComment = true
is_comment BlockComment = true
is_comment kind = false

abbrev pub is_blank : TokenKind → Bool
is_blank kind = is_space kind || is_comment kind

-- `is_marked text t`: the byte after the first byte of the token is `@`.
abbrev pub is_marked : List ℕ → Token → Bool
is_marked text t = unwrap_or (option_map (λ b. b == at_sign) (slice_get text (t.offset + 1))) false
