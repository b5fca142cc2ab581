-- The annotations proposal: an annotation whose name is a string without escapes.
use Rattle.std.specs.Prelude.{◌≡◌, ◌+◌, ℕ, Bool, ◌==◌, ◌&&◌, not, nat_lt, List, drop, slice_index, if◌then◌else◌, Ok}
use Rattle.std.specs.List.{prefix_len}
use Rattle.wat_lex.specs.declared.lexer.faults.LexError.TheVariants.{EmptyAnnotation}
use Rattle.wat_lex.specs.declared.lexer.kinds.Token.{Token}
use Rattle.wat_lex.specs.declared.lexer.kinds.TokenKind.TheVariants.{Annotation}
use Rattle.wat_lex.specs.grammar.Classes.{is_run_char, at_sign, quote}
use Rattle.wat_lex.specs.inside.ScannedStrings.{is_plain}
use Rattle.wat_lex.specs.tokens.ReadableTokens.{word_of}
use Rattle.wat_lex.specs.tokens.Setting.{Setting}
use Rattle.wat_lex.specs.tokens.Tiling.{TokenAt}
use Rattle.wat_lex.specs.values.WordValues.{name_value}

-- `is_quoted_name text n`: the text begins with `@"`, `n` bytes and `"`; `n` is not 0, and no idchar or string follows
-- directly.
abbrev pub is_quoted_name : List ℕ → ℕ → Bool
is_quoted_name text n = (slice_index text 0 == at_sign && slice_index text 1 == quote) && ((nat_lt 0 n && slice_index text (n + 2) == quote) && not (is_run_char (slice_index text (n + 3))))

-- The length in bytes of such an annotation at the start of the text if all bytes of its name are `is_plain`, or 0
-- otherwise.
abbrev pub quoted_name_len : List ℕ → ℕ
quoted_name_len text = if is_quoted_name text (prefix_len is_plain (drop 2 text)) then prefix_len is_plain (drop 2 text) + 3 else 0

-- `NamedAt s p q`: bytes `p` to `q` are an annotation token with a valid name.
pub record NamedAt (s : Setting) (p q : ℕ) : Type 0 where
  pub token : Token
  pub there : TokenAt s p token
  pub ends : q ≡ token.offset + token.len
  pub kind : token.kind ≡ Annotation
  pub name : List ℕ
  pub value : name_value EmptyAnnotation (word_of s.text token) ≡ Ok name
