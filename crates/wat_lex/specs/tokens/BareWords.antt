-- WebAssembly 2.0, 6.2.2 (tokens), and the annotations proposal: idchars that no string follows directly.
use Rattle.std.specs.Prelude.{◌≡◌, ◌≢◌, ◌+◌, ℕ, ◌==◌, List, slice_index, if◌then◌else◌}
use Rattle.std.specs.List.{prefix_len}
use Rattle.wat_lex.specs.declared.lexer.kinds.Token.{Token}
use Rattle.wat_lex.specs.declared.lexer.kinds.TokenKind.TheVariants.{LParen, RParen, Annotation}
use Rattle.wat_lex.specs.grammar.Classes.{is_idchar, at_sign, quote}
use Rattle.wat_lex.specs.tokens.Setting.{Setting}
use Rattle.wat_lex.specs.tokens.Tiling.{TokenAt}

-- The length in bytes of the idchars at the start of the text, or 0 if a string follows them directly.
abbrev pub bare_len : List ℕ → ℕ
bare_len text = if slice_index text (prefix_len is_idchar text) == quote then 0 else prefix_len is_idchar text

-- `BareWordAt s p q`: bytes `p` to `q` are a token that is not a parenthesis, and that is an annotation if its first
-- byte is `@`.
pub record BareWordAt (s : Setting) (p q : ℕ) : Type 0 where
  pub token : Token
  pub there : TokenAt s p token
  pub ends : q ≡ token.offset + token.len
  pub not_open : token.kind ≢ LParen
  pub not_close : token.kind ≢ RParen
  pub marked : slice_index s.text p ≡ at_sign → token.kind ≡ Annotation
