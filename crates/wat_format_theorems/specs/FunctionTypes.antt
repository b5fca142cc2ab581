-- The grammar of modules derives a formatted text with function types if and only if it derives the text with them. The formatter is not part of the
-- standard.
use Rattle.std.specs.Prelude.{◌↔◌, ℕ, List, None}
use Rattle.std.specs.Str.{IsUtf8}
use Rattle.wat_format.specs.Layout.{layout}
use Rattle.wat_lex.specs.tokens.Tiling.{MaximalTiling}
use Rattle.wat_lex.specs.declared.lexer.kinds.Token.{Token}
use Rattle.wat_types.specs.Compiling.{SpellsTypes, plain}
use Rattle.wat_types.specs.Signatures.{Signature}

-- For a UTF-8 text without a lexical error, whose raw tokens are `tokens`, the grammar derives the text with the function types `fs` if and only if it
-- derives the formatted text with them.
abbrev pub LayoutsSpellTheSame : Type 0
LayoutsSpellTheSame = (text : List ℕ) (tokens : List Token) (fs : List Signature) → IsUtf8 text → MaximalTiling (plain text) 0 tokens None → SpellsTypes text fs ↔ SpellsTypes (layout text tokens) fs
