-- The input of the lexer: a source text and two flags. The standard has no flags.
use Rattle.std.specs.Prelude.{ℕ, List, true, false}
use Rattle.wat_lex.specs.declared.lexer.settings.Settings.{Settings}

-- The bytes of a source text, and the flags of the lexer.
pub record Setting : Type 0 where
  pub text : List ℕ
  pub flags : Settings

-- The same flags, with confusing characters allowed.
abbrev pub allowing : Settings → Settings
allowing flags = record flags { allow = true }

-- The most permissive flags: every lexeme under any flags is a lexeme under these.
abbrev pub lenient : Settings
lenient = record { allow = true; strict = false }
