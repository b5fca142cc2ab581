-- WebAssembly 2.0, 6.2.2 (tokens) and 6.3 (values: integers, floating-point, strings, identifiers): the visible tokens
-- of a text, as the terminal symbols of the grammar.
use Rattle.std.specs.Prelude.{◌≡◌, ℕ, ◌^◌, true, List, map, nat_lt, Option, Some, None, Result, Ok, Err, if◌then◌else◌}
use Rattle.wat_lex.specs.declared.lexer.faults.LexError.{LexError}
use Rattle.wat_lex.specs.declared.lexer.faults.LexError.TheVariants.{EmptyId}
use Rattle.wat_lex.specs.declared.lexer.kinds.SignToken.{SignToken}
use Rattle.wat_lex.specs.declared.lexer.kinds.SignToken.TheVariants as token_sign
use Rattle.wat_lex.specs.declared.lexer.kinds.Token.{Token}
use Rattle.wat_lex.specs.declared.lexer.kinds.TokenKind.{TokenKind}
use Rattle.wat_lex.specs.declared.lexer.kinds.TokenKind.TheVariants as kind
use Rattle.wat_lex.specs.tokens.ReadableTokens.{token_text, word_of}
use Rattle.wat_lex.specs.tokens.Setting.{Setting}
use Rattle.wat_lex.specs.values.IntegerFacts.{kind_hex, kind_sign}
use Rattle.wat_lex.specs.values.NumberValues.{integer_value}
use Rattle.wat_lex.specs.values.WordValues.{name_value, string_value}
use Rattle.wat_lexer_parser.specs.laws.Blanking.{TextShows}
use Rattle.wat_lexer_parser.specs.names.RegisteredNames.{no_names}
use Rattle.wat_module_tokens.specs.declared.token.Sign.{Sign}
use Rattle.wat_module_tokens.specs.declared.token.Sign.TheVariants as sign
use Rattle.wat_module_tokens.specs.Terminals.{Terminal, Open, Close, Word, Id, Integer, Text, Other, float_of}

-- The sign of an integer token.
abbrev pub sign_of : Option SignToken → Sign
sign_of None = sign.Absent
sign_of (Some token_sign.Plus) = sign.Plus
sign_of (Some token_sign.Minus) = sign.Minus

-- 6.3.1, 6.3.2: the terminal of an integer token by its sign, its magnitude and its lexeme.
-- An integer of 2^64 or more is only a float.
abbrev pub integer : Sign → ℕ → List ℕ → Terminal
integer s n w = if nat_lt n (2 ^ 64) then Integer s n else float_of w

-- 6.3.5, identifier: its name must be UTF-8 and not empty; otherwise no rule accepts the token.
abbrev pub identifier : Result (List ℕ) LexError → Terminal
identifier (Ok name) = Id name
identifier (Err e) = Other

-- 6.2.2: the terminal of a token, by its kind. Reserved tokens and annotations are terminals that no rule accepts.
abbrev pub terminal_by : List ℕ → Token → TokenKind → Terminal
terminal_by text t kind.LParen = Open
terminal_by text t kind.RParen = Close
terminal_by text t kind.Keyword = Word (token_text text t)
terminal_by text t kind.Id = identifier (name_value EmptyId (word_of text t))
terminal_by text t (kind.Integer k) = integer (sign_of (kind_sign k)) (integer_value (kind_hex k) (word_of text t)) (token_text text t)
terminal_by text t (kind.Float k) = float_of (token_text text t)
terminal_by text t kind.String = Text (string_value (word_of text t))
terminal_by text t k = Other

-- 6.2.2: the terminal of a token.
abbrev pub terminal_of : List ℕ → Token → Terminal
terminal_of text t = terminal_by text t t.kind

-- A text with the lexer settings that accept what 6.2 and 6.3 accept: all characters are allowed in
-- comments and strings, and doubled underscores are rejected. Beyond WebAssembly 2.0, an identifier
-- may be `$".."`, and annotations are skipped.
abbrev pub plain : List ℕ → Setting
plain text = record { text = text; flags = record { allow = true; strict = true } }

-- 6.2: `Shows text terminals`: the text has neither a lexical error nor an annotation without its `)`, and these are
-- the terminals of its visible tokens. Whitespace, comments and annotations are not among them.
pub record Shows (text : List ℕ) (terminals : List Terminal) : Type 0 where
  pub tokens : List Token
  pub shown : TextShows (plain text) no_names tokens None
  pub are : terminals ≡ map (terminal_of text) tokens
