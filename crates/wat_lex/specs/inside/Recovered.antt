-- Results of the functions that skip a lexical error, in bytes.
use Rattle.std.specs.Prelude.{◌≡◌, ◌≤◌, ◌<◌, ◌+◌, ℕ, List, length, drop}
use Rattle.std.specs.Str.{chars, IsUtf8}
use Rattle.wat_lex.specs.grammar.Classes.{size}
use Rattle.wat_lex.specs.grammar.Words.{WordIsAt}
use Rattle.wat_lex.specs.tokens.Faults.{Fault, IsComment}
use Rattle.wat_lex.specs.tokens.Recovery.{SkipsString, Covers}
use Rattle.wat_lex.specs.tokens.Setting.{allowing}
use Rattle.wat_lex.specs.declared.lexer.settings.Settings.{Settings}
use Rattle.wat_lex.specs.declared.lexer.faults.LexError.{LexError}
use Rattle.wat_lex.specs.declared.lexer.kinds.TokenKind.{TokenKind}

-- `PassedIn text n`: in a malformed string the first `n` bytes of the text are skipped, whatever follows them.
pub record PassedIn (text : List ℕ) (n : ℕ) : Type 0 where
  pub utf8 : IsUtf8 (drop n text)
  pub some : 0 < n
  pub range : n ≤ length text
  pub passes : (r : List ℕ) → SkipsString (chars (drop n text)) r → SkipsString (chars text) r

-- `PassedTo text n`: the rest of a malformed string is the first `n` bytes of the text.
pub record PassedTo (text : List ℕ) (n : ℕ) : Type 0 where
  pub rest : List ℕ
  pub passes : SkipsString (chars text) rest
  pub place : n + size rest ≡ length text

-- The text begins with the lexical error `e`.
abbrev pub BeginsFault : Settings → List ℕ → LexError → Type 0
BeginsFault flags text e = (at : List ℕ) × Fault flags (chars text) e at

-- `Covered flags text e n`: the lexical error `e` at the start of the text covers its first `n` bytes.
pub record Covered (flags : Settings) (text : List ℕ) (e : LexError) (n : ℕ) : Type 0 where
  pub rest : List ℕ
  pub covers : Covers flags (chars text) e rest
  pub place : n + size rest ≡ length text

-- `SomeCovered flags text n`: the text begins with a lexical error, which covers its first `n` bytes.
pub record SomeCovered (flags : Settings) (text : List ℕ) (n : ℕ) : Type 0 where
  pub error : LexError
  pub begins : BeginsFault flags text error
  pub covered : Covered flags text error n

-- The text begins with what is a comment if confusing characters are allowed.
pub record BeginsComment (flags : Settings) (text : List ℕ) : Type 0 where
  pub kind : TokenKind
  pub word : List ℕ
  pub rest : List ℕ
  pub is_comment : IsComment kind
  pub is_at : WordIsAt (allowing flags) (chars text) kind word rest
