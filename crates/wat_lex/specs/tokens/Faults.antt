-- Lexical errors: WebAssembly 2.0, 6.2.2 (tokens) derives no token from such a text. Which error is reported, and at
-- which offset, is defined here, as the standard leaves it open.
use Rattle.std.specs.Prelude.{◌≡◌, ◌<◌, ◌+◌, ℕ, Bool, false, ◌||◌, ◌==◌, ◌⊎◌, List, ◌∷◌, ◌++◌, IsTrue, length, drop}
use Rattle.std.specs.Str.{chars, NonePass}
use Rattle.wat_lex.specs.grammar.Classes.{quote, open_paren, close_paren, semicolon, is_whitespace, is_punctuation, is_run_char, is_confusing, size}
use Rattle.wat_lex.specs.grammar.Comments.{BlockComment as Commented}
use Rattle.wat_lex.specs.grammar.Runs.{Piece, Run}
use Rattle.wat_lex.specs.tokens.Setting.{Setting, allowing}
use Rattle.wat_lex.specs.tokens.StringFaults.{StringFault}
use Rattle.wat_lex.specs.grammar.Words.{WordIsAt}
use Rattle.wat_lex.specs.declared.lexer.settings.Settings.{Settings}
use Rattle.wat_lex.specs.declared.lexer.kinds.TokenKind.{TokenKind}
use Rattle.wat_lex.specs.declared.lexer.kinds.TokenKind.TheVariants.{LineComment, BlockComment}
use Rattle.wat_lex.specs.declared.lexer.faults.LexError.{LexError}
use Rattle.wat_lex.specs.declared.lexer.faults.LexError.TheVariants.{DanglingBlockComment, Unexpected, ConfusingUnicode}
use Rattle.wat_lex.specs.declared.lexer.faults.LexFault.{LexFault}

abbrev pub begins_word : ℕ → Bool
begins_word c = (is_whitespace c || is_run_char c) || (is_punctuation c || ((c == open_paren || c == close_paren) || c == semicolon))

abbrev pub IsComment : TokenKind → Type 0
IsComment kind = (kind ≡ LineComment) ⊎ (kind ≡ BlockComment)

-- `Fault flags s e at`: `s` begins with no lexeme, because of the error `e`; `at` is the rest of `s` from the offset
-- where `e` is reported.
pub data Fault : Settings → List ℕ → LexError → List ℕ → Type 0 where
  -- No lexeme begins with this character.
  unexpected : {flags : Settings} {c : ℕ} {t : List ℕ} → (IsTrue (begins_word c) → ⊥) → Fault flags (c ∷ t) (Unexpected c) (c ∷ t)
  -- An unclosed `(;`: no prefix of the text is a block comment, even if confusing characters are allowed.
  dangling : {flags : Settings} {t : List ℕ} → ((r : List ℕ) → Commented (open_paren ∷ semicolon ∷ t) r → ⊥) → Fault flags (open_paren ∷ semicolon ∷ t) DanglingBlockComment (open_paren ∷ semicolon ∷ t)
  -- `c` is the first confusing character of what would be a comment if confusing characters were allowed.
  confusing : {flags : Settings} {s t : List ℕ} {c : ℕ} {kind : TokenKind} {w rest : List ℕ} (prefix : List ℕ) → flags.allow ≡ false → IsComment kind → WordIsAt (allowing flags) s kind w rest
      → s ≡ prefix ++ c ∷ t → NonePass is_confusing prefix → IsTrue (is_confusing c) → length prefix < length w → Fault flags s (ConfusingUnicode c) (c ∷ t)
  -- Idchars and strings, and then a string with an error.
  in_string : {flags : Settings} {s t at : List ℕ} {ps : List Piece} {e : LexError} → Run flags s ps (quote ∷ t) → StringFault flags t e at → Fault flags s e at

-- `FaultAt s p f`: at byte `p` the text has no lexeme, but the lexical error `f`.
pub record FaultAt (s : Setting) (p : ℕ) (f : LexFault) : Type 0 where
  pub at : List ℕ
  pub fault : Fault s.flags (chars (drop p s.text)) f.error at
  pub place : f.offset + size at ≡ length s.text
