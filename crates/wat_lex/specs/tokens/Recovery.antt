-- Error recovery: the offset at which lexing resumes after a lexical error. Neither the standard nor the crate `wast`
-- has such a rule. Lexing skips what the error covers: a character that begins no lexeme, an unclosed `(;`, a comment
-- with a confusing character, or a run with a malformed string, up to the closing quotation mark of the string or the
-- end of the line.
use Rattle.std.specs.Prelude.{◌≡◌, ◌+◌, ℕ, Bool, not, ◌&&◌, ◌||◌, ◌==◌, List, [], ◌∷◌, IsTrue, length, drop}
use Rattle.std.specs.Str.{chars}
use Rattle.wat_lex.specs.grammar.Classes.{quote, open_paren, semicolon, backslash, is_line_end, size, Begins}
use Rattle.wat_lex.specs.grammar.Runs.{Piece, Run}
use Rattle.wat_lex.specs.grammar.Words.{WordIsAt}
use Rattle.wat_lex.specs.tokens.Faults.{IsComment}
use Rattle.wat_lex.specs.tokens.Setting.{Setting, allowing}
use Rattle.wat_lex.specs.tokens.StringFaults.{StringFault}
use Rattle.wat_lex.specs.declared.lexer.settings.Settings.{Settings}
use Rattle.wat_lex.specs.declared.lexer.kinds.TokenKind.{TokenKind}
use Rattle.wat_lex.specs.declared.lexer.faults.LexError.{LexError}
use Rattle.wat_lex.specs.declared.lexer.faults.LexError.TheVariants.{DanglingBlockComment, Unexpected, ConfusingUnicode}
use Rattle.wat_lex.specs.declared.lexer.faults.LexFault.{LexFault}

-- A character other than a quotation mark and the end of a line.
abbrev pub is_inside : ℕ → Bool
is_inside c = not (c == quote) && not (is_line_end c)

-- A character that a backslash escapes in a skipped string.
abbrev pub is_escaped : ℕ → Bool
is_escaped c = c == quote || c == backslash

-- `SkipsString s r`: in the text `s` after the opening quotation mark of a malformed string, all up to the rest `r` is
-- skipped.
pub data SkipsString : List ℕ → List ℕ → Type 0 where
  -- Its closing quotation mark is skipped.
  closed : {r : List ℕ} → SkipsString (quote ∷ r) r
  -- Without a closing quotation mark it ends before the end of the line, or at the end of the text.
  line_end : {c : ℕ} {t : List ℕ} → IsTrue (is_line_end c) → SkipsString (c ∷ t) (c ∷ t)
  text_end : SkipsString [] []
  -- A backslash is skipped with the character that it escapes.
  escape : {c : ℕ} {t r : List ℕ} → IsTrue (is_escaped c) → SkipsString t r → SkipsString (backslash ∷ c ∷ t) r
  -- Any other character is skipped.
  inside : {c : ℕ} {t r : List ℕ} → IsTrue (is_inside c) → (c ≡ backslash → Begins is_escaped t → ⊥) → SkipsString t r → SkipsString (c ∷ t) r

-- `Covers flags s e r`: the error `e` at the start of `s` covers the text up to the rest `r`.
pub data Covers : Settings → List ℕ → LexError → List ℕ → Type 0 where
  -- The character that begins no lexeme.
  character : {flags : Settings} {c : ℕ} {r : List ℕ} → Covers flags (c ∷ r) (Unexpected c) r
  -- The unclosed `(;`.
  opening : {flags : Settings} {r : List ℕ} → Covers flags (open_paren ∷ semicolon ∷ r) DanglingBlockComment r
  -- What would be a comment if confusing characters were allowed.
  comment : {flags : Settings} {s r w : List ℕ} {c : ℕ} {kind : TokenKind} → IsComment kind → WordIsAt (allowing flags) s kind w r → Covers flags s (ConfusingUnicode c) r
  -- The idchars and strings of the run before the malformed string, and that string.
  run : {flags : Settings} {s t at r : List ℕ} {ps : List Piece} {e : LexError} → Run flags s ps (quote ∷ t) → StringFault flags t e at → SkipsString t r → Covers flags s e r

-- `ResumesAt s p f q`: after the lexical error `f` at byte `p`, lexing resumes at byte `q`.
pub record ResumesAt (s : Setting) (p : ℕ) (f : LexFault) (q : ℕ) : Type 0 where
  pub rest : List ℕ
  pub covers : Covers s.flags (chars (drop p s.text)) f.error rest
  pub place : q + size rest ≡ length s.text
