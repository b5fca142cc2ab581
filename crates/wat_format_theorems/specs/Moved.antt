-- WebAssembly 2.0, 6.2.3 (whitespace) and 6.2.4 (comments), and the custom annotations proposal: the visible tokens of
-- a formatted text are those of the text at other offsets. The formatted text is not part of the standard.
use Rattle.std.specs.Prelude.{◌≡◌, ◌+◌, ◌-◌, ℕ, List, length, map, Option, None}
use Rattle.std.specs.List.{All}
use Rattle.std.specs.Option.{option_map}
use Rattle.std.specs.Str.{IsUtf8}
use Rattle.wat_lex.specs.tokens.ReadableTokens.{token_text}
use Rattle.wat_lex.specs.tokens.Setting.{Setting}
use Rattle.wat_lex.specs.tokens.Tiling.{MaximalTiling}
use Rattle.wat_lex.specs.declared.lexer.kinds.Token.{Token}
use Rattle.wat_lexer_parser.specs.declared.parser.fault.Fault.{Fault}
use Rattle.wat_lexer_parser.specs.declared.parser.fault.FaultKind.{FaultKind}
use Rattle.wat_lexer_parser.specs.declared.parser.fault.FaultKind.TheVariants.{Lex, Unclosed}
use Rattle.wat_lexer_parser.specs.names.RegisteredNames.{Names}
use Rattle.wat_lexer_parser.specs.laws.Blanking.{TextShows}
use Rattle.wat_format.specs.Laws.{over}
use Rattle.wat_format.specs.Layout.{layout}

-- `token_moved move t` is the token with its offset mapped.
abbrev pub token_moved : (ℕ → ℕ) → Token → Token
token_moved move t = record t { offset = move t.offset }

-- `error_offset_moved move kind p` is the mapped offset of an error. The error in a name is at the start of its token. An
-- unclosed group is reported 1 byte after the start of its parenthesis.
abbrev pub error_offset_moved : (ℕ → ℕ) → FaultKind → ℕ → ℕ
error_offset_moved move (Lex e) p = move p
error_offset_moved move Unclosed p = move (p - 1) + 1

abbrev pub fault_moved : (ℕ → ℕ) → Fault → Fault
fault_moved move f = record f { offset = error_offset_moved move f.kind f.offset }

-- `ShowsMoved s r move`: under each set of names, the visible tokens of the second text are those of the first, with
-- the same bytes, and the same end or error follows. Their offsets are mapped, and so is the length of the text.
pub record ShowsMoved (s r : Setting) (move : ℕ → ℕ) : Type 0 where
  pub tokens : (names : Names) (us : List Token) (last : Option Fault) → TextShows s names us last → TextShows r names (map (token_moved move) us) (option_map (fault_moved move) last)
  pub texts : (names : Names) (us : List Token) (last : Option Fault) → TextShows s names us last → All (λ t. token_text r.text (token_moved move t) ≡ token_text s.text t) us
  pub end : move (length s.text) ≡ length r.text

-- Theorem: a formatted text has the visible tokens of the text, by one map for all sets of names.
abbrev pub LayoutsShowTheSame : Type 0
LayoutsShowTheSame = (s : Setting) (tokens : List Token) → IsUtf8 s.text → MaximalTiling s 0 tokens None → (move : ℕ → ℕ) × ShowsMoved s (over s (layout s.text tokens)) move
