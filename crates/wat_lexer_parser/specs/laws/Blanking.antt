-- WebAssembly 2.0, 6.2.3 (white space) and 6.2.4 (comments). A comment is white space, and so are spaces, tabs and
-- line ends: the visible tokens of a text in which one comment is overwritten with such bytes.
use Rattle.std.specs.Prelude.{◌≡◌, ◌↔◌, ℕ, List, Option}
use Rattle.std.specs.List.{All}
use Rattle.std.specs.Str.{IsUtf8}
use Rattle.wat_lex.specs.tokens.Blanking.{IsRawComment, AreBlanksOf, overwritten}
use Rattle.wat_lex.specs.tokens.ReadableTokens.{token_text}
use Rattle.wat_lex.specs.tokens.Setting.{Setting, lenient}
use Rattle.wat_lex.specs.tokens.Tiling.{MaximalTiling}
use Rattle.wat_lex.specs.declared.lexer.faults.LexFault.{LexFault}
use Rattle.wat_lex.specs.declared.lexer.kinds.Token.{Token}
use Rattle.wat_lex.specs.declared.lexer.settings.Settings.{Settings}
use Rattle.wat_lexer_parser.specs.declared.parser.fault.Fault.{Fault}
use Rattle.wat_lexer_parser.specs.names.RegisteredNames.{Names}
use Rattle.wat_lexer_parser.specs.laws.AllShown.{AllShown}

-- `TextShows s names shown last`: the visible tokens of the text, from its start, are `shown`, followed by the end
-- (`last` is `None`) or this error.
pub record TextShows (s : Setting) (names : Names) (shown : List Token) (last : Option Fault) : Type 0 where
  pub tokens : List Token
  pub ending : Option LexFault
  pub tiling : MaximalTiling s 0 tokens ending
  pub all : AllShown s.text ending names tokens shown last

-- Under each set of names, the same tokens are visible in the texts of `s` and `r`, with the same kinds, offsets and
-- texts, followed by the same end or error.
pub record ShowTheSame (s r : Setting) : Type 0 where
  pub tokens : (names : Names) (us : List Token) (last : Option Fault) → TextShows s names us last ↔ TextShows r names us last
  pub texts : (names : Names) (us : List Token) (last : Option Fault) → TextShows s names us last → All (λ t. token_text r.text t ≡ token_text s.text t) us

-- The comment is a raw token of the text if confusing characters are allowed.
abbrev pub IsCommentOf : List ℕ → Token → Type 0
IsCommentOf text comment = IsRawComment (record { text = text; flags = lenient }) 0 comment

-- The same tokens are visible in both texts, under each setting of the lexer under which the comment is a raw token of
-- `text`.
abbrev pub ShowTheSameWhereRaw : Token → List ℕ → List ℕ → Type 0
ShowTheSameWhereRaw comment text other = (flags : Settings) → IsRawComment (record { text = text; flags = flags }) 0 comment → ShowTheSame (record { text = text; flags = flags }) (record { text = other; flags = flags })

-- Theorem: overwriting a comment with whitespace does not change the visible tokens.
abbrev pub BlankingShowsTheSame : Type 0
BlankingShowsTheSame = (text : List ℕ) (comment : Token) (white : List ℕ) → IsUtf8 text → AreBlanksOf comment white → ShowTheSameWhereRaw comment text (overwritten text comment white)
