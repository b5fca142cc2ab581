-- WebAssembly 2.0, 6.2.3 (whitespace) and 6.2.4 (comments): the comment at a byte of a text.
use Rattle.std.specs.Prelude.{◌≡◌, ℕ, ◌+◌, ◌≤◌, true, false, length, Option, Some, None, Result, Ok, Err, IfOk, IfSome, if◌then◌else◌}
use Rattle.wat_lex.specs.tokens.Setting.{Setting}
use Rattle.wat_lex.specs.tokens.Tiling.{TokenAt}
use Rattle.wat_lex.specs.tokens.UniqueTilings.{ResultAt}
use Rattle.wat_lex.specs.declared.lexer.faults.LexFault.{LexFault}
use Rattle.wat_lex.specs.declared.lexer.kinds.Token.{Token}
use Rattle.wat_lex.specs.tokens.Blanks.{is_space, is_comment}
use Rattle.wat_lexer_parser.specs.places.Places.{offset_at, comment_at}
use Rattle.wat_lexer_parser.specs.places.Source.{Source, IsRead}
use Rattle.wat_lexer_parser.specs.shown.Showing.{Look}
use Rattle.wat_lexer_parser.specs.declared.parser.fault.FaultKind.{FaultKind}
use Rattle.wat_lexer_parser.specs.declared.parser.fault.FaultKind.TheVariants.{Lex, Unclosed}
use Rattle.wat_c_records.specs.Rows.{fault_code}
use Rattle.wat_c.specs.Words.{no_word}
use Rattle.wat_c.specs.declared.words.Word.{Word}

-- `IsPast s p result`: the token at byte `p`, or the one after it if it is whitespace; or the end or the lexical error
-- in its stead.
pub data IsPast (s : Setting) (p : ℕ) (answer : Result (Option Token) LexFault) : Type 0 where
  here : ResultAt s p answer → IfOk answer (λ found. IfSome found (λ t. is_space t.kind ≡ false)) → IsPast s p answer
  after : (space : Token) → TokenAt s p space → is_space space.kind ≡ true → ResultAt s (space.offset + space.len) answer → IsPast s p answer

abbrev pub comment_word : Result (Option Token) LexFault → Word
comment_word (Ok None) = no_word 3
comment_word (Ok (Some t)) = if is_comment t.kind then record { start = t.offset; len = t.len; status = 0 } else no_word 3
comment_word (Err f) = no_word (fault_code f.error)

-- `TellsComment s p word`: the word is the range of the comment at byte `p`, or after the whitespace there. Otherwise
-- its status is 3, or the code of the lexical error.
pub record TellsComment (s : Setting) (p : ℕ) (word : Word) : Type 0 where
  pub answer : Result (Option Token) LexFault
  pub past : IsPast s p answer
  pub known : word ≡ comment_word answer

abbrev pub fault_kind_code : FaultKind → ℕ
fault_kind_code (Lex e) = fault_code e
fault_kind_code Unclosed = 3

-- `look_known look` is what a parser finds at a position, in the form of a word. It finds no errors there except those
-- of the text.
abbrev pub look_known : Look → Word
look_known (Ok None) = no_word 3
look_known (Ok (Some (t, q))) = record { start = t.offset; len = t.len; status = 0 }
look_known (Err f) = no_word (fault_kind_code f.kind)

-- `IsParsersComment s p word`: each parser of the text finds the same comment at a position with this offset.
unfoldable pub IsParsersComment : Setting → ℕ → Word → Type 0
IsParsersComment s p word = (source : Source) (place : ℕ) → IsRead source → source.setting ≡ s → place ≤ length source.tokens → offset_at source.tokens place ≡ p → word ≡ look_known (comment_at source place)

-- Theorem: the word for an offset is unique (`CommentsAreOne`), and a parser finds the same comment
-- (`CommentsAreParsers`).
unfoldable pub CommentsAreOne : Type 0
CommentsAreOne = (s : Setting) (p : ℕ) (word other : Word) → TellsComment s p word → TellsComment s p other → word ≡ other

unfoldable pub CommentsAreParsers : Type 0
CommentsAreParsers = (s : Setting) (p : ℕ) (word : Word) → TellsComment s p word → IsParsersComment s p word
