-- The input of a parser: a text with the lexer's flags, its raw tokens and their ending. Not part of the standard. The
-- names of tokens and errors that other definitions use are exported from here.
use Rattle.std.specs.Prelude.{Bool, List, Option}
use Rattle.wat_lex.specs.tokens.Setting.{Setting}
use Rattle.wat_lex.specs.tokens.Tiling.{MaximalTiling}
pub use Rattle.wat_lex.specs.tokens.ReadableTokens.{token_text, word_of}
pub use Rattle.wat_lex.specs.declared.lexer.faults.LexError.{LexError}
pub use Rattle.wat_lex.specs.declared.lexer.faults.LexError.TheVariants.{EmptyId, EmptyAnnotation}
pub use Rattle.wat_lex.specs.declared.lexer.faults.LexFault.{LexFault}
pub use Rattle.wat_lex.specs.declared.lexer.kinds.Token.{Token}
pub use Rattle.wat_lex.specs.declared.lexer.kinds.TokenKind.{TokenKind}
pub use Rattle.wat_lex.specs.declared.lexer.kinds.TokenKind.TheVariants.{LineComment, BlockComment, Whitespace, LParen, RParen, Annotation}
pub use Rattle.wat_lexer_parser.specs.declared.parser.fault.Fault.{Fault}
pub use Rattle.wat_lexer_parser.specs.declared.parser.fault.FaultKind.TheVariants.{Lex, Unclosed}

-- A text with its raw tokens and their ending. `track` is the flag that `track_instr_spans` returns; lexing does not
-- depend on it.
pub record Source : Type 0 where
  pub setting : Setting
  pub track : Bool
  pub tokens : List Token
  pub ending : Option LexFault

-- The tokens and the ending are those of the text.
abbrev pub IsRead : Source → Type 0
IsRead s = MaximalTiling s.setting 0 s.tokens s.ending
