-- The lines that the program writes for the replies of a parser. Not part of the standard.
use Rattle.std.specs.Prelude.{◌≡◌, ◌<◌, ◌+◌, ◌^◌, ◌++◌, ℕ, List, length, codes, flat_map, Option, None}
use Rattle.std.specs.Fmt.{decimal}
use Rattle.std.specs.Str.{IsUtf8}
use Rattle.wat_lex.specs.errors.Errors.{Report}
use Rattle.wat_lex.specs.errors.Messages.{message}
use Rattle.wat_lex.specs.tokens.Setting.{Setting}
use Rattle.wat_lex.specs.declared.lexer.settings.Settings.{Settings}
use Rattle.wat_lexer_parser.specs.calls.Calls.{replies}
use Rattle.wat_lexer_parser.specs.declared.parser.calls.Call.{Call}
use Rattle.wat_lexer_parser.specs.declared.parser.fault.FaultKind.{FaultKind}
use Rattle.wat_lexer_parser.specs.declared.parser.fault.FaultKind.TheVariants.{Lex, Unclosed}
use Rattle.wat_lexer_parser.specs.declared.parser.calls.Reply.{Reply}
use Rattle.wat_lexer_parser.specs.declared.parser.calls.Reply.TheVariants.{Token, End, Fault, Comment, Done, Absent, NotOpen, NotClosed, TooOften}
use Rattle.wat_lexer_parser.specs.names.RegisteredNames.{no_names}
use Rattle.wat_lexer_parser.specs.parser.State.{State}
use Rattle.wat_lexer_parser.specs.places.Source.{Source, IsRead}
use Rattle.wat_tokens_io.specs.Lines.{line}

-- The message for the kind of a parser's error.
abbrev pub fault_message : FaultKind → List ℕ
fault_message (Lex e) = message e
fault_message Unclosed = codes "unclosed annotation"

-- The line of a reply. Offsets are in bytes.
abbrev pub reply_line : Reply → List ℕ
reply_line (Token t) = line t
reply_line End = codes "end\n"
reply_line (Fault offset kind) = codes "fault " ++ decimal offset ++ codes " " ++ fault_message kind ++ codes "\n"
reply_line (Comment offset len) = codes "comment " ++ decimal offset ++ codes ".." ++ decimal (offset + len) ++ codes "\n"
reply_line Done = codes "done\n"
reply_line Absent = codes "absent\n"
reply_line (NotOpen offset) = codes "not open " ++ decimal offset ++ codes "\n"
reply_line (NotClosed offset) = codes "not closed " ++ decimal offset ++ codes "\n"
reply_line TooOften = codes "too often\n"

-- The lines of `replies`, in their order.
abbrev pub play_text : List Reply → List ℕ
play_text replies = flat_map reply_line replies

-- The state of a parser at the start of a text, with no names registered and no group open.
abbrev pub at_start : Source → State
at_start s = record { source = s; place = 0; names = no_names; depth = 0 }

-- `text` has the lines of the replies to `calls`, from the start of the text of `s`.
pub record PlayText (s : Setting) (calls : List Call) (text : List ℕ) : Type 0 where
  pub source : Source
  pub setting : source.setting ≡ s
  pub read : IsRead source
  pub lines : text ≡ play_text (replies (at_start source) calls)

-- `bytes` are UTF-8 and shorter than 2^32 bytes, and `text` has the lines of the replies to `calls`, from their start.
-- There is never an `error`: lexical errors are replies.
pub record Plays (settings : Settings) (calls : List Call) (bytes text : List ℕ) (error : Option (Option Report)) : Type 0 where
  pub utf8 : IsUtf8 bytes
  pub short : length bytes < 2 ^ 32
  pub played : PlayText (record { text = bytes; flags = settings }) calls text
  pub no_error : error ≡ None
