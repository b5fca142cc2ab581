-- The list that the program writes of the visible tokens: a line for each token that a parser yields with some
-- annotation names registered. Not part of the standard.
use Rattle.std.specs.Prelude.{◌≡◌, ◌⊎◌, ◌+◌, ◌<◌, ◌≤◌, ◌^◌, ℕ, List, [], ◌∷◌, ◌++◌, length, drop, flat_map, if◌then◌else◌, Option, Some, None, Ok, Err, String, string_bytes}
use Rattle.std.specs.Option.{option_map}
use Rattle.std.specs.Io.KnownBytes.{Appends}
use Rattle.std.specs.Str.{IsUtf8, IsCharBoundary}
use Rattle.std.specs.declared.alloc.Global.{Global}
use Rattle.wat_lex.specs.errors.Errors.{Report}
use Rattle.wat_lex.specs.tokens.ReadableTokens.{IsTokenOf}
use Rattle.wat_lex.specs.tokens.Setting.{Setting}
use Rattle.wat_lex.specs.declared.lexer.kinds.Token.{Token}
use Rattle.wat_lex.specs.declared.lexer.settings.Settings.{Settings}
use Rattle.wat_lexer_parser.specs.declared.parser.fault.Fault.{Fault}
use Rattle.wat_lexer_parser.specs.names.RegisteredNames.{Names, no_names, is_registered, more}
use Rattle.wat_lexer_parser.specs.parser.State.{report_of}
use Rattle.wat_lexer_parser.specs.places.Source.{Source, IsRead}
use Rattle.wat_lexer_parser.specs.laws.AllShown.{AllShown}
use Rattle.wat_lexer_parser.specs.shown.Showing.{shown}
use Rattle.wat_tokens_io.specs.Lines.{line}
use Rattle.wat_tokens_io.specs.Streams.{AppendsPrefix}

-- `names` with `x` registered.
abbrev pub with_name : Names → List ℕ → Names
with_name names x = if is_registered names x then names else more names x

-- `names` with each of these names registered, one after another.
abbrev pub with_names : Names → List (String Global) → Names
with_names names [] = names
with_names names (x ∷ xs) = with_names (with_name names (string_bytes x)) xs

-- The token `t` begins at a char boundary of `text`, and ends within the text.
abbrev pub IsInside : List ℕ → Token → Type 0
IsInside text t = IsCharBoundary text t.offset × (t.offset + t.len ≤ length text)

-- `text` consists of the bytes `each t` of the visible tokens of `s` from the position `place` on, with `names`
-- registered. `error` is the error after them, if there is one.
pub record ShownFrom (each : Token → List ℕ) (s : Source) (names : Names) (place : ℕ) (text : List ℕ) (error : Option (Option Report)) : Type 0 where
  pub tokens : List Token
  pub fault : Option Fault
  pub shown : AllShown s.setting.text s.ending names (drop place s.tokens) tokens fault
  pub lines : text ≡ flat_map each tokens
  pub reported : error ≡ option_map (λ f. Some (report_of s.setting.text f)) fault

-- `text` consists of the bytes `each t` of all visible tokens of the text of `s`, with `names` registered. `error` is
-- the error after them, if there is one.
pub record ShownText (each : Token → List ℕ) (s : Setting) (names : List (String Global)) (text : List ℕ) (error : Option (Option Report)) : Type 0 where
  pub source : Source
  pub setting : source.setting ≡ s
  pub read : IsRead source
  pub shown : ShownFrom each source (with_names no_names names) 0 text error

-- `bytes` are UTF-8 and shorter than 2^32 bytes. `text` is what the program writes: the lines of the visible tokens,
-- with `names` registered. `error` is the error after them, if there is one.
pub record Shows (settings : Settings) (names : List (String Global)) (bytes text : List ℕ) (error : Option (Option Report)) : Type 0 where
  pub utf8 : IsUtf8 bytes
  pub short : length bytes < 2 ^ 32
  pub shown : ShownText line (record { text = bytes; flags = settings }) names text error

-- `count` is the number of visible tokens of `s` from the position `place` on, with `names` registered. `error` is the
-- error after them, if there is one.
pub record ShownEnds (s : Source) (names : Names) (place count : ℕ) (error : Option (Option Report)) : Type 0 where
  pub tokens : List Token
  pub fault : Option Fault
  pub shown : AllShown s.setting.text s.ending names (drop place s.tokens) tokens fault
  pub many : count ≡ length tokens
  pub reported : error ≡ option_map (λ f. Some (report_of s.setting.text f)) fault

-- If the bytes of an output are known, they grow from `old` to `new` by the bytes `each t` of the visible tokens of `s`
-- from the position `place` on, with `names` registered, and then by `last`.
pub record AppendsShown (each : Token → List ℕ) (last : List ℕ) (s : Source) (names : Names) (place : ℕ) (old new : Option (List ℕ)) : Type 0 where
  pub tokens : List Token
  pub fault : Option Fault
  pub shown : AllShown s.setting.text s.ending names (drop place s.tokens) tokens fault
  pub appended : Appends old new (flat_map each tokens ++ last)

-- If the bytes of an output are known, they grow from `old` to `new` by a prefix of two things: the bytes `each t` of
-- the visible tokens of `s` from the position `place` on, with `names` registered, and then `last`.
pub record AppendsShownCut (each : Token → List ℕ) (last : List ℕ) (s : Source) (names : Names) (place : ℕ) (old new : Option (List ℕ)) : Type 0 where
  pub tokens : List Token
  pub fault : Option Fault
  pub shown : AllShown s.setting.text s.ending names (drop place s.tokens) tokens fault
  pub appended : AppendsPrefix old new (flat_map each tokens ++ last)

-- A peek at the position `p` of `s`, with `names` registered, returns an error.
abbrev pub ShowsFault : Source → Names → ℕ → Type 0
ShowsFault s names p = (f : Fault) × (shown s p names ≡ Err f)

-- A parser of `s`, with `names` registered, advances from the position `p` to `q` over the visible token that it
-- returns. At the end of the text it returns `None`, and `q` is `p`.
abbrev pub Takes : Source → Names → ℕ → Option Token → ℕ → Type 0
Takes s names p None q = (shown s p names ≡ Ok None) × (q ≡ p)
Takes s names p (Some t) q = (shown s p names ≡ Ok (Some (t, q))) × IsTokenOf s.setting.text t

-- A parser of `s`, with `names` registered and `left` tokens to return, advances from the position `p` to `q` over the
-- visible token that it returns. It returns `None` if `left` is 0, at the end of the text, or at an error.
abbrev pub TakesNext : Source → Names → ℕ → ℕ → Option Token → ℕ → Type 0
TakesNext s names p left None q = (left ≡ 0) ⊎ ((shown s p names ≡ Ok None) ⊎ ShowsFault s names p)
TakesNext s names p left (Some t) q = (0 < left) × Takes s names p (Some t) q
