-- The values that the rule of a format derives for a text, over its visible tokens if no name is registered. Not part
-- of the standard.
use Rattle.std.specs.Prelude.{◌≡◌, ◌+◌, ℕ, List, [], ◌∷◌, length, codes, Option, Some, None, Result, Ok, Err}
use Rattle.std.specs.Option.{option_map}
use Rattle.std.specs.Str.{IsUtf8}
use Rattle.wat_lex.specs.errors.Errors.{Report, Custom, report_in}
use Rattle.wat_lex.specs.tokens.Setting.{Setting}
use Rattle.wat_lex.specs.declared.lexer.kinds.Token.{Token}
use Rattle.wat_lexer_parser.specs.declared.parser.fault.Fault.{Fault}
use Rattle.wat_lexer_parser.specs.names.RegisteredNames.{no_names}
use Rattle.wat_lexer_parser.specs.parser.State.{report_of}
use Rattle.wat_lexer_parser.specs.places.Source.{Source, IsRead}
use Rattle.wat_lexer_parser.specs.laws.Blanking.{TextShows}
use Rattle.wat_lexer_parser.specs.readings.Readings.{Reading, whole}
use Rattle.wat_lexer_parser.specs.rules.Rules.{End, Ground, Rule}

-- The byte offset at which the last of these tokens ends, or `p` if there is none.
abbrev pub last_end : ℕ → List Token → ℕ
last_end p [] = p
last_end p (t ∷ ts) = last_end (t.offset + t.len) ts

-- The current span after all visible tokens: the text's length at its end, or the end of the last visible token at an
-- error.
abbrev pub end_span : List ℕ → ℕ → List Token → Option Fault → ℕ
end_span text p ts None = length text
end_span text p ts (Some f) = last_end p ts

-- What follows these visible tokens of the text. `p` is the offset from which they are visible.
abbrev pub end_from : List ℕ → ℕ → List Token → Option Fault → End
end_from text p ts f = record { fault = option_map (report_of text) f; span = end_span text p ts f }

-- The context of a text with these visible tokens, followed by the end or this error.
abbrev pub ground_of : List ℕ → List Token → Option Fault → Ground
ground_of text ts f = record { text = text; end = end_from text 0 ts f }

-- `Begins R s v left fault`: the first visible tokens of the text match the rule with the value `v`. The tokens `left`
-- follow, and then the end of the text (`fault` is `None`) or an error.
pub record Begins {V : Type 0} (R : Rule V) (s : Setting) (v : V) (left : List Token) (fault : Option Fault) : Type 0 where
  pub tokens : List Token
  pub shown : TextShows s no_names tokens fault
  pub begins : R (ground_of s.text tokens fault) tokens v left

-- All visible tokens of the text match the rule with the value `v`, and the text has no error after them.
abbrev pub Spells : {V : Type 0} → Rule V → Setting → V → Type 0
Spells R s v = Begins R s v [] None

-- The result of parsing a text that begins with a value: the value at the end of the text, otherwise the error at the
-- token that follows, or the lexical error.
abbrev pub after_value : {V : Type 0} → V → Setting → List Token → Option Fault → Result V Report
after_value v s [] None = Ok v
after_value v s [] (Some f) = Err (report_of s.text f)
after_value v s (t ∷ r) f = Err (report_in s.text t.offset (Custom (codes "extra tokens remaining after parse")))

-- Parsing a whole text returns a value only if its visible tokens match the rule with this value. If the text begins
-- with a value, the result is the one of `after_value`.
pub record ReadsAsSpelled {V : Type 0} (m : Reading V) (R : Rule V) : Type 0 where
  pub read : (s : Source) (v : V) → IsUtf8 s.setting.text → IsRead s → whole m s ≡ Ok v → Spells R s.setting v
  pub spelled : (s : Source) (v : V) (left : List Token) (fault : Option Fault) → IsRead s → Begins R s.setting v left fault → whole m s ≡ after_value v s.setting left fault
