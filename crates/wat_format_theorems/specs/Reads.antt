-- The values that a type reads from a text, and from another text with the same tokens, such as its formatted text.
-- They are not part of the standard.
use Rattle.std.specs.Prelude.{◌≡◌, ◌≤◌, ◌+◌, ℕ, Bool, List, length, Option, Some, None, Result, Ok, Err}
use Rattle.std.specs.Str.{IsUtf8}
use Rattle.wat_lex.specs.errors.Errors.{Report}
use Rattle.wat_lex.specs.declared.lexer.kinds.Token.{Token}
use Rattle.wat_lexer_parser.specs.laws.Counting.{counting}
use Rattle.wat_lexer_parser.specs.parser.Sights.{Sight}
use Rattle.wat_lexer_parser.specs.parser.Takers.{Reader}
use Rattle.wat_lexer_parser.specs.places.Source.{Source, IsRead}
use Rattle.wat_lexer_parser.specs.readings.Readings.{Outcome, Reading, whole}
use Rattle.wat_format.specs.Laws.{over}
use Rattle.wat_format.specs.Layout.{layout}
use Rattle.wat_format_theorems.specs.Moved.{token_moved, ShowsMoved}
use Rattle.wat_format_theorems.specs.Sides.{Sides, Alike, Among, IsInBoth, RefusalMoved, SameRefusal, SameTexts, passed}

-- `AnswerMoved moved n s ts result k o`: the outcome `o` in the other text is the same value, mapped, with the same
-- tokens left, at least `n` fewer; or the same error.
abbrev pub AnswerMoved : {V : Type 0} → (V → V) → ℕ → Sides → List Token → Result V Report → ℕ → Outcome V → Type 0
AnswerMoved moved n s ts (Ok v) k o = (o.answer ≡ Ok (moved v)) × (r : List Token) × Alike (passed s k o.passed) r × (length r + n ≤ length ts)
AnswerMoved moved n s ts (Err f) k o = (g : Report) × (o.answer ≡ Err g) × SameRefusal s f g

abbrev pub OutcomeMoved : {V : Type 0} → (V → V) → ℕ → Sides → List Token → Outcome V → Outcome V → Type 0
OutcomeMoved moved n s ts o q = AnswerMoved moved n s ts o.answer o.passed q

-- `MovesReading n moved m`: the reading depends only on the significant tokens, not on their offsets, except for the
-- spans in the value, which `moved` maps. It consumes at least `n` tokens.
abbrev pub MovesReading : {V : Type 0} → ℕ → ((ℕ → ℕ) → V → V) → Reading V → Type 0
MovesReading n moved m = (s : Sides) (ts : List Token) → Alike s ts → OutcomeMoved (moved s.move) n s ts (m s.here) (m s.there)

-- `KnownMoved s known r`: the result of a peek is the same on both sides, or the same error.
abbrev pub KnownMoved : Sides → Result Bool Report → Result Bool Report → Type 0
KnownMoved s (Ok known) r = r ≡ Ok known
KnownMoved s (Err f) r = (g : Report) × (r ≡ Err g) × SameRefusal s f g

abbrev pub MovesSight : Sight → Type 0
MovesSight sight = (s : Sides) (ts : List Token) → Alike s ts → KnownMoved s (sight s.here).known (sight s.there).known

-- `ReadMoved moved s a o`: the reading of one token is the same on both sides, with the value mapped, or the same
-- error.
abbrev pub ReadMoved : {V : Type 0} → (V → V) → Sides → Option (Result V Report) → Option (Result V Report) → Type 0
ReadMoved moved s None o = o ≡ None
ReadMoved moved s (Some (Ok v)) o = o ≡ Some (Ok (moved v))
ReadMoved moved s (Some (Err f)) o = (g : Report) × (o ≡ Some (Err g)) × SameRefusal s f g

abbrev pub MovesReader : {V : Type 0} → ((ℕ → ℕ) → V → V) → Reader V → Type 0
MovesReader moved read = (s : Sides) (t : Token) → IsInBoth s t → ReadMoved (moved s.move) s (read s.here.source.setting.text t t.kind) (read s.there.source.setting.text (token_moved s.move t) t.kind)

-- `WholeMoved moved move s r a b`: the reading of a whole text is the same value, mapped, or the same error.
abbrev pub WholeMoved : {V : Type 0} → (V → V) → (ℕ → ℕ) → Source → Source → Result V Report → Result V Report → Type 0
WholeMoved moved move s r (Ok v) a = a ≡ Ok (moved v)
WholeMoved moved move s r (Err f) a = (g : Report) × (a ≡ Err g) × RefusalMoved move s r f g

-- `TextsReadTheSame moved m`: from any two texts with the same tokens, the same is read, with the value mapped.
abbrev pub TextsReadTheSame : {V : Type 0} → ((ℕ → ℕ) → V → V) → Reading V → Type 0
TextsReadTheSame moved m = (s r : Source) (move : ℕ → ℕ) → SameTexts s r move → WholeMoved (moved move) move s r (whole m s) (whole m r)

-- Theorem: a formatted text has the significant tokens of the text, by a map that also maps the visible tokens.
abbrev pub LayoutsAreSameTexts : Type 0
LayoutsAreSameTexts = (s r : Source) → IsUtf8 s.setting.text → IsRead s → s.ending ≡ None → IsRead r → r.setting ≡ over s.setting (layout s.setting.text s.tokens)
    → (move : ℕ → ℕ) × ShowsMoved s.setting r.setting move × SameTexts s r move

-- Theorem: two such maps are equal at the start offset of each significant token.
abbrev pub MapsAreOne : Type 0
MapsAreOne = (s r : Source) (move other : ℕ → ℕ) (t : Token) → SameTexts s r move → SameTexts s r other → Among (counting s.tokens) t → move t.offset ≡ other t.offset

-- `LayoutsReadTheSame moved m`: from a formatted text, the same is read as from the text, by a map that also maps the
-- visible and the significant tokens.
abbrev pub LayoutsReadTheSame : {V : Type 0} → ((ℕ → ℕ) → V → V) → Reading V → Type 0
LayoutsReadTheSame moved m = (s r : Source) → IsUtf8 s.setting.text → IsRead s → s.ending ≡ None → IsRead r → r.setting ≡ over s.setting (layout s.setting.text s.tokens)
    → (move : ℕ → ℕ) × ShowsMoved s.setting r.setting move × SameTexts s r move × WholeMoved (moved move) move s r (whole m s) (whole m r)
