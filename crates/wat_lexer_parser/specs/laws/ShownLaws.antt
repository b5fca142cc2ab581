-- Custom annotations proposal (lexical format, annotations). Theorems about visible tokens, apart from their
-- uniqueness: about groups, all visible tokens, and the tokens that calls consume.
use Rattle.std.specs.Prelude.{◌≡◌, ◌≢◌, ◌≤◌, ◌<◌, ◌+◌, ◌-◌, ℕ, List, [], ◌∷◌, ◌++◌, Option, Some, None, Ok, Err, length, drop, slice_get}
use Rattle.std.specs.Str.{IsUtf8}
use Rattle.wat_lex.specs.tokens.Setting.{Setting}
use Rattle.wat_lex.specs.tokens.Tiling.{MaximalTiling}
use Rattle.wat_lex.specs.declared.lexer.faults.LexFault.{LexFault}
use Rattle.wat_lex.specs.declared.lexer.kinds.Token.{Token}
use Rattle.wat_lexer_parser.specs.declared.parser.fault.Fault.{Fault}
use Rattle.wat_lexer_parser.specs.groups.Sorts.{Group}
use Rattle.wat_lexer_parser.specs.names.RegisteredNames.{Names}
use Rattle.wat_lexer_parser.specs.places.Places.{offset_at}
use Rattle.wat_lexer_parser.specs.places.Source.{Source, IsRead}
use Rattle.wat_lexer_parser.specs.laws.AllShown.{AllShown}
use Rattle.wat_lexer_parser.specs.shown.Shown.{IsMarked}
use Rattle.wat_lexer_parser.specs.shown.Showing.{shown}

-- Theorem: the raw tokens from a position on are the tail of the raw tokens of the text.
abbrev pub TailsAreRaw : Type 0
TailsAreRaw = (s : Setting) (ts : List Token) (e : Option LexFault) (p : ℕ) → MaximalTiling s 0 ts e → p ≤ length ts → MaximalTiling s (offset_at ts p) (drop p ts) e

-- Theorem: the end of a group is unique.
abbrev pub GroupIsOne : Type 0
GroupIsOne = (ts r q : List Token) → Group ts r → Group ts q → r ≡ q

-- Theorem: from each position on there is a list of visible tokens, followed by the end or an error.
abbrev pub SomethingIsAllShown : Type 0
SomethingIsAllShown = (s : Source) (names : Names) (p : ℕ) → IsUtf8 s.setting.text → IsRead s → (us : List Token) × (f : Option Fault) × AllShown s.setting.text s.ending names (drop p s.tokens) us f

-- Theorem: this list, and the end or error after it, are unique.
abbrev pub AllShownIsOne : Type 0
AllShownIsOne = (text : List ℕ) (e : Option LexFault) (names : Names) (ts us vs : List Token) (f g : Option Fault) → AllShown text e names ts us f → AllShown text e names ts vs g → (us ≡ vs) × (f ≡ g)

-- Theorem: all visible tokens from a position are the token that a peek finds there, followed by those from the
-- position after it. If a peek finds the end or an error, there are none, and this follows.
pub record LooksAreAllShown : Type 0 where
  pub token : (s : Source) (names : Names) (p q : ℕ) (t : Token) (us : List Token) (e : Option Fault) → IsUtf8 s.setting.text → IsRead s → shown s p names ≡ Ok (Some (t, q))
      → AllShown s.setting.text s.ending names (drop q s.tokens) us e → AllShown s.setting.text s.ending names (drop p s.tokens) (t ∷ us) e
  pub end : (s : Source) (names : Names) (p : ℕ) → IsUtf8 s.setting.text → IsRead s → shown s p names ≡ Ok None → AllShown s.setting.text s.ending names (drop p s.tokens) [] None
  pub fault : (s : Source) (names : Names) (p : ℕ) (f : Fault) → IsUtf8 s.setting.text → IsRead s → shown s p names ≡ Err f → AllShown s.setting.text s.ending names (drop p s.tokens) [] (Some f)

-- Theorem: a token that is visible at a position `p` is the raw token before the position `q` after it, is at or after
-- `p`, and ends at the byte offset of `q`.
abbrev pub ShownIsTaken : Type 0
ShownIsTaken = (s : Source) (p : ℕ) (names : Names) (t : Token) (q : ℕ) → shown s p names ≡ Ok (Some (t, q)) → (p < q) × (q ≤ length s.tokens) × (slice_get s.tokens (q - 1) ≡ Some t) × (offset_at s.tokens q ≡ t.offset + t.len)

-- Theorem: if the last raw token is a `(` followed immediately by `@`, the text has a lexical error after it.
abbrev pub MarksEndInFaults : Type 0
MarksEndInFaults = (s : Source) (ts : List Token) (t : Token) → IsRead s → s.tokens ≡ ts ++ (t ∷ []) → IsMarked s.setting.text t → s.ending ≢ None
