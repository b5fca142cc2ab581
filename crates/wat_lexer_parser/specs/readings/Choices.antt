-- One of several types, as a reading: a lookahead selects the first type whose peek yields `true`. Not part of the
-- standard.
use Rattle.std.specs.Prelude.{ℕ, List, [], ◌∷◌, ◌++◌, length, nat_le}
use Rattle.wat_lexer_parser.specs.parser.Sights.{Sight}
use Rattle.wat_lexer_parser.specs.readings.Attempts.{attempts_held, attempts_report}
use Rattle.wat_lexer_parser.specs.readings.Readings.{Reading, also_taking, refused, where_seen}

-- An alternative: its peek, its description in messages, and its reading.
pub record Choice (V : Type 0) : Type 0 where
  pub sight : Sight
  pub shows : List ℕ
  pub reading : Reading V

abbrev pub choice : {V : Type 0} → Sight → List ℕ → Reading V → Choice V
choice sight shows reading = record { sight = sight; shows = shows; reading = reading }

-- The alternatives `cs` after those described by `missed`, whose peeks yielded `false`. If none is left, the error
-- lists the missed ones. A lookahead stores the first `attempts_held` of them without an allocation.
abbrev pub one_after : {V : Type 0} → List (List ℕ) → List (Choice V) → Reading V
one_after missed [] a = refused (attempts_report a missed) 0
one_after missed (c ∷ cs) a =
    where_seen c.sight c.reading (λ a. also_taking (nat_le attempts_held (length missed)) (one_after (missed ++ (c.shows ∷ [])) cs a)) a

-- The first alternative whose peek yields `true`, otherwise the error that one of them was expected.
abbrev pub one_of : {V : Type 0} → List (Choice V) → Reading V
one_of cs = one_after [] cs
