-- The sources that match the grammar of sums, and the result of parsing a source.
use Rattle.std.specs.Prelude.{◌≡◌, false, ℕ, ℤ, List}
use Rattle.wat_lex.specs.tokens.Setting.{Setting}
use Rattle.wat_lexer_parser.specs.rules.Spelling.{ReadsAsSpelled, Spells}
use Rattle.example_sums.specs.Sums.{sum}

-- The source, lexed with confusing characters rejected and underscores not strict.
abbrev pub plain : List ℕ → Setting
plain text = record { text = text; flags = record { allow = false; strict = false } }

-- The source matches the grammar with these terms.
abbrev pub SpellsSum : List ℕ → List ℤ → Type 0
SpellsSum text terms = Spells sum.rule (plain text) terms

-- Theorem: under every setting, parsing a source returns a value if and only if the source matches the grammar with
-- it.
abbrev pub ReadingIsSpelling : Type 0
ReadingIsSpelling = ReadsAsSpelled sum.reading sum.rule

-- Theorem: the terms of a source are unique.
abbrev pub SpellingIsOne : Type 0
SpellingIsOne = (text : List ℕ) (v w : List ℤ) → SpellsSum text v → SpellsSum text w → v ≡ w
