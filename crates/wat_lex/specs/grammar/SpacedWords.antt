-- Notation for lists of words in definitions: the words in one line, with one space between two of them. Not part of
-- the standard.
use Rattle.std.specs.Prelude.{ℕ, List, [], ◌∷◌, ◌==◌, if◌then◌else◌}

-- The words with the character `c` prepended to the first of them.
abbrev pub put_first : ℕ → List (List ℕ) → List (List ℕ)
put_first c [] = (c ∷ []) ∷ []
put_first c (word ∷ words) = (c ∷ word) ∷ words

-- The words of a line.
abbrev pub words_of : List ℕ → List (List ℕ)
words_of [] = [] ∷ []
words_of (c ∷ cs) = if c == 32 then [] ∷ words_of cs else put_first c (words_of cs)
