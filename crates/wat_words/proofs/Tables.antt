-- The tables of the code are those of the definitions, and their displays are the words in backquotes.
use Rattle.std.proofs.Common.{ℕ, List, [], ◌∷◌, zero, suc, map, refl, ◌≡◌, get_or, true, false}
use Rattle.wat_words.specs.declared.table.TheConstants.{ANNOTATIONS, ANNOTATION_DISPLAYS, STANDARD, STANDARD_DISPLAYS}
use Rattle.wat_words.specs.Words.{annotation_words, quoted, standard_words}

pub standard_table : map (λ w. w.now) STANDARD ≡ standard_words
unfolding standard_words
standard_table = refl

pub standard_displays : map (λ w. w.now) STANDARD_DISPLAYS ≡ map (λ w. quoted false w) standard_words
unfolding standard_words
standard_displays = refl

pub annotation_table : map (λ w. w.now) ANNOTATIONS ≡ annotation_words
unfolding annotation_words
annotation_table = refl

pub annotation_displays : map (λ w. w.now) ANNOTATION_DISPLAYS ≡ map (λ w. quoted true w) annotation_words
unfolding annotation_words
annotation_displays = refl

-- The element at an index of a mapped list.
pub get_or-map : {A B : Type 0} (f : A → B) (xs : List A) (i : ℕ) (d : A) → get_or (map f xs) i (f d) ≡ f (get_or xs i d)
get_or-map f [] i d = refl
get_or-map f (x ∷ xs) zero d = refl
get_or-map f (x ∷ xs) (suc i) d = get_or-map f xs i d
