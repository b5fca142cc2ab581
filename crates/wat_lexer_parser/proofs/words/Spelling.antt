-- The words of the tables consist of idchars, by computation, and so does the word at each index.
use Rattle.std.proofs.Common.{ℕ, List, [], ◌∷◌, zero, suc, refl, ◌≡◌, get_or, true}
use Rattle.std.specs.List.{list_all}
use Rattle.std.proofs.lemmas.Bool.{and_parts}
use Rattle.wat_lex.specs.grammar.Classes.{is_idchar}
use Rattle.wat_words.specs.Words.{annotation_words, standard_words}

pub standard_idchars : list_all (λ w. list_all is_idchar w) standard_words ≡ true
unfolding standard_words
standard_idchars = refl

pub annotation_idchars : list_all (λ w. list_all is_idchar w) annotation_words ≡ true
unfolding annotation_words
annotation_idchars = refl

pub idchars_at : (words : List (List ℕ)) (place : ℕ) → list_all (λ w. list_all is_idchar w) words ≡ true → list_all is_idchar (get_or words place []) ≡ true
idchars_at [] place h = refl
idchars_at (w ∷ ws) zero h = (and_parts (list_all is_idchar w) (list_all (λ v. list_all is_idchar v) ws) h).0
idchars_at (w ∷ ws) (suc place) h = idchars_at ws place (and_parts (list_all is_idchar w) (list_all (λ v. list_all is_idchar v) ws) h).1
