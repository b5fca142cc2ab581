-- The formatted text of an error, given its message and file. It is not part of the standard.
use Rattle.std.specs.Prelude.{◌≡◌, ◌≤◌, ℕ, List, [], ◌∷◌, ◌++◌, codes, length, Result, Ok, Err}
use Rattle.wat_lex.specs.errors.Rendering.{excerpt, rendered_location_in}
use Rattle.wat_c.specs.declared.answers.Refusal.{Refusal}
use Rattle.wat_c.specs.declared.answers.Refusal.TheVariants.{Memory}

abbrev pub file_name : List ℕ → List ℕ
file_name [] = codes "<anon>"
file_name (b ∷ bs) = b ∷ bs

abbrev pub printed_in : List ℕ → ℕ → List ℕ → List ℕ → List ℕ
printed_in text offset message file = message ++ rendered_location_in (file_name file) (excerpt text offset)

-- `Prints text offset message file result`: the result is the formatted error. An allocation failure is possible only
-- if the message has fewer than 16 bytes or the file has a name.
abbrev pub Prints : List ℕ → ℕ → List ℕ → List ℕ → Result (List ℕ) Refusal → Type 0
Prints text offset message file (Ok bytes) = bytes ≡ printed_in text offset message file
Prints text offset message file (Err (Memory refused)) = 16 ≤ length message → file ≡ [] → ⊥
Prints text offset message file (Err refusal) = ⊥
