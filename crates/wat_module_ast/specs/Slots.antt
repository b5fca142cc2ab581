-- How the code finds a keyword in the table of plain instructions: by a hash, which leaves one row that can
-- have this keyword. Not part of the standard.
use Rattle.std.specs.Prelude.{ℕ, ◌+◌, ◌*◌, ◌%◌, ◌^◌, List, [], ◌∷◌, Option, Some, None, bytes_eq, if◌then◌else◌}
use Rattle.wat_module_ast.specs.Table.{Mnemonic}

-- The hash of a keyword whose first bytes have the hash `h` and whose remaining bytes are given.
abbrev pub hash_from : ℕ → List ℕ → ℕ
hash_from h [] = h
hash_from h (b ∷ bs) = hash_from (((h * 5) % (2 ^ 32) + b) % (2 ^ 32)) bs

-- The hash of a keyword: from 0, each byte `b` takes the hash `h` to `5 * h + b` modulo 2^32.
unfoldable pub hash : List ℕ → ℕ
hash w = hash_from 0 w

-- The row, if there is one and it has the keyword `w`.
abbrev pub matching_row : List ℕ → Option Mnemonic → Option Mnemonic
matching_row w None = None
matching_row w (Some m) = if bytes_eq m.word w then Some m else None
