-- A step of the iteration over the input files. Not part of the standard.
use Rattle.std.specs.Prelude.{◌≡◌, ℕ, List, ◌∷◌, string_bytes}
use Rattle.wat_tokens_args.specs.Arguments.{Word}

-- `name` is the first of `names`, and `rest` are the names after it.
pub record IsNext (names : List Word) (name : List ℕ) (rest : List Word) : Type 0 where
  pub word : Word
  pub text : string_bytes word ≡ name
  pub all : names ≡ word ∷ rest
