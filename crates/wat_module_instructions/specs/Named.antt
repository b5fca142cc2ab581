-- The labels that have an identifier, each with its height. Not part of the standard.
use Rattle.std.specs.Prelude.{ℕ, List, [], ◌∷◌, length, Option, Some, None}
use Rattle.wat_module_tokens.specs.Terminals.{Label}
use Rattle.wat_module_instructions.specs.Machine.{Part}

-- The labels that have an identifier, each with its height: the number of labels outside it.
abbrev pub named : List Label → List (List ℕ × ℕ)
named [] = []
named (None ∷ ls) = named ls
named (Some x ∷ ls) = (x, length ls) ∷ named ls

-- The innermost part of a stack.
abbrev pub innermost : List Part → Option Part
innermost [] = None
innermost (p ∷ ps) = Some p
