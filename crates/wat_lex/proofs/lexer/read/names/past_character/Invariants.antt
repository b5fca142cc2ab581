use Rattle.std.proofs.Common.{◌≡◌, ◌<◌, ◌≤◌, ◌++◌, ◌∷◌, ◌-◌, ℕ, length, take}
use denote.Text.{Utf8}
use denote.Shadow.{shadow}
use Rattle.std.specs.Str.{chars, IsUtf8}
use Rattle.wat_lex.specs.values.Names.{IsQuoted}
use Rattle.wat_lex.specs.inside.StringParts.{value_of}
use Rattle.wat_lex.proofs.lexer.read.names.past_character.Given as goal

abbrev pub invariant-loop-buffer : goal.invariant-loop-buffer
invariant-loop-buffer l =
    shadow (Utf8 l.rest) × IsQuoted (chars l.rest) × (length l.rest ≤ length l.fn.elements) × (1 ≤ l.len) × (l.len ≤ 4)
    × (take l.len l.buffer ++ value_of l.rest ≡ l.fn.first ∷ value_of l.fn.elements)
    × ((k : ℕ) → 0 < k → k < l.len → IsUtf8 (take k (l.fn.first ∷ value_of l.fn.elements)) → ⊥)

abbrev pub decreases-loop-buffer : goal.decreases-loop-buffer
decreases-loop-buffer l = 4 - l.len
