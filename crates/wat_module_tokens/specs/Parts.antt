-- The tokens of a keyword group after its `(`. Not part of the standard.
use Rattle.std.specs.Prelude.{◌≡◌, ℕ, ◌+◌, ◌%◌, ◌^◌, ◌<◌, [], ◌∷◌}
use Rattle.wat_module_tokens.specs.declared.stream.Part.{Part}
use Rattle.wat_module_tokens.specs.declared.stream.Part.TheVariants as part
use Rattle.wat_module_tokens.specs.Terminals.{Close, Word}
use Rattle.wat_module_tokens.specs.Tokens.{AreCharacters, Stream, bytes_at, from_position, number_of}

-- `IsPart s at p`: the token at the position `at` of the stream `s` is `p`, and the tokens after it begin at the position
-- that `p` implies.
abbrev pub IsPart : Stream → ℕ → Part → Type 0
IsPart s at (part.Word o n) = AreCharacters s.text (number_of o) n × (from_position at s.terminals ≡ Word (bytes_at s.text (number_of o) n) ∷ from_position (at + 2 ^ 62) s.terminals) × (at + 2 ^ 62 < 2 ^ 64)
IsPart s at part.Close = from_position at s.terminals ≡ Close ∷ from_position (at % 2 ^ 62 + 1) s.terminals
IsPart s at part.Outside = from_position at s.terminals ≡ []
