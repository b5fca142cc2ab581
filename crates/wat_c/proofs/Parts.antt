-- The parts of a floating-point number, from the number.
use Rattle.std.proofs.Common.{◌≡◌, ℕ, List}
use Rattle.std.specs.Prelude.{Some, None, Ok, Err}
use Rattle.wat_lex.specs.tokens.Setting.{Setting}
use Rattle.wat_lex.specs.declared.lexer.read.numbers.Float.{Float}
use Rattle.wat_c.specs.Readings.{Finds, IsFloat, ReadsFloat, FloatAt, part_of}
use Rattle.wat_c.specs.declared.answers.Refusal.TheVariants.{Absent}

pub part_found : (s : Setting) (p part : ℕ) (float : Float) (bytes : List ℕ) → FloatAt s p float → part_of part float ≡ Some bytes → Finds IsFloat (ReadsFloat part) s p (Ok bytes)
part_found s p part float bytes h e = record { token = h.token; is_at = h.is_at; kind = (h.cut.0, h.cut.1); reads = (float, h.cut, e) }

pub part_missing : (s : Setting) (p part : ℕ) (float : Float) → FloatAt s p float → part_of part float ≡ None → Finds IsFloat (ReadsFloat part) s p (Err Absent)
part_missing s p part float h e = record { token = h.token; is_at = h.is_at; kind = (h.cut.0, h.cut.1); reads = (float, h.cut, e) }
