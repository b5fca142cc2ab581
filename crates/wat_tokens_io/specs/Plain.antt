-- The parts of a source over a reader, or of a sink over a writer, that contracts refer to. Not part of the standard.
use Rattle.std.specs.Prelude.{Bool, Option}
use Rattle.wat_tokens_io.specs.declared.failed.Failed.{Failed}
use Rattle.wat_tokens_io.specs.declared.ends.Plain.{Plain}

-- The reader or writer.
abbrev pub plain_inner : {T : Type 0} → Plain T → T
plain_inner p = p.inner

-- The failure of the last call that failed, if there is one.
abbrev pub plain_failure : {T : Type 0} → Plain T → Option Failed
plain_failure p = p.failure

-- `true` if the last read found the end of the input.
abbrev pub plain_ended : {T : Type 0} → Plain T → Bool
plain_ended p = p.ended
