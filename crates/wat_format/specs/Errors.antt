-- The texts that the errors of formatting display. They are not part of the standard.
use Rattle.std.specs.Prelude.{ℕ, List, ◌++◌, codes, decimal}
use Rattle.wat_lex.specs.errors.Messages.{message}
use Rattle.wat_lex.specs.declared.lexer.faults.LexFault.{LexFault}
use Rattle.wat_format.specs.declared.error.Error.{Error}
use Rattle.wat_format.specs.declared.error.Error.TheVariants.{Memory, Fault, TooLong}
use Rattle.wat_format.specs.declared.stream.WriteError.{WriteError}
use Rattle.wat_format.specs.declared.stream.WriteError.TheVariants as write

abbrev pub faulty : LexFault → List ℕ
faulty fault = message fault.error ++ codes " at byte offset " ++ decimal fault.offset

abbrev pub printed : Error → List ℕ
printed (Memory refused) = codes "out of memory"
printed (Fault fault) = faulty fault
printed TooLong = codes "the formatted text would be longer than 4294967295 bytes"

abbrev pub printed_of_writing : WriteError → List ℕ
printed_of_writing (write.Memory refused) = codes "out of memory"
printed_of_writing (write.Fault fault) = faulty fault
printed_of_writing (write.Failed cause) = codes "write failed"
