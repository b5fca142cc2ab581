use Rattle.std.proofs.Common.{refl}
use Rattle.wat_modules.proofs.Checking.{spelled_valid, valid_complete}
use Rattle.wat_modules.proofs.compile_valid.Goals as goal

pub returns-clause-bytes : goal.returns-clause-bytes
returns-clause-bytes c = let s = c.compile_as.ensures.sections in valid_complete c.args.text.now c.compile_as.result s.0 s.1 (c.compile_as.ensures.bytes s.0 s.1)

pub returns-clause-spelled : goal.returns-clause-spelled
returns-clause-spelled c = spelled_valid c.args.text.now c.compile_as.result c.compile_as.ensures.spelled

pub returns-clause-invalid : goal.returns-clause-invalid
returns-clause-invalid c = c.compile_as.ensures.invalid refl

pub returns-clause-refused : goal.returns-clause-refused
returns-clause-refused c = λ tokens last r shows sections v. c.compile_as.ensures.refused r sections tokens last shows (λ e. v)

pub returns-clause-errors : goal.returns-clause-errors
returns-clause-errors c = λ r k. c.compile_as.ensures.errors r k refl
