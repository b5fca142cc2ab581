use Rattle.std.proofs.Common.{refl}
use Rattle.wat_modules.proofs.Checking.{valid_unnamed}
use Rattle.wat_modules.proofs.compile_valid_without_names.Goals as goal

pub returns-clause-bytes : goal.returns-clause-bytes
returns-clause-bytes c = let s = c.compile_as.ensures.sections in valid_unnamed c.args.text.now c.compile_as.result (c.compile_as.ensures.bytes s.0 s.1)

pub returns-clause-spelled : goal.returns-clause-spelled
returns-clause-spelled c = let s = c.compile_as.ensures.sections in λ fs m v. c.compile_as.ensures.spelled s.0 s.1 fs m (λ e. v)

pub returns-clause-invalid : goal.returns-clause-invalid
returns-clause-invalid c = c.compile_as.ensures.invalid refl

pub returns-clause-refused : goal.returns-clause-refused
returns-clause-refused c = let s = c.compile_as.ensures.sections in λ tokens last shows v. c.compile_as.ensures.refused s.0 s.1 tokens last shows (λ e. v)

pub returns-clause-errors : goal.returns-clause-errors
returns-clause-errors c = let s = c.compile_as.ensures.sections in c.compile_as.ensures.errors s.0 s.1 refl
