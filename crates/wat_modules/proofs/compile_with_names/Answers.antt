use Rattle.wat_modules.specs.Compiling.{Named}
use Rattle.wat_modules.proofs.Answering.{named_by, spelled_named}
use Rattle.wat_modules.proofs.Checking.{unchecked_bytes, unchecked_refused, unchecked_spelled}
use Rattle.wat_modules.proofs.compile_with_names.Goals as goal

pub returns-clause-bytes : goal.returns-clause-bytes
returns-clause-bytes c =
    let s = c.compile_as.ensures.sections in
    let text = c.args.text.now in
    named_by text c.compile_as.result (unchecked_bytes Named text c.compile_as.result (c.compile_as.ensures.bytes s.0 s.1))

pub returns-clause-spelled : goal.returns-clause-spelled
returns-clause-spelled c =
    let s = c.compile_as.ensures.sections in
    let text = c.args.text.now in
    spelled_named Named text c.compile_as.result (unchecked_spelled Named text c.compile_as.result (c.compile_as.ensures.spelled s.0 s.1))

pub returns-clause-refused : goal.returns-clause-refused
returns-clause-refused c = let s = c.compile_as.ensures.sections in unchecked_refused Named c.args.text.now c.compile_as.result (c.compile_as.ensures.refused s.0 s.1)
