use Rattle.wat_modules.specs.Compiling.{Complete}
use Rattle.wat_modules.proofs.Answering.{complete_by, spelled_complete}
use Rattle.wat_modules.proofs.Checking.{unchecked_bytes, unchecked_refused, unchecked_spelled}
use Rattle.wat_modules.proofs.compile_with_customs.Goals as goal

pub returns-clause-bytes : goal.returns-clause-bytes
returns-clause-bytes c =
    let s = c.compile_as.ensures.sections in
    let text = c.args.text.now in
    complete_by text c.compile_as.result s.0 s.1 (unchecked_bytes (Complete s.0) text c.compile_as.result (c.compile_as.ensures.bytes s.0 s.1))

pub returns-clause-spelled : goal.returns-clause-spelled
returns-clause-spelled c =
    let text = c.args.text.now in
    spelled_complete text c.compile_as.result (λ r k. unchecked_spelled (Complete r) text c.compile_as.result (c.compile_as.ensures.spelled r k))

pub returns-clause-refused : goal.returns-clause-refused
returns-clause-refused c = λ tokens last r shows sections. unchecked_refused (Complete r) c.args.text.now c.compile_as.result (c.compile_as.ensures.refused r sections) tokens last shows
