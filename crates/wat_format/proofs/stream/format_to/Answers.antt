use Rattle.wat_format.proofs.stream.format_to.Goals as goal

pub first_fault-requires : goal.first_fault-requires
first_fault-requires g c = rw c.with_settings-lexer.ensures.setting c.with_settings-lexer.ensures.start
