use Rattle.std.proofs.Common.{sym, subst}
use Rattle.wat_lex.specs.tokens.Unclosed.{AreMarks}
use Rattle.wat_c.proofs.recovery.step_at.Goals as goal

pub scan_with_marks-requires-clause-marks : goal.scan_with_marks-requires-clause-marks
scan_with_marks-requires-clause-marks c = subst (λ s. AreMarks s c.args.marks.now) (sym c.with_settings-lexer.ensures.setting) c.requires.marks

pub returns-in-Ok-Some-clause-marks : goal.returns-in-Ok-Some-clause-marks
returns-in-Ok-Some-clause-marks c = subst (λ s. AreMarks s c.scan_with_marks.new.marks) c.with_settings-lexer.ensures.setting c.scan_with_marks.ensures.marks

pub returns-in-Ok-None-clause-marks : goal.returns-in-Ok-None-clause-marks
returns-in-Ok-None-clause-marks c = subst (λ s. AreMarks s c.scan_with_marks.new.marks) c.with_settings-lexer.ensures.setting c.scan_with_marks.ensures.marks

pub returns-in-Err-clause-marks : goal.returns-in-Err-clause-marks
returns-in-Err-clause-marks c = subst (λ s. AreMarks s c.scan_with_marks.new.marks) c.with_settings-lexer.ensures.setting c.scan_with_marks.ensures.marks
