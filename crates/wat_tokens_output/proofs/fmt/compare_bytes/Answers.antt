use Rattle.wat_tokens_output.specs.declared.input.RunFailure.TheVariants.{NotUtf8}
use Rattle.wat_tokens_output.specs.lemmas.InputLaws.{text_known, as_other, or_write}
use Rattle.wat_tokens_output.proofs.fmt.compare_bytes.Goals as goal

pub returns-in-Ok-clause-not_utf8 : goal.returns-in-Ok-clause-not_utf8
returns-in-Ok-clause-not_utf8 c = λ n. text_known c.compare_text.result c.args.bytes.now n c.in-Ok.ensures.utf8 (or_write c.compare_text.result c.compare_text.ensures.refused)

pub returns-in-Err-clause-not_utf8 : goal.returns-in-Err-clause-not_utf8
returns-in-Err-clause-not_utf8 c = λ n. as_other c.in-Err.error (NotUtf8 n) (c.in-Err.ensures.not_utf8 n)
