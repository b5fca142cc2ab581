use Rattle.std.proofs.Common.{rules}
use Rattle.wat_tokens_output.specs.lemmas.InputLaws.{past_known, no_text_known}
use Rattle.wat_tokens_output.proofs.fmt.run_compare.Goals as goal

pub returns-in_err-bytes-clause-too_long : goal.returns-in_err-bytes-clause-too_long
returns-in_err-bytes-clause-too_long g c = past_known _ _ (search rules) (search rules)

pub returns-clause-not_utf8 : goal.returns-clause-not_utf8
returns-clause-not_utf8 g c = λ n. no_text_known _ _ n c.in_ok-bytes.ensures.whole (search rules) (rw c.deref.ensures.value at c.compare_bytes.ensures.not_utf8 n)
