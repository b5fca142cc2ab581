use Rattle.std.proofs.Common.{rules}
use Rattle.wat_tokens_output.specs.lemmas.InputLaws.{past_known, no_text_known}
use Rattle.wat_tokens_run.proofs.run.run.Goals as goal

pub returns-in_err-bytes : goal.returns-in_err-bytes
returns-in_err-bytes g c = record {
  written = search rules;
  cut = search rules;
  unwritten = search rules;
  ended = search rules;
  not_utf8_ended = search rules;
  write_ended = search rules;
  read = search rules;
  write = search rules;
  short = search rules;
  too_long = past_known _ _ (search rules) (search rules);
  not_utf8 = search rules;
}

pub returns : goal.returns
returns g c = record {
  written = search rules;
  cut = search rules;
  unwritten = search rules;
  ended = search rules;
  not_utf8_ended = search rules;
  write_ended = search rules;
  read = search rules;
  write = search rules;
  short = search rules;
  too_long = search rules;
  not_utf8 = λ n. no_text_known _ _ n c.in_ok-bytes.ensures.whole (search rules) (rw c.deref.ensures.value at c.print.ensures.not_utf8 n);
}
