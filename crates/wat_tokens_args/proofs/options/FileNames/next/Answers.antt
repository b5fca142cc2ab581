use Rattle.wat_tokens_args.proofs.LineLaws.{next_front, next_args, next_last}
use Rattle.wat_tokens_args.proofs.options.FileNames.next.Goals as goal

pub returns-in-Some : goal.returns-in-Some
returns-in-Some c = next_front _ _ _ c.in-Some.name.now c.as_str.result.now c.in-Some.ensures c.as_str.ensures.value

pub returns-in-Some-next_file : goal.returns-in-Some-next_file
returns-in-Some-next_file c = next_args _ _ _ _ c.in-Some-next_file.name.now c.as_str-in-Some-next_file.result.now c.in_default.ensures c.in-Some-next_file.ensures c.as_str-in-Some-next_file.ensures.value

pub returns : goal.returns
returns c = next_last _ _ _ _ c.in-Some-split_first.name.now c.as_str-2.result.now c.in_default.ensures c.in_default-next_file.ensures c.in-Some-split_first.ensures.cases.0 c.as_str-2.ensures.value
