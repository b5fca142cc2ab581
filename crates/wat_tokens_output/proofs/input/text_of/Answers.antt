use Rattle.std.proofs.Common.{Ok, sym, subst}
use Rattle.std.specs.Str.{IsValidUpTo}
use Rattle.wat_tokens_output.specs.lemmas.InputLaws.{text_known, stops_there}
use Rattle.wat_tokens_output.proofs.input.text_of.Goals as goal

pub returns-in-Ok-clause-not_utf8 : goal.returns-in-Ok-clause-not_utf8
returns-in-Ok-clause-not_utf8 c = λ n. text_known (Ok c.in-Ok.text) c.args.bytes.now n c.in-Ok.ensures.cases.1 tt

pub returns-in-Err-clause-not_utf8 : goal.returns-in-Err-clause-not_utf8
returns-in-Err-clause-not_utf8 c = λ n. stops_there c.args.bytes.now c.valid_up_to.result n (subst (λ m. IsValidUpTo c.args.bytes.now m) (sym c.valid_up_to.ensures) c.in-Err.ensures.cases.1)
