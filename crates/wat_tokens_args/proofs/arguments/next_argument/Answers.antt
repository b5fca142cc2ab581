use Rattle.std.proofs.Common.{◌∷◌, ap, sym, ◌∙◌}
use Rattle.wat_tokens_args.proofs.ArgumentLaws.{next_alone, next_last, next_named}
use Rattle.wat_tokens_args.proofs.arguments.next_argument.Goals as goal

pub returns-in_default-named_kind : goal.returns-in_default-named_kind
returns-in_default-named_kind c =
    next_alone c.args.words.now c.in-Some.rest.now c.in-Some.word.now c.alone.result.word.now c.alone.result.kind c.in-Some.ensures.cases.0 (sym c.named_kind.ensures ∙ c.in_default-named_kind.is) c.alone.ensures.0 c.alone.ensures.1

pub returns-in_default-split_first : goal.returns-in_default-split_first
returns-in_default-split_first c =
    next_last c.args.words.now c.in-Some.rest.now c.in-Some.word.now c.alone-in_default-split_first.result.word.now c.alone-in_default-split_first.result.kind c.in-Some.ensures.cases.0 c.in_default-split_first.ensures.cases c.alone-in_default-split_first.ensures.0 c.alone-in_default-split_first.ensures.1

pub returns : goal.returns
returns c =
    next_named c.args.words.now c.in-Some-split_first.after.now c.in-Some.word.now c.in-Some-split_first.name.now c.in-Some-named_kind.kind (c.in-Some.ensures.cases.0 ∙ ap (λ r. c.in-Some.word.now ∷ r) c.in-Some-split_first.ensures.cases.0) (sym c.named_kind.ensures ∙ c.in-Some-named_kind.is)
