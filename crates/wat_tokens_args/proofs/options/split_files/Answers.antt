use Rattle.std.proofs.Common.{◌+◌, ap, sym, ◌∙◌, drop}
use Rattle.std.proofs.lemmas.List.{drop-drop}
use Rattle.std.proofs.lemmas.List.Sums.{prefix_len-le-length}
use Rattle.wat_tokens_args.proofs.options.split_files.Goals as goal

pub split_at-requires : goal.split_at-requires
split_at-requires c = rw c.own_len.ensures (prefix_len-le-length _ c.args.words.now)

pub returns-in-Some-clause-last : goal.returns-in-Some-clause-last
returns-in-Some-clause-last c =
    ap (λ r. drop 1 r) (sym c.in-Some.ensures.cases.0) ∙ ap (λ r. drop 1 r) c.split_at.ensures.back ∙ drop-drop 1 c.own_len.result c.args.words.now ∙ ap (λ n. drop (n + 1) c.args.words.now) c.own_len.ensures
