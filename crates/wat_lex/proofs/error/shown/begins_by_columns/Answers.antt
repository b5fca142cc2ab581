use Rattle.std.proofs.Common.{◌∙◌, sym, ap, take}
use Rattle.std.specs.List.{prefix_len}
use Rattle.std.proofs.lemmas.Bool.{eqb-true}
use Rattle.wat_lex.specs.errors.LineBytes.{is_by_columns}
use Rattle.wat_lex.proofs.errors.Stretches.{columns_are_bytes}
use Rattle.wat_lex.proofs.error.shown.begins_by_columns.Goals as goal

pub returns-then-bytes-line : goal.returns-then-bytes-line
returns-then-bytes-line c = λ t. columns_are_bytes c.args.line.now c.args.bytes c.if-bytes-line.true
    (sym (eqb-true c.by_columns_len.result c.args.bytes t) ∙ c.by_columns_len.ensures ∙ ap (λ s. prefix_len is_by_columns (take c.args.bytes s)) c.as_bytes.ensures.value)
