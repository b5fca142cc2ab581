use Rattle.std.proofs.Common.{◌≡◌, ◌∙◌, ◌++◌, take, ap, sym}
use Rattle.wat_module_ast.specs.Names.{block_labels, inside}
use Rattle.wat_module_parser.specs.Labels.{found}
use Rattle.wat_module_tokens.specs.TokenCursor.{terminals_of}
use Rattle.wat_module_tokens.specs.Terminals.{label}
use Rattle.wat_module_parser.proofs.BlockLabels.{folded_if, folded_then, folded_other}
use Rattle.wat_module_parser.proofs.labels.folded_label.Goals as goal

pub returns-then-eq-clause-found : goal.returns-then-eq-clause-found
returns-then-eq-clause-found c = λ d.
    ap (λ ws. found c.args.labels.now (block_labels ws (inside d (terminals_of c.label.result.1)))) c.in_ok-push.ensures
    ∙ ap (λ x. found c.args.labels.now x) (sym (folded_if c.args.waiting.now d c.args.word.now (terminals_of c.args.rest) (terminals_of c.label.result.1) (label c.label.result.0) (sym c.eq.ensures ∙ c.if-eq.true) c.label.ensures.name c.label.ensures.rest))

pub returns-then-is_then-clause-found : goal.returns-then-is_then-clause-found
returns-then-is_then-clause-found c = λ d.
    c.in_ok-then_label.ensures.found (block_labels c.then_label.new.waiting (inside d (terminals_of c.args.rest)))
    ∙ ap (λ ws. found c.args.labels.now (take 1 c.args.waiting.now ++ block_labels ws (inside d (terminals_of c.args.rest)))) c.in_ok-then_label.ensures.waiting
    ∙ ap (λ x. found c.args.labels.now x) (sym (folded_then c.args.waiting.now d c.args.word.now (terminals_of c.args.rest) (sym c.eq.ensures ∙ c.if-eq.false) (sym c.is_then.ensures ∙ c.if-is_then.true)))

pub returns-clause-found : goal.returns-clause-found
returns-clause-found c = λ d.
    c.in_ok-left.ensures.found d c.args.waiting.now
    ∙ ap (λ x. found c.args.labels.now x) (sym (folded_other c.args.waiting.now d c.args.word.now (terminals_of c.args.rest) (sym c.eq.ensures ∙ c.if-eq.false) (sym c.is_then.ensures ∙ c.if-is_then.false)))
