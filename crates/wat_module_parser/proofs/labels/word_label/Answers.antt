use Rattle.std.proofs.Common.{◌≡◌, ◌∙◌, ap, sym}
use Rattle.wat_module_ast.specs.Names.{block_labels, inside}
use Rattle.wat_module_parser.specs.Labels.{found}
use Rattle.wat_module_tokens.specs.TokenCursor.{terminals_of}
use Rattle.wat_module_tokens.specs.Terminals.{label}
use Rattle.wat_module_parser.proofs.BlockLabels.{block_word, other_word}
use Rattle.wat_module_parser.proofs.labels.word_label.Goals as goal

pub returns-in_ok-push_label-in-Some-clause-found :
    goal.returns-in_ok-push_label-in-Some-clause-found
returns-in_ok-push_label-in-Some-clause-found c = λ d ls.
    c.in_ok-push_label-in-Some.ensures.found (block_labels ls (inside d (terminals_of c.label.result.1)))
    ∙ ap (λ x. found c.args.labels.now x) (sym (block_word ls d c.args.word.now _ (terminals_of c.args.rest) (terminals_of c.label.result.1) (label c.label.result.0) (sym c.in-Some.ensures) c.label.ensures.name c.label.ensures.rest))

pub returns-in-None-clause-found : goal.returns-in-None-clause-found
returns-in-None-clause-found c = λ d ls. ap (λ x. found c.args.labels.now x) (sym (other_word ls d c.args.word.now (terminals_of c.args.rest) (sym c.in-None.ensures)))
