use Rattle.std.proofs.Common.{◌≡◌, ◌∷◌, ◌∙◌, ap, sym}
use Rattle.wat_module_ast.specs.Names.{block_labels, inside}
use Rattle.wat_module_parser.specs.Labels.{found}
use Rattle.wat_module_tokens.specs.TokenCursor.{terminals_of}
use Rattle.wat_module_tokens.specs.Terminals.{Open}
use Rattle.wat_module_parser.proofs.BlockLabels.{no_word}
use Rattle.wat_module_parser.proofs.labels.group_label.Goals as goal

pub returns-in_ok-left-in-Some-clause-found : goal.returns-in_ok-left-in-Some-clause-found
returns-in_ok-left-in-Some-clause-found c = λ d.
    c.in_ok-left-in-Some.ensures.found d ∙ ap (λ ts. found c.args.labels.now (block_labels c.args.waiting.now (Open ∷ inside d ts))) (sym c.in-Some.ensures)

pub returns-in-None-clause-found : goal.returns-in-None-clause-found
returns-in-None-clause-found c = λ d. ap (λ x. found c.args.labels.now x) (sym (no_word c.args.waiting.now d (terminals_of c.args.rest) c.in-None.ensures))
