use Rattle.std.proofs.Common.{◌≡◌, map, rules, subst, sym}
use Rattle.wat_lexer_parser.specs.inside.TableNames.{name_view}
use Rattle.wat_lexer_parser.specs.inside.Table.{Opening, HasAnnotations}
use Rattle.wat_lexer_parser.proofs.inside.Filling.{opening_from}
use Rattle.wat_lexer_parser.proofs.parser.table.Table.of.Goals as goal

pub closes-requires-clause-opening : goal.closes-requires-clause-opening
closes-requires-clause-opening c =
    let t = c.in_ok-table.table in
    let n : HasAnnotations c.args.lexer.now.text t.tokens.items t.opens.items (map name_view t.names.items) = search rules in
    let ts : c.deref-2.result.now ≡ t.tokens.items = search rules in
    let os : c.deref-3.result.now ≡ t.opens.items = search rules in
    subst (λ x. Opening x c.deref-3.result.now) (sym ts) (subst (Opening t.tokens.items) (sym os) (opening_from c.args.lexer.now.text t.tokens.items t.opens.items (map name_view t.names.items) n.headed))
