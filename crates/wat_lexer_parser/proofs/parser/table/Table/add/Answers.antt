use Rattle.std.proofs.Common.{rules, sym, ◌∙◌, ◌-◌, map, length}
use Rattle.std.specs.Prelude.{slice_get}
use Rattle.wat_lexer_parser.specs.inside.TableNames.{name_view}
use Rattle.wat_lexer_parser.proofs.inside.Heads.{noted_plain, no_head}
use Rattle.wat_lexer_parser.proofs.parser.table.Table.add.Goals as goal

pub returns-in_ok-push-clause-noted : goal.returns-in_ok-push-clause-noted
returns-in_ok-push-clause-noted c =
    let a = c.args.self.now in
    let h = no_head (slice_get a.tokens.items (length a.tokens.items - 1)) c.args.token (sym c.is_annotation.ensures ∙ c.if-is_annotation.false) in
    noted_plain c.args.text.now a.tokens.items c.push.new.self.items a.opens.items (map name_view a.names.items) c.args.token c.requires.noted c.requires.token c.requires.short (search rules) h
