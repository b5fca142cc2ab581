use Rattle.std.proofs.Common.{rules, ◌≡◌, ◌-◌, true, false, map, length}
use Rattle.std.specs.Prelude.{slice_get}
use Rattle.wat_lexer_parser.specs.inside.TableNames.{name_view}
use Rattle.wat_lexer_parser.specs.inside.Table.{annotation_at, is_head}
use Rattle.wat_lexer_parser.proofs.inside.Heads.{noted_plain, noted_more}
use Rattle.wat_lexer_parser.proofs.parser.table.Table.add_annotation.Goals as goal

pub returns-in_ok-note-clause-noted : goal.returns-in_ok-note-clause-noted
returns-in_ok-note-clause-noted c =
    let a = c.args.self.now in
    let token = annotation_at c.args.offset c.args.len in
    let d = c.note.new.self in
    let h : is_head (slice_get a.tokens.items (length a.tokens.items - 1)) token ≡ true = search rules in
    noted_more c.args.text.now a.tokens.items d.tokens.items a.opens.items d.opens.items (map name_view a.names.items) (map name_view d.names.items) token c.requires.noted c.requires.token c.requires.short
    (search rules) h (search rules) (search rules)

pub returns-else-is_head-clause-noted : goal.returns-else-is_head-clause-noted
returns-else-is_head-clause-noted c =
    let a = c.args.self.now in
    let token = annotation_at c.args.offset c.args.len in
    let h : is_head (slice_get a.tokens.items (length a.tokens.items - 1)) token ≡ false = search rules in
    noted_plain c.args.text.now a.tokens.items c.push.new.self.items a.opens.items (map name_view a.names.items) token c.requires.noted c.requires.token c.requires.short (search rules) h
