use Rattle.std.proofs.Common.{◌∙◌, map, subst}
use Rattle.std.proofs.lemmas.Str.{IsCharBoundary-start}
use Rattle.wat_lexer_parser.specs.inside.TableNames.{name_view}
use Rattle.wat_lexer_parser.specs.inside.Table.{HasAnnotations}
use Rattle.wat_lexer_parser.proofs.inside.Filling.{filling_start, filling_more}
use Rattle.wat_lexer_parser.proofs.parser.table.fill.Goals as goal

pub tokens-init : goal.tokens-init
tokens-init c =
    let t = c.in_ok-table.table in
    let e = c.in_ok-table.ensures in
    record {
      filling = filling_start c.args.lexer.now t.tokens.items t.opens.items (map name_view t.names.items) (IsCharBoundary-start c.args.lexer.now.text c.input-text.ensures.utf8) e.tokens e.opens e.names;
      fault = e.fault;
    }

pub tokens-preserved : goal.tokens-preserved
tokens-preserved c =
    let t = c.tokens.table in
    let u = c.add.new.self in
    let noted = subst (λ x. HasAnnotations x u.tokens.items u.opens.items (map name_view u.names.items)) c.input-text.ensures.text c.in_ok-add-in-Ok-Some.ensures.noted in
    let token = rw c.in-Ok-Some.field-0-is at c.in-Ok-Some.ensures.token in
    let boundary = rw c.in-Ok-Some.field-0-is at c.in-Ok-Some.ensures.boundary in
    record {
      filling = filling_more c.args.lexer.now c.tokens.pos t.tokens.items u.tokens.items t.opens.items u.opens.items (map name_view t.names.items) (map name_view u.names.items) c.in-Ok-Some.token
          c.tokens.invariant.filling token boundary c.in_ok-add-in-Ok-Some.ensures.tokens noted;
      fault = c.in_ok-add-in-Ok-Some.ensures.fault ∙ c.tokens.invariant.fault;
    }
