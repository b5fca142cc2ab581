use Rattle.wat_lex.specs.inside.StringParts.{part_bytes}
use Rattle.wat_lex.proofs.values.NameParts.{ends_at_part, whole_utf8}
use Rattle.wat_lex.proofs.lexer.read.names.escaped_byte.Goals as goal

pub returns-in_default : goal.returns-in_default
returns-in_default c =
    let part = c.in_ok-part.part in
    let w = whole_utf8 part c.in_ok-part.ensures.1 c.in_default.not-Byte in
    ends_at_part c.args.elements.now (part_bytes part) c.in_ok-part.after.now c.in_ok-part.ensures.0 w.0 w.1
