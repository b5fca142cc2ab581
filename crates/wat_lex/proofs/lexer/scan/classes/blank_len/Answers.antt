use Rattle.std.proofs.Common.{◌-◌, length, take, drop, length-drop, arith}
use Rattle.std.proofs.lemmas.List.{length-take}
use Rattle.std.proofs.lemmas.List.Sums.{prefix_len-le-length}
use Rattle.wat_lex.specs.grammar.Classes.{is_whitespace}
use Rattle.wat_lex.proofs.lexer.scan.classes.blank_len.Goals as goal

pub overflow_add-result : goal.overflow_add-result
overflow_add-result c =
    let text = c.args.text.now in
    let rest = take (length text - 1) (drop 1 text) in
    record { fits = omega (arith, c.whitespace_len.ensures, prefix_len-le-length is_whitespace rest, length-take (length text - 1) (drop 1 text), length-drop 1 text) }
