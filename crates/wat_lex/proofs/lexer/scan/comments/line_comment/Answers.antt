use Rattle.std.proofs.Common.{◌≡◌, ◌-◌, ℕ, List, length, take, drop, get_or, ap, ◌∙◌, not, arith, length-drop}
use Rattle.std.proofs.lemmas.List.Sums.{prefix_len-le-length}
use Rattle.std.proofs.lemmas.List.{take_rest}
use Rattle.std.specs.List.{prefix_len}
use Rattle.wat_lex.specs.grammar.Classes.{is_line_end}
use Rattle.wat_lex.proofs.inside.LineComments.{line_found}
use Rattle.wat_lex.specs.inside.Blocks.{is_plain_in_line}
use Rattle.wat_lex.proofs.inside.PlainLines.{plain_found}
use Rattle.wat_lex.proofs.lexer.scan.comments.line_comment.Goals as goal
use Rattle.wat_lex.proofs.lexer.scan.comments.line_comment.Goals.{then-plain-line-via-then-plain-line, then-plain-line-via-else-plain-line+then-line-plain}

tail_is : (text bs : List ℕ) → bs ≡ text → take (length bs - 2) (drop 2 bs) ≡ drop 2 text
tail_is text bs e = take_rest bs 2 ∙ ap (λ x. drop 2 x) e

pub bounds-line-plain : goal.bounds-line-plain
bounds-line-plain c =
    let bs = c.as_bytes.result.now in
    omega (arith, c.plain_len_in_line-plain.ensures, prefix_len-le-length is_plain_in_line (take (length bs - 2) (drop 2 bs)))

pub overflow_add-result : goal.overflow_add-result
overflow_add-result c =
    let e = c.plain_len_in_line-plain.ensures ∙ ap (prefix_len is_plain_in_line) (tail_is c.args.text.now c.as_bytes.result.now c.as_bytes.ensures.value) in
    omega (arith, e, prefix_len-le-length is_plain_in_line (drop 2 c.args.text.now), length-drop 2 c.args.text.now, c.as_bytes.type_inv.0, ap length c.as_bytes.ensures.value)

pub returns-then-plain-line-clause-ok : goal.returns-then-plain-line-clause-ok
returns-then-plain-line-clause-ok c =
    let e = tail_is c.args.text.now c.as_bytes.result.now c.as_bytes.ensures.value in
    let n = c.plain_len_in_line-plain.result in
    plain_found c.args.flags c.args.text.now n c.utf8.text c.requires.begun.0 c.requires.begun.1
    (c.plain_len_in_line-plain.ensures ∙ ap (prefix_len is_plain_in_line) e)
    (λ l q. elim c.then-plain-line.branch [
      | then-plain-line-via-then-plain-line w ↦ omega (arith, ap length e, w.if-plain-line.true, l)
      | then-plain-line-via-else-plain-line+then-line-plain w ↦ w.if-line-plain.true (ap (λ x. get_or x n 0) e ∙ q)
    ])

pub overflow_add-comment : goal.overflow_add-comment
overflow_add-comment c =
    let p = λ (d : ℕ). not (is_line_end d) in
    let e = c.line_len-len.ensures ∙ ap (prefix_len p) (tail_is c.args.text.now c.as_bytes.result.now c.as_bytes.ensures.value) in
    omega (arith, e, prefix_len-le-length p (drop 2 c.args.text.now), length-drop 2 c.args.text.now, c.as_bytes.type_inv.0, ap length c.as_bytes.ensures.value)

pub checked-requires-clause-found : goal.checked-requires-clause-found
checked-requires-clause-found c =
    let e = tail_is c.args.text.now c.as_bytes.result.now c.as_bytes.ensures.value in
    line_found c.args.flags c.args.text.now c.line_len-len.result c.utf8.text c.requires.begun.0 c.requires.begun.1
    (c.line_len-len.ensures ∙ ap (prefix_len (λ c. not (is_line_end c))) e)
