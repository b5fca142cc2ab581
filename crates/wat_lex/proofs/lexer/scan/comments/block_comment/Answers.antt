use Rattle.std.proofs.Common.{subst, sym, ◌≡◌, ◌≤◌, ◌-◌, ℕ, List, length, take, drop, ap, ◌∙◌}
use Rattle.std.proofs.lemmas.List.{take_rest}
use Rattle.wat_lex.specs.grammar.Comments.{Closes}
use Rattle.wat_lex.proofs.inside.BlockComments.{block_found, block_dangles}
use Rattle.wat_lex.proofs.lexer.scan.comments.block_comment.Goals as goal

tail_is : (text bs : List ℕ) → bs ≡ text → take (length bs - 2) (drop 2 bs) ≡ drop 2 text
tail_is text bs e = take_rest bs 2 ∙ ap (λ x. drop 2 x) e

pub checked-requires-clause-found : goal.checked-requires-clause-found
checked-requires-clause-found c =
    let e = tail_is c.args.text.now c.as_bytes.result.now c.as_bytes.ensures.value in
    let n = c.in-Some.len in
    block_found c.args.flags c.args.text.now n c.utf8.text c.requires.opened.0 c.requires.opened.1
    (subst (λ x. n ≤ length x) e c.in-Some.ensures.range) (subst (λ x. Closes x (drop n x)) e c.in-Some.ensures.found)

pub returns-in-None-clause-err : goal.returns-in-None-clause-err
returns-in-None-clause-err c =
    let e = tail_is c.args.text.now c.as_bytes.result.now c.as_bytes.ensures.value in
    block_dangles c.args.flags c.args.text.now c.utf8.text c.requires.opened.0 c.requires.opened.1
    (λ r h. c.in-None.ensures.none r (subst (λ x. Closes x r) (sym e) h))
