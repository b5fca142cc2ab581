use Rattle.std.proofs.Common.{◌≡◌, ◌-◌, ℕ, List, length, take, drop, subst, ap, sym, ◌∙◌}
use Rattle.std.proofs.lemmas.List.{take_rest}
use Rattle.std.proofs.lemmas.Str.{IsUtf8-drop}
use Rattle.wat_lex.specs.inside.Outlines.{FoundIn, IdcharsOnly, Outlined}
use Rattle.wat_lex.proofs.inside.Outlines.{idchars_there}
use Rattle.wat_lex.proofs.lexer.scan.scan_run.Goals as goal

rest_is : (text bs : List ℕ) (n : ℕ) → bs ≡ text → take (length bs - n) (drop n bs) ≡ drop n text
rest_is text bs n e = take_rest bs n ∙ ap (drop n) e

pub returns-in-Some : goal.returns-in-Some
returns-in-Some c =
    let text = c.args.text.now in
    let there = subst (λ x. IdcharsOnly x c.in-Some.lexeme) (rest_is text c.as_bytes.result.now c.args.pos c.as_bytes.ensures.value) c.in-Some.ensures in
    idchars_there c.args.flags.now (drop c.args.pos text) c.in-Some.lexeme.kind c.in-Some.lexeme.len (IsUtf8-drop text c.args.pos c.utf8.text c.requires.boundary) c.requires.some c.requires.run there.len there.ends there.kind

pub returns-in-None : goal.returns-in-None
returns-in-None c =
    let flags = c.args.flags.now in
    let e = c.range_from.ensures.value in
    let f = c.range_from-in-None.ensures.value in
    subst (λ x. FoundIn flags x c.classify_outline.result) e (c.classify_outline.ensures flags (subst (λ x. Outlined flags x c.run_outline.result) (f ∙ sym e) c.run_outline.ensures))
