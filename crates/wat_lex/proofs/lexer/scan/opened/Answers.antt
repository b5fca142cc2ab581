use Rattle.std.proofs.Common.{◌≡◌, ◌-◌, ℕ, List, length, take, drop, ap, ◌∙◌, get_or, sym, subst}
use Rattle.std.proofs.lemmas.List.{take_rest}
use Rattle.std.proofs.lemmas.Str.{IsUtf8-drop}
use Rattle.wat_lex.specs.inside.ScannedLexemes.{ClosesPlainly}
use Rattle.wat_lex.proofs.inside.LineComments.{found_open}
use Rattle.wat_lex.proofs.inside.ShortComments.{short_found}
use Rattle.wat_lex.proofs.lexer.scan.opened.Goals as goal

rest_is : (text bs : List ℕ) (n : ℕ) → bs ≡ text → take (length bs - n) (drop n bs) ≡ drop n text
rest_is text bs n e = take_rest bs n ∙ ap (drop n) e

pub block_comment_len-requires : goal.block_comment_len-requires
block_comment_len-requires c =
    let cut = c.range_from.ensures.value in
    let rest = rest_is c.args.text.now c.as_bytes.result.now c.args.pos c.as_bytes.ensures.value in
    record { opened = (ap (λ t. get_or t 0 0) cut ∙ c.requires.first, ap (λ t. get_or t 1 0) (cut ∙ sym rest) ∙ sym c.byte_at.ensures ∙ c.if-byte_at-ne59.false) }

pub returns-then-byte_at-ne59 : goal.returns-then-byte_at-ne59
returns-then-byte_at-ne59 c =
    let text = c.args.text.now in
    let rest = rest_is text c.as_bytes.result.now c.args.pos c.as_bytes.ensures.value in
    rw c.lexeme.ensures (found_open c.args.flags.now (drop c.args.pos text) (IsUtf8-drop text c.args.pos c.utf8.text c.requires.boundary) c.requires.some c.requires.first
    (λ k. c.if-byte_at-ne59.true (c.byte_at.ensures ∙ ap (λ t. get_or t 1 0) rest ∙ k)))

pub returns-in-Some : goal.returns-in-Some
returns-in-Some c =
    let text = c.args.text.now in
    let rest = drop c.args.pos text in
    let cut = rest_is text c.as_bytes.result.now c.args.pos c.as_bytes.ensures.value in
    let second : get_or rest 1 0 ≡ 59 = ap (λ t. get_or t 1 0) (sym cut) ∙ sym c.byte_at.ensures ∙ c.if-byte_at-ne59.false in
    rw c.lexeme-in-Some.ensures
    (short_found c.args.flags.now rest c.in-Some.len (IsUtf8-drop text c.args.pos c.utf8.text c.requires.boundary) c.requires.first second (subst (λ t. ClosesPlainly t c.in-Some.len) cut c.in-Some.ensures))
