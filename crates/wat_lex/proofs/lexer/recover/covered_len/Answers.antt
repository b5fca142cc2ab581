use Rattle.std.proofs.Common.{◌≡◌, ℕ, Bool, false, List, length, get_or, ap, ◌∙◌, sym, subst, arith}
use Rattle.std.proofs.lemmas.Str.{length-encode}
use lib.Utf8.{encode}
use Rattle.wat_lex.specs.grammar.Classes.{is_run_char}
use Rattle.wat_lex.specs.inside.Recovered.{Covered, BeginsFault}
use Rattle.wat_lex.specs.declared.lexer.faults.LexError.TheVariants.{Unexpected}
use Rattle.wat_lex.proofs.inside.Recoveries.{refused_by, covered_by, character_covered, opening_covered, in_comment}
use Rattle.wat_lex.proofs.lexer.recover.covered_len.Goals as goal

reads : (text bs : List ℕ) (i x : ℕ) → bs ≡ text → x ≡ get_or bs i 0 → get_or text i 0 ≡ x
reads text bs i x e f = ap (λ t. get_or t i 0) (sym e) ∙ sym f

pub covered_run-requires : goal.covered_run-requires
covered_run-requires c = record {
  refused = refused_by c.args.flags c.args.text.now c.args.error c.utf8.text c.requires;
  run = ap is_run_char (reads c.args.text.now c.as_bytes.result.now 0 c.byte_at.result c.as_bytes.ensures.value c.byte_at.ensures) ∙ sym c.is_run_char.ensures ∙ c.if-is_run_char.true;
}

first_is : (text bs : List ℕ) (x : ℕ) (r : Bool) → bs ≡ text → x ≡ get_or bs 0 0 → r ≡ is_run_char x → r ≡ false → is_run_char (get_or text 0 0) ≡ false
first_is text bs x r e f g h = ap is_run_char (reads text bs 0 x e f) ∙ sym g ∙ h

pub covered_comment-requires : goal.covered_comment-requires
covered_comment-requires c =
    let first = first_is c.args.text.now c.as_bytes.result.now c.byte_at.result c.is_run_char.result c.as_bytes.ensures.value c.byte_at.ensures c.is_run_char.ensures c.if-is_run_char.false in
    (in_comment c.args.flags c.args.text.now c.args.error c.utf8.text c.requires first c.in_default.not-Unexpected c.in_default.not-DanglingBlockComment).0

pub returns-in-Unexpected : goal.returns-in-Unexpected
returns-in-Unexpected c =
    let d = c.in-Unexpected.c in
    let e = c.in-Unexpected.is in
    let n : length (encode d) ≡ c.len_utf8.result = omega (arith, length-encode d, c.len_utf8.ensures.value) in
    let made = character_covered c.args.flags c.args.text.now d c.utf8.text (subst (BeginsFault c.args.flags c.args.text.now) e c.requires) in
    subst (λ x. Covered c.args.flags c.args.text.now x c.len_utf8.result) (sym e) (subst (Covered c.args.flags c.args.text.now (Unexpected d)) n made)

pub returns-in-DanglingBlockComment : goal.returns-in-DanglingBlockComment
returns-in-DanglingBlockComment c =
    let e = c.in-DanglingBlockComment.is in
    let made = opening_covered c.args.flags c.args.text.now c.utf8.text (subst (BeginsFault c.args.flags c.args.text.now) e c.requires) in
    subst (λ x. Covered c.args.flags c.args.text.now x 2) (sym e) made

pub returns-then-is_run_char : goal.returns-then-is_run_char
returns-then-is_run_char c = covered_by c.args.flags c.args.text.now c.args.error c.covered_run.result c.requires c.covered_run.ensures

pub returns-else-is_run_char : goal.returns-else-is_run_char
returns-else-is_run_char c =
    let first = first_is c.args.text.now c.as_bytes.result.now c.byte_at.result c.is_run_char.result c.as_bytes.ensures.value c.byte_at.ensures c.is_run_char.ensures c.if-is_run_char.false in
    let there = (in_comment c.args.flags c.args.text.now c.args.error c.utf8.text c.requires first c.in_default.not-Unexpected c.in_default.not-DanglingBlockComment).1 in
    subst (λ x. Covered c.args.flags c.args.text.now x c.covered_comment.result) (sym there.1) (c.covered_comment.ensures there.0)
