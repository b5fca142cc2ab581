use Rattle.std.proofs.Common.{sym, ◌∙◌, ◌≡◌, ap, ℕ, List, get_or}
use Rattle.wat_lex.specs.grammar.Classes.{is_run_char}
use Rattle.wat_lex.proofs.inside.Outlines.{word_no_fault, run_no_fault, refused_some, refused_other}
use Rattle.wat_lex.proofs.lexer.scan.fault_at_start.Goals as goal
use Rattle.wat_lex.proofs.lexer.scan.fault_at_start.Goals.{else-first-eq40-via-then-first-eq40+else-second-eq59, else-first-eq40-via-else-first-eq40, else-first-eq59-via-then-first-eq59+else-second-eq59-2, else-first-eq59-via-else-first-eq59}

reads : (text bs : List ℕ) (i x : ℕ) → bs ≡ text → x ≡ get_or bs i 0 → get_or text i 0 ≡ x
reads text bs i x e f = ap (λ t. get_or t i 0) (sym e) ∙ sym f

pub unreachable-requires : goal.unreachable-requires
unreachable-requires c =
    run_no_fault c.args.flags c.args.text.now c.in-Ok.field-0 c.utf8.text (refused_some c.args.flags c.args.text.now c.requires)
    (ap is_run_char (reads c.args.text.now c.as_bytes-bytes.result.now 0 c.byte_at-first.result c.as_bytes-bytes.ensures.value c.byte_at-first.ensures) ∙ sym c.is_run_char.ensures ∙ c.if-is_run_char.true)
    c.in-Ok.ensures.ok c.requires

pub unreachable-requires-in-Ok-block_comment : goal.unreachable-requires-in-Ok-block_comment
unreachable-requires-in-Ok-block_comment c = word_no_fault c.args.flags c.args.text.now _ c.in-Ok-block_comment.ensures.ok c.requires

pub unreachable-requires-in-Ok-line_comment : goal.unreachable-requires-in-Ok-line_comment
unreachable-requires-in-Ok-line_comment c = word_no_fault c.args.flags c.args.text.now _ c.in-Ok-line_comment.ensures.ok c.requires

pub unexpected-requires-clause-first : goal.unexpected-requires-clause-first
unexpected-requires-clause-first c = refused_some c.args.flags c.args.text.now c.requires

pub unexpected-requires-clause-no_word : goal.unexpected-requires-clause-no_word
unexpected-requires-clause-no_word c =
    let first = reads c.args.text.now c.as_bytes-bytes.result.now 0 c.byte_at-first.result c.as_bytes-bytes.ensures.value c.byte_at-first.ensures in
    let second = reads c.args.text.now c.as_bytes-bytes.result.now 1 c.byte_at-second.result c.as_bytes-bytes.ensures.value c.byte_at-second.ensures in
    refused_other c.args.flags c.args.text.now c.utf8.text (ap is_run_char first ∙ sym c.is_run_char.ensures ∙ c.if-is_run_char.false)
    (λ p. elim c.else-first-eq40.branch [
      | else-first-eq40-via-then-first-eq40+else-second-eq59 w ↦ w.if-second-eq59.false (sym second ∙ p.1)
      | else-first-eq40-via-else-first-eq40 w ↦ w.if-first-eq40.false (sym first ∙ p.0)
    ])
    (λ p. elim c.else-first-eq59.branch [
      | else-first-eq59-via-then-first-eq59+else-second-eq59-2 w ↦ w.if-second-eq59-2.false (sym second ∙ p.1)
      | else-first-eq59-via-else-first-eq59 w ↦ w.if-first-eq59.false (sym first ∙ p.0)
    ])
    c.requires
