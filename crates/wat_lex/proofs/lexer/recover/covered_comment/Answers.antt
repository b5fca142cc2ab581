use Rattle.std.proofs.Common.{sym, ap, ◌∙◌, subst, ◌≡◌, ℕ, List, get_or, inl, inr, refl}
use Rattle.std.specs.Prelude.{IfSome, IfNone}
use Rattle.wat_lex.specs.inside.Outlines.{BeginsWithFault}
use Rattle.wat_lex.specs.inside.ScannedLexemes.{LexemeFound}
use Rattle.wat_lex.specs.tokens.Setting.{allowing}
use Rattle.wat_lex.specs.declared.lexer.kinds.TokenKind.TheVariants.{LineComment, BlockComment}
use Rattle.wat_lex.proofs.inside.Recoveries.{comment_begun, comment_covered, comment_there}
use Rattle.wat_lex.proofs.lexer.recover.covered_comment.Goals as goal
use Rattle.wat_lex.proofs.lexer.recover.covered_comment.Goals.{then-byte_at-eq40, else-byte_at-eq40}

reads : (text bs : List ℕ) (i x : ℕ) → bs ≡ text → x ≡ get_or bs i 0 → get_or text i 0 ≡ x
reads text bs i x e f = ap (λ t. get_or t i 0) (sym e) ∙ sym f

pub block_comment_len-len-requires : goal.block_comment_len-len-requires
block_comment_len-len-requires c =
    let first = reads c.args.text.now c.as_bytes.result.now 0 c.byte_at.result c.as_bytes.ensures.value c.byte_at.ensures in
    record { opened = (first ∙ c.if-byte_at-eq40.true, (comment_begun c.args.flags c.args.text.now c.utf8.text c.requires).1) }

pub line_comment_len-len-requires : goal.line_comment_len-len-requires
line_comment_len-len-requires c =
    let first = reads c.args.text.now c.as_bytes.result.now 0 c.byte_at.result c.as_bytes.ensures.value c.byte_at.ensures in
    let begun = comment_begun c.args.flags c.args.text.now c.utf8.text c.requires in
    record { begun = (elim begun.0 [ inl e ↦ absurd (c.if-byte_at-eq40.false (sym first ∙ e)) | inr e ↦ e ], begun.1) }

pub unreachable-requires : goal.unreachable-requires
unreachable-requires c =
    elim c.if-byte_at-eq40.branch [
      | then-byte_at-eq40 w ↦ comment_there c.args.flags c.args.text.now c.requires (subst (λ x. IfNone x (BeginsWithFault (allowing c.args.flags) c.args.text.now)) (sym w.len-is ∙ c.in-None.is) w.block_comment_len-len.ensures.none)
      | else-byte_at-eq40 w ↦ comment_there c.args.flags c.args.text.now c.requires (subst (λ x. IfNone x (BeginsWithFault (allowing c.args.flags) c.args.text.now)) (sym w.len-is ∙ c.in-None.is) w.line_comment_len-len.ensures.none)
    ]

pub returns : goal.returns
returns c = λ d.
    elim c.if-byte_at-eq40.branch [
      | then-byte_at-eq40 w ↦ comment_covered c.args.flags c.args.text.now BlockComment c.in-Some.len d c.utf8.text (inr refl) (subst (λ x. IfSome x (λ n. LexemeFound (allowing c.args.flags) c.args.text.now (record { kind = BlockComment; len = n }))) (sym w.len-is ∙ c.in-Some.is) w.block_comment_len-len.ensures.some)
      | else-byte_at-eq40 w ↦ comment_covered c.args.flags c.args.text.now LineComment c.in-Some.len d c.utf8.text (inl refl) (subst (λ x. IfSome x (λ n. LexemeFound (allowing c.args.flags) c.args.text.now (record { kind = LineComment; len = n }))) (sym w.len-is ∙ c.in-Some.is) w.line_comment_len-len.ensures.some)
    ]
