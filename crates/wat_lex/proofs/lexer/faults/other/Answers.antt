use Rattle.std.proofs.Common.{◌≡◌, ◌++◌, List, ℕ, append_assoc, ap, ◌∙◌}
use Rattle.std.specs.Prelude.{codes}
use Rattle.wat_lex.specs.errors.Messages.{escaped_char}
use Rattle.wat_lex.specs.errors.PieceTexts.{piece_text}
use Rattle.wat_lex.proofs.lexer.faults.other.Goals as goal

joined : (a b c d e f : List ℕ)
    → codes "expected '" ++ (a ++ (b ++ (c ++ (codes "' but found '" ++ (d ++ (e ++ (f ++ codes "'"))))))) ≡ (codes "expected " ++ codes "'" ++ (a ++ (b ++ c)) ++ codes "'") ++ (codes " but found " ++ codes "'" ++ (d ++ (e ++ f)) ++ codes "'")
joined a b c d e f = simp append_assoc

pub returns : goal.returns
returns c =
    let a = c.escaped_char.result in
    let b = c.escaped_char-2.result in
    joined (piece_text a.0) (piece_text a.1) (piece_text a.2) (piece_text b.0) (piece_text b.1) (piece_text b.2)
    ∙ ap (λ s. (codes "expected " ++ codes "'" ++ s ++ codes "'") ++ (codes " but found " ++ codes "'" ++ (piece_text b.0 ++ (piece_text b.1 ++ piece_text b.2)) ++ codes "'")) c.escaped_char.ensures
    ∙ ap (λ s. (codes "expected " ++ codes "'" ++ escaped_char c.args.wanted ++ codes "'") ++ (codes " but found " ++ codes "'" ++ s ++ codes "'")) c.escaped_char-2.ensures
