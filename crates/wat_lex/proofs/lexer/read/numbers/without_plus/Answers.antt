use Rattle.std.proofs.Common.{arith, ap, sym, ◌∙◌, ◌<◌, ℕ, List, [], ◌∷◌, length, get_or, ◌≡◌}
use Rattle.std.proofs.lemmas.Str.{IsCharBoundary-after_ascii}
use Rattle.wat_lex.proofs.lexer.read.numbers.without_plus.Goals as goal

some : (s t : List ℕ) → s ≡ t → get_or s 0 0 ≡ 43 → 0 < length t
some [] t e h = cc
some (c ∷ s) t e h = omega (arith, ap length e)

pub range_from-requires : goal.range_from-requires
range_from-requires c =
    let e = c.as_bytes-bytes.ensures.value in
    let g : get_or c.args.word.now 0 0 ≡ 43 = ap (λ x. get_or x 0 0) (sym e) ∙ c.if-bytes-ne43.false in
    λ _. IsCharBoundary-after_ascii c.args.word.now 0 c.utf8.word (some c.as_bytes-bytes.result.now c.args.word.now e c.if-bytes-ne43.false) (omega (arith, g))
