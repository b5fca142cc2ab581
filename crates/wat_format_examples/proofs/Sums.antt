-- A sum moves: its terms have no spans.
use Rattle.std.proofs.Common.{pos, [], ◌∷◌, arith, false, refl}
use Rattle.std.specs.Prelude.{codes, neg_ℤ}
use Rattle.wat_format_theorems.specs.Reads.{MovesReading}
use Rattle.wat_format_theorems.specs.lemmas.Moving.{moves_and_then, moves_fewer, moves_group, moves_mapped, moves_one_of}
use Rattle.wat_format_theorems.specs.lemmas.Seeing.{ShownLaws, moves_integer, moves_more, moves_open, moves_sight_of}
use Rattle.wat_format_theorems.specs.lemmas.Types.{moves_all, moves_keyword_at, moves_u32, span_moved, stays}
use Rattle.wat_lexer_parser.specs.parser.Sights.{sight_of}
use Rattle.wat_lexer_parser.specs.parser.Takers.{as_integer, as_open}
use Rattle.wat_lexer_parser.specs.readings.Choices.{choice}
use Rattle.wat_lexer_parser.specs.readings.Readings.{and_then, group, mapped, while_seen, more_comes}
use Rattle.wat_lexer_parser.specs.readings.Types.{keyword, u32}
use Rattle.example_sums.specs.Sums.{negative, sum, term}

moves_negative : ShownLaws → MovesReading 2 stays negative.reading
unfolding negative
moves_negative laws =
    moves_and_then span_moved stays 1 1 (keyword false (codes "neg")) (λ at. mapped (λ n. neg_ℤ (pos n)) u32) (moves_keyword_at laws false (codes "neg")) (λ s ts v h. moves_mapped stays stays (λ n. neg_ℤ (pos n)) 1 u32 (λ move n. refl) (moves_u32 laws) s ts h)

moves_term : ShownLaws → MovesReading 1 stays term.reading
unfolding term
moves_term laws =
    moves_one_of laws 1 stays (choice (sight_of as_integer) (codes "u32") (mapped pos u32) ∷ choice (sight_of as_open) (codes "left paren") (group negative.reading) ∷ []) (
      moves_sight_of laws stays as_integer moves_integer,
      moves_mapped stays stays pos 1 u32 (λ move n. refl) (moves_u32 laws),
      (moves_sight_of laws stays as_open moves_open, moves_fewer stays 4 1 (group negative.reading) (omega arith) (moves_group laws 2 stays negative.reading (moves_negative laws)), tt),
    )

pub moves_sum : ShownLaws → MovesReading 3 stays sum.reading
unfolding sum
moves_sum laws =
    let terms = while_seen more_comes term.reading in
    moves_group laws 1 stays (and_then (keyword false (codes "sum")) (λ at. terms)) (moves_and_then span_moved stays 1 0 (keyword false (codes "sum")) (λ at. terms) (moves_keyword_at laws false (codes "sum")) (λ s ts v h. moves_all more_comes term.reading (moves_more laws) (moves_term laws) s ts h))
