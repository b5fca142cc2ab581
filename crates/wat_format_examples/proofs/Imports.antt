-- An import list moves: only the identifiers of its entries have spans.
use Rattle.std.proofs.Common.{ℕ, List, [], ◌∷◌, arith, false, refl}
use Rattle.std.specs.Prelude.{Option, codes}
use Rattle.std.specs.Option.{option_map}
use Rattle.wat_format_examples.specs.Formats.{entry_moved, imports_moved}
use Rattle.wat_format_theorems.specs.Reads.{MovesReading, OutcomeMoved}
use Rattle.wat_format_theorems.specs.Sides.{Sides, Alike, passed}
use Rattle.wat_format_theorems.specs.lemmas.Moving.{moved_and_then, moved_mapped, moves_and_then, moves_fewer, moves_group, moves_mapped, moves_one_of, moves_optional, moves_while}
use Rattle.wat_format_theorems.specs.lemmas.Seeing.{ShownLaws, moves_id, moves_keyword, moves_more, moves_sight_of, moves_word}
use Rattle.wat_format_theorems.specs.lemmas.Types.{moves_identifier, moves_keyword_at, moves_optional_name, moves_text, moves_u32, span_moved, spelled_moved, stays}
use Rattle.example_imports.specs.Imports.{Read, entry_after_strings, entry_after_id, entry_body, entry, imports, inner, kind, list}
use Rattle.example_imports.specs.declared.Kind.{Kind}
use Rattle.example_imports.specs.declared.Kind.TheVariants.{Code, Pages}
use Rattle.wat_lex.specs.declared.lexer.kinds.Token.{Token}
use Rattle.wat_lexer_parser.specs.parser.Takers.{as_id, as_keyword}
use Rattle.wat_lexer_parser.specs.readings.Choices.{choice}
use Rattle.wat_lexer_parser.specs.readings.Readings.{and_then, mapped, optional, while_seen, more_comes}
use Rattle.wat_lexer_parser.specs.readings.Types.{Spelled, an_identifier, identifier, keyword, optional_name, sees_word, text, u32}
use Rattle.wat_words.specs.Words.{quoted}

-- An integer after a keyword.
moves_numbered : ShownLaws → (w : List ℕ) (of : ℕ → Kind) → MovesReading 2 stays (and_then (keyword false w) (λ at. mapped of u32))
moves_numbered laws w of = moves_and_then span_moved stays 1 1 (keyword false w) (λ at. mapped of u32) (moves_keyword_at laws false w) (λ s ts v h. moves_mapped stays stays of 1 u32 (λ move n. refl) (moves_u32 laws) s ts h)

moves_kind : ShownLaws → MovesReading 2 stays kind.reading
unfolding kind
moves_kind laws =
    let code = and_then (keyword false (codes "code")) (λ at. mapped Code u32) in
    let pages = and_then (keyword false (codes "pages")) (λ at. mapped Pages u32) in
    moves_one_of laws 2 stays (choice (sees_word as_keyword (codes "code")) (quoted false (codes "code")) code ∷ choice (sees_word as_keyword (codes "pages")) (quoted false (codes "pages")) pages ∷ [])
    (moves_word laws as_keyword (codes "code") moves_keyword, moves_numbered laws (codes "code") Code, (moves_word laws as_keyword (codes "pages") moves_keyword, moves_numbered laws (codes "pages") Pages, tt))

-- with the identifier that was read before, moved
described_moves : ShownLaws → (p f : List ℕ) (s : Sides) (ts : List Token) (i : Option Spelled) → Alike s ts → OutcomeMoved (entry_moved s.move) 2 s ts ((entry_after_id p f i).reading s.here) ((entry_after_id p f (option_map (spelled_moved s.move) i)).reading s.there)
unfolding entry_after_id
described_moves laws p f s ts i h =
    let here : Kind → Option (List ℕ) → Read = λ k n. record { place = p; field = f; id = i; kind = k; name = n } in
    let there : Kind → Option (List ℕ) → Read = λ k n. record { place = p; field = f; id = option_map (spelled_moved s.move) i; kind = k; name = n } in
    let o = kind.reading s.here in
    let q = kind.reading s.there in
    let t = passed s o.passed q.passed in
    moved_and_then (λ k. k) (entry_moved s.move) 2 0 s ts o q (λ k. mapped (here k) optional_name) (λ k. mapped (there k) optional_name) (moves_kind laws s ts h)
    (λ k r alike few. moved_mapped (λ n. n) (entry_moved s.move) (here k) (there k) 0 t r (optional_name t.here) (optional_name t.there) (λ n. refl) (moves_optional_name laws t r alike))

moves_called : ShownLaws → (p f : List ℕ) → MovesReading 2 entry_moved (entry_after_strings p f).reading
unfolding entry_after_strings
moves_called laws p f = moves_and_then (λ move. option_map (spelled_moved move)) entry_moved 0 2 (optional an_identifier identifier) (λ i. (entry_after_id p f i).reading) (moves_optional spelled_moved 1 an_identifier identifier (moves_sight_of laws stays as_id moves_id) (moves_identifier laws))
    (λ s ts i h. described_moves laws p f s ts i h)

moves_details : ShownLaws → MovesReading 4 entry_moved entry_body.reading
unfolding entry_body
moves_details laws = moves_and_then stays entry_moved 1 3 text (λ p. and_then text (λ f. (entry_after_strings p f).reading)) (moves_text laws) (λ s ts p h. moves_and_then stays entry_moved 1 2 text (λ f. (entry_after_strings p f).reading) (moves_text laws) (λ s ts f h. moves_called laws p f s ts h) s ts h)

moves_inner : ShownLaws → MovesReading 5 entry_moved inner.reading
unfolding inner
moves_inner laws = moves_and_then span_moved entry_moved 1 4 (keyword false (codes "entry")) (λ at. entry_body.reading) (moves_keyword_at laws false (codes "entry")) (λ s ts v h. moves_details laws s ts h)

moves_entry : ShownLaws → MovesReading 1 entry_moved entry.reading
moves_entry laws = moves_fewer entry_moved 7 1 entry.reading (omega arith) (moves_group laws 5 entry_moved inner.reading (moves_inner laws))

moves_list : ShownLaws → MovesReading 1 imports_moved list.reading
unfolding list
moves_list laws =
    let entries = while_seen more_comes entry.reading in
    moves_and_then span_moved imports_moved 1 0 (keyword false (codes "imports")) (λ at. entries) (moves_keyword_at laws false (codes "imports")) (λ s ts v h. moves_while entry_moved more_comes entry.reading (moves_more laws) (moves_entry laws) s ts h)

pub moves_imports : ShownLaws → MovesReading 3 imports_moved imports.reading
moves_imports laws = moves_group laws 1 imports_moved list.reading (moves_list laws)
