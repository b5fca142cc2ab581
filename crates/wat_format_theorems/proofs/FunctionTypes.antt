-- The reading of the function types of a module is independent of the start offset, as they have no spans. So a
-- formatted text has the same function types.
use Rattle.std.proofs.Common.{ℕ, List, [], ◌∷◌, arith, false, refl, Some, None}
use Rattle.std.specs.Prelude.{Option}
use Rattle.std.specs.Option.{option_map}
use Rattle.wat_format_theorems.specs.Reads.{MovesReading, MovesSight, OutcomeMoved}
use Rattle.wat_format_theorems.specs.Sides.{Sides, Alike}
use Rattle.wat_format_theorems.specs.lemmas.Moving.{moves_allocated, moves_and_then, moves_fewer, moves_group, moves_mapped, moves_one_of, moves_optional}
use Rattle.wat_format_theorems.specs.lemmas.Seeing.{ShownLaws, moves_id, moves_keyword, moves_more, moves_second, moves_sight_of, moves_word}
use Rattle.wat_format_theorems.specs.lemmas.Types.{moves_all, moves_identifier, moves_joined, moves_keyword_at, span_moved, spelled_moved, stays}
use Rattle.wat_lex.specs.declared.lexer.kinds.Token.{Token}
use Rattle.wat_lexer_parser.specs.parser.Sights.{second}
use Rattle.wat_lexer_parser.specs.parser.Takers.{as_id, as_keyword}
use Rattle.wat_lexer_parser.specs.readings.Readings.{Reading, allocated, and_then, group, mapped, more_comes}
use Rattle.wat_lexer_parser.specs.readings.Types.{Spelled, an_identifier, identifier}
use Rattle.wat_types.specs.Meanings.{definition, definitions, f32_word, f64_word, fields, func, func_word, i32_word, i64_word, kw, module_types, module_word, name, named_or_all, number_types, param, param_word, params, result_word, results, returns, sees, type_word, val, vals}
use Rattle.wat_types.specs.Signatures.{Signature}
use Rattle.wat_types.specs.declared.types.ValType.{ValType}
use Rattle.wat_types.specs.declared.types.ValType.TheVariants.{I32, I64, F32, F64}

moves_number : ShownLaws → (v : ValType) (word : List ℕ) → MovesReading 1 stays (mapped (λ at. v) (kw word))
moves_number laws v word = moves_mapped span_moved stays (λ at. v) 1 (kw word) (λ move at. refl) (moves_keyword_at laws false word)

moves_seen : ShownLaws → (word : List ℕ) → MovesSight (sees word)
moves_seen laws word = moves_word laws as_keyword word moves_keyword

moves_val : ShownLaws → MovesReading 1 stays val
unfolding val
moves_val laws =
    moves_one_of laws 1 stays number_types
    (moves_seen laws i32_word, moves_number laws I32 i32_word, (moves_seen laws i64_word, moves_number laws I64 i64_word, (moves_seen laws f32_word, moves_number laws F32 f32_word, (moves_seen laws f64_word, moves_number laws F64 f64_word, tt))))

moves_vals : ShownLaws → MovesReading 0 stays vals
moves_vals laws = moves_all more_comes val (moves_more laws) (moves_val laws)

moves_name : ShownLaws → MovesReading 0 (λ move. option_map (spelled_moved move)) name
moves_name laws = moves_optional spelled_moved 1 an_identifier identifier (moves_sight_of laws stays as_id moves_id) (moves_identifier laws)

one_val : ShownLaws → MovesReading 1 stays (allocated (mapped (λ v. v ∷ []) val))
one_val laws = moves_allocated stays 1 (mapped (λ v. v ∷ []) val) (moves_mapped stays stays (λ v. v ∷ []) 1 val (λ move v. refl) (moves_val laws))

named_or_all_moves : ShownLaws → (s : Sides) (ts : List Token) (i : Option Spelled) → Alike s ts → OutcomeMoved (λ vs. vs) 0 s ts (named_or_all i s.here) (named_or_all (option_map (spelled_moved s.move) i) s.there)
named_or_all_moves laws s ts (Some i) h = moves_fewer stays 1 0 (allocated (mapped (λ v. v ∷ []) val)) (omega arith) (one_val laws) s ts h
named_or_all_moves laws s ts None h = moves_vals laws s ts h

moves_param : ShownLaws → MovesReading 1 stays param
unfolding param
moves_param laws =
    moves_and_then span_moved stays 1 0 (kw param_word) (λ at. and_then name named_or_all) (moves_keyword_at laws false param_word)
    (λ s ts v h. moves_and_then (λ move. option_map (spelled_moved move)) stays 0 0 name named_or_all (moves_name laws) (named_or_all_moves laws) s ts h)

moves_returns : ShownLaws → MovesReading 1 stays returns
unfolding returns
moves_returns laws = moves_and_then span_moved stays 1 0 (kw result_word) (λ at. vals) (moves_keyword_at laws false result_word) (λ s ts v h. moves_vals laws s ts h)

moves_params : ShownLaws → MovesReading 0 stays params
moves_params laws = moves_joined (second (sees param_word)) (group param) (moves_second laws (sees param_word) (moves_seen laws param_word)) (moves_fewer stays 3 1 (group param) (omega arith) (moves_group laws 1 stays param (moves_param laws)))

moves_results : ShownLaws → MovesReading 0 stays results
moves_results laws = moves_joined more_comes (group returns) (moves_more laws) (moves_fewer stays 3 1 (group returns) (omega arith) (moves_group laws 1 stays returns (moves_returns laws)))

moves_func : ShownLaws → MovesReading 1 stays func
unfolding func
moves_func laws =
    let after : List ValType → Reading Signature = λ ps. mapped (λ rs. record { params = ps; results = rs }) results in
    moves_and_then span_moved stays 1 0 (kw func_word) (λ at. and_then params after) (moves_keyword_at laws false func_word)
    (λ s ts v h. moves_and_then stays stays 0 0 params after (moves_params laws) (λ s ts ps h. moves_mapped stays stays (λ rs. record { params = ps; results = rs }) 0 results (λ move rs. refl) (moves_results laws) s ts h) s ts h)

moves_definition : ShownLaws → MovesReading 4 stays definition
unfolding definition
moves_definition laws =
    moves_and_then span_moved stays 1 3 (kw type_word) (λ at. and_then name (λ n. group func)) (moves_keyword_at laws false type_word)
    (λ s ts v h. moves_and_then (λ move. option_map (spelled_moved move)) stays 0 3 name (λ n. group func) (moves_name laws) (λ s ts n h. moves_group laws 1 stays func (moves_func laws) s ts h) s ts h)

moves_fields : ShownLaws → MovesReading 1 stays fields
unfolding fields
moves_fields laws =
    moves_and_then span_moved stays 1 0 (kw module_word) (λ at. definitions) (moves_keyword_at laws false module_word)
    (λ s ts v h. moves_all more_comes (group definition) (moves_more laws) (moves_fewer stays 6 1 (group definition) (omega arith) (moves_group laws 4 stays definition (moves_definition laws))) s ts h)

pub moves_module : ShownLaws → MovesReading 3 stays module_types
moves_module laws = moves_group laws 1 stays fields (moves_fields laws)
