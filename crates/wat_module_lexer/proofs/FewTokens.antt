-- A text has no more tokens than bytes.
use Rattle.std.proofs.Common.{◌+◌, ◌≤◌, ℕ, List, [], ◌∷◌, length, arith}
use Rattle.std.specs.Str.{IsUtf8}
use Rattle.std.proofs.lemmas.Str.{IsCharBoundary-start}
use Rattle.wat_lex.proofs.lemmas.Tokens.{tiling_ends_at_boundary, token_is_not_empty}
use Rattle.wat_lex.specs.declared.lexer.kinds.Token.{Token}
use Rattle.wat_lex.specs.tokens.Setting.{Setting}
use Rattle.wat_lex.specs.tokens.Tiling.{Tiling}
use Rattle.wat_lexer_parser.specs.places.Source.{Source, IsRead}

few : (s : Setting) (from to : ℕ) (ts : List Token) → Tiling s from to ts → from + length ts ≤ to
few s from to [] h = omega (arith, h)
few s from to (t ∷ ts) h =
    let k = few s (t.offset + t.len) to ts h.1 in
    let o = h.0.offset in
    let l = token_is_not_empty s from t h.0 in
    omega (arith, k, o, l)

pub few_tokens : (s : Source) → IsUtf8 s.setting.text → IsRead s → length s.tokens ≤ length s.setting.text
few_tokens s u h =
    let k = few s.setting 0 h.to s.tokens h.tiling in
    let b = (tiling_ends_at_boundary s.setting 0 h.to s.tokens u (IsCharBoundary-start s.setting.text u) h.tiling).0 in
    omega (arith, k, b)
