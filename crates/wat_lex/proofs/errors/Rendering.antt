-- The displayed form of a line, character by character.
use Rattle.std.proofs.Common.{◌≡◌, ℕ, zero, suc, ap₂, ◌+◌, ◌-◌, ◌^◌, arith, List, [], ◌∷◌, ◌++◌, refl, ap, ◌∙◌, false}
use Rattle.std.specs.Str.Lines.{lines}
use Rattle.std.specs.Prelude.{◌==◌, ◌&&◌, unwrap_or, slice_get, encode_utf8, codes, replicate, length, if◌then◌else◌}
use Rattle.std.specs.Fmt.{decimal, format_spec, styled_decimal, styled_text, padded, padded_integral, char_count, take_chars}
use Rattle.std.specs.List.{repeat}
use Rattle.std.proofs.lemmas.Bool.{ne_eqb}
use Rattle.std.proofs.lemmas.List.{append-nil}
use lib.Utf8.{encode}
use Rattle.wat_lex.specs.errors.Positions.{line_and_column}
use Rattle.wat_lex.specs.errors.Rendering.{excerpt, rendered_line, columns, align_right}

-- spaces and a text, as a hole with a width writes it
spaces : (n : ℕ) → repeat n (encode_utf8 32) ≡ replicate n 32
unfolding encode
spaces zero = refl
spaces (suc n) = ap (λ x. 32 ∷ x) (spaces n)

padded_line : (n : ℕ) → padded_integral (format_spec 32 0 0 4 (2 ^ 64 - 1)) false [] (decimal n) ≡ repeat (4 - length (decimal n) - 0 - 0) (encode_utf8 32) ++ (decimal n ++ repeat (4 - length (decimal n) - 0 - 0 - (4 - length (decimal n) - 0 - 0)) (encode_utf8 32))
unfolding padded_integral char_count
padded_line n = simp append-nil

pub styled_line : (s : _) (n : ℕ) → s ≡ format_spec 32 0 0 4 (2 ^ 64 - 1) → styled_decimal s n ≡ align_right 4 (decimal n)
styled_line s n e =
    let len = length (decimal n) in
    let missing = 4 - len - 0 - 0 in
    let k : missing ≡ 4 - len = omega arith in
    let z : missing - missing ≡ 0 = omega arith in
    ap (λ x. styled_decimal x n) e ∙ padded_line n ∙ ap (λ x. x ++ (decimal n ++ repeat (missing - missing) (encode_utf8 32))) (spaces missing ∙ ap (λ x. replicate x 32) k)
    ∙ ap (λ x. replicate (4 - len) 32 ++ (decimal n ++ repeat x (encode_utf8 32))) z ∙ ap (λ x. replicate (4 - len) 32 ++ x) (append-nil (decimal n))

marker : (column : ℕ) → styled_text (format_spec 32 3 0 column (2 ^ 64 - 1)) (codes "^") ≡ align_right column (codes "^")
unfolding padded char_count take_chars
marker zero = refl
marker (suc n) =
    let missing = suc n - 1 in
    let z : missing - missing ≡ 0 = omega arith in
    let by : styled_text (format_spec 32 3 0 (suc n) (2 ^ 64 - 1)) (codes "^") ≡ repeat missing (encode_utf8 32) ++ (94 ∷ repeat (missing - missing) (encode_utf8 32)) =
    ap (λ b. if b && (2 ^ 64 - 1 == 2 ^ 64 - 1) then codes "^" else (repeat missing (encode_utf8 32) ++ (94 ∷ repeat (missing - missing) (encode_utf8 32)))) (ne_eqb (suc n) 0 (λ q. absurd (omega (arith, q)))) in
    by ∙ ap (λ x. x ++ (94 ∷ repeat (missing - missing) (encode_utf8 32))) (spaces missing) ∙ ap (λ x. replicate missing 32 ++ (94 ∷ repeat x (encode_utf8 32))) z

pub styled_marker : (s : _) (column : ℕ) → s ≡ format_spec 32 3 0 column (2 ^ 64 - 1) → styled_text s (codes "^") ≡ align_right column (codes "^")
styled_marker s column e = ap (λ x. styled_text x (codes "^")) e ∙ marker column

pub excerpt_made : (text : List ℕ) (offset : ℕ) (at : ℕ × ℕ) (line snippet : List ℕ) (column : ℕ) → at ≡ line_and_column text offset → line ≡ unwrap_or (slice_get (lines text) at.0) [] → snippet ≡ rendered_line line
    → column ≡ columns snippet at.1 → record { line = at.0 + 1; column = column + 1; snippet = snippet } ≡ excerpt text offset
excerpt_made text offset at line snippet column a l s c =
    let whole : snippet ≡ (excerpt text offset).snippet = s ∙ ap rendered_line l ∙ ap (λ n. rendered_line (unwrap_or (slice_get (lines text) n) [])) (ap (λ p. p.0) a) in
    let wide : column ≡ columns (excerpt text offset).snippet (line_and_column text offset).1 = c ∙ ap₂ columns whole (ap (λ p. p.1) a) in
    λ i. record { line = (a i).0 + 1; column = wide i + 1; snippet = whole i }
