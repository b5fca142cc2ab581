-- Lemmas about a text whose characters are replaced, each by another one.
use Rattle.std.proofs.Common.{◌≡◌, ℕ, List, [], ◌++◌, length, map, ap, ◌∙◌}
use Rattle.std.specs.Prelude.{encode_utf8, encode_utf8_all}
use Rattle.std.specs.Str.{IsUtf8, chars}
use Rattle.std.proofs.lemmas.List.{nil_from_length}
use Rattle.std.proofs.lemmas.Str.{chars-nil, chars_past_char}

abbrev pub by_char : (ℕ → ℕ) → List ℕ → List ℕ
by_char f text = encode_utf8_all (map f (chars text))

pub by_char_step : (f : ℕ → ℕ) (text rest : List ℕ) (c : ℕ) → IsUtf8 text → text ≡ encode_utf8 c ++ rest → by_char f text ≡ encode_utf8 (f c) ++ by_char f rest
by_char_step f text rest c u e = ap (λ cs. encode_utf8_all (map f cs)) (chars_past_char text rest c u e)

pub by_char_end : (f : ℕ → ℕ) (text : List ℕ) → length text ≡ 0 → by_char f text ≡ []
by_char_end f text e = ap (λ cs. encode_utf8_all (map f cs)) (ap chars (nil_from_length text e) ∙ chars-nil)
