-- Whether bytes are UTF-8.
use Rattle.std.proofs.Common.{◌≡◌, ℕ, Bool, true, false, List, refl, sym}
use Rattle.std.specs.Str.{IsUtf8, is_utf8}
use Rattle.std.proofs.lemmas.Str.{IsUtf8-from_is_utf8, is_utf8-from_IsUtf8}

pub utf8_yes : (bs : List ℕ) → IsUtf8 bs → true ≡ is_utf8 bs
utf8_yes bs h = sym (is_utf8-from_IsUtf8 bs h)

by_utf8 : (bs : List ℕ) (b : Bool) → is_utf8 bs ≡ b → ¬ (IsUtf8 bs) → false ≡ b
by_utf8 bs true e h = absurd (h (IsUtf8-from_is_utf8 bs e))
by_utf8 bs false e h = refl

pub utf8_no : (bs : List ℕ) → ¬ (IsUtf8 bs) → false ≡ is_utf8 bs
utf8_no bs h = by_utf8 bs (is_utf8 bs) refl h
