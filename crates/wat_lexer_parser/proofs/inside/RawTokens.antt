-- The function `raws` gives the raw tokens of a text.
use Rattle.std.proofs.Common.{◌≡◌, Bool, true, false, refl}
use Rattle.std.specs.Str.{IsUtf8, is_utf8}
use Rattle.std.proofs.lemmas.Bool.{false≢true}
use Rattle.std.proofs.lemmas.Str.{IsUtf8-from_is_utf8, is_utf8-from_IsUtf8, IsCharBoundary-start}
use Rattle.wat_lex.specs.tokens.Setting.{Setting}
use Rattle.wat_lex.specs.tokens.Tiling.{MaximalTiling}
use Rattle.wat_lex.proofs.lemmas.Tokens.{some_tiling}
use Rattle.wat_lexer_parser.specs.inside.RawTokens.{raws, raws_by}

raws_by_are : (s : Setting) (b : Bool) (e : is_utf8 s.text ≡ b) → b ≡ true → MaximalTiling s 0 (raws_by s b e).tokens (raws_by s b e).ending
unfolding raws_by
raws_by_are s true e h =
    let utf8 = IsUtf8-from_is_utf8 s.text e in
    (some_tiling s 0 utf8 (IsCharBoundary-start s.text utf8)).2
raws_by_are s false e h = absurd (false≢true h)

pub raws_are : (s : Setting) → IsUtf8 s.text → MaximalTiling s 0 (raws s).tokens (raws s).ending
unfolding raws
raws_are s utf8 = raws_by_are s (is_utf8 s.text) refl (is_utf8-from_IsUtf8 s.text utf8)
