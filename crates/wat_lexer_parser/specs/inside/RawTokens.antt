-- The raw tokens of a text and their ending, as functions of the text. By the theorem of unique tilings there are no
-- others, so contracts need only the relation. Not part of the standard.
use Rattle.std.specs.Prelude.{◌≡◌, refl, Bool, true, false, List, [], Option, None}
use Rattle.std.specs.Str.{is_utf8}
use Rattle.std.proofs.lemmas.Str.{IsUtf8-from_is_utf8, IsCharBoundary-start}
use Rattle.wat_lex.specs.tokens.Setting.{Setting}
use Rattle.wat_lex.specs.declared.lexer.faults.LexFault.{LexFault}
use Rattle.wat_lex.specs.declared.lexer.kinds.Token.{Token}
use Rattle.wat_lex.proofs.lemmas.Tokens.{some_tiling}

pub record Raws : Type 0 where
  pub tokens : List Token
  pub ending : Option LexFault

unfoldable pub raws_by : (s : Setting) (b : Bool) → is_utf8 s.text ≡ b → Raws
raws_by s true e =
    let utf8 = IsUtf8-from_is_utf8 s.text e in
    let k = some_tiling s 0 utf8 (IsCharBoundary-start s.text utf8) in
    record { tokens = k.0; ending = k.1 }
raws_by s false e = record { tokens = []; ending = None }

-- The raw tokens of a text; none if its bytes are not UTF-8.
unfoldable pub raws : Setting → Raws
raws s = raws_by s (is_utf8 s.text) refl
