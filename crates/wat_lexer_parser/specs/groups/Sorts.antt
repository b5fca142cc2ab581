-- Custom annotations proposal (lexical format, annotations): the tokens of an annotation are balanced. Groups in
-- parentheses, over raw tokens.
use Rattle.std.specs.Prelude.{◌≡◌, Bool, true, false, ◌||◌, IsFalse, List, [], ◌∷◌, ◌++◌}
use Rattle.wat_lexer_parser.specs.places.Source.{Token, TokenKind, LParen, RParen}

abbrev pub is_open : TokenKind → Bool
is_open LParen = true
is_open kind = false

abbrev pub is_close : TokenKind → Bool
is_close RParen = true
is_close kind = false

-- In these tokens each parenthesis is matched.
pub data Balanced : List Token → Type 0 where
  nothing : Balanced []
  plain : {t : Token} {b : List Token} → IsFalse (is_open t.kind || is_close t.kind) → Balanced b → Balanced (t ∷ b)
  group : (o c : Token) {a b s : List Token} → o.kind ≡ LParen → Balanced a → c.kind ≡ RParen → Balanced b → s ≡ (o ∷ a) ++ (c ∷ b) → Balanced s

-- `Group s r`: `s` is a list of balanced tokens, a closing parenthesis, and the rest `r`. The opening parenthesis is
-- before `s`.
pub record Group (s r : List Token) : Type 0 where
  pub within : List Token
  pub last : Token
  pub balanced : Balanced within
  pub closes : last.kind ≡ RParen
  pub cut : s ≡ within ++ (last ∷ r)

-- No group ends in the tokens `s`: the group that is open before them is not closed.
abbrev pub NoGroup : List Token → Type 0
NoGroup s = (r : List Token) → Group s r → ⊥
