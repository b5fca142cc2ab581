-- A parser of a text, and a parser of another text with the same tokens at other offsets. They are not part of the
-- standard.
use Rattle.std.specs.Prelude.{◌≡◌, ◌+◌, ℕ, List, [], ◌∷◌, drop, length, slice_get, Some, None}
use Rattle.std.specs.Option.{option_map}
use Rattle.std.specs.Str.{IsUtf8}
use Rattle.wat_lex.specs.errors.Errors.{Report}
use Rattle.wat_lex.specs.errors.Rendering.{excerpt}
use Rattle.wat_lex.specs.tokens.ReadableTokens.{token_text}
use Rattle.wat_lex.specs.declared.lexer.kinds.Token.{Token}
use Rattle.wat_lex.specs.declared.lexer.kinds.TokenKind.TheVariants.{LParen}
use Rattle.wat_lex.specs.tokens.Blanks.{is_marked}
use Rattle.wat_lexer_parser.specs.parser.State.{State, at_place}
use Rattle.wat_lexer_parser.specs.places.Places.{offset_at}
use Rattle.wat_lexer_parser.specs.places.Source.{Source, IsRead}
use Rattle.wat_lexer_parser.specs.readings.Readings.{on}
use Rattle.wat_lexer_parser.specs.laws.Counting.{counting}
use Rattle.wat_format_theorems.specs.Moved.{token_moved}

module _ (x y : List ℕ) (move : ℕ → ℕ) where
  -- `Same t u`: `u` is the token `t` of the other text, at the mapped offset, with the same kind and bytes. If it is a
  -- `(`, both or neither are followed immediately by `@`.
  pub record Same (t u : Token) : Type 0 where
    pub is : u ≡ token_moved move t
    pub text : token_text y u ≡ token_text x t
    pub mark : t.kind ≡ LParen → is_marked y u ≡ is_marked x t

  abbrev pub AllSame : List Token → List Token → Type 0
  AllSame [] [] = Unit {0}
  AllSame [] (u ∷ us) = ⊥
  AllSame (t ∷ ts) [] = ⊥
  AllSame (t ∷ ts) (u ∷ us) = Same t u × AllSame ts us

-- `SameTexts s r move`: both texts have no lexical error, and the same significant tokens. The map takes the length of
-- the first text to that of the second.
pub record SameTexts (s r : Source) (move : ℕ → ℕ) : Type 0 where
  pub utf8 : IsUtf8 s.setting.text × IsUtf8 r.setting.text
  pub read : IsRead s × IsRead r
  pub ending : (s.ending ≡ None) × (r.ending ≡ None)
  pub tokens : AllSame s.setting.text r.setting.text move (counting s.tokens) (counting r.tokens)
  pub end : move (length s.setting.text) ≡ length r.setting.text

-- `Among ts t`: the token is one of these.
abbrev pub Among : List Token → Token → Type 0
Among ts t = (n : ℕ) × (slice_get ts n ≡ Some t)

-- `Corresponds move s r p q`: byte `q` of one text corresponds to byte `p` of the other. The start of a significant
-- token corresponds to its mapped start, its end to the end of the same token, the end of the text to the end, and its
-- start to the start.
pub data Corresponds (move : ℕ → ℕ) (s r : Source) (p q : ℕ) : Type 0 where
  at_token : (t : Token) → Among (counting s.tokens) t → p ≡ t.offset → q ≡ move t.offset → Corresponds move s r p q
  at_end : p ≡ length s.setting.text → q ≡ length r.setting.text → Corresponds move s r p q
  after_token : (t : Token) → Among (counting s.tokens) t → p ≡ t.offset + t.len → q ≡ move t.offset + t.len → Corresponds move s r p q
  at_start : p ≡ 0 → q ≡ 0 → Corresponds move s r p q

-- `RefusalMoved move s r f g`: the errors have the same cause, at corresponding bytes. If one has an excerpt of its
-- text, so has the other.
pub record RefusalMoved (move : ℕ → ℕ) (s r : Source) (f g : Report) : Type 0 where
  pub cause : g.cause ≡ f.cause
  pub offset : Corresponds move s r f.offset g.offset
  pub excerpt : g.excerpt ≡ option_map (λ e. excerpt r.setting.text g.offset) f.excerpt

-- The state of a parser in each of the two texts, and the map from one text to the other.
pub record Sides : Type 0 where
  pub move : ℕ → ℕ
  pub here : State
  pub there : State

abbrev pub at_places : Sides → ℕ → ℕ → Sides
at_places s p q = record s { here = at_place s.here p; there = at_place s.there q }

-- `passed s n m` is the states after `n` raw tokens in one text and `m` in the other.
abbrev pub passed : Sides → ℕ → ℕ → Sides
passed s n m = record s { here = on s.here n; there = on s.there m }

abbrev pub Correspond : Sides → ℕ → ℕ → Type 0
Correspond s p q = Corresponds s.move s.here.source s.there.source p q

abbrev pub SameRefusal : Sides → Report → Report → Type 0
SameRefusal s f g = RefusalMoved s.move s.here.source s.there.source f g

-- `IsInBoth s t`: `t` is a significant token of the one text, and the other text has its bytes at the mapped offset.
pub record IsInBoth (s : Sides) (t : Token) : Type 0 where
  pub among : Among (counting s.here.source.tokens) t
  pub text : token_text s.there.source.setting.text (token_moved s.move t) ≡ token_text s.here.source.setting.text t

-- `Alike s ts`: the significant tokens from the one state on are `ts`, and those from the other state on are the same.
-- The names are the same, and the offsets correspond.
pub record Alike (s : Sides) (ts : List Token) : Type 0 where
  pub texts : SameTexts s.here.source s.there.source s.move
  pub names : s.there.names ≡ s.here.names
  pub here : counting (drop s.here.place s.here.source.tokens) ≡ ts
  pub there : AllSame s.here.source.setting.text s.there.source.setting.text s.move ts (counting (drop s.there.place s.there.source.tokens))
  pub place : Correspond s (offset_at s.here.source.tokens s.here.place) (offset_at s.there.source.tokens s.there.place)
