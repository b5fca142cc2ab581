-- WebAssembly 2.0, 6.2 (lexical format): the tokens, whitespace and comments of a source text, joined, are the text.
-- These are the theorems about the raw tokens from an offset, as a list of items.
use Rattle.std.specs.Prelude.{◌≡◌, ◌≤◌, ◌<◌, ◌+◌, ◌++◌, ℕ, false, length, drop, List, [], ◌∷◌, Ok, Err}
use Rattle.wat_lex.specs.tokens.Raw.{Item, Raw}
use Rattle.wat_lex.specs.tokens.ReadableTokens.{IsTokenOf, token_text}
use Rattle.wat_lex.specs.tokens.Setting.{Setting}
use Rattle.wat_lex.specs.declared.lexer.kinds.Token.{Token}

-- No item is an error.
abbrev pub AreTokens : List Item → Type 0
AreTokens [] = Unit {0}
AreTokens (Ok t ∷ items) = AreTokens items
AreTokens (Err e ∷ items) = ⊥

abbrev pub EachToken : (Token → Type 0) → List Item → Type 0
EachToken p [] = Unit {0}
EachToken p (Ok t ∷ items) = p t × EachToken p items
EachToken p (Err e ∷ items) = EachToken p items

-- The texts of the tokens among the items, joined.
abbrev pub joined_texts : List ℕ → List Item → List ℕ
joined_texts text [] = []
joined_texts text (Ok t ∷ items) = token_text text t ++ joined_texts text items
joined_texts text (Err e ∷ items) = joined_texts text items

-- `Laws s from items`: there are at most as many items as bytes from `from` on, plus 1. Each token satisfies
-- `IsTokenOf` and is not empty. If no item is an error, the joined texts of the tokens are the text from byte `from`
-- on, and the items are also the raw tokens with `strict` off.
pub record Laws (s : Setting) (from : ℕ) (items : List Item) : Type 0 where
  pub few : from + length items ≤ length s.text + 1
  pub tokens : EachToken (λ t. IsTokenOf s.text t × (0 < t.len)) items
  pub whole : AreTokens items → joined_texts s.text items ≡ drop from s.text
  pub unstrict : AreTokens items → Raw (record s { flags = record s.flags { strict = false } }) from items
