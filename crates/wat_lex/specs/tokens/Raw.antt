-- WebAssembly 2.0, 6.2 (lexical format): the raw tokens from an offset, as a list of items. Each item is a token; the
-- last one may be an error instead.
use Rattle.std.specs.Prelude.{◌≡◌, ◌+◌, ◌-◌, ◌⊎◌, ℕ, Bool, true, false, length, List, [], ◌∷◌, Option, Some, None, MatchOption, Result, Ok, Err, MatchResult, if◌then◌else◌}
use Rattle.wat_lex.specs.errors.Errors.{Report, lexical, IsUnlessMemory}
use Rattle.wat_lex.specs.tokens.Faults.{FaultAt}
use Rattle.wat_lex.specs.tokens.ReadableTokens.{IsTokenOf}
use Rattle.wat_lex.specs.tokens.Setting.{Setting}
use Rattle.wat_lex.specs.tokens.Tiling.{TokenAt, MaximalTiling}
use Rattle.wat_lex.specs.declared.lexer.kinds.Token.{Token}
use Rattle.wat_lex.specs.declared.lexer.faults.LexFault.{LexFault}

-- A token or an error. The error is a report, or `None` for an allocation failure.
abbrev pub Item : Type 0
Item = Result Token (Option Report)

-- `AreItemsOf text tokens ending items`: the items are these tokens, and then the error for the ending if it is a
-- lexical error.
abbrev pub AreItemsOf : List ℕ → List Token → Option LexFault → List Item → Type 0
AreItemsOf text [] None items = items ≡ []
AreItemsOf text [] (Some f) items = (e : Option Report) × (items ≡ Err e ∷ []) × IsUnlessMemory e (lexical text f)
AreItemsOf text (t ∷ ts) ending items = (rest : List Item) × (items ≡ Ok t ∷ rest) × AreItemsOf text ts ending rest

-- `Raw s from items`: the items are the tokens of a maximal tiling from byte `from`, with its ending.
pub record Raw (s : Setting) (from : ℕ) (items : List Item) : Type 0 where
  pub tokens : List Token
  pub ending : Option LexFault
  pub tiling : MaximalTiling s from tokens ending
  pub spelled : AreItemsOf s.text tokens ending items

-- `ErrorAt s p e`: the text has a lexical error at byte `p`, and `e` is its report or an allocation failure.
pub record ErrorAt (s : Setting) (p : ℕ) (e : Option Report) : Type 0 where
  pub fault : LexFault
  pub is_at : FaultAt s p fault
  pub reported : IsUnlessMemory e (lexical s.text fault)

-- The state of an iterator over tokens: its setting, the byte offset of the next token, and `true` if it has ended.
pub record Progress : Type 0 where
  pub setting : Setting
  pub at : ℕ
  pub done : Bool

-- `Gives p r q`: a call of the iterator in the state `p` returns `r` and leaves the state `q`. It returns a token or an
-- error, or `None` if it has ended or is at the end of the text.
abbrev pub Gives : Progress → Option Item → Progress → Type 0
Gives p r q = MatchOption r
    (((p.done ≡ true) ⊎ (p.at ≡ length p.setting.text)) × (q.done ≡ true))
    (λ item. (p.done ≡ false) × MatchResult item
    (λ t. TokenAt p.setting p.at t × IsTokenOf p.setting.text t × (q.at ≡ t.offset + t.len) × (q.done ≡ false))
    (λ e. ErrorAt p.setting p.at e × (q.done ≡ true)))

abbrev pub token_steps : Progress → Option Item → Progress → Type 0
token_steps p r q = (q.setting ≡ p.setting) × Gives p r q

-- The maximum number of items that the iterator still returns: one more than the remaining bytes, or 0 if it has ended.
abbrev pub most_left : Progress → ℕ
most_left p = if p.done then 0 else (length p.setting.text + 1) - p.at
