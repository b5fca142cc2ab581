-- The language of grammars: for each combinator of `Readings`, which visible tokens it accepts with which value, and
-- which tokens it leaves. A rule is a relation over tokens alone, without positions or errors. Not part of the
-- standard.
use Rattle.std.specs.Prelude.{◌≡◌, ◌<◌, ◌≤◌, ◌⊎◌, ℕ, Bool, true, false, List, [], ◌∷◌, length, Option, Some, None, Result, Ok, Err, is_some, not}
use Rattle.wat_lex.specs.errors.Errors.{Report}
use Rattle.wat_lex.specs.declared.lexer.kinds.Token.{Token}
use Rattle.wat_lex.specs.declared.lexer.kinds.TokenKind.{TokenKind}
use Rattle.wat_lex.specs.declared.lexer.kinds.TokenKind.TheVariants.{LParen, RParen}
use Rattle.wat_lexer_parser.specs.groups.Sorts.{is_close}
use Rattle.wat_lexer_parser.specs.parser.Takers.{Reader}

-- What follows the visible tokens: the end of the text or an error report, and the current span there.
pub record End : Type 0 where
  pub fault : Option Report
  pub span : ℕ

-- The context of a rule: the text, and the end or error after its visible tokens.
pub record Ground : Type 0 where
  pub text : List ℕ
  pub end : End

-- A grammar rule: a relation of a context, the visible tokens, the value of the first ones, and the tokens that are
-- left.
abbrev pub Rule : Type 0 → Type 1
Rule V = Ground → List Token → V → List Token → Type 0

-- The result of a peek, as a function of the visible tokens.
abbrev pub Telling : Type 0
Telling = Ground → List Token → Result Bool Report

-- The result if no token is left: `a` at the end of the text, or the error report.
abbrev pub unless_fault : {A : Type 0} → A → Option Report → Result A Report
unless_fault a None = Ok a
unless_fault a (Some f) = Err f

-- The empty rule, with the value `w`.
abbrev pub Nothing : {V : Type 0} → V → Rule V
Nothing w g ts v r = (w ≡ v) × (ts ≡ r)

-- The rule that derives no value.
abbrev pub Never : {V : Type 0} → Rule V
Never g ts v r = ⊥

-- One token that the reader accepts.
pub data One {V : Type 0} (read : Reader V) (g : Ground) : List Token → V → List Token → Type 0 where
  one : {t : Token} {r : List Token} {v : V} → read g.text t t.kind ≡ Some (Ok v) → One read g (t ∷ r) v r

-- A rule followed by another, which may depend on the value of the first.
abbrev pub Then : {V W : Type 0} → Rule V → (V → Rule W) → Rule W
Then {V} R S g ts w r = (v : V) × (us : List Token) × R g ts v us × S v g us w r

-- The rule with its values mapped by `f`.
abbrev pub Known : {V W : Type 0} → (V → W) → Rule V → Rule W
Known {V} f R g ts w r = (v : V) × R g ts v r × (f v ≡ w)

-- The offset of the first token, or the current span after all tokens if there is none.
abbrev pub span_of : Ground → List Token → ℕ
span_of g [] = g.end.span
span_of g (t ∷ ts) = t.offset

-- The rule with the offset of its first token as a second component of the value.
abbrev pub Spanned : {V : Type 0} → Rule V → Rule (V × ℕ)
Spanned {V} R g ts w r = (v : V) × R g ts v r × ((v, span_of g ts) ≡ w)

-- The rule restricted to values that pass the check, with the check's result as the value.
abbrev pub Checked : {V W : Type 0} → (V → Option W) → Rule V → Rule W
Checked {V} check R g ts w r = (v : V) × R g ts v r × (check v ≡ Some w)

-- The first rule if the peek yields `true`, the second if it yields `false`.
abbrev pub WhereSeen : {V : Type 0} → Telling → Rule V → Rule V → Rule V
WhereSeen look R S g ts v r = ((look g ts ≡ Ok true) × R g ts v r) ⊎ ((look g ts ≡ Ok false) × S g ts v r)

-- The union of two rules.
abbrev pub Either : {V : Type 0} → Rule V → Rule V → Rule V
Either R S g ts v r = R g ts v r ⊎ S g ts v r

-- A repetition of a rule, as long as the peek yields `true`.
pub data While {V : Type 0} (look : Telling) (R : Rule V) (g : Ground) : List Token → List V → List Token → Type 0 where
  none : {ts : List Token} → look g ts ≡ Ok false → While look R g ts [] ts
  more : {ts r q : List Token} {v : V} {vs : List V} → look g ts ≡ Ok true → R g ts v r → While look R g r vs q → While look R g ts (v ∷ vs) q

-- A group: `(`, the tokens of the rule, and `)`.
pub data InGroup {V : Type 0} (R : Rule V) (g : Ground) : List Token → V → List Token → Type 0 where
  group : {o c : Token} {ts r : List Token} {v : V} → o.kind ≡ LParen → R g ts v (c ∷ r) → c.kind ≡ RParen → InGroup R g (o ∷ ts) v r

-- The rule leaves at most as many tokens as there were.
abbrev pub Keeps : {V : Type 0} → Rule V → Type 0
Keeps {V} R = (g : Ground) (ts : List Token) (v : V) (r : List Token) → R g ts v r → length r ≤ length ts

-- The rule consumes at least one token.
abbrev pub Shrinks : {V : Type 0} → Rule V → Type 0
Shrinks {V} R = (g : Ground) (ts : List Token) (v : V) (r : List Token) → R g ts v r → length r < length ts

-- A peek for a token of a kind.
abbrev pub tells_kind : {V : Type 0} → Reader V → Telling
tells_kind read g [] = unless_fault false g.end.fault
tells_kind read g (t ∷ ts) = Ok (is_some (read g.text t t.kind))

abbrev pub known_word : Option (Result (Unit {0}) Report) → Result Bool Report
known_word None = Ok false
known_word (Some (Ok u)) = Ok true
known_word (Some (Err f)) = Err f

-- A peek for a token with a given word. If the token's name has an error, the result is its report.
abbrev pub tells_word : Reader (Unit {0}) → Telling
tells_word read g [] = unless_fault false g.end.fault
tells_word read g (t ∷ ts) = known_word (read g.text t t.kind)

-- A peek at the tokens after the first one.
abbrev pub tells_second : Telling → Telling
tells_second look g [] = unless_fault false g.end.fault
tells_second look g (t ∷ ts) = look g ts

abbrev pub after_kind : TokenKind → Result Bool Report → Result Bool Report
after_kind LParen known = known
after_kind kind known = Ok false

-- A peek at the tokens after a `(`; `false` if the first token is of another kind.
abbrev pub tells_after_open : Telling → Telling
tells_after_open look g [] = unless_fault false g.end.fault
tells_after_open look g (t ∷ ts) = after_kind t.kind (look g ts)

-- A peek for another item of a group: true unless a `)` or the end of the text is next; true at an error.
abbrev pub tells_more : Telling
tells_more g [] = Ok (is_some g.end.fault)
tells_more g (t ∷ ts) = Ok (not (is_close t.kind))
