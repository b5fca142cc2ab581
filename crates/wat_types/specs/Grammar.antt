-- WebAssembly 2.0, 6.4.5 (function types), 6.4.1 (number types), 6.6.2 (type definitions) and 6.6.13 (modules), with
-- 6.2.2 (keywords) and 6.3.5 (identifiers). The grammar of modules with function types and nothing else, over visible
-- tokens: whitespace, comments and annotations are not among them. Each rule relates the tokens from a position on, a
-- value, and the tokens that are left. The grammar has neither a module's identifier nor modules without parentheses,
-- no other fields, no value types except the four number types, and none of the recursive types and subtypes of
-- WebAssembly 3.0. Identifiers of types may be equal, because they are dropped.
use Rattle.std.specs.Prelude.{◌≡◌, ℕ, List, [], ◌∷◌, codes, Ok}
use Rattle.std.specs.List.{flat_map}
use Rattle.wat_lex.specs.tokens.ReadableTokens.{token_text, word_of}
use Rattle.wat_lex.specs.values.WordValues.{name_value}
use Rattle.wat_lex.specs.declared.lexer.faults.LexError.TheVariants.{EmptyId}
use Rattle.wat_lex.specs.declared.lexer.kinds.Token.{Token}
use Rattle.wat_lex.specs.declared.lexer.kinds.TokenKind.TheVariants.{LParen, RParen, Keyword, Id}
use Rattle.wat_types.specs.Signatures.{Signature}
use Rattle.wat_types.specs.declared.types.ValType.{ValType}
use Rattle.wat_types.specs.declared.types.ValType.TheVariants.{I32, I64, F32, F64}

abbrev pub IsOpen : Token → Type 0
IsOpen t = t.kind ≡ LParen

abbrev pub IsClose : Token → Type 0
IsClose t = t.kind ≡ RParen

-- The token is this keyword.
pub record IsWord (text word : List ℕ) (t : Token) : Type 0 where
  pub kind : t.kind ≡ Keyword
  pub spells : token_text text t ≡ word

-- The token is an identifier whose name is UTF-8 and not empty.
pub record IsName (text : List ℕ) (t : Token) : Type 0 where
  pub kind : t.kind ≡ Id
  pub name : List ℕ
  pub named : name_value EmptyId (word_of text t) ≡ Ok name

-- A repetition of `One`, any number of times.
pub data Star {V : Type 0} (One : List Token → V → List Token → Type 0) : List Token → List V → List Token → Type 0 where
  none : {ts : List Token} → Star One ts [] ts
  more : {ts r q : List Token} {v : V} {vs : List V} → One ts v r → Star One r vs q → Star One ts (v ∷ vs) q

-- `val = "i32" | "i64" | "f32" | "f64"`.
pub data Val (text : List ℕ) : List Token → ValType → List Token → Type 0 where
  i32 : {t : Token} {r : List Token} → IsWord text (codes "i32") t → Val text (t ∷ r) I32 r
  i64 : {t : Token} {r : List Token} → IsWord text (codes "i64") t → Val text (t ∷ r) I64 r
  f32 : {t : Token} {r : List Token} → IsWord text (codes "f32") t → Val text (t ∷ r) F32 r
  f64 : {t : Token} {r : List Token} → IsWord text (codes "f64") t → Val text (t ∷ r) F64 r

-- `param = "(" "param" id val ")" | "(" "param" val* ")"`.
pub data Param (text : List ℕ) : List Token → List ValType → List Token → Type 0 where
  named : {o w n c : Token} {ts r : List Token} {v : ValType} → IsOpen o → IsWord text (codes "param") w → IsName text n → Val text ts v (c ∷ r) → IsClose c → Param text (o ∷ w ∷ n ∷ ts) (v ∷ []) r
  listed : {o w c : Token} {ts r : List Token} {vs : List ValType} → IsOpen o → IsWord text (codes "param") w → Star (Val text) ts vs (c ∷ r) → IsClose c → Param text (o ∷ w ∷ ts) vs r

-- `result = "(" "result" val* ")"`.
pub data Returns (text : List ℕ) : List Token → List ValType → List Token → Type 0 where
  returns : {o w c : Token} {ts r : List Token} {vs : List ValType} → IsOpen o → IsWord text (codes "result") w → Star (Val text) ts vs (c ∷ r) → IsClose c → Returns text (o ∷ w ∷ ts) vs r

-- The function type whose parameters and results are the concatenated lists.
abbrev pub signature_of : List (List ValType) → List (List ValType) → Signature
signature_of params results = record { params = flat_map (λ vs. vs) params; results = flat_map (λ vs. vs) results }

-- `func = "(" "func" param* result* ")"`.
pub data Func (text : List ℕ) : List Token → Signature → List Token → Type 0 where
  func : {o w c : Token} {ts us r : List Token} {ps rs : List (List ValType)} {f : Signature} → IsOpen o → IsWord text (codes "func") w → Star (Param text) ts ps us → Star (Returns text) us rs (c ∷ r) → IsClose c
      → f ≡ signature_of ps rs → Func text (o ∷ w ∷ ts) f r

-- `type = "(" "type" id? func ")"`.
pub data Definition (text : List ℕ) : List Token → Signature → List Token → Type 0 where
  identified : {o w n c : Token} {ts r : List Token} {f : Signature} → IsOpen o → IsWord text (codes "type") w → IsName text n → Func text ts f (c ∷ r) → IsClose c → Definition text (o ∷ w ∷ n ∷ ts) f r
  plain : {o w c : Token} {ts r : List Token} {f : Signature} → IsOpen o → IsWord text (codes "type") w → Func text ts f (c ∷ r) → IsClose c → Definition text (o ∷ w ∷ ts) f r

-- `module = "(" "module" type* ")"`, with no token after it.
pub data Module (text : List ℕ) : List Token → List Signature → Type 0 where
  definitions : {o w c : Token} {ts : List Token} {fs : List Signature} → IsOpen o → IsWord text (codes "module") w → Star (Definition text) ts fs (c ∷ []) → IsClose c → Module text (o ∷ w ∷ ts) fs
