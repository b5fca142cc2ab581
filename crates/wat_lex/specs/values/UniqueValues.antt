-- WebAssembly 2.0, 6.3.2 (floating-point), 6.3.3 (strings) and 6.3.5 (identifiers): the value of a lexeme exists and is
-- unique.
use Rattle.std.specs.Prelude.{◌≡◌, ◌≢◌, ℕ, Bool, Option, List, []}
use Rattle.std.specs.Str.{IsUtf8}
use Rattle.wat_lex.specs.values.Names.{Name, NameFault}
use Rattle.wat_lex.specs.values.NumberValues.{FloatParts}
use Rattle.wat_lex.specs.tokens.Setting.{lenient}
use Rattle.wat_lex.specs.grammar.Strings.{StringWord}
use Rattle.wat_lex.specs.declared.lexer.faults.LexError.{LexError}
use Rattle.wat_lex.specs.declared.lexer.kinds.FloatKind.{FloatKind}
use Rattle.wat_lex.specs.declared.lexer.kinds.FloatKind.TheVariants.{Normal}

-- The lexeme `w` of a string has a value.
pub record SomeValue (w : List ℕ) : Type 0 where
  pub value : List ℕ
  pub is : StringWord lenient w value

-- Any two values of the lexeme `w` of a string are equal.
abbrev pub OneValue : List ℕ → Type 0
OneValue w = (u v : List ℕ) → StringWord lenient w u → StringWord lenient w v → u ≡ v

-- `SomeName empty w`: the lexeme `w` has a name that is UTF-8 and not empty, or an error of its name. An empty name has
-- the error `empty`.
pub data SomeName : LexError → List ℕ → Type 0 where
  good : {empty : LexError} {w name : List ℕ} → Name w name → IsUtf8 name → name ≢ [] → SomeName empty w
  fault : {empty e : LexError} {w : List ℕ} → NameFault empty w e → SomeName empty w

-- `OneName empty w`: any two names of the lexeme `w` are equal, and so are any two errors of its name. A name that is
-- UTF-8 and not empty has no error.
pub record OneName (empty : LexError) (w : List ℕ) : Type 0 where
  pub name : (a b : List ℕ) → Name w a → Name w b → a ≡ b
  pub fault : (e f : LexError) → NameFault empty w e → NameFault empty w f → e ≡ f
  pub good : (a : List ℕ) (e : LexError) → Name w a → IsUtf8 a → a ≢ [] → NameFault empty w e → ⊥

-- The lexeme `w` divides into an integral part, a fraction and an exponent.
pub record SomeParts (hex : Bool) (w : List ℕ) : Type 0 where
  pub leading : List ℕ
  pub fraction : Option (List ℕ)
  pub exponent : Option (List ℕ)
  pub parts : FloatParts hex w leading fraction exponent

-- `SomeCut kind w`: the lexeme `w` of a float that is neither infinite nor a NaN divides into an integral part, a
-- fraction and an exponent.
abbrev pub SomeCut : FloatKind → List ℕ → Type 0
SomeCut (Normal underscores hex) w = SomeParts hex w
SomeCut kind w = Unit {0}

-- The lexeme `w` divides into an integral part, a fraction and an exponent in at most one base and in at most one way.
-- Infinities and NaNs have no such parts.
pub record OneCut (w : List ℕ) : Type 0 where
  pub base : (h k : Bool) (a b : List ℕ) (f g x y : Option (List ℕ)) → FloatParts h w a f x → FloatParts k w b g y → h ≡ k
  pub parts : (hex : Bool) (a b : List ℕ) (f g x y : Option (List ℕ)) → FloatParts hex w a f x → FloatParts hex w b g y → (a ≡ b) × (f ≡ g) × (x ≡ y)
