-- The arguments of the command line that name calls of a parser. Not part of the standard.
use Rattle.std.specs.Prelude.{◌≡◌, ◌⊎◌, ◌≤◌, ◌++◌, ℕ, List, length, codes, string_bytes}
use Rattle.std.specs.Str.Parse.{IsNumeral, digits_value}
use Rattle.wat_lexer_parser.specs.declared.parser.calls.Call.{Call}
use Rattle.wat_lexer_parser.specs.declared.parser.calls.Call.TheVariants.{Look, Take, Comment, Register, Unregister, Parens}

-- `digits` are one to nine decimal digits.
pub record IsCount (digits : List ℕ) : Type 0 where
  pub numeral : IsNumeral 10 digits
  pub few : length digits ≤ 9

-- `word` is `parens=` followed by the count `n` in decimal digits.
pub record NamesParens (word : List ℕ) (n : ℕ) : Type 0 where
  pub digits : List ℕ
  pub text : word ≡ codes "parens=" ++ digits
  pub count : IsCount digits
  pub value : n ≡ digits_value 10 digits

-- The argument `word` names the call.
abbrev pub NamesCall : List ℕ → Call → Type 0
NamesCall word Look = word ≡ codes "look"
NamesCall word Take = word ≡ codes "take"
NamesCall word Comment = word ≡ codes "comment"
NamesCall word (Register name) = word ≡ codes "reg=" ++ string_bytes name
NamesCall word (Unregister name) = word ≡ codes "unreg=" ++ string_bytes name
NamesCall word (Parens n) = NamesParens word n

-- The argument `word` names no call.
abbrev pub NamesNoCall : List ℕ → Type 0
NamesNoCall word = (call : Call) → ¬ NamesCall word call

-- The argument `word` names a call with an annotation name, `reg=NAME` or `unreg=NAME`.
abbrev pub HasName : List ℕ → Type 0
HasName word = (name : List ℕ) × ((word ≡ codes "reg=" ++ name) ⊎ (word ≡ codes "unreg=" ++ name))
