-- WebAssembly 2.0, 6.2.2 (tokens), 6.3.2 (floating-point), 6.3.3 (strings) and 6.3.5 (identifiers): the theorems about
-- the definitions, for all texts and all values of the two flags. Each is one statement that dependent crates can cite.
use Rattle.std.specs.Prelude.{◌≡◌, ◌≢◌, ◌+◌, ◌⊎◌, ℕ, List, [], Option, Result, Ok, Err}
use Rattle.std.specs.Str.{IsUtf8, IsCharBoundary}
use Rattle.wat_lex.specs.values.Names.{Name, NameFault}
use Rattle.wat_lex.specs.values.UniqueValues.{SomeName, OneName, SomeValue, OneValue, OneCut}
use Rattle.wat_lex.specs.tokens.CutsAndMoves.{Cuts, Moves}
use Rattle.wat_lex.specs.tokens.ReadableTokens.{IsTokenOf, word_of}
use Rattle.wat_lex.specs.tokens.Setting.{Setting, lenient}
use Rattle.wat_lex.specs.grammar.Strings.{StringWord}
use Rattle.wat_lex.specs.tokens.Tiling.{TokenAt}
use Rattle.wat_lex.specs.tokens.UniqueTilings.{ResultAt, SomeTiling, OneTiling}
use Rattle.wat_lex.specs.values.WordValues.{string_value, name_value}
use Rattle.wat_lex.specs.grammar.Words.{Word}
use Rattle.wat_lex.specs.declared.lexer.settings.Settings.{Settings}
use Rattle.wat_lex.specs.declared.lexer.faults.LexError.{LexError}
use Rattle.wat_lex.specs.declared.lexer.faults.LexFault.{LexFault}
use Rattle.wat_lex.specs.declared.lexer.kinds.Token.{Token}
use Rattle.wat_lex.specs.declared.lexer.kinds.TokenKind.TheVariants.{String, Id, Annotation}

-- The lexeme `w` is an identifier or an annotation, under the most permissive flags.
abbrev pub IsNameWord : List ℕ → Type 0
IsNameWord w = Word Id w lenient ⊎ Word Annotation w lenient

-- At each character boundary of a UTF-8 text there is a token, the end of the text, or a lexical error.
abbrev pub ScanResultExists : Type 0
ScanResultExists = (s : Setting) (p : ℕ) → IsUtf8 s.text → IsCharBoundary s.text p → (r : Result (Option Token) LexFault) × ResultAt s p r

-- At each offset there is at most one result: a token, the end of the text, or a lexical error.
abbrev pub ScanResultIsUnique : Type 0
ScanResultIsUnique = (s : Setting) (p : ℕ) (q r : Result (Option Token) LexFault) → ResultAt s p q → ResultAt s p r → q ≡ r

-- From each character boundary of a UTF-8 text there is a maximal tiling.
abbrev pub EachBoundaryHasTiling : Type 0
EachBoundaryHasTiling = (s : Setting) (p : ℕ) → IsUtf8 s.text → IsCharBoundary s.text p → SomeTiling s p

-- From each offset there is at most one maximal tiling.
abbrev pub TilingsAreUnique : Type 0
TilingsAreUnique = (s : Setting) (p : ℕ) → OneTiling s p

abbrev pub TokensOfCuts : Type 0
TokensOfCuts = (s : Setting) (p : ℕ) → IsUtf8 s.text → IsCharBoundary s.text p → Cuts s p

abbrev pub TokensOfMoves : Type 0
TokensOfMoves = (s : Setting) (p : ℕ) → IsUtf8 s.text → IsCharBoundary s.text p → Moves s p

-- A token of a tiling satisfies the precondition of the functions that return its value.
abbrev pub TokensAreReadable : Type 0
TokensAreReadable = (s : Setting) (p : ℕ) (t : Token) → IsCharBoundary s.text p → TokenAt s p t → IsTokenOf s.text t

-- A token of a tiling ends at a character boundary.
abbrev pub TokensEndAtBoundaries : Type 0
TokensEndAtBoundaries = (s : Setting) (p : ℕ) (t : Token) → IsUtf8 s.text → IsCharBoundary s.text p → TokenAt s p t → IsCharBoundary s.text (t.offset + t.len)

-- The lexeme that `IsTokenOf` gives for a token is its `word_of`.
abbrev pub WordsOfTokens : Type 0
WordsOfTokens = (text : List ℕ) (t : Token) → IsUtf8 text → (readable : IsTokenOf text t) → word_of text t ≡ readable.word

-- Each lexeme of an identifier or an annotation has a valid name, or an error of its name.
abbrev pub NamesExist : Type 0
NamesExist = (empty : LexError) (w : List ℕ) → IsNameWord w → SomeName empty w

-- Each lexeme has at most one name and at most one error of its name, and not a valid name and an error.
abbrev pub NamesAreUnique : Type 0
NamesAreUnique = (empty : LexError) (w : List ℕ) → OneName empty w

-- The function `name_value` returns the valid name of a lexeme, or the error of its name.
pub record NamesAreValues : Type 0 where
  pub good : (empty : LexError) (w name : List ℕ) → Name w name → IsUtf8 name → name ≢ [] → name_value empty w ≡ Ok name
  pub fault : (empty error : LexError) (w : List ℕ) → NameFault empty w error → name_value empty w ≡ Err error

-- Each lexeme of a string has a value. It is unique, and `string_value` returns it.
pub record StringsAreValues : Type 0 where
  pub some : (w : List ℕ) → Word String w lenient → SomeValue w
  pub one : (w : List ℕ) → OneValue w
  pub value : (flags : Settings) (w v : List ℕ) → StringWord flags w v → string_value w ≡ v

-- Each lexeme divides into the parts of a float in at most one way.
abbrev pub CutsAreOne : Type 0
CutsAreOne = (w : List ℕ) → OneCut w
