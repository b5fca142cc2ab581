-- WebAssembly 2.0, 6.3.3 (strings) and 6.3.5 (identifiers), and the custom annotations proposal: the range of the text
-- that is the value of a token.
use Rattle.std.specs.Prelude.{◌≡◌, ◌⊎◌, ℕ, ◌+◌, List, take, drop, Ok, Err, Result, if◌then◌else◌}
use Rattle.wat_lex.specs.grammar.Classes.{quote, backslash}
use Rattle.wat_lex.specs.tokens.ReadableTokens.{word_of}
use Rattle.wat_lex.specs.values.Names.{HasNone, HasNoEscape}
use Rattle.wat_lex.specs.values.WordValues.{empty_name}
use Rattle.wat_lex.specs.declared.lexer.kinds.Token.{Token}
use Rattle.wat_lex.specs.declared.lexer.kinds.TokenKind.{TokenKind}
use Rattle.wat_lex.specs.declared.lexer.kinds.TokenKind.TheVariants.{String}
use Rattle.wat_lexer_parser.specs.parser.Takers.{contains}
use Rattle.wat_c_records.specs.Rows.{fault_code}
use Rattle.wat_c.specs.Readings.{IsString, IsNamed, ReadsString, ReadsName}
use Rattle.wat_c.specs.declared.answers.Refusal.{Refusal}
use Rattle.wat_c.specs.declared.answers.Refusal.TheVariants.{Fault}
use Rattle.wat_c.specs.declared.words.Word.{Word}

-- `HasValue kind`: the kind is a string literal, an identifier or an annotation.
abbrev pub HasValue : TokenKind → Type 0
HasValue kind = IsString kind ⊎ IsNamed kind

-- `ReadsValue kind` is the relation between such a token and its value.
abbrev pub ReadsValue : TokenKind → List ℕ → Token → Result (List ℕ) Refusal → Type 0
ReadsValue String = ReadsString
ReadsValue kind = ReadsName

-- `IsPlain kind w`: the lexeme contains no escape.
abbrev pub IsPlain : TokenKind → List ℕ → Type 0
IsPlain String w = HasNone backslash w
IsPlain kind w = HasNoEscape w

-- `before kind w` is the number of bytes of the lexeme before its value: the quotation mark of a string literal; the
-- `$` or `@` of a name, and its quotation mark if it is quoted.
abbrev pub before : TokenKind → List ℕ → ℕ
before String w = 1
before kind w = if contains quote w then 2 else 1

-- `after kind w` is the number of bytes of the lexeme after its value: the closing quotation mark, if there is one.
abbrev pub after : TokenKind → List ℕ → ℕ
after String w = 1
after kind w = if contains quote w then 1 else 0

-- `IsUnescapedValue text t word`: the range is the value of the token. It is the lexeme without the bytes before and after the
-- value, and contains no escape.
pub record IsUnescapedValue (text : List ℕ) (t : Token) (word : Word) : Type 0 where
  pub kind : HasValue t.kind
  pub plain : IsPlain t.kind (word_of text t)
  pub begins : word.start ≡ t.offset + before t.kind (word_of text t)
  pub ends : word.start + word.len + after t.kind (word_of text t) ≡ t.offset + t.len
  pub reads : ReadsValue t.kind text t (Ok (take word.len (drop word.start text)))

abbrev pub no_word : ℕ → Word
no_word status = record { start = 0; len = 0; status = status }

-- `TellsWord text t word`: the word is the range of the value, or its status tells that the value contains an escape,
-- that the name is empty, or that the token has no value.
pub data TellsWord (text : List ℕ) (t : Token) (word : Word) : Type 0 where
  given : word.status ≡ 0 → IsUnescapedValue text t word → TellsWord text t word
  escaped : word ≡ no_word 4 → HasValue t.kind → (IsPlain t.kind (word_of text t) → ⊥) → TellsWord text t word
  nameless : word ≡ no_word (fault_code (empty_name t.kind)) → HasValue t.kind → IsPlain t.kind (word_of text t)
      → ReadsValue t.kind text t (Err (Fault (empty_name t.kind))) → TellsWord text t word
  other : word ≡ no_word 1 → (HasValue t.kind → ⊥) → TellsWord text t word

-- Theorem: the word for a token is unique.
unfoldable pub OneWord : List ℕ → Token → Type 0
OneWord text t = (word other : Word) → TellsWord text t word → TellsWord text t other → word ≡ other
