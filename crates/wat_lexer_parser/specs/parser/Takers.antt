-- WebAssembly 2.0, 6.2 (lexical format: tokens, comments) and 6.3 (values: integers, floats, strings, identifiers),
-- and the custom annotations proposal. The results of consuming a token of one kind, given the visible token. The
-- value of a float is a relation in `wat_lex`; it is not defined here.
use Rattle.std.specs.List.{list_any}
use Rattle.std.specs.Str.Parse.{digits_value, without_leading_sign}
use Rattle.std.specs.Prelude.{ℕ, Bool, true, false, ◌==◌, ◌&&◌, List, is_some, Option, Some, None, Result, Ok, Err}
use Rattle.wat_lex.specs.grammar.Classes.{quote, backslash}
use Rattle.wat_lex.specs.grammar.Numbers.{sign_token}
use Rattle.wat_lex.specs.values.NumberValues.{is_integer_rewritten, is_float_rewritten, integer_value, integer_sign, integer_digits, integer_base}
use Rattle.wat_lex.specs.values.WordValues.{string_value, name_value}
use Rattle.wat_lex.specs.declared.lexer.kinds.SignToken.{SignToken}
use Rattle.wat_lex.specs.declared.lexer.kinds.SignToken.TheVariants.{Minus}
use Rattle.wat_lex.specs.declared.lexer.kinds.TokenKind.TheVariants.{String, Id, Keyword, Reserved, Integer, Float}
use Rattle.wat_lex.specs.declared.lexer.read.numbers.Integer.{Integer as Number}
use Rattle.wat_lexer_parser.specs.parser.State.{State, Seen, peek_at, known, Report, lexical, comment_at}
use Rattle.wat_lexer_parser.specs.Cases.{cases_of}
use Rattle.wat_lexer_parser.specs.places.Source.{Token, TokenKind, LParen, RParen, Annotation, LexError, EmptyId, EmptyAnnotation, token_text, word_of}

-- A reader of tokens of one kind, over a text, a token and its kind: `None` for another kind, otherwise its value or
-- an error.
abbrev pub Reader : Type 0 → Type 0
Reader V = List ℕ → Token → TokenKind → Option (Result V Report)

abbrev pub token_value_by : {V : Type 0} → ℕ → Option (Result V Report) → Result (Option (V × ℕ)) Report
token_value_by q None = Ok None
token_value_by q (Some (Ok v)) = Ok (Some (v, q))
token_value_by q (Some (Err f)) = Err f

-- The value of the visible token with the position after it. It is `None` at the end of the text, or if the token has
-- another kind.
abbrev pub taken : {V : Type 0} → Reader V → List ℕ → Seen → Result (Option (V × ℕ)) Report
taken read text found = cases_of found (Ok None) (λ t q. token_value_by q (read text t t.kind)) Err

-- The value of the token that is visible from a parser's state, with the position after it.
abbrev pub token_value_at : {V : Type 0} → Reader V → State → Result (Option (V × ℕ)) Report
token_value_at read a = taken read a.source.setting.text (peek_at a)

-- True if a token of the kind is visible from a parser's state.
abbrev pub sees_at : {V : Type 0} → Reader V → State → Result Bool Report
sees_at read a = cases_of (peek_at a) (Ok false) (λ t q. Ok (is_some (read a.source.setting.text t t.kind))) Err

-- The visible token, without the position after it.
abbrev pub token_of : Seen → Result (Option Token) Report
token_of found = cases_of found (Ok None) (λ t q. Ok (Some t)) Err

abbrev pub as_open : Reader (Unit {0})
as_open text t = elim [ LParen ↦ Some (Ok tt) | other ↦ None ]

abbrev pub as_close : Reader (Unit {0})
as_close text t = elim [ RParen ↦ Some (Ok tt) | other ↦ None ]

abbrev pub as_keyword : Reader (List ℕ)
as_keyword text t = elim [ Keyword ↦ Some (Ok (token_text text t)) | other ↦ None ]

abbrev pub as_reserved : Reader (List ℕ)
as_reserved text t = elim [ Reserved ↦ Some (Ok (token_text text t)) | other ↦ None ]

abbrev pub as_string : Reader (List ℕ)
as_string text t = elim [ String ↦ Some (Ok (string_value (word_of text t))) | other ↦ None ]

abbrev pub is_minus : Option SignToken → Bool
is_minus (Some Minus) = true
is_minus other = false

-- The value of an integer token: its sign, true for a minus, and the natural number that its digits denote.
abbrev pub as_integer : Reader (Bool × ℕ)
as_integer text t = elim [ Integer k ↦ Some (Ok (is_minus (sign_token k.sign), integer_value k.hex (word_of text t))) | other ↦ None ]

-- The sign and the natural number of a parsed integer.
abbrev pub number_of : Number → Bool × ℕ
number_of i = (is_minus (integer_sign i), digits_value (integer_base i) (without_leading_sign (integer_digits i)))

abbrev pub as_float : Reader (Unit {0})
as_float text t = elim [ Float k ↦ Some (Ok tt) | other ↦ None ]

-- The name, or the report of its error at the token's offset.
abbrev pub name_or_report : List ℕ → Token → Result (List ℕ) LexError → Result (List ℕ) Report
name_or_report text t (Ok name) = Ok name
name_or_report text t (Err e) = Err (lexical text (record { offset = t.offset; error = e }))

abbrev pub as_id : Reader (List ℕ)
as_id text t = elim [ Id ↦ Some (name_or_report text t (name_value EmptyId (word_of text t))) | other ↦ None ]

abbrev pub as_annotation : Reader (List ℕ)
as_annotation text t = elim [ Annotation ↦ Some (name_or_report text t (name_value EmptyAnnotation (word_of text t))) | other ↦ None ]

-- The text of the comment at a parser's position, after at most one whitespace token, with the position after it.
abbrev pub comment_taken : State → Result (Option (List ℕ × ℕ)) Report
comment_taken a = taken (λ text t kind. Some (Ok (token_text text t))) a.source.setting.text (known a.source.setting.text (comment_at a.source a.place))

abbrev pub contains : ℕ → List ℕ → Bool
contains c w = list_any (λ d. d == c) w

-- True if the name of an identifier or annotation is a string with an escape, which must be decoded.
abbrev pub name_is_decoded : List ℕ → Token → Bool
name_is_decoded text t = contains quote (word_of text t) && contains backslash (word_of text t)

-- True if reading a token's value may allocate: strings with an escape are decoded, and numbers with underscores or a
-- `0x` prefix are rewritten. A NaN payload after `nan:0x` is rewritten only if it has underscores.
abbrev pub word_allocates : List ℕ → Token → TokenKind → Bool
word_allocates text t String = contains backslash (word_of text t)
word_allocates text t Id = name_is_decoded text t
word_allocates text t Annotation = name_is_decoded text t
word_allocates text t (Integer k) = is_integer_rewritten k
word_allocates text t (Float k) = is_float_rewritten k
word_allocates text t kind = false

-- True if consuming the visible token may allocate. False if it has another kind than the reader's.
abbrev pub allocates_at : {V : Type 0} → Reader V → State → Bool
allocates_at read a =
    cases_of (peek_at a) false (λ t q. is_some (read a.source.setting.text t t.kind) && word_allocates a.source.setting.text t t.kind) (λ f. false)
