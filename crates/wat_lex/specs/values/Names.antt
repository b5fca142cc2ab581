-- WebAssembly 2.0, 6.3.5 (identifiers), and the annotations proposal: after `$` or `@` comes a name, which is idchars
-- or a string. The bytes of idchars are their own. A name of the standard is UTF-8 and not empty. Here the lexemes with
-- other names are tokens too, and reading such a name returns an error.
use Rattle.std.specs.Prelude.{◌≡◌, ◌⊎◌, ◌==◌, ℕ, List, [], ◌∷◌, Option, Some, None, encode_utf8_all}
use Rattle.std.specs.Str.{NonePass, IsUtf8}
use Rattle.wat_lex.specs.grammar.Classes.{quote, backslash, is_idchar, Each}
use Rattle.wat_lex.specs.errors.Errors.{Report, lexical}
use Rattle.wat_lex.specs.tokens.Setting.{lenient}
use Rattle.wat_lex.specs.grammar.Strings.{Quoted, StringWord}
use Rattle.wat_lex.specs.declared.lexer.faults.LexError.{LexError}
use Rattle.wat_lex.specs.declared.lexer.faults.LexError.TheVariants.{InvalidUtf8Id}

-- `Named t bytes`: `t` is idchars or a string, with these bytes.
pub data Named : List ℕ → List ℕ → Type 0 where
  bare : {t : List ℕ} → Each is_idchar t → Named t (encode_utf8_all t)
  quoted : {t v : List ℕ} → StringWord lenient t v → Named t v

-- `Name w bytes`: the lexeme `w` is one character and a name with these bytes.
abbrev pub Name : List ℕ → List ℕ → Type 0
Name [] bytes = ⊥
Name (c ∷ t) bytes = Named t bytes

-- The character `c` does not occur in `w`.
abbrev pub HasNone : ℕ → List ℕ → Type 0
HasNone c w = NonePass (λ d. d == c) w

-- The lexeme `w` has no escape: it has no quotation mark, or no backslash. Escapes occur only in strings.
abbrev pub HasNoEscape : List ℕ → Type 0
HasNoEscape w = HasNone quote w ⊎ HasNone backslash w

-- `NameFault empty w e`: the name of the lexeme `w` has the error `e`. It is `empty` for an empty name, and
-- `InvalidUtf8Id` for bytes that are not UTF-8.
pub data NameFault : LexError → List ℕ → LexError → Type 0 where
  no_name : {empty : LexError} {w : List ℕ} → Name w [] → NameFault empty w empty
  not_utf8 : {empty : LexError} {w bytes : List ℕ} → Name w bytes → (IsUtf8 bytes → ⊥) → NameFault empty w InvalidUtf8Id

-- `NameError text empty offset w error`: reading the name of the lexeme `w` at this offset of the text returns this
-- error. It is a report of the error of the name at the offset, or an allocation failure (`None`). An allocation fails
-- only if the lexeme has an escape or its name has an error.
abbrev pub NameError : List ℕ → LexError → ℕ → List ℕ → Option Report → Type 0
NameError text empty offset w None = HasNoEscape w → (e : LexError) × NameFault empty w e
NameError text empty offset w (Some report) = (e : LexError) × NameFault empty w e × (report ≡ lexical text (record { offset = offset; error = e }))

-- The text `t` is elements of a string and the closing quotation mark.
abbrev pub IsQuoted : List ℕ → Type 0
IsQuoted t = (v : List ℕ) × Quoted lenient t v []

-- The text `t` is a name.
abbrev pub IsNamed : List ℕ → Type 0
IsNamed t = (bytes : List ℕ) × Named t bytes
