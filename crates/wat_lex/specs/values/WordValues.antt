-- WebAssembly 2.0, 6.3.3 (strings) and 6.3.5 (identifiers), and the annotations proposal: the values of strings and
-- names as functions of their lexemes. `Strings` and `Names` define them by relations. The results for other lexemes
-- have no meaning.
use Rattle.std.specs.Prelude.{ℕ, ◌+◌, ◌*◌, ◌==◌, List, [], ◌∷◌, ◌++◌, if◌then◌else◌, Some, None, Result, Ok, Err, encode_utf8, encode_utf8_all}
use Rattle.std.specs.Char.{digit_value}
use Rattle.std.specs.Cow.{cow_str_bytes}
use Rattle.std.specs.Str.{is_utf8}
use Rattle.std.specs.declared.borrow.CowStr.{CowStr}
use Rattle.wat_lex.specs.grammar.Classes.{quote, backslash, letter_u, close_brace}
use Rattle.wat_lex.specs.grammar.Strings.{letter_value, hex_value}
use Rattle.wat_lex.specs.declared.lexer.faults.LexError.{LexError}
use Rattle.wat_lex.specs.declared.lexer.faults.LexError.TheVariants.{InvalidUtf8Id, EmptyAnnotation, EmptyId}
use Rattle.wat_lex.specs.declared.lexer.kinds.TokenKind.{TokenKind}
use Rattle.wat_lex.specs.declared.lexer.kinds.TokenKind.TheVariants.{Annotation}

-- The position of a character in a string: between elements, after a backslash, after a backslash and this hexadecimal
-- digit, after `\u`, or after `\u{` and these digits and underscores.
pub data Within : Type 0 where
  Between : Within
  Escaped : Within
  Byte : ℕ → Within
  Braced : Within
  Row : List ℕ → Within

-- The joined bytes of a string's elements from this position up to the closing quotation mark.
unfoldable pub elements_value : Within → List ℕ → List ℕ
elements_value m [] = []
elements_value Between (c ∷ t) = if c == quote then [] else if c == backslash then elements_value Escaped t else encode_utf8 c ++ elements_value Between t
elements_value Escaped (c ∷ t) = if c == letter_u then elements_value Braced t else elim (letter_value c) [
  | None ↦ elements_value (Byte c) t
  | Some v ↦ v ∷ elements_value Between t
]
elements_value (Byte d) (c ∷ t) = (16 * digit_value d + digit_value c) ∷ elements_value Between t
elements_value Braced (c ∷ t) = elements_value (Row []) t
elements_value (Row ds) (c ∷ t) = if c == close_brace then encode_utf8 (hex_value ds) ++ elements_value Between t else elements_value (Row (ds ++ c ∷ [])) t

-- The value of a string.
unfoldable pub string_value : List ℕ → List ℕ
string_value [] = []
string_value (c ∷ t) = elements_value Between t

-- The bytes of a name: the value of a string, or the bytes of idchars.
unfoldable pub named_bytes : List ℕ → List ℕ
named_bytes [] = []
named_bytes (c ∷ t) = if c == quote then elements_value Between t else encode_utf8_all (c ∷ t)

-- The bytes of the name that follows the first character of a lexeme.
unfoldable pub name_bytes : List ℕ → List ℕ
name_bytes [] = []
name_bytes (c ∷ t) = named_bytes t

-- A name that is UTF-8 and not empty, or its error. An empty name has the error `empty`.
unfoldable pub checked_name : LexError → List ℕ → Result (List ℕ) LexError
checked_name empty [] = Err empty
checked_name empty (b ∷ bs) = if is_utf8 (b ∷ bs) then Ok (b ∷ bs) else Err InvalidUtf8Id

-- The name of a lexeme, or its error. An empty name has the error `empty`.
unfoldable pub name_value : LexError → List ℕ → Result (List ℕ) LexError
name_value empty w = checked_name empty (name_bytes w)

-- The error of an empty name, by the kind of its token.
abbrev pub empty_name : TokenKind → LexError
empty_name Annotation = EmptyAnnotation
empty_name kind = EmptyId

-- The result of a function that returns a name, with the bytes of the name.
abbrev pub name_answer : {Z : Type 0} → Result (CowStr Z) LexError → Result (List ℕ) LexError
name_answer (Ok name) = Ok (cow_str_bytes name)
name_answer (Err error) = Err error
