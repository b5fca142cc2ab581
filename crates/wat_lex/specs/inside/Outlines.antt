-- Results of the scanner for the start of a text: a token; for a run, first its shape and length.
use Rattle.std.specs.Prelude.{◌≡◌, ◌≢◌, ◌≤◌, ℕ, List, [], ◌∷◌, true, false, length, take, get_or}
use Rattle.std.specs.List.{prefix_len}
use Rattle.wat_lex.specs.grammar.Classes.{is_whitespace, is_punctuation, is_idchar, open_paren, close_paren, semicolon, quote}
use Rattle.wat_lex.specs.grammar.Numbers.{sign_of}
use Rattle.wat_lex.specs.grammar.Runs.{WordKind}
use Rattle.wat_lex.specs.tokens.Faults.{begins_word}
use Rattle.wat_lex.specs.inside.ScannedLexemes.{LexemeFound, Refused}
use Rattle.wat_lex.specs.inside.ScannedRuns.{IsKindOfRun}
use Rattle.wat_lex.specs.declared.lexer.settings.Settings.{Settings}
use Rattle.wat_lex.specs.declared.lexer.faults.LexFault.{LexFault}
use Rattle.wat_lex.specs.declared.lexer.kinds.Found.{Found}
use Rattle.wat_lex.specs.declared.lexer.kinds.Found.TheVariants as found
use Rattle.wat_lex.specs.declared.lexer.kinds.Lexeme.{Lexeme}
use Rattle.wat_lex.specs.declared.lexer.kinds.Outline.{Outline}
use Rattle.wat_lex.specs.declared.lexer.kinds.Shape.{Shape}
use Rattle.wat_lex.specs.declared.lexer.kinds.Shape.TheVariants as shape
use Rattle.wat_lex.specs.declared.lexer.kinds.TokenKind.{TokenKind}
use Rattle.wat_lex.specs.declared.lexer.kinds.TokenKind.TheVariants as kind
use Rattle.wat_lex.specs.declared.lexer.scan.starts.Start.{Start}
use Rattle.wat_lex.specs.declared.lexer.scan.starts.Start.TheVariants as start

-- `HasKind shape bytes k`: a token of this shape with these bytes has the kind `k`.
abbrev pub HasKind : Shape → List ℕ → TokenKind → Type 0
HasKind shape.String bytes k = k ≡ kind.String
HasKind shape.Id bytes k = k ≡ kind.Id
HasKind shape.Annotation bytes k = k ≡ kind.Annotation
HasKind shape.Reserved bytes k = k ≡ kind.Reserved
HasKind shape.Word bytes k = WordKind bytes k
HasKind shape.Fault bytes k = ⊥

-- The text begins with a lexical error.
abbrev pub BeginsWithFault : Settings → List ℕ → Type 0
BeginsWithFault flags text = (f : LexFault) × Refused flags text f

-- `Outlined flags text outline`: the run at the start of the text has this shape and this length. The shape `Fault`
-- states that the text begins with a lexical error.
pub record Outlined (flags : Settings) (text : List ℕ) (outline : Outline) : Type 0 where
  pub fits : outline.len ≤ length text
  pub word : (k : TokenKind) → HasKind outline.shape (take outline.len text) k → LexemeFound flags text (record { kind = k; len = outline.len })
  pub fault : outline.shape ≡ shape.Fault → BeginsWithFault flags text

-- `FoundIn flags text found`: the text begins with this lexeme, is at its end, or begins with a lexical error.
abbrev pub FoundIn : Settings → List ℕ → Found → Type 0
FoundIn flags text (found.Lexeme lexeme) = LexemeFound flags text lexeme
FoundIn flags text found.End = text ≡ []
FoundIn flags text found.Fault = BeginsWithFault flags text

-- `IdcharsOnly text lexeme`: this is the lexeme of the idchars at the start of the text, which no string follows
-- directly.
pub record IdcharsOnly (text : List ℕ) (lexeme : Lexeme) : Type 0 where
  pub len : lexeme.len ≡ prefix_len is_idchar text
  pub ends : get_or text lexeme.len 0 ≢ quote
  pub kind : WordKind (take lexeme.len text) lexeme.kind

-- `BeginsWord first k`: every lexeme of idchars that begins with the idchar `first` has the kind `k`.
pub record BeginsWord (first : ℕ) (k : TokenKind) : Type 0 where
  pub idchar : is_idchar first ≡ true
  pub kind : (rest : List ℕ) → WordKind (first ∷ rest) k

-- `IsShapeOfRun bytes idchars strings s`: every run with these bytes, and with these counts of idchars and strings, has
-- the shape `s`.
pub record IsShapeOfRun (bytes : List ℕ) (idchars strings : ℕ) (s : Shape) : Type 0 where
  pub is_at : s ≢ shape.Fault
  pub kind : (k : TokenKind) → HasKind s bytes k → IsKindOfRun bytes idchars strings k

-- `Begun first start`: a text with this first byte has this start.
abbrev pub Begun : ℕ → Start → Type 0
Begun first start.Whitespace = is_whitespace first ≡ true
Begun first start.OpenParen = first ≡ open_paren
Begun first start.CloseParen = first ≡ close_paren
Begun first start.Semicolon = first ≡ semicolon
Begun first start.Punctuation = is_punctuation first ≡ true
Begun first start.Quote = first ≡ quote
Begun first (start.Number sign) = (is_idchar first ≡ true) × (sign ≡ sign_of (first ∷ []))
Begun first start.Letter = (97 ≤ first) × (first ≤ 122)
Begun first start.Keyword = BeginsWord first kind.Keyword
Begun first start.Id = BeginsWord first kind.Id
Begun first start.Annotation = BeginsWord first kind.Annotation
Begun first start.Reserved = BeginsWord first kind.Reserved
Begun first start.Other = begins_word first ≡ false
