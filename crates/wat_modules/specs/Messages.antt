-- The messages of syntax errors of modules, in bytes, and their offsets. The standard does not define them. Each is a
-- function of the kind of the error, the text and its visible tokens, and the count of tokens from the one in error on.
use Rattle.std.specs.Prelude.{ℕ, Bool, true, false, not, ◌+◌, ◌*◌, ◌-◌, ◌++◌, ◌&&◌, ◌||◌, bytes_eq, nat_le, List, length, codes, slice_get, if◌then◌else◌, Option, Some, None}
use Rattle.std.specs.Char.{is_control}
use Rattle.std.specs.Fmt.{decimal}
use Rattle.std.specs.List.{list_any}
use Rattle.wat_lex.specs.declared.lexer.kinds.Token.{Token}
use Rattle.wat_lex.specs.declared.lexer.kinds.TokenKind.{TokenKind}
use Rattle.wat_lex.specs.declared.lexer.kinds.TokenKind.TheVariants as kind
use Rattle.wat_lex.specs.errors.Positions.{line_and_column}
use Rattle.wat_lex.specs.grammar.Classes.{is_confusing}
use Rattle.wat_lex.specs.tokens.ReadableTokens.{token_text, word_of}
use Rattle.wat_module_ast.specs.declared.error.Expected.{Expected}
use Rattle.wat_module_ast.specs.declared.error.Expected.TheVariants as expected
use Rattle.wat_module_ast.specs.declared.error.FaultKind.{FaultKind}
use Rattle.wat_module_ast.specs.declared.error.FaultKind.TheVariants.{Unexpected, UnknownWord, UnknownName, WrongLabel, OutOfRange, NotUtf8, Duplicate, SecondStart, OtherType, LateImport}
use Rattle.wat_module_ast.specs.declared.error.Range.{Range}
use Rattle.wat_module_ast.specs.declared.error.Range.TheVariants as range
use Rattle.wat_module_ast.specs.declared.error.Space.{Space}
use Rattle.wat_module_ast.specs.declared.error.Space.TheVariants as space
use Rattle.wat_modules.specs.Nearest.{block_label, id_of, limit, names_in_scope, nearest}

-- Offsets.

abbrev pub offset_or : ℕ → Option Token → ℕ
offset_or end None = end
offset_or end (Some t) = t.offset

-- The token from which on `left` tokens remain, or `None` if none remains.
abbrev pub token_at : List Token → ℕ → Option Token
token_at tokens left = slice_get tokens (length tokens - left)

-- The offset of the token from which on `left` tokens remain, or the end of the text if none remains.
abbrev pub place : List ℕ → List Token → ℕ → ℕ
place text tokens left = offset_or (length text) (token_at tokens left)

-- A location by its line and its column, both from 0. A message has both from 1, and the column counts bytes, also those of
-- characters of several bytes (`line_and_column`).
abbrev pub location : ℕ × ℕ → List ℕ
location p = codes "line " ++ (decimal (p.0 + 1) ++ (codes ", column " ++ decimal (p.1 + 1)))

-- The token in error.

-- A token by its kind.
abbrev pub kind_phrase : TokenKind → List ℕ
kind_phrase kind.String = codes "a string"
kind_phrase kind.Id = codes "an identifier"
kind_phrase kind.Keyword = codes "a keyword"
kind_phrase (kind.Integer k) = codes "an integer"
kind_phrase (kind.Float k) = codes "a float"
kind_phrase kind.Reserved = codes "a reserved token"
kind_phrase kind.Annotation = codes "an annotation"
kind_phrase k = codes "a token"

abbrev pub is_string : TokenKind → Bool
is_string kind.String = true
is_string k = false

-- Returns `true` if no message has the character: it is a control character (U+0000 to U+001F, and U+007F to U+009F), or
-- one of the 9 confusing characters, which make a text display misleadingly.
abbrev pub is_unprintable : ℕ → Bool
is_unprintable c = is_control c || is_confusing c

-- Returns `true` if messages have the lexeme of the token: it is not a string, has at most 40 bytes, and none of these
-- characters.
abbrev pub is_quotable : List ℕ → Token → Bool
is_quotable text t = if is_string t.kind then false else (nat_le t.len 40 && not (list_any is_unprintable (word_of text t)))

-- A lexeme in backticks.
abbrev pub quoted : List ℕ → List ℕ
quoted w = codes "`" ++ (w ++ codes "`")

-- The lexeme of a token, if messages have it, and otherwise nothing.
abbrev pub quotable : List ℕ → Token → List ℕ
quotable text t = if is_quotable text t then token_text text t else codes ""

abbrev pub keyword_by : List ℕ → Token → TokenKind → List ℕ
keyword_by text t kind.Keyword = quotable text t
keyword_by text t k = codes ""

-- The lexeme of a token, if it is a keyword and messages have its lexeme, and otherwise nothing.
abbrev pub keyword_of : List ℕ → Option Token → List ℕ
keyword_of text None = codes ""
keyword_of text (Some t) = keyword_by text t t.kind

-- What a message has after the lexeme of a token of this kind, which the token `next` follows: the keyword of a group after
-- its `(`, without the whitespace between the two, and otherwise nothing.
abbrev pub keyword_after : List ℕ → TokenKind → Option Token → List ℕ
keyword_after text kind.LParen next = keyword_of text next
keyword_after text k next = codes ""

-- The token in error, which the token `next` follows, or the end of the text.
abbrev pub found : List ℕ → Option Token → Option Token → List ℕ
found text None next = codes "the end of the text"
found text (Some t) next = if is_quotable text t then quoted (token_text text t ++ keyword_after text t.kind next) else kind_phrase t.kind

-- The token in error after a noun, if messages have its lexeme, and otherwise nothing.
abbrev pub named : List ℕ → Option Token → List ℕ
named text None = codes ""
named text (Some t) = if is_quotable text t then codes " " ++ quoted (token_text text t) else codes ""

-- The identifier in scope that is nearest to an unknown one, which is the token at index `i`, if messages have its lexeme.
abbrev pub nearest_to : List ℕ → Space → List Token → ℕ → Option Token → Option Token
nearest_to text s ts i None = None
nearest_to text s ts i (Some t) =
    if is_quotable text t then nearest text (limit (token_text text t)) (token_text text t) (names_in_scope text s ts i) else None

-- The identifier that a message suggests for the token in error, from which on `left` tokens remain. If the token is an unknown
-- identifier, it is the nearest one. If the token is a label after `end` or `else` that is not the label of its block, it is
-- the label of the block.
abbrev pub suggestion : List ℕ → List Token → FaultKind → ℕ → Option Token
suggestion text ts (UnknownName s) left = nearest_to text s ts (length ts - left) (id_of (token_at ts left))
suggestion text ts WrongLabel left = block_label text ts 0 (length ts - left - 1)
suggestion text ts k left = None

-- This identifier after the one in error, with its location, if messages have its lexeme.
abbrev pub suggested : List ℕ → Option Token → List ℕ
suggested text None = codes ""
suggested text (Some t) =
    if is_quotable text t then codes "; did you mean `" ++ (token_text text t ++ (codes "` at " ++ (location (line_and_column text t.offset) ++ codes "?"))) else codes ""

-- Phrases.

-- An item of an index space.
abbrev pub noun : Space → List ℕ
noun space.Type = codes "type"
noun space.Func = codes "function"
noun space.Table = codes "table"
noun space.Memory = codes "memory"
noun space.Global = codes "global"
noun space.Elem = codes "element segment"
noun space.Data = codes "data segment"
noun space.Local = codes "local"
noun space.Label = codes "label"

-- An index of an index space.
abbrev pub index_phrase : Space → List ℕ
index_phrase space.Type = codes "a type index"
index_phrase space.Func = codes "a function index"
index_phrase space.Table = codes "a table index"
index_phrase space.Memory = codes "a memory index"
index_phrase space.Global = codes "a global index"
index_phrase space.Elem = codes "an element segment index"
index_phrase space.Data = codes "a data segment index"
index_phrase space.Local = codes "a local index"
index_phrase space.Label = codes "a label index"

-- What the grammar accepts. Before `(then` of a folded `if` are the folded instructions of its condition (6.5.10).
abbrev pub phrase : Expected → List ℕ
phrase expected.Close = codes "`)`"
phrase expected.OpenOrClose = codes "`(` or `)`"
phrase expected.End = codes "the end of the text"
phrase expected.Field = codes "a module field"
phrase expected.FieldOrClose = codes "a module field or `)`"
phrase expected.FieldOrEnd = codes "a module field or the end of the text"
phrase expected.Instruction = codes "an instruction"
phrase expected.InstructionOrClose = codes "an instruction or `)`"
phrase expected.InstructionOrEnd = codes "an instruction or `end`"
phrase expected.InstructionElseOrEnd = codes "an instruction, `else` or `end`"
phrase expected.Then = codes "a folded instruction or `(then`"
phrase expected.Else = codes "`else`"
phrase expected.ElseOrClose = codes "`(else` or `)`"
phrase expected.Expression = codes "an expression"
phrase expected.ExpressionOrClose = codes "an expression or `)`"
phrase expected.ValueType = codes "a value type"
phrase expected.ValueTypeOrClose = codes "a value type or `)`"
phrase expected.VariableOrClose = codes "an identifier, a value type or `)`"
phrase expected.ReferenceType = codes "a reference type"
phrase expected.HeapType = codes "a heap type"
phrase expected.GlobalType = codes "a global type"
phrase expected.GlobalDefinition = codes "a global type, `(export` or `(import`"
phrase expected.Mut = codes "`mut`"
phrase expected.FunctionType = codes "`(func`"
phrase expected.TypeUseOrClose = codes "`(type`, `(param`, `(result` or `)`"
phrase expected.ParamOrResultOrClose = codes "`(param`, `(result` or `)`"
phrase expected.ResultOrClose = codes "`(result` or `)`"
phrase expected.Limits = codes "limits"
phrase expected.MemoryDefinition = codes "limits, `(data`, `(export` or `(import`"
phrase expected.TableDefinition = codes "limits, a reference type, `(export` or `(import`"
phrase expected.MaximumOrClose = codes "a maximum or `)`"
phrase expected.MaximumOrReferenceType = codes "a maximum or a reference type"
phrase (expected.Index s) = index_phrase s
phrase expected.FunctionOrClose = codes "a function index or `)`"
phrase expected.Unsigned = codes "an unsigned integer"
phrase expected.Integer = codes "an integer of at most 64 bits"
phrase expected.Number = codes "a number"
phrase expected.LaneIndex = codes "a lane index"
phrase expected.Shape = codes "a vector shape"
phrase expected.Text = codes "a string"
phrase expected.TextOrClose = codes "a string or `)`"
phrase expected.DataSegment = codes "`(memory`, an offset, a string or `)`"
phrase expected.ItemKind = codes "`func`, `table`, `memory` or `global`"
phrase expected.ExportDescription = codes "an export description"
phrase expected.ImportDescription = codes "an import description"
phrase expected.Elem = codes "`(elem`"
phrase expected.ElementList = codes "a reference type or `func`"
phrase expected.ElementListOrFunction = codes "a reference type, `func`, a function index or `)`"
phrase expected.ElementOrClose = codes "a function index, an expression or `)`"
phrase expected.ElementSegment = codes "`(table`, an offset, `declare`, a reference type or `func`"

-- What an unknown keyword should be, without an article.
abbrev pub word_noun : Expected → List ℕ
word_noun expected.Field = codes "module field"
word_noun expected.Instruction = codes "instruction"
word_noun expected.InstructionOrClose = codes "instruction"
word_noun expected.InstructionOrEnd = codes "instruction"
word_noun expected.InstructionElseOrEnd = codes "instruction"
word_noun expected.ValueType = codes "value type"
word_noun expected.ValueTypeOrClose = codes "value type"
word_noun expected.VariableOrClose = codes "value type"
word_noun expected.GlobalType = codes "value type"
word_noun expected.GlobalDefinition = codes "value type"
word_noun expected.ReferenceType = codes "reference type"
word_noun expected.TableDefinition = codes "reference type"
word_noun expected.MaximumOrReferenceType = codes "reference type"
word_noun expected.HeapType = codes "heap type"
word_noun expected.Shape = codes "vector shape"
word_noun e = codes "keyword"

-- The values of a range.
abbrev pub range_phrase : Range → List ℕ
range_phrase (range.Unsigned half) = codes "0 to " ++ decimal (half * 2 - 1)
range_phrase (range.Signed half) = codes "-" ++ (decimal half ++ (codes " to " ++ decimal (half - 1)))
range_phrase range.Float32 = codes "a 32-bit float"
range_phrase range.Float64 = codes "a 64-bit float"

-- 6.4 to 6.6: returns `true` for ten keywords that the grammar has in other positions than those of value types, instructions
-- and fields. If they are in error, they are unexpected, and not unknown.
abbrev pub is_keyword : List ℕ → Bool
is_keyword w =
    bytes_eq w (codes "end") || (bytes_eq w (codes "else") || (bytes_eq w (codes "then") || (bytes_eq w (codes "param") || (bytes_eq w (codes "result") || (bytes_eq w (codes "local") || (bytes_eq w (codes "type") || (bytes_eq w (codes "func") || (bytes_eq w (codes "import") || bytes_eq w (codes "export")))))))))

-- Returns `true` if the token is such a keyword.
abbrev pub is_misplaced : List ℕ → Option Token → Bool
is_misplaced text None = false
is_misplaced text (Some t) = is_keyword (token_text text t)

-- The kind of an error in its message. If the token in error is one of these ten keywords (`b` is true), it is not unknown, but
-- unexpected. Any other keyword is unknown, even if the grammar has it, such as `data` in the position of an instruction.
abbrev pub kind_by : Bool → FaultKind → FaultKind
kind_by true (UnknownWord e) = Unexpected e
kind_by b k = k

-- The count of tokens from the first of two on, if the error has two, and otherwise 0.
abbrev pub first_of : FaultKind → ℕ
first_of (Duplicate s left) = left
first_of (SecondStart left) = left
first_of (LateImport left) = left
first_of k = 0

-- The message of a syntax error by its kind, the token in error, this token as it follows a noun, the location of the
-- first of two tokens, and the identifier that the message suggests.
abbrev pub message_by : FaultKind → List ℕ → List ℕ → List ℕ → List ℕ → List ℕ
message_by (Unexpected e) found named first near = codes "expected " ++ (phrase e ++ (codes ", found " ++ found))
message_by (UnknownWord e) found named first near = codes "unknown " ++ (word_noun e ++ named)
message_by (UnknownName s) found named first near = codes "unknown " ++ (noun s ++ (named ++ near))
message_by WrongLabel found named first near = codes "mismatching label" ++ (named ++ near)
message_by (OutOfRange r) found named first near = codes "number out of range: expected " ++ (range_phrase r ++ (codes ", found " ++ found))
message_by NotUtf8 found named first near = codes "name is not UTF-8"
message_by (Duplicate s left) found named first near = codes "duplicate " ++ (noun s ++ (named ++ (codes ", first defined at " ++ first)))
message_by (SecondStart left) found named first near = codes "duplicate start function, first defined at " ++ first
message_by OtherType found named first near = codes "parameters or results differ from those of type" ++ named
message_by (LateImport left) found named first near = codes "import after the first definition, which is at " ++ first

-- The message of a syntax error at the token from which on `left` tokens remain.
abbrev pub message : List ℕ → List Token → FaultKind → ℕ → List ℕ
message text tokens k left =
    message_by (kind_by (is_misplaced text (token_at tokens left)) k) (found text (token_at tokens left) (token_at tokens (left - 1))) (named text (token_at tokens left)) (location (line_and_column text (place text tokens (first_of k)))) (suggested text (suggestion text tokens k left))
