-- RFC 8259, section 4 (objects): the line of a token as JSON. It is an object with the name of the text's file, if
-- there is one, the token's offset and its length in bytes, its kind, its text, and its line and column. The line of an
-- error has its message instead of length, kind and text.
use Rattle.std.specs.Prelude.{◌+◌, ℕ, List, ◌++◌, codes, flat_map, Option, Some, None}
use Rattle.std.specs.Fmt.{decimal}
use Rattle.wat_lex.specs.errors.Positions.{line_and_column}
use Rattle.wat_lex.specs.tokens.ReadableTokens.{token_text}
use Rattle.wat_lex.specs.declared.lexer.kinds.Token.{Token}
use Rattle.wat_tokens_io.specs.JsonStrings.{json_string}
use Rattle.wat_tokens_io.specs.Lines.{kind_name}

-- The start of each object: the opening brace, and the member `file` if the text is that of a file with this name.
abbrev pub json_open : Option (List ℕ) → List ℕ
json_open None = codes "{"
json_open (Some file) = codes "{\"file\":" ++ json_string file ++ codes ","

-- The members of a token `t` before its text, and the name of the member `text`.
abbrev pub json_head : Token → List ℕ
json_head t =
    codes "\"offset\":" ++ decimal t.offset
    ++ codes ",\"length\":" ++ decimal t.len
    ++ codes ",\"kind\":" ++ json_string (kind_name t.kind)
    ++ codes ",\"text\":"

-- The part of the line of a token `t` before its text. The line begins with `begin`.
abbrev pub json_front : List ℕ → Token → List ℕ
json_front begin t = begin ++ json_head t

-- The end of each object, with the line and column `place`, which count from 0; the members count from 1.
abbrev pub json_tail : ℕ × ℕ → List ℕ
json_tail place = codes ",\"line\":" ++ decimal (place.0 + 1) ++ codes ",\"column\":" ++ decimal (place.1 + 1) ++ codes "}\n"

-- The line of a token `t` of `text`. It begins with `begin`.
abbrev pub json_line : List ℕ → List ℕ → Token → List ℕ
json_line begin text t = json_front begin t ++ json_string (token_text text t) ++ json_tail (line_and_column text t.offset)

-- The lines of `tokens` of `text`, in their order. Each begins with `begin`.
abbrev pub json_lines : List ℕ → List ℕ → List Token → List ℕ
json_lines begin text tokens = flat_map (json_line begin text) tokens

-- The members of an error before its message, and the name of the member with the message.
abbrev pub json_fault_head : ℕ → List ℕ
json_fault_head offset = codes "\"offset\":" ++ decimal offset ++ codes ",\"fault\":"

-- The line of an error at the byte `offset` of `text`, with this `message`. It begins with `begin`.
abbrev pub json_fault : List ℕ → List ℕ → ℕ → List ℕ → List ℕ
json_fault begin text offset message = begin ++ json_fault_head offset ++ json_string message ++ json_tail (line_and_column text offset)
