-- WebAssembly 2.0, 6.2.2 (tokens) and 6.3 (values): what readers find in the token that a row tells. Rows are not part
-- of the standard.
use Rattle.std.specs.Prelude.{ℕ, Bool, ◌==◌, List, Err, Result, if◌then◌else◌}
use Rattle.wat_lex.specs.declared.lexer.kinds.FloatKind.{FloatKind}
use Rattle.wat_lex.specs.declared.lexer.kinds.FloatKind.TheVariants.{Inf, Nan, NanVal, Normal}
use Rattle.wat_lex.specs.declared.lexer.kinds.Sign.{Sign}
use Rattle.wat_lex.specs.declared.lexer.kinds.Sign.TheVariants as sign
use Rattle.wat_lex.specs.declared.lexer.kinds.Token.{Token}
use Rattle.wat_lex.specs.declared.lexer.kinds.TokenKind.{TokenKind}
use Rattle.wat_lex.specs.declared.lexer.kinds.TokenKind.TheVariants as kind
use Rattle.wat_c_records.specs.declared.counting.Row.{Row}
use Rattle.wat_c_records.specs.declared.rows.KindRow.{KindRow}
use Rattle.wat_c.specs.declared.answers.Refusal.{Refusal}
use Rattle.wat_c.specs.declared.answers.Refusal.TheVariants.{Other}

abbrev pub sign_known : ℕ → Sign
sign_known code = if code == 1 then sign.Plus else if code == 2 then sign.Minus else sign.None

abbrev pub float_known : ℕ → Bool → Bool → Bool → FloatKind
float_known code negative underscores hex =
    if code == 12 then Inf negative
    else if code == 13 then Nan negative
    else if code == 14 then NanVal negative underscores
    else Normal underscores hex

abbrev pub kind_known : ℕ → ℕ → Bool → Bool → TokenKind
kind_known code sign underscores hex =
    if code == 1 then kind.LineComment
    else if code == 2 then kind.BlockComment
    else if code == 3 then kind.Whitespace
    else if code == 5 then kind.RParen
    else if code == 6 then kind.String
    else if code == 7 then kind.Id
    else if code == 8 then kind.Keyword
    else if code == 9 then kind.Annotation
    else if code == 10 then kind.Reserved
    else if code == 11 then kind.Integer (record { sign = sign_known sign; has_underscores = underscores; hex = hex })
    else if code == 12 then kind.Float (float_known code (sign == 2) underscores hex)
    else if code == 13 then kind.Float (float_known code (sign == 2) underscores hex)
    else if code == 14 then kind.Float (float_known code (sign == 2) underscores hex)
    else if code == 15 then kind.Float (float_known code (sign == 2) underscores hex)
    else kind.LParen

-- `kind_of k` is the kind of the token that a row tells. Both codes of a `(` tell the same kind.
abbrev pub kind_of : KindRow → TokenKind
kind_of k = kind_known k.code k.sign k.has_underscores k.hex

-- `token_of row` is the token that a row tells.
abbrev pub token_of : Row → Token
token_of row = record { offset = row.offset; len = row.len; kind = kind_of row.kind }

-- `FindsOf Is Reads text row found`: what a reader of tokens of the kinds `Is` finds in a row. It is `Other` if the
-- token is of another kind, otherwise a result for which `Reads` holds.
abbrev pub FindsOf : (TokenKind → Type 0) → (List ℕ → Token → Result (List ℕ) Refusal → Type 0) → List ℕ → Row → Result (List ℕ) Refusal → Type 0
FindsOf Is Reads text row (Err Other) = Is (kind_of row.kind) → ⊥
FindsOf Is Reads text row found = Is (kind_of row.kind) × Reads text (token_of row) found
