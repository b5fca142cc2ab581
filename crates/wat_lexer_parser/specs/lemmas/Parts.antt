-- Parts of other definitions, each with a name, for proofs by case analysis in this crate and in crates that use it.
-- The contracts can be understood without them.
use Rattle.std.specs.Prelude.{ℕ, Bool, false, ◌==◌, ◌&&◌, ◌||◌, ◌+◌, List, length, is_some, option_map, unwrap_or, Option, Result, Ok, Err}
use Rattle.wat_lex.specs.grammar.Classes.{at_sign}
use Rattle.wat_lexer_parser.specs.groups.Sorts.{is_open, is_close}
use Rattle.wat_lexer_parser.specs.parser.State.{Report, Seen}
use Rattle.wat_lexer_parser.specs.parser.Takers.{Reader, word_allocates}
use Rattle.wat_lexer_parser.specs.places.Places.{offset_at}
use Rattle.wat_lexer_parser.specs.places.Source.{Source, Token, TokenKind}
use Rattle.wat_lexer_parser.specs.Cases.{cases_of}
use Rattle.wat_lexer_parser.specs.shown.Showing.{Look}

-- From `Balanced`: true for the kinds of parentheses.
abbrev pub is_paren : TokenKind → Bool
is_paren kind = is_open kind || is_close kind

-- From `is_marked`: true for the byte `@`.
abbrev pub is_mark : Option ℕ → Bool
is_mark byte = unwrap_or (option_map (λ b. b == at_sign) byte) false

-- From `offset_at`: the end of the last token before a position.
abbrev pub end_of : Option Token → ℕ
end_of last = unwrap_or (option_map (λ t. t.offset + t.len) last) 0

-- From `current_span`: the span for the result of a peek.
abbrev pub span_of : Source → ℕ → Look → ℕ
span_of s p look = cases_of look (length s.setting.text) (λ t q. t.offset) (λ f. offset_at s.tokens p)

-- From `sees_at`: true if the peek found a token of the reader's kind.
abbrev pub sees : {V : Type 0} → Reader V → List ℕ → Seen → Result Bool Report
sees read text found = cases_of found (Ok false) (λ t q. Ok (is_some (read text t t.kind))) Err

-- From `allocates_at`: true if consuming the token that the peek found may allocate.
abbrev pub may_take : {V : Type 0} → Reader V → List ℕ → Seen → Bool
may_take read text found = cases_of found false (λ t q. is_some (read text t t.kind) && word_allocates text t t.kind) (λ f. false)

-- From `opened` and `closed`: the position after a parenthesis, or the error `refusal`.
abbrev pub taken_or : Report → Result (Option (Unit {0} × ℕ)) Report → Result ℕ Report
taken_or refusal found = cases_of found (Err refusal) (λ v q. Ok q) Err
