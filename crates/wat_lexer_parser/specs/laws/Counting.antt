-- WebAssembly 2.0, 6.2 (lexical format), and the custom annotations proposal. The visible tokens of a text are those
-- of its significant tokens.
use Rattle.std.specs.Prelude.{ℕ, List, ◌∷◌, not, filter, drop, IsFalse, Option, Some, None, Ok, Err}
use Rattle.std.specs.Str.{IsUtf8}
use Rattle.wat_lex.specs.declared.lexer.faults.LexFault.{LexFault}
use Rattle.wat_lex.specs.declared.lexer.kinds.Token.{Token}
use Rattle.wat_lex.specs.tokens.Blanks.{is_blank}
use Rattle.wat_lexer_parser.specs.names.RegisteredNames.{Names}
use Rattle.wat_lexer_parser.specs.places.Source.{Source, IsRead}
use Rattle.wat_lexer_parser.specs.shown.Shown.{Finding, Shown, IsMarked}

-- The significant tokens: neither whitespace nor comments.
abbrev pub counting : List Token → List Token
counting ts = filter (λ t. not (is_blank t.kind)) ts

-- The finding, with only the significant tokens after the visible one.
abbrev pub counting_after : Finding → Finding
counting_after (Ok None) = Ok None
counting_after (Ok (Some (t, r))) = Ok (Some (t, counting r))
counting_after (Err f) = Err f

-- Theorem: the token visible from a position `p` of a text is the one visible in the significant tokens from there,
-- and the significant tokens after it follow. This includes the end and errors.
abbrev pub CountingShowsTheSame : Type 0
CountingShowsTheSame = (s : Source) (names : Names) (p : ℕ) (a : Finding) → IsUtf8 s.setting.text → IsRead s → Shown s.setting.text s.ending names (drop p s.tokens) a
    → Shown s.setting.text s.ending names (counting (drop p s.tokens)) (counting_after a)

-- Theorem: a significant token at the start of a list of tokens is visible under each set of names, unless it is a `(`
-- followed immediately by `@`.
abbrev pub PlainTokensAreShown : Type 0
PlainTokensAreShown = (text : List ℕ) (ending : Option LexFault) (names : Names) (t : Token) (r : List Token) → IsFalse (is_blank t.kind) → (IsMarked text t → ⊥)
    → Shown text ending names (t ∷ r) (Ok (Some (t, r)))
