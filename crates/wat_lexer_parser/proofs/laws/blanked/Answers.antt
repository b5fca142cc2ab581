use Rattle.std.proofs.Common.{◌≡◌, ℕ, List, length, replicate, IfOk, string_bytes, subst, sym, Ok, Err}
use Rattle.std.proofs.lemmas.Str.{IsCharBoundary-start}
use Rattle.std.specs.Prelude.{Result}
use Rattle.wat_lex.specs.tokens.Blanking.{space, blanked}
use Rattle.wat_lex.specs.tokens.Setting.{lenient}
use Rattle.wat_lexer_parser.specs.laws.Blanking.{ShowTheSameWhereRaw}
use Rattle.wat_lexer_parser.proofs.calls.BlankingLaw.{comment_bounds, spaces_are_blanks}
use Rattle.wat_lexer_parser.proofs.laws.blanked.Goals as goal

pub overwritten-requires-clause-first : goal.overwritten-requires-clause-first
overwritten-requires-clause-first c = (comment_bounds c.tokens.ensures.boundary c.blanks.ensures.tokens (record { text = c.args.text.now; flags = lenient }) c.args.token.now c.utf8.text c.requires).0

pub overwritten-requires-clause-last : goal.overwritten-requires-clause-last
overwritten-requires-clause-last c = (comment_bounds c.tokens.ensures.boundary c.blanks.ensures.tokens (record { text = c.args.text.now; flags = lenient }) c.args.token.now c.utf8.text c.requires).1

-- A property of the bytes is one of the result with these bytes.
holds_of : {A E : Type 0} (bytes : A → List ℕ) (r : Result A E) (b : List ℕ) (P : List ℕ → Type 0) → IfOk r (λ x. bytes x ≡ b) → P b → IfOk r (λ x. P (bytes x))
holds_of bytes (Ok x) b P h k = subst P (sym h) k
holds_of bytes (Err x) b P h k = tt

pub returns-clause-length : goal.returns-clause-length
returns-clause-length c =
    let text = c.args.text.now in
    let token = c.args.token.now in
    holds_of (λ other. string_bytes other) c.overwritten.result (blanked text token) (λ b. length b ≡ length text) c.overwritten.ensures
    (c.blanks.ensures.text (record { text = text; flags = lenient }) 0 token (replicate token.len space) c.utf8.text (IsCharBoundary-start text c.utf8.text) (spaces_are_blanks token) c.requires).0

pub returns-clause-same : goal.returns-clause-same
returns-clause-same c =
    let text = c.args.text.now in
    let token = c.args.token.now in
    holds_of (λ other. string_bytes other) c.overwritten.result (blanked text token) (ShowTheSameWhereRaw token text) c.overwritten.ensures
    (c.blanking.ensures text token (replicate token.len space) c.utf8.text (spaces_are_blanks token))
