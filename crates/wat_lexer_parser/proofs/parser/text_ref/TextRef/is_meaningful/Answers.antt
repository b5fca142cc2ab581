use Rattle.std.proofs.Common.{◌≡◌, ◌∙◌, sym, false, true, rules, Some, None}
use Rattle.std.specs.Prelude.{slice_get}
use Rattle.wat_lex.specs.tokens.Blanks.{is_blank}
use Rattle.wat_lexer_parser.proofs.places.Meaning.{meaning_passed, meaning_found, meaning_ended, meaning_refused}
use Rattle.wat_lexer_parser.proofs.parser.text_ref.TextRef.is_meaningful.Goals as goal

pub returns-in-Ok-None : goal.returns-in-Ok-None
returns-in-Ok-None c =
    let s = c.args.self.now in
    let none : slice_get s.tokens c.tokens.i ≡ None = search rules in
    let end : s.ending ≡ None = search rules in
    sym (c.tokens.invariant.same ∙ meaning_ended s c.tokens.i none end)

pub returns-in-Err : goal.returns-in-Err
returns-in-Err c =
    let s = c.args.self.now in
    let none : slice_get s.tokens c.tokens.i ≡ None = search rules in
    let end : s.ending ≡ Some c.in-Err.field-0 = search rules in
    sym (c.tokens.invariant.same ∙ meaning_refused s c.tokens.i c.in-Err.field-0 none end)

pub returns-then-not-is_blank : goal.returns-then-not-is_blank
returns-then-not-is_blank c =
    let s = c.args.self.now in
    let t = c.in-Ok-Some.token in
    let there : slice_get s.tokens c.tokens.i ≡ Some t = search rules in
    let counts : is_blank t.kind ≡ false = search rules in
    sym (c.tokens.invariant.same ∙ meaning_found s c.tokens.i t there counts)

pub tokens-preserved : goal.tokens-preserved
tokens-preserved c =
    let s = c.args.self.now in
    let t = c.in-Ok-Some.token in
    let there : slice_get s.tokens c.tokens.i ≡ Some t = search rules in
    let blank : is_blank t.kind ≡ true = search rules in
    record { place = search rules; same = c.tokens.invariant.same ∙ meaning_passed s c.tokens.i t there blank }
