use Rattle.std.proofs.Common.{◌≡◌, ◌≤◌, ◌+◌, ◌∙◌, arith, rules, subst, true, Some}
use Rattle.std.specs.Prelude.{slice_get}
use Rattle.wat_lex.specs.tokens.Blanks.{is_blank}
use Rattle.wat_lex.specs.tokens.ReadableTokens.{IsTokenOf}
use Rattle.wat_lexer_parser.specs.inside.FirstTokens.{SightOf}
use Rattle.wat_lexer_parser.proofs.places.Bytes.{next_place}
use Rattle.wat_lexer_parser.proofs.shown.Looks.{blank_passes, shown_passed, shown_taken}
use Rattle.wat_lexer_parser.proofs.parser.text_ref.TextRef.plain_at.Goals as goal

pub returns-in-Plain : goal.returns-in-Plain
returns-in-Plain c plain names =
    let s = c.args.self.now in
    let i = c.past_whitespace-at.result.0 in
    let t = c.in-Some.token in
    let there : slice_get s.tokens i ≡ Some t = search rules in
    let reader : IsTokenOf s.setting.text t = search rules in
    let on : c.tokens.i ≤ i = search rules in
    record {
      value = c.tokens.invariant.same names ∙ c.past_whitespace-at.ensures.same names ∙ shown_taken s names i t there (subst (SightOf s t) c.in-Plain.is c.sight.ensures names (slice_get s.tokens (i + 1)));
      on = omega (arith, c.tokens.invariant.on, on);
      after = record { place = next_place s i t there; reader = reader; short = search rules };
    }

pub tokens-preserved : goal.tokens-preserved
tokens-preserved c =
    let s = c.args.self.now in
    let i = c.past_whitespace-at.result.0 in
    let t = c.in-Some.token in
    let there : slice_get s.tokens i ≡ Some t = search rules in
    let blank : is_blank t.kind ≡ true = search rules in
    let on : c.tokens.i ≤ i = search rules in
    record {
      place = search rules;
      on = omega (arith, c.tokens.invariant.on, on);
      same = λ names. c.tokens.invariant.same names ∙ c.past_whitespace-at.ensures.same names ∙ shown_passed s names i t there (blank_passes s.setting.text names t (slice_get s.tokens (i + 1)) blank);
    }
