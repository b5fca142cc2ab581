use Rattle.std.proofs.Common.{◌≡◌, ◌<◌, ◌∙◌, sym, arith, rules, get_or, length, Some}
use Rattle.std.specs.Prelude.{slice_get}
use Rattle.std.proofs.lemmas.Option.{get_or_from_slice_get}
use Rattle.wat_lexer_parser.proofs.places.Bytes.{next_place}
use Rattle.wat_lexer_parser.proofs.shown.Looks.{shown_take}
use Rattle.wat_lexer_parser.proofs.parser.table_ref.TableRef.plain_at.Goals as goal

pub returns-in-Some : goal.returns-in-Some
returns-in-Some c names =
    let t = c.in-Some.token in
    let s = c.args.self.now in
    let i = c.past_blanks-i.result in
    let there : slice_get s.tokens i ≡ Some t = sym c.token_at.ensures.value ∙ c.in-Some.is in
    let h : i < length s.tokens = search rules in
    let e : t ≡ get_or s.tokens i t = sym (get_or_from_slice_get s.tokens i t t there) in
    record {
      value = c.past_blanks-i.ensures.same names ∙ shown_take s names i t h e (c.is_plain.ensures c.if-is_plain.true names);
      on = omega (arith, c.past_blanks-i.ensures.on);
      after = record { place = next_place s i t there; reader = c.lemma_readable.ensures.token; short = c.lemma_readable.ensures.short };
    }
