use Rattle.std.proofs.Common.{◌≡◌, ◌<◌, ◌+◌, ◌∙◌, ap, sym, subst, arith, refl, rules, Some}
use Rattle.std.specs.Str.{IsCharBoundary}
use Rattle.wat_lex.specs.tokens.QuotedNames.{NamedAt}
use Rattle.wat_lex.specs.tokens.Setting.{Setting}
use Rattle.wat_lexer_parser.specs.inside.Next.{IsPlace}
use Rattle.wat_lexer_parser.specs.inside.ShownIn.{step_next}
use Rattle.wat_lexer_parser.specs.names.RegisteredNames.{no_names}
use Rattle.wat_lexer_parser.specs.places.Source.{Source}
use Rattle.wat_lexer_parser.proofs.places.Bytes.{boundary, some_is, next_place}
use Rattle.wat_lexer_parser.proofs.shown.Annotations.{skipped}
use Rattle.wat_lexer_parser.proofs.parser.text_ref.TextRef.past_quoted_name.Goals as goal

pub past_quoted_name-end-requires : goal.past_quoted_name-end-requires
past_quoted_name-end-requires c =
    let s = c.args.self.now in
    let same : s.setting ≡ c.self.inside.lexer = ap (λ (x : Source). x.setting) (sym c.self.view_is) in
    subst (λ (x : Setting). IsCharBoundary x.text c.args.byte) same (boundary s c.args.place c.args.byte c.lemma_read.ensures.utf8 c.lemma_read.ensures.read c.requires)

pub returns : goal.returns
returns c =
    let s = c.args.self.now in
    let same : c.self.inside.lexer ≡ s.setting = ap (λ (x : Source). x.setting) c.self.view_is in
    let end = c.past_quoted_name-end.result in
    let some : c.args.byte < end = omega (arith, c.past_quoted_name-end.ensures.value, c.if-end-byte.false) in
    let name = subst (λ (x : Setting). NamedAt x c.args.byte end) same (c.past_quoted_name-end.ensures.token some) in
    let t = name.token in
    let there = some_is s c.args.place c.args.byte (Some t) c.lemma_read.ensures.read c.requires name.there in
    let none : c.args.names.now ≡ no_names = search rules in
    record {
      name = t;
      there = there;
      kind = name.kind;
      skip = ap (step_next s.setting.text c.args.names.now) there ∙ skipped s.setting.text c.args.names.now t name.name none name.kind name.value;
      next = refl;
      place = subst (IsPlace s (c.args.place + 1)) (sym name.ends) (next_place s c.args.place t there);
    }
