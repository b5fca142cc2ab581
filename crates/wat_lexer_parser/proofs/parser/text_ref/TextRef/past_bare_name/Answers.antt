use Rattle.std.proofs.Common.{◌≡◌, ◌<◌, ◌+◌, ◌∙◌, ap, sym, subst, arith, drop, refl, rules, Some}
use Rattle.std.specs.Str.{IsCharBoundary}
use Rattle.wat_lex.specs.tokens.BareWords.{BareWordAt, bare_len}
use Rattle.wat_lex.specs.tokens.Setting.{Setting}
use Rattle.wat_lexer_parser.specs.inside.Next.{IsPlace}
use Rattle.wat_lexer_parser.specs.inside.ShownIn.{step_next}
use Rattle.wat_lexer_parser.specs.names.RegisteredNames.{no_names}
use Rattle.wat_lexer_parser.specs.places.Source.{Source}
use Rattle.wat_lexer_parser.proofs.inside.BareNames.{bare_plain, first_byte}
use Rattle.wat_lexer_parser.proofs.inside.PlainNames.{plain_value}
use Rattle.wat_lexer_parser.proofs.places.Bytes.{boundary, some_is, next_place}
use Rattle.wat_lexer_parser.proofs.shown.Annotations.{skipped}
use Rattle.wat_lexer_parser.proofs.parser.text_ref.TextRef.past_bare_name.Goals as goal

pub past_bare_word-end-requires : goal.past_bare_word-end-requires
past_bare_word-end-requires c =
    let s = c.args.self.now in
    let same : s.setting ≡ c.self.inside.lexer = ap (λ (x : Source). x.setting) (sym c.self.view_is) in
    subst (λ (x : Setting). IsCharBoundary x.text c.args.byte) same (boundary s c.args.place c.args.byte c.lemma_read.ensures.utf8 c.lemma_read.ensures.read c.requires.place)

pub returns : goal.returns
returns c =
    let s = c.args.self.now in
    let text = s.setting.text in
    let same : c.self.inside.lexer ≡ s.setting = ap (λ (x : Source). x.setting) c.self.view_is in
    let at = boundary s c.args.place c.args.byte c.lemma_read.ensures.utf8 c.lemma_read.ensures.read c.requires.place in
    let some : c.args.byte < c.past_bare_word-end.result = omega (arith, c.past_bare_word-end.ensures.value, c.if-end-byte-lt2.false) in
    let word = subst (λ (x : Setting). BareWordAt x c.args.byte c.past_bare_word-end.result) same (c.past_bare_word-end.ensures.token some) in
    let t = word.token in
    let there = some_is s c.args.place c.args.byte (Some t) c.lemma_read.ensures.read c.requires.place word.there in
    let reader = c.tokens.ensures.readable s.setting c.args.byte t at word.there in
    let kind = word.marked (first_byte text c.args.byte c.requires.marked) in
    let offset = word.there.offset in
    let long : 1 < t.len = omega (arith, word.ends, offset, c.if-end-byte-lt2.false) in
    let value = subst (λ (x : Setting). c.past_bare_word-end.result ≡ c.args.byte + bare_len (drop c.args.byte x.text)) same c.past_bare_word-end.ensures.value in
    let plain = bare_plain text t c.args.byte c.past_bare_word-end.result offset value (omega (arith, c.if-end-byte-lt2.false)) in
    let none : c.args.names.now ≡ no_names = search rules in
    let name = plain_value c.tokens.ensures.word c.names.ensures.value text t c.lemma_read.ensures.utf8 reader kind plain long in
    record {
      name = t;
      there = there;
      kind = kind;
      skip = ap (step_next text c.args.names.now) there ∙ skipped text c.args.names.now t name.0 none kind name.1;
      next = refl;
      place = subst (IsPlace s (c.args.place + 1)) (sym word.ends) (next_place s c.args.place t there);
    }
