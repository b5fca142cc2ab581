use Rattle.std.proofs.Common.{◌≡◌, ◌<◌, ◌+◌, ap, sym, subst, arith, Some}
use Rattle.std.specs.Str.{IsCharBoundary}
use Rattle.wat_lex.specs.tokens.BareWords.{BareWordAt}
use Rattle.wat_lex.specs.tokens.Setting.{Setting}
use Rattle.wat_lexer_parser.specs.inside.Next.{IsPlace}
use Rattle.wat_lexer_parser.specs.places.Source.{Source}
use Rattle.wat_lexer_parser.proofs.places.Bytes.{boundary, some_is, next_place}
use Rattle.wat_lexer_parser.proofs.shown.Groups.{inside_passes, no_paren}
use Rattle.wat_lexer_parser.proofs.parser.text_ref.TextRef.past_bare_word.Goals as goal

pub past_bare_word-end-requires : goal.past_bare_word-end-requires
past_bare_word-end-requires c =
    let s = c.args.self.now in
    let same : s.setting ≡ c.self.inside.lexer = ap (λ (x : Source). x.setting) (sym c.self.view_is) in
    subst (λ (x : Setting). IsCharBoundary x.text c.args.byte) same (boundary s c.args.place c.args.byte c.lemma_read.ensures.utf8 c.lemma_read.ensures.read c.requires)

pub returns-clause-place : goal.returns-clause-place
returns-clause-place c =
    let s = c.args.self.now in
    let same : c.self.inside.lexer ≡ s.setting = ap (λ (x : Source). x.setting) c.self.view_is in
    let some : c.args.byte < c.past_bare_word-end.result = omega (arith, c.past_bare_word-end.ensures.value, c.if-end-byte.false) in
    let word = subst (λ (x : Setting). BareWordAt x c.args.byte c.past_bare_word-end.result) same (c.past_bare_word-end.ensures.token some) in
    let there = some_is s c.args.place c.args.byte (Some word.token) c.lemma_read.ensures.read c.requires word.there in
    subst (IsPlace s (c.args.place + 1)) (sym word.ends) (next_place s c.args.place word.token there)

pub returns-clause-inside : goal.returns-clause-inside
returns-clause-inside c = λ names paren depth.
    let s = c.args.self.now in
    let same : c.self.inside.lexer ≡ s.setting = ap (λ (x : Source). x.setting) c.self.view_is in
    let some : c.args.byte < c.past_bare_word-end.result = omega (arith, c.past_bare_word-end.ensures.value, c.if-end-byte.false) in
    let word = subst (λ (x : Setting). BareWordAt x c.args.byte c.past_bare_word-end.result) same (c.past_bare_word-end.ensures.token some) in
    let there = some_is s c.args.place c.args.byte (Some word.token) c.lemma_read.ensures.read c.requires word.there in
    inside_passes s names paren c.args.place depth word.token there (no_paren word.token word.not_open word.not_close)
