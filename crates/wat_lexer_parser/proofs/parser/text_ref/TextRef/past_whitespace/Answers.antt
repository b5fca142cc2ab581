use Rattle.std.proofs.Common.{◌≡◌, ◌<◌, ◌+◌, ap, sym, subst, arith, Some}
use Rattle.std.specs.Prelude.{slice_get}
use Rattle.std.specs.Str.{IsCharBoundary}
use Rattle.wat_lex.specs.tokens.Blanks.{is_blank}
use Rattle.wat_lex.specs.tokens.Setting.{Setting}
use Rattle.wat_lex.specs.tokens.Tiling.{TokenAt}
use Rattle.wat_lexer_parser.specs.inside.Next.{IsPlace}
use Rattle.wat_lexer_parser.specs.lemmas.Parts.{is_paren}
use Rattle.wat_lexer_parser.specs.places.Source.{Source}
use Rattle.wat_lexer_parser.proofs.places.Bytes.{boundary, some_is, next_place}
use Rattle.wat_lexer_parser.proofs.shown.Groups.{inside_passes}
use Rattle.wat_lexer_parser.proofs.shown.Looks.{blank_passes, shown_passed}
use Rattle.wat_lexer_parser.proofs.parser.text_ref.TextRef.past_whitespace.Goals as goal

pub past_whitespace-end-requires : goal.past_whitespace-end-requires
past_whitespace-end-requires c =
    let s = c.args.self.now in
    let same : s.setting ≡ c.self.inside.lexer = ap (λ (x : Source). x.setting) (sym c.self.view_is) in
    subst (λ (x : Setting). IsCharBoundary x.text c.args.byte) same (boundary s c.args.place c.args.byte c.lemma_read.ensures.utf8 c.lemma_read.ensures.read c.requires)

pub returns-clause-place : goal.returns-clause-place
returns-clause-place c =
    let s = c.args.self.now in
    let same : c.self.inside.lexer ≡ s.setting = ap (λ (x : Source). x.setting) c.self.view_is in
    let some : c.args.byte < c.past_whitespace-end.result = omega (arith, c.past_whitespace-end.ensures.value, c.if-end-byte.false) in
    let white = c.past_whitespace-end.ensures.token some in
    let there = some_is s c.args.place c.args.byte (Some white.0) c.lemma_read.ensures.read c.requires (subst (λ (x : Setting). TokenAt x c.args.byte white.0) same white.1) in
    subst (IsPlace s (c.args.place + 1)) (sym white.3) (next_place s c.args.place white.0 there)

pub returns-clause-same : goal.returns-clause-same
returns-clause-same c = λ names.
    let s = c.args.self.now in
    let same : c.self.inside.lexer ≡ s.setting = ap (λ (x : Source). x.setting) c.self.view_is in
    let some : c.args.byte < c.past_whitespace-end.result = omega (arith, c.past_whitespace-end.ensures.value, c.if-end-byte.false) in
    let white = c.past_whitespace-end.ensures.token some in
    let there = some_is s c.args.place c.args.byte (Some white.0) c.lemma_read.ensures.read c.requires (subst (λ (x : Setting). TokenAt x c.args.byte white.0) same white.1) in
    shown_passed s names c.args.place white.0 there (blank_passes s.setting.text names white.0 (slice_get s.tokens (c.args.place + 1)) (ap is_blank white.2))

pub returns-clause-inside : goal.returns-clause-inside
returns-clause-inside c = λ names paren depth.
    let s = c.args.self.now in
    let same : c.self.inside.lexer ≡ s.setting = ap (λ (x : Source). x.setting) c.self.view_is in
    let some : c.args.byte < c.past_whitespace-end.result = omega (arith, c.past_whitespace-end.ensures.value, c.if-end-byte.false) in
    let white = c.past_whitespace-end.ensures.token some in
    let there = some_is s c.args.place c.args.byte (Some white.0) c.lemma_read.ensures.read c.requires (subst (λ (x : Setting). TokenAt x c.args.byte white.0) same white.1) in
    inside_passes s names paren c.args.place depth white.0 there (ap is_paren white.2)
