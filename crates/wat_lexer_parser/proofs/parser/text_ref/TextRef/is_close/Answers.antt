use Rattle.std.proofs.Common.{◌≡◌, ap, sym, subst, refl, Some}
use Rattle.std.specs.Str.{IsCharBoundary}
use Rattle.wat_lex.specs.declared.lexer.kinds.Token.{Token}
use Rattle.wat_lex.specs.declared.lexer.kinds.TokenKind.TheVariants.{RParen}
use Rattle.wat_lex.specs.tokens.Setting.{Setting}
use Rattle.wat_lex.specs.tokens.Tiling.{TokenAt}
use Rattle.wat_lexer_parser.specs.places.Source.{Source}
use Rattle.wat_lexer_parser.proofs.places.Bytes.{boundary, some_is, next_place}
use Rattle.wat_lexer_parser.proofs.parser.text_ref.TextRef.is_close.Goals as goal

pub is_close-requires : goal.is_close-requires
is_close-requires c =
    let s = c.args.self.now in
    let same : s.setting ≡ c.self.inside.lexer = ap (λ (x : Source). x.setting) (sym c.self.view_is) in
    subst (λ (x : Setting). IsCharBoundary x.text c.args.byte) same (boundary s c.args.place c.args.byte c.lemma_read.ensures.utf8 c.lemma_read.ensures.read c.requires)

pub returns-clause-yes : goal.returns-clause-yes
returns-clause-yes c = λ yes.
    let s = c.args.self.now in
    let same : c.self.inside.lexer ≡ s.setting = ap (λ (x : Source). x.setting) c.self.view_is in
    let t : Token = record { offset = c.args.byte; len = 1; kind = RParen } in
    let there = some_is s c.args.place c.args.byte (Some t) c.lemma_read.ensures.read c.requires (subst (λ (x : Setting). TokenAt x c.args.byte t) same (c.is_close.ensures.token yes)) in
    record { paren = t; there = there; kind = refl; after = next_place s c.args.place t there }
