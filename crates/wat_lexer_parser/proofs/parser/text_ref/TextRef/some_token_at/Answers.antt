use Rattle.std.proofs.Common.{◌≡◌, ap, length, sym, subst}
use Rattle.std.specs.Prelude.{◌⊎◌, IfNone, IfSome}
use Rattle.std.specs.Str.{IsCharBoundary}
use Rattle.wat_lex.specs.declared.lexer.faults.LexFault.{LexFault}
use Rattle.wat_lex.specs.tokens.Faults.{FaultAt}
use Rattle.wat_lex.specs.tokens.Setting.{Setting}
use Rattle.wat_lex.specs.tokens.Tiling.{TokenAt}
use Rattle.wat_lexer_parser.specs.places.Source.{Source}
use Rattle.wat_lexer_parser.proofs.places.Bytes.{boundary, none_is, some_is, some_next}
use Rattle.wat_lexer_parser.proofs.parser.text_ref.TextRef.some_token_at.Goals as goal

pub token_at-requires : goal.token_at-requires
token_at-requires c =
    let s = c.args.self.now in
    let same : s.setting ≡ c.self.inside.lexer = ap (λ (x : Source). x.setting) (sym c.self.view_is) in
    subst (λ (x : Setting). IsCharBoundary x.text c.args.byte) same (boundary s c.args.place c.args.byte c.lemma_read.ensures.utf8 c.lemma_read.ensures.read c.requires)

pub returns-clause-token : goal.returns-clause-token
returns-clause-token c =
    let s = c.args.self.now in
    let same : c.self.inside.lexer ≡ s.setting = ap (λ (x : Source). x.setting) c.self.view_is in
    some_is s c.args.place c.args.byte c.token_at.result c.lemma_read.ensures.read c.requires (subst (λ (x : Setting). IfSome c.token_at.result (TokenAt x c.args.byte)) same c.token_at.ensures.token)

pub returns-clause-next : goal.returns-clause-next
returns-clause-next c =
    let s = c.args.self.now in
    let same : c.self.inside.lexer ≡ s.setting = ap (λ (x : Source). x.setting) c.self.view_is in
    some_next s c.args.place c.token_at.result (some_is s c.args.place c.args.byte c.token_at.result c.lemma_read.ensures.read c.requires (subst (λ (x : Setting). IfSome c.token_at.result (TokenAt x c.args.byte)) same c.token_at.ensures.token))

pub returns-clause-none : goal.returns-clause-none
returns-clause-none c =
    let s = c.args.self.now in
    let same : c.self.inside.lexer ≡ s.setting = ap (λ (x : Source). x.setting) c.self.view_is in
    none_is s c.args.place c.args.byte c.token_at.result c.lemma_read.ensures.read c.requires (subst (λ (x : Setting). IfNone c.token_at.result ((c.args.byte ≡ length x.text) ⊎ ((f : LexFault) × FaultAt x c.args.byte f))) same c.token_at.ensures.none)
