use Rattle.std.proofs.Common.{◌≡◌, ap, sym, subst}
use Rattle.std.proofs.lemmas.Str.{IsCharBoundary-start}
use Rattle.std.specs.Str.{IsUtf8}
use Rattle.wat_lex.specs.tokens.Setting.{Setting}
use Rattle.wat_lex.specs.tokens.Tiling.{MaximalTiling}
use Rattle.wat_lexer_parser.specs.places.Source.{Source}
use Rattle.wat_lexer_parser.proofs.parser.lazy.LazyBuffer.lex_fault.Goals as goal

pub first_fault-requires : goal.first_fault-requires
first_fault-requires c =
    let own : c.args.self.now.setting ≡ c.self.inside.lexer = ap (λ (s : Source). s.setting) (sym c.self.view_is) in
    IsCharBoundary-start c.self.inside.lexer.text (subst (λ (x : Setting). IsUtf8 x.text) own c.lemma_sound.ensures.utf8)

pub returns-clause-ending : goal.returns-clause-ending
returns-clause-ending c =
    let s = c.args.self.now in
    let own : s.setting ≡ c.self.inside.lexer = ap (λ (s : Source). s.setting) (sym c.self.view_is) in
    sym (c.first_fault.ensures.one s.ending (record { tokens = s.tokens; tiling = subst (λ x. MaximalTiling x 0 s.tokens s.ending) own c.lemma_sound.ensures.read }))
