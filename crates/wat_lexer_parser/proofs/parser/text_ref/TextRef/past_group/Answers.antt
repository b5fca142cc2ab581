use Rattle.std.proofs.Common.{◌≡◌, ◌∙◌, ap, rules, subst, sym, None, Some}
use Rattle.std.specs.Str.{IsCharBoundary}
use Rattle.wat_lex.specs.tokens.Setting.{Setting}
use Rattle.wat_lex.specs.tokens.UniqueTilings.{EndsFrom}
use Rattle.wat_lex.specs.declared.lexer.kinds.Token.{Token}
use Rattle.wat_lexer_parser.specs.inside.Groups.{found_inside}
use Rattle.wat_lexer_parser.specs.names.RegisteredNames.{Names}
use Rattle.wat_lexer_parser.specs.places.Source.{Source}
use Rattle.wat_lexer_parser.specs.shown.Shown.{unclosed_ending}
use Rattle.wat_lexer_parser.proofs.places.Bytes.{boundary, ends_from}
use Rattle.wat_lexer_parser.proofs.parser.text_ref.TextRef.past_group.Goals as goal

pub first_fault-requires : goal.first_fault-requires
first_fault-requires c =
    let s = c.args.self.now in
    let same : s.setting ≡ c.self.inside.lexer = ap (λ (x : Source). x.setting) (sym c.self.view_is) in
    subst (λ (x : Setting). IsCharBoundary x.text c.args.byte) same (boundary s c.args.place c.args.byte c.lemma_read.ensures.utf8 c.lemma_read.ensures.read c.requires)

pub returns-in-Some-first_fault-clause-ends : goal.returns-in-Some-first_fault-clause-ends
returns-in-Some-first_fault-clause-ends c = λ n o.
    let s = c.args.self.now in
    let same : s.setting ≡ c.self.inside.lexer = ap (λ (x : Source). x.setting) (sym c.self.view_is) in
    let ending : s.ending ≡ c.first_fault.result = c.first_fault.ensures.one s.ending (subst (λ x. EndsFrom x c.args.byte s.ending) same (ends_from s c.args.place c.args.byte c.lemma_read.ensures.read c.requires)) in
    let is : s.ending ≡ Some c.in-Some-first_fault.fault = search rules in
    let none : (n : Names) (o : Token) → found_inside s c.args.place 0 n o ≡ unclosed_ending s.ending o = search rules in
    none n o ∙ ap (λ e. unclosed_ending e o) is

pub returns-in-None-clause-ends : goal.returns-in-None-clause-ends
returns-in-None-clause-ends c = λ n o.
    let s = c.args.self.now in
    let same : s.setting ≡ c.self.inside.lexer = ap (λ (x : Source). x.setting) (sym c.self.view_is) in
    let ending : s.ending ≡ c.first_fault.result = c.first_fault.ensures.one s.ending (subst (λ x. EndsFrom x c.args.byte s.ending) same (ends_from s c.args.place c.args.byte c.lemma_read.ensures.read c.requires)) in
    let is : s.ending ≡ None = search rules in
    let none : (n : Names) (o : Token) → found_inside s c.args.place 0 n o ≡ unclosed_ending s.ending o = search rules in
    none n o ∙ ap (λ e. unclosed_ending e o) is
