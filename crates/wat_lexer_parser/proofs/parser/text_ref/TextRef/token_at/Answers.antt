use Rattle.std.proofs.Common.{◌≡◌, ℕ, drop, ap, sym, subst, Some, None, ◌+◌}
use Rattle.std.specs.Prelude.{IfOk, IfErr, IfSome, IfNone, Option, Result, slice_get}
use Rattle.std.specs.Str.{IsCharBoundary}
use Rattle.wat_lex.specs.tokens.Setting.{Setting}
use Rattle.wat_lex.specs.tokens.UniqueTilings.{ResultAt}
use Rattle.wat_lex.specs.declared.lexer.faults.LexFault.{LexFault}
use Rattle.wat_lex.specs.declared.lexer.kinds.Token.{Token}
use Rattle.wat_lexer_parser.specs.inside.Next.{IsPlace}
use Rattle.wat_lexer_parser.specs.places.Source.{Source}
use Rattle.wat_lexer_parser.proofs.places.Bytes.{answer_of, answer_at, boundary, token_is, end_is, fault_is, next_is}
use Rattle.wat_lexer_parser.proofs.parser.text_ref.TextRef.token_at.Goals as goal

pub scan-requires : goal.scan-requires
scan-requires c =
    let s = c.args.self.now in
    let same : s.setting ≡ c.self.inside.lexer = ap (λ (x : Source). x.setting) (sym c.self.view_is) in
    subst (λ (x : Setting). IsCharBoundary x.text c.args.byte) same (boundary s c.args.place c.args.byte c.lemma_read.ensures.utf8 c.lemma_read.ensures.read c.requires)

found_here : (s : Source) (x : Setting) (p byte : ℕ) (r : Result (Option Token) LexFault) → s.setting ≡ x → ResultAt s.setting byte (answer_of (drop p s.tokens) s.ending)
    → ((q : Result (Option Token) LexFault) → ResultAt x byte q → q ≡ r) → answer_of (drop p s.tokens) s.ending ≡ r
found_here s x p byte r same a one = one (answer_of (drop p s.tokens) s.ending) (subst (λ y. ResultAt y byte (answer_of (drop p s.tokens) s.ending)) same a)

pub returns-clause-token : goal.returns-clause-token
returns-clause-token c =
    let s = c.args.self.now in
    let same : s.setting ≡ c.self.inside.lexer = ap (λ (x : Source). x.setting) (sym c.self.view_is) in
    let found = found_here s c.self.inside.lexer c.args.place c.args.byte c.scan.result same (answer_at s c.args.place c.args.byte c.lemma_read.ensures.read c.requires) c.scan.ensures.one in
    subst (λ r. IfOk r (λ found. found ≡ slice_get s.tokens c.args.place)) found (token_is s c.args.place)

pub returns-clause-end : goal.returns-clause-end
returns-clause-end c =
    let s = c.args.self.now in
    let same : s.setting ≡ c.self.inside.lexer = ap (λ (x : Source). x.setting) (sym c.self.view_is) in
    let found = found_here s c.self.inside.lexer c.args.place c.args.byte c.scan.result same (answer_at s c.args.place c.args.byte c.lemma_read.ensures.read c.requires) c.scan.ensures.one in
    subst (λ r. IfOk r (λ found. IfNone found (s.ending ≡ None))) found (end_is s c.args.place)

pub returns-clause-fault : goal.returns-clause-fault
returns-clause-fault c =
    let s = c.args.self.now in
    let same : s.setting ≡ c.self.inside.lexer = ap (λ (x : Source). x.setting) (sym c.self.view_is) in
    let found = found_here s c.self.inside.lexer c.args.place c.args.byte c.scan.result same (answer_at s c.args.place c.args.byte c.lemma_read.ensures.read c.requires) c.scan.ensures.one in
    subst (λ r. IfErr r (λ f. (slice_get s.tokens c.args.place ≡ None) × (s.ending ≡ Some f))) found (fault_is s c.args.place)

pub returns-clause-next : goal.returns-clause-next
returns-clause-next c =
    let s = c.args.self.now in
    let same : s.setting ≡ c.self.inside.lexer = ap (λ (x : Source). x.setting) (sym c.self.view_is) in
    let found = found_here s c.self.inside.lexer c.args.place c.args.byte c.scan.result same (answer_at s c.args.place c.args.byte c.lemma_read.ensures.read c.requires) c.scan.ensures.one in
    subst (λ r. IfOk r (λ found. IfSome found (λ t. IsPlace s (c.args.place + 1) (t.offset + t.len)))) found (next_is s c.args.place)
