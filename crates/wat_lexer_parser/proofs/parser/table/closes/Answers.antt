use Rattle.std.proofs.Common.{◌≡◌, ◌+◌, ◌++◌, ◌∷◌, [], true, sym, subst, arith, rules, get_or, length}
use Rattle.std.specs.Prelude.{None, replicate}
use Rattle.wat_lex.specs.declared.lexer.kinds.TokenKind.TheVariants.{LineComment}
use Rattle.wat_lex.specs.declared.lexer.kinds.Token.{Token}
use Rattle.wat_lexer_parser.proofs.inside.Pairing.{at_default, neither}
use Rattle.wat_lexer_parser.proofs.inside.Stacks.{Walking, start, counted_close, on_open, on_plain, on_stray, on_close, on_after, top, end}
use Rattle.wat_lexer_parser.proofs.parser.table.closes.Goals as goal

none : Token
none = record { kind = LineComment; offset = 0; len = 0 }

pub loop-i-init : goal.loop-i-init
loop-i-init c =
    let e : c.in_ok-closes.closes.items ≡ replicate (length c.args.opens.now) None = search rules in
    let f : c.new-opened.result.items ≡ [] = search rules in
    let w = start c.args.tokens.now c.next_open-i.result 0 c.args.opens.now c.in_ok-closes.closes.items c.next_open-i.ensures.first c.next_open-i.ensures.passed e in
    subst (λ x. Walking c.args.tokens.now c.next_open-i.result 0 x c.args.opens.now c.in_ok-closes.closes.items) (sym f) w

pub loop-i-preserved-in-LParen : goal.loop-i-preserved-in-LParen
unfolding none
loop-i-preserved-in-LParen c =
    let ts = c.args.tokens.now in
    let e : c.push.new.self.items ≡ c.loop-i.opened.items ++ c.pass_open.result ∷ [] = search rules in
    let w = on_open ts c.loop-i.i c.loop-i.passed c.pass_open.new.passed c.loop-i.opened.items c.pass_open.result c.args.opens.now c.loop-i.closes.items (get_or ts c.loop-i.i none) (at_default ts c.loop-i.i none c.loop-i-test.true) c.in-LParen.is c.pass_open.ensures.found c.pass_open.ensures.passed c.loop-i.invariant in
    subst (λ x. Walking ts (c.loop-i.i + 1) c.pass_open.new.passed x c.args.opens.now c.loop-i.closes.items) (sym e) w

pub note_close-requires : goal.note_close-requires
note_close-requires c =
    let e : c.loop-i.opened.items ≡ c.pop.new.self.items ++ c.in-Some.group ∷ [] = search rules in
    top c.args.tokens.now c.loop-i.i c.loop-i.passed c.loop-i.opened.items c.pop.new.self.items c.in-Some.group c.args.opens.now c.loop-i.closes.items e c.loop-i.invariant

pub after_close-i-requires-clause-passed : goal.after_close-i-requires-clause-passed
unfolding none
after_close-i-requires-clause-passed c =
    let ts = c.args.tokens.now in
    counted_close ts c.args.opens.now c.loop-i.passed c.loop-i.i (get_or ts c.loop-i.i none) c.requires.opening (at_default ts c.loop-i.i none c.loop-i-test.true) c.in-RParen.is c.loop-i.invariant.counted

pub loop-i-preserved-in-Some : goal.loop-i-preserved-in-Some
unfolding none
loop-i-preserved-in-Some c =
    let ts = c.args.tokens.now in
    let old = c.loop-i.opened.items in
    let new = c.pop.new.self.items in
    let e : old ≡ new ++ c.in-Some.group ∷ [] = search rules in
    let w = on_close ts c.loop-i.i c.loop-i.passed old new c.in-Some.group c.args.opens.now c.loop-i.closes.items (get_or ts c.loop-i.i none) c.requires.opening c.requires.sorted (at_default ts c.loop-i.i none c.loop-i-test.true) c.in-RParen.is e c.loop-i.invariant in
    let v = subst (λ x. Walking ts (c.loop-i.i + 1) c.loop-i.passed new c.args.opens.now x) (sym c.note_close.ensures) w in
    let z : c.is_empty.result ≡ true → length new ≡ 0 = search rules in
    on_after ts (c.loop-i.i + 1) c.after_close-i.result c.loop-i.passed c.is_empty.result new c.args.opens.now c.note_close.new.closes.items z c.after_close-i.ensures.inside c.after_close-i.ensures.on c.after_close-i.ensures.first c.after_close-i.ensures.passed v

pub loop-i-preserved-in-None : goal.loop-i-preserved-in-None
unfolding none
loop-i-preserved-in-None c =
    let ts = c.args.tokens.now in
    let e : c.pop.new.self.items ≡ c.loop-i.opened.items = search rules in
    let z : length c.loop-i.opened.items ≡ 0 = search rules in
    let w = on_stray ts c.loop-i.i c.loop-i.passed c.loop-i.opened.items c.args.opens.now c.loop-i.closes.items (get_or ts c.loop-i.i none) c.requires.opening (at_default ts c.loop-i.i none c.loop-i-test.true) c.in-RParen.is z c.loop-i.invariant in
    subst (λ x. Walking ts (c.loop-i.i + 1) c.loop-i.passed x c.args.opens.now c.loop-i.closes.items) (sym e) w

pub loop-i-preserved : goal.loop-i-preserved
unfolding none
loop-i-preserved c =
    let ts = c.args.tokens.now in
    on_plain ts c.loop-i.i c.loop-i.passed c.loop-i.opened.items c.args.opens.now c.loop-i.closes.items (get_or ts c.loop-i.i none) c.requires.opening (at_default ts c.loop-i.i none c.loop-i-test.true) (neither (get_or ts c.loop-i.i none).kind c.in_default.not-LParen c.in_default.not-RParen) c.in_default.not-LParen c.loop-i.invariant

pub returns : goal.returns
returns c = end c.args.tokens.now c.loop-i.i c.loop-i.passed c.loop-i.opened.items c.args.opens.now c.loop-i.closes.items c.requires.opening (omega arith) c.loop-i.invariant
