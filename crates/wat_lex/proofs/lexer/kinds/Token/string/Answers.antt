use Rattle.std.proofs.Common.{sym, subst, []}
use Rattle.std.specs.Str.{chars}
use Rattle.wat_lex.specs.values.Names.{IsQuoted, HasNone}
use Rattle.wat_lex.specs.tokens.Setting.{lenient}
use Rattle.wat_lex.specs.grammar.Strings.{StringWord, Quoted}
use Rattle.wat_lex.proofs.values.Names.{StringTail, string_tail, string_value, string_none, string_has}
use Rattle.wat_lex.proofs.values.WordValues.{string_value_is}
use Rattle.wat_lex.proofs.lexer.kinds.Token.string.Goals as goal
use Rattle.wat_lex.proofs.lexer.kinds.Token.string.Goals.{After-src}

tail : (c : After-src) → StringTail c.src.result.now
tail c = string_tail c.args.self.now.kind c.src.result.now c.src.utf8 c.requires.kind c.src.ensures.word

pub range_from-elements-requires : goal.range_from-elements-requires
range_from-elements-requires c = let t = tail (goal.at.range_from-elements-requires c).After-src in λ _. t.boundary

pub plain-requires : goal.plain-requires
plain-requires c = let t = tail (goal.at.plain-requires c).After-src in subst (λ x. IsQuoted (chars x)) (sym c.range_from-elements.ensures.value) t.elements

pub returns-in-Some-clause-elements : goal.returns-in-Some-clause-elements
returns-in-Some-clause-elements c =
    subst (λ x. StringWord lenient (chars x) c.as_bytes.result.now) c.src.ensures.text
    (string_value c.src.result.now c.range_from-elements.result.now c.as_bytes.result.now (tail (goal.at.returns-in-Some-clause-elements c).After-src) c.range_from-elements.ensures.value
    (subst (λ x. Quoted lenient (chars c.range_from-elements.result.now) x []) (sym c.as_bytes.ensures.value) c.in-Some.ensures.value))

pub returns-in-Some-clause-borrowed : goal.returns-in-Some-clause-borrowed
returns-in-Some-clause-borrowed c = (
  λ _. subst (λ x. HasNone 92 (chars x)) c.src.ensures.text (string_none c.src.result.now c.range_from-elements.result.now (tail (goal.at.returns-in-Some-clause-borrowed c).After-src) c.range_from-elements.ensures.value c.in-Some.ensures.some),
  λ _. tt,
)

pub unescaped-requires : goal.unescaped-requires
unescaped-requires c = let t = tail (goal.at.unescaped-requires c).After-src in subst (λ x. IsQuoted (chars x)) (sym c.range_from-elements.ensures.value) t.elements

pub returns-in_err-value-clause-free : goal.returns-in_err-value-clause-free
returns-in_err-value-clause-free c h =
    absurd (c.in_default.ensures.none (string_has c.src.result.now c.range_from-elements.result.now (tail (goal.at.returns-in_err-value-clause-free c).After-src) c.range_from-elements.ensures.value (subst (λ x. HasNone 92 (chars x)) (sym c.src.ensures.text) h)))

pub returns-clause-elements : goal.returns-clause-elements
returns-clause-elements c =
    subst (λ x. StringWord lenient (chars x) c.in_ok-value.value.items) c.src.ensures.text
    (string_value c.src.result.now c.range_from-elements.result.now c.in_ok-value.value.items (tail (goal.at.returns-clause-elements c).After-src) c.range_from-elements.ensures.value c.in_ok-value.ensures)

pub returns-clause-borrowed : goal.returns-clause-borrowed
returns-clause-borrowed c = (
  λ h. absurd h,
  λ h. c.in_default.ensures.none (string_has c.src.result.now c.range_from-elements.result.now (tail (goal.at.returns-clause-borrowed c).After-src) c.range_from-elements.ensures.value (subst (λ x. HasNone 92 (chars x)) (sym c.src.ensures.text) h)),
)

pub returns-in-Some-clause-value : goal.returns-in-Some-clause-value
returns-in-Some-clause-value c =
    sym (string_value_is lenient _ c.as_bytes.result.now (subst (λ x. StringWord lenient (chars x) c.as_bytes.result.now) c.src.ensures.text
    (string_value c.src.result.now c.range_from-elements.result.now c.as_bytes.result.now (tail (goal.at.returns-in-Some-clause-value c).After-src) c.range_from-elements.ensures.value
    (subst (λ x. Quoted lenient (chars c.range_from-elements.result.now) x []) (sym c.as_bytes.ensures.value) c.in-Some.ensures.value))))

pub returns-clause-value : goal.returns-clause-value
returns-clause-value c =
    sym (string_value_is lenient _ c.in_ok-value.value.items (subst (λ x. StringWord lenient (chars x) c.in_ok-value.value.items) c.src.ensures.text
    (string_value c.src.result.now c.range_from-elements.result.now c.in_ok-value.value.items (tail (goal.at.returns-clause-value c).After-src) c.range_from-elements.ensures.value c.in_ok-value.ensures)))
