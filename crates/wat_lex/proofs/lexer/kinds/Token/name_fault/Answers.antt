use Rattle.std.proofs.Common.{sym, ap, ◌∙◌, subst}
use Rattle.std.specs.Prelude.{Some}
use Rattle.std.specs.Str.{chars}
use Rattle.std.proofs.lemmas.Bool.{false≢true}
use Rattle.wat_lex.specs.tokens.ReadableTokens.{word_of}
use Rattle.wat_lex.specs.values.Names.{IsNamed}
use Rattle.wat_lex.specs.values.WordValues.{empty_name, name_value, named_bytes}
use Rattle.wat_lex.proofs.values.Names.{NameTail, name_tail}
use Rattle.wat_lex.proofs.values.NameParts.{name_checked, fault_empty, fault_bytes, fault_none}
use Rattle.wat_lex.proofs.lexer.kinds.Token.name_fault.Goals as goal
use Rattle.wat_lex.proofs.lexer.kinds.Token.name_fault.Goals.{After-src}

tail : (c : After-src) → NameTail c.src.result.now
tail c = name_tail c.args.self.now.kind c.src.result.now c.src.utf8 c.requires.kind c.src.ensures.word

pub range_from-name-requires : goal.range_from-name-requires
range_from-name-requires c = let t = tail (goal.at.range_from-name-requires c).After-src in λ _. t.boundary

pub is_plain_name-requires : goal.is_plain_name-requires
is_plain_name-requires c = let t = tail (goal.at.is_plain_name-requires c).After-src in subst (λ x. IsNamed (chars x)) (sym c.range_from-name.ensures.value) t.named

pub returns-then-is_plain_name : goal.returns-then-is_plain_name
returns-then-is_plain_name c =
    let empty = empty_name c.args.self.now.kind in
    let t = tail (goal.at.returns-then-is_plain_name c).After-src in
    let v = named_bytes (chars c.range_from-name.result.now) in
    let w = word_of c.args.s.now c.args.self.now in
    let read = ap (λ x. name_value empty (chars x)) (sym c.src.ensures.text) ∙ name_checked empty c.src.result.now c.range_from-name.result.now t c.range_from-name.ensures.value in
    fault_none empty w v read (c.is_plain_name.ensures.utf8 c.if-is_plain_name.true) (c.is_plain_name.ensures.some c.if-is_plain_name.true)

pub is_named-requires : goal.is_named-requires
is_named-requires c = let t = tail (goal.at.is_named-requires c).After-src in subst (λ x. IsNamed (chars x)) (sym c.range_from-name.ensures.value) t.named

pub returns-then-is_named : goal.returns-then-is_named
returns-then-is_named c =
    let empty = empty_name c.args.self.now.kind in
    let t = tail (goal.at.returns-then-is_named c).After-src in
    let v = named_bytes (chars c.range_from-name.result.now) in
    let w = word_of c.args.s.now c.args.self.now in
    let read = ap (λ x. name_value empty (chars x)) (sym c.src.ensures.text) ∙ name_checked empty c.src.result.now c.range_from-name.result.now t c.range_from-name.ensures.value in
    ap Some c.empty_name.ensures ∙ fault_empty empty w v read (c.is_named.ensures.0 c.if-is_named.true)

pub is_utf8_name-requires : goal.is_utf8_name-requires
is_utf8_name-requires c = let t = tail (goal.at.is_utf8_name-requires c).After-src in subst (λ x. IsNamed (chars x)) (sym c.range_from-name.ensures.value) t.named

pub returns-then-not-is_utf8_name : goal.returns-then-not-is_utf8_name
returns-then-not-is_utf8_name c =
    let empty = empty_name c.args.self.now.kind in
    let t = tail (goal.at.returns-then-not-is_utf8_name c).After-src in
    let v = named_bytes (chars c.range_from-name.result.now) in
    let w = word_of c.args.s.now c.args.self.now in
    let read = ap (λ x. name_value empty (chars x)) (sym c.src.ensures.text) ∙ name_checked empty c.src.result.now c.range_from-name.result.now t c.range_from-name.ensures.value in
    fault_bytes empty w v read (λ u. false≢true (sym c.if-not-is_utf8_name.true ∙ c.is_utf8_name.ensures.1 u))

pub returns : goal.returns
returns c =
    let empty = empty_name c.args.self.now.kind in
    let t = tail (goal.at.returns c).After-src in
    let v = named_bytes (chars c.range_from-name.result.now) in
    let w = word_of c.args.s.now c.args.self.now in
    let read = ap (λ x. name_value empty (chars x)) (sym c.src.ensures.text) ∙ name_checked empty c.src.result.now c.range_from-name.result.now t c.range_from-name.ensures.value in
    fault_none empty w v read (c.is_utf8_name.ensures.0 c.if-not-is_utf8_name.false) (λ z. false≢true (sym c.if-is_named.false ∙ c.is_named.ensures.1 z))
