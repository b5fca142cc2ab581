use Rattle.std.proofs.Common.{◌≡◌, ◌+◌, ◌-◌, length, drop, ap, sym, refl, ◌∙◌, subst, arith, inl, inr}
use Rattle.std.specs.Str.{chars}
use Rattle.wat_lex.specs.grammar.Numbers.{Decimals, Number, Payload, unsigned}
use Rattle.wat_lex.specs.tokens.ReadableTokens.{word_of}
use Rattle.wat_lex.specs.declared.lexer.kinds.TokenKind.TheVariants.{Float}
use Rattle.wat_c.specs.ByRow.{token_of}
use Rattle.wat_c.specs.FloatSpans.{AreParts, before, only_payload, decimals, payload as payload_is, bare as bare_is}
use Rattle.wat_c.proofs.FloatBytes.{parts_there, payload_there}
use Rattle.wat_c.proofs.NumberLexemes.{number_text}
use Rattle.wat_c.proofs.float_parts.parts_of.Goals as goal

pub decimal_parts-requires-clause-number : goal.decimal_parts-requires-clause-number
decimal_parts-requires-clause-number c =
    let kind = Float c.in-Some.kind in
    let text = number_text c.source.result.now kind c.source.utf8 refl c.source.ensures.word in
    let is = subst (λ k. Number c.source.result.now (Float k)) c.in-Normal.is text.is in
    subst (λ x. Decimals c.in-Normal.hex (unsigned x)) (sym c.as_bytes-word.ensures.value) is.0

pub payload-requires-clause-number : goal.payload-requires-clause-number
payload-requires-clause-number c =
    let kind = Float c.in-Some.kind in
    let text = number_text c.source.result.now kind c.source.utf8 refl c.source.ensures.word in
    let is = subst (λ k. Number c.source.result.now (Float k)) c.in-NanVal.is text.is in
    subst (λ x. Payload (unsigned x)) (sym c.as_bytes-word.ensures.value) is.0

pub returns-in-Normal : goal.returns-in-Normal
returns-in-Normal c =
    let kind = Float c.in-Some.kind in
    let text = number_text c.source.result.now kind c.source.utf8 refl c.source.ensures.word in
    let b = c.as_bytes-word.result.now in
    let same : word_of c.args.text.now (token_of c.args.row) ≡ b = ap chars (sym c.source.ensures.text) ∙ text.same ∙ sym c.as_bytes-word.ensures.value in
    let long : length b ≡ c.args.row.len = ap length c.as_bytes-word.ensures.value ∙ c.source.ensures.len in
    let end = c.args.row.offset + c.args.row.len in
    let offset : end - length b ≡ c.args.row.offset = omega (arith, long) in
    let hex = c.in-Normal.hex in
    let parts = subst (λ o. AreParts hex b o c.decimal_parts.result) offset c.decimal_parts.ensures in
    let are = subst (λ x. AreParts hex x c.args.row.offset c.decimal_parts.result) (sym same) parts in
    let word : word_of c.args.text.now (token_of c.args.row) ≡ c.source.result.now = ap chars (sym c.source.ensures.text) ∙ text.same in
    decimals c.in-Normal.has_underscores hex (c.in-Some.ensures.some ∙ ap Float c.in-Normal.is) are
    (parts_there c.args.text.now c.args.row.offset c.args.row.len (word_of c.args.text.now (token_of c.args.row)) (sym c.source.ensures.text ∙ sym word)
    (ap length word ∙ c.source.ensures.len) hex c.decimal_parts.result are)

pub returns-in-NanVal : goal.returns-in-NanVal
returns-in-NanVal c =
    let kind = Float c.in-Some.kind in
    let text = number_text c.source.result.now kind c.source.utf8 refl c.source.ensures.word in
    let b = c.as_bytes-word.result.now in
    let same : word_of c.args.text.now (token_of c.args.row) ≡ b = ap chars (sym c.source.ensures.text) ∙ text.same ∙ sym c.as_bytes-word.ensures.value in
    let span = c.payload.ensures ∙ ap (λ x. before (c.args.row.offset + c.args.row.len) (drop 6 (unsigned x))) (sym same) in
    let parts = c.only-in-NanVal.ensures ∙ ap (λ p. only_payload p c.in-NanVal.negative 0) span in
    let word : word_of c.args.text.now (token_of c.args.row) ≡ c.source.result.now = ap chars (sym c.source.ensures.text) ∙ text.same in
    payload_is c.in-NanVal.negative c.in-NanVal.has_underscores (c.in-Some.ensures.some ∙ ap Float c.in-NanVal.is) parts
    (payload_there c.args.text.now c.args.row.offset c.args.row.len (word_of c.args.text.now (token_of c.args.row)) (sym c.source.ensures.text ∙ sym word)
    (ap length word ∙ c.source.ensures.len) c.only-in-NanVal.result.payload (ap (λ p. p.payload) parts))

pub returns-in-Inf : goal.returns-in-Inf
returns-in-Inf c =
    let known = c.in-Some.ensures.some in
    elim c.in-Inf.is [
      | inl e ↦ bare_is c.in-Inf.negative (inl (known ∙ ap Float e)) c.only-in-Inf.ensures
      | inr e ↦ bare_is c.in-Inf.negative (inr (known ∙ ap Float e)) c.only-in-Inf.ensures
    ]
