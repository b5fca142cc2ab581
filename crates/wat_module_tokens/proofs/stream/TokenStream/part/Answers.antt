use Rattle.std.proofs.Common.{◌≡◌, ◌∙◌, ◌≤◌, ◌<◌, ◌+◌, ◌-◌, ◌*◌, ◌/◌, ◌%◌, ◌^◌, ◌∷◌, [], ℕ, List, Some, length, map, ap, sym, subst, refl, rules, arith}
use Rattle.std.specs.Prelude.{slice_get}
use Rattle.std.proofs.lemmas.List.{length-map}
use Rattle.std.proofs.lemmas.Option.{slice_get_within}
use Rattle.wat_module_tokens.specs.declared.stream.PackedU32.{PackedU32}
use Rattle.wat_module_tokens.specs.declared.stream.PackedToken.{PackedToken}
use Rattle.wat_module_tokens.specs.declared.stream.PackedToken.TheVariants as short
use Rattle.wat_module_tokens.specs.Terminals.{past, terminal, Terminal, Open, Close, Word}
use Rattle.wat_module_tokens.specs.Tokens.{AreCharacters, IsReadable, Stream, bytes_at, first_len, from_position, joined, number_of, second_at, second_len, step_of, terminal_in, terminals_in}
use Rattle.wat_module_tokens.proofs.Positions.{fourth, got, outside, pieces, readable_at, second, third}
use Rattle.wat_module_tokens.proofs.stream.TokenStream.part.Goals as goal

pub returns-in_default : goal.returns-in_default
returns-in_default c =
    let text = c.self.inside.text.now in
    let ks = c.self.inside.kept.now in
    let ts = c.self.inside.tokens.items in
    let at = c.args.at in
    let view : c.args.self.now ≡ record { text = text; terminals = pieces text ks ts } = sym c.self.view_is in
    let beyond : length ts ≤ at = omega (arith, subst (λ (s : Stream). length s.terminals ≤ at) view c.requires, length-map ts (terminals_in text ks)) in
    let t = c.in_default.field-0.now in
    let found : slice_get c.deref.result.now (at % 2 ^ 62) ≡ Some t = got c.deref.result.now (at % 2 ^ 62) c.get.result c.in_default.field-0 c.get.ensures.lookup c.in_default.is in
    let there : slice_get ts (at % 2 ^ 62) ≡ Some t = subst (λ us. slice_get us (at % 2 ^ 62) ≡ Some t) c.deref.ensures.value found in
    let not_pair : (o : PackedU32) (n : ℕ) → t ≡ short.KeywordGroup o n → ⊥ = λ o n k. search rules in
    let no_pair : (o : PackedU32) (n : ℕ) → slice_get ts (at % 2 ^ 62) ≡ Some (short.KeywordGroup o n) → ⊥ = λ o n k. not_pair o n (let e : Some t ≡ Some (short.KeywordGroup o n) = sym there ∙ k in let f : t ≡ short.KeywordGroup o n = cc in f) in
    ap (λ (s : Stream). from_position at s.terminals) view ∙ outside text ks ts at beyond no_pair

pub returns-in-1 : goal.returns-in-1
returns-in-1 c =
    let text = c.self.inside.text.now in
    let ks = c.self.inside.kept.now in
    let ts = c.self.inside.tokens.items in
    let at = c.args.at in
    let view : c.args.self.now ≡ record { text = text; terminals = pieces text ks ts } = sym c.self.view_is in
    let o = c.in-Some-KeywordGroup.offset in
    let n = c.in-Some-KeywordGroup.lens in
    let found : slice_get c.deref.result.now (at % 2 ^ 62) ≡ Some c.in-Some-KeywordGroup.field-0.now = got c.deref.result.now (at % 2 ^ 62) c.get.result c.in-Some-KeywordGroup.field-0 c.get.ensures.lookup c.in-Some-KeywordGroup.is in
    let there : slice_get ts (at % 2 ^ 62) ≡ Some (short.KeywordGroup o n) = subst (λ us. slice_get us (at % 2 ^ 62) ≡ Some (short.KeywordGroup o n)) c.deref.ensures.value (found ∙ ap Some c.in-Some-KeywordGroup.field-0-is) in
    let small = slice_get_within ts (at % 2 ^ 62) (short.KeywordGroup o n) there in
    let few = c.self.invariant.1.few in
    let readable = readable_at text (length ks) ts (at % 2 ^ 62) (short.KeywordGroup o n) c.self.invariant.0 there in
    subst (λ (s : Stream). AreCharacters s.text (number_of o) (first_len n) × (from_position at s.terminals ≡ Word (bytes_at s.text (number_of o) (first_len n)) ∷ from_position (at + 2 ^ 62) s.terminals) × (at + 2 ^ 62 < 2 ^ 64)) (sym view)
    (readable.0, second text ks ts at o n c.in-1.is there, omega (arith, c.in-1.is))

pub returns-in-2 : goal.returns-in-2
returns-in-2 c =
    let text = c.self.inside.text.now in
    let ks = c.self.inside.kept.now in
    let ts = c.self.inside.tokens.items in
    let at = c.args.at in
    let view : c.args.self.now ≡ record { text = text; terminals = pieces text ks ts } = sym c.self.view_is in
    let o = c.in-Some-KeywordGroup.offset in
    let n = c.in-Some-KeywordGroup.lens in
    let found : slice_get c.deref.result.now (at % 2 ^ 62) ≡ Some c.in-Some-KeywordGroup.field-0.now = got c.deref.result.now (at % 2 ^ 62) c.get.result c.in-Some-KeywordGroup.field-0 c.get.ensures.lookup c.in-Some-KeywordGroup.is in
    let there : slice_get ts (at % 2 ^ 62) ≡ Some (short.KeywordGroup o n) = subst (λ us. slice_get us (at % 2 ^ 62) ≡ Some (short.KeywordGroup o n)) c.deref.ensures.value (found ∙ ap Some c.in-Some-KeywordGroup.field-0-is) in
    let small = slice_get_within ts (at % 2 ^ 62) (short.KeywordGroup o n) there in
    let few = c.self.invariant.1.few in
    let readable = readable_at text (length ks) ts (at % 2 ^ 62) (short.KeywordGroup o n) c.self.invariant.0 there in
    let begin : number_of c.new.result ≡ second_at (number_of o) n = search rules in
    subst (λ (s : Stream). AreCharacters s.text (number_of c.new.result) (second_len n) × (from_position at s.terminals ≡ Word (bytes_at s.text (number_of c.new.result) (second_len n)) ∷ from_position (at + 2 ^ 62) s.terminals) × (at + 2 ^ 62 < 2 ^ 64)) (sym view)
    (subst (λ m. AreCharacters text m (second_len n) × (from_position at (pieces text ks ts) ≡ Word (bytes_at text m (second_len n)) ∷ from_position (at + 2 ^ 62) (pieces text ks ts)) × (at + 2 ^ 62 < 2 ^ 64)) (sym begin)
    (readable.1, third text ks ts at o n c.in-2.is there, omega (arith, c.in-2.is)))

pub returns-in_default-2 : goal.returns-in_default-2
returns-in_default-2 c =
    let text = c.self.inside.text.now in
    let ks = c.self.inside.kept.now in
    let ts = c.self.inside.tokens.items in
    let at = c.args.at in
    let view : c.args.self.now ≡ record { text = text; terminals = pieces text ks ts } = sym c.self.view_is in
    let o = c.in-Some-KeywordGroup.offset in
    let n = c.in-Some-KeywordGroup.lens in
    let found : slice_get c.deref.result.now (at % 2 ^ 62) ≡ Some c.in-Some-KeywordGroup.field-0.now = got c.deref.result.now (at % 2 ^ 62) c.get.result c.in-Some-KeywordGroup.field-0 c.get.ensures.lookup c.in-Some-KeywordGroup.is in
    let there : slice_get ts (at % 2 ^ 62) ≡ Some (short.KeywordGroup o n) = subst (λ us. slice_get us (at % 2 ^ 62) ≡ Some (short.KeywordGroup o n)) c.deref.ensures.value (found ∙ ap Some c.in-Some-KeywordGroup.field-0-is) in
    let small = slice_get_within ts (at % 2 ^ 62) (short.KeywordGroup o n) there in
    let few = c.self.invariant.1.few in
    let beyond : length ts ≤ at = omega (arith, subst (λ (s : Stream). length s.terminals ≤ at) view c.requires, length-map ts (terminals_in text ks)) in
    let not_one : at / 2 ^ 62 ≡ 1 → ⊥ = λ k. search rules in
    let not_two : at / 2 ^ 62 ≡ 2 → ⊥ = λ k. search rules in
    let last : at / 2 ^ 62 ≡ 3 = omega (arith, small, beyond, not_one, not_two, c.ranges.at.fits) in
    ap (λ (s : Stream). from_position at s.terminals) view ∙ fourth text ks ts at o n last (omega (arith, small, few)) there ∙ ap (λ (s : Stream). Close ∷ from_position (at % 2 ^ 62 + 1) s.terminals) (sym view)
