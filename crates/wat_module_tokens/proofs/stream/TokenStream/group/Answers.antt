use Rattle.std.proofs.Common.{◌≡◌, ◌∙◌, ◌≤◌, ◌<◌, ◌+◌, ◌-◌, ◌*◌, ◌/◌, ◌%◌, ◌^◌, ◌∷◌, [], ℕ, List, Some, length, map, ap, sym, subst, refl, rules, arith}
use Rattle.std.specs.Prelude.{slice_get}
use Rattle.std.proofs.lemmas.List.{length-map}
use Rattle.std.proofs.lemmas.Option.{slice_get_within}
use Rattle.wat_module_tokens.specs.declared.stream.PackedU32.{PackedU32}
use Rattle.wat_module_tokens.specs.declared.stream.PackedToken.{PackedToken}
use Rattle.wat_module_tokens.specs.declared.stream.PackedToken.TheVariants as short
use Rattle.wat_module_tokens.specs.Terminals.{past, terminal, Terminal, Open, Close, Word}
use Rattle.wat_module_tokens.specs.Tokens.{AreCharacters, IsReadable, Stream, bytes_at, first_len, from_position, joined, number_of, second_at, second_len, step_of, terminal_in, terminals_in}
use Rattle.wat_module_tokens.proofs.Positions.{first, got, group_ends, group_opens, keywords_end, no_group_at, no_group_inside, pieces}
use Rattle.wat_module_tokens.proofs.stream.TokenStream.group.Goals as goal

pub returns-in-Some-Open : goal.returns-in-Some-Open
returns-in-Some-Open c =
    let text = c.self.inside.text.now in
    let ks = c.self.inside.kept.now in
    let ts = c.self.inside.tokens.items in
    let at = c.args.at in
    let view : c.args.self.now ≡ record { text = text; terminals = pieces text ks ts } = sym c.self.view_is in
    let e = c.in-Some-Open.end in
    let found : slice_get c.deref.result.now at ≡ Some c.in-Some-Open.field-0.now = got c.deref.result.now at c.get.result c.in-Some-Open.field-0 c.get.ensures.lookup c.in-Some-Open.is in
    let there : slice_get ts at ≡ Some (short.Open e) = subst (λ us. slice_get us at ≡ Some (short.Open e)) c.deref.ensures.value (found ∙ ap Some c.in-Some-Open.field-0-is) in
    let small = slice_get_within ts at (short.Open e) there in
    let few = c.self.invariant.1.few in
    let end : c.number.result ≡ number_of e = c.number.ensures in
    let bound : c.number.result < 2 ^ 32 = search rules in
    subst (λ (s : Stream). (from_position at s.terminals ≡ Open ∷ from_position (at + 1) s.terminals) × (from_position c.number.result s.terminals ≡ past 0 (from_position (at + 1) s.terminals))) (sym view)
    (first text ks ts at (short.Open e) (omega (arith, small, few)) there, ap (λ n. from_position n (pieces text ks ts)) end ∙ group_ends text ks ts at e (omega (arith, small, few)) (omega (arith, end, bound)) c.self.invariant.1 there)

pub returns-in-Some-KeywordGroup : goal.returns-in-Some-KeywordGroup
returns-in-Some-KeywordGroup c =
    let text = c.self.inside.text.now in
    let ks = c.self.inside.kept.now in
    let ts = c.self.inside.tokens.items in
    let at = c.args.at in
    let view : c.args.self.now ≡ record { text = text; terminals = pieces text ks ts } = sym c.self.view_is in
    let o = c.in-Some-KeywordGroup.field-0-0 in
    let n = c.in-Some-KeywordGroup.field-0-1 in
    let found : slice_get c.deref.result.now at ≡ Some c.in-Some-KeywordGroup.field-0.now = got c.deref.result.now at c.get.result c.in-Some-KeywordGroup.field-0 c.get.ensures.lookup c.in-Some-KeywordGroup.is in
    let there : slice_get ts at ≡ Some (short.KeywordGroup o n) = subst (λ us. slice_get us at ≡ Some (short.KeywordGroup o n)) c.deref.ensures.value (found ∙ ap Some c.in-Some-KeywordGroup.field-0-is) in
    let small = slice_get_within ts at (short.KeywordGroup o n) there in
    let few = c.self.invariant.1.few in
    subst (λ (s : Stream). (from_position at s.terminals ≡ Open ∷ from_position (at + 2 ^ 62) s.terminals) × (from_position (at + 1) s.terminals ≡ past 0 (from_position (at + 2 ^ 62) s.terminals))) (sym view)
    (group_opens text ks ts at o n (omega (arith, small, few)) there, keywords_end text ks ts at o n (omega (arith, small, few)) there)

pub returns-in_default : goal.returns-in_default
returns-in_default c = λ us e.
    let text = c.self.inside.text.now in
    let ks = c.self.inside.kept.now in
    let ts = c.self.inside.tokens.items in
    let at = c.args.at in
    let view : c.args.self.now ≡ record { text = text; terminals = pieces text ks ts } = sym c.self.view_is in
    let t = c.in_default.field-0.now in
    let found : slice_get c.deref.result.now at ≡ Some t = got c.deref.result.now at c.get.result c.in_default.field-0 c.get.ensures.lookup c.in_default.is in
    let there : slice_get ts at ≡ Some t = subst (λ us. slice_get us at ≡ Some t) c.deref.ensures.value found in
    let small = slice_get_within ts at t there in
    let few = c.self.invariant.1.few in
    let no_open : (m : PackedU32) → t ≡ short.Open m → ⊥ = λ m k. search rules in
    let no_pair : (o : PackedU32) (n : ℕ) → t ≡ short.KeywordGroup o n → ⊥ = λ o n k. search rules in
    no_group_at text ks ts at t us (omega (arith, small, few)) there no_open no_pair (ap (λ (s : Stream). from_position at s.terminals) (sym view) ∙ e)

pub returns-in_default-2 : goal.returns-in_default-2
returns-in_default-2 c = λ us e.
    let text = c.self.inside.text.now in
    let ks = c.self.inside.kept.now in
    let ts = c.self.inside.tokens.items in
    let at = c.args.at in
    let view : c.args.self.now ≡ record { text = text; terminals = pieces text ks ts } = sym c.self.view_is in
    let beyond : length ts ≤ at = search rules in
    no_group_inside text ks ts at us beyond (ap (λ (s : Stream). from_position at s.terminals) (sym view) ∙ e)
