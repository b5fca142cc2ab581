use Rattle.std.proofs.Common.{◌≡◌, ◌∙◌, ◌≤◌, ◌<◌, ◌+◌, ◌-◌, ◌*◌, ◌/◌, ◌%◌, ◌^◌, ◌∷◌, [], ℕ, List, Some, length, map, ap, sym, subst, refl, rules, arith}
use Rattle.std.specs.Prelude.{slice_get}
use Rattle.std.proofs.lemmas.List.{length-map}
use Rattle.std.proofs.lemmas.Option.{slice_get_within}
use Rattle.wat_module_tokens.specs.declared.stream.PackedU32.{PackedU32}
use Rattle.wat_module_tokens.specs.declared.stream.PackedToken.{PackedToken}
use Rattle.wat_module_tokens.specs.declared.stream.PackedToken.TheVariants as short
use Rattle.wat_module_tokens.specs.Terminals.{past, terminal, Terminal, Open, Close, Word}
use Rattle.wat_module_tokens.specs.Tokens.{AreCharacters, IsReadable, Stream, bytes_at, first_len, from_position, joined, number_of, second_at, second_len, step_of, terminal_in, terminals_in}
use Rattle.wat_module_tokens.proofs.Positions.{first, got, pieces}
use Rattle.wat_module_tokens.proofs.stream.TokenStream.token.Goals as goal

pub returns-in-Some : goal.returns-in-Some
returns-in-Some c =
    let text = c.self.inside.text.now in
    let ks = c.self.inside.kept.now in
    let ts = c.self.inside.tokens.items in
    let at = c.args.at in
    let view : c.args.self.now ≡ record { text = text; terminals = pieces text ks ts } = sym c.self.view_is in
    let t = c.in-Some.token.now in
    let found : slice_get c.deref.result.now at ≡ Some t = got c.deref.result.now at c.get.result c.in-Some.token c.get.ensures.lookup c.in-Some.is in
    let there : slice_get ts at ≡ Some t = subst (λ us. slice_get us at ≡ Some t) c.deref.ensures.value found in
    let small = slice_get_within ts at t there in
    let few = c.self.invariant.1.few in
    subst (λ (s : Stream). from_position at s.terminals ≡ terminal c.read-step.result.0 ∷ from_position (at + c.read-step.result.1) s.terminals) (sym view)
    (first text ks ts at t (omega (arith, small, few)) there ∙ ap (λ n. terminal_in text ks t ∷ from_position (at + n) (pieces text ks ts)) (sym c.read-step.ensures.step) ∙ ap (λ x. x ∷ from_position (at + c.read-step.result.1) (pieces text ks ts)) (sym c.read-step.ensures.token))
