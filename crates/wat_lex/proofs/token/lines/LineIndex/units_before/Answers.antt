use Rattle.std.proofs.Common.{◌≡◌, ◌≤◌, ◌<◌, ◌+◌, ◌-◌, ◌*◌, ◌/◌, ◌^◌, ◌∙◌, ap, sym, length, take, drop, get_or, arith, rules}
use Rattle.std.specs.List.{sum_by}
use lib.Dec.{ltb}
use Rattle.std.proofs.Math.Nat.{div-mul-le_self}
use Rattle.std.proofs.lemmas.Bool.Decides.{Decides-ltb}
use Rattle.std.proofs.lemmas.Grind.{get_or_default_zero}
use Rattle.wat_lex.specs.inside.Utf16Bytes.{byte_units}
use Rattle.wat_lex.proofs.errors.Utf16.{total_between, total_take_bound}
use Rattle.wat_lex.proofs.token.lines.LineIndex.units_before.Goals as goal
use Rattle.wat_lex.proofs.token.lines.LineIndex.units_before.Goals.{After-units}

whole : (c : After-units) → c.in_ok-before.field-0.now + c.units.result ≡ sum_by byte_units (take c.args.offset c.args.self.now)
whole c =
    let text = c.self.inside.text.now in
    let mark = c.args.offset / 65536 in
    let known : mark < length c.self.inside.marks.items = (Decides-ltb mark (length c.self.inside.marks.items)).0 (sym (c.in_ok-before.ensures.lookup.0 ∙ ap (λ ms. ltb mark (length ms)) c.deref.ensures.value)) in
    let before : c.in_ok-before.field-0.now ≡ sum_by byte_units (take (mark * 65536) text) =
    c.in_ok-before.ensures.lookup.1 ∙ ap (λ ms. get_or ms mark c.in_ok-before.field-0.now) c.deref.ensures.value ∙ get_or_default_zero c.self.inside.marks.items mark c.in_ok-before.field-0.now known ∙ c.self.invariant.1 mark known in
    let within : mark * 65536 ≤ c.args.offset = div-mul-le_self c.args.offset 65536 in
    let after : c.units.result ≡ sum_by byte_units (take (c.args.offset - mark * 65536) (drop (mark * 65536) text)) = c.units.ensures.count ∙ ap (λ s. sum_by byte_units (take (c.args.offset - mark * 65536) (drop (mark * 65536) s))) c.as_bytes.ensures.value in
    omega (arith, before, after, total_between text (mark * 65536) c.args.offset within) ∙ ap (λ s. sum_by byte_units (take c.args.offset s)) c.self.view_is

pub overflow_add-result : goal.overflow_add-result
overflow_add-result c =
    let text = c.self.inside.text.now in
    let small : length text < 2 ^ 63 = search rules in
    let same : length text ≡ length c.args.self.now = ap length c.self.view_is in
    record { fits = omega (arith, small, same, whole c, total_take_bound c.args.self.now c.args.offset) }

pub returns : goal.returns
returns c = whole c
