use Rattle.std.proofs.Common.{arith, ap, sym, ◌∙◌, ◌-◌, ◌+◌, ◌<◌, ◌≡◌, length, suc}
use Rattle.std.proofs.lemmas.Option.{slice_get-get_or}
use Rattle.wat_lexer_parser.specs.places.Places.{offset_at}
use Rattle.wat_lexer_parser.specs.laws.Counting.{counting}
use Rattle.wat_c_records.specs.Places.{raw_position}
use Rattle.wat_c_records.specs.declared.counting.Row.{Row}
use Rattle.wat_c_records.proofs.RawPlaces.{offset_of_last, offset_of_none}
use Rattle.wat_c_records.proofs.Known.{tells}
use Rattle.wat_c_records.proofs.after.offset_after.Goals as goal

pub returns-then-count-eq0 : goal.returns-then-count-eq0
returns-then-count-eq0 c = λ s h.
    let z : c.args.count ≡ 0 = omega arith in
    sym (ap (λ n. offset_at s.tokens (raw_position s.tokens n)) z ∙ offset_of_none s.tokens)

pub returns : goal.returns
returns c = λ s h.
    let inside : c.args.count - 1 < length c.args.rows.now = omega arith in
    let n : suc (c.args.count - 1) ≡ c.args.count = omega arith in
    let there = slice_get-get_or c.args.rows.now (c.args.count - 1) _ inside in
    let k = tells s.setting.text c.args.rows.now (counting s.tokens) (c.args.count - 1) _ h.known there in
    let offset = ap (λ (r : Row). r.offset) k.known in
    let len = ap (λ (r : Row). r.len) k.known in
    (λ i. offset i + len i) ∙ sym (offset_of_last s.tokens (c.args.count - 1) k.token k.there) ∙ ap (λ m. offset_at s.tokens (raw_position s.tokens m)) n
