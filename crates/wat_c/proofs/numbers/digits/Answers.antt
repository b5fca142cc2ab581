use Rattle.std.proofs.Common.{◌≡◌, ◌+◌, ◌-◌, length, take, drop, ap, ◌∙◌, arith}
use Rattle.wat_c.specs.Numbers.{lead}
use Rattle.wat_c.proofs.Bits.{digits_read}
use Rattle.wat_c.proofs.IntegerRows.{integer_word, digits_there}
use Rattle.wat_c.proofs.RowTokens.{row_ends}
use Rattle.wat_c.proofs.numbers.digits.Goals as goal

pub slice_bounds-result-count : goal.slice_bounds-result-count
slice_bounds-result-count c =
    let some = (integer_word c.tokens.ensures.readable c.tokens.ensures.word c.args.text.now c.args.row c.utf8.text c.requires.known c.requires.is).some in
    omega (arith, some, c.lead.ensures)

pub slice_bounds-result-start : goal.slice_bounds-result-start
slice_bounds-result-start c =
    let some = (integer_word c.tokens.ensures.readable c.tokens.ensures.word c.args.text.now c.args.row c.utf8.text c.requires.known c.requires.is).some in
    let ends = row_ends c.tokens.ensures.boundary c.args.text.now c.args.row c.utf8.text c.requires.known in
    omega (arith, some, ends, c.lead.ensures, c.as_bytes.ensures.len, ap length c.as_bytes.ensures.value)

pub slice_bounds-result-end : goal.slice_bounds-result-end
slice_bounds-result-end c =
    let some = (integer_word c.tokens.ensures.readable c.tokens.ensures.word c.args.text.now c.args.row c.utf8.text c.requires.known c.requires.is).some in
    let ends = row_ends c.tokens.ensures.boundary c.args.text.now c.args.row c.utf8.text c.requires.known in
    omega (arith, some, ends, c.lead.ensures, c.as_bytes.ensures.len, ap length c.as_bytes.ensures.value)

pub returns-clause-digits : goal.returns-clause-digits
returns-clause-digits c =
    let text = c.args.text.now in
    let row = c.args.row in
    let word = integer_word c.tokens.ensures.readable c.tokens.ensures.word text row c.utf8.text c.requires.known c.requires.is in
    let some = word.some in
    let start : row.offset + c.lead.result ≡ row.offset + lead row.kind = ap (λ n. row.offset + n) c.lead.ensures in
    let count : row.offset + row.len - (row.offset + c.lead.result) ≡ row.len - lead row.kind = omega (arith, some, c.lead.ensures) in
    (λ i. take (count i) (drop (start i) (c.as_bytes.ensures.value i))) ∙ digits_there text row word

pub returns-clause-read : goal.returns-clause-read
returns-clause-read c =
    let text = c.args.text.now in
    let row = c.args.row in
    let word = integer_word c.tokens.ensures.readable c.tokens.ensures.word text row c.utf8.text c.requires.known c.requires.is in
    let some = word.some in
    let start : row.offset + c.lead.result ≡ row.offset + lead row.kind = ap (λ n. row.offset + n) c.lead.ensures in
    let count : row.offset + row.len - (row.offset + c.lead.result) ≡ row.len - lead row.kind = omega (arith, some, c.lead.ensures) in
    let there = (λ i. take (count i) (drop (start i) (c.as_bytes.ensures.value i))) ∙ digits_there text row word in
    digits_read text row word c.requires.is _ there
