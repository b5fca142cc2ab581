use Rattle.std.proofs.Common.{◌≡◌, ◌≤◌, ◌+◌, ◌-◌, ◌∙◌, ap, take, drop, arith, rules}
use Rattle.std.specs.List.{sum_by}
use Rattle.std.specs.Str.{IsUtf8}
use Rattle.wat_lex.specs.errors.Positions.{line_and_column, utf16_line_and_column}
use Rattle.wat_lex.specs.inside.Utf16Bytes.{byte_units}
use Rattle.wat_lex.proofs.errors.Utf16.{back, inside, later, total_between}
use Rattle.wat_lex.proofs.token.lines.LineIndex.utf16_linecol.Goals as goal
use Rattle.wat_lex.proofs.token.lines.LineIndex.utf16_linecol.Goals.{In-Some-Some, Then-column-gt-SHORT}

place_is : (c : Then-column-gt-SHORT) → c.linecol_by-line.result ≡ line_and_column c.args.self.now c.offset-offset.result
place_is c = c.linecol_by-line.ensures ∙ ap (λ s. line_and_column s c.offset-offset.result) c.self.view_is

on_line : (c : Then-column-gt-SHORT) → c.linecol_by-line.result.1 ≡ 0 → ⊥
on_line c e = absurd (omega (arith, e, c.if-column-gt-SHORT.true))

pub overflow_sub-offset : goal.overflow_sub-offset
overflow_sub-offset c = back c.args.self.now c.offset-offset.result c.linecol_by-line.result (place_is c) (on_line c)

pub units_before-requires : goal.units_before-requires
units_before-requires c = let l = inside c.args.self.now c.offset-offset.result c.linecol_by-line.result (place_is c) (on_line c) in omega (arith, l)

between : (c : In-Some-Some) → c.in-Some-Some.end ≡ c.in-Some-Some.start + sum_by byte_units (take (c.offset-offset.result - (c.offset-offset.result - c.linecol_by-line.result.1)) (drop (c.offset-offset.result - c.linecol_by-line.result.1) c.args.self.now))
between c =
    let before : c.offset-offset.result - c.linecol_by-line.result.1 ≤ c.offset-offset.result = omega arith in
    omega (arith, c.in-Some-Some.ensures, c.in-Some-Some.ensures', total_between c.args.self.now (c.offset-offset.result - c.linecol_by-line.result.1) c.offset-offset.result before)

pub overflow_sub-result : goal.overflow_sub-result
overflow_sub-result c = omega (arith, between c)

pub returns-in-Some-Some : goal.returns-in-Some-Some
returns-in-Some-Some c =
    let units : c.in-Some-Some.end - c.in-Some-Some.start ≡ sum_by byte_units (take (c.offset-offset.result - (c.offset-offset.result - c.linecol_by-line.result.1)) (drop (c.offset-offset.result - c.linecol_by-line.result.1) c.args.self.now)) = omega (arith, between c) in
    let utf8 : IsUtf8 c.args.self.now = search rules in
    later c.args.self.now c.offset-offset.result c.linecol_by-line.result (place_is (goal.at.overflow_sub-result c).Then-column-gt-SHORT) (on_line (goal.at.overflow_sub-result c).Then-column-gt-SHORT) utf8 (c.in-Some-Some.end - c.in-Some-Some.start) units
    ∙ ap (utf16_line_and_column c.args.self.now) c.offset-offset.ensures
