use Rattle.std.proofs.Common.{◌≡◌, ◌-◌, ◌++◌, [], length, take, drop, ap, sym, ◌∙◌, arith, length-append, refl}
use Rattle.std.specs.Prelude.{codes}
use Rattle.std.proofs.lemmas.List.{length-take-le, length-drop, drop_all}
use Rattle.wat_lex.specs.errors.Errors.{rendered_fault}
use Rattle.wat_lex.specs.errors.Rendering.{excerpt, rendered_location}
use Rattle.wat_c.proofs.PrintedErrors.{whole_laid, message_over}
use Rattle.wat_c.proofs.printing.write_long.Goals as goal

pub returns : goal.returns
returns c =
    let m = c.args.message.now in
    let out = c.args.out.now in
    let i = length m - 16 in
    let n = length out - i in
    let place = rendered_location (excerpt c.args.text.now c.args.offset) in
    let all = codes "empty identifier" ++ place in
    let same : rendered_fault c.rendered_at.result ≡ all = ap rendered_fault c.rendered_at.ensures in
    let before = take n (drop i out) in
    let long : length before ≡ length all = length-take-le n (drop i out) (omega (arith, length-drop i out)) ∙ omega (arith, c.requires.long, c.requires.room, length-append (codes "empty identifier") place) in
    let laid : c.write_to.new.out ≡ all = c.write_to.ensures.bytes ∙ whole_laid (rendered_fault c.rendered_at.result) before (long ∙ ap length (sym same)) ∙ same in
    let none : drop n (drop i out) ≡ [] = drop_all n (drop i out) (omega (arith, length-drop i out)) in
    ap (λ x. x ++ drop (length m) (take i out ++ (c.write_to.new.out ++ drop n (drop i out)))) c.copy_from_slice.ensures.after
    ∙ message_over m out c.write_to.new.out (drop n (drop i out)) all (codes "empty identifier") place c.requires.long refl refl laid (omega (arith, c.requires.room)) none
