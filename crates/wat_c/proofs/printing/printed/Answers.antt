use Rattle.std.proofs.Common.{◌++◌, ap, ◌∙◌}
use Rattle.wat_lex.specs.errors.Rendering.{excerpt}
use Rattle.wat_c.specs.Printing.{file_name}
use Rattle.wat_c.proofs.PrintedErrors.{joined_four}
use Rattle.wat_c.proofs.printing.printed.Goals as goal

pub split_at_name-requires : goal.split_at_name-requires
split_at_name-requires c = (excerpt c.args.text.now c.args.offset, c.deref.ensures.value ∙ c.in_ok-shown.ensures)

pub returns : goal.returns
returns c =
    let m = c.args.message.now in
    let front = c.split_at_name.result.0.now in
    let back = c.split_at_name.result.1.now in
    let name = file_name c.args.file.now in
    let around = c.split_at_name.ensures (excerpt c.args.text.now c.args.offset) name (c.deref.ensures.value ∙ c.in_ok-shown.ensures) in
    joined_four c.new-all.result.items c.extend_from_slice.new.self.items c.extend_from_slice-2.new.self.items c.extend_from_slice-3.new.self.items c.extend_from_slice-4.new.self.items m front name back
    c.new-all.ensures.items c.in_ok-extend_from_slice.ensures.items c.in_ok-extend_from_slice-2.ensures.items
    (c.in_ok-extend_from_slice-3.ensures.items ∙ ap (λ x. c.extend_from_slice-2.new.self.items ++ x) c.file_name.ensures) c.in_ok-extend_from_slice-4.ensures.items
    ∙ ap (λ x. m ++ x) around
