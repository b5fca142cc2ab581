use Rattle.std.proofs.Common.{◌++◌, ◌-◌, Some}
use Rattle.wat_module_ast.specs.Table.{found_of, row_of, low, high, prefixed, low_vectors, high_vectors, mnemonics}
use Rattle.wat_module_ast.proofs.Tables.{in_first, in_second, is_past}
use Rattle.wat_module_ast.proofs.table.row_at.Goals as goal

pub overflow_sub-place : goal.overflow_sub-place
unfolding low
overflow_sub-place c = is_past low c.args.place c.in-None.ensures

pub overflow_sub-place-in-None-row_in-2 : goal.overflow_sub-place-in-None-row_in-2
unfolding high
overflow_sub-place-in-None-row_in-2 c = is_past high (c.args.place - 105) c.in-None-row_in.ensures

pub returns-in-Some : goal.returns-in-Some
unfolding mnemonics low
returns-in-Some c = in_first low (high ++ (prefixed ++ (low_vectors ++ high_vectors))) c.args.place (row_of c.in-Some.row) c.in-Some.ensures

pub returns-in-Some-row_in : goal.returns-in-Some-row_in
unfolding mnemonics low high
returns-in-Some-row_in c =
    in_second low (high ++ (prefixed ++ (low_vectors ++ high_vectors))) c.args.place (Some (row_of c.in-Some-row_in.row)) c.in-None.ensures
    (in_first high (prefixed ++ (low_vectors ++ high_vectors)) (c.args.place - 105) (row_of c.in-Some-row_in.row) c.in-Some-row_in.ensures)

pub returns-in-None-row_in : goal.returns-in-None-row_in
unfolding mnemonics low high
returns-in-None-row_in c =
    in_second low (high ++ (prefixed ++ (low_vectors ++ high_vectors))) c.args.place (found_of c.prefixed_at.result) c.in-None.ensures
    (in_second high (prefixed ++ (low_vectors ++ high_vectors)) (c.args.place - 105) (found_of c.prefixed_at.result) c.in-None-row_in.ensures c.prefixed_at.ensures)
