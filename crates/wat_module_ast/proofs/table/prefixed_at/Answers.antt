use Rattle.std.proofs.Common.{◌++◌, ◌-◌, Some}
use Rattle.wat_module_ast.specs.Table.{found_of, row_of, prefixed, low_vectors, high_vectors}
use Rattle.wat_module_ast.proofs.Tables.{in_first, in_second, is_past}
use Rattle.wat_module_ast.proofs.table.prefixed_at.Goals as goal

pub overflow_sub-place-in-None-row_in-2 : goal.overflow_sub-place-in-None-row_in-2
unfolding low_vectors
overflow_sub-place-in-None-row_in-2 c = is_past low_vectors (c.args.place - 18) c.in-None-row_in.ensures

pub returns-in-Some : goal.returns-in-Some
unfolding prefixed
returns-in-Some c = in_first prefixed (low_vectors ++ high_vectors) c.args.place (row_of c.in-Some.row) c.in-Some.ensures

pub returns-in-Some-row_in : goal.returns-in-Some-row_in
unfolding prefixed low_vectors
returns-in-Some-row_in c =
    in_second prefixed (low_vectors ++ high_vectors) c.args.place (Some (row_of c.in-Some-row_in.row)) c.in-None.ensures
    (in_first low_vectors high_vectors (c.args.place - 18) (row_of c.in-Some-row_in.row) c.in-Some-row_in.ensures)

pub returns-in-None-row_in : goal.returns-in-None-row_in
unfolding prefixed low_vectors high_vectors
returns-in-None-row_in c =
    in_second prefixed (low_vectors ++ high_vectors) c.args.place (found_of c.row_in-in-None-row_in.result) c.in-None.ensures
    (in_second low_vectors high_vectors (c.args.place - 18) (found_of c.row_in-in-None-row_in.result) c.in-None-row_in.ensures c.row_in-in-None-row_in.ensures)
