use Rattle.wat_module_ast.proofs.Lengths.{together_past}
use Rattle.wat_module_ast.proofs.fields.len_of.Goals as goal

pub returns-then-len-gt-MAX_SLICE_LEN-clause-refused : goal.returns-then-len-gt-MAX_SLICE_LEN-clause-refused
returns-then-len-gt-MAX_SLICE_LEN-clause-refused c = together_past c.args.strings.now _ c.loop-string.string-index c.loop-string.len _ c.loop-string-test.true c.loop-string.invariant.0 c.if-len-gt-MAX_SLICE_LEN.true
