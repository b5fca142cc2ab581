use Rattle.wat_c.proofs.Compilation.{complete_all, complete_bytes_are, complete_of_text, complete_result, unnamed_all, unnamed_bytes, unnamed_of_text, unnamed_result}
use Rattle.wat_c.proofs.compiling.compile_as.Goals as goal

pub returns-then-names-clause-bytes : goal.returns-then-names-clause-bytes
returns-then-names-clause-bytes c = complete_bytes_are c.args.names c.args.text.now c.compile_with_customs.result c.if-names.true c.compile_with_customs.ensures.bytes

pub returns-then-names-clause-all : goal.returns-then-names-clause-all
returns-then-names-clause-all c = complete_all c.args.names c.args.text.now c.compile_with_customs.result c.if-names.true c.compile_with_customs.ensures.spelled

pub returns-then-names-clause-compiled : goal.returns-then-names-clause-compiled
returns-then-names-clause-compiled c = complete_of_text c.args.names c.args.text.now c.compile_with_customs.result c.if-names.true c.compile_with_customs.ensures.refused

pub returns-then-names-clause-some : goal.returns-then-names-clause-some
returns-then-names-clause-some c = complete_result c.args.names c.args.text.now c.if-names.true c.compile_with_customs.ensures.some c.compile_with_customs.ensures.sections

pub returns-else-names-clause-bytes : goal.returns-else-names-clause-bytes
returns-else-names-clause-bytes c = unnamed_bytes c.args.names c.args.text.now c.compile.result c.if-names.false c.compile.ensures.bytes

pub returns-else-names-clause-all : goal.returns-else-names-clause-all
returns-else-names-clause-all c = unnamed_all c.args.names c.args.text.now c.compile.result c.if-names.false c.compile.ensures.spelled

pub returns-else-names-clause-compiled : goal.returns-else-names-clause-compiled
returns-else-names-clause-compiled c = unnamed_of_text c.args.names c.args.text.now c.compile.result c.if-names.false c.compile.ensures.refused

pub returns-else-names-clause-some : goal.returns-else-names-clause-some
returns-else-names-clause-some c = unnamed_result c.args.names c.args.text.now c.if-names.false c.compile.ensures.some
