use Rattle.std.proofs.Common.{rules}
use Rattle.wat_lex.proofs.values.NameParts.{scalar_whole}
use Rattle.wat_lex.proofs.lexer.read.names.Part.escaped.Goals as goal

pub returns-in-Scalar-clause-whole : goal.returns-in-Scalar-clause-whole
returns-in-Scalar-clause-whole c = scalar_whole c.in-Scalar.c (search rules)
