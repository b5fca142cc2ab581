use Rattle.std.proofs.lemmas.Str.{IsCharBoundary-start}
use Rattle.wat_tokens_run.proofs.print.error_in.Goals as goal

pub first_fault-requires : goal.first_fault-requires
first_fault-requires c = IsCharBoundary-start c.args.lexer.now.text c.input-text.ensures.utf8
