use Rattle.wat_tokens_args.specs.Arguments.{args_of}
use Rattle.wat_tokens_args.proofs.LineLaws.{take_both, take_not}
use Rattle.wat_tokens_args.proofs.options.Line.accepts_all.Goals as goal

pub returns-then-accepts_all : goal.returns-then-accepts_all
returns-then-accepts_all c = take_both c.args.self.now.verb (args_of c.args.self.now.front.now) (args_of c.args.self.now.args.now) c.accepts_all.result _ c.accepts_all.ensures c.if-accepts_all.true c.accepts_all-then-accepts_all.ensures

pub returns-else-accepts_all : goal.returns-else-accepts_all
returns-else-accepts_all c = take_not c.args.self.now.verb (args_of c.args.self.now.front.now) (args_of c.args.self.now.args.now) c.accepts_all.result c.accepts_all.ensures c.if-accepts_all.false
