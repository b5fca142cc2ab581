use Rattle.std.proofs.Common.{refl}
use Rattle.wat_module_lexer.proofs.Puts.{put_short}
use Rattle.wat_module_lexer.proofs.push_short.Goals as goal

pub returns-clause-sound : goal.returns-clause-sound
returns-clause-sound c = λ x is r h. put_short c.args.text.now c.args.packed.now (record c.args.packed.now { tokens = c.push.new.self }) is c.args.token x c.in_ok-push.ensures.items refl r.0 r.1 r.2 h
