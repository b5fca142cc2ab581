use Rattle.std.proofs.Common.{◌≡◌, length, refl, rules}
use Rattle.wat_module_lexer.proofs.Puts.{put_open}
use Rattle.wat_module_lexer.proofs.push_open.Goals as goal

pub returns-clause-sound : goal.returns-clause-sound
returns-clause-sound c =
    let count : c.len.result ≡ length c.args.packed.now.tokens.items = search rules in
    put_open c.args.text.now c.args.packed.now (record c.args.packed.now { tokens = c.push-2.new.self }) c.args.groups.now.items c.push.new.self.items c.new.result c.len.result c.in_ok-push-2.ensures.items refl c.in_ok-push.ensures.items count c.new.ensures c.requires.sound
