use Rattle.std.proofs.Common.{◌≡◌, length, rules}
use Rattle.wat_module_tokens.specs.Tokens.{number_of}
use Rattle.wat_module_lexer.proofs.Drafts.{with_kept}
use Rattle.wat_module_lexer.proofs.Puts.{put_kept}
use Rattle.wat_module_lexer.proofs.push_side_value.Goals as goal

pub returns-clause-is : goal.returns-clause-is
returns-clause-is c = λ x is r h.
    let d = c.args.packed.now in
    let index : number_of c.new.result ≡ length d.kept.items = search rules in
    with_kept c.args.text.now d.kept.items c.push.new.self.items d.tokens.items c.push-2.new.self.items c.args.value c.new.result x c.in_ok-push.ensures.items c.in_ok-push-2.ensures.items index h.readable r

pub returns-clause-sound : goal.returns-clause-sound
returns-clause-sound c = λ x is r h.
    let d = c.args.packed.now in
    let index : number_of c.new.result ≡ length d.kept.items = search rules in
    put_kept c.args.text.now d (record { tokens = c.push-2.new.self; kept = c.push.new.self }) is c.args.value c.new.result x c.in_ok-push.ensures.items c.in_ok-push-2.ensures.items index r h
