use Rattle.std.proofs.Common.{◌≡◌, take}
use Rattle.wat_tokens_output.specs.Shows.{with_names}
use Rattle.wat_tokens_output.proofs.show.register_all.Given as goal

abbrev pub invariant-loop-name : goal.invariant-loop-name
invariant-loop-name l = l.parser ≡ record l.fn.parser { names = with_names l.fn.parser.names (take l.name-index l.names) }
