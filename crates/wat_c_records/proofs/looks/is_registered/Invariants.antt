use Rattle.std.proofs.Common.{◌≡◌, drop}
use Rattle.wat_lexer_parser.specs.names.RegisteredNames.{is_registered}
use Rattle.wat_c_records.specs.Looks.{names_between, names_of, registered}
use Rattle.wat_c_records.proofs.looks.is_registered.Given as goal

abbrev pub invariant-loop-end : goal.invariant-loop-end
invariant-loop-end l =
    is_registered (names_of l.names l.ends) l.name
    ≡ is_registered (registered (names_between l.start l.names (drop l.end-index l.ends))) l.name
