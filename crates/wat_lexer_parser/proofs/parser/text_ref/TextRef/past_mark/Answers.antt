use Rattle.std.proofs.Common.{rules}
use Rattle.std.specs.Prelude.{IsTrue}
use Rattle.wat_lexer_parser.proofs.shown.PassedGroups.{past_marked}
use Rattle.wat_lexer_parser.proofs.parser.text_ref.TextRef.past_mark.Goals as goal

pub returns-clause-same : goal.returns-clause-same
returns-clause-same c =
    let is : IsTrue c.args.is_marked = search rules in
    let m = c.requires.marked is in
    past_marked c.args.self.now c.args.names.now c.args.place m.paren c.past_annotation.result m.there m.kind m.marked c.past_annotation.ensures.skip c.past_annotation.ensures.ends
