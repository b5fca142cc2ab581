use Rattle.std.proofs.Common.{ap, ◌∙◌}
use Rattle.std.specs.BTreeMap.{keys}
use Rattle.std.specs.List.{list_any}
use Rattle.std.specs.String.{string_bytes}
use Rattle.wat_lexer_parser.specs.inside.MapEntries.{is_named}
use Rattle.wat_lexer_parser.proofs.names.MapsOfTexts.{registered_key}
use Rattle.wat_lexer_parser.proofs.parser.names.Names.has_name_of.Goals as goal

pub returns-then-len-le-FEW : goal.returns-then-len-le-FEW
returns-then-len-le-FEW c x is =
    c.has_key.ensures ∙ ap (λ r. list_any (λ k. is_named r (string_bytes k)) (keys c.self.inside.counts)) is
    ∙ registered_key c.self.inside.counts c.args.self.now x c.self.view_is c.self.invariant

pub returns-in-None : goal.returns-in-None
returns-in-None c x is =
    c.has_key-in-None.ensures ∙ ap (λ r. list_any (λ k. is_named r (string_bytes k)) (keys c.self.inside.counts)) is
    ∙ registered_key c.self.inside.counts c.args.self.now x c.self.view_is c.self.invariant
