use Rattle.std.proofs.Common.{map, refl}
use Rattle.std.specs.Prelude.{Vec}
use Rattle.std.specs.declared.alloc.Global.{Global}
use Rattle.std.proofs.lemmas.List.{map-id}
use Rattle.wat_lexer_parser.specs.lemmas.ReadingLaws.{reads_alike}
use Rattle.wat_types.specs.Meanings.{vals}
use Rattle.wat_types.specs.declared.types.ValType.{ValType}
use Rattle.wat_types.proofs.Lists.{advances_val}
use Rattle.wat_types.proofs.text.vals.Goals as goal

pub all_of-requires : goal.all_of-requires
all_of-requires c = λ k. ((refl, tt), advances_val)

pub returns-clause-reads : goal.returns-clause-reads
returns-clause-reads c =
    reads_alike (λ (v : Vec ValType Global). map (λ t. t) v.items) (λ v. v.items) vals c.args.parser.now c.all_of.result c.all_of.new.self.place (λ v. map-id v.items) c.all_of.ensures.reads
