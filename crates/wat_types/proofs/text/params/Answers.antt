use Rattle.std.proofs.Common.{◌≡◌, refl, rules, sym, subst, None, Err}
use Rattle.std.specs.Prelude.{Vec}
use Rattle.std.specs.declared.alloc.Global.{Global}
use Rattle.wat_lexer_parser.specs.lemmas.ReadingLaws.{advances_group}
use Rattle.wat_lexer_parser.specs.parser.Sights.{second}
use Rattle.wat_lexer_parser.specs.readings.Readings.{group}
use Rattle.wat_lexer_parser.specs.readings.Reads.{Reads}
use Rattle.wat_types.specs.Meanings.{param, param_word, params, sees}
use Rattle.wat_types.specs.declared.types.ValType.{ValType}
use Rattle.wat_types.proofs.Lists.{joined_read, joined_takes}
use Rattle.wat_types.proofs.text.params.Goals as goal

pub all_after-requires : goal.all_after-requires
all_after-requires c = λ k. ((refl, tt), advances_group param)

pub returns-in_err-joined-clause-reads : goal.returns-in_err-joined-clause-reads
returns-in_err-joined-clause-reads c =
    let a = c.args.parser.now in
    let none : c.from_residual-in_err-joined.result ≡ Err None = search rules in
    subst (λ r. Reads (λ (v : Vec ValType Global). v.items) params a r c.all_after.new.self.place) (sym none) (joined_takes _ (second (sees param_word)) (group param) a _ c.in_ok-all.ensures.reads.0 (search rules))

pub returns-clause-reads : goal.returns-clause-reads
returns-clause-reads c =
    let read = c.in_ok-all.ensures.reads in
    (joined_read _ (second (sees param_word)) (group param) c.args.parser.now _ c.in_ok-joined.field-0.items read.0 (search rules), read.1)
