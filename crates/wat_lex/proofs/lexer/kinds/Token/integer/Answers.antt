use Rattle.std.proofs.Common.{ap, sym, ◌∙◌, subst}
use Rattle.std.specs.Prelude.{IfOk}
use Rattle.std.specs.Str.{chars}
use Rattle.wat_lex.specs.values.NumberValues.{IsIntegerOf, IsNumeralOf}
use Rattle.wat_lex.proofs.values.NumberWords.{integer_word}
use Rattle.wat_lex.proofs.values.Numerals.{numeral_of, if_ok}
use Rattle.wat_lex.proofs.lexer.kinds.Token.integer.Goals as goal

pub from_word-requires : goal.from_word-requires
from_word-requires c =
    let n = integer_word c.src.result.now c.args.self.now.kind c.args.kind c.src.utf8 c.requires.kind c.src.ensures.word in
    record { ascii = n.ascii; number = n.is }

pub returns-clause-value : goal.returns-clause-value
returns-clause-value c =
    let n = integer_word c.src.result.now c.args.self.now.kind c.args.kind c.src.utf8 c.requires.kind c.src.ensures.word in
    subst (λ w. IfOk c.from_word.result (IsIntegerOf c.args.kind w)) (sym n.same ∙ ap chars c.src.ensures.text) c.from_word.ensures.value

pub returns-clause-numeral : goal.returns-clause-numeral
returns-clause-numeral c =
    let n = integer_word c.src.result.now c.args.self.now.kind c.args.kind c.src.utf8 c.requires.kind c.src.ensures.word in
    let h = if_ok (IsIntegerOf c.args.kind c.src.result.now) (IsNumeralOf c.args.kind c.src.result.now) (λ i. numeral_of c.args.kind c.src.result.now i n.is.0) c.from_word.result c.from_word.ensures.value in
    subst (λ w. IfOk c.from_word.result (IsNumeralOf c.args.kind w)) (sym n.same ∙ ap chars c.src.ensures.text) h
