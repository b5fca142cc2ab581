use Rattle.std.proofs.Common.{ap, sym, ◌∙◌, subst}
use Rattle.std.specs.Prelude.{IfOk}
use Rattle.std.specs.Str.{chars}
use Rattle.wat_lex.specs.values.NumberValues.{IsFloatOf}
use Rattle.wat_lex.proofs.values.NumberWords.{float_word}
use Rattle.wat_lex.proofs.lexer.kinds.Token.float.Goals as goal

pub from_word-requires : goal.from_word-requires
from_word-requires c =
    let n = float_word c.src.result.now c.args.self.now.kind c.args.kind c.src.utf8 c.requires.kind c.src.ensures.word in
    record { ascii = n.ascii; number = n.is }

pub returns-clause-value : goal.returns-clause-value
returns-clause-value c =
    let n = float_word c.src.result.now c.args.self.now.kind c.args.kind c.src.utf8 c.requires.kind c.src.ensures.word in
    subst (λ w. IfOk c.from_word.result (IsFloatOf c.args.kind w)) (sym n.same ∙ ap chars c.src.ensures.text) c.from_word.ensures.value
