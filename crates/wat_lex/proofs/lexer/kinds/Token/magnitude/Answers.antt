use Rattle.std.proofs.Common.{◌≡◌, ◌≤◌, ◌^◌, ap, sym, ◌∙◌, subst}
use Rattle.std.specs.Prelude.{MatchOption}
use Rattle.std.specs.Str.{chars}
use Rattle.wat_lex.specs.values.NumberValues.{integer_value}
use Rattle.wat_lex.proofs.values.NumberWords.{integer_word}
use Rattle.wat_lex.proofs.lexer.kinds.Token.magnitude.Goals as goal

pub magnitude_of-requires : goal.magnitude_of-requires
magnitude_of-requires c = (integer_word c.src.result.now c.args.self.now.kind c.args.kind c.src.utf8 c.requires.kind c.src.ensures.word).is

pub returns : goal.returns
returns c =
    let n = integer_word c.src.result.now c.args.self.now.kind c.args.kind c.src.utf8 c.requires.kind c.src.ensures.word in
    subst (λ w. MatchOption c.magnitude_of.result (2 ^ 64 ≤ integer_value c.args.kind.hex w) (λ m. m ≡ integer_value c.args.kind.hex w)) (sym n.same ∙ ap chars c.src.ensures.text) c.magnitude_of.ensures
