use Rattle.std.proofs.Common.{◌≤◌, length, arith, subst}
use Rattle.wat_lexer_parser.specs.places.Source.{Source, IsRead}
use Rattle.wat_lexer_parser.proofs.inside.RawTokens.{raws_are}
use Rattle.wat_lexer_parser.proofs.places.Bytes.{few_tokens}
use Rattle.wat_lexer_parser.proofs.parser.text_ref.TextRef.lemma_read.Goals as goal

pub returns-clause-read : goal.returns-clause-read
returns-clause-read c = subst IsRead c.self.view_is (raws_are c.self.inside.lexer c.input-text.ensures.utf8)

pub returns-clause-small : goal.returns-clause-small
returns-clause-small c =
    let read = raws_are c.self.inside.lexer c.input-text.ensures.utf8 in
    let few = few_tokens c.self.inside.lexer _ _ c.input-text.ensures.utf8 read in
    let small : length c.args.self.now.tokens ≤ length c.self.inside.lexer.text = subst (λ (s : Source). length s.tokens ≤ length c.self.inside.lexer.text) c.self.view_is few in
    omega (arith, small, c.input-text.ensures.short)
