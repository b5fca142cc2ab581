use Rattle.std.proofs.Common.{string_bytes, arith, sym, ◌∙◌}
use Rattle.wat_format.specs.inside.Steps.{Writes}
use Rattle.wat_format.proofs.Laying.{on_ok, lays_token, few_after, token_cut}
use Rattle.wat_format.proofs.formatter.Formatter.take.Goals as goal

pub returns-clause-written : goal.returns-clause-written
returns-clause-written c =
    on_ok c.write.result (lays_token c.args.text.now c.args.self.now _ c.args.token.now _ _ c.range-word.result.now (sym c.is_white.ensures ∙ c.if-is_white.false) (c.range-word.ensures.value ∙ token_cut c.args.text.now c.args.token.now)) c.write.ensures

pub returns-clause-few : goal.returns-clause-few
returns-clause-few c =
    on_ok c.write.result (λ (h : Writes c.args.token.now.kind c.range-word.result.now c.args.self.now c.write.new.self (string_bytes c.args.out.now) (string_bytes c.write.new.out)).
    few_after c.args.token.now.offset _ _ _ c.args.self.now _ (omega arith) h.state c.requires.few) c.write.ensures
