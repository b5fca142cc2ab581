use Rattle.std.proofs.Common.{◌∙◌, ◌++◌, ◌∷◌, [], ap, append_assoc, sym}
use Rattle.wat_lex.specs.binary.Leb128.{unsigned_leb128}
use Rattle.wat_module_encoder.proofs.RunLaws.{run_is}
use Rattle.wat_module_encoder.proofs.code.put_run.Goals as goal

pub returns-in_ok-push : goal.returns-in_ok-push
returns-in_ok-push c =
    let out = c.args.out.now.items in
    c.in_ok-push.ensures.items ∙ ap (λ bs. bs ++ c.args.byte ∷ []) c.in_ok-put.ensures
    ∙ append_assoc out (unsigned_leb128 c.args.count) (c.args.byte ∷ [])
    ∙ ap (λ bs. out ++ bs) (sym (run_is c.args.count c.args.byte c.if-count-gt0.true))
