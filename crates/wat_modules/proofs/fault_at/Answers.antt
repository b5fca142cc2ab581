use Rattle.std.proofs.Common.{subst, sym}
use Rattle.std.specs.List.{All}
use Rattle.wat_lex.specs.tokens.ReadableTokens.{IsTokenOf}
use Rattle.wat_lex.specs.errors.Errors.{IsUnlessMemory}
use Rattle.wat_modules.proofs.Answering.{fault_of_tokens, fault_report, readable_of}
use Rattle.wat_modules.proofs.fault_at.Goals as goal

pub returns-in-Ok : goal.returns-in-Ok
returns-in-Ok c = λ tokens h.
    let is = subst (λ ts. IsUnlessMemory c.error_of.result (fault_report c.args.text.now ts c.args.kind c.args.left)) c.deref.ensures.value c.error_of.ensures in
    fault_of_tokens c.one_tiling.ensures.one c.all_shown.ensures.all_one c.args.text.now c.in-Ok.shown.tokens.items tokens c.in-Ok.shown.error c.args.kind c.args.left c.error_of.result c.in-Ok.ensures.shown is h

pub error_of-requires : goal.error_of-requires
error_of-requires c = subst (λ ts. All (IsTokenOf c.args.text.now) ts) (sym c.deref.ensures.value) (readable_of c.args.text.now c.in-Ok.shown.tokens.items c.in-Ok.shown.error c.in-Ok.ensures.shown)
