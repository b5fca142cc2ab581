use Rattle.std.proofs.Common.{subst, sym, ◌∙◌}
use Rattle.std.specs.List.{All}
use Rattle.wat_lex.specs.tokens.ReadableTokens.{IsTokenOf}
use Rattle.wat_modules.proofs.Answering.{readable_of, tokens_again}
use Rattle.wat_modules.proofs.Invalid.{same_report}
use Rattle.wat_modules.proofs.validity.invalid_error.Goals as goal

pub returns-in-Ok-shown_tokens : goal.returns-in-Ok-shown_tokens
returns-in-Ok-shown_tokens c = λ us shows are m.
    let text = c.args.text.now in
    let items = tokens_again c.one_tiling.ensures.one c.all_shown.ensures.all_one text c.in-Ok-shown_tokens.shown.tokens.items us c.in-Ok-shown_tokens.shown.error c.in-Ok-shown_tokens.ensures.shown shows in
    same_report text _ us _ _ _ _ c.error_at.result (c.deref.ensures.value ∙ items) (c.in-Ok.ensures m) c.in-Ok-message_of.ensures c.error_at.ensures

pub error_at-requires : goal.error_at-requires
error_at-requires c = subst (λ ts. All (IsTokenOf c.args.text.now) ts) (sym c.deref.ensures.value) (readable_of c.args.text.now c.in-Ok-shown_tokens.shown.tokens.items c.in-Ok-shown_tokens.shown.error c.in-Ok-shown_tokens.ensures.shown)
