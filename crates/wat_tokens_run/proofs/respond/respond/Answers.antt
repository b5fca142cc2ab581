use Rattle.std.proofs.Common.{◌≡◌, true, false, inl, inr, refl, rules, sym, ◌∙◌}
use Rattle.wat_tokens_run.specs.Responses.Responded.{acted, on_terminal}
use Rattle.wat_tokens_run.proofs.respond.respond.Goals as goal

pub returns-then-not-is_output_allowed : goal.returns-then-not-is_output_allowed
returns-then-not-is_output_allowed g c =
    let asked = rw c.in-Ok-Some.field-0-is at c.in-Ok-Some.ensures.asked in
    on_terminal c.in-Ok-Some.command asked (elim c.is_output_allowed.ensures.stopped [ inl t ↦ (let d : true ≡ false = sym t ∙ c.if-not-is_output_allowed.true in cc) | inr s ↦ s ]) (search rules) refl refl

pub returns-else-not-is_output_allowed : goal.returns-else-not-is_output_allowed
returns-else-not-is_output_allowed g c =
    let asked = rw c.in-Ok-Some.field-0-is at c.in-Ok-Some.ensures.asked in
    acted c.in-Ok-Some.command asked (c.file_in_question_exists.ensures.meant c.if-not-file_in_question_exists.false) (c.is_output_allowed.ensures.allowed c.if-not-is_output_allowed.false) c.act.ensures
