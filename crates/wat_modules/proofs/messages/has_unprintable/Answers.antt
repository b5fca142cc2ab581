use Rattle.std.proofs.Common.{rules, ◌≡◌, sym, ap, ◌∙◌, true, false}
use Rattle.std.specs.Prelude.{◌||◌}
use Rattle.std.specs.List.{list_any}
use Rattle.std.specs.Str.{chars}
use Rattle.std.specs.Str.Iter.{chars_rest}
use Rattle.std.proofs.lemmas.List.{nil_from_length}
use Rattle.std.proofs.lemmas.Str.{IsUtf8-past_char, chars-nil, chars_past_char}
use Rattle.wat_modules.specs.Messages.{is_unprintable}
use Rattle.wat_modules.proofs.messages.has_unprintable.Goals as goal

pub returns-then-is_unprintable : goal.returns-then-is_unprintable
returns-then-is_unprintable c =
    let held = c.loop-c.invariant in
    let has : is_unprintable c.in-Some.c ≡ true = search rules in
    let step = chars_past_char _ _ c.in-Some.c held.0 c.in-Some.ensures.steps.0 in
    sym (ap (λ b. b || list_any is_unprintable (chars (chars_rest c.next.new.self))) has) ∙ ap (list_any is_unprintable) (sym step) ∙ held.1

pub loop-c-preserved : goal.loop-c-preserved
loop-c-preserved c =
    let held = c.loop-c.invariant in
    let parts = c.in-Some.ensures.steps.0 in
    let has_not : is_unprintable c.in-Some.c ≡ false = search rules in
    let step = chars_past_char _ _ c.in-Some.c held.0 parts in (
      IsUtf8-past_char _ _ c.in-Some.c held.0 parts,
      sym (ap (λ b. b || list_any is_unprintable (chars (chars_rest c.next.new.self))) has_not) ∙ ap (list_any is_unprintable) (sym step) ∙ held.1,
    )

pub returns : goal.returns
returns c =
    let held = c.loop-c.invariant in
    sym (ap (list_any is_unprintable) (ap chars (nil_from_length _ c.in-None.ensures.steps.0.0) ∙ chars-nil)) ∙ held.1
