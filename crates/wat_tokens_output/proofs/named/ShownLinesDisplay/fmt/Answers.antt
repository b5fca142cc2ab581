use Rattle.std.proofs.Common.{◌++◌, sym, ap, ◌∙◌, rules, append_assoc, append-nil, subst}
use Rattle.std.specs.Fmt.{HasWritten}
use Rattle.std.specs.Prelude.{encode_utf8}
use Rattle.std.specs.Str.Iter.{chars_rest}
use Rattle.std.proofs.Output.{has_written_append}
use Rattle.std.proofs.lemmas.Str.{IsUtf8-past_char}
use Rattle.wat_tokens_output.specs.Places.{visible_lines, visible_in_lines}
use Rattle.wat_tokens_output.proofs.VisibleLaws.{by_char_step, by_char_end}
use Rattle.wat_tokens_output.proofs.named.ShownLinesDisplay.fmt.Goals as goal

pub loop-c-preserved : goal.loop-c-preserved
loop-c-preserved g c =
    let held = c.loop-c.invariant in
    let parts = c.in-Some.ensures.steps.0 in
    let step = by_char_step visible_in_lines _ _ c.in-Some.c held.0 parts in (
      IsUtf8-past_char _ _ c.in-Some.c held.0 parts,
      λ plain.
          let so_far = held.1 plain in (
            so_far.0 ++ encode_utf8 (visible_in_lines c.in-Some.c),
            has_written_append _ _ _ _ _ _ so_far.1 (search rules),
            append_assoc so_far.0 (encode_utf8 (visible_in_lines c.in-Some.c)) (visible_lines (chars_rest c.next.new.self)) ∙ ap (λ x. so_far.0 ++ x) (sym step) ∙ so_far.2,
          ),
    )

pub returns-clause-writes : goal.returns-clause-writes
returns-clause-writes g c = λ plain _.
    let so_far = c.loop-c.invariant.1 plain in
    let all = sym (append-nil so_far.0) ∙ ap (λ x. so_far.0 ++ x) (sym (by_char_end visible_in_lines _ c.in-None.ensures.steps.0.0)) ∙ so_far.2 in
    subst (λ t. HasWritten g.W.Write.write_str_gives c.args.f.now t c.loop-c.f) all so_far.1
