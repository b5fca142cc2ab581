use Rattle.std.proofs.Common.{◌≡◌, ◌++◌, ◌-◌, ap, sym, ◌∙◌, rules, subst, append_assoc, append-nil}
use Rattle.std.specs.Fmt.{HasWritten}
use Rattle.std.specs.Prelude.{codes, encode_utf8}
use Rattle.std.proofs.Output.{has_written_append}
use Rattle.wat_tokens_output.specs.Places.{start_of}
use Rattle.wat_tokens_output.proofs.WindowLaws.{start_none, start_cut, start_more}
use Rattle.wat_tokens_output.proofs.named.write_start.Goals as goal

pub returns-then-left-eq0 : goal.returns-then-left-eq0
returns-then-left-eq0 g c = λ plain ok.
    let so_far = c.loop-c.invariant plain in
    let cut : start_of c.loop-c.left c.loop-c.c-iterator ≡ codes "..." =
    ap (λ n. start_of n c.loop-c.c-iterator) c.if-left-eq0.true ∙ ap (start_of 0) c.in-Some.ensures.steps ∙ start_cut c.in-Some.c c.next.new.self in
    let all : so_far.0 ++ codes "..." ≡ start_of 500 c.args.characters = ap (λ x. so_far.0 ++ x) (sym cut) ∙ so_far.2 in
    subst (λ t. HasWritten g.W.Write.write_str_gives c.args.f.now t c.write_str.new.self) all (has_written_append _ _ _ _ _ _ so_far.1 (search (rules, ok)))

pub loop-c-preserved : goal.loop-c-preserved
loop-c-preserved g c = λ plain.
    let so_far = c.loop-c.invariant plain in
    let step : start_of c.loop-c.left c.loop-c.c-iterator ≡ encode_utf8 c.in-Some.c ++ start_of (c.loop-c.left - 1) c.next.new.self =
    ap (start_of c.loop-c.left) c.in-Some.ensures.steps ∙ start_more c.loop-c.left c.in-Some.c c.next.new.self c.if-left-eq0.false in (
      so_far.0 ++ encode_utf8 c.in-Some.c,
      has_written_append _ _ _ _ _ _ so_far.1 (search rules),
      append_assoc so_far.0 (encode_utf8 c.in-Some.c) (start_of (c.loop-c.left - 1) c.next.new.self) ∙ ap (λ x. so_far.0 ++ x) (sym step) ∙ so_far.2,
    )

pub returns : goal.returns
returns g c = λ plain _.
    let so_far = c.loop-c.invariant plain in
    let none = ap (start_of c.loop-c.left) c.in-None.ensures.steps.0 ∙ start_none c.loop-c.left in
    let all = sym (append-nil so_far.0) ∙ ap (λ x. so_far.0 ++ x) (sym none) ∙ so_far.2 in
    subst (λ t. HasWritten g.W.Write.write_str_gives c.args.f.now t c.loop-c.f) all so_far.1
