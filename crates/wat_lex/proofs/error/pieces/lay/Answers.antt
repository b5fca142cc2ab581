use Rattle.std.proofs.Common.{◌≡◌, ◌+◌, ◌-◌, ◌++◌, min, length, take, drop, arith, ap, ◌∙◌}
use Rattle.std.proofs.lemmas.List.{drop-drop}
use borrow.Rule.Slice.PartMut.{put_mid}
use Rattle.wat_lex.proofs.errors.Laying.{laid_more, length_of_written}
use Rattle.wat_lex.proofs.error.pieces.lay.Goals as goal
use Rattle.wat_lex.proofs.error.pieces.lay.Goals.{then-text-room, else-text-room}

pub returns : goal.returns
returns c =
    let text = c.args.text.now in
    let out = c.args.out.now in
    let at = c.args.at in
    let count = c.if-text-room.count in
    let same = ap length c.as_bytes-text.ensures.value in
    let few : count ≡ min (length text) (length out - at) =
    elim c.if-text-room.branch [ then-text-room w ↦ omega (arith, w.count-is, w.if-text-room.true, same) | else-text-room w ↦ omega (arith, w.count-is, w.if-text-room.false, same) ] in
    let width : at + count - at ≡ count = omega arith in
    let part : c.copy_from_slice.new.self ≡ take count text = c.copy_from_slice.ensures.after ∙ ap (take count) c.as_bytes-text.ensures.value in
    let wrote : put_mid at (at + count - at) out c.copy_from_slice.new.self ≡ take at out ++ (take count text ++ drop (at + count) out) =
    ap (λ n. put_mid at n out c.copy_from_slice.new.self) width ∙ ap (put_mid at count out) part ∙ ap (λ x. take at out ++ (take count text ++ x)) (drop-drop count at out) in
    let all = ap length wrote ∙ length_of_written out text at count c.requires few in
    record {
      within = omega (arith, all, few, c.requires);
      long = all;
      more = λ before already h. laid_more before already out text _ at count h few wrote;
    }
