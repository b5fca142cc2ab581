use Rattle.std.proofs.Common.{◌<◌, ◌^◌, length, sym, ◌∙◌, arith}
use Rattle.wat_module_encoder.specs.Binary.{data_bytes}
use Rattle.wat_module_encoder.specs.Views.{segment_of}
use Rattle.wat_module_encoder.proofs.SectionBytes.{headed}
use Rattle.wat_module_encoder.proofs.data.put_data.Goals as goal

pub returns : goal.returns
returns c =
    let out = c.loop-segment.out in
    let small : length out.items < 2 ^ 63 = omega (arith, out.ok.0, out.ok.1, out.small) in
    headed 11 segment_of (data_bytes c.args.types.now) c.args.segments.now c.loop-segment.segment-index c.in_ok-len.len c.args.out.now.items c.put_head.new.out.items out.items (sym c.is_empty.ensures ∙ c.if-is_empty.false) c.in_ok-len.ensures c.in_ok-put_head.ensures c.loop-segment.invariant c.loop-segment-test.false small
