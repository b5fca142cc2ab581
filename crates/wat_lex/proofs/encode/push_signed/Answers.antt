use Rattle.std.proofs.Common.{◌≡◌, ap, arith, bit_or, take, vec_len, sym, ◌∙◌, ◌++◌, ◌+◌, ◌∷◌, [], to_z, of_z, w64}
use Rattle.std.proofs.lemmas.Int.{to_z-of_z}
use Rattle.wat_lex.specs.binary.Leb128.{high_bits_of, low_bits_of, signed_leb128}
use Rattle.wat_lex.proofs.binary.Leb128Laws.{Large, prefix-push, large_above, large_below, moved, signed_leb128-small, signed_leb128-step, small_between, with_bit_7, low_bits_of-below}
use Rattle.wat_lex.proofs.encode.push_signed.Goals as goal
use Rattle.wat_lex.proofs.encode.push_signed.Goals.{then-rest-ltminus64, else-rest-ltminus64+then-rest-ge64}

pub loop-rest-preserved : goal.loop-rest-preserved
loop-rest-preserved c =
    let rest = to_z w64 c.loop-rest.rest-bits in
    let large : Large rest =
    elim c.if-rest-ltminus64.branch [
      | then-rest-ltminus64 w ↦ large_below _ w.if-rest-ltminus64.true
      | else-rest-ltminus64+then-rest-ge64 w ↦ large_above _ w.if-rest-ge64.true
    ] in
    let byte : bit_or c.low_bits.result 128 ≡ low_bits_of rest + 128 =
    ap (λ g. bit_or g 128) c.low_bits.ensures ∙ with_bit_7 (low_bits_of rest) (low_bits_of-below rest) in
    let item : c.push.new.self.items ≡ c.loop-rest.e.items ++ (low_bits_of rest + 128) ∷ [] =
    c.in_ok-push.ensures.items ∙ ap (λ b. c.loop-rest.e.items ++ b ∷ []) byte in
    let next : to_z w64 (of_z w64 c.high_bits-rest.result) ≡ high_bits_of rest =
    to_z-of_z w64 c.high_bits-rest.result (record { sfits = c.high_bits-rest.type_inv }) ∙ c.high_bits-rest.ensures in
    record {
      whole =
          ap (λ z. c.push.new.self.items ++ signed_leb128 z) next
          ∙ ap (λ xs. xs ++ signed_leb128 (high_bits_of rest)) item
          ∙ moved _ (signed_leb128 rest) _ _ _ c.loop-rest.invariant.whole (signed_leb128-step rest large);
      prefix =
          ap (λ xs. take (vec_len c.args.e.now) xs) item
          ∙ prefix-push _ _ _ _ (omega (arith, c.args.e.now.ok.0)) c.loop-rest.invariant.prefix;
    }

pub returns-clause-ok : goal.returns-clause-ok
returns-clause-ok c =
    let rest = to_z w64 c.loop-rest.rest-bits in
    let small = small_between rest c.if-rest-ltminus64.false c.if-rest-ge64.false in
    let item : c.push-2.new.self.items ≡ c.loop-rest.e.items ++ low_bits_of rest ∷ [] =
    c.in_ok-push-2.ensures.items ∙ ap (λ g. c.loop-rest.e.items ++ g ∷ []) c.low_bits-2.ensures in
    let whole : c.loop-rest.e.items ++ signed_leb128 rest ≡ c.args.e.now.items ++ signed_leb128 c.args.rest =
    c.loop-rest.invariant.whole ∙ ap (λ z. c.args.e.now.items ++ signed_leb128 z) (to_z-of_z w64 c.args.rest c.ranges.rest) in
    item ∙ ap (λ xs. c.loop-rest.e.items ++ xs) (sym (signed_leb128-small rest small)) ∙ whole
