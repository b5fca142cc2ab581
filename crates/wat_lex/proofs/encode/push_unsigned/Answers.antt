use Rattle.std.proofs.Common.{◌≡◌, ap, arith, bit_and, bit_or, take, vec_len, sym, ◌∙◌, ◌++◌, ◌+◌, ◌/◌, ◌%◌, ◌∷◌, []}
use Rattle.std.proofs.lemmas.Nat.{and_mask}
use Rattle.wat_lex.specs.binary.Leb128.{unsigned_leb128}
use Rattle.wat_lex.proofs.binary.Leb128Laws.{prefix-push, moved, unsigned_leb128-small, unsigned_leb128-step, with_bit_7}
use Rattle.wat_lex.proofs.encode.push_unsigned.Goals as goal

pub loop-rest-preserved : goal.loop-rest-preserved
loop-rest-preserved c =
    let items = c.in_ok-push.ensures.items in
    let rest = c.loop-rest.rest in
    let byte : bit_or (bit_and rest 127) 128 ≡ rest % 128 + 128 =
    ap (λ g. bit_or g 128) (and_mask rest 7) ∙ with_bit_7 (rest % 128) (omega arith) in
    let item : c.push.new.self.items ≡ c.loop-rest.e.items ++ (rest % 128 + 128) ∷ [] = items ∙ ap (λ b. c.loop-rest.e.items ++ b ∷ []) byte in
    record {
      whole = ap (λ xs. xs ++ unsigned_leb128 (rest / 128)) item ∙ moved _ (unsigned_leb128 rest) _ _ _ c.loop-rest.invariant.whole (unsigned_leb128-step rest c.loop-rest-test.true);
      prefix = ap (λ xs. take (vec_len c.args.e.now) xs) item ∙ prefix-push _ _ _ _ (omega (arith, c.args.e.now.ok.0)) c.loop-rest.invariant.prefix;
    }

pub returns-clause-ok : goal.returns-clause-ok
returns-clause-ok c =
    let items = c.in_ok-push-2.ensures.items in
    items ∙ ap (λ xs. c.loop-rest.e.items ++ xs) (sym (unsigned_leb128-small c.loop-rest.rest (omega arith))) ∙ c.loop-rest.invariant.whole
