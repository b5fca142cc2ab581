use Rattle.std.proofs.Common.{◌≡◌, length, arith}
use Rattle.wat_valid.specs.ContextViews.{context_of}
use Rattle.wat_valid.proofs.SingleConstants.{not_single, one_item}
use Rattle.wat_valid.proofs.constants.is_constant.Goals as goal

pub returns-in-len1 : goal.returns-in-len1
returns-in-len1 c =
    let k = one_item (context_of c.args.context.now) c.args.instructions.now c.args.of c.only-item.result (omega arith) c.only-item.is in
    (λ r. k.0 (c.has_value.ensures.0 r), λ x. c.has_value.ensures.1 (k.1 x))

pub returns-in_default : goal.returns-in_default
returns-in_default c =
    (λ r. cc, λ x. absurd (not_single (context_of c.args.context.now) c.args.instructions.now c.args.of (λ (l : length c.args.instructions.now ≡ 1). omega arith) x))

pub returns-in_default-2 : goal.returns-in_default-2
returns-in_default-2 c =
    (λ r. cc, λ x. absurd (not_single (context_of c.args.context.now) c.args.instructions.now c.args.of (λ (l : length c.args.instructions.now ≡ 1). omega arith) x))
