use Rattle.std.proofs.Common.{Result, Ok, Err, subst}
use Rattle.std.specs.Prelude.{OnOk}
use Rattle.wat_module_lexer.specs.Drafts.{IsReadAs}
use Rattle.wat_module_lexer.proofs.push.Goals as goal

so : {T E : Type 0} (r : Result T E) (P Q : Type 0) → (P → Q) → OnOk r P → OnOk r Q
so (Ok v) P Q f h = f h
so (Err e) P Q f h = tt

pub returns-in-Short-clause-sound : goal.returns-in-Short-clause-sound
returns-in-Short-clause-sound c =
    so c.push_short.result _ _ (λ h x r. h x c.args.groups.now.items (subst (λ v. IsReadAs c.args.text.now v x) c.in-Short.is r) c.requires.sound) c.push_short.ensures.sound

pub returns-in-SideValue-clause-is : goal.returns-in-SideValue-clause-is
returns-in-SideValue-clause-is c =
    so c.push_side_value.result _ _ (λ h x r. h x c.args.groups.now.items (subst (λ v. IsReadAs c.args.text.now v x) c.in-SideValue.is r) c.requires.sound) c.push_side_value.ensures.is

pub returns-in-SideValue-clause-sound : goal.returns-in-SideValue-clause-sound
returns-in-SideValue-clause-sound c =
    so c.push_side_value.result _ _ (λ h x r. h x c.args.groups.now.items (subst (λ v. IsReadAs c.args.text.now v x) c.in-SideValue.is r) c.requires.sound) c.push_side_value.ensures.sound
