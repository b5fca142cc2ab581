-- The conditions other than those on instructions do not depend on the functions to which `ref.func` may refer.
use Rattle.std.proofs.Common.{◌≡◌, ℕ, List, subst, take}
use Rattle.wat_module_ast.specs.Fields.{Field}
use Rattle.wat_valid.specs.declared.module.Reason.{Reason}
use Rattle.wat_valid.specs.Contexts.{Context}
use Rattle.wat_valid.specs.Headers.{FirstViolation, HeadersAreValid, Violates}

pub valid_without : (D : Context) (r : List ℕ) (fs : List Field) → HeadersAreValid (record D { refs = r }) fs → HeadersAreValid D fs
valid_without D r fs h = record { fields = h.fields; memories = h.memories; exports = h.exports }

pub valid_as : (C D : Context) (fs : List Field) → C ≡ record D { refs = C.refs } → HeadersAreValid C fs → HeadersAreValid D fs
valid_as C D fs e h = valid_without D C.refs fs (subst (λ X. HeadersAreValid X fs) e h)

pub violates_without : (D : Context) (refs : List ℕ) (before : List Field) (f : Field) (r : Reason) → Violates (record D { refs = refs }) before f r → Violates D before f r
violates_without D refs before f r h = h

pub first_as : (C D : Context) (fs : List Field) (i : ℕ) (r : Reason) → C ≡ record D { refs = C.refs } → FirstViolation C fs i r → FirstViolation D fs i r
first_as C D fs i r e h =
    let k = subst (λ X. FirstViolation X fs i r) e h in
    record {
      field = k.field;
      is = k.is;
      before = valid_without D C.refs (take i fs) k.before;
      violates = violates_without D C.refs (take i fs) k.field r k.violates;
    }
