use Rattle.std.proofs.Common.{◌≡◌, ◌∙◌, ap, sym, arith, false, ℕ}
use Rattle.std.specs.Prelude.{◌==◌}
use Rattle.wat_module_ast.specs.declared.instruction.Opcode.{Opcode}
use Rattle.wat_module_ast.specs.declared.instruction.Opcode.TheVariants.{Prefixed}
use Rattle.wat_valid.specs.Algorithm.{plain_part}
use Rattle.wat_valid.specs.Instructions.{typing_of}
use Rattle.wat_valid.proofs.Tables as tables
use Rattle.wat_valid.proofs.typing.find.Goals as goal

pub returns-in-Byte : goal.returns-in-Byte
returns-in-Byte c = c.row.ensures.is ∙ (tables.byte_row c.in-Byte.byte c.row.ensures.small ∙ ap (λ (o : Opcode). plain_part (typing_of o)) (sym c.in-Byte.is))

pub returns-in-Prefixed-eq252-default : goal.returns-in-Prefixed-eq252-default
returns-in-Prefixed-eq252-default c =
    let k = c.in-Prefixed-eq252-default in
    let p : k.field-0 ≡ 252 = sym k.field-0-is ∙ k.field-0-test in
    c.row-in-Prefixed-eq252-default.ensures.is ∙ (tables.numeric_row k.number c.row-in-Prefixed-eq252-default.ensures.small ∙ ap (λ (o : Opcode). plain_part (typing_of o)) (ap (λ (x : ℕ). Prefixed x k.number) (sym p) ∙ sym k.is))

pub returns-in-Prefixed-eq253-default : goal.returns-in-Prefixed-eq253-default
returns-in-Prefixed-eq253-default c =
    let k = c.in-Prefixed-eq253-default in
    let p : k.field-0 ≡ 253 = sym k.field-0-is ∙ k.field-0-test in
    c.row-in-Prefixed-eq253-default.ensures.is ∙ (tables.vector_row k.number c.row-in-Prefixed-eq253-default.ensures.small ∙ ap (λ (o : Opcode). plain_part (typing_of o)) (ap (λ (x : ℕ). Prefixed x k.number) (sym p) ∙ sym k.is))

pub returns-in-Prefixed : goal.returns-in-Prefixed
returns-in-Prefixed c =
    let k = c.in-Prefixed in
    let e : k.field-0 == 0xFC ≡ false = grind (arith, k.field-0-test, k.field-0-is) in
    let f : k.field-0 == 0xFD ≡ false = grind (arith, k.field-0-test, k.field-0-is) in
    sym (ap (λ (o : Opcode). plain_part (typing_of o)) k.is ∙ ap plain_part (tables.no_row k.field-0 k.field-1 e f))
