-- Contexts that differ in the functions to which `ref.func` may refer alone.
use Rattle.std.proofs.Common.{◌≡◌, ◌∙◌, ℕ, List, Option, ap}
use Rattle.wat_module_ast.specs.declared.fields.GlobalType.{GlobalType}
use Rattle.wat_module_ast.specs.declared.fields.Limits.{Limits}
use Rattle.wat_module_ast.specs.declared.fields.TableType.{TableType}
use Rattle.wat_module_ast.specs.declared.instruction.ReferenceType.{ReferenceType}
use Rattle.wat_module_ast.specs.declared.instruction.ValueType.{ValueType}
use Rattle.wat_module_ast.specs.Types.{FunctionType}
use Rattle.wat_valid.specs.Contexts.{Context}

abbrev make : List ℕ → Option (List ValueType) → List ValueType → List FunctionType → List FunctionType → List TableType → List Limits → List GlobalType → List ReferenceType → ℕ → Context
make refs returns locals types funcs tables mems globals elems datas = record {
  types = types;
  funcs = funcs;
  tables = tables;
  mems = mems;
  globals = globals;
  elems = elems;
  datas = datas;
  locals = locals;
  returns = returns;
  refs = refs;
}

-- with equal types of all items they are equal but for these functions
pub alike : (C D : Context) → C.locals ≡ D.locals → C.returns ≡ D.returns → C.types ≡ D.types → C.funcs ≡ D.funcs → C.tables ≡ D.tables → C.mems ≡ D.mems → C.globals ≡ D.globals → C.elems ≡ D.elems → C.datas ≡ D.datas → C ≡ record D { refs = C.refs }
alike C D l r e1 e2 e3 e4 e5 e6 e7 =
    ap (λ x. make C.refs C.returns x C.types C.funcs C.tables C.mems C.globals C.elems C.datas) l
    ∙ ap (λ x. make C.refs x D.locals C.types C.funcs C.tables C.mems C.globals C.elems C.datas) r
    ∙ ap (λ x. make C.refs D.returns D.locals x C.funcs C.tables C.mems C.globals C.elems C.datas) e1
    ∙ ap (λ x. make C.refs D.returns D.locals D.types x C.tables C.mems C.globals C.elems C.datas) e2
    ∙ ap (λ x. make C.refs D.returns D.locals D.types D.funcs x C.mems C.globals C.elems C.datas) e3
    ∙ ap (λ x. make C.refs D.returns D.locals D.types D.funcs D.tables x C.globals C.elems C.datas) e4
    ∙ ap (λ x. make C.refs D.returns D.locals D.types D.funcs D.tables D.mems x C.elems C.datas) e5
    ∙ ap (λ x. make C.refs D.returns D.locals D.types D.funcs D.tables D.mems D.globals x C.datas) e6
    ∙ ap (λ x. make C.refs D.returns D.locals D.types D.funcs D.tables D.mems D.globals D.elems x) e7
