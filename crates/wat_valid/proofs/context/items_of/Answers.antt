use Rattle.std.proofs.Common.{arith, map}
use Rattle.wat_module_ast.specs.Fields.{data_of}
use Rattle.wat_module_ast.specs.TypeViews.{type_of}
use Rattle.wat_module_ast.specs.Views.{field_of}
use Rattle.wat_valid.specs.Modules as modules
use Rattle.wat_valid.proofs.Items.{field_more, count_more, one_data}
use Rattle.wat_valid.proofs.context.items_of.Goals as goal

pub loop-field-preserved : goal.loop-field-preserved
loop-field-preserved c =
    let fields = c.args.fields.now in
    let i = c.loop-field.field-index in
    let is = c.loop-field.invariant in
    let l = c.loop-field-test.true in
    let e = c.field-item.is in
    let k = c.in_ok-push_field.ensures in
    record {
      functions = field_more (modules.funcs_in (map type_of c.args.types.now)) fields c.field-item.result _ i _ _ _ is.functions l e k.functions;
      tables = field_more modules.tables_in fields c.field-item.result _ i _ _ _ is.tables l e k.tables;
      memories = field_more modules.mems_in fields c.field-item.result _ i _ _ _ is.memories l e k.memories;
      imported = field_more modules.imported_globals_in fields c.field-item.result _ i _ _ _ is.imported l e k.imported;
      defined = field_more modules.defined_globals_in fields c.field-item.result _ i _ _ _ is.defined l e k.defined;
      elements = field_more modules.elems_in fields c.field-item.result _ i _ _ _ is.elements l e k.elements;
      datas = count_more data_of fields c.field-item.result _ i _ _ _ is.datas l e k.datas;
      few = let one = one_data (field_of c.field-item.result) in omega (arith, one, is.few, k.datas);
    }
