use Rattle.wat_module_names_theorems.proofs.FieldForms as forms
use Rattle.wat_module_names_theorems.proofs.laws.annotated_modules_have_form.Goals as goal

pub returns : goal.returns
returns c = forms.annotated_modules_have_form c.names_are_placed.ensures
