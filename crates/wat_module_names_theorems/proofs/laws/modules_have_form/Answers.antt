use Rattle.wat_module_names_theorems.proofs.FieldForms as forms
use Rattle.wat_module_names_theorems.proofs.laws.modules_have_form.Goals as goal

pub returns : goal.returns
returns c = forms.modules_have_form
