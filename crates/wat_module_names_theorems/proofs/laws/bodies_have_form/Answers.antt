use Rattle.wat_module_names_theorems.proofs.Forms as forms
use Rattle.wat_module_names_theorems.proofs.laws.bodies_have_form.Goals as goal

pub returns : goal.returns
returns c = forms.bodies_have_form
