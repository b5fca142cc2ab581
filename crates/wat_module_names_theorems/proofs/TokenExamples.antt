-- The items of the examples, one after another.
use Rattle.std.proofs.Common.{refl}
use Rattle.wat_module_annotations.specs.Items.{role_of}
use Rattle.wat_module_names_theorems.specs.TokenExamples.{TokenExamples}
use Rattle.wat_module_names_theorems.specs.TokenItems.{items}

pub proved : TokenExamples
unfolding items role_of
proved = record {
  function = (tt, (tt, (refl, ((refl, refl), (tt, (tt, (tt, (tt, tt))))))));
  condition = (tt, (tt, (tt, (tt, (tt, (tt, (tt, (tt, (tt, (tt, (tt, (tt, (tt, (tt, tt))))))))))))));
  imported = (tt, ((refl, refl), (tt, (tt, (tt, (tt, (tt, tt)))))));
  reference = (tt, (tt, (tt, (tt, (tt, (tt, tt))))));
}
