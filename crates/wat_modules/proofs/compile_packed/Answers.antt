use Rattle.std.proofs.Common.{◌∙◌, ap, map, subst, sym}
use Rattle.wat_module_tokens.specs.Tokens.{AreLinked, joined, terminals_in}
use Rattle.wat_modules.proofs.compile_packed.Goals as goal

pub new-requires-clause-linked : goal.new-requires-clause-linked
new-requires-clause-linked c =
    let tokens = c.args.packed.tokens.items in
    subst (λ ks. AreLinked (map (terminals_in c.args.text.now ks) tokens) tokens) (sym c.deref.ensures.value) c.requires.linked

pub returns : goal.returns
returns c = λ r k tokens h are.
    c.compile_tokens.ensures r k tokens h (ap joined (c.new.ensures ∙ ap (λ ks. map (terminals_in c.args.text.now ks) c.args.packed.tokens.items) c.deref.ensures.value) ∙ are)
