use Rattle.std.proofs.Common.{◌∙◌, ◌++◌, ◌∷◌, [], map, not, sym, ap, subst}
use Rattle.wat_module_ast.specs.TypeViews.{type_of}
use Rattle.wat_module_ast.specs.Indices.{AreIndices}
use Rattle.wat_module_ast.proofs.TypeKeys.{gained_index, had_index, has_by, pushed}
use Rattle.wat_module_ast.proofs.indexed_types.IndexedTypes.push.Goals.{then-is_none+in_ok-insert, else-is_none}
use Rattle.wat_module_ast.proofs.indexed_types.IndexedTypes.push.Goals as goal

pub invariant_of-self-2 : goal.invariant_of-self-2
invariant_of-self-2 c =
    let types = c.self.inside.types.items in
    let of = type_of c.args.of in
    let has = has_by c.get.result c.self.inside.indices (map type_of types) of c.in_ok-key.key.items c.self.invariant c.in_ok-key.ensures c.get.ensures.value in
    elim c.if-is_none.branch [
      | then-is_none+in_ok-insert w ↦
          subst (AreIndices c.if-is_none.self-inside.indices) (sym (pushed c.push.new.self.items types c.args.of (c.in_ok-push.ensures.items ∙ ap (λ xs. xs ++ c.args.of ∷ []) (ap (λ s. s.types.items) w.self-inside-is ∙ c.reserve.ensures.items))))
          (subst (λ m. AreIndices m (map type_of types ++ of ∷ [])) (sym (ap (λ s. s.indices) w.self-inside-is))
          (gained_index c.self.inside.indices w.insert.new.self types of c.in_ok-key.key.items c.len-index.result c.self.invariant (sym has ∙ c.is_none.ensures ∙ ap not w.if-is_none.true) c.in_ok-key.ensures (c.len-index.ensures ∙ c.self.inside.types.ok.0) w.in_ok-insert.ensures.updates))
      | else-is_none w ↦
          subst (AreIndices c.if-is_none.self-inside.indices) (sym (pushed c.push.new.self.items types c.args.of (c.in_ok-push.ensures.items ∙ ap (λ xs. xs ++ c.args.of ∷ []) (ap (λ s. s.types.items) w.self-inside-is ∙ c.reserve.ensures.items))))
          (subst (λ m. AreIndices m (map type_of types ++ of ∷ [])) (sym (ap (λ s. s.indices) w.self-inside-is))
          (had_index c.self.inside.indices (map type_of types) of c.self.invariant (sym has ∙ c.is_none.ensures ∙ ap not w.if-is_none.false)))
    ]
