use Rattle.std.proofs.Common.{◌≡◌, ◌<◌, ◌∙◌, ◌++◌, ℕ, Bool, false, List, [], ◌∷◌, map, length, take, replicate, refl, ap, sym, subst}
use Rattle.std.specs.List.{flat_map}
use Rattle.std.proofs.lemmas.List.{length-map}
use Rattle.wat_module_ast.specs.ImplicitTypes.{types_of}
use Rattle.wat_module_ast.specs.Views.{fields_of}
use Rattle.wat_valid.specs.Algorithm.{has_index}
use Rattle.wat_valid.specs.ContextViews.{marked, referred_type, true_indices}
use Rattle.wat_valid.specs.Modules as modules
use Rattle.wat_valid.proofs.Declared.{marked_are}
use Rattle.wat_valid.proofs.SameContexts.{alike}
use Rattle.wat_valid.proofs.context.ModuleContext.new.Goals as goal

refs_are : (refs : List ℕ) (bits : List Bool) (n m x : ℕ) → bits ≡ marked refs (replicate n false) → n ≡ m → x < m → has_index x (true_indices 0 bits) ≡ has_index x refs
refs_are refs bits n m x e k l = ap (λ bs. has_index x (true_indices 0 bs)) e ∙ marked_are refs n x (subst (λ y. x < y) (sym k) l)

count_is : {A B : Type 0} (f : A → B) (xs : List A) (ys : List B) (n : ℕ) → n ≡ length xs → map f xs ≡ ys → n ≡ length ys
count_is f xs ys n e h = e ∙ sym (length-map xs f) ∙ ap length h

both_are : {A : Type 0} (xs ys zs us vs : List A) → zs ≡ xs ++ ys → xs ≡ us → ys ≡ vs → zs ≡ us ++ vs
both_are xs ys zs us vs e a b = e ∙ ap (λ x. x ++ ys) a ∙ ap (λ y. us ++ y) b

first_of : {A : Type 0} (xs ys : List A) → take (length xs) (xs ++ ys) ≡ xs
first_of [] ys = refl
first_of (x ∷ xs) ys = ap (λ zs. x ∷ zs) (first_of xs ys)

first_are : {A : Type 0} (xs ys zs us : List A) (n : ℕ) → zs ≡ xs ++ ys → n ≡ length xs → xs ≡ us → take n zs ≡ us
first_are xs ys zs us n e k a = ap (λ z. take n z) e ∙ ap (λ m. take m (xs ++ ys)) k ∙ first_of xs ys ∙ a

pub returns-clause-full : goal.returns-clause-full
returns-clause-full c =
    let fs = fields_of c.args.fields.now in
    let e = c.in_ok-functions.ensures in
    let funcs = e.functions ∙ ap (λ ts. flat_map (modules.funcs_in ts) fs) c.requires in
    let globals = both_are _ _ c.extend_from_slice.new.self.items _ _ (c.in_ok-extend_from_slice.ensures.items ∙ ap (λ ys. c.in_ok-functions.field-0.imported_globals.items ++ ys) c.deref.ensures.value) e.imported e.defined in
    record {
      items = alike _ (modules.context_of fs) refl refl c.requires funcs e.tables e.memories globals e.elements e.datas;
      refs = λ x l. refs_are (modules.refs_after [] fs) _ _ (length (flat_map (modules.funcs_in (types_of fs)) fs)) x c.in_ok-declared.ensures (count_is referred_type _ _ _ (c.len.ensures ∙ c.in_ok-functions.field-0.functions.ok.0) funcs) l;
    }

pub returns-clause-initial : goal.returns-clause-initial
returns-clause-initial c =
    let fs = fields_of c.args.fields.now in
    let e = c.in_ok-functions.ensures in
    let funcs = e.functions ∙ ap (λ ts. flat_map (modules.funcs_in ts) fs) c.requires in
    let globals = first_are _ _ c.extend_from_slice.new.self.items _ c.len-imported_count.result (c.in_ok-extend_from_slice.ensures.items ∙ ap (λ ys. c.in_ok-functions.field-0.imported_globals.items ++ ys) c.deref.ensures.value) (c.len-imported_count.ensures ∙ c.in_ok-functions.field-0.imported_globals.ok.0) e.imported in
    record {
      items = alike _ (modules.initial_context_of fs) refl refl c.requires funcs e.tables e.memories globals e.elements e.datas;
      refs = λ x l. refs_are (modules.refs_after [] fs) _ _ (length (flat_map (modules.funcs_in (types_of fs)) fs)) x c.in_ok-declared.ensures (count_is referred_type _ _ _ (c.len.ensures ∙ c.in_ok-functions.field-0.functions.ok.0) funcs) l;
    }
