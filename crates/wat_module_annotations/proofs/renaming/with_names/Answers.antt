use Rattle.std.proofs.Common.{◌≡◌, ◌∙◌, ◌+◌, ◌∷◌, ◌++◌, suc, sym, ap, arith, map, drop}
use Rattle.std.proofs.lemmas.List.{drop_all, drop_more, map-append}
use Rattle.wat_module_ast.specs.Views.{association_of}
use Rattle.wat_module_annotations.specs.Renaming.{entry, here, later, with_names}
use Rattle.wat_module_annotations.specs.Values.{variable_of}
use Rattle.wat_module_annotations.proofs.Renamed.{no_name, one_name}
use Rattle.wat_module_annotations.proofs.renaming.with_names.Goals as goal

pub loop-i-preserved : goal.loop-i-preserved
loop-i-preserved c =
    let l = c.loop-i in
    let names = c.args.names.now in
    let x = c.index-names-i.result in
    let n = c.args.first + l.i in
    let whole = with_names c.args.first (map variable_of names) (map association_of c.args.entries.now) in
    let done = map association_of l.merged.items in
    let old = map association_of l.rest.now in
    let front : drop l.i names ≡ x ∷ drop (l.i + 1) names = drop_more names l.i x c.loop-i-test.true ∙ ap (λ y. y ∷ drop (l.i + 1) names) (sym c.index-names-i.is) in
    let one = one_name whole done n _ (variable_of x) _ old l.invariant (ap (map variable_of) front) in
    let put : map association_of c.put_entry.new.merged.items ≡ done ++ entry n (variable_of x) (here n old) = c.in_ok-put_entry.ensures ∙ ap (λ es. done ++ entry n (variable_of x) es) c.here.ensures in
    let next : suc n ≡ c.args.first + (l.i + 1) = omega arith in
    let ls = map variable_of (drop (l.i + 1) names) in
    one ∙ ap (λ m. m ++ with_names (suc n) ls (later n old)) (sym put) ∙ ap (λ es. map association_of c.put_entry.new.merged.items ++ with_names (suc n) ls es) (sym c.later-rest.ensures) ∙ ap (λ m. map association_of c.put_entry.new.merged.items ++ with_names m ls (map association_of c.later-rest.result.now)) next

pub returns : goal.returns
returns c =
    let l = c.loop-i in
    let names = c.args.names.now in
    let whole = with_names c.args.first (map variable_of names) (map association_of c.args.entries.now) in
    let empty = ap (map variable_of) (drop_all l.i names (omega (arith, c.loop-i-test.false))) in
    let done = no_name whole (map association_of l.merged.items) (c.args.first + l.i) _ (map association_of l.rest.now) l.invariant empty in
    ap (map association_of) c.in_ok-extend_from_slice.ensures.items ∙ map-append association_of l.merged.items l.rest.now ∙ sym done
