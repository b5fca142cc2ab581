-- What the iterator's calls give, one after another, is a maximal tiling with its ending.
use Rattle.std.proofs.Common.{◌≡◌, List, [], ◌∷◌, length, refl, ap, sym, ◌∙◌, subst, true, false, inl, inr}
use Rattle.std.specs.Prelude.{Some, None, Ok, Err}
use Rattle.std.specs.Iterator.Runs.{Run as Calls, YieldsRun}
use Rattle.std.specs.Iterator.{Yields, Drains}
use Rattle.std.proofs.lemmas.Bool.{both_ways}
use Rattle.wat_lex.specs.tokens.Setting.{Setting}
use Rattle.wat_lex.specs.tokens.Tiling.{TokenAt, Tiling}
use Rattle.wat_lex.specs.tokens.Raw.{Item, Raw, ErrorAt, Progress, token_steps}

ended : (items : List Item) (p q : Progress) → p.done ≡ true → Yields token_steps p items q → items ≡ []
ended [] p q d h = refl
ended (Ok t ∷ items) p q d h = absurd (both_ways p.done h.1.1.0 d)
ended (Err e ∷ items) p q d h = absurd (both_ways p.done h.1.1.0 d)

tiled_by : (s : Setting) (items : List Item) (p q r : Progress) → p.setting ≡ s → p.done ≡ false → Yields token_steps p items q → token_steps q None r → Raw s p.at items
tiled_by s [] p q r l d h e =
    let g : token_steps p None r = subst (λ x. token_steps x None r) (sym h) e in
    elim g.1.0 [
      | inl k ↦ absurd (both_ways p.done d k)
      | inr k ↦ record { tokens = []; ending = None; tiling = record { to = p.at; tiling = refl; ends = k ∙ ap (λ x. length x.text) l }; spelled = refl }
    ]
tiled_by s (Ok t ∷ items) p q r l d h e =
    let j = h.0 in
    let step = h.1 in
    let at : TokenAt s p.at t = subst (λ x. TokenAt x p.at t) l step.1.1.0 in
    let rest = tiled_by s items j q r (step.0 ∙ l) step.1.1.3 h.2 e in
    let to = rest.tiling.to in
    record {
      tokens = t ∷ rest.tokens;
      ending = rest.ending;
      tiling = record { to = to; tiling = (at, subst (λ x. Tiling s x to rest.tokens) step.1.1.2 rest.tiling.tiling); ends = rest.tiling.ends };
      spelled = (items, refl, rest.spelled);
    }
tiled_by s (Err f ∷ items) p q r l d h e =
    let step = h.1 in
    let here : ErrorAt s p.at f = subst (λ x. ErrorAt x p.at f) l step.1.1.0 in
    record {
      tokens = [];
      ending = Some here.fault;
      tiling = record { to = p.at; tiling = refl; ends = here.is_at };
      spelled = (f, ap (λ x. Err f ∷ x) (ended items h.0 q step.1.1.1 h.2), here.reported);
    }

pub tiled : (p : Progress) (items : List Item) → p.done ≡ false → Drains token_steps p items → Raw p.setting p.at items
tiled p items d h = tiled_by p.setting items p h.1.0 h.0 refl d h.1.1 h.1.2

pub tiled_run : (s : Progress) → s.done ≡ false → (p : Calls token_steps) → p.from ≡ s → p.whole ≡ true → Raw s.setting s.at p.items
unfolding YieldsRun
tiled_run s d p e w = tiled s p.items d (subst (λ x. Drains token_steps x p.items) e (let g = p.gave.0 in let k = g.2 w in (k.0, (g.0, g.1, k.1))))
