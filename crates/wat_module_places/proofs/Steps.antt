-- The steps of the code.
use Rattle.std.proofs.Common.{◌≡◌, ◌∙◌, ℕ, zero, suc, ◌-◌, false, List, [], ◌∷◌, ◌++◌, Some, None, refl, sym, ap, arith}
use Rattle.wat_module_places.specs.declared.keywords.Keyword.{Keyword}
use Rattle.wat_module_places.specs.Fields.{nth_field}
use Rattle.wat_module_places.specs.Walk.{Group, Unplaced, begins_word, kind, opened, walk}
use Rattle.wat_module_tokens.specs.Terminals.{Terminal, Open, Close, Word, Id, Integer, Text, Float, Other, past}

pub word_group : (gs hs : List Group) (ts us : List Terminal) (w : List ℕ) (k : Keyword) (ps : List (List Terminal)) → ts ≡ Word w ∷ us → k ≡ kind w → opened k ts gs ≡ (ps, hs) → walk gs (Open ∷ ts) ≡ ps ++ walk hs us
unfolding walk
word_group gs hs ts us w k ps e f o =
    ap (λ x. walk gs (Open ∷ x)) e ∙ ap (λ q. q.0 ++ walk q.1 us) (ap (λ j. opened j (Word w ∷ us) gs) (sym f) ∙ ap (λ x. opened k x gs) (sym e) ∙ o)

pub other_group : (gs : List Group) (ts : List Terminal) → begins_word ts ≡ false → walk gs (Open ∷ ts) ≡ walk (Unplaced ∷ gs) ts
unfolding walk
other_group gs [] e = refl
other_group gs (Open ∷ ts) e = refl
other_group gs (Close ∷ ts) e = refl
other_group gs (Word w ∷ ts) e = cc
other_group gs (Id x ∷ ts) e = refl
other_group gs (Integer s n ∷ ts) e = refl
other_group gs (Text v ∷ ts) e = refl
other_group gs (Float narrow wide ∷ ts) e = refl
other_group gs (Other ∷ ts) e = refl

pub no_group : (k : ℕ) (ts : List Terminal) → ((us : List Terminal) → ¬ (ts ≡ Open ∷ us)) → nth_field k ts ≡ None
unfolding nth_field
no_group k [] h = refl
no_group zero (Open ∷ ts) h = absurd (h ts refl)
no_group (suc k) (Open ∷ ts) h = absurd (h ts refl)
no_group zero (Close ∷ ts) h = refl
no_group (suc k) (Close ∷ ts) h = refl
no_group zero (Word w ∷ ts) h = refl
no_group (suc k) (Word w ∷ ts) h = refl
no_group zero (Id x ∷ ts) h = refl
no_group (suc k) (Id x ∷ ts) h = refl
no_group zero (Integer s n ∷ ts) h = refl
no_group (suc k) (Integer s n ∷ ts) h = refl
no_group zero (Text v ∷ ts) h = refl
no_group (suc k) (Text v ∷ ts) h = refl
no_group zero (Float narrow wide ∷ ts) h = refl
no_group (suc k) (Float narrow wide ∷ ts) h = refl
no_group zero (Other ∷ ts) h = refl
no_group (suc k) (Other ∷ ts) h = refl

pub this_group : (ts us : List Terminal) → ts ≡ Open ∷ us → nth_field 0 ts ≡ Some us
unfolding nth_field
this_group ts us e = ap (λ x. nth_field 0 x) e

less : (k : ℕ) (us : List Terminal) → ¬ (k ≡ 0) → nth_field k (Open ∷ us) ≡ nth_field (k - 1) (past 0 us)
unfolding nth_field
less zero us h = absurd (h refl)
less (suc k) us h = let e : k ≡ suc k - 1 = omega arith in ap (λ n. nth_field n (past 0 us)) e

pub next_group : (k : ℕ) (ts us vs : List Terminal) → ts ≡ Open ∷ us → vs ≡ past 0 us → ¬ (k ≡ 0) → nth_field k ts ≡ nth_field (k - 1) vs
next_group k ts us vs e f h = ap (λ x. nth_field k x) e ∙ less k us h ∙ ap (λ x. nth_field (k - 1) x) (sym f)
