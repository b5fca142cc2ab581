-- Digits without underscores, written from an index on.
use Rattle.std.proofs.Common.{◌≡◌, ◌≢◌, ◌<◌, ◌≤◌, ◌+◌, ℕ, List, [], ◌∷◌, ◌++◌, length, take, drop, get_or, refl, ap, sym, ◌∙◌, arith, slice_set, length-append, append_assoc}
use Rattle.std.proofs.lemmas.List.{take_more_set, drop-set-lt, drop-drop, length-set, take-append-drop, append-nil, drop_all}
use Rattle.wat_lex.specs.values.NumberValues.{joined}
use Rattle.wat_c.proofs.Joined.{joined_at, joined_over}

-- The first `i` digits, without underscores, are written from index `from` to `at`. All other bytes are unchanged.
pub record Written (old out : List ℕ) (from at : ℕ) (ds : List ℕ) (i : ℕ) : Type 0 where
  pub done : List ℕ
  pub all : joined ds ≡ done ++ joined (drop i ds)
  pub place : at ≡ from + length done
  pub front : take at out ≡ take from old ++ done
  pub rest : drop at out ≡ drop at old
  pub room : from + length (joined ds) ≤ length old
  pub long : length out ≡ length old

pub begun : (old : List ℕ) (from : ℕ) (ds : List ℕ) → from + length (joined ds) ≤ length old → Written old old from from ds 0
begun old from ds room = record { done = []; all = refl; place = omega arith; front = sym (append-nil (take from old)); rest = refl; room = room; long = refl }

-- There is capacity for one more digit.
pub fits : (old out : List ℕ) (from at : ℕ) (ds : List ℕ) (i : ℕ) → Written old out from at ds i → i < length ds → get_or ds i 0 ≢ 95 → at < length out
fits old out from at ds i h l n =
    let all = ap length (h.all ∙ ap (λ x. h.done ++ x) (joined_at ds i l n)) in
    omega (arith, all, length-append h.done (get_or ds i 0 ∷ joined (drop (i + 1) ds)), h.place, h.room, h.long)

pub one_more : (old out : List ℕ) (from at : ℕ) (ds : List ℕ) (i : ℕ) → Written old out from at ds i → i < length ds → get_or ds i 0 ≢ 95 → Written old (slice_set out at (get_or ds i 0)) from (at + 1) ds (i + 1)
one_more old out from at ds i h l n =
    let c = get_or ds i 0 in
    let b = fits old out from at ds i h l n in
    record {
      done = h.done ++ c ∷ [];
      all = h.all ∙ ap (λ x. h.done ++ x) (joined_at ds i l n) ∙ sym (append_assoc h.done (c ∷ []) (joined (drop (i + 1) ds)));
      place = omega (arith, h.place, length-append h.done (c ∷ []));
      front = take_more_set out at c b ∙ ap (λ x. x ++ c ∷ []) h.front ∙ append_assoc (take from old) h.done (c ∷ []);
      rest = drop-set-lt (at + 1) out at c (omega arith) ∙ sym (drop-drop 1 at out) ∙ ap (drop 1) h.rest ∙ drop-drop 1 at old;
      room = h.room;
      long = length-set out at c ∙ h.long;
    }

pub no_more : (old out : List ℕ) (from at : ℕ) (ds : List ℕ) (i : ℕ) → Written old out from at ds i → i < length ds → get_or ds i 0 ≡ 95 → Written old out from at ds (i + 1)
no_more old out from at ds i h l e = record { done = h.done; all = h.all ∙ ap (λ x. h.done ++ x) (joined_over ds i l e); place = h.place; front = h.front; rest = h.rest; room = h.room; long = h.long }

pub all_written : (old out : List ℕ) (from at : ℕ) (ds : List ℕ) (i : ℕ) → Written old out from at ds i → length ds ≤ i → out ≡ (take from old ++ joined ds) ++ drop (from + length (joined ds)) old
all_written old out from at ds i h l =
    let done : joined ds ≡ h.done = h.all ∙ ap (λ x. h.done ++ joined x) (drop_all i ds l) ∙ append-nil h.done in
    let place : at ≡ from + length (joined ds) = omega (arith, h.place, ap length done) in
    sym (take-append-drop at out) ∙ ap (λ x. x ++ drop at out) (h.front ∙ ap (λ x. take from old ++ x) (sym done)) ∙ ap (λ x. (take from old ++ joined ds) ++ x) (h.rest ∙ ap (λ n. drop n old) place)
