-- The positions that the code finds in a field are in its tokens, before those that follow it.
use Rattle.std.proofs.Common.{◌≡◌, ◌∙◌, ◌<◌, ◌≤◌, ◌+◌, ℕ, zero, suc, List, [], ◌∷◌, ◌++◌, drop, drop-drop, length, map, refl, sym, ap, arith}
use Rattle.std.specs.List.{AllByRecursion}
use Rattle.wat_module_places.specs.declared.keywords.Keyword.{Keyword}
use Rattle.wat_module_places.specs.declared.keywords.Keyword.TheVariants as keyword
use Rattle.wat_module_places.specs.Law.{place_of}
use Rattle.wat_module_places.specs.Places.{Placed}
use Rattle.wat_module_places.specs.Positions.{IsPosition}
use Rattle.wat_module_places.specs.Walk.{Condition, Ended, Group, Operands, Unplaced, closed, kind, opened, walk, worded}
use Rattle.wat_module_tokens.specs.Terminals.{Terminal, Open, Close, Word, Id, Integer, Text, Float, Other, past}

-- `Tail ts us`: the tokens `us` are `ts` without some at the front.
abbrev pub Tail : List Terminal → List Terminal → Type 0
Tail ts us = (n : ℕ) × (us ≡ drop n ts)

next : (n : ℕ) (ts us : List Terminal) (t : Terminal) → t ∷ us ≡ drop n ts → us ≡ drop (suc n) ts
next zero [] us t e = cc
next zero (x ∷ ts) us t e = ap (drop 1) e
next (suc n) [] us t e = cc
next (suc n) (x ∷ ts) us t e = next n ts us t e

below : (n : ℕ) (ts us : List Terminal) (t : Terminal) → t ∷ us ≡ drop n ts → n < length ts
below zero [] us t e = cc
below zero (x ∷ ts) us t e = omega arith
below (suc n) [] us t e = cc
below (suc n) (x ∷ ts) us t e = let h = below n ts us t e in omega arith

pub whole : (ts : List Terminal) → Tail ts ts
whole ts = (0, refl)

pub step : (ts us : List Terminal) (t : Terminal) → Tail ts (t ∷ us) → Tail ts us
step ts us t h = (suc h.0, next h.0 ts us t h.1)

pub position : (ts us : List Terminal) (t : Terminal) → Tail ts (t ∷ us) → IsPosition ts (t ∷ us)
position ts us t h = (h.0, below h.0 ts us t h.1, h.1)

-- The tokens after a group.

pub past_tail : (ts us : List Terminal) (d : ℕ) → Tail ts us → Tail ts (past d us)
past_tail ts [] d h = h
past_tail ts (Open ∷ us) d h = past_tail ts us (suc d) (step ts us Open h)
past_tail ts (Close ∷ us) zero h = step ts us Close h
past_tail ts (Close ∷ us) (suc d) h = past_tail ts us d (step ts us Close h)
past_tail ts (Word w ∷ us) d h = past_tail ts us d (step ts us (Word w) h)
past_tail ts (Id x ∷ us) d h = past_tail ts us d (step ts us (Id x) h)
past_tail ts (Integer s n ∷ us) d h = past_tail ts us d (step ts us (Integer s n) h)
past_tail ts (Text v ∷ us) d h = past_tail ts us d (step ts us (Text v) h)
past_tail ts (Float narrow wide ∷ us) d h = past_tail ts us d (step ts us (Float narrow wide) h)
past_tail ts (Other ∷ us) d h = past_tail ts us d (step ts us Other h)

longer : (k n : ℕ) → k ≤ n → k ≤ suc n
longer k n h = omega arith

past_length : (d : ℕ) (us : List Terminal) → length (past d us) ≤ length us
past_length d [] = omega arith
past_length d (Open ∷ us) = longer (length (past (suc d) us)) (length us) (past_length (suc d) us)
past_length zero (Close ∷ us) = omega arith
past_length (suc d) (Close ∷ us) = longer (length (past d us)) (length us) (past_length d us)
past_length d (Word w ∷ us) = longer (length (past d us)) (length us) (past_length d us)
past_length d (Id x ∷ us) = longer (length (past d us)) (length us) (past_length d us)
past_length d (Integer s n ∷ us) = longer (length (past d us)) (length us) (past_length d us)
past_length d (Text v ∷ us) = longer (length (past d us)) (length us) (past_length d us)
past_length d (Float narrow wide ∷ us) = longer (length (past d us)) (length us) (past_length d us)
past_length d (Other ∷ us) = longer (length (past d us)) (length us) (past_length d us)

-- Positions before the last `k` tokens.

abbrev pub Before : List Terminal → ℕ → List Terminal → Type 0
Before ts k p = IsPosition ts p × (k < length p)

at_first : (a k : ℕ) (us : List Terminal) → a ≡ k → a ≤ length us → k < suc (length us)
at_first a k us e h = omega arith

-- the first of some tokens, from which `k` are after their groups
first_before : (ts us : List Terminal) (t : Terminal) (d k : ℕ) → Tail ts (t ∷ us) → length (past d us) ≡ k → Before ts k (t ∷ us)
first_before ts us t d k h e = (position ts us t h, at_first (length (past d us)) k us e (past_length d us))

-- the positions of open groups
abbrev pub GroupBefore : List Terminal → ℕ → Group → Type 0
GroupBefore ts k (Operands p) = Before ts k p
GroupBefore ts k (Condition p) = Before ts k p
GroupBefore ts k Ended = Unit {0}
GroupBefore ts k Unplaced = Unit {0}

abbrev depth : List Group → ℕ
depth [] = zero
depth (g ∷ gs) = suc (depth gs)

append_all : {X : Type 0} (P : X → Type 0) (xs ys : List X) → AllByRecursion P xs → AllByRecursion P ys → AllByRecursion P (xs ++ ys)
append_all P [] ys h k = k
append_all P (x ∷ xs) ys h k = (h.0, append_all P xs ys h.1 k)

-- the positions that a keyword and its `(` give, and the groups after them
record OpensBefore (ts : List Terminal) (k : ℕ) (gs : List Group) (r : List (List Terminal) × List Group) : Type 0 where
  places : AllByRecursion (Before ts k) r.0
  groups : AllByRecursion (GroupBefore ts k) r.1
  one : depth r.1 ≡ suc (depth gs)

opens_before : (ts : List Terminal) (k : ℕ) (w : Keyword) (p : List Terminal) (gs : List Group) → Before ts k p → AllByRecursion (GroupBefore ts k) gs → OpensBefore ts k gs (opened w p gs)
opens_before ts k keyword.Block p gs h g = record { places = (h, tt); groups = (tt, g); one = refl }
opens_before ts k keyword.If p gs h g = record { places = tt; groups = (h, g); one = refl }
opens_before ts k keyword.Then p [] h g = record { places = tt; groups = (tt, g); one = refl }
opens_before ts k keyword.Then p (Condition q ∷ gs) h g = record { places = (g.0, tt); groups = (tt, (tt, g.1)); one = refl }
opens_before ts k keyword.Then p (Operands q ∷ gs) h g = record { places = tt; groups = (tt, g); one = refl }
opens_before ts k keyword.Then p (Ended ∷ gs) h g = record { places = tt; groups = (tt, g); one = refl }
opens_before ts k keyword.Then p (Unplaced ∷ gs) h g = record { places = tt; groups = (tt, g); one = refl }
opens_before ts k keyword.Else p gs h g = record { places = (h, tt); groups = (tt, g); one = refl }
opens_before ts k keyword.End p gs h g = record { places = tt; groups = (tt, g); one = refl }
opens_before ts k keyword.Plain p gs h g = record { places = tt; groups = (h, g); one = refl }
opens_before ts k keyword.Other p gs h g = record { places = tt; groups = (tt, g); one = refl }

word_before : (ts : List Terminal) (k : ℕ) (w : Keyword) (p : List Terminal) → Before ts k p → AllByRecursion (Before ts k) (worded w p)
word_before ts k keyword.Block p h = (h, tt)
word_before ts k keyword.If p h = (h, tt)
word_before ts k keyword.Then p h = tt
word_before ts k keyword.Else p h = (h, tt)
word_before ts k keyword.End p h = (h, tt)
word_before ts k keyword.Plain p h = (h, tt)
word_before ts k keyword.Other p h = tt

close_before : (ts : List Terminal) (k : ℕ) (g : Group) (p : List Terminal) → Before ts k p → GroupBefore ts k g → AllByRecursion (Before ts k) (closed g p)
close_before ts k (Operands q) p h g = (g, tt)
close_before ts k (Condition q) p h g = tt
close_before ts k Ended p h g = (h, tt)
close_before ts k Unplaced p h g = tt

pub walk_before : (ts : List Terminal) (k : ℕ) (gs : List Group) (us : List Terminal) → Tail ts us → AllByRecursion (GroupBefore ts k) gs → length (past (depth gs) us) ≡ k → AllByRecursion (Before ts k) (walk gs us)
unfolding walk
walk_before ts k gs [] h g e = tt
walk_before ts k gs (Open ∷ []) h g e = tt
walk_before ts k gs (Open ∷ Word w ∷ us) h g e =
    let inside = step ts (Word w ∷ us) Open h in
    let o = opens_before ts k (kind w) (Word w ∷ us) gs (first_before ts us (Word w) (suc (depth gs)) k inside e) g in
    append_all (Before ts k) (opened (kind w) (Word w ∷ us) gs).0 (walk (opened (kind w) (Word w ∷ us) gs).1 us) o.places
    (walk_before ts k (opened (kind w) (Word w ∷ us) gs).1 us (step ts us (Word w) inside) o.groups (ap (λ d. length (past d us)) o.one ∙ e))
walk_before ts k gs (Open ∷ Open ∷ us) h g e = walk_before ts k (Unplaced ∷ gs) (Open ∷ us) (step ts (Open ∷ us) Open h) (tt, g) e
walk_before ts k gs (Open ∷ Close ∷ us) h g e = walk_before ts k (Unplaced ∷ gs) (Close ∷ us) (step ts (Close ∷ us) Open h) (tt, g) e
walk_before ts k gs (Open ∷ Id x ∷ us) h g e = walk_before ts k (Unplaced ∷ gs) (Id x ∷ us) (step ts (Id x ∷ us) Open h) (tt, g) e
walk_before ts k gs (Open ∷ Integer s n ∷ us) h g e = walk_before ts k (Unplaced ∷ gs) (Integer s n ∷ us) (step ts (Integer s n ∷ us) Open h) (tt, g) e
walk_before ts k gs (Open ∷ Text v ∷ us) h g e = walk_before ts k (Unplaced ∷ gs) (Text v ∷ us) (step ts (Text v ∷ us) Open h) (tt, g) e
walk_before ts k gs (Open ∷ Float narrow wide ∷ us) h g e = walk_before ts k (Unplaced ∷ gs) (Float narrow wide ∷ us) (step ts (Float narrow wide ∷ us) Open h) (tt, g) e
walk_before ts k gs (Open ∷ Other ∷ us) h g e = walk_before ts k (Unplaced ∷ gs) (Other ∷ us) (step ts (Other ∷ us) Open h) (tt, g) e
walk_before ts k [] (Close ∷ us) h g e = tt
walk_before ts k (a ∷ gs) (Close ∷ us) h g e =
    append_all (Before ts k) (closed a (Close ∷ us)) (walk gs us) (close_before ts k a (Close ∷ us) (first_before ts us Close (depth gs) k h e) g.0) (walk_before ts k gs us (step ts us Close h) g.1 e)
walk_before ts k gs (Word w ∷ us) h g e =
    append_all (Before ts k) (worded (kind w) (Word w ∷ us)) (walk gs us) (word_before ts k (kind w) (Word w ∷ us) (first_before ts us (Word w) (depth gs) k h e)) (walk_before ts k gs us (step ts us (Word w) h) g e)
walk_before ts k gs (Id x ∷ us) h g e = walk_before ts k gs us (step ts us (Id x) h) g e
walk_before ts k gs (Integer s n ∷ us) h g e = walk_before ts k gs us (step ts us (Integer s n) h) g e
walk_before ts k gs (Text v ∷ us) h g e = walk_before ts k gs us (step ts us (Text v) h) g e
walk_before ts k gs (Float narrow wide ∷ us) h g e = walk_before ts k gs us (step ts us (Float narrow wide) h) g e
walk_before ts k gs (Other ∷ us) h g e = walk_before ts k gs us (step ts us Other h) g e

-- the instructions of a field, by their positions
pub placed_before : (ts : List Terminal) (k : ℕ) (ps : List Placed) → AllByRecursion (Before ts k) (map place_of ps) → AllByRecursion (λ p. Before ts k p.place) ps
placed_before ts k [] h = tt
placed_before ts k (p ∷ ps) h = (h.0, placed_before ts k ps h.1)

-- Positions in parts of tokens.

pub tail_in : (ts us p : List Terminal) → Tail ts us → (n : ℕ) → p ≡ drop n us → Tail ts p
tail_in ts us p h n e = (h.0 + n, e ∙ ap (drop n) h.1 ∙ drop-drop n h.0 ts)

short_drop : (n : ℕ) (us : List Terminal) → n < length us → ¬ (drop n us ≡ [])
short_drop zero [] h e = absurd (omega arith)
short_drop zero (u ∷ us) h e = cc
short_drop (suc n) [] h e = absurd (omega arith)
short_drop (suc n) (u ∷ us) h e = short_drop n us (omega arith) e

pub nonempty : (us p : List Terminal) → IsPosition us p → ¬ (p ≡ [])
nonempty us p h e = short_drop h.0 us h.1 (sym h.2 ∙ e)

pub tail_position : (ts p : List Terminal) → Tail ts p → ¬ (p ≡ []) → IsPosition ts p
tail_position ts [] h k = absurd (k refl)
tail_position ts (t ∷ us) h k = position ts us t h
