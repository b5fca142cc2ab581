-- The terminals from a position on.
use Rattle.std.proofs.Common.{Bor, ◌≡◌, ◌∙◌, ◌≤◌, ◌<◌, ◌+◌, ◌-◌, ◌*◌, ◌^◌, ◌/◌, ◌%◌, ℕ, zero, suc, Bool, true, false, List, [], ◌∷◌, ◌++◌, if◌then◌else◌, nat_lt, drop, length, map, ap, sym, refl, Some, None, Option, add-one, arith, subst, length-append}
use Rattle.std.specs.Prelude.{slice_get}
use Rattle.std.specs.Slice.{IsItemAt}
use Rattle.std.proofs.Math.Nat.{div-eq_of_lt, mod-eq_of_lt, div-add-mod, mod-lt}
use Rattle.std.proofs.Math.ListN.{drop_of_length-le}
use Rattle.std.proofs.lemmas.List.{drop-map, length-drop, length-map}
use Rattle.std.proofs.lemmas.Option.{get_or_from_slice_get, slice_get_read, slice_get_within}
use Rattle.wat_module_tokens.specs.declared.stream.PackedU32.{PackedU32}
use Rattle.wat_module_tokens.specs.declared.stream.SideValue.{SideValue}
use Rattle.wat_module_tokens.specs.declared.stream.SideValue.TheVariants as kept
use Rattle.wat_module_tokens.specs.declared.stream.PackedToken.{PackedToken}
use Rattle.wat_module_tokens.specs.declared.stream.PackedToken.TheVariants as short
use Rattle.wat_module_tokens.specs.Terminals.{past, Terminal, Open, Close, Word}
use Rattle.wat_module_tokens.specs.Tokens.{AreLinked, AreReadable, IsReadable, bytes_at, first_len, from_part, from_position, and_after, joined, kept_or, number_of, second_at, second_len, step_of, terminal_in, terminals_after, terminals_in}

-- The terminals of each of these packed tokens.
abbrev pub pieces : List ℕ → List SideValue → List PackedToken → List (List Terminal)
pieces text ks ts = map (terminals_in text ks) ts

-- What `get` found.
pub got : {A : Type 0} (xs : List A) (i : ℕ) (r : Option (Bor A)) (x : Bor A) → IsItemAt xs i r → r ≡ Some x → slice_get xs i ≡ Some x.now
got xs i None x h e = cc
got xs i (Some y) x h e =
    let same : y ≡ x = cc in
    subst (λ z. slice_get xs i ≡ Some z.now) same (slice_get_read xs (length xs) i y.now refl (omega (arith, h.0)) h.1)

-- A token at an index can be decoded if each can.
pub readable_at : (text : List ℕ) (k : ℕ) (ts : List PackedToken) (i : ℕ) (t : PackedToken) → AreReadable text k ts → slice_get ts i ≡ Some t → IsReadable text k t
readable_at text k ts i t r h = subst (IsReadable text k) (get_or_from_slice_get ts i t t h) (r i t (slice_get_within ts i t h))

-- A position that is an index.
pub index : (at : ℕ) (xss : List (List Terminal)) → at < 2 ^ 62 → from_position at xss ≡ from_part 0 (drop at xss)
index at xss h = ap (λ d. from_part d (drop (at % 2 ^ 62) xss)) (div-eq_of_lt h) ∙ ap (λ i. from_part 0 (drop i xss)) (mod-eq_of_lt h)

next_part : (at : ℕ) → (at + 2 ^ 62) / 2 ^ 62 ≡ suc (at / 2 ^ 62)
next_part at = omega arith

same_index : (at : ℕ) → (at + 2 ^ 62) % 2 ^ 62 ≡ at % 2 ^ 62
same_index at = omega arith

-- The next position in the same packed token.
pub next : (at : ℕ) (xss : List (List Terminal)) → from_position (at + 2 ^ 62) xss ≡ from_part (suc (at / 2 ^ 62)) (drop (at % 2 ^ 62) xss)
next at xss = ap (λ d. from_part d (drop ((at + 2 ^ 62) % 2 ^ 62) xss)) (next_part at) ∙ ap (λ i. from_part (suc (at / 2 ^ 62)) (drop i xss)) (same_index at)

-- The terminals from an index on.
pub from_index : (text : List ℕ) (ks : List SideValue) (ts : List PackedToken) (i : ℕ) → from_part 0 (drop i (pieces text ks ts)) ≡ joined (drop i (pieces text ks ts))
from_index text ks [] zero = refl
from_index text ks [] (suc i) = refl
from_index text ks (t ∷ ts) zero = refl
from_index text ks (t ∷ ts) (suc i) = from_index text ks ts i

pub at_index : (text : List ℕ) (ks : List SideValue) (ts : List PackedToken) (at : ℕ) → at < 2 ^ 62 → from_position at (pieces text ks ts) ≡ joined (drop at (pieces text ks ts))
at_index text ks ts at h = index at (pieces text ks ts) h ∙ from_index text ks ts at

-- The packed token at an index, and those after it.
pub piece : (text : List ℕ) (ks : List SideValue) (ts : List PackedToken) (i : ℕ) (t : PackedToken) → slice_get ts i ≡ Some t → drop i (pieces text ks ts) ≡ terminals_in text ks t ∷ drop (suc i) (pieces text ks ts)
piece text ks [] i t h = cc
piece text ks (u ∷ ts) zero t h = let e : u ≡ t = cc in ap (λ v. terminals_in text ks v ∷ pieces text ks ts) e
piece text ks (u ∷ ts) (suc i) t h = piece text ks ts i t h

-- The first token at an index.
pub group_opens : (text : List ℕ) (ks : List SideValue) (ts : List PackedToken) (at : ℕ) (o : PackedU32) (n : ℕ) → at < 2 ^ 62 → slice_get ts at ≡ Some (short.KeywordGroup o n) → from_position at (pieces text ks ts) ≡ Open ∷ from_position (at + 2 ^ 62) (pieces text ks ts)
group_opens text ks ts at o n l h =
    let xss = pieces text ks ts in
    let is = piece text ks ts at (short.KeywordGroup o n) h in
    index at xss l ∙ ap (from_part 0) is
    ∙ ap (λ v. Open ∷ v) (sym (next at xss ∙ ap (λ d. from_part (suc d) (drop (at % 2 ^ 62) xss)) (div-eq_of_lt l) ∙ ap (λ i. from_part 1 (drop i xss)) (mod-eq_of_lt l) ∙ ap (from_part 1) is))

plain_first : (text : List ℕ) (ks : List SideValue) (ts : List PackedToken) (at : ℕ) (t : PackedToken) → at + 1 < 2 ^ 62 → slice_get ts at ≡ Some t → terminals_after text t ≡ [] → from_position at (pieces text ks ts) ≡ terminal_in text ks t ∷ from_position (at + 1) (pieces text ks ts)
plain_first text ks ts at t l h e =
    let xss = pieces text ks ts in
    let x = terminal_in text ks t in
    index at xss (omega (arith, l)) ∙ ap (from_part 0) (piece text ks ts at t h) ∙ ap (λ v. from_part 0 ((x ∷ v) ∷ drop (suc at) xss)) e
    ∙ ap (λ v. x ∷ v) (ap (λ i. joined (drop i xss)) (sym (add-one at)) ∙ sym (at_index text ks ts (at + 1) l))

pub first : (text : List ℕ) (ks : List SideValue) (ts : List PackedToken) (at : ℕ) (t : PackedToken) → at + 1 < 2 ^ 62 → slice_get ts at ≡ Some t → from_position at (pieces text ks ts) ≡ terminal_in text ks t ∷ from_position (at + step_of t) (pieces text ks ts)
first text ks ts at (short.Open e) l h = plain_first text ks ts at (short.Open e) l h refl
first text ks ts at short.Close l h = plain_first text ks ts at short.Close l h refl
first text ks ts at (short.Word o n) l h = plain_first text ks ts at (short.Word o n) l h refl
first text ks ts at (short.Id o n) l h = plain_first text ks ts at (short.Id o n) l h refl
first text ks ts at (short.Integer s n) l h = plain_first text ks ts at (short.Integer s n) l h refl
first text ks ts at (short.Float o n) l h = plain_first text ks ts at (short.Float o n) l h refl
first text ks ts at (short.Text o n) l h = plain_first text ks ts at (short.Text o n) l h refl
first text ks ts at (short.SideValue i) l h = plain_first text ks ts at (short.SideValue i) l h refl
first text ks ts at (short.KeywordGroup o n) l h = group_opens text ks ts at o n (omega (arith, l)) h
first text ks ts at short.Other l h = plain_first text ks ts at short.Other l h refl

-- The parts of a keyword group.
pub second : (text : List ℕ) (ks : List SideValue) (ts : List PackedToken) (at : ℕ) (o : PackedU32) (n : ℕ) → at / 2 ^ 62 ≡ 1 → slice_get ts (at % 2 ^ 62) ≡ Some (short.KeywordGroup o n) → from_position at (pieces text ks ts) ≡ Word (bytes_at text (number_of o) (first_len n)) ∷ from_position (at + 2 ^ 62) (pieces text ks ts)
second text ks ts at o n d h =
    let xss = pieces text ks ts in
    let is = piece text ks ts (at % 2 ^ 62) (short.KeywordGroup o n) h in
    let w = Word (bytes_at text (number_of o) (first_len n)) in
    ap (λ v. from_part v (drop (at % 2 ^ 62) xss)) d ∙ ap (from_part 1) is
    ∙ ap (λ v. w ∷ v) (sym (next at xss ∙ ap (λ v. from_part (suc v) (drop (at % 2 ^ 62) xss)) d ∙ ap (from_part 2) is))

pub third : (text : List ℕ) (ks : List SideValue) (ts : List PackedToken) (at : ℕ) (o : PackedU32) (n : ℕ) → at / 2 ^ 62 ≡ 2 → slice_get ts (at % 2 ^ 62) ≡ Some (short.KeywordGroup o n) → from_position at (pieces text ks ts) ≡ Word (bytes_at text (second_at (number_of o) n) (second_len n)) ∷ from_position (at + 2 ^ 62) (pieces text ks ts)
third text ks ts at o n d h =
    let xss = pieces text ks ts in
    let is = piece text ks ts (at % 2 ^ 62) (short.KeywordGroup o n) h in
    let w = Word (bytes_at text (second_at (number_of o) n) (second_len n)) in
    ap (λ v. from_part v (drop (at % 2 ^ 62) xss)) d ∙ ap (from_part 2) is
    ∙ ap (λ v. w ∷ v) (sym (next at xss ∙ ap (λ v. from_part (suc v) (drop (at % 2 ^ 62) xss)) d ∙ ap (from_part 3) is))

pub fourth : (text : List ℕ) (ks : List SideValue) (ts : List PackedToken) (at : ℕ) (o : PackedU32) (n : ℕ) → at / 2 ^ 62 ≡ 3 → at % 2 ^ 62 + 1 < 2 ^ 62 → slice_get ts (at % 2 ^ 62) ≡ Some (short.KeywordGroup o n) → from_position at (pieces text ks ts) ≡ Close ∷ from_position (at % 2 ^ 62 + 1) (pieces text ks ts)
fourth text ks ts at o n d l h =
    let xss = pieces text ks ts in
    let i = at % 2 ^ 62 in
    ap (λ v. from_part v (drop i xss)) d ∙ ap (from_part 3) (piece text ks ts i (short.KeywordGroup o n) h)
    ∙ ap (λ v. Close ∷ v) (ap (λ v. joined (drop v xss)) (sym (add-one i)) ∙ sym (at_index text ks ts (i + 1) l))

-- Positions that are not in a keyword group.
after_one : (d : ℕ) (x : Terminal) (xss : List (List Terminal)) → from_part (suc d) ((x ∷ []) ∷ xss) ≡ []
after_one zero x xss = refl
after_one (suc d) x xss = refl

none_there : (text : List ℕ) (ks : List SideValue) (ts : List PackedToken) (i : ℕ) → slice_get ts i ≡ None → drop i (pieces text ks ts) ≡ []
none_there text ks [] zero h = refl
none_there text ks [] (suc i) h = refl
none_there text ks (t ∷ ts) zero h = cc
none_there text ks (t ∷ ts) (suc i) h = none_there text ks ts i h

not_there : {ts us : List Terminal} → ts ≡ [] → ts ≡ Open ∷ us → ⊥
not_there {ts} {us} a b = let k : [] ≡ Open ∷ us = sym a ∙ b in cc

after_four : (d : ℕ) (x y z u : Terminal) (xss : List (List Terminal)) → from_part (suc (suc (suc (suc d)))) ((x ∷ y ∷ z ∷ u ∷ []) ∷ xss) ≡ []
after_four zero x y z u xss = refl
after_four (suc d) x y z u xss = refl

no_kept : (k : Option SideValue) → ¬ (kept_or k ≡ Open)
no_kept None e = cc
no_kept (Some (kept.Word w)) e = cc
no_kept (Some (kept.Id x)) e = cc
no_kept (Some (kept.Integer s n)) e = cc
no_kept (Some (kept.Float w)) e = cc
no_kept (Some (kept.Text v)) e = cc

-- What a keyword group has after its first terminal.
part_of : (d : ℕ) (w v : Terminal) (xss : List (List Terminal)) → ¬ (w ≡ Open) → ¬ (v ≡ Open) → (us : List Terminal) → ¬ (from_part (suc d) ((Open ∷ w ∷ v ∷ Close ∷ []) ∷ xss) ≡ Open ∷ us)
part_of zero w v xss a b us e = a (let k : w ≡ Open = cc in k)
part_of (suc zero) w v xss a b us e = b (let k : v ≡ Open = cc in k)
part_of (suc (suc zero)) w v xss a b us e = let k : Close ≡ Open = cc in cc
part_of (suc (suc (suc d))) w v xss a b us e = not_there (after_four d Open w v Close xss) e

inside_piece : (text : List ℕ) (ks : List SideValue) (t : PackedToken) (d : ℕ) (xss : List (List Terminal)) (us : List Terminal) → ¬ (from_part (suc d) (terminals_in text ks t ∷ xss) ≡ Open ∷ us)
inside_piece text ks (short.Open m) d xss us e = not_there (after_one d (terminal_in text ks (short.Open m)) xss) e
inside_piece text ks short.Close d xss us e = not_there (after_one d (terminal_in text ks short.Close) xss) e
inside_piece text ks (short.Word o n) d xss us e = not_there (after_one d (terminal_in text ks (short.Word o n)) xss) e
inside_piece text ks (short.Id o n) d xss us e = not_there (after_one d (terminal_in text ks (short.Id o n)) xss) e
inside_piece text ks (short.Integer s n) d xss us e = not_there (after_one d (terminal_in text ks (short.Integer s n)) xss) e
inside_piece text ks (short.Float o n) d xss us e = not_there (after_one d (terminal_in text ks (short.Float o n)) xss) e
inside_piece text ks (short.Text o n) d xss us e = not_there (after_one d (terminal_in text ks (short.Text o n)) xss) e
inside_piece text ks (short.SideValue i) d xss us e = not_there (after_one d (terminal_in text ks (short.SideValue i)) xss) e
inside_piece text ks (short.KeywordGroup o n) d xss us e = part_of d (Word (bytes_at text (number_of o) (first_len n))) (Word (bytes_at text (second_at (number_of o) n) (second_len n))) xss (λ k. cc) (λ k. cc) us e
inside_piece text ks short.Other d xss us e = not_there (after_one d (terminal_in text ks short.Other) xss) e

not_index : (at n : ℕ) → n ≤ at → at % 2 ^ 62 < n → (d : ℕ) × (at / 2 ^ 62 ≡ suc d)
not_index at n l k = (at / 2 ^ 62 - 1, omega (arith, l, k))

-- No group begins inside a packed token.
pub no_group_inside : (text : List ℕ) (ks : List SideValue) (ts : List PackedToken) (at : ℕ) (us : List Terminal) → length ts ≤ at → ¬ (from_position at (pieces text ks ts) ≡ Open ∷ us)
no_group_inside text ks ts at us l e = by (slice_get ts (at % 2 ^ 62)) refl
  where
    i : ℕ
    i = at % 2 ^ 62

    xss : List (List Terminal)
    xss = pieces text ks ts

    by : (u : Option PackedToken) → slice_get ts i ≡ u → ⊥
    by None h = let k : [] ≡ Open ∷ us = ap (from_part (at / 2 ^ 62)) (sym (none_there text ks ts i h)) ∙ e in cc
    by (Some t) h =
        let d = not_index at (length ts) l (slice_get_within ts i t h) in
        inside_piece text ks t d.0 (drop (suc i) xss) us (sym (ap (from_part (suc d.0)) (piece text ks ts i t h)) ∙ ap (λ v. from_part v (drop i xss)) (sym d.1) ∙ e)

outside_one : (text : List ℕ) (ks : List SideValue) (t : PackedToken) (d : ℕ) (xss : List (List Terminal)) → ((o : PackedU32) (n : ℕ) → ¬ (t ≡ short.KeywordGroup o n)) → from_part (suc d) (terminals_in text ks t ∷ xss) ≡ []
outside_one text ks (short.Open m) d xss f = after_one d (terminal_in text ks (short.Open m)) xss
outside_one text ks short.Close d xss f = after_one d (terminal_in text ks short.Close) xss
outside_one text ks (short.Word o n) d xss f = after_one d (terminal_in text ks (short.Word o n)) xss
outside_one text ks (short.Id o n) d xss f = after_one d (terminal_in text ks (short.Id o n)) xss
outside_one text ks (short.Integer s n) d xss f = after_one d (terminal_in text ks (short.Integer s n)) xss
outside_one text ks (short.Float o n) d xss f = after_one d (terminal_in text ks (short.Float o n)) xss
outside_one text ks (short.Text o n) d xss f = after_one d (terminal_in text ks (short.Text o n)) xss
outside_one text ks (short.SideValue i) d xss f = after_one d (terminal_in text ks (short.SideValue i)) xss
outside_one text ks (short.KeywordGroup o n) d xss f = absurd (f o n refl)
outside_one text ks short.Other d xss f = after_one d (terminal_in text ks short.Other) xss

pub outside : (text : List ℕ) (ks : List SideValue) (ts : List PackedToken) (at : ℕ) → length ts ≤ at → ((o : PackedU32) (n : ℕ) → ¬ (slice_get ts (at % 2 ^ 62) ≡ Some (short.KeywordGroup o n))) → from_position at (pieces text ks ts) ≡ []
outside text ks ts at l f = by (slice_get ts (at % 2 ^ 62)) refl
  where
    i : ℕ
    i = at % 2 ^ 62

    xss : List (List Terminal)
    xss = pieces text ks ts

    by : (u : Option PackedToken) → slice_get ts i ≡ u → from_position at xss ≡ []
    by None h = ap (from_part (at / 2 ^ 62)) (none_there text ks ts i h)
    by (Some t) h =
        let d = not_index at (length ts) l (slice_get_within ts i t h) in
        ap (λ v. from_part v (drop i xss)) d.1 ∙ ap (from_part (suc d.0)) (piece text ks ts i t h) ∙ outside_one text ks t d.0 (drop (suc i) xss) (λ o n e. f o n (h ∙ ap Some e))

-- The number of terminals.
few_after : (text : List ℕ) (t : PackedToken) → length (terminals_after text t) ≤ 3
few_after text (short.Open e) = omega arith
few_after text short.Close = omega arith
few_after text (short.Word o n) = omega arith
few_after text (short.Id o n) = omega arith
few_after text (short.Integer s n) = omega arith
few_after text (short.Float o n) = omega arith
few_after text (short.Text o n) = omega arith
few_after text (short.SideValue i) = omega arith
few_after text (short.KeywordGroup o n) = omega arith
few_after text short.Other = omega arith

few_joined : (text : List ℕ) (ks : List SideValue) (ts : List PackedToken) → length (joined (pieces text ks ts)) ≤ length ts * 4
few_joined text ks [] = omega arith
few_joined text ks (t ∷ ts) =
    let a : length (terminals_in text ks t ++ joined (pieces text ks ts)) ≡ length (terminals_in text ks t) + length (joined (pieces text ks ts)) = length-append (terminals_in text ks t) (joined (pieces text ks ts)) in
    omega (arith, a, few_after text t, few_joined text ks ts)

few_and : (xs : List Terminal) (xss : List (List Terminal)) (n : ℕ) → length xs + length (joined xss) ≤ n → length (and_after xs xss) ≤ n
few_and [] xss n h = omega arith
few_and (x ∷ xs) xss n h = let a = length-append xs (joined xss) in omega (arith, a, h)

few_part : (text : List ℕ) (ks : List SideValue) (ts : List PackedToken) (d : ℕ) → length (from_part d (pieces text ks ts)) ≤ length ts * 4
few_part text ks [] d = omega arith
few_part text ks (t ∷ ts) d =
    let xs = terminals_in text ks t in
    let b = length-drop d xs in
    few_and (drop d xs) (pieces text ks ts) (length (t ∷ ts) * 4) (omega (arith, b, few_after text t, few_joined text ks ts))

pub few : (text : List ℕ) (ks : List SideValue) (ts : List PackedToken) (at : ℕ) → length (from_position at (pieces text ks ts)) ≤ (length ts - at % 2 ^ 62) * 4
few text ks ts at =
    let i = at % 2 ^ 62 in
    let k = few_part text ks (drop i ts) (at / 2 ^ 62) in
    let b = length-drop i ts in
    subst (λ xss. length (from_part (at / 2 ^ 62) xss) ≤ (length ts - i) * 4) (sym (drop-map (terminals_in text ks) i ts)) (subst (λ n. length (from_part (at / 2 ^ 62) (pieces text ks (drop i ts))) ≤ n * 4) b k)

-- A group's link leads to the tokens after it.
pub group_ends : (text : List ℕ) (ks : List SideValue) (ts : List PackedToken) (at : ℕ) (e : PackedU32) → at + 1 < 2 ^ 62 → number_of e < 2 ^ 62 → AreLinked (pieces text ks ts) ts → slice_get ts at ≡ Some (short.Open e) → from_position (number_of e) (pieces text ks ts) ≡ past 0 (from_position (at + 1) (pieces text ks ts))
group_ends text ks ts at e l m k h =
    let xss = pieces text ks ts in
    at_index text ks ts (number_of e) m ∙ sym (k.leads at e h) ∙ ap (λ i. past 0 (joined (drop i xss))) (sym (add-one at)) ∙ ap (past 0) (sym (at_index text ks ts (at + 1) l))

-- The tokens after a keyword group.
pub keywords_end : (text : List ℕ) (ks : List SideValue) (ts : List PackedToken) (at : ℕ) (o : PackedU32) (n : ℕ) → at + 1 < 2 ^ 62 → slice_get ts at ≡ Some (short.KeywordGroup o n) → from_position (at + 1) (pieces text ks ts) ≡ past 0 (from_position (at + 2 ^ 62) (pieces text ks ts))
keywords_end text ks ts at o n l h =
    let xss = pieces text ks ts in
    at_index text ks ts (at + 1) l ∙ ap (λ i. joined (drop i xss)) (add-one at)
    ∙ ap (past 0) (sym (next at xss ∙ ap (λ d. from_part (suc d) (drop (at % 2 ^ 62) xss)) (div-eq_of_lt (omega (arith, l))) ∙ ap (λ i. from_part 1 (drop i xss)) (mod-eq_of_lt (omega (arith, l))) ∙ ap (from_part 1) (piece text ks ts at (short.KeywordGroup o n) h)))

-- A token that is neither `(` nor a keyword group begins no group.
pub no_group_at : (text : List ℕ) (ks : List SideValue) (ts : List PackedToken) (at : ℕ) (t : PackedToken) (us : List Terminal) → at + 1 < 2 ^ 62 → slice_get ts at ≡ Some t → ((e : PackedU32) → ¬ (t ≡ short.Open e)) → ((o : PackedU32) (n : ℕ) → ¬ (t ≡ short.KeywordGroup o n)) → ¬ (from_position at (pieces text ks ts) ≡ Open ∷ us)
no_group_at text ks ts at t us l h f g e = by t f g (let k : terminal_in text ks t ∷ from_position (at + step_of t) (pieces text ks ts) ≡ Open ∷ us = sym (first text ks ts at t l h) ∙ e in cc)
  where
    by : (u : PackedToken) → ((m : PackedU32) → ¬ (u ≡ short.Open m)) → ((o : PackedU32) (n : ℕ) → ¬ (u ≡ short.KeywordGroup o n)) → terminal_in text ks u ≡ Open → ⊥
    by (short.Open m) a b k = a m refl
    by short.Close a b k = cc
    by (short.Word o n) a b k = cc
    by (short.Id o n) a b k = cc
    by (short.Integer s n) a b k = cc
    by (short.Float o n) a b k = cc
    by (short.Text o n) a b k = cc
    by (short.SideValue i) a b k = no_kept (slice_get ks (number_of i)) k
    by (short.KeywordGroup o n) a b k = b o n refl
    by short.Other a b k = cc
