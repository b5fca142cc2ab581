-- Groups, while tokens are packed one by one.
use Rattle.std.proofs.Common.{◌≡◌, ◌∙◌, ◌<◌, ◌≤◌, ◌-◌, ◌^◌, ℕ, zero, suc, List, [], ◌∷◌, ◌++◌, drop, length, map, refl, sym, ap, subst, inl, inr, Some, arith, append_assoc, append-nil, length-append}
use Rattle.std.specs.Prelude.{◌⊎◌, slice_get, slice_set, slice_index_or}
use Rattle.std.specs.List.{Contains}
use Rattle.std.proofs.Math.ListN.{drop_of_length-le}
use Rattle.std.proofs.lemmas.List.{drop-append-le}
use Rattle.std.proofs.lemmas.List.Concat.{flat_map-append}
use Rattle.std.proofs.lemmas.List.Elements.{Contains-append_left, Contains-push, Contains-push_cases}
use Rattle.std.proofs.lemmas.Option.{slice_get_within}
use Rattle.wat_module_tokens.specs.declared.stream.PackedU32.{PackedU32}
use Rattle.wat_module_tokens.specs.declared.stream.PackedToken.{PackedToken}
use Rattle.wat_module_tokens.specs.declared.stream.PackedToken.TheVariants as short
use Rattle.wat_module_tokens.specs.Terminals.{past, Terminal, Open, Close, Word, Id, Integer, Text, Float, Other}
use Rattle.wat_module_tokens.specs.Tokens.{AreLinked, joined, number_of, terminals_in}
use Rattle.wat_module_lexer.specs.Drafts.{AreLinkedBut, AreOpen, HasEnded, IsAtom, IsOpen}

-- no parenthesis opens or ends a group
past_atom : (x : Terminal) (d : ℕ) (ts : List Terminal) → IsAtom x → past d (x ∷ ts) ≡ past d ts
past_atom Open d ts h = absurd h
past_atom Close d ts h = absurd h
past_atom (Word w) d ts h = refl
past_atom (Id n) d ts h = refl
past_atom (Integer s n) d ts h = refl
past_atom (Float narrow wide) d ts h = refl
past_atom (Text v) d ts h = refl
past_atom Other d ts h = refl

-- Elements of lists.

pub get_left : {A : Type 0} (xs ys : List A) (i : ℕ) (x : A) → slice_get xs i ≡ Some x → slice_get (xs ++ ys) i ≡ Some x
get_left [] ys i x h = cc
get_left (y ∷ xs) ys zero x h = h
get_left (y ∷ xs) ys (suc i) x h = get_left xs ys i x h

get_last : {A : Type 0} (xs : List A) (x : A) → slice_get (xs ++ x ∷ []) (length xs) ≡ Some x
get_last [] x = refl
get_last (y ∷ xs) x = get_last xs x

pub get_cases : {A : Type 0} (xs : List A) (x : A) (i : ℕ) (u : A) → slice_get (xs ++ x ∷ []) i ≡ Some u → (slice_get xs i ≡ Some u) ⊎ ((i ≡ length xs) × (x ≡ u))
get_cases [] x zero u h = inr (refl, cc)
get_cases [] x (suc i) u h = cc
get_cases (y ∷ xs) x zero u h = inl h
get_cases (y ∷ xs) x (suc i) u h = elim (get_cases xs x i u h) [ inl e ↦ inl e | inr e ↦ inr (ap suc e.0, e.1) ]

set_cases : {A : Type 0} (xs : List A) (i : ℕ) (x : A) (j : ℕ) (u : A) → slice_get (slice_set xs i x) j ≡ Some u → ((j ≡ i) × (x ≡ u)) ⊎ ((¬ (j ≡ i)) × (slice_get xs j ≡ Some u))
set_cases [] i x j u h = cc
set_cases (y ∷ xs) zero x zero u h = inl (refl, cc)
set_cases (y ∷ xs) zero x (suc j) u h = inr ((λ e. absurd (omega (arith, e))), h)
set_cases (y ∷ xs) (suc i) x zero u h = inr ((λ e. absurd (omega (arith, e))), h)
set_cases (y ∷ xs) (suc i) x (suc j) u h = elim (set_cases xs i x j u h) [ inl e ↦ inl (ap suc e.0, e.1) | inr e ↦ inr ((λ k. e.0 (omega (arith, k))), e.1) ]

pub same_map : {A B : Type 0} (f : A → B) (xs : List A) (i : ℕ) (x : A) → slice_get (map f xs) i ≡ Some (f x) → map f (slice_set xs i x) ≡ map f xs
same_map f [] i x h = refl
same_map f (y ∷ xs) zero x h = let e : f y ≡ f x = cc in ap (λ z. z ∷ map f xs) (sym e)
same_map f (y ∷ xs) (suc i) x h = ap (λ zs. f y ∷ zs) (same_map f xs i x h)

-- Terminals of several packed tokens.

pub joined_append : (xss yss : List (List Terminal)) → joined (xss ++ yss) ≡ joined xss ++ joined yss
joined_append xss yss = flat_map-append (λ xs. xs) xss yss

pub joined_push : (xss : List (List Terminal)) (ys : List Terminal) → joined (xss ++ ys ∷ []) ≡ joined xss ++ ys
joined_push xss ys = joined_append xss (ys ∷ []) ∙ ap (λ v. joined xss ++ v) (append-nil ys)

-- One token more.

longer : (xss : List (List Terminal)) (ys : List Terminal) (i : ℕ) (more : List Terminal) → i < length xss → past 0 (joined (drop (suc i) (xss ++ ys ∷ [])) ++ more) ≡ past 0 (joined (drop (suc i) xss) ++ (ys ++ more))
longer xss ys i more h =
    ap (λ v. past 0 (joined v ++ more)) (drop-append-le (suc i) xss (ys ∷ []) (omega (arith, h))) ∙ ap (λ v. past 0 (v ++ more)) (joined_push (drop (suc i) xss) ys)
    ∙ ap (past 0) (append_assoc (joined (drop (suc i) xss)) ys more)

open_on : (xss : List (List Terminal)) (ys : List Terminal) (i inner outer : ℕ) → ((more : List Terminal) → past inner (ys ++ more) ≡ past outer more) → IsOpen xss i inner → IsOpen (xss ++ ys ∷ []) i outer
open_on xss ys i inner outer h o = record {
  begins = get_left xss (ys ∷ []) i (Open ∷ []) o.begins;
  goes_on = λ more. longer xss ys i more (slice_get_within xss i (Open ∷ []) o.begins) ∙ o.goes_on (ys ++ more) ∙ h more;
}

ended_on : (xss : List (List Terminal)) (ys : List Terminal) (i end : ℕ) → i < length xss → HasEnded xss i end → HasEnded (xss ++ ys ∷ []) i end
ended_on xss ys i end l h = record {
  within = omega (arith, h.within, length-append xss (ys ∷ []));
  ended = λ more. longer xss ys i more l ∙ h.ended (ys ++ more)
      ∙ sym (ap (λ v. joined v ++ more) (drop-append-le end xss (ys ∷ []) h.within) ∙ ap (λ v. v ++ more) (joined_push (drop end xss) ys) ∙ append_assoc (joined (drop end xss)) ys more);
}

nothing_after : (xss : List (List Terminal)) (n : ℕ) (more : List Terminal) → length xss ≤ n → joined (drop n xss) ++ more ≡ more
nothing_after xss n more h = ap (λ v. joined v ++ more) (drop_of_length-le xss h)

last_length : (is : List ℕ) (i : ℕ) → length (is ++ i ∷ []) ≡ suc (length is)
last_length is i = omega (arith, length-append is (i ∷ []))

-- The groups that are open.

pub open_atom : (xss : List (List Terminal)) (x : Terminal) (is : List ℕ) → IsAtom x → AreOpen xss is → AreOpen (xss ++ (x ∷ []) ∷ []) is
open_atom xss x [] a h = tt
open_atom xss x (i ∷ is) a h = (open_on xss (x ∷ []) i (length is) (length is) (λ more. past_atom x (length is) more a) h.0, open_atom xss x is a h.1)

pub open_more : (xss : List (List Terminal)) (is : List ℕ) → AreOpen xss is → AreOpen (xss ++ (Open ∷ []) ∷ []) (is ++ length xss ∷ [])
open_more xss [] h = (record { begins = get_last xss (Open ∷ []); goes_on = λ more. ap (past 0) (nothing_after (xss ++ (Open ∷ []) ∷ []) (suc (length xss)) more (omega (arith, length-append xss ((Open ∷ []) ∷ [])))) }, tt)
open_more xss (i ∷ is) h =
    (open_on xss (Open ∷ []) i (length is) (length (is ++ length xss ∷ [])) (λ more. ap (λ n. past n more) (sym (last_length is (length xss)))) h.0, open_more xss is h.1)

pub open_less : (xss : List (List Terminal)) (is : List ℕ) (i : ℕ) → AreOpen xss (is ++ i ∷ []) → AreOpen (xss ++ (Close ∷ []) ∷ []) is × IsOpen xss i 0
open_less xss [] i h = (tt, h.0)
open_less xss (j ∷ is) i h =
    let rest = open_less xss is i h.1 in
    ((open_on xss (Close ∷ []) j (length (is ++ i ∷ [])) (length is) (λ more. ap (λ n. past n (Close ∷ more)) (last_length is i)) h.0, rest.0), rest.1)

open_at : (xss : List (List Terminal)) (is : List ℕ) (i k : ℕ) → AreOpen xss is → k < length is → slice_index_or is k i ≡ i → (inner : ℕ) × IsOpen xss i inner
open_at xss [] i k h l e = absurd (omega (arith, l))
open_at xss (j ∷ is) i zero h l e = (length is, subst (λ v. IsOpen xss v (length is)) e h.0)
open_at xss (j ∷ is) i (suc k) h l e = open_at xss is i k h.1 (omega (arith, l)) e

-- What each `(` says.

-- of one that is before the last token
linked_before : (xss : List (List Terminal)) (ys : List Terminal) (ts : List PackedToken) (is : List ℕ) (i : ℕ) (e : PackedU32) → length xss ≡ length ts → AreLinkedBut xss ts is → slice_get ts i ≡ Some (short.Open e) → (Contains is i × (number_of e ≡ 2 ^ 32 - 1)) ⊎ HasEnded (xss ++ ys ∷ []) i (number_of e)
linked_before xss ys ts is i e s h g =
    let l : i < length xss = omega (arith, s, slice_get_within ts i (short.Open e) g) in
    elim (h i e g) [ inl o ↦ inl o | inr k ↦ inr (ended_on xss ys i (number_of e) l k) ]

pub linked_other : (xss : List (List Terminal)) (ys : List Terminal) (ts : List PackedToken) (t : PackedToken) (is : List ℕ) → length xss ≡ length ts → ((e : PackedU32) → ¬ (t ≡ short.Open e)) → AreLinkedBut xss ts is → AreLinkedBut (xss ++ ys ∷ []) (ts ++ t ∷ []) is
linked_other xss ys ts t is s n h = λ i e g. elim (get_cases ts t i (short.Open e) g) [ inl k ↦ linked_before xss ys ts is i e s h k | inr k ↦ absurd (n e k.1) ]

pub linked_open : (xss : List (List Terminal)) (ts : List PackedToken) (m : PackedU32) (is : List ℕ) → length xss ≡ length ts → number_of m ≡ 2 ^ 32 - 1 → AreLinkedBut xss ts is → AreLinkedBut (xss ++ (Open ∷ []) ∷ []) (ts ++ short.Open m ∷ []) (is ++ length xss ∷ [])
linked_open xss ts m is s n h = λ i e g. elim (get_cases ts (short.Open m) i (short.Open e) g) [
  | inl k ↦ elim (linked_before xss (Open ∷ []) ts is i e s h k) [ inl o ↦ inl (Contains-append_left is (length xss ∷ []) i o.0, o.1) | inr z ↦ inr z ]
  | inr k ↦ let f : m ≡ e = cc in inl (subst (Contains (is ++ length xss ∷ [])) (s ∙ sym k.0) (Contains-push is (length xss)), ap number_of (sym f) ∙ n)
]

pub linked_close : (xss : List (List Terminal)) (ts : List PackedToken) (m : PackedU32) (is : List ℕ) (i : ℕ) → length xss ≡ length ts → number_of m ≡ suc (length xss) → IsOpen xss i 0 → AreLinkedBut xss ts (is ++ i ∷ []) → AreLinkedBut (xss ++ (Close ∷ []) ∷ []) (slice_set (ts ++ short.Close ∷ []) i (short.Open m)) is
linked_close xss ts m is i s n o h = λ j e g. elim (set_cases (ts ++ short.Close ∷ []) i (short.Open m) j (short.Open e) g) [
  | inl k ↦ inr (by j e k.0 cc)
  | inr k ↦ elim (get_cases ts short.Close j (short.Open e) k.1) [
    | inl z ↦ elim (linked_before xss (Close ∷ []) ts (is ++ i ∷ []) j e s h z) [ inl c ↦ elim (Contains-push_cases is i j c.0) [ inl b ↦ inl (b, c.1) | inr b ↦ absurd (k.0 (sym b)) ] | inr b ↦ inr b ]
    | inr z ↦ cc
  ]
]
  where
    by : (j : ℕ) (e : PackedU32) → j ≡ i → m ≡ e → HasEnded (xss ++ (Close ∷ []) ∷ []) j (number_of e)
    by j e p q = subst (λ v. HasEnded (xss ++ (Close ∷ []) ∷ []) v (number_of e)) (sym p) (subst (λ v. HasEnded (xss ++ (Close ∷ []) ∷ []) i (number_of v)) q here)
      where
        here : HasEnded (xss ++ (Close ∷ []) ∷ []) i (number_of m)
        here = record {
          within = omega (arith, n, length-append xss ((Close ∷ []) ∷ []));
          ended = λ more. longer xss (Close ∷ []) i more (slice_get_within xss i (Open ∷ []) o.begins) ∙ o.goes_on (Close ∷ more) ∙ sym (nothing_after (xss ++ (Close ∷ []) ∷ []) (number_of m) more (omega (arith, n, length-append xss ((Close ∷ []) ∷ []))));
        }

-- All tokens are packed: a group that is still open has no end.
pub linked : (xss : List (List Terminal)) (ts : List PackedToken) (is : List ℕ) → length xss ≡ length ts → length xss < 2 ^ 32 → AreOpen xss is → AreLinkedBut xss ts is → AreLinked xss ts
linked xss ts is long s o h = record {
  few = omega (arith, long, s);
  leads = λ i e g. elim (h i e g) [
    | inl k ↦ without_end i e (open_at xss is i k.0.0 o k.0.1 k.0.2) k.1
    | inr k ↦ ap (past 0) (sym (append-nil (joined (drop (suc i) xss)))) ∙ k.ended [] ∙ append-nil (joined (drop (number_of e) xss))
  ];
}
  where
    without_end : (i : ℕ) (e : PackedU32) → (inner : ℕ) × IsOpen xss i inner → number_of e ≡ 2 ^ 32 - 1 → past 0 (joined (drop (suc i) xss)) ≡ joined (drop (number_of e) xss)
    without_end i e k n = ap (past 0) (sym (append-nil (joined (drop (suc i) xss)))) ∙ k.1.goes_on [] ∙ sym (ap joined (drop_of_length-le xss (omega (arith, n, s))))
