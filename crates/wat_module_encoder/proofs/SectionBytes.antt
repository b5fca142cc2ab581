-- Sections by their items.
use Rattle.std.proofs.Common.{◌≡◌, ◌∙◌, ◌<◌, ◌≤◌, ◌+◌, ◌-◌, ◌^◌, ℕ, suc, Bool, true, false, List, [], ◌∷◌, ◌++◌, length, map, min, take, Result, Ok, Err, refl, sym, ap, arith}
use Rattle.std.specs.Prelude.{◌==◌, OnOk, if◌then◌else◌}
use Rattle.std.specs.List.{flat_map}
use Rattle.std.proofs.lemmas.List.{append_assoc, length-append, length-map, take_all}
use Rattle.std.proofs.lemmas.Bool.Decides.{Decides-eqb}
use Rattle.wat_lex.specs.binary.Leb128.{unsigned_leb128}
use Rattle.wat_module_encoder.specs.Binary.{list_section, section}
use Rattle.wat_module_encoder.specs.Views.{counted_section, section_head}

not_zero : (n : ℕ) (b : Bool) → (suc n == 0) ≡ b → b ≡ false
not_zero n true e = let k : suc n ≡ 0 = (Decides-eqb (suc n) 0).0 e in absurd (omega arith)
not_zero n false e = refl

pub section_is : {A : Type 0} (number : ℕ) (f : A → List ℕ) (xs : List A) → counted_section number (length xs) (flat_map f xs) ≡ list_section number f xs
section_is number f [] = refl
section_is number f (x ∷ xs) = ap (λ (b : Bool). if b then [] else section number (unsigned_leb128 (length (x ∷ xs)) ++ flat_map f (x ∷ xs))) (not_zero (length xs) (length (x ∷ xs) == 0) refl)

pub put_section : {A B T E : Type 0} (r : Result T E) (number : ℕ) (view : A → B) (f : B → List ℕ) (xs : List A) (count : ℕ) (old new items : List ℕ) → count ≡ length xs → items ≡ flat_map f (map view xs) → OnOk r (new ≡ old ++ counted_section number count items) → OnOk r (new ≡ old ++ list_section number f (map view xs))
put_section (Ok t) number view f xs count old new items e k h =
    h ∙ ap (λ n. old ++ counted_section number n items) (e ∙ sym (length-map xs view)) ∙ ap (λ i. old ++ counted_section number (length (map view xs)) i) k ∙ ap (λ s. old ++ s) (section_is number f (map view xs))
put_section (Err e) number view f xs count old new items c k h = h

-- A head and the items whose size it has.
with_items : (number n len : ℕ) (old items : List ℕ) → len ≡ length items → (old ++ section_head number n len) ++ items ≡ old ++ section number (unsigned_leb128 n ++ items)
with_items number n len old items e =
    let count = unsigned_leb128 n in
    append_assoc old (section_head number n len) items
    ∙ ap (λ t. old ++ (number ∷ t)) (append_assoc (unsigned_leb128 (length count + len)) count items ∙ ap (λ m. unsigned_leb128 m ++ (count ++ items)) (ap (λ k. length count + k) e ∙ sym (length-append count items)))

-- The size `len` in a head is that of the items if they fit a `Vec`.
headed_by : (number n len : ℕ) (old head new items : List ℕ) → len ≡ min (length items) (2 ^ 64 - 1) → (len < 2 ^ 63 → head ≡ old ++ section_head number n len) → new ≡ head ++ items → length new < 2 ^ 63 → new ≡ old ++ section number (unsigned_leb128 n ++ items)
headed_by number n len old head new items e h k small =
    let all : length new ≡ length head + length items = ap length k ∙ length-append head items in
    let whole : len ≡ length items = omega arith in
    let fits : len < 2 ^ 63 = omega arith in
    k ∙ ap (λ b. b ++ items) (h fits) ∙ with_items number n len old items whole

headed_all : {A B : Type 0} (number : ℕ) (view : A → B) (f : B → List ℕ) (xs : List A) (len : ℕ) (old head new : List ℕ) → (length xs == 0) ≡ false → len ≡ min (length (flat_map f (map view xs))) (2 ^ 64 - 1) → (len < 2 ^ 63 → head ≡ old ++ section_head number (length xs) len) → new ≡ head ++ flat_map f (map view xs)
    → length new < 2 ^ 63 → new ≡ old ++ list_section number f (map view xs)
headed_all number view f [] len old head new n e h k small = let no : true ≡ false = n in cc
headed_all number view f (x ∷ xs) len old head new n e h k small =
    let items = flat_map f (map view (x ∷ xs)) in
    headed_by number (length (x ∷ xs)) len old head new items e h k small ∙ ap (λ m. old ++ section number (unsigned_leb128 m ++ items)) (sym (length-map (x ∷ xs) view))

-- A section after a loop over its items, which has come to `i`.
pub headed : {A B : Type 0} (number : ℕ) (view : A → B) (f : B → List ℕ) (xs : List A) (i len : ℕ) (old head new : List ℕ) → (length xs == 0) ≡ false → len ≡ min (length (flat_map f (map view xs))) (2 ^ 64 - 1) → (len < 2 ^ 63 → head ≡ old ++ section_head number (length xs) len) → new ≡ head ++ flat_map f (map view (take i xs))
    → length xs ≤ i → length new < 2 ^ 63 → new ≡ old ++ list_section number f (map view xs)
headed number view f xs i len old head new n e h k all small = headed_all number view f xs len old head new n e h (k ∙ ap (λ ys. head ++ flat_map f (map view ys)) (take_all i xs all)) small
