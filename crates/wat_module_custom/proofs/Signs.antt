-- Where an annotation that is sought may begin: directly before an `@`.
use Rattle.std.proofs.Common.{◌≡◌, ◌<◌, ◌≤◌, ◌+◌, ◌-◌, ◌∙◌, ℕ, zero, suc, Bool, true, false, List, [], ◌∷◌, length, drop, get_or, refl, sym, ap, ap₂, arith, inl, inr, Some, None}
use Rattle.std.specs.Prelude.{◌==◌, ◌&&◌, ◌||◌, slice_index}
use Rattle.std.proofs.lemmas.Bool.{cases_lt}
use Rattle.std.proofs.lemmas.Bool.Decides.{nat_tests}
use Rattle.std.proofs.lemmas.List.{get_or-drop, length-drop}
use Rattle.memchr.specs.Find.{IsFirstByte, Nowhere, Passes, is_byte}
use Rattle.wat_module_custom.specs.Search.{may_begin, may_have}
use Rattle.wat_module_custom.specs.declared.search.Sought.{Sought}
use Rattle.wat_module_custom.specs.declared.search.Sought.TheVariants as sought

and_false : (b : Bool) → (b && false) ≡ false
and_false true = refl
and_false false = refl

flipped : (b : ℕ) → (b == 64) ≡ false → (64 == b) ≡ false
flipped b e = grind (arith, nat_tests)

never : (a b x : Bool) → b ≡ false → (a && (b && x)) ≡ false
never a b x e = ap (λ t. a && (t && x)) e ∙ and_false a

-- Bytes whose second one is not `@`.
pub unsigned : (s : Sought) (text : List ℕ) → is_byte 64 (slice_index text 1) ≡ false → may_begin s text ≡ false
unsigned sought.Customs [] e = refl
unsigned sought.Names [] e = refl
unsigned sought.Either [] e = refl
unsigned sought.Customs (a ∷ []) e = ap (λ t. t || t) (and_false (40 == a))
unsigned sought.Names (a ∷ []) e = ap (λ t. t || t) (and_false (40 == a))
unsigned sought.Either (a ∷ []) e = ap (λ t. (t || t) || t) (and_false (40 == a))
unsigned sought.Customs (a ∷ b ∷ bs) e = ap₂ (λ s t. s || t) (never (40 == a) (64 == b) _ (flipped b e)) (never (40 == a) (64 == b) _ (flipped b e))
unsigned sought.Names (a ∷ b ∷ bs) e = ap₂ (λ s t. s || t) (never (40 == a) (64 == b) _ (flipped b e)) (never (40 == a) (64 == b) _ (flipped b e))
unsigned sought.Either (a ∷ b ∷ bs) e =
    ap₂ (λ s t. s || t) (ap₂ (λ s t. s || t) (never (40 == a) (64 == b) _ (flipped b e)) (never (40 == a) (64 == b) _ (flipped b e))) (never (40 == a) (64 == b) _ (flipped b e))

-- No annotation that is sought may begin before the byte before `at`.
abbrev pub NoneBefore : Sought → List ℕ → ℕ → Type 0
NoneBefore s text at = (k : ℕ) → suc k < at → may_begin s (drop k text) ≡ false

pub none : (s : Sought) (text : List ℕ) → ((k : ℕ) → may_begin s (drop k text) ≡ false) → may_have s text ≡ false
unfolding may_have
none s [] h = refl
none s (b ∷ bs) h = ap (λ t. t || may_have s bs) (h 0) ∙ none s bs (λ k. h (suc k))

no_text : {A : Type 0} (s : Sought) → may_begin s [] ≡ true → A
no_text sought.Customs e = cc
no_text sought.Names e = cc
no_text sought.Either e = cc

pub some : (s : Sought) (k : ℕ) (text : List ℕ) → may_begin s (drop k text) ≡ true → may_have s text ≡ true
unfolding may_have
some s zero [] e = no_text s e
some s (suc k) [] e = no_text s e
some s zero (b ∷ bs) e = ap (λ t. t || may_have s bs) e
some s (suc k) (b ∷ bs) e = ap (λ t. may_begin s (b ∷ bs) || t) (some s k bs e) ∙ or_true (may_begin s (b ∷ bs))
  where
    or_true : (a : Bool) → (a || true) ≡ true
    or_true true = refl
    or_true false = refl

not_true : (b : Bool) → (b ≡ true → ⊥) → b ≡ false
not_true true h = absurd (h refl)
not_true false h = refl

-- A byte outside of a text is read as 0.
get_or_past : (text : List ℕ) (k : ℕ) → length text ≤ k → get_or text k 0 ≡ 0
get_or_past [] zero h = refl
get_or_past [] (suc k) h = refl
get_or_past (b ∷ bs) zero h = absurd (omega (arith, h))
get_or_past (b ∷ bs) (suc k) h = get_or_past bs k (omega (arith, h))

-- No `@` is among the bytes of the text from `at` up to `end`.
sign_free : (s : Sought) (text : List ℕ) (at end : ℕ) → Nowhere (Passes (is_byte 64) (drop at text)) 0 end → NoneBefore s text at → NoneBefore s text (at + end)
sign_free s text at end h before = λ k below.
    elim (cases_lt (suc k) at) [
      | inl early ↦ before k early
      | inr late ↦
          let place : at + (suc k - at) ≡ k + 1 = omega (arith, late) in
          let same : slice_index (drop k text) 1 ≡ slice_index (drop at text) (suc k - at) = get_or-drop k text 1 0 ∙ ap (λ n. get_or text n 0) (sym place) ∙ sym (get_or-drop at text (suc k - at) 0) in
          unsigned s (drop k text) (ap (is_byte 64) same ∙ not_true _ (h (suc k - at) (omega arith) (omega (arith, below))))
    ]

-- The first `@` after `at` is at `sign`, and no annotation that is sought may begin at the byte before it.
pub past : (s : Sought) (text : List ℕ) (at ahead : ℕ) → IsFirstByte (is_byte 64) (drop at text) (Some ahead) → NoneBefore s text at → ((at + ahead ≡ 0) → ⊥) → may_begin s (drop (at + ahead - 1) text) ≡ false → NoneBefore s text (at + ahead + 1)
past s text at ahead first before positive here = λ k below.
    elim (cases_lt (suc k) (at + ahead)) [
      | inl early ↦ sign_free s text at ahead first.0.before before k early
      | inr late ↦ let same : at + ahead - 1 ≡ k = omega (arith, late, below, positive) in ap (λ n. may_begin s (drop n text)) (sym same) ∙ here
    ]

-- There is no `@` after `at`.
pub ended : (s : Sought) (text : List ℕ) (at : ℕ) → IsFirstByte (is_byte 64) (drop at text) None → NoneBefore s text at → may_have s text ≡ false
ended s text at last before = none s text (λ k. elim (cases_lt (suc k) at) [
  | inl early ↦ before k early
  | inr late ↦ elim (cases_lt (suc k) (length text)) [
    | inl inside ↦ sign_free s text at (length (drop at text)) last before k (let size = length-drop at text in omega (arith, size, late, inside))
    | inr outside ↦ unsigned s (drop k text) (ap (is_byte 64) (get_or-drop k text 1 0 ∙ get_or_past text (k + 1) (omega (arith, outside))))
  ]
])
