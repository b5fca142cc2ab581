-- Lengths of encodings: if the length of the section's contents is below 2^32, so is each length inside.
use Rattle.std.proofs.Common.{◌≡◌, ◌∙◌, ◌≤◌, ◌<◌, ◌+◌, ◌^◌, inl, inr, ℕ, zero, suc, List, [], ◌∷◌, ◌++◌, arith, refl, sym, ap, length, length-append}
use Rattle.std.specs.Prelude.{slice_index_or}
use Rattle.std.proofs.lemmas.Bool.{cases_lt}
use Rattle.std.specs.List.{flat_map}
use Rattle.std.proofs.lemmas.List.{length-map, append_assoc}
use Rattle.wat_lex.specs.binary.Encoding.{ListFits, list_encoding}
use Rattle.wat_lex.specs.binary.Leb128.{unsigned_leb128}
use Rattle.wat_types.specs.Binary.{FuncFits, content, func_bytes, header, module_bytes, val_bytes}
use Rattle.wat_types.specs.Signatures.{Signature, signature, signatures}
use Rattle.wat_types.specs.declared.types.FuncType.{FuncType}
use Rattle.wat_types.specs.declared.types.ValType.{ValType}

flat_signatures : (fs : List FuncType) → flat_map (λ f. func_bytes (signature f)) fs ≡ flat_map func_bytes (signatures fs)
flat_signatures [] = refl
flat_signatures (f ∷ fs) = ap (λ bs. func_bytes (signature f) ++ bs) (flat_signatures fs)

-- The list of types, as `encode_slice` encodes it.
pub content_is : (fs : List FuncType) → list_encoding (λ f. func_bytes (signature f)) fs ≡ content (signatures fs)
unfolding content
content_is fs = ap (λ bs. unsigned_leb128 (length fs) ++ bs) (flat_signatures fs) ∙ ap (λ n. unsigned_leb128 n ++ flat_map func_bytes (signatures fs)) (sym (length-map fs signature))

vals_length : (vs : List ValType) → length (flat_map val_bytes vs) ≡ length vs
vals_length [] = refl
vals_length (v ∷ vs) = ap suc (vals_length vs)

list_longer : (vs : List ValType) → length vs ≤ length (list_encoding val_bytes vs)
list_longer vs = omega (arith, length-append (unsigned_leb128 (length vs)) (flat_map val_bytes vs), vals_length vs)

func_longer : (f : Signature) → (length f.params + length f.results) + 1 ≤ length (func_bytes f)
unfolding func_bytes
func_longer f =
    omega
    (arith, list_longer f.params, list_longer f.results, length-append (0x60 ∷ []) (list_encoding val_bytes f.params), length-append ((0x60 ∷ []) ++ list_encoding val_bytes f.params) (list_encoding val_bytes f.results))

-- Each function type is at most as long as all together.
func_within : (fs : List FuncType) (k : ℕ) (d : FuncType) → k < length fs → length (func_bytes (signature (slice_index_or fs k d))) ≤ length (flat_map func_bytes (signatures fs))
func_within [] k d h = absurd (omega arith)
func_within (f ∷ fs) zero d h = omega (arith, length-append (func_bytes (signature f)) (flat_map func_bytes (signatures fs)))
func_within (f ∷ fs) (suc k) d h = omega (arith, length-append (func_bytes (signature f)) (flat_map func_bytes (signatures fs)), func_within fs k d (omega arith))

types_longer : (fs : List FuncType) → length fs ≤ length (flat_map func_bytes (signatures fs))
types_longer [] = omega arith
types_longer (f ∷ fs) = omega (arith, func_longer (signature f), length-append (func_bytes (signature f)) (flat_map func_bytes (signatures fs)), types_longer fs)

func_fits : (f : FuncType) (n : ℕ) → length (func_bytes (signature f)) ≤ n → n < 2 ^ 32 → FuncFits (signature f)
func_fits f n h l =
    let params : length f.params.items < 2 ^ 32 = omega (arith, func_longer (signature f), h, l) in
    let results : length f.results.items < 2 ^ 32 = omega (arith, func_longer (signature f), h, l) in
    ((params, λ k d h. tt), (results, λ k d h. tt))

-- If the contents are shorter than 2^32 bytes, all lengths inside are below 2^32.
pub all_lengths_fit : (fs : List FuncType) → length (content (signatures fs)) < 2 ^ 32 → ListFits (λ f. FuncFits (signature f)) fs
unfolding content
all_lengths_fit fs l =
    let both = length-append (unsigned_leb128 (length (signatures fs))) (flat_map func_bytes (signatures fs)) in
    let n = length (flat_map func_bytes (signatures fs)) in
    let few : n < 2 ^ 32 = omega (arith, both, l) in
    (omega (arith, few, types_longer fs), λ k d h. func_fits (slice_index_or fs k d) n (func_within fs k d h) few)

-- A list with a length of 2^32 or more has contents of 2^32 bytes or more.
pub too_many : (fs : List FuncType) → ¬ ListFits (λ f. FuncFits (signature f)) fs → 2 ^ 32 ≤ length (content (signatures fs))
too_many fs h = elim (cases_lt (length (content (signatures fs))) (2 ^ 32)) [
  | inl l ↦ absurd (h (all_lengths_fit fs l))
  | inr l ↦ l
]

pub none_fit : (fs : List FuncType) → length fs ≡ 0 → length (content (signatures fs)) < 2 ^ 32
unfolding content unsigned_leb128
none_fit [] e = omega arith
none_fit (f ∷ fs) e = absurd (omega (arith, e))

-- The bytes in the order in which they are encoded.
pub written_is : (fs : List FuncType) (bytes content_bytes : List ℕ) → (length fs ≡ 0 → ⊥) → content_bytes ≡ content (signatures fs)
    → bytes ≡ ((header ++ (0x01 ∷ [])) ++ unsigned_leb128 (length content_bytes)) ++ content_bytes → bytes ≡ module_bytes (signatures fs)
written_is [] bytes c some e b = absurd (some refl)
written_is (f ∷ fs) bytes c some e b =
    b ∙ ap (λ c. ((header ++ (0x01 ∷ [])) ++ unsigned_leb128 (length c)) ++ c) e
    ∙ append_assoc (header ++ (0x01 ∷ [])) (unsigned_leb128 (length (content (signatures (f ∷ fs))))) (content (signatures (f ∷ fs)))
    ∙ append_assoc header (0x01 ∷ []) (unsigned_leb128 (length (content (signatures (f ∷ fs)))) ++ content (signatures (f ∷ fs)))
