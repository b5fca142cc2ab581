-- Lemmas about the bytes that were read of a source, if these are known.
use Rattle.std.proofs.Common.{◌≡◌, ◌⊎◌, ◌↔◌, ◌<◌, ◌+◌, ◌-◌, ◌≤◌, ℕ, Bool, true, List, ◌++◌, length, take, length-append, refl, subst, sym, ◌∙◌, ap, arith, inl, inr}
use Rattle.std.proofs.lemmas.Bool.{cases_order}
use Rattle.std.proofs.lemmas.List.{length-take-le, take_all}
use Rattle.std.specs.Prelude.{Some, None, Option, IfSome, Result, Ok, Err, IfErr, IsErrOf, alloc_error}
use Rattle.std.specs.Io.KnownBytes.{Consumes}
use Rattle.std.specs.Str.{IsUtf8, IsValidUpTo}
use Rattle.wat_tokens_io.specs.Streams.{ReadsInto}
use Rattle.wat_tokens_io.specs.declared.failed.Failed.{Failed}
use Rattle.wat_tokens_io.specs.lemmas.KnownBytes.{consumes_all, consumes_more}
use Rattle.wat_tokens_output.specs.Inputs.{ReadsWhole, ReadsPast, ReadsShort}
use Rattle.wat_tokens_output.specs.Refusals.{IsFailedWrite}
use Rattle.wat_tokens_output.specs.declared.input.RunFailure.{RunFailure}
use Rattle.wat_tokens_output.specs.declared.input.RunFailure.TheVariants.{Read, TooLong, NotUtf8, Write, Memory}

pub whole_is_short : {a b : Option (List ℕ)} {bytes : List ℕ} → ReadsWhole a b bytes → ReadsShort a b
whole_is_short {bytes = bytes} r = record { bytes = bytes; given = r.given; short = r.short }

-- An input below the limit is not beyond it.
short_not_past : (xs : List ℕ) (b : Option (List ℕ)) → ReadsShort (Some xs) b → ReadsPast (Some xs) b → ⊥
short_not_past xs None s p = absurd s.given
short_not_past xs (Some ys) s p =
    let same = sym (length-append s.bytes ys) ∙ ap length (sym s.given) ∙ ap length p.given ∙ length-append p.bytes ys in
    omega (arith, same, s.short, p.long)

-- An error that is returned if and only if more than the longest text was read.
pub past_known : (a b : Option (List ℕ)) {A : Type 0} → (A → ReadsPast a b) → A ⊎ ReadsShort a b → IfSome a (λ _. A ↔ ReadsPast a b)
past_known None b f g = tt
past_known (Some xs) b {A = A} f g = (f, λ p. elim g [ inl x ↦ x | inr s ↦ absurd (short_not_past xs b s p) ])

-- An error that is returned if and only if all was read and the bytes are not UTF-8.
pub no_text_known : (a b : Option (List ℕ)) {bytes : List ℕ} {ended : Bool} {A : Type 0} (n : ℕ) → ReadsWhole a b bytes → ended ≡ true → (A ↔ IsValidUpTo bytes n) → IfSome a (λ xs. A ↔ ((ended ≡ true) × IsValidUpTo xs n))
no_text_known None b n r e h = tt
no_text_known (Some xs) b {bytes = bytes} n r e h =
    let same = consumes_all xs b bytes r.given r.ended in
    (λ x. (e, subst (λ v. IsValidUpTo v n) same (h.0 x)), λ k. h.1 (subst (λ v. IsValidUpTo v n) (sym same) k.1))

-- A text that is UTF-8 has no offset at which it stops being so.
valid_is_no_text : (bs : List ℕ) (n : ℕ) → IsValidUpTo bs n → IsUtf8 bs → ⊥
valid_is_no_text bs n v u = v.longest (length bs) v.short (subst IsUtf8 (sym (take_all (length bs) bs (omega arith))) u)

-- The offset at which bytes stop being UTF-8 is unique.
pub one_offset : (bs : List ℕ) (m n : ℕ) → IsValidUpTo bs m → IsValidUpTo bs n → m ≡ n
one_offset bs m n h k = elim (cases_order m n) [
  | inl same ↦ same
  | inr other ↦ elim other [ inl less ↦ absurd (h.longest n less k.front) | inr more ↦ absurd (k.longest m more h.front) ]
]

not_write : {T : Type 0} (n : ℕ) (failed : Failed) (r : Result T RunFailure) → r ≡ Err (Write failed) → r ≡ Err (NotUtf8 n) → ⊥
not_write n failed r h k = let d = sym h ∙ k in cc

not_memory : {T : Type 0} (n : ℕ) (r : Result T RunFailure) → r ≡ Err (Memory alloc_error) → r ≡ Err (NotUtf8 n) → ⊥
not_memory n r h k = let d = sym h ∙ k in cc

-- If the input is UTF-8, and only a write or an allocation can fail, no error in UTF-8 is returned, and there is none.
pub text_known : {T : Type 0} (r : Result T RunFailure) (bs : List ℕ) (n : ℕ) → IsUtf8 bs → IfErr r (λ e. IsFailedWrite e ⊎ (e ≡ Memory alloc_error)) → IsErrOf r (NotUtf8 n) ↔ IsValidUpTo bs n
text_known (Ok t) bs n u h = (λ e. cc, λ v. absurd (valid_is_no_text bs n v u))
text_known (Err e) bs n u h =
    (λ is. absurd (elim h [ inl w ↦ not_write n w.0 (Err e) (ap (λ x. Err x) w.1) is | inr m ↦ not_memory n (Err e) (ap (λ x. Err x) m) is ]), λ v. absurd (valid_is_no_text bs n v u))

pub or_write : {T : Type 0} (r : Result T RunFailure) → IfErr r (λ e. e ≡ Memory alloc_error) → IfErr r (λ e. IsFailedWrite e ⊎ (e ≡ Memory alloc_error))
or_write (Ok t) h = tt
or_write (Err e) h = inr h

abbrev offset_of : RunFailure → ℕ
offset_of (Read failed) = 0
offset_of TooLong = 0
offset_of (NotUtf8 offset) = offset
offset_of (Write failed) = 0
offset_of (Memory refused) = 0

abbrev error_of : {T : Type 0} → Result T RunFailure → RunFailure
error_of (Ok t) = TooLong
error_of (Err e) = e

-- The offset in the error is that at which the bytes stop being UTF-8.
pub stops_there : {T : Type 0} (bs : List ℕ) (m n : ℕ) → IsValidUpTo bs m → IsErrOf {T = T} {E = RunFailure} (Err (NotUtf8 m)) (NotUtf8 n) ↔ IsValidUpTo bs n
stops_there bs m n v = (λ e. subst (λ k. IsValidUpTo bs k) (ap (λ r. offset_of (error_of r)) e) v, λ w. ap (λ k. Err (NotUtf8 k)) (one_offset bs m n v w))

-- The condition of an error holds for results of another type too.
pub as_other : {T U B : Type 0} (e x : RunFailure) → (IsErrOf {T = T} {E = RunFailure} (Err e) x ↔ B) → (IsErrOf {T = U} {E = RunFailure} (Err e) x ↔ B)
as_other e x h = (λ k. h.0 (ap (λ y. Err y) (ap error_of k)), λ b. ap (λ y. Err y) (ap error_of (h.1 b)))

-- A read goes beyond the longest text if it returns more bytes than remain to the limit. Its buffer has capacity for
-- one more.
pub read_past : (a b c : Option (List ℕ)) (bytes piece : List ℕ) (n : ℕ) → Consumes a b bytes → ReadsInto b c piece n → length bytes ≤ 4294967295 → length piece ≤ 4294967295 - length bytes + 1 → 4294967295 - length bytes < n → ReadsPast a c
read_past a b c bytes piece n so_far r fits room past =
    let given = length-take-le n piece r.few in
    record {
      bytes = bytes ++ take n piece;
      given = consumes_more a b c bytes (take n piece) (bytes ++ take n piece) so_far r.given refl;
      long = length-append bytes (take n piece) ∙ omega (arith, given, r.few, fits, room, past);
    }

-- A read stays within the longest text if it returns no more bytes than remain to the limit.
pub read_short : (a b c : Option (List ℕ)) (bytes piece : List ℕ) (n : ℕ) → Consumes a b bytes → ReadsInto b c piece n → length bytes ≤ 4294967295 → n ≤ 4294967295 - length bytes → ReadsShort a c
read_short a b c bytes piece n so_far r fits few =
    let given = length-take-le n piece r.few in
    let all = length-append bytes (take n piece) in
    record {
      bytes = bytes ++ take n piece;
      given = consumes_more a b c bytes (take n piece) (bytes ++ take n piece) so_far r.given refl;
      short = omega (arith, all, given, fits, few);
    }
