-- Lines and columns.
use Rattle.std.proofs.Common.{◌≡◌, ℕ, ◌+◌, ◌-◌, ◌<◌, List, length, take, refl, arith, ap, sym, ◌∙◌, Bool, true, false, not, get_or}
use Rattle.std.specs.Prelude.{if◌then◌else◌}
use Rattle.std.specs.List.{count_by, suffix_len}
use Rattle.std.specs.Str.Lines.{lines}
use Rattle.std.proofs.lemmas.Bool.{lt-leb}
use Rattle.std.proofs.lemmas.List.Sums.{suffix_len_is}
use Rattle.memchr.specs.Find.{Nowhere, NoneAfter, Passes, is_byte}
use Rattle.wat_lex.specs.errors.Positions.{is_line_feed, line_and_column}

unpassed : (b : Bool) → (b ≡ true → ⊥) → not b ≡ true
unpassed true h = absurd (h refl)
unpassed false h = refl

pub since_last : (text : List ℕ) (end : ℕ) → NoneAfter (Passes (is_byte 10) text) 0 (length text) end → Passes (is_byte 10) text end → length text - (end + 1) ≡ suffix_len (λ b. not (is_line_feed b)) text
since_last text end h p =
    let back : end + 1 - 1 ≡ end = omega arith in
    sym (suffix_len_is (λ b. not (is_line_feed b)) text (end + 1) 0 (omega (arith, h.high)) (λ k l u. unpassed (is_line_feed (get_or text k 0)) (h.after k l u))
    (λ _. ap not (ap (λ i. is_line_feed (get_or text i 0)) back ∙ p)))

pub since_start : (text : List ℕ) → Nowhere (Passes (is_byte 10) text) 0 (length text) → length text ≡ suffix_len (λ b. not (is_line_feed b)) text
since_start text h =
    let e = suffix_len_is (λ b. not (is_line_feed b)) text 0 0 (omega arith) (λ k l u. unpassed (is_line_feed (get_or text k 0)) (h k l u)) (λ l. absurd (omega (arith, l))) in
    omega (arith, e)

-- past the end
pub past_end : (text : List ℕ) (offset n : ℕ) → length text < offset → n ≡ length (lines text) → (n, 0) ≡ line_and_column text offset
past_end text offset n l e =
    ap (λ x. (x, 0)) e
    ∙ sym (ap (λ b. if b then (count_by is_line_feed (take offset text), suffix_len (λ b. not (is_line_feed b)) (take offset text)) else (length (lines text), 0)) (lt-leb offset (length text) l))
