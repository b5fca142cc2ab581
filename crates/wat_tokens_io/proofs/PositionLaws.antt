-- Lemmas about consecutive lines of a text, and the offsets in them.
use Rattle.std.proofs.Common.{◌≡◌, ◌+◌, ◌-◌, ◌<◌, ◌≤◌, ℕ, zero, suc, Bool, true, false, not, List, length, length-drop, get_or, take, drop, ap, ap₂, sym, ◌∙◌, refl, arith}
use Rattle.std.specs.Prelude.{if◌then◌else◌}
use Rattle.std.specs.List.{count_by, suffix_len}
use Rattle.std.specs.Str.Lines.{lines}
use Rattle.std.proofs.lemmas.Bool.{le-leb}
use Rattle.std.proofs.lemmas.List.{length-take-le}
use Rattle.std.proofs.lemmas.List.Sums.{count_by-le-length, count_by_more_no, count_by_more_yes, suffix_len-le-length, suffix_len-take_no, suffix_len-take_yes}
use Rattle.std.proofs.Math.Seq.{get_or-drop}
use Rattle.memchr.specs.Find.{NoneBefore, Nowhere, Passes, is_byte}
use Rattle.wat_lex.specs.errors.Positions.{is_line_feed, line_and_column}
use Rattle.wat_lex.specs.grammar.Classes.{line_feed}
use Rattle.wat_tokens_io.specs.TextLines.{EndsLine, IsLine}

abbrev is_other : ℕ → Bool
is_other b = not (is_line_feed b)

-- The line and column of the end of a text.
abbrev pub ends_at : List ℕ → ℕ × ℕ
ends_at text = (count_by is_line_feed text, suffix_len is_other text)

within : (text : List ℕ) (n : ℕ) → n ≤ length text → line_and_column text n ≡ ends_at (take n text)
within text n h = ap (λ b. if b then ends_at (take n text) else (length (lines text), 0)) (le-leb n (length text) h)

-- A line number and a column are at most the offset.
pub few : (text : List ℕ) (n : ℕ) (place : ℕ × ℕ) → n ≤ length text → line_and_column text n ≡ place → (place.0 ≤ n) × (place.1 ≤ n)
few text n place h e =
    let at : ends_at (take n text) ≡ place = sym (within text n h) ∙ e in
    let front = length-take-le n text h in
    (omega (arith, front, ap (λ p. p.0) at, count_by-le-length is_line_feed (take n text)), omega (arith, front, ap (λ p. p.1) at, suffix_len-le-length is_other (take n text)))

unpassed : (b : Bool) → (b ≡ true → ⊥) → b ≡ false
unpassed true h = absurd (h refl)
unpassed false h = refl

-- The offsets in a line have the number of that line, by induction.
stays : (text : List ℕ) (number start end k : ℕ) → IsLine text number start end → start + k ≤ end → ends_at (take (start + k) text) ≡ (number, k)
stays text number start end zero h l =
    let at : start + 0 ≡ start = omega arith in
    let inside = h.ends.within in
    let after = h.ends.after in
    ap (λ n. ends_at (take n text)) at ∙ sym (within text start (omega (arith, inside, after))) ∙ h.begins
stays text number start end (suc k) h l =
    let inside = h.ends.within in
    let before = stays text number start end k h (omega (arith, l)) in
    let next : start + suc k ≡ start + k + 1 = omega arith in
    let back : start + k + 1 - 1 ≡ start + k = omega arith in
    let other = unpassed (is_line_feed (get_or text (start + k) 0)) (h.ends.none (start + k) (omega arith) (omega (arith, l))) in
    let line = count_by_more_no is_line_feed text (start + k) 0 (omega (arith, l, inside)) other in
    let last = ap (λ n. is_other (get_or text n 0)) back ∙ ap not other in
    let column = suffix_len-take_yes is_other text (start + k + 1) 0 (omega arith) (omega (arith, l, inside)) last ∙ ap (λ n. 1 + suffix_len is_other (take n text)) back in
    ap (λ n. ends_at (take n text)) next ∙ ap₂ (λ a b. (a, b)) (line ∙ ap (λ p. p.0) before) (column ∙ ap (λ p. 1 + p.1) before ∙ omega arith)

-- The line and column of an offset in a line.
pub along : (text : List ℕ) (number start end n : ℕ) → IsLine text number start end → start ≤ n → n ≤ end → line_and_column text n ≡ (number, n - start)
along text number start end n h lo hi =
    let inside = h.ends.within in
    let at : start + (n - start) ≡ n = omega (arith, lo) in
    within text n (omega (arith, hi, inside)) ∙ ap (λ m. ends_at (take m text)) (sym at) ∙ stays text number start end (n - start) h (omega (arith, at, hi))

-- The line after a line feed.
pub next_line : (text : List ℕ) (number start end after : ℕ) → IsLine text number start end → end < length text → EndsLine text (end + 1) after → IsLine text (number + 1) (end + 1) after
next_line text number start end after h l e =
    let back : end + 1 - 1 ≡ end = omega arith in
    let feed = h.ends.feed l in
    let before = sym (within text end (omega (arith, l))) ∙ along text number start end end h h.ends.after (omega arith) in
    let line = count_by_more_yes is_line_feed text end 0 l feed ∙ ap (λ p. p.0 + 1) before in
    let column = suffix_len-take_no is_other text (end + 1) 0 (omega arith) (omega (arith, l)) (ap (λ n. is_other (get_or text n 0)) back ∙ ap not feed) in
    record {
      begins = within text (end + 1) (omega (arith, l)) ∙ ap₂ (λ a b. (a, b)) line column;
      ends = e;
    }

pub first_line : (text : List ℕ) (end : ℕ) → EndsLine text 0 end → IsLine text 0 0 end
first_line text end e = record { begins = within text 0 (omega arith); ends = e }

-- A line feed at `k` is at `k - start` in the bytes from `start` on.
shifted : (text : List ℕ) (start k : ℕ) → start ≤ k → Passes (is_byte line_feed) text k → Passes (is_byte line_feed) (drop start text) (k - start)
shifted text start k lo p = let at : start + (k - start) ≡ k = omega (arith, lo) in ap (is_byte line_feed) (get_or-drop start text (k - start) 0 ∙ ap (λ n. get_or text n 0) at) ∙ p

-- The end of a line, from the result of a search in the bytes from `start` on.
pub found_feed : (text : List ℕ) (start len : ℕ) → start ≤ length text → NoneBefore (Passes (is_byte line_feed) (drop start text)) 0 (length (drop start text)) len → Passes (is_byte line_feed) (drop start text) len → EndsLine text start (start + len)
found_feed text start len h found feed =
    let high = found.high in
    record {
      after = omega arith;
      within = omega (arith, h, high, length-drop start text);
      none = λ k lo hi. (λ p. found.before (k - start) (omega arith) (omega (arith, lo, hi)) (shifted text start k lo p));
      feed = λ _. ap (is_byte line_feed) (sym (get_or-drop start text len 0)) ∙ feed;
    }

pub found_none : (text : List ℕ) (start : ℕ) → start ≤ length text → Nowhere (Passes (is_byte line_feed) (drop start text)) 0 (length (drop start text)) → EndsLine text start (length text)
found_none text start h none = record {
  after = h;
  within = omega arith;
  none = λ k lo hi. (λ p. none (k - start) (omega arith) (omega (arith, lo, hi, length-drop start text)) (shifted text start k lo p));
  feed = λ l. absurd (omega (arith, l));
}
