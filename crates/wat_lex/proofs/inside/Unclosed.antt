-- Block comments that stay open: how many open comments a text can close, from its end backwards.
use Rattle.std.proofs.Common.{◌≡◌, ◌≤◌, ◌<◌, ◌+◌, ◌-◌, ℕ, zero, suc, List, [], ◌∷◌, length, drop, get_or, set, refl, sym, ap, ◌∙◌, subst, arith, inl, inr, length-drop, get_or-drop, add-zero, drop-drop, get_or-set_same, get_or-set_other}
use Rattle.std.proofs.lemmas.Bool.{cases_eq, cases_lt}
use Rattle.std.proofs.lemmas.List.{drop_more, drop_all, get_or_past}
use Rattle.std.proofs.lemmas.Str.{encodes-chars, IsUtf8-drop, IsCharBoundary-before_ascii}
use Rattle.std.specs.Str.{chars, IsUtf8}
use lib.Utf8.{encode, encodes}
use Rattle.wat_lex.specs.grammar.Comments.{Closes, BlockComment, opened}
use Rattle.wat_lex.specs.inside.Closings.{ClosesAtMost}
use Rattle.wat_lex.specs.inside.Nesting.{Closings}
use Rattle.wat_lex.specs.tokens.Faults.{Fault, unexpected, dangling, confusing, in_string}
use Rattle.wat_lex.specs.tokens.Setting.{Setting}
use Rattle.wat_lex.specs.tokens.Unclosed.{UnclosedAt, AreMarks}
use Rattle.wat_lex.specs.declared.lexer.settings.Settings.{Settings}
use Rattle.wat_lex.specs.declared.lexer.faults.LexError.{LexError}
use Rattle.wat_lex.specs.declared.lexer.faults.LexError.TheVariants.{DanglingBlockComment, Unexpected, ConfusingUnicode}
use Rattle.wat_lex.proofs.grammar.Comments.{at_nil, at_close, at_plain, at_lone_semicolon, at_lone_paren, at_nested, at_last}
use Rattle.wat_lex.proofs.grammar.CommentBytes.{from_bytes}
use Rattle.wat_lex.proofs.inside.BlockComments.{block_dangles}
use Rattle.wat_lex.proofs.tokens.OneRecovery.{covers_start, no_start}

-- ---- the steps, by lists

nothing_closes : ClosesAtMost 0 []
nothing_closes zero r l h = absurd (omega arith)
nothing_closes (suc k) r l h = at_nil h.0 h.1

open_step : (t : List ℕ) (n : ℕ) → ClosesAtMost n t → ClosesAtMost (n - 1) (40 ∷ 59 ∷ t)
open_step t n h zero r l g = absurd (omega arith)
open_step t n h (suc k) r l g = let m = at_nested t g.0 g.1 in h (suc (suc k)) r (omega arith) (m.0, m.1, (g.0, m.2, g.2))

close_step : (t : List ℕ) (n : ℕ) → ClosesAtMost n t → ClosesAtMost (n + 1) (59 ∷ 41 ∷ t)
close_step t n h zero r l g = absurd (omega arith)
close_step t n h (suc k) r l g = h k r (omega arith) (subst (λ x. Closings k x r) (sym (at_close t g.0 g.1)) g.2)

inner : (c d : ℕ) (t r : List ℕ) → (c ≡ 40 → d ≡ 59 → ⊥) → (c ≡ 59 → d ≡ 41 → ⊥) → Closes (c ∷ d ∷ t) r → Closes (d ∷ t) r
inner c d t r a b h =
    elim (cases_eq c 40) [
      | inl e ↦ at_lone_paren d t r (subst (λ x. Closes (x ∷ d ∷ t) r) e h) (a e)
      | inr ne ↦ elim (cases_eq c 59) [
        | inl e ↦ at_lone_semicolon d t r (subst (λ x. Closes (x ∷ d ∷ t) r) e h) (b e)
        | inr nf ↦ at_plain c (d ∷ t) r h nf ne
      ]
    ]

other_step : (c n : ℕ) (t : List ℕ) → (c ≡ 40 → get_or t 0 0 ≡ 59 → ⊥) → (c ≡ 59 → get_or t 0 0 ≡ 41 → ⊥) → ClosesAtMost n t → ClosesAtMost n (c ∷ t)
other_step c n t a b h zero r l g = absurd (omega arith)
other_step c n [] a b h (suc k) r l g = at_last c g.0 g.1
other_step c n (d ∷ t) a b h (suc k) r l g = h (suc k) r l (g.0, inner c d t g.0 a b g.1, g.2)

-- ---- the steps, by offsets in the whole text

pub none_at_end : (s : List ℕ) (i : ℕ) → length s ≤ i → ClosesAtMost 0 (drop i s)
none_at_end s i l = subst (ClosesAtMost 0) (sym (drop_all i s l)) nothing_closes

pub inside : (s : List ℕ) (i x : ℕ) → get_or s i 0 ≡ suc x → i < length s
inside s i x e = elim (cases_lt i (length s)) [ inl l ↦ l | inr l ↦ absurd (omega (arith, e, get_or_past s i 0 l)) ]

pair : (s : List ℕ) (i a b : ℕ) → get_or s i 0 ≡ suc a → get_or s (i + 1) 0 ≡ suc b → drop i s ≡ suc a ∷ suc b ∷ drop (i + 2) s
pair s i a b e f =
    let k : i + 1 + 1 ≡ i + 2 = omega arith in
    drop_more s i 0 (inside s i a e) ∙ ap (λ x. x ∷ drop (i + 1) s) e
    ∙ ap (λ x. suc a ∷ x) (drop_more s (i + 1) 0 (inside s (i + 1) b f) ∙ ap (λ x. x ∷ drop (i + 1 + 1) s) f ∙ ap (λ x. suc b ∷ drop x s) k)

pub opening_step : (s : List ℕ) (i n : ℕ) → get_or s i 0 ≡ 40 → get_or s (i + 1) 0 ≡ 59 → ClosesAtMost n (drop (i + 2) s) → ClosesAtMost (n - 1) (drop i s)
opening_step s i n e f h = subst (ClosesAtMost (n - 1)) (sym (pair s i 39 58 e f)) (open_step (drop (i + 2) s) n h)

pub closing_step : (s : List ℕ) (i n : ℕ) → get_or s i 0 ≡ 59 → get_or s (i + 1) 0 ≡ 41 → ClosesAtMost n (drop (i + 2) s) → ClosesAtMost (n + 1) (drop i s)
closing_step s i n e f h = subst (ClosesAtMost (n + 1)) (sym (pair s i 58 40 e f)) (close_step (drop (i + 2) s) n h)

first_of : (s : List ℕ) (i : ℕ) → get_or (drop i s) 0 0 ≡ get_or s i 0
first_of s i = get_or-drop i s 0 0 ∙ ap (λ x. get_or s x 0) (add-zero i)

pub next_step : (s : List ℕ) (i n : ℕ) → i < length s → ((get_or s i 0 ≡ 40) × (get_or s (i + 1) 0 ≡ 59) → ⊥) → ((get_or s i 0 ≡ 59) × (get_or s (i + 1) 0 ≡ 41) → ⊥) → ClosesAtMost n (drop (i + 1) s) → ClosesAtMost n (drop i s)
next_step s i n l a b h =
    let f = first_of s (i + 1) in
    subst (ClosesAtMost n) (sym (drop_more s i 0 l))
    (other_step (get_or s i 0) n (drop (i + 1) s) (λ x y. a (x, sym f ∙ y)) (λ x y. b (x, sym f ∙ y)) h)

-- ---- unclosed comments

record Open (s : List ℕ) : Type 0 where
  rest : List ℕ
  is : s ≡ 40 ∷ 59 ∷ rest
  stays : (r : List ℕ) → BlockComment (40 ∷ 59 ∷ rest) r → ⊥

open_of : (flags : Settings) (s : List ℕ) (e : LexError) (at : List ℕ) → Fault flags s e at → e ≡ DanglingBlockComment → Open s
unfolding covers_start
open_of flags s e at (unexpected {c = d} n) k = let a : Unexpected d ≡ DanglingBlockComment = k in cc
open_of flags s e at (dangling {t = t} n) k = record { rest = t; is = refl; stays = n }
open_of flags s e at (confusing {c = d} prefix off kind_is there cut clear is lt) k = let a : ConfusingUnicode d ≡ DanglingBlockComment = k in cc
open_of flags s e at (in_string {t = t} r g) k = absurd (no_start flags t e DanglingBlockComment at g k refl)

open_bytes : (t : List ℕ) → encodes (40 ∷ 59 ∷ t) ≡ 40 ∷ 59 ∷ encodes t
unfolding encode
open_bytes t = refl

stays_open : (t : List ℕ) → ((r : List ℕ) → BlockComment (40 ∷ 59 ∷ t) r → ⊥) → ClosesAtMost 0 (40 ∷ 59 ∷ encodes t)
stays_open t f zero r l g = absurd (omega arith)
stays_open t f (suc k) r l g =
    let m = at_nested (encodes t) g.0 g.1 in
    let c = from_bytes (length t) t m.0 (omega arith) m.1 in
    f c.chars (opened c.closes)

-- The first byte of an unclosed comment, and that the text from it on does not close any comment.
pub record Stays (text : List ℕ) (p : ℕ) : Type 0 where
  pub first : get_or text p 0 ≡ 40
  pub closes : ClosesAtMost 0 (drop p text)

pub stays : (s : Setting) (p : ℕ) → IsUtf8 s.text → UnclosedAt s p → Stays s.text p
stays s p u h =
    let t = drop p s.text in
    let v = IsUtf8-drop s.text p u h.boundary in
    let o = open_of s.flags (chars t) DanglingBlockComment h.fault.at h.fault.fault refl in
    let bytes : t ≡ 40 ∷ 59 ∷ encodes o.rest = sym (encodes-chars t v) ∙ ap encodes o.is ∙ open_bytes o.rest in
    record {
      first = sym (first_of s.text p) ∙ ap (λ x. get_or x 0 0) bytes;
      closes = subst (ClosesAtMost 0) (sym bytes) (stays_open o.rest o.stays);
    }

pub unclosed_found : (s : Setting) (p : ℕ) → IsUtf8 s.text → get_or s.text p 0 ≡ 40 → get_or s.text (p + 1) 0 ≡ 59 → ClosesAtMost 0 (drop (p + 2) s.text) → UnclosedAt s p
unclosed_found s p u e f h =
    let l = inside s.text p 39 e in
    let b = IsCharBoundary-before_ascii s.text p l (omega (arith, e)) in
    let v = IsUtf8-drop s.text p u b in
    let second : get_or (drop p s.text) 1 0 ≡ 59 = get_or-drop p s.text 1 0 ∙ f in
    let two : drop 2 (drop p s.text) ≡ drop (p + 2) s.text = drop-drop 2 p s.text in
    let r = block_dangles s.flags (drop p s.text) v (first_of s.text p ∙ e) second (λ r g. h 1 r (omega arith) (r, subst (λ x. Closes x r) two g, refl)) in
    record {
      boundary = b;
      fault = record { at = r.at; fault = r.fault; place = let k = r.place in omega (arith, k, length-drop p s.text) };
    }

-- ---- marks

pub marks_set : (s : Setting) (marks : List ℕ) (i v : ℕ) → i < length marks → AreMarks s marks → ((p : ℕ) → v ≡ p + 1 → UnclosedAt s p) → AreMarks s (set marks i v)
marks_set s marks i v l h f k p e =
    elim (cases_eq k i) [
      | inl same ↦ f p (sym (get_or-set_same marks i v 0 l) ∙ ap (λ x. get_or (set marks i v) x 0) (sym same) ∙ e)
      | inr other ↦ h k p (sym (get_or-set_other marks i k v 0 other) ∙ e)
    ]
