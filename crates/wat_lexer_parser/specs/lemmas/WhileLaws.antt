-- Repetitions, one value at a time: the invariant of a loop, its preservation, and the result at the loop's end.
use Rattle.std.proofs.Common.{◌≡◌, ◌∙◌, ◌≤◌, ◌<◌, ◌+◌, ℕ, zero, suc, List, [], ◌∷◌, ◌++◌, Bool, true, false, arith, refl, sym, ap, length, append_assoc, None, Some, Ok, Err}
use Rattle.std.specs.Prelude.{◌||◌, IsTrue, Option, Result, is_err}
use Rattle.std.proofs.lemmas.List.{append-nil}
use Rattle.wat_lex.specs.errors.Errors.{Report}
use Rattle.wat_lexer_parser.specs.parser.Sights.{Sight, PeekIs}
use Rattle.wat_lexer_parser.specs.parser.State.{State, at_place}
use Rattle.wat_lexer_parser.specs.readings.Readings.{Outcome, Reading, known_as, mapped, mapped_by, also_first, also_taking, and_then, after, give, on, refused, and_then_by, where_seen_by, up_to, while_seen}
use Rattle.wat_lexer_parser.specs.readings.Reads.{Advances, IsKept, Reads}

known_as_nil : {V : Type 0} (r : Result (List V) Report) → r ≡ known_as (λ ws. [] ++ ws) r
known_as_nil (Ok v) = refl
known_as_nil (Err f) = refl

known_after : {V : Type 0} (vs : List V) (v : V) (r : Result (List V) Report) → known_as (λ ws. vs ++ ws) (known_as (λ ws. v ∷ ws) r) ≡ known_as (λ ws. (vs ++ (v ∷ [])) ++ ws) r
known_after vs v (Ok ws) = ap Ok (sym (append_assoc vs (v ∷ []) ws))
known_after vs v (Err f) = refl

or_true : (b : Bool) → (b || true) ≡ true
or_true true = refl
or_true false = refl

-- The loop invariant: the values `vs` were read, and the remaining ones are to be read from the position `q`.
pub record IsSoFar {V : Type 0} (sight : Sight) (m : Reading V) (a : State) (vs : List V) (q : ℕ) : Type 0 where
  pub left : ℕ
  pub enough : length a.source.tokens < left + q
  pub answer : (while_seen sight m a).answer ≡ known_as (λ ws. vs ++ ws) (up_to left sight m (at_place a q)).answer
  pub passed : a.place + (while_seen sight m a).passed ≡ q + (up_to left sight m (at_place a q)).passed
  pub asks : (up_to left sight m (at_place a q)).takes_memory ≡ true → (while_seen sight m a).takes_memory ≡ true

-- The invariant holds before the loop, with no values.
pub none_so_far : {V : Type 0} (sight : Sight) (m : Reading V) (a : State) → IsSoFar sight m a [] a.place
unfolding while_seen
none_so_far sight m a = record {
  left = suc (length a.source.tokens);
  enough = omega arith;
  answer = known_as_nil (up_to (suc (length a.source.tokens)) sight m a).answer;
  passed = refl;
  asks = λ h. h;
}

-- The remaining repetition if the peek yields `true`, `false`, or an error.
goes_on : {V : Type 0} (n : ℕ) (sight : Sight) (m : Reading V) (b : State) → (sight b).known ≡ Ok true → up_to (suc n) sight m b ≡ also_taking (sight b).takes (also_first m (up_to n sight m) b)
goes_on n sight m b e = ap (λ r. where_seen_by r (sight b).takes (also_first m (up_to n sight m) b) (give [] b)) e

stops : {V : Type 0} (n : ℕ) (sight : Sight) (m : Reading V) (b : State) → (sight b).known ≡ Ok false → up_to (suc n) sight m b ≡ also_taking (sight b).takes (give [] b)
stops n sight m b e = ap (λ r. where_seen_by r (sight b).takes (also_first m (up_to n sight m) b) (give [] b)) e

fails : {V : Type 0} (n : ℕ) (sight : Sight) (m : Reading V) (b : State) (f : Report) → (sight b).known ≡ Err f → up_to (suc n) sight m b ≡ refused f 0
fails n sight m b f e = ap (λ r. where_seen_by r (sight b).takes (also_first m (up_to n sight m) b) (give [] b)) e

first_of : {V : Type 0} (m : Reading V) (rest : Reading (List V)) (b : State) (v : V) → (m b).answer ≡ Ok v
    → also_first m rest b ≡ also_taking true (after (m b).passed (m b).takes_memory (mapped_by (λ vs. v ∷ vs) (rest (on b (m b).passed))))
first_of m rest b v e = ap (λ r. also_taking true (and_then_by r (m b).passed (m b).takes_memory (λ v. mapped (λ vs. v ∷ vs) rest) b)) e

refused_first : {V : Type 0} (m : Reading V) (rest : Reading (List V)) (b : State) (f : Report) → (m b).answer ≡ Err f → also_first m rest b ≡ also_taking true (refused f (m b).passed)
refused_first m rest b f e = ap (λ r. also_taking true (and_then_by r (m b).passed (m b).takes_memory (λ v. mapped (λ vs. v ∷ vs) rest) b)) e

-- The bound is not reached at a position within the tokens.
one_left : (left n q : ℕ) → n < left + q → q ≤ n → (k : ℕ) × (left ≡ suc k)
one_left zero n q l h = absurd (omega (arith, l, h))
one_left (suc k) n q l h = (k, refl)

module _ {V : Type 0} (sight : Sight) (m : Reading V) (a : State) (vs : List V) (q : ℕ) where
  -- The repetition may allocate if there is another value.
  pub asks_for_more : IsSoFar sight m a vs q → q ≤ length a.source.tokens → (sight (at_place a q)).known ≡ Ok true → (while_seen sight m a).takes_memory ≡ true
  asks_for_more h within e =
      let k = one_left h.left (length a.source.tokens) q h.enough within in
      h.asks (ap (λ n. (up_to n sight m (at_place a q)).takes_memory) k.1 ∙ ap (λ o. o.takes_memory) (goes_on k.0 sight m (at_place a q) e) ∙ or_true (sight (at_place a q)).takes)

  -- The invariant is preserved by one more value.
  pub one_more : IsSoFar sight m a vs q → q ≤ length a.source.tokens → (sight (at_place a q)).known ≡ Ok true → (v : V) (r : ℕ) → (m (at_place a q)).answer ≡ Ok v → q + (m (at_place a q)).passed ≡ r → q < r → IsSoFar sight m a (vs ++ (v ∷ [])) r
  one_more h within e v r read far on =
      let b = at_place a q in
      let k = one_left h.left (length a.source.tokens) q h.enough within in
      let rest = up_to k.0 sight m in
      let step = ap (λ n. up_to n sight m b) k.1 ∙ goes_on k.0 sight m b e ∙ ap (also_taking (sight b).takes) (first_of m rest b v read) in
      let moved = ap (λ p. rest (at_place a p)) far in
      let one : (up_to h.left sight m b).passed ≡ (m b).passed + (rest (at_place a (q + (m b).passed))).passed = ap (λ o. o.passed) step in
      let same : (rest (at_place a (q + (m b).passed))).passed ≡ (rest (at_place a r)).passed = ap (λ o. o.passed) moved in
      let left : h.left ≡ suc k.0 = k.1 in
      let enough : length a.source.tokens < h.left + q = h.enough in
      let passed : a.place + (while_seen sight m a).passed ≡ q + (up_to h.left sight m b).passed = h.passed in
      record {
        left = k.0;
        enough = omega (arith, enough, left, on);
        answer = h.answer ∙ ap (λ o. known_as (λ ws. vs ++ ws) o.answer) step ∙ known_after vs v (rest (at_place a (q + (m b).passed))).answer ∙ ap (λ o. known_as (λ ws. (vs ++ (v ∷ [])) ++ ws) o.answer) moved;
        passed = omega (arith, passed, one, same, far);
        asks = λ _. asks_for_more h within e;
      }

  -- If the peek yields `false`, the values read so far are the result.
  pub all_read : IsSoFar sight m a vs q → q ≤ length a.source.tokens → (sight (at_place a q)).known ≡ Ok false → ((while_seen sight m a).answer ≡ Ok vs) × (a.place + (while_seen sight m a).passed ≡ q)
  all_read h within e =
      let k = one_left h.left (length a.source.tokens) q h.enough within in
      let o = ap (λ n. up_to n sight m (at_place a q)) k.1 ∙ stops k.0 sight m (at_place a q) e in
      let none : (up_to h.left sight m (at_place a q)).passed ≡ 0 = ap (λ o. o.passed) o in
      let passed : a.place + (while_seen sight m a).passed ≡ q + (up_to h.left sight m (at_place a q)).passed = h.passed in
      (h.answer ∙ ap (λ o. known_as (λ ws. vs ++ ws) o.answer) o ∙ ap Ok (append-nil vs), omega (arith, passed, none))

  -- If one value is an error, the repetition is the same error.
  pub one_refused : IsSoFar sight m a vs q → q ≤ length a.source.tokens → (sight (at_place a q)).known ≡ Ok true → (f : Report) → (m (at_place a q)).answer ≡ Err f
      → ((while_seen sight m a).answer ≡ Err f) × (a.place + (while_seen sight m a).passed ≡ q + (m (at_place a q)).passed)
  one_refused h within e f read =
      let b = at_place a q in
      let k = one_left h.left (length a.source.tokens) q h.enough within in
      let step = ap (λ n. up_to n sight m b) k.1 ∙ goes_on k.0 sight m b e ∙ ap (also_taking (sight b).takes) (refused_first m (up_to k.0 sight m) b f read) in
      (h.answer ∙ ap (λ o. known_as (λ ws. vs ++ ws) o.answer) step, h.passed ∙ ap (λ o. q + o.passed) step)

  -- If the peek is an error, the repetition is the same error.
  pub look_refused : IsSoFar sight m a vs q → q ≤ length a.source.tokens → (f : Report) → (sight (at_place a q)).known ≡ Err f → ((while_seen sight m a).answer ≡ Err f) × (a.place + (while_seen sight m a).passed ≡ q)
  look_refused h within f e =
      let k = one_left h.left (length a.source.tokens) q h.enough within in
      let o = ap (λ n. up_to n sight m (at_place a q)) k.1 ∙ fails k.0 sight m (at_place a q) f e in
      let none : (up_to h.left sight m (at_place a q)).passed ≡ 0 = ap (λ o. o.passed) o in
      let passed : a.place + (while_seen sight m a).passed ≡ q + (up_to h.left sight m (at_place a q)).passed = h.passed in
      (h.answer ∙ ap (λ o. known_as (λ ws. vs ++ ws) o.answer) o, omega (arith, passed, none))

  -- The repetition may allocate if the peek is an error, or may allocate itself.
  pub look_refusal_asks : IsSoFar sight m a vs q → q ≤ length a.source.tokens → (f : Report) → (sight (at_place a q)).known ≡ Err f → (while_seen sight m a).takes_memory ≡ true
  look_refusal_asks h within f e =
      let k = one_left h.left (length a.source.tokens) q h.enough within in
      h.asks (ap (λ n. (up_to n sight m (at_place a q)).takes_memory) k.1 ∙ ap (λ o. o.takes_memory) (fails k.0 sight m (at_place a q) f e))

  pub look_asks : IsSoFar sight m a vs q → q ≤ length a.source.tokens → (sight (at_place a q)).takes ≡ true → (b : Bool) → (sight (at_place a q)).known ≡ Ok b → (while_seen sight m a).takes_memory ≡ true
  look_asks h within t true e = asks_for_more h within e
  look_asks h within t false e =
      let k = one_left h.left (length a.source.tokens) q h.enough within in
      h.asks (ap (λ n. (up_to n sight m (at_place a q)).takes_memory) k.1 ∙ ap (λ o. o.takes_memory) (stops k.0 sight m (at_place a q) e) ∙ ap (λ b. b || false) t)

-- Lemmas about calls: `b` is the state of the parser in the loop, which differs from the state before the loop in its
-- position only.

-- The invariant is preserved by a call that reads one more value.
pub one_more_read : {V T : Type 0} (f : T → V) (sight : Sight) (m : Reading V) (a b : State) (vs : List V) (x : T) (r : ℕ) → Advances m → IsSoFar sight m a vs b.place → IsKept a b → b.place ≤ length a.source.tokens → (sight b).known ≡ Ok true → Reads f m b (Ok x) r
    → IsSoFar sight m a (vs ++ (f x ∷ [])) r
one_more_read f sight m a b vs x r advances h kept within e reads =
    let seen = ap (λ b. (sight b).known) (sym kept) ∙ e in
    let read = ap (λ b. (m b).answer) (sym kept) ∙ reads.0 in
    let far : b.place + (m (at_place a b.place)).passed ≡ r = ap (λ c. b.place + (m c).passed) (sym kept) ∙ reads.1 in
    let some : 0 < (m b).passed = advances b (f x) reads.0 in
    let on : b.place < r = omega (arith, reads.1, some) in
    one_more sight m a vs b.place h within seen (f x) r read far on

-- If a call returns an error, so does the loop.
pub one_refused_read : {V T U : Type 0} (f : T → V) (g : U → List V) (sight : Sight) (m : Reading V) (a b : State) (vs : List V) (e : Option Report) (r : ℕ) → IsSoFar sight m a vs b.place → IsKept a b → b.place ≤ length a.source.tokens → (sight b).known ≡ Ok true
    → Reads {T = T} f m b (Err e) r → Reads {T = U} g (while_seen sight m) a (Err e) r
one_refused_read f g sight m a b vs None r h kept within e reads = asks_for_more sight m a vs b.place h within (ap (λ b. (sight b).known) (sym kept) ∙ e)
one_refused_read f g sight m a b vs (Some x) r h kept within e reads =
    let seen = ap (λ b. (sight b).known) (sym kept) ∙ e in
    let k = one_refused sight m a vs b.place h within seen x (ap (λ b. (m b).answer) (sym kept) ∙ reads.0) in
    (k.0, k.1 ∙ ap (λ c. b.place + (m c).passed) (sym kept) ∙ reads.1)

-- If the peek yields `false`, the values read so far are the result.
pub all_read_at : {V : Type 0} (sight : Sight) (m : Reading V) (a b : State) (vs : List V) → IsSoFar sight m a vs b.place → IsKept a b → b.place ≤ length a.source.tokens → (sight b).known ≡ Ok false
    → ((while_seen sight m a).answer ≡ Ok vs) × (a.place + (while_seen sight m a).passed ≡ b.place)
all_read_at sight m a b vs h kept within e = all_read sight m a vs b.place h within (ap (λ b. (sight b).known) (sym kept) ∙ e)

pub asks_at : {V : Type 0} (sight : Sight) (m : Reading V) (a b : State) (vs : List V) → IsSoFar sight m a vs b.place → IsKept a b → b.place ≤ length a.source.tokens → (sight b).known ≡ Ok true → (while_seen sight m a).takes_memory ≡ true
asks_at sight m a b vs h kept within e = asks_for_more sight m a vs b.place h within (ap (λ b. (sight b).known) (sym kept) ∙ e)

asks_by : {A : Type 0} (r : Result Bool Report) (takes : Bool) → ((f : Report) → r ≡ Err f → A) → (takes ≡ true → (b : Bool) → r ≡ Ok b → A) → IsTrue (takes || is_err r) → A
asks_by (Ok b) true fault asks h = asks refl b refl
asks_by (Ok b) false fault asks h = let k : false ≡ true = h in cc
asks_by (Err f) takes fault asks h = fault f refl

-- If the peek returns an error, so does the loop.
pub look_refused_read : {V U : Type 0} (g : U → List V) (sight : Sight) (m : Reading V) (a b : State) (vs : List V) (e : Option Report) → IsSoFar sight m a vs b.place → IsKept a b → b.place ≤ length a.source.tokens → PeekIs (sight b) (Err e) → Reads {T = U} g (while_seen sight m) a (Err e) b.place
look_refused_read g sight m a b vs None h kept within known =
    let here = sym kept in
    asks_by {A = (while_seen sight m a).takes_memory ≡ true} (sight b).known (sight b).takes (λ f e. look_refusal_asks sight m a vs b.place h within f (ap (λ b. (sight b).known) here ∙ e))
    (λ t s e. look_asks sight m a vs b.place h within (ap (λ b. (sight b).takes) here ∙ t) s (ap (λ b. (sight b).known) here ∙ e)) known
look_refused_read g sight m a b vs (Some x) h kept within known = look_refused sight m a vs b.place h within x (ap (λ b. (sight b).known) (sym kept) ∙ known)

-- The repetition may allocate if it has a value.
some_by : {V : Type 0} (r : Result Bool Report) (takes : Bool) (o : Outcome (List V)) (a : State) (v : V) (vs : List V) → (where_seen_by r takes (also_taking true o) (give [] a)).answer ≡ Ok (v ∷ vs)
    → (where_seen_by r takes (also_taking true o) (give [] a)).takes_memory ≡ true
some_by (Ok true) takes o a v vs e = or_true takes
some_by (Ok false) takes o a v vs e = cc
some_by (Err f) takes o a v vs e = cc

some_takes_by : {V : Type 0} (n : ℕ) (sight : Sight) (m : Reading V) (a : State) (v : V) (vs : List V) → (up_to n sight m a).answer ≡ Ok (v ∷ vs) → (up_to n sight m a).takes_memory ≡ true
some_takes_by zero sight m a v vs e = cc
some_takes_by (suc n) sight m a v vs e = some_by (sight a).known (sight a).takes (and_then m (λ v. mapped (λ vs. v ∷ vs) (up_to n sight m)) a) a v vs e

pub some_takes : {V : Type 0} (sight : Sight) (m : Reading V) (a : State) (vs : List V) → (while_seen sight m a).answer ≡ Ok vs → 0 < length vs → (while_seen sight m a).takes_memory ≡ true
unfolding while_seen
some_takes sight m a [] e l = absurd (omega (arith, l))
some_takes sight m a (v ∷ vs) e l = some_takes_by (suc (length a.source.tokens)) sight m a v vs e
