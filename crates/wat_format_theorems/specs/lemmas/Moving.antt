-- Each term of the language of readings is independent of the start offset if its parts are. These are proofs, which a
-- reader may skip.
use Rattle.std.proofs.Common.{◌≡◌, ◌∙◌, ◌<◌, ◌≤◌, ◌+◌, ◌-◌, ℕ, zero, suc, arith, List, [], ◌∷◌, ◌++◌, Bool, true, false, refl, sym, ap, subst, length, drop, length-drop, Some, None, Ok, Err}
use Rattle.std.specs.Prelude.{Option, Result, cond, if◌then◌else◌, map, nat_eq, nat_le, not}
use Rattle.std.specs.Option.{option_map}
use Rattle.wat_lex.specs.errors.Errors.{Report}
use Rattle.wat_lex.specs.declared.lexer.kinds.Token.{Token}
use Rattle.wat_lex.specs.tokens.Blanks.{is_blank}
use Rattle.wat_lexer_parser.specs.lemmas.RuleLaws.{checked_got, shown_token, taken_token, token_got}
use Rattle.wat_lexer_parser.specs.names.RegisteredNames.{count, is_registered, more, max_registrations}
use Rattle.wat_lexer_parser.specs.parser.Closures.{opened, closed, inside}
use Rattle.wat_lexer_parser.specs.parser.Sights.{Sight}
use Rattle.wat_lexer_parser.specs.parser.State.{report_here, peek_at, too_often}
use Rattle.wat_lexer_parser.specs.parser.Takers.{Reader, allocates_at, token_value_at}
use Rattle.wat_lexer_parser.specs.places.Places.{current_span, empty_of}
use Rattle.wat_lexer_parser.specs.places.Source.{Source}
use Rattle.wat_lexer_parser.specs.readings.Attempts.{attempts_held, attempts_message, attempts_report}
use Rattle.wat_lexer_parser.specs.readings.Choices.{Choice, one_after, one_of}
use Rattle.wat_lexer_parser.specs.readings.Readings.{Outcome, Reading, allocated, also_first, also_taking, and_then, and_then_by, after, checked, checked_by, closed_by, give, given, group, inside_by, mapped, mapped_by, on, opened_by, optional, passed_by, refuse, refuse_after, refused, spanned, token, token_by, known_as, under, under_by, up_to, where_seen, where_seen_by, while_seen}
use Rattle.wat_lexer_parser.specs.laws.Counting.{counting}
use Rattle.wat_lexer_parser.specs.shown.Showing.{shown}
use Rattle.wat_format_theorems.specs.Reads.{AnswerMoved, MovesReading, MovesReader, MovesSight, OutcomeMoved, KnownMoved}
use Rattle.wat_format_theorems.specs.Sides.{Sides, Alike, AllSame, SameRefusal, at_places, passed}
use Rattle.wat_format_theorems.specs.lemmas.Seeing.{NeedsToken, ConsumedInBoth, ShownLaws, PlaceMoved, TakenMoved, alike_at, closed_moves, empty_moves, opened_moves, report_moves, span_moves, taken_moves}

pub refuses : {V : Type 0} (moved : V → V) (n : ℕ) (s : Sides) (ts : List Token) (f g : Report) (k j : ℕ) → SameRefusal s f g → OutcomeMoved moved n s ts (refused f k) (refused g j)
refuses moved n s ts f g k j h = (g, refl, h)

-- A smaller number of consumed tokens.
pub at_least : {V : Type 0} (moved : V → V) (n k : ℕ) (s : Sides) (ts : List Token) (o q : Outcome V) → k ≤ n → OutcomeMoved moved n s ts o q → OutcomeMoved moved k s ts o q
at_least {V} moved n k s ts o q l h = by_answer o.answer h
  where
    by_answer : (x : Result V Report) → AnswerMoved moved n s ts x o.passed q → AnswerMoved moved k s ts x o.passed q
    by_answer (Ok v) h = (h.0, h.1, h.2, omega (arith, h.3, l))
    by_answer (Err f) h = h

-- An equal map of values.
pub moved_as : {V : Type 0} (moved other : V → V) (n : ℕ) (s : Sides) (ts : List Token) (o q : Outcome V) → ((v : V) → moved v ≡ other v) → OutcomeMoved moved n s ts o q → OutcomeMoved other n s ts o q
moved_as {V} moved other n s ts o q e h = by_answer o.answer h
  where
    by_answer : (x : Result V Report) → AnswerMoved moved n s ts x o.passed q → AnswerMoved other n s ts x o.passed q
    by_answer (Ok v) h = (h.0 ∙ ap Ok (e v), h.1, h.2, h.3)
    by_answer (Err f) h = h

pub moved_give : {V : Type 0} (moved : V → V) (v w : V) (s : Sides) (ts : List Token) → w ≡ moved v → Alike s ts → OutcomeMoved moved 0 s ts (give v s.here) (give w s.there)
moved_give moved v w s ts e h = (ap Ok e, ts, alike_at s s.here.place (s.here.place + 0) s.there.place (s.there.place + 0) ts (omega arith) (omega arith) h, omega arith)

pub moves_refuse : ShownLaws → {V : Type 0} (moved : (ℕ → ℕ) → V → V) (n : ℕ) (message : List ℕ) → MovesReading n moved (refuse message)
moves_refuse laws moved n message s ts h = refuses (moved s.move) n s ts _ _ 0 0 (report_moves laws s ts message h)

pub moves_refuse_after : {V : Type 0} (moved : (ℕ → ℕ) → V → V) (n : ℕ) (message : List ℕ) → MovesReading n moved (refuse_after message)
moves_refuse_after moved n message s ts h = refuses (moved s.move) n s ts _ _ 0 0 (record { cause = refl; offset = h.place; excerpt = refl })

-- Single tokens.

token_by_moves : {V : Type 0} (moved : V → V) (s : Sides) (ts : List Token) (f g : Report) (t u : Bool) (a b : Result (Option (V × ℕ)) Report) → SameRefusal s f g → TakenMoved moved s ts a b
    → OutcomeMoved moved 1 s ts (token_by a t (refused f 0) s.here.place) (token_by b u (refused g 0) s.there.place)
token_by_moves moved s ts f g t u (Ok None) b r h = subst (λ b. OutcomeMoved moved 1 s ts (refused f 0) (token_by b u (refused g 0) s.there.place)) (sym h) (g, refl, r)
token_by_moves moved s ts f g t u (Ok (Some (v, p))) b r h =
    let q = h.0 in
    let on = h.2 in
    subst (λ b. OutcomeMoved moved 1 s ts (given v (p - s.here.place) t) (token_by b u (refused g 0) s.there.place)) (sym h.1)
    (refl, on.rest, alike_at s p (s.here.place + (p - s.here.place)) q (s.there.place + (q - s.there.place)) on.rest (omega (arith, on.here)) (omega (arith, on.there)) on.alike, on.fewer)
token_by_moves moved s ts f g t u (Err e) b r h = subst (λ b. OutcomeMoved moved 1 s ts (refused e 0) (token_by b u (refused g 0) s.there.place)) (sym h.1) (h.0, refl, h.2)

pub moves_token : ShownLaws → {V : Type 0} (moved : (ℕ → ℕ) → V → V) (read : Reader V) (message : List ℕ) → MovesReader moved read → MovesReading 1 moved (token read message)
moves_token laws moved read message r s ts h =
    token_by_moves (moved s.move) s ts _ _ (allocates_at read s.here) (allocates_at read s.there) (token_value_at read s.here) (token_value_at read s.there) (report_moves laws s ts message h) (taken_moves laws moved read r s ts h)

-- Values.

pub moved_mapped : {V W : Type 0} (g : V → V) (h : W → W) (f e : V → W) (n : ℕ) (s : Sides) (ts : List Token) (o q : Outcome V) → ((v : V) → e (g v) ≡ h (f v)) → OutcomeMoved g n s ts o q → OutcomeMoved h n s ts (mapped_by f o) (mapped_by e q)
moved_mapped {V} {W} g h f e n s ts o q same k = by_answer o.answer k
  where
    by_answer : (x : Result V Report) → AnswerMoved g n s ts x o.passed q → AnswerMoved h n s ts (known_as f x) o.passed (mapped_by e q)
    by_answer (Ok v) k = (ap (known_as e) k.0 ∙ ap Ok (same v), k.1, k.2, k.3)
    by_answer (Err r) k = (k.0, ap (known_as e) k.1, k.2)

-- The value with its span. If there is a value, a token is visible, so that the span is that of a token.
pub moved_spanned : ShownLaws → {V : Type 0} (g : V → V) (n : ℕ) (s : Sides) (ts : List Token) (o q : Outcome V)
    → ((v : V) → o.answer ≡ Ok v → (t : Token) × (p : ℕ) × (shown s.here.source s.here.place s.here.names ≡ Ok (Some (t, p)))) → Alike s ts → OutcomeMoved g n s ts o q
    → OutcomeMoved {V = V × ℕ} (λ v. (g v.0, s.move v.1)) n s ts (mapped_by (λ v. (v, current_span s.here.source s.here.place s.here.names)) o) (mapped_by (λ v. (v, current_span s.there.source s.there.place s.there.names)) q)
moved_spanned laws {V} g n s ts o q need h k = by_answer o.answer refl k
  where
    by_answer : (x : Result V Report) → o.answer ≡ x → AnswerMoved g n s ts x o.passed q
        → AnswerMoved {V = V × ℕ} (λ v. (g v.0, s.move v.1)) n s ts (known_as (λ v. (v, current_span s.here.source s.here.place s.here.names)) x) o.passed (mapped_by (λ v. (v, current_span s.there.source s.there.place s.there.names)) q)
    by_answer (Ok v) e k =
        let t = need v e in
        (ap (known_as {W = V × ℕ} (λ v. (v, current_span s.there.source s.there.place s.there.names))) k.0 ∙ ap (λ p. Ok (g v, p)) (span_moves laws s ts t.0 t.1 t.2 h), k.1, k.2, k.3)
    by_answer (Err r) e k = (k.0, ap (known_as {W = V × ℕ} (λ v. (v, current_span s.there.source s.there.place s.there.names))) k.1, k.2)

pub moved_checked : {V W : Type 0} (g : V → V) (h : W → W) (check : V → Option W) (n : ℕ) (s : Sides) (ts : List Token) (o q : Outcome V) (f e : Report) → ((v : V) → check (g v) ≡ option_map h (check v)) → SameRefusal s f e → OutcomeMoved g n s ts o q
    → OutcomeMoved h n s ts (checked_by o.answer o check (refused f 0)) (checked_by q.answer q check (refused e 0))
moved_checked {V} {W} g h check n s ts o q f e same r k = by_answer o.answer k
  where
    by_check : (c : Option W) (us : List Token) → Alike (passed s o.passed q.passed) us → length us + n ≤ length ts → OutcomeMoved h n s ts (passed_by c (refused f 0) o.passed o.takes_memory) (passed_by (option_map h c) (refused e 0) q.passed q.takes_memory)
    by_check (Some w) us k l = (refl, us, k, l)
    by_check None us k l = (e, refl, r)

    by_answer : (x : Result V Report) → AnswerMoved g n s ts x o.passed q → OutcomeMoved h n s ts (checked_by x o check (refused f 0)) (checked_by q.answer q check (refused e 0))
    by_answer (Ok v) k =
        let is : checked_by q.answer q check (refused e 0) ≡ passed_by (option_map h (check v)) (refused e 0) q.passed q.takes_memory =
        ap (λ x. checked_by x q check (refused e 0)) k.0 ∙ ap (λ c. passed_by c (refused e 0) q.passed q.takes_memory) (same v) in
        subst (λ c. OutcomeMoved h n s ts (passed_by (check v) (refused f 0) o.passed o.takes_memory) c) (sym is) (by_check (check v) k.1 k.2 k.3)
    by_answer (Err d) k =
        let is : checked_by q.answer q check (refused e 0) ≡ refused k.0 q.passed = ap (λ x. checked_by x q check (refused e 0)) k.1 in
        subst (λ c. OutcomeMoved h n s ts (refused d o.passed) c) (sym is) (k.0, refl, k.2)

pub moved_also : {V : Type 0} (g : V → V) (t u : Bool) (n : ℕ) (s : Sides) (ts : List Token) (o q : Outcome V) → OutcomeMoved g n s ts o q → OutcomeMoved g n s ts (also_taking t o) (also_taking u q)
moved_also {V} g t u n s ts o q h = by_answer o.answer h
  where
    by_answer : (x : Result V Report) → AnswerMoved g n s ts x o.passed q → AnswerMoved g n s ts x o.passed (also_taking u q)
    by_answer (Ok v) h = h
    by_answer (Err f) h = h

-- Sequences.

moved_after : {V : Type 0} (g : V → V) (i j k l : ℕ) (t u : Bool) (s : Sides) (ts r : List Token) (o q : Outcome V) → length r + i ≤ length ts → OutcomeMoved g j (passed s k l) r o q → OutcomeMoved g (i + j) s ts (after k t o) (after l u q)
moved_after {V} g i j k l t u s ts r o q few h = by_answer o.answer h
  where
    by_answer : (x : Result V Report) → AnswerMoved g j (passed s k l) r x o.passed q → AnswerMoved g (i + j) s ts x (k + o.passed) (after l u q)
    by_answer (Ok v) h =
        (h.0, h.1, alike_at s (s.here.place + k + o.passed) (s.here.place + (k + o.passed)) (s.there.place + l + q.passed) (s.there.place + (l + q.passed)) h.1 (omega arith) (omega arith) h.2, omega (arith, few, h.3))
    by_answer (Err f) h = h

pub moved_and_then : {V W : Type 0} (g : V → V) (h : W → W) (i j : ℕ) (s : Sides) (ts : List Token) (o q : Outcome V) (next then_there : V → Reading W) → OutcomeMoved g i s ts o q
    → ((v : V) (r : List Token) → Alike (passed s o.passed q.passed) r → length r + i ≤ length ts → OutcomeMoved h j (passed s o.passed q.passed) r (next v (on s.here o.passed)) (then_there (g v) (on s.there q.passed)))
    → OutcomeMoved h (i + j) s ts (and_then_by o.answer o.passed o.takes_memory next s.here) (and_then_by q.answer q.passed q.takes_memory then_there s.there)
moved_and_then {V} {W} g h i j s ts o q next then_there first more = by_answer o.answer first
  where
    by_answer : (x : Result V Report) → AnswerMoved g i s ts x o.passed q → OutcomeMoved h (i + j) s ts (and_then_by x o.passed o.takes_memory next s.here) (and_then_by q.answer q.passed q.takes_memory then_there s.there)
    by_answer (Ok v) k =
        let is : and_then_by q.answer q.passed q.takes_memory then_there s.there ≡ after q.passed q.takes_memory (then_there (g v) (on s.there q.passed)) = ap (λ x. and_then_by x q.passed q.takes_memory then_there s.there) k.0 in
        subst (λ c. OutcomeMoved h (i + j) s ts (after o.passed o.takes_memory (next v (on s.here o.passed))) c) (sym is)
        (moved_after h i j o.passed q.passed o.takes_memory q.takes_memory s ts k.1 (next v (on s.here o.passed)) (then_there (g v) (on s.there q.passed)) k.3 (more v k.1 k.2 k.3))
    by_answer (Err f) k =
        let is : and_then_by q.answer q.passed q.takes_memory then_there s.there ≡ refused k.0 q.passed = ap (λ x. and_then_by x q.passed q.takes_memory then_there s.there) k.1 in
        subst (λ c. OutcomeMoved h (i + j) s ts (refused f o.passed) c) (sym is) (k.0, refl, k.2)

-- Peeks.

pub moved_where_seen : {V : Type 0} (g : V → V) (n : ℕ) (s : Sides) (ts : List Token) (a b : Result Bool Report) (t u : Bool) (o q c d : Outcome V) → KnownMoved s a b → OutcomeMoved g n s ts o q → OutcomeMoved g n s ts c d
    → OutcomeMoved g n s ts (where_seen_by a t o c) (where_seen_by b u q d)
moved_where_seen g n s ts (Ok true) b t u o q c d h k j = subst (λ b. OutcomeMoved g n s ts (also_taking t o) (where_seen_by b u q d)) (sym h) (moved_also g t u n s ts o q k)
moved_where_seen g n s ts (Ok false) b t u o q c d h k j = subst (λ b. OutcomeMoved g n s ts (also_taking t c) (where_seen_by b u q d)) (sym h) (moved_also g t u n s ts c d j)
moved_where_seen g n s ts (Err f) b t u o q c d h k j = subst (λ b. OutcomeMoved g n s ts (refused f 0) (where_seen_by b u q d)) (sym h.1) (h.0, refl, h.2)

attempts_moves : ShownLaws → (s : Sides) (ts : List Token) (missed : List (List ℕ)) → Alike s ts → SameRefusal s (attempts_report s.here missed) (attempts_report s.there missed)
attempts_moves laws s ts missed h =
    subst (λ empty. SameRefusal s (attempts_report s.here missed) (report_here s.there.source s.there.place s.there.names (attempts_message empty missed))) (sym (empty_moves laws s ts h))
    (report_moves laws s ts (attempts_message (empty_of (shown s.here.source s.here.place s.here.names)) missed) h)

-- `EachMoves n moved choices`: each of the alternatives is independent of the start offset.
abbrev pub EachMoves : {V : Type 0} → ℕ → ((ℕ → ℕ) → V → V) → List (Choice V) → Type 0
EachMoves n moved [] = Unit {0}
EachMoves n moved (c ∷ cs) = MovesSight c.sight × MovesReading n moved c.reading × EachMoves n moved cs

one_after_moves : ShownLaws → {V : Type 0} (n : ℕ) (moved : (ℕ → ℕ) → V → V) (missed : List (List ℕ)) (cs : List (Choice V)) → EachMoves n moved cs → MovesReading n moved (one_after missed cs)
one_after_moves laws n moved missed [] e s ts h = refuses (moved s.move) n s ts _ _ 0 0 (attempts_moves laws s ts missed h)
one_after_moves laws n moved missed (c ∷ cs) e s ts h =
    let takes = nat_le attempts_held (length missed) in
    let rest = one_after (missed ++ (c.shows ∷ [])) cs in
    moved_where_seen (moved s.move) n s ts (c.sight s.here).known (c.sight s.there).known (c.sight s.here).takes (c.sight s.there).takes (c.reading s.here) (c.reading s.there) (also_taking takes (rest s.here)) (also_taking takes (rest s.there)) (e.0 s ts h) (e.1 s ts h)
    (moved_also (moved s.move) takes takes n s ts (rest s.here) (rest s.there) (one_after_moves laws n moved (missed ++ (c.shows ∷ [])) cs e.2 s ts h))

pub moves_one_of : ShownLaws → {V : Type 0} (n : ℕ) (moved : (ℕ → ℕ) → V → V) (cs : List (Choice V)) → EachMoves n moved cs → MovesReading n moved (one_of cs)
moves_one_of laws n moved cs e = one_after_moves laws n moved [] cs e

-- Loops.

moved_up_to : {V : Type 0} (moved : (ℕ → ℕ) → V → V) (i j : ℕ) (sight : Sight) (m : Reading V) → MovesSight sight → MovesReading 1 moved m → (s : Sides) (ts : List Token) → Alike s ts → length ts < i → length ts < j
    → OutcomeMoved (map (moved s.move)) 0 s ts (up_to i sight m s.here) (up_to j sight m s.there)
moved_up_to moved zero j sight m look one s ts h l k = absurd (omega (arith, l))
moved_up_to moved (suc i) zero sight m look one s ts h l k = absurd (omega (arith, k))
moved_up_to moved (suc i) (suc j) sight m look one s ts h l k =
    let all = map (moved s.move) in
    let o = m s.here in
    let q = m s.there in
    let both_here = and_then m (λ v. mapped (λ vs. v ∷ vs) (up_to i sight m)) s.here in
    let both_there = and_then m (λ v. mapped (λ vs. v ∷ vs) (up_to j sight m)) s.there in
    let first = moved_and_then (moved s.move) all 1 0 s ts o q (λ v a. mapped_by (λ vs. v ∷ vs) (up_to i sight m a)) (λ v a. mapped_by (λ vs. v ∷ vs) (up_to j sight m a)) (one s ts h)
    (λ v r alike few. moved_mapped all all (λ vs. v ∷ vs) (λ vs. moved s.move v ∷ vs) 0 (passed s o.passed q.passed) r (up_to i sight m (on s.here o.passed)) (up_to j sight m (on s.there q.passed)) (λ vs. refl)
    (moved_up_to moved i j sight m look one (passed s o.passed q.passed) r alike (omega (arith, few, l)) (omega (arith, few, k)))) in
    moved_where_seen all 0 s ts (sight s.here).known (sight s.there).known (sight s.here).takes (sight s.there).takes (also_first m (up_to i sight m) s.here) (also_first m (up_to j sight m) s.there) (give [] s.here) (give [] s.there) (look s ts h)
    (moved_also all true true 0 s ts both_here both_there (at_least all 1 0 s ts both_here both_there (omega arith) first)) (moved_give all [] [] s ts refl h)

counting_fewer : (ts : List Token) → length (counting ts) ≤ length ts
counting_fewer [] = omega arith
counting_fewer (t ∷ ts) =
    let ih = counting_fewer ts in
    elim (not (is_blank t.kind)) as (λ b. length (cond b (t ∷ counting ts) (counting ts)) ≤ suc (length ts)) [ true ↦ omega (arith, ih) | false ↦ omega (arith, ih) ]

few : (s : Source) (p : ℕ) → length (counting (drop p s.tokens)) ≤ length s.tokens
few s p = omega (arith, counting_fewer (drop p s.tokens), length-drop p s.tokens)

as_many : (x y : List ℕ) (move : ℕ → ℕ) (ts us : List Token) → AllSame x y move ts us → length us ≡ length ts
as_many x y move [] [] h = refl
as_many x y move [] (u ∷ us) h = absurd h
as_many x y move (t ∷ ts) [] h = absurd h
as_many x y move (t ∷ ts) (u ∷ us) h = ap suc (as_many x y move ts us h.1)

pub moves_while : {V : Type 0} (moved : (ℕ → ℕ) → V → V) (sight : Sight) (m : Reading V) → MovesSight sight → MovesReading 1 moved m → MovesReading 0 (λ move. map (moved move)) (while_seen sight m)
unfolding while_seen
moves_while moved sight m look one s ts h =
    let here = ap length h.here in
    let there = as_many s.here.source.setting.text s.there.source.setting.text s.move ts (counting (drop s.there.place s.there.source.tokens)) h.there in
    moved_up_to moved (suc (length s.here.source.tokens)) (suc (length s.there.source.tokens)) sight m look one s ts h (omega (arith, here, few s.here.source s.here.place)) (omega (arith, there, few s.there.source s.there.place))

-- Groups.

-- `within s p q` is the states after the opening parentheses, one level deeper.
abbrev pub within : Sides → ℕ → ℕ → Sides
within s p q = record s { here = inside s.here p; there = inside s.there q }

goes_in : (s : Sides) (p q : ℕ) (ts : List Token) → Alike (at_places s p q) ts → Alike (within s p q) ts
goes_in s p q ts h = record { texts = h.texts; names = h.names; here = h.here; there = h.there; place = h.place }

comes_out : (s : Sides) (p q k l : ℕ) (ts : List Token) → Alike (passed (within s p q) k l) ts → Alike (at_places s (p + k) (q + l)) ts
comes_out s p q k l ts h = record { texts = h.texts; names = h.names; here = h.here; there = h.there; place = h.place }

module _ (laws : ShownLaws) {V : Type 0} (g : V → V) (n : ℕ) (s : Sides) (ts : List Token) where
  closed_by_moves : (p q : ℕ) (r : List Token) (v : V) (t u : Bool) (a b : Result ℕ Report) → length r + (n + 1) ≤ length ts → s.here.place < p → s.there.place < q → PlaceMoved (at_places s p q) r a b
      → OutcomeMoved g (n + 2) s ts (closed_by a v t s.here.place) (closed_by b (g v) u s.there.place)
  closed_by_moves p q r v t u (Ok z) b few l k h =
      let on = h.2 in
      subst (λ b. OutcomeMoved g (n + 2) s ts (closed_by (Ok z) v t s.here.place) (closed_by b (g v) u s.there.place)) (sym h.1)
      (refl, on.rest, alike_at s z (s.here.place + (z - s.here.place)) h.0 (s.there.place + (h.0 - s.there.place)) on.rest (omega (arith, on.here, l)) (omega (arith, on.there, k)) on.alike, omega (arith, few, on.fewer))
  closed_by_moves p q r v t u (Err f) b few l k h = subst (λ b. OutcomeMoved g (n + 2) s ts (closed_by (Err f) v t s.here.place) (closed_by b (g v) u s.there.place)) (sym h.1) (h.0, refl, h.2)

  inside_by_moves : (p q : ℕ) (on : ConsumedInBoth s ts p q) (o c : Outcome V) (x : Result V Report) → AnswerMoved g n (within s p q) on.rest x o.passed c
      → OutcomeMoved g (n + 2) s ts (inside_by x o (inside s.here p) s.here) (inside_by c.answer c (inside s.there q) s.there)
  inside_by_moves p q on o c (Ok v) h =
      let is : inside_by c.answer c (inside s.there q) s.there ≡ closed_by (closed s.there.source (q + c.passed) s.there.names) (g v) c.takes_memory s.there.place = ap (λ x. inside_by x c (inside s.there q) s.there) h.0 in
      subst (λ d. OutcomeMoved g (n + 2) s ts (inside_by (Ok v) o (inside s.here p) s.here) d) (sym is)
      (closed_by_moves (p + o.passed) (q + c.passed) h.1 v o.takes_memory c.takes_memory (closed s.here.source (p + o.passed) s.here.names) (closed s.there.source (q + c.passed) s.there.names) (omega (arith, h.3, on.fewer)) (omega (arith, on.here)) (omega (arith, on.there))
      (closed_moves laws (at_places s (p + o.passed) (q + c.passed)) h.1 (comes_out s p q o.passed c.passed h.1 h.2)))
  inside_by_moves p q on o c (Err f) h =
      let is : inside_by c.answer c (inside s.there q) s.there ≡ refused h.0 0 = ap (λ x. inside_by x c (inside s.there q) s.there) h.1 in
      subst (λ d. OutcomeMoved g (n + 2) s ts (refused f 0) d) (sym is) (h.0, refl, h.2)

  opened_by_moves : (m k : Reading V) → ((p q : ℕ) (r : List Token) → Alike (within s p q) r → OutcomeMoved g n (within s p q) r (m (inside s.here p)) (k (inside s.there q))) → (a b : Result ℕ Report) → PlaceMoved s ts a b
      → OutcomeMoved g (n + 2) s ts (opened_by a m s.here) (opened_by b k s.there)
  opened_by_moves m k inner (Ok p) b h =
      let q = h.0 in
      let on = h.2 in
      subst (λ b. OutcomeMoved g (n + 2) s ts (opened_by (Ok p) m s.here) (opened_by b k s.there)) (sym h.1)
      (inside_by_moves p q on (m (inside s.here p)) (k (inside s.there q)) (m (inside s.here p)).answer (inner p q on.rest (goes_in s p q on.rest on.alike)))
  opened_by_moves m k inner (Err f) b h = subst (λ b. OutcomeMoved g (n + 2) s ts (refused f 0) (opened_by b k s.there)) (sym h.1) (h.0, refl, h.2)

  pub moved_group : (m k : Reading V) → Alike s ts → ((p q : ℕ) (r : List Token) → Alike (within s p q) r → OutcomeMoved g n (within s p q) r (m (inside s.here p)) (k (inside s.there q)))
      → OutcomeMoved g (n + 2) s ts (group m s.here) (group k s.there)
  moved_group m k h inner = opened_by_moves m k inner (opened s.here.source s.here.place s.here.names) (opened s.there.source s.there.place s.there.names) (opened_moves laws s ts h)

pub moves_group : ShownLaws → {V : Type 0} (n : ℕ) (moved : (ℕ → ℕ) → V → V) (m : Reading V) → MovesReading n moved m → MovesReading (n + 2) moved (group m)
moves_group laws n moved m one s ts h = moved_group laws (moved s.move) n s ts m m h (λ p q r alike. one (within s p q) r alike)

-- Readings, from any two states.

pub moves_give : {V : Type 0} (moved : (ℕ → ℕ) → V → V) (v : V) → ((move : ℕ → ℕ) → v ≡ moved move v) → MovesReading 0 moved (give v)
moves_give moved v e s ts h = moved_give (moved s.move) v v s ts (e s.move) h

pub moves_fewer : {V : Type 0} (moved : (ℕ → ℕ) → V → V) (n k : ℕ) (m : Reading V) → k ≤ n → MovesReading n moved m → MovesReading k moved m
moves_fewer moved n k m l one s ts h = at_least (moved s.move) n k s ts (m s.here) (m s.there) l (one s ts h)

pub moves_as : {V : Type 0} (moved other : (ℕ → ℕ) → V → V) (n : ℕ) (m : Reading V) → ((move : ℕ → ℕ) (v : V) → moved move v ≡ other move v) → MovesReading n moved m → MovesReading n other m
moves_as moved other n m e one s ts h = moved_as (moved s.move) (other s.move) n s ts (m s.here) (m s.there) (e s.move) (one s ts h)

pub moves_mapped : {V W : Type 0} (moved : (ℕ → ℕ) → V → V) (other : (ℕ → ℕ) → W → W) (f : V → W) (n : ℕ) (m : Reading V) → ((move : ℕ → ℕ) (v : V) → f (moved move v) ≡ other move (f v)) → MovesReading n moved m → MovesReading n other (mapped f m)
moves_mapped moved other f n m e one s ts h = moved_mapped (moved s.move) (other s.move) f f n s ts (m s.here) (m s.there) (e s.move) (one s ts h)

-- `spanned_moved moved` maps a value and the offset at which it is.
abbrev pub spanned_moved : {V : Type 0} → ((ℕ → ℕ) → V → V) → (ℕ → ℕ) → V × ℕ → V × ℕ
spanned_moved moved move v = (moved move v.0, move v.1)

pub moves_spanned : ShownLaws → {V : Type 0} (moved : (ℕ → ℕ) → V → V) (n : ℕ) (m : Reading V) → NeedsToken m → MovesReading n moved m → MovesReading n (spanned_moved moved) (spanned m)
moves_spanned laws moved n m need one s ts h = moved_spanned laws (moved s.move) n s ts (m s.here) (m s.there) (need s.here) h (one s ts h)

-- Readings that need a token.
pub needs_token : {V : Type 0} (read : Reader V) (message : List ℕ) → NeedsToken (token read message)
needs_token read message a v e =
    let k = token_got (token_value_at read a) _ _ a.place v e in
    let t = taken_token read a.source.setting.text (peek_at a) v k.0 k.1 in
    (t.0, k.0, shown_token a t.0 k.0 t.1)

pub needs_checked : {V W : Type 0} (check : V → Option W) (message : List ℕ) (m : Reading V) → NeedsToken m → NeedsToken (checked check message m)
needs_checked check message m need a w e = let k = checked_got (m a).answer (m a) check _ w e in need a k.0 k.1

pub moves_checked : ShownLaws → {V W : Type 0} (moved : (ℕ → ℕ) → V → V) (other : (ℕ → ℕ) → W → W) (check : V → Option W) (message : List ℕ) (n : ℕ) (m : Reading V)
    → ((move : ℕ → ℕ) (v : V) → check (moved move v) ≡ option_map (other move) (check v)) → MovesReading n moved m → MovesReading n other (checked check message m)
moves_checked laws moved other check message n m e one s ts h = moved_checked (moved s.move) (other s.move) check n s ts (m s.here) (m s.there) _ _ (e s.move) (report_moves laws s ts message h) (one s ts h)

pub moves_allocated : {V : Type 0} (moved : (ℕ → ℕ) → V → V) (n : ℕ) (m : Reading V) → MovesReading n moved m → MovesReading n moved (allocated m)
moves_allocated moved n m one s ts h = moved_also (moved s.move) true true n s ts (m s.here) (m s.there) (one s ts h)

pub moves_and_then : {V W : Type 0} (moved : (ℕ → ℕ) → V → V) (other : (ℕ → ℕ) → W → W) (i j : ℕ) (m : Reading V) (next : V → Reading W) → MovesReading i moved m
    → ((s : Sides) (ts : List Token) (v : V) → Alike s ts → OutcomeMoved (other s.move) j s ts (next v s.here) (next (moved s.move v) s.there)) → MovesReading (i + j) other (and_then m next)
moves_and_then moved other i j m next one more s ts h = moved_and_then (moved s.move) (other s.move) i j s ts (m s.here) (m s.there) next next (one s ts h) (λ v r alike few. more (passed s (m s.here).passed (m s.there).passed) r v alike)

pub moves_where_seen : {V : Type 0} (moved : (ℕ → ℕ) → V → V) (n : ℕ) (sight : Sight) (m other : Reading V) → MovesSight sight → MovesReading n moved m → MovesReading n moved other → MovesReading n moved (where_seen sight m other)
moves_where_seen moved n sight m other look one two s ts h =
    moved_where_seen (moved s.move) n s ts (sight s.here).known (sight s.there).known (sight s.here).takes (sight s.there).takes (m s.here) (m s.there) (other s.here) (other s.there) (look s ts h) (one s ts h) (two s ts h)

pub moves_optional : {V : Type 0} (moved : (ℕ → ℕ) → V → V) (n : ℕ) (sight : Sight) (m : Reading V) → MovesSight sight → MovesReading n moved m → MovesReading 0 (λ move. option_map (moved move)) (optional sight m)
moves_optional {V} moved n sight m look one =
    let all : (ℕ → ℕ) → Option V → Option V = λ move. option_map (moved move) in
    let some : Reading (Option V) = mapped (λ v. Some v) m in
    moves_where_seen all 0 sight some (give None) look (moves_fewer all n 0 some (omega arith) (moves_mapped moved all (λ v. Some v) n m (λ move v. refl) one)) (moves_give all None (λ move. refl))

-- Registered names: with one more name, the significant tokens are still the same.

under_moves : {V : Type 0} (moved : (ℕ → ℕ) → V → V) (n : ℕ) (x : List ℕ) (m : Reading V) → MovesReading n moved m → (s : Sides) (ts : List Token) → Alike s ts → (full : Bool) (t u : Bool)
    → OutcomeMoved (moved s.move) n s ts (under_by (if full then Err (too_often s.here) else Ok (record s.here { names = more s.here.names x })) t m) (under_by (if full then Err (too_often s.there) else Ok (record s.there { names = more s.there.names x })) u m)
under_moves moved n x m one s ts h true t u = (too_often s.there, refl, record { cause = refl; offset = h.place; excerpt = refl })
under_moves {V} moved n x m one s ts h false t u =
    let named = record s { here = record s.here { names = more s.here.names x }; there = record s.there { names = more s.there.names x } } in
    let alike : Alike named ts = record { texts = h.texts; names = ap (λ z. more z x) h.names; here = h.here; there = h.there; place = h.place } in
    let o = m named.here in
    let q = m named.there in
    moved_also (moved s.move) t u n s ts o q (by_answer o q o.answer (one named ts alike))
  where
    by_answer : (o q : Outcome V) (a : Result V Report) → AnswerMoved (moved s.move) n (record s { here = record s.here { names = more s.here.names x }; there = record s.there { names = more s.there.names x } }) ts a o.passed q → AnswerMoved (moved s.move) n s ts a o.passed q
    by_answer o q (Ok v) k = (k.0, k.1, record { texts = k.2.texts; names = h.names; here = k.2.here; there = k.2.there; place = k.2.place }, k.3)
    by_answer o q (Err f) k = k

pub moves_under : {V : Type 0} (moved : (ℕ → ℕ) → V → V) (n : ℕ) (x : List ℕ) (m : Reading V) → MovesReading n moved m → MovesReading n moved (under x m)
moves_under moved n x m one s ts h =
    let full_here = nat_eq (count s.here.names x) max_registrations in
    let full_there = nat_eq (count s.there.names x) max_registrations in
    let same : full_there ≡ full_here = ap (λ z. nat_eq (count z x) max_registrations) h.names in
    subst (λ full. OutcomeMoved (moved s.move) n s ts (under x m s.here) (under_by (if full then Err (too_often s.there) else Ok (record s.there { names = more s.there.names x })) (not (is_registered s.there.names x)) m)) (sym same)
    (under_moves moved n x m one s ts h full_here (not (is_registered s.here.names x)) (not (is_registered s.there.names x)))
