-- Lemmas about readings: a reading consumes a token, with a lemma for each combinator of their language. The lemma for
-- a type's reading is composed of these. Not part of the standard.
use Rattle.std.proofs.Common.{◌≡◌, ◌<◌, ◌+◌, ℕ, List, Bool, true, false, arith, refl, ap, ◌∙◌, Some, None, Ok, Err}
use Rattle.std.specs.Prelude.{Option, Result, codes}
use Rattle.wat_lex.specs.errors.Errors.{Report}
use Rattle.wat_lex.specs.declared.lexer.kinds.Token.{Token}
use Rattle.wat_lexer_parser.specs.names.RegisteredNames.{Names}
use Rattle.wat_lexer_parser.specs.parser.Closures.{opened, closed, inside}
use Rattle.wat_lexer_parser.specs.lemmas.Parts.{taken_or}
use Rattle.wat_lexer_parser.specs.parser.Sights.{Sight}
use Rattle.wat_lexer_parser.specs.parser.State.{State, Seen, seen, known, report_here}
use Rattle.wat_lexer_parser.specs.parser.Takers.{Reader, taken, token_value_at, token_value_by, allocates_at, as_open, as_close}
use Rattle.wat_lexer_parser.specs.places.Places.{current_span}
use Rattle.wat_lexer_parser.specs.places.Source.{Source}
use Rattle.wat_lexer_parser.specs.readings.Readings.{Outcome, Reading, refused, refuse, token, token_by, and_then, and_then_by, mapped, pair, known_as, spanned, allocated, checked, checked_by, passed_by, where_seen, where_seen_by, closed_by, inside_by, opened_by, group}
use Rattle.wat_lexer_parser.specs.readings.Reads.{Advances, Reads}
use Rattle.wat_lexer_parser.specs.shown.Showing.{Look, shown}
use Rattle.wat_lexer_parser.specs.lemmas.After.{forward_shown}

-- The position after the visible token, and after a token that a reader consumes, is greater.

abbrev after_of : {A F : Type 0} → ℕ → Result (Option (A × ℕ)) F → ℕ
after_of d (Ok None) = d
after_of d (Ok (Some (a, q))) = q
after_of d (Err f) = d

forward_known : (x : List ℕ) (l : Look) (p : ℕ) (t : Token) (q : ℕ) → ((u : Token) (r : ℕ) → l ≡ Ok (Some (u, r)) → p < r) → known x l ≡ Ok (Some (t, q)) → p < q
forward_known x (Ok None) p t q h e = cc
forward_known x (Ok (Some (u, r))) p t q h e = let k : r ≡ q = ap (after_of 0) e in omega (arith, h u r refl, k)
forward_known x (Err f) p t q h e = cc

pub forward_seen : (s : Source) (p : ℕ) (names : Names) (t : Token) (q : ℕ) → seen s p names ≡ Ok (Some (t, q)) → p < q
unfolding seen
forward_seen s p names t q e = forward_known s.setting.text (shown s p names) p t q (λ u r k. (forward_shown s p names u r k).0) e

taken_place : {V : Type 0} (o : Option (Result V Report)) (q : ℕ) (v : V) (r : ℕ) → token_value_by q o ≡ Ok (Some (v, r)) → q ≡ r
taken_place None q v r e = cc
taken_place (Some (Ok w)) q v r e = ap (after_of q) e
taken_place (Some (Err f)) q v r e = cc

taken_of : {V : Type 0} (read : Reader V) (x : List ℕ) (a : Seen) (p : ℕ) (v : V) (r : ℕ) → ((t : Token) (q : ℕ) → a ≡ Ok (Some (t, q)) → p < q) → taken read x a ≡ Ok (Some (v, r)) → p < r
taken_of read x (Ok None) p v r h e = cc
taken_of read x (Ok (Some (t, q))) p v r h e = omega (arith, h t q refl, taken_place (read x t t.kind) q v r e)
taken_of read x (Err f) p v r h e = cc

pub forward_taken : {V : Type 0} (read : Reader V) (s : Source) (p : ℕ) (names : Names) (v : V) (q : ℕ) → taken read s.setting.text (seen s p names) ≡ Ok (Some (v, q)) → p < q
forward_taken read s p names v q e = taken_of read s.setting.text (seen s p names) p v q (forward_seen s p names) e

opened_of : (r : Report) (a : Result (Option (Unit {0} × ℕ)) Report) (p o : ℕ) → ((v : Unit {0}) (q : ℕ) → a ≡ Ok (Some (v, q)) → p < q) → taken_or r a ≡ Ok o → p < o
opened_of r (Ok None) p o h e = cc
opened_of r (Ok (Some (v, q))) p o h e = let k : q ≡ o = cc in omega (arith, h v q refl, k)
opened_of r (Err f) p o h e = cc

-- The positions after `(` and after `)` are greater.
pub forward_opened : (s : Source) (p : ℕ) (names : Names) (q : ℕ) → opened s p names ≡ Ok q → p < q
unfolding opened
forward_opened s p names q e = opened_of (report_here s p names (codes "expected `(`")) (taken as_open s.setting.text (seen s p names)) p q (forward_taken as_open s p names) e

pub forward_closed : (s : Source) (p : ℕ) (names : Names) (q : ℕ) → closed s p names ≡ Ok q → p < q
unfolding closed
forward_closed s p names q e = opened_of (report_here s p names (codes "expected `)`")) (taken as_close s.setting.text (seen s p names)) p q (forward_taken as_close s p names) e

-- Each reading consumes a token.

token_advances : {V : Type 0} (r : Result (Option (V × ℕ)) Report) (takes : Bool) (f : Report) (p : ℕ) (v : V) → ((w : V) (q : ℕ) → r ≡ Ok (Some (w, q)) → p < q) → (token_by r takes (refused f 0) p).answer ≡ Ok v → 0 < (token_by r takes (refused f 0) p).passed
token_advances (Ok None) takes f p v h e = cc
token_advances (Ok (Some (w, q))) takes f p v h e = omega (arith, h w q refl)
token_advances (Err g) takes f p v h e = cc

pub advances_token : {V : Type 0} (read : Reader V) (message : List ℕ) → Advances (token read message)
advances_token read message a v e =
    token_advances (token_value_at read a) (allocates_at read a) (report_here a.source a.place a.names message) a.place v (forward_taken read a.source a.place a.names) e

and_then_advances : {V W : Type 0} (r : Result V Report) (n : ℕ) (takes : Bool) (next : V → Reading W) (a : State) (w : W) → ((v : V) → r ≡ Ok v → 0 < n) → (and_then_by r n takes next a).answer ≡ Ok w → 0 < (and_then_by r n takes next a).passed
and_then_advances (Ok v) n takes next a w h e = omega (arith, h v refl)
and_then_advances (Err g) n takes next a w h e = cc

pub advances_and_then : {V W : Type 0} (m : Reading V) (next : V → Reading W) → Advances m → Advances (and_then m next)
advances_and_then m next t a w e = and_then_advances (m a).answer (m a).passed (m a).takes_memory next a w (t a) e

mapped_advances : {V W : Type 0} (f : V → W) (r : Result V Report) (n : ℕ) (w : W) → ((v : V) → r ≡ Ok v → 0 < n) → known_as f r ≡ Ok w → 0 < n
mapped_advances f (Ok v) n w h e = h v refl
mapped_advances f (Err g) n w h e = cc

pub advances_mapped : {V W : Type 0} (f : V → W) (m : Reading V) → Advances m → Advances (mapped f m)
advances_mapped f m t a w e = mapped_advances f (m a).answer (m a).passed w (t a) e

pub advances_spanned : {V : Type 0} (m : Reading V) → Advances m → Advances (spanned m)
advances_spanned {V} m t a v e = mapped_advances {W = V × ℕ} (λ v. (v, current_span a.source a.place a.names)) (m a).answer (m a).passed v (t a) e

pub advances_pair : {V W : Type 0} (m : Reading V) (n : Reading W) → Advances m → Advances (pair m n)
advances_pair {V} {W} m n t = advances_and_then {W = V × W} m (λ v. mapped (λ w. (v, w)) n) t

pub advances_allocated : {V : Type 0} (m : Reading V) → Advances m → Advances (allocated m)
advances_allocated m t = t

passed_advances : {W : Type 0} (o : Option W) (f : Report) (n : ℕ) (takes : Bool) (w : W) → 0 < n → (passed_by o (refused f 0) n takes).answer ≡ Ok w → 0 < (passed_by o (refused f 0) n takes).passed
passed_advances (Some v) f n takes w l e = l
passed_advances None f n takes w l e = cc

checked_advances : {V W : Type 0} (r : Result V Report) (o : Outcome V) (check : V → Option W) (f : Report) (w : W) → ((v : V) → r ≡ Ok v → 0 < o.passed) → (checked_by r o check (refused f 0)).answer ≡ Ok w → 0 < (checked_by r o check (refused f 0)).passed
checked_advances (Ok v) o check f w h e = passed_advances (check v) f o.passed o.takes_memory w (h v refl) e
checked_advances (Err g) o check f w h e = cc

pub advances_checked : {V W : Type 0} (check : V → Option W) (message : List ℕ) (m : Reading V) → Advances m → Advances (checked check message m)
advances_checked check message m t a w e = checked_advances (m a).answer (m a) check (report_here a.source a.place a.names message) w (t a) e

where_seen_advances : {V : Type 0} (r : Result Bool Report) (takes : Bool) (o other : Outcome V) (v : V) → ((w : V) → o.answer ≡ Ok w → 0 < o.passed) → ((w : V) → other.answer ≡ Ok w → 0 < other.passed) → (where_seen_by r takes o other).answer ≡ Ok v → 0 < (where_seen_by r takes o other).passed
where_seen_advances (Ok true) takes o other v h k e = h v e
where_seen_advances (Ok false) takes o other v h k e = k v e
where_seen_advances (Err f) takes o other v h k e = cc

pub advances_where_seen : {V : Type 0} (sight : Sight) (m other : Reading V) → Advances m → Advances other → Advances (where_seen sight m other)
advances_where_seen sight m other t u a v e = where_seen_advances (sight a).known (sight a).takes (m a) (other a) v (t a) (u a) e

pub advances_refuse : (V : Type 0) (message : List ℕ) → Advances (refuse {V = V} message)
advances_refuse V message a v e = cc

closed_advances : {V : Type 0} (r : Result ℕ Report) (v : V) (takes : Bool) (p : ℕ) (w : V) → ((q : ℕ) → r ≡ Ok q → p < q) → (closed_by r v takes p).answer ≡ Ok w → 0 < (closed_by r v takes p).passed
closed_advances (Ok q) v takes p w h e = omega (arith, h q refl)
closed_advances (Err f) v takes p w h e = cc

inside_advances : {V : Type 0} (r : Result V Report) (o : Outcome V) (b a : State) (w : V) → a.place < b.place → (inside_by r o b a).answer ≡ Ok w → 0 < (inside_by r o b a).passed
inside_advances (Ok v) o b a w l e =
    closed_advances (closed a.source (b.place + o.passed) a.names) v o.takes_memory a.place w (λ q k. omega (arith, l, forward_closed a.source (b.place + o.passed) a.names q k)) e
inside_advances (Err f) o b a w l e = cc

opened_advances : {V : Type 0} (r : Result ℕ Report) (m : Reading V) (a : State) (w : V) → ((p : ℕ) → r ≡ Ok p → a.place < p) → (opened_by r m a).answer ≡ Ok w → 0 < (opened_by r m a).passed
opened_advances (Ok p) m a w h e = inside_advances (m (inside a p)).answer (m (inside a p)) (inside a p) a w (h p refl) e
opened_advances (Err f) m a w h e = cc

pub advances_group : {V : Type 0} (m : Reading V) → Advances (group m)
advances_group m a w e = opened_advances (opened a.source a.place a.names) m a w (forward_opened a.source a.place a.names) e

-- The promise of a call holds for each view of its values that equals the given one.
pub reads_alike : {V T : Type 0} (f g : T → V) (m : Reading V) (a : State) (r : Result T (Option Report)) (q : ℕ) → ((x : T) → f x ≡ g x) → Reads f m a r q → Reads g m a r q
reads_alike f g m a (Ok x) q e h = (h.0 ∙ ap Ok (e x), h.1)
reads_alike f g m a (Err None) q e h = h
reads_alike f g m a (Err (Some x)) q e h = h
