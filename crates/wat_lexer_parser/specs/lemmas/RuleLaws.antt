-- Proofs that each reading and its rule agree about the visible tokens, in both directions. They hold at every
-- position, also before an error, because the ending is an argument. The contracts can be understood without them.
use Rattle.std.proofs.Common.{◌≡◌, ◌∙◌, ◌<◌, ◌≤◌, ◌+◌, ◌-◌, ◌⊎◌, inl, inr, ℕ, zero, suc, arith, List, [], ◌∷◌, Bool, true, false, refl, sym, ap, subst, length, Some, None, Ok, Err}
use Rattle.std.specs.Prelude.{Option, Result, codes, is_some, not}
use Rattle.wat_lex.specs.errors.Errors.{Report}
use Rattle.wat_lex.specs.declared.lexer.kinds.Token.{Token}
use Rattle.wat_lex.specs.declared.lexer.kinds.TokenKind.{TokenKind}
use Rattle.wat_lex.specs.declared.lexer.kinds.TokenKind.TheVariants.{LParen, RParen}
use Rattle.wat_lexer_parser.specs.groups.Sorts.{is_close}
use Rattle.wat_lexer_parser.specs.lemmas.After.{same_token, forward_shown}
use Rattle.wat_lexer_parser.specs.names.RegisteredNames.{Names}
use Rattle.wat_lexer_parser.specs.parser.State.{State, Seen, seen, known, report_here, message_at, at_place, peek_at}
use Rattle.wat_lexer_parser.specs.parser.Takers.{Reader, taken, token_value_by, as_annotation, as_open, as_close, token_value_at, allocates_at}
use Rattle.wat_lexer_parser.specs.lemmas.Parts.{sees, taken_or}
use Rattle.wat_lexer_parser.specs.places.Places.{current_span, empty_of}
use Rattle.wat_lexer_parser.specs.lemmas.Parts as parts
use Rattle.wat_lexer_parser.specs.places.Source.{Source}
use Rattle.wat_lexer_parser.specs.shown.Showing.{Look, shown}
use Rattle.wat_lexer_parser.specs.readings.Choices.{one_after}
use Rattle.wat_lexer_parser.specs.readings.Readings.{Outcome, Reading, on, refused, given, give, refuse, refuse_after, token, token_by, also_taking, after, and_then, and_then_by, known_as, mapped, spanned, allocated, passed_by, checked_by, checked, where_seen_by, where_seen, also_first, up_to, while_seen, closed_by, inside_by, opened_by, group, start, at_end, whole_by, whole, more_comes}
use Rattle.wat_lexer_parser.specs.parser.Sights.{Sight, sight_of, seen_after, second}
use Rattle.wat_lexer_parser.specs.readings.Types.{after_open, is_taken, sees_annotation, sees_word, spelling}
use Rattle.wat_lexer_parser.specs.parser.Closures.{opened, closed, inside}
use Rattle.wat_lexer_parser.specs.rules.Rules.{End, Ground, Rule, Telling, unless_fault, Nothing, Never, One, one, Then, Known, span_of, Spanned, Checked, WhereSeen, InGroup, Shrinks, While, none, more, known_word, after_kind, tells_kind, tells_word, tells_second, tells_after_open, tells_more}
use Rattle.wat_lexer_parser.specs.rules.Rules as rules

-- `At s names e p us`: the visible tokens from the position `p` are `us`, followed by the end of the text or the error
-- of `e`.
abbrev pub At : Source → Names → End → ℕ → List Token → Type 0
At s names e p [] = (seen s p names ≡ unless_fault {A = Option (Token × ℕ)} None e.fault) × (current_span s p names ≡ e.span)
At s names e p (t ∷ us) = (q : ℕ) × (shown s p names ≡ Ok (Some (t, q))) × At s names e q us

abbrev pub From : State → End → List Token → Type 0
From a e us = At a.source a.names e a.place us

abbrev pub ground : State → End → Ground
ground a e = record { text = a.source.setting.text; end = e }

pub move : (s : Source) (names : Names) (e : End) (p q : ℕ) (us : List Token) → p ≡ q → At s names e p us → At s names e q us
move s names e p q us h at = subst (λ p. At s names e p us) h at

-- The reading `m` yields a value if and only if the rule `R` derives it, and both leave the same tokens.
pub record Follows {V : Type 0} (m : Reading V) (R : Rule V) : Type 0 where
  pub sound : (a : State) (e : End) (us : List Token) (v : V) → From a e us → (m a).answer ≡ Ok v → (r : List Token) × From (on a (m a).passed) e r × R (ground a e) us v r
  pub complete : (a : State) (e : End) (us : List Token) (v : V) (r : List Token) → From a e us → R (ground a e) us v r → ((m a).answer ≡ Ok v) × From (on a (m a).passed) e r

pub follows_give : {V : Type 0} (v : V) → Follows (give v) (Nothing v)
follows_give v = record {
  sound = λ a e us w at h. let k : v ≡ w = cc in (us, move a.source a.names e a.place (a.place + 0) us (omega arith) at, (k, refl));
  complete = λ a e us w r at h. (ap Ok h.0, move a.source a.names e a.place (a.place + 0) r (omega arith) (subst (λ us. From a e us) h.1 at));
}

pub follows_refuse : (V : Type 0) (message : List ℕ) → Follows (refuse {V = V} message) Never
follows_refuse V message = record {
  sound = λ a e us w at h. cc;
  complete = λ a e us w r at h. absurd h;
}

pub then_got : {V W : Type 0} (x : Result V Report) (n : ℕ) (takes : Bool) (next : V → Reading W) (a : State) (w : W) → (and_then_by x n takes next a).answer ≡ Ok w
    → (v : V) × (x ≡ Ok v) × ((and_then_by x n takes next a).passed ≡ n + (next v (on a n)).passed) × ((next v (on a n)).answer ≡ Ok w)
then_got (Ok v) n takes next a w e = (v, refl, refl, e)
then_got (Err f) n takes next a w e = cc

pub follows_and_then : {V W : Type 0} (m : Reading V) (next : V → Reading W) (R : Rule V) (S : V → Rule W) → Follows m R → ((v : V) → Follows (next v) (S v)) → Follows (and_then m next) (Then R S)
follows_and_then m next R S f h = record {
  sound = λ a e us w at got.
      let n = (m a).passed in
      let k = then_got (m a).answer n (m a).takes_memory next a w got in
      let i = f.sound a e us k.0 at k.1 in
      let j = (h k.0).sound (on a n) e i.0 w i.1 k.3 in
      (j.0, move a.source a.names e (a.place + n + (next k.0 (on a n)).passed) (a.place + (and_then m next a).passed) j.0 (omega (arith, k.2)) j.1, (k.0, i.0, i.2, j.2));
  complete = λ a e us w r at g.
      let i = f.complete a e us g.0 g.1 at g.2 in
      let k = (h g.0).complete (on a (m a).passed) e g.1 w r i.1 g.3 in
      let o = and_then m next a in
      let is : o ≡ after (m a).passed (m a).takes_memory (next g.0 (on a (m a).passed)) = ap (λ x. and_then_by x (m a).passed (m a).takes_memory next a) i.0 in
      (ap (λ o. o.answer) is ∙ k.0, move a.source a.names e _ (a.place + o.passed) r (omega (arith, ap (λ o. o.passed) is)) k.1);
}

pub known_as_got : {V W : Type 0} (f : V → W) (x : Result V Report) (w : W) → known_as f x ≡ Ok w → (v : V) × (x ≡ Ok v) × (f v ≡ w)
known_as_got f (Ok v) w e = let k : f v ≡ w = cc in (v, refl, k)
known_as_got f (Err r) w e = cc

pub follows_mapped : {V W : Type 0} (f : V → W) (m : Reading V) (R : Rule V) → Follows m R → Follows (mapped f m) (Known f R)
follows_mapped f m R h = record {
  sound = λ a e us w at got.
      let k = known_as_got f (m a).answer w got in
      let j = h.sound a e us k.0 at k.1 in
      (j.0, j.1, (k.0, j.2, k.2));
  complete = λ a e us w r at g.
      let k = h.complete a e us g.0 r at g.1 in
      (ap (known_as f) k.0 ∙ ap Ok g.2, k.1);
}

-- The current span is the offset of the first visible token, or that of the ending.
pub span_at : (a : State) (e : End) (us : List Token) → From a e us → current_span a.source a.place a.names ≡ span_of (ground a e) us
unfolding current_span
span_at a e [] at = at.1
span_at a e (t ∷ us) at = ap (parts.span_of a.source a.place) at.1

pub follows_spanned : {V : Type 0} (m : Reading V) (R : Rule V) → Follows m R → Follows (spanned m) (Spanned R)
follows_spanned {V} m R h = record {
  sound = λ a e us w at got.
      let k = known_as_got {W = V × ℕ} (λ v. (v, current_span a.source a.place a.names)) (m a).answer w got in
      let j = h.sound a e us k.0 at k.1 in
      (j.0, j.1, (k.0, j.2, ap (λ n. (k.0, n)) (sym (span_at a e us at)) ∙ k.2));
  complete = λ a e us w r at g.
      let k = h.complete a e us g.0 r at g.1 in
      (ap (known_as {W = V × ℕ} (λ v. (v, current_span a.source a.place a.names))) k.0 ∙ ap Ok (ap (λ n. (g.0, n)) (span_at a e us at) ∙ g.2), k.1);
}

pub follows_also : {V : Type 0} (takes : Bool) (m : Reading V) (R : Rule V) → Follows m R → Follows (λ a. also_taking takes (m a)) R
follows_also takes m R h = record { sound = h.sound; complete = h.complete }

pub follows_allocated : {V : Type 0} (m : Reading V) (R : Rule V) → Follows m R → Follows (allocated m) R
follows_allocated m R h = follows_also true m R h

passed_got : {W : Type 0} (x : Option W) (f : Report) (n : ℕ) (takes : Bool) (w : W) → (passed_by x (refused f 0) n takes).answer ≡ Ok w → (x ≡ Some w) × ((passed_by x (refused f 0) n takes).passed ≡ n)
passed_got (Some v) f n takes w e = let k : v ≡ w = cc in (ap Some k, refl)
passed_got None f n takes w e = cc

pub checked_got : {V W : Type 0} (x : Result V Report) (o : Outcome V) (check : V → Option W) (f : Report) (w : W) → (checked_by x o check (refused f 0)).answer ≡ Ok w
    → (v : V) × (x ≡ Ok v) × (check v ≡ Some w) × ((checked_by x o check (refused f 0)).passed ≡ o.passed)
checked_got (Ok v) o check f w e = let k = passed_got (check v) f o.passed o.takes_memory w e in (v, refl, k.0, k.1)
checked_got (Err g) o check f w e = cc

pub follows_checked : {V W : Type 0} (check : V → Option W) (message : List ℕ) (m : Reading V) (R : Rule V) → Follows m R → Follows (checked check message m) (Checked check R)
follows_checked check message m R h = record {
  sound = λ a e us w at got.
      let k = checked_got (m a).answer (m a) check _ w got in
      let j = h.sound a e us k.0 at k.1 in
      (j.0, move a.source a.names e (a.place + (m a).passed) (a.place + (checked check message m a).passed) j.0 (ap (λ n. a.place + n) (sym k.3)) j.1, (k.0, j.2, k.2));
  complete = λ a e us w r at g.
      let k = h.complete a e us g.0 r at g.1 in
      let is : checked check message m a ≡ given w (m a).passed (m a).takes_memory =
      ap (λ x. checked_by x (m a) check (refuse message a)) k.0 ∙ ap (λ x. passed_by x (refuse message a) (m a).passed (m a).takes_memory) g.2 in
      (ap (λ o. o.answer) is, move a.source a.names e _ _ r (ap (λ o. a.place + o.passed) (sym is)) k.1);
}

-- Tokens.

known_token : (x : List ℕ) (l : Look) (t : Token) (q : ℕ) → known x l ≡ Ok (Some (t, q)) → l ≡ Ok (Some (t, q))
known_token x (Ok found) t q e = let k : found ≡ Some (t, q) = cc in ap Ok k
known_token x (Err f) t q e = cc

pub shown_token : (a : State) (t : Token) (q : ℕ) → peek_at a ≡ Ok (Some (t, q)) → shown a.source a.place a.names ≡ Ok (Some (t, q))
unfolding seen
shown_token a t q e = known_token a.source.setting.text (shown a.source a.place a.names) t q e

pub seen_token : (a : State) (t : Token) (q : ℕ) → shown a.source a.place a.names ≡ Ok (Some (t, q)) → peek_at a ≡ Ok (Some (t, q))
unfolding seen
seen_token a t q e = ap (known a.source.setting.text) e

not_ended : (f : Option Report) (t : Token) (q : ℕ) → ◌≡◌ {A = Seen} (Ok (Some (t, q))) (unless_fault None f) → ⊥
not_ended None t q e = cc
not_ended (Some f) t q e = cc

taken_by_token : {V : Type 0} (o : Option (Result V Report)) (r : ℕ) (v : V) (q : ℕ) → token_value_by r o ≡ Ok (Some (v, q)) → (r ≡ q) × (o ≡ Some (Ok v))
taken_by_token None r v q e = cc
taken_by_token (Some (Ok w)) r v q e = let k = same_token w v r q e in (k.1, ap (λ w. Some (Ok w)) k.0)
taken_by_token (Some (Err f)) r v q e = cc

pub taken_token : {V : Type 0} (read : Reader V) (x : List ℕ) (a : Seen) (v : V) (q : ℕ) → taken read x a ≡ Ok (Some (v, q)) → (t : Token) × (a ≡ Ok (Some (t, q))) × (read x t t.kind ≡ Some (Ok v))
taken_token read x (Ok None) v q e = cc
taken_token read x (Ok (Some (t, r))) v q e = let k = taken_by_token (read x t t.kind) r v q e in (t, ap (λ r. Ok (Some (t, r))) k.0, k.1)
taken_token read x (Err f) v q e = cc

pub token_got : {V : Type 0} (x : Result (Option (V × ℕ)) Report) (takes : Bool) (f : Report) (p : ℕ) (v : V) → (token_by x takes (refused f 0) p).answer ≡ Ok v
    → (q : ℕ) × (x ≡ Ok (Some (v, q))) × ((token_by x takes (refused f 0) p).passed ≡ q - p)
token_got (Ok None) takes f p v e = cc
token_got (Ok (Some (w, q))) takes f p v e = let k : w ≡ v = cc in (q, ap (λ w. Ok (Some (w, q))) k, refl)
token_got (Err g) takes f p v e = cc

-- A token that the reader accepts is the first visible token.
one_of_shown : {V : Type 0} (read : Reader V) (a : State) (e : End) (us : List Token) (v : V) (t : Token) (q n : ℕ) → From a e us → peek_at a ≡ Ok (Some (t, q)) → read a.source.setting.text t t.kind ≡ Some (Ok v) → n ≡ q - a.place
    → (r : List Token) × From (on a n) e r × One read (ground a e) us v r
one_of_shown read a e [] v t q n at is takes k = absurd (not_ended e.fault t q (sym is ∙ at.0))
one_of_shown read a e (u ∷ r) v t q n at is takes k =
    let same = same_token t u q at.0 (sym (shown_token a t q is) ∙ at.1) in
    let l = forward_shown a.source a.place a.names u at.0 at.1 in
    (r, move a.source a.names e at.0 (a.place + n) r (omega (arith, k, same.1, l.0)) at.2, one (subst (λ t. read a.source.setting.text t t.kind ≡ Some (Ok v)) same.0 takes))

pub follows_token : {V : Type 0} (read : Reader V) (message : List ℕ) → Follows (token read message) (One read)
follows_token {V} read message = record {
  sound = λ a e us v at got.
      let k = token_got (taken read a.source.setting.text (peek_at a)) _ _ a.place v got in
      let t = taken_token read a.source.setting.text (peek_at a) v k.0 k.1 in
      one_of_shown read a e us v t.0 k.0 _ at t.1 t.2 k.2;
  complete = λ a e us v r at g. takes a e us v r at g;
}
  where
    takes : (a : State) (e : End) (us : List Token) (v : V) (r : List Token) → From a e us → One read (ground a e) us v r → ((token read message a).answer ≡ Ok v) × From (on a (token read message a).passed) e r
    takes a e us v r at (one {t = t} h) =
        let is : taken read a.source.setting.text (peek_at a) ≡ Ok (Some (v, at.0)) = ap (taken read a.source.setting.text) (seen_token a t at.0 at.1) ∙ ap (token_value_by at.0) h in
        let o : token read message a ≡ given v (at.0 - a.place) _ = ap (λ x. token_by x (allocates_at read a) (refuse message a) a.place) is in
        let l = forward_shown a.source a.place a.names t at.0 at.1 in
        (ap (λ o. o.answer) o, move a.source a.names e at.0 _ r (omega (arith, ap (λ o. o.passed) o, l.0)) at.2)

-- Peeks.

-- The peek of a parser and the peek over visible tokens have equal results.
abbrev pub Agrees : Sight → Telling → Type 0
Agrees sight look = (a : State) (e : End) (us : List Token) → From a e us → (sight a).known ≡ look (ground a e) us

sees_end : {V : Type 0} (read : Reader V) (x : List ℕ) (f : Option Report) → sees read x (unless_fault None f) ≡ unless_fault false f
sees_end read x None = refl
sees_end read x (Some f) = refl

pub agrees_kind : {V : Type 0} (read : Reader V) → Agrees (sight_of read) (tells_kind read)
agrees_kind read a e [] at = ap (sees read a.source.setting.text) at.0 ∙ sees_end read a.source.setting.text e.fault
agrees_kind read a e (t ∷ us) at = ap (sees read a.source.setting.text) (seen_token a t at.0 at.1)

found_end : (A : Type 0) (sight : Sight) (a : State) (f : Option Report) → (seen_after {A = A} sight a (unless_fault None f)).known ≡ unless_fault false f
found_end A sight a None = refl
found_end A sight a (Some f) = refl

pub agrees_second : (sight : Sight) (look : Telling) → Agrees sight look → Agrees (second sight) (tells_second look)
agrees_second sight look h a e [] at = ap (λ x. (seen_after sight a x).known) at.0 ∙ found_end Token sight a e.fault
agrees_second sight look h a e (t ∷ us) at = ap (λ x. (seen_after sight a x).known) (seen_token a t at.0 at.1) ∙ h (at_place a at.0) e us at.2

open_end : (x : List ℕ) (f : Option Report) → taken as_open x (unless_fault None f) ≡ unless_fault None f
open_end x None = refl
open_end x (Some f) = refl

pub agrees_after_open : (sight : Sight) (look : Telling) → Agrees sight look → Agrees (after_open sight) (tells_after_open look)
agrees_after_open sight look h a e [] at = ap (λ x. (seen_after sight a x).known) (ap (taken as_open a.source.setting.text) at.0 ∙ open_end a.source.setting.text e.fault) ∙ found_end (Unit {0}) sight a e.fault
agrees_after_open sight look h a e (t ∷ us) at = ap (λ x. (seen_after sight a (taken as_open a.source.setting.text x)).known) (seen_token a t at.0 at.1) ∙ by_kind t.kind
  where
    by_kind : (k : TokenKind) → (seen_after sight a (token_value_by at.0 (as_open a.source.setting.text t k))).known ≡ after_kind k (look (ground a e) us)
    by_kind LParen = h (at_place a at.0) e us at.2
    by_kind k = refl

word_end : (read : Reader (Unit {0})) (x : List ℕ) (f : Option Report) → is_taken (taken read x (unless_fault None f)) ≡ unless_fault false f
word_end read x None = refl
word_end read x (Some f) = refl

word_of : (q : ℕ) (o : Option (Result (Unit {0}) Report)) → is_taken (token_value_by q o) ≡ known_word o
word_of q None = refl
word_of q (Some (Ok u)) = refl
word_of q (Some (Err f)) = refl

pub agrees_word : (read : Reader (List ℕ)) (w : List ℕ) → Agrees (sees_word read w) (tells_word (spelling read w))
agrees_word read w a e [] at = ap (λ x. is_taken (taken (spelling read w) a.source.setting.text x)) at.0 ∙ word_end (spelling read w) a.source.setting.text e.fault
agrees_word read w a e (t ∷ us) at =
    ap (λ x. is_taken (taken (spelling read w) a.source.setting.text x)) (seen_token a t at.0 at.1) ∙ word_of at.0 (spelling read w a.source.setting.text t t.kind)

pub agrees_annotation : (w : List ℕ) → Agrees (sees_annotation w) (tells_word (spelling as_annotation w))
agrees_annotation w a e us at = agrees_word as_annotation w a e us at

-- True if the end of the text or a `)` is next.
abbrev is_group_end : Seen → Bool
is_group_end (Ok None) = true
is_group_end (Ok (Some (t, q))) = is_close t.kind
is_group_end (Err f) = false

over_known : (x : List ℕ) (l : Look) → empty_of l ≡ is_group_end (known x l)
over_known x (Ok None) = refl
over_known x (Ok (Some (t, q))) = refl
over_known x (Err f) = refl

over_here : (a : State) → empty_of (shown a.source a.place a.names) ≡ is_group_end (peek_at a)
unfolding seen
over_here a = over_known a.source.setting.text (shown a.source a.place a.names)

over_end : (f : Option Report) → not (is_group_end (unless_fault None f)) ≡ is_some f
over_end None = refl
over_end (Some f) = refl

pub agrees_more : Agrees more_comes tells_more
agrees_more a e [] at = ap (λ b. Ok (not b)) (over_here a ∙ ap is_group_end at.0) ∙ ap Ok (over_end e.fault)
agrees_more a e (t ∷ us) at = ap (λ l. Ok (not (empty_of l))) at.1

pub seen_got : {V : Type 0} (x : Result Bool Report) (takes : Bool) (o other : Outcome V) (v : V) → (where_seen_by x takes o other).answer ≡ Ok v
    → ((x ≡ Ok true) × (o.answer ≡ Ok v) × ((where_seen_by x takes o other).passed ≡ o.passed)) ⊎ ((x ≡ Ok false) × (other.answer ≡ Ok v) × ((where_seen_by x takes o other).passed ≡ other.passed))
seen_got (Ok true) takes o other v e = inl (refl, e, refl)
seen_got (Ok false) takes o other v e = inr (refl, e, refl)
seen_got (Err f) takes o other v e = cc

pub follows_where_seen : {V : Type 0} (sight : Sight) (look : Telling) (m n : Reading V) (R S : Rule V) → Agrees sight look → Follows m R → Follows n S → Follows (where_seen sight m n) (WhereSeen look R S)
follows_where_seen sight look m n R S t f g = record {
  sound = λ a e us v at got. elim (seen_got (sight a).known (sight a).takes (m a) (n a) v got) [
    | inl h ↦ let k = f.sound a e us v at h.1 in (k.0, move a.source a.names e (a.place + (m a).passed) (a.place + (where_seen sight m n a).passed) k.0 (omega (arith, h.2)) k.1, inl (sym (t a e us at) ∙ h.0, k.2))
    | inr h ↦ let k = g.sound a e us v at h.1 in (k.0, move a.source a.names e (a.place + (n a).passed) (a.place + (where_seen sight m n a).passed) k.0 (omega (arith, h.2)) k.1, inr (sym (t a e us at) ∙ h.0, k.2))
  ];
  complete = λ a e us v r at h. elim h [
    | inl h ↦
        let k = f.complete a e us v r at h.1 in
        let o : where_seen sight m n a ≡ also_taking (sight a).takes (m a) = ap (λ x. where_seen_by x (sight a).takes (m a) (n a)) (t a e us at ∙ h.0) in
        (ap (λ o. o.answer) o ∙ k.0, move a.source a.names e _ _ r (omega (arith, ap (λ o. o.passed) o)) k.1)
    | inr h ↦
        let k = g.complete a e us v r at h.1 in
        let o : where_seen sight m n a ≡ also_taking (sight a).takes (n a) = ap (λ x. where_seen_by x (sight a).takes (m a) (n a)) (t a e us at ∙ h.0) in
        (ap (λ o. o.answer) o ∙ k.0, move a.source a.names e _ _ r (omega (arith, ap (λ o. o.passed) o)) k.1)
  ];
}

pub follows_refuse_after : (V : Type 0) (message : List ℕ) → Follows (refuse_after {V = V} message) Never
follows_refuse_after V message = record {
  sound = λ a e us w at got. cc;
  complete = λ a e us w r at h. absurd h;
}

pub follows_none : (V : Type 0) (missed : List (List ℕ)) → Follows (one_after {V = V} missed []) Never
follows_none V missed = record {
  sound = λ a e us w at got. cc;
  complete = λ a e us w r at h. absurd h;
}

-- Repetitions.

abbrev pub UpTo : {V : Type 0} → ℕ → Telling → Rule V → Rule (List V)
UpTo zero look R = Never
UpTo (suc n) look R = WhereSeen look (Then R (λ v. Known (λ vs. v ∷ vs) (UpTo n look R))) (Nothing [])

follows_up_to : {V : Type 0} (n : ℕ) (sight : Sight) (look : Telling) (m : Reading V) (R : Rule V) → Agrees sight look → Follows m R → Follows (up_to n sight m) (UpTo n look R)
follows_up_to {V} zero sight look m R t f = follows_refuse (List V) []
follows_up_to (suc n) sight look m R t f =
    let rest = follows_up_to n sight look m R t f in
    let first = follows_and_then m (λ v. mapped (λ vs. v ∷ vs) (up_to n sight m)) R (λ v. Known (λ vs. v ∷ vs) (UpTo n look R)) f (λ v. follows_mapped (λ vs. v ∷ vs) (up_to n sight m) (UpTo n look R) rest) in
    follows_where_seen sight look (also_first m (up_to n sight m)) (give []) _ (Nothing []) t (follows_allocated _ _ first) (follows_give [])

while_of : {V : Type 0} (n : ℕ) (look : Telling) (R : Rule V) (g : Ground) (ts : List Token) (vs : List V) (r : List Token) → UpTo n look R g ts vs r → While look R g ts vs r
while_of zero look R g ts vs r h = absurd h
while_of {V} (suc n) look R g ts vs r h = elim h [
  | inl k ↦ let rest = k.1.3 in subst (λ vs. While look R g ts vs r) rest.2 (more k.0 k.1.2 (while_of n look R g k.1.1 rest.0 r rest.1))
  | inr k ↦ subst (λ r. While look R g ts vs r) k.1.1 (subst (λ vs. While look R g ts vs ts) k.1.0 (none k.0))
]

rounds_of : {V : Type 0} (n : ℕ) (look : Telling) (R : Rule V) (g : Ground) (ts : List Token) (vs : List V) (r : List Token) → Shrinks R → length ts < n → While look R g ts vs r → UpTo n look R g ts vs r
rounds_of zero look R g ts vs r s l h = absurd (omega (arith, l))
rounds_of (suc n) look R g ts _ _ s l (none e) = inr (e, (refl, refl))
rounds_of (suc n) look R g ts _ r s l (more {r = us} {v = v} {vs = vs} e h w) =
    inl (e, (v, us, h, (vs, rounds_of n look R g us vs r s (omega (arith, l, s g ts v us h)) w, refl)))

at_length : (s : Source) (names : Names) (e : End) (p : ℕ) (us : List Token) → At s names e p us → length us ≤ length s.tokens - p
at_length s names e p [] at = omega arith
at_length s names e p (t ∷ us) at = omega (arith, at_length s names e at.0 us at.2, (forward_shown s p names t at.0 at.1).0, (forward_shown s p names t at.0 at.1).1)

pub follows_while : {V : Type 0} (sight : Sight) (look : Telling) (m : Reading V) (R : Rule V) → Shrinks R → Agrees sight look → Follows m R → Follows (while_seen sight m) (While look R)
unfolding while_seen
follows_while sight look m R h t f = record {
  sound = λ a e us vs at got.
      let n = suc (length a.source.tokens) in
      let k = (follows_up_to n sight look m R t f).sound a e us vs at got in
      (k.0, k.1, while_of n look R (ground a e) us vs k.0 k.2);
  complete = λ a e us vs r at w.
      let n = suc (length a.source.tokens) in
      (follows_up_to n sight look m R t f).complete a e us vs r at (rounds_of n look R (ground a e) us vs r h (omega (arith, at_length a.source a.names e a.place us at)) w);
}

-- Groups.

open_kind : (x : List ℕ) (t : Token) (k : TokenKind) (v : Unit {0}) → as_open x t k ≡ Some (Ok v) → k ≡ LParen
open_kind x t LParen v e = refl
open_kind x t k v e = cc

close_kind : (x : List ℕ) (t : Token) (k : TokenKind) (v : Unit {0}) → as_close x t k ≡ Some (Ok v) → k ≡ RParen
close_kind x t RParen v e = refl
close_kind x t k v e = cc

grouped : {V : Type 0} (R : Rule V) (g : Ground) (us ts r q : List Token) (u w : Unit {0}) (v : V) → One as_open g us u ts → R g ts v r → One as_close g r w q → InGroup R g us v q
grouped R g _ ts _ q u w v (one {t = o} e) h (one {t = c} f) = rules.group (open_kind g.text o o.kind u e) h (close_kind g.text c c.kind w f)

taken_got : (f : Report) (x : Result (Option (Unit {0} × ℕ)) Report) (q : ℕ) → taken_or f x ≡ Ok q → (u : Unit {0}) × (x ≡ Ok (Some (u, q)))
taken_got f (Ok None) q e = cc
taken_got f (Ok (Some (u, p))) q e = let k : p ≡ q = cc in (u, ap (λ p. Ok (Some (u, p))) k)
taken_got f (Err g) q e = cc

opened_got : (a : State) (p : ℕ) → opened a.source a.place a.names ≡ Ok p → (u : Unit {0}) × (token_value_at as_open a ≡ Ok (Some (u, p)))
unfolding opened
opened_got a p e = taken_got _ (token_value_at as_open a) p e

closed_got : (a : State) (q : ℕ) → closed a.source a.place a.names ≡ Ok q → (u : Unit {0}) × (token_value_at as_close a ≡ Ok (Some (u, q)))
unfolding closed
closed_got a q e = taken_got _ (token_value_at as_close a) q e

opened_of : (a : State) (p : ℕ) → token_value_at as_open a ≡ Ok (Some (tt, p)) → opened a.source a.place a.names ≡ Ok p
unfolding opened
opened_of a p e = ap (taken_or (report_here a.source a.place a.names (codes "expected `(`"))) e

closed_of : (a : State) (q : ℕ) → token_value_at as_close a ≡ Ok (Some (tt, q)) → closed a.source a.place a.names ≡ Ok q
unfolding closed
closed_of a q e = ap (taken_or (report_here a.source a.place a.names (codes "expected `)`"))) e

-- A parenthesis that is consumed is the first visible token.
paren_taken : (read : Reader (Unit {0})) (a : State) (e : End) (us : List Token) (u : Unit {0}) (q : ℕ) → From a e us → token_value_at read a ≡ Ok (Some (u, q)) → (r : List Token) × From (at_place a q) e r × One read (ground a e) us u r × (a.place < q)
paren_taken read a e us u q at is =
    let t = taken_token read a.source.setting.text (peek_at a) u q is in
    let l = forward_shown a.source a.place a.names t.0 q (shown_token a t.0 q t.1) in
    let k = one_of_shown read a e us u t.0 q (q - a.place) at t.1 t.2 refl in
    (k.0, move a.source a.names e (a.place + (q - a.place)) q k.0 (omega (arith, l.0)) k.1, k.2, l.0)

-- If the first visible token is this parenthesis, it is consumed.
taken_paren : (read : Reader (Unit {0})) (a : State) (e : End) (t : Token) (r : List Token) → From a e (t ∷ r) → read a.source.setting.text t t.kind ≡ Some (Ok tt) → (q : ℕ) × (token_value_at read a ≡ Ok (Some (tt, q))) × From (at_place a q) e r × (a.place < q)
taken_paren read a e t r at h =
    (at.0, ap (taken read a.source.setting.text) (seen_token a t at.0 at.1) ∙ ap (token_value_by at.0) h, at.2, (forward_shown a.source a.place a.names t at.0 at.1).0)

closed_by_got : {V : Type 0} (c : Result ℕ Report) (w : V) (takes : Bool) (p : ℕ) (v : V) → (closed_by c w takes p).answer ≡ Ok v → (q : ℕ) × (c ≡ Ok q) × (w ≡ v) × ((closed_by c w takes p).passed ≡ q - p)
closed_by_got (Ok q) w takes p v e = let k : w ≡ v = cc in (q, refl, k, refl)
closed_by_got (Err f) w takes p v e = cc

inside_got : {V : Type 0} (x : Result V Report) (o : Outcome V) (b a : State) (v : V) → (inside_by x o b a).answer ≡ Ok v
    → (q : ℕ) × (x ≡ Ok v) × (closed a.source (b.place + o.passed) a.names ≡ Ok q) × ((inside_by x o b a).passed ≡ q - a.place)
inside_got (Ok w) o b a v e = let k = closed_by_got (closed a.source (b.place + o.passed) a.names) w o.takes_memory a.place v e in (k.0, ap Ok k.2, k.1, k.3)
inside_got (Err f) o b a v e = cc

-- The parts of a group: the position after `(`, the value, and the position after `)`.
pub group_got : {V : Type 0} (x : Result ℕ Report) (m : Reading V) (a : State) (v : V) → (opened_by x m a).answer ≡ Ok v
    → (p q : ℕ) × (x ≡ Ok p) × ((m (inside a p)).answer ≡ Ok v) × (closed a.source (p + (m (inside a p)).passed) a.names ≡ Ok q) × ((opened_by x m a).passed ≡ q - a.place)
group_got (Ok p) m a v e = let k = inside_got (m (inside a p)).answer (m (inside a p)) (inside a p) a v e in (p, k.0, refl, k.1, k.2, k.3)
group_got (Err f) m a v e = cc

pub group_passed : {V : Type 0} (m : Reading V) (a : State) (v : V) → (group m a).answer ≡ Ok v → 0 < (group m a).passed
group_passed m a v got =
    let k = group_got (opened a.source a.place a.names) m a v got in
    let b = at_place a (k.0 + (m (inside a k.0)).passed) in
    let o = opened_got a k.0 k.2 in
    let c = closed_got b k.1 k.4 in
    let t = taken_token as_open a.source.setting.text (peek_at a) o.0 k.0 o.1 in
    let u = taken_token as_close a.source.setting.text (peek_at b) c.0 k.1 c.1 in
    omega (arith, k.5, (forward_shown a.source a.place a.names t.0 k.0 (shown_token a t.0 k.0 t.1)).0, (forward_shown b.source b.place b.names u.0 k.1 (shown_token b u.0 k.1 u.1)).0)

pub follows_group : {V : Type 0} (m : Reading V) (R : Rule V) → Follows m R → Follows (group m) (InGroup R)
follows_group {V} m R f = record {
  sound = λ a e us v at got.
      let k = group_got (opened a.source a.place a.names) m a v got in
      let i = (m (inside a k.0)).passed in
      let o = opened_got a k.0 k.2 in
      let z = closed_got (at_place a (k.0 + i)) k.1 k.4 in
      let p = paren_taken as_open a e us o.0 k.0 at o.1 in
      let b = f.sound (inside a k.0) e p.0 v p.1 k.3 in
      let c = paren_taken as_close (at_place a (k.0 + i)) e b.0 z.0 k.1 b.1 z.1 in
      (c.0, move a.source a.names e k.1 (a.place + (group m a).passed) c.0 (omega (arith, k.5, p.3, c.3)) c.1, grouped R (ground a e) us p.0 b.0 c.0 o.0 z.0 v p.2 b.2 c.2);
  complete = λ a e us v r at g. reads a e us v r at g;
}
  where
    reads : (a : State) (e : End) (us : List Token) (v : V) (r : List Token) → From a e us → InGroup R (ground a e) us v r → ((group m a).answer ≡ Ok v) × From (on a (group m a).passed) e r
    reads a e us v r at (rules.group {o = o} {c = c} {ts = ts} opens h closes) =
        let text = a.source.setting.text in
        let p = taken_paren as_open a e o ts at (ap (as_open text o) opens) in
        let b = inside a p.0 in
        let i = m b in
        let k = f.complete b e ts v (c ∷ r) p.2 h in
        let q = taken_paren as_close (at_place a (p.0 + i.passed)) e c r k.1 (ap (as_close text c) closes) in
        let is : group m a ≡ given v (q.0 - a.place) i.takes_memory =
        ap (λ x. opened_by x m a) (opened_of a p.0 p.1) ∙ ap (λ x. inside_by x i b a) k.0 ∙ ap (λ x. closed_by x v i.takes_memory a.place) (closed_of (at_place a (p.0 + i.passed)) q.0 q.1) in
        (ap (λ o. o.answer) is, move a.source a.names e q.0 _ r (omega (arith, ap (λ o. o.passed) is, p.3, q.3)) q.2)

-- Whole texts.

-- The result for a whole text that begins with a value: the value, the error after it, or the error at a token that is
-- left.
abbrev pub left : {V : Type 0} → Source → End → V → List Token → Result V Report
left s e v [] = unless_fault v e.fault
left s e v (t ∷ r) = Err (message_at s t.offset (codes "extra tokens remaining after parse"))

ended_end : {V : Type 0} (f : Option Report) (v : V) (s : Source) → at_end (unless_fault None f) v s ≡ unless_fault v f
ended_end None v s = refl
ended_end (Some f) v s = refl

ended_left : {V : Type 0} (a : State) (e : End) (r : List Token) (v : V) (s : Source) → From a e r → at_end (peek_at a) v s ≡ left s e v r
ended_left a e [] v s at = ap (λ x. at_end x v s) at.0 ∙ ended_end e.fault v s
ended_left a e (t ∷ r) v s at = ap (λ x. at_end x v s) (seen_token a t at.0 at.1)

pub spelled_is_whole : {V : Type 0} (m : Reading V) (R : Rule V) → Follows m R → (s : Source) (e : End) (us : List Token) (v : V) (r : List Token) → From (start s) e us → R (ground (start s) e) us v r → whole m s ≡ left s e v r
spelled_is_whole m R f s e us v r at h =
    let o = m (start s) in
    let k = f.complete (start s) e us v r at h in
    ap (λ x. whole_by x o.passed s) k.0 ∙ ended_left (on (start s) o.passed) e r v s k.1

left_none : {V : Type 0} (s : Source) (e : End) (w v : V) (r : List Token) → left s e w r ≡ Ok v → (e.fault ≡ None) × (w ≡ v) × (r ≡ [])
left_none s e w v [] h = by_fault e.fault h
  where
    by_fault : (f : Option Report) → unless_fault w f ≡ Ok v → (f ≡ None) × (w ≡ v) × (◌≡◌ {A = List Token} [] [])
    by_fault None h = let k : w ≡ v = cc in (refl, k, refl)
    by_fault (Some f) h = cc
left_none s e w v (t ∷ r) h = cc

whole_got : {V : Type 0} (x : Result V Report) (n : ℕ) (s : Source) (v : V) → whole_by x n s ≡ Ok v → (w : V) × (x ≡ Ok w) × (at_end (peek_at (on (start s) n)) w s ≡ Ok v)
whole_got (Ok w) n s v e = (w, refl, e)
whole_got (Err f) n s v e = cc

pub whole_is_spelled : {V : Type 0} (m : Reading V) (R : Rule V) → Follows m R → (s : Source) (e : End) (us : List Token) (v : V) → From (start s) e us → whole m s ≡ Ok v → (e.fault ≡ None) × R (ground (start s) e) us v []
whole_is_spelled m R f s e us v at h =
    let o = m (start s) in
    let k = whole_got o.answer o.passed s v h in
    let j = f.sound (start s) e us k.0 at k.1 in
    let l = left_none s e k.0 v j.0 (sym (ended_left (on (start s) o.passed) e j.0 k.0 s j.1) ∙ k.2) in
    (l.0, subst (λ r. R (ground (start s) e) us v r) l.2 (subst (λ v. R (ground (start s) e) us v j.0) l.1 j.2))

-- Consumption of the first token.

pub advances_token : {V : Type 0} (read : Reader V) (message : List ℕ) → ((a : State) (v : V) → (token read message a).answer ≡ Ok v → 0 < (token read message a).passed)
advances_token read message a v e =
    let k = token_got (taken read a.source.setting.text (peek_at a)) _ _ a.place v e in
    let t = taken_token read a.source.setting.text (peek_at a) v k.0 k.1 in
    omega (arith, k.2, (forward_shown a.source a.place a.names t.0 k.0 (shown_token a t.0 k.0 t.1)).0)

pub shrinks_one : {V : Type 0} (read : Reader V) → Shrinks (One read)
shrinks_one read g _ v r (one e) = omega arith
