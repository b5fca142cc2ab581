-- The tokens after a visible token, and the position after it.
use Rattle.std.proofs.Common.{◌≡◌, ℕ, zero, suc, ◌+◌, ◌-◌, ◌<◌, ◌≤◌, List, [], ◌∷◌, refl, sym, ap, ◌∙◌, length, drop, drop-drop, length-drop, arith, Some, None, Ok, Err}
use Rattle.std.specs.Prelude.{Option, Result, slice_get}
use Rattle.wat_lex.specs.declared.lexer.faults.LexFault.{LexFault}
use Rattle.wat_lex.specs.declared.lexer.kinds.Token.{Token}
use Rattle.wat_lexer_parser.specs.declared.parser.fault.Fault.{Fault}
use Rattle.wat_lexer_parser.specs.declared.parser.fault.Step.{Step}
use Rattle.wat_lexer_parser.specs.declared.parser.fault.Step.TheVariants.{Pass, Take, Finish, Refuse, Skip}
use Rattle.wat_lexer_parser.specs.names.RegisteredNames.{Names}
use Rattle.wat_lexer_parser.specs.shown.Shown.{Finding, ended, unclosed_ending}
use Rattle.wat_lexer_parser.specs.laws.ShownLaws.{ShownIsTaken}
use Rattle.wat_lexer_parser.specs.lemmas.Parts.{end_of}
use Rattle.wat_lexer_parser.specs.places.Places.{offset_at}
use Rattle.wat_lexer_parser.specs.places.Source.{Source}
use Rattle.wat_lexer_parser.specs.shown.Showing.{placed, shown}
use Rattle.wat_lexer_parser.specs.inside.ShownIn.{Mode, Showing, Inside, shown_in, first, step_of, after}

-- What is visible of a token and the tokens after it, given the token's step.
abbrev pub does : List ℕ → Option LexFault → Names → Token → List Token → Step → Finding
does x z n t r Pass = shown_in x z n Showing r
does x z n t r Take = Ok (Some (t, r))
does x z n t r Finish = ended z
does x z n t r (Refuse f) = Err f
does x z n t r Skip = shown_in x z n (Inside t 0) r

-- `r` are the tokens after the token `t` in `ts`, which has `past` tokens before it.
pub record After (t : Token) (ts r : List Token) : Type 0 where
  pub past : ℕ
  pub inside : past < length ts
  pub there : slice_get ts past ≡ Some t
  pub tail : r ≡ drop (suc past) ts

one_more : (t u : Token) (ts r : List Token) → After t ts r → After t (u ∷ ts) r
one_more t u ts r b = record { past = suc b.past; inside = omega (arith, b.inside); there = b.there; tail = b.tail }

pub after_shorter : (t : Token) (ts r : List Token) → After t ts r → length r < length ts
after_shorter t ts r b = omega (arith, b.inside, ap length b.tail, length-drop (suc b.past) ts)

not_ended : (z : Option LexFault) (t : Token) (r : List Token) → ended z ≡ Ok (Some (t, r)) → ⊥
not_ended None t r e = cc
not_ended (Some f) t r e = cc

not_left : (z : Option LexFault) (o t : Token) (r : List Token) → unclosed_ending z o ≡ Ok (Some (t, r)) → ⊥
not_left None o t r e = cc
not_left (Some f) o t r e = cc

abbrev token_of : {A B F : Type 0} → A → Result (Option (A × B)) F → A
token_of d (Ok None) = d
token_of d (Ok (Some (a, b))) = a
token_of d (Err f) = d

abbrev rest_of : {A B F : Type 0} → B → Result (Option (A × B)) F → B
rest_of d (Ok None) = d
rest_of d (Ok (Some (a, b))) = b
rest_of d (Err f) = d

pub same_token : {A B F : Type 0} (t u : A) (r q : B) → ◌≡◌ {A = Result (Option (A × B)) F} (Ok (Some (t, r))) (Ok (Some (u, q))) → (t ≡ u) × (r ≡ q)
same_token t u r q e = (ap (token_of t) e, ap (rest_of r) e)

-- The finding's remaining tokens are those after the visible token.
pub after_in : (x : List ℕ) (z : Option LexFault) (n : Names) (m : Mode) (ts : List Token) (t : Token) (r : List Token) → shown_in x z n m ts ≡ Ok (Some (t, r)) → After t ts r
unfolding shown_in
after_in x z n Showing [] t r e = absurd (not_ended z t r e)
after_in x z n (Inside o d) [] t r e = absurd (not_left z o t r e)
after_in x z n Showing (u ∷ us) t r e = (elim (step_of x n u (first us)) as (λ k. does x z n u us k ≡ Ok (Some (t, r)) → After t (u ∷ us) r) [
  | Pass ↦ λ h. one_more t u us r (after_in x z n Showing us t r h)
  | Take ↦ λ h. let k = same_token u t us r h in record { past = 0; inside = omega arith; there = ap Some k.0; tail = sym k.1 }
  | Finish ↦ λ h. absurd (not_ended z t r h)
  | Refuse f ↦ λ h. cc
  | Skip ↦ λ h. one_more t u us r (after_in x z n (Inside u 0) us t r h)
]) e
after_in x z n (Inside o d) (u ∷ us) t r e = one_more t u us r (after_in x z n (after u.kind o d) us t r e)

pub forward_in : (x : List ℕ) (z : Option LexFault) (n : Names) (m : Mode) (ts : List Token) (t : Token) (r : List Token) → shown_in x z n m ts ≡ Ok (Some (t, r)) → length r < length ts
forward_in x z n m ts t r e = after_shorter t ts r (after_in x z n m ts t r e)

-- The token `t` is visible at position `p` and `r` are the tokens after it: the position after `t` is greater than
-- `p`, is within the tokens, and the token before it is `t`.
pub record AfterPlace (t : Token) (ts : List Token) (p : ℕ) (r : List Token) : Type 0 where
  pub forward : p < length ts - length r
  pub inside : length ts - length r ≤ length ts
  pub there : slice_get ts (length ts - length r - 1) ≡ Some t
  pub tail : r ≡ drop (length ts - length r) ts

get_of_tail : (ts : List Token) (p i : ℕ) → slice_get (drop p ts) i ≡ slice_get ts (p + i)
get_of_tail ts zero i = let e : i ≡ 0 + i = omega arith in ap (slice_get ts) e
get_of_tail [] (suc p) i = refl
get_of_tail (t ∷ ts) (suc p) i = let e : suc (p + i) ≡ suc p + i = omega arith in get_of_tail ts p i ∙ ap (slice_get (t ∷ ts)) e

pub after_place : (t : Token) (ts : List Token) (p : ℕ) (r : List Token) → After t (drop p ts) r → AfterPlace t ts p r
after_place t ts p r b =
    let e : r ≡ drop (p + (suc b.past)) ts = b.tail ∙ drop-drop _ _ ts in
    let h : length ts - length r ≡ p + (suc b.past) = omega (arith, b.inside, ap length e, length-drop (p + (suc b.past)) ts, length-drop p ts) in
    let k : length ts - length r - 1 ≡ p + b.past = omega (arith, h) in
    record { forward = omega (arith, h); inside = omega arith; there = ap (slice_get ts) k ∙ sym (get_of_tail ts p b.past) ∙ b.there; tail = e ∙ ap (λ k. drop k ts) (sym h) }

-- From the result of a peek at a position to the finding of the tokens from there.
pub from_none : (ts : List Token) (a : Finding) → placed ts a ≡ Ok None → a ≡ Ok None
from_none ts (Ok None) e = refl
from_none ts (Ok (Some (t, r))) e = cc
from_none ts (Err f) e = cc

pub from_fault : (ts : List Token) (a : Finding) (f : Fault) → placed ts a ≡ Err f → a ≡ Err f
from_fault ts (Ok None) f e = cc
from_fault ts (Ok (Some (t, r))) f e = cc
from_fault ts (Err g) f e = let k : g ≡ f = cc in ap Err k

pub from_token : (ts : List Token) (a : Finding) (t : Token) (q : ℕ) → placed ts a ≡ Ok (Some (t, q)) → (r : List Token) × (a ≡ Ok (Some (t, r))) × (length ts - length r ≡ q)
from_token ts (Ok None) t q e = cc
from_token ts (Ok (Some (u, r))) t q e = let k = same_token u t (length ts - length r) q e in (r, ap (λ v. Ok (Some (v, r))) k.0, k.1)
from_token ts (Err f) t q e = cc

-- The byte offset of a position is the end of the token before it.
end_at : (ts : List Token) (q : ℕ) (t : Token) → 0 < q → slice_get ts (q - 1) ≡ Some t → offset_at ts q ≡ t.offset + t.len
end_at ts zero t l e = absurd (omega arith)
end_at ts (suc q) t l e = let k : q ≡ suc q - 1 = omega arith in ap (λ i. end_of (slice_get ts i)) k ∙ ap end_of e

-- The position after a visible token is greater and within the tokens, and the token ends there.
pub shown_is_taken : ShownIsTaken
unfolding shown
shown_is_taken s p n t q e =
    let k = from_token s.tokens (shown_in s.setting.text s.ending n Showing (drop p s.tokens)) t q e in
    let b = after_place t s.tokens p k.0 (after_in s.setting.text s.ending n Showing (drop p s.tokens) t k.0 k.1) in
    let l : p < q = omega (arith, b.forward, k.2) in
    let f = ap (λ i. slice_get s.tokens (i - 1)) (sym k.2) ∙ b.there in
    (l, omega (arith, b.inside, k.2), f, end_at s.tokens q t (omega arith) f)

pub forward_shown : (s : Source) (p : ℕ) (n : Names) (t : Token) (q : ℕ) → shown s p n ≡ Ok (Some (t, q)) → (p < q) × (q ≤ length s.tokens)
forward_shown s p n t q e = let k = shown_is_taken s p n t q e in (k.0, k.1)
