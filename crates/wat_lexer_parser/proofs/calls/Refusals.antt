-- Peeks and rejected calls do not change the state.
use Rattle.std.proofs.Common.{◌≡◌, ℕ, List, [], ◌∷◌, Bool, true, false, refl, sym, ap, ◌∙◌, inl, inr, Some, None, Ok, Err}
use Rattle.std.specs.Prelude.{if◌then◌else◌, nat_eq, Result, string_bytes}
use Rattle.std.proofs.lemmas.Bool.{cases_Bool}
use Rattle.wat_lex.specs.declared.lexer.kinds.TokenKind.{TokenKind}
use Rattle.wat_lexer_parser.specs.declared.parser.fault.Fault.{Fault}
use Rattle.wat_lexer_parser.specs.declared.parser.calls.Call.{Call}
use Rattle.wat_lexer_parser.specs.declared.parser.calls.Call.TheVariants as call
use Rattle.wat_lexer_parser.specs.declared.parser.calls.Reply.{Reply}
use Rattle.wat_lexer_parser.specs.declared.parser.calls.Reply.TheVariants as reply
use Rattle.wat_lexer_parser.specs.calls.Calls.{answer, replies, state_after, shown_reply, comment_reply, position_after, after_taking, paren_reply, close_reply, group_reply}
use Rattle.wat_lexer_parser.specs.laws.CallLaws.{is_done, is_kept, kept_calls, kept_replies, IsIndependentOfPeeks}
use Rattle.wat_lexer_parser.specs.groups.Sorts.{is_open, is_close}
use Rattle.wat_lexer_parser.specs.names.RegisteredNames.{max_registrations, Names, count, more, fewer, is_registered}
use Rattle.wat_lexer_parser.specs.parser.State.{State}
use Rattle.wat_lexer_parser.specs.places.Places.{comment_at, current_span}
use Rattle.wat_lexer_parser.specs.places.Source.{Source}
use Rattle.wat_lexer_parser.specs.shown.Showing.{Look, shown}

shown_still : (a : Look) (p : ℕ) → is_done (shown_reply a) ≡ false → position_after a p ≡ p
shown_still (Ok None) p e = refl
shown_still (Ok (Some (t, q))) p e = cc
shown_still (Err f) p e = refl

comment_still : (a : Look) (p : ℕ) → is_done (comment_reply a) ≡ false → position_after a p ≡ p
comment_still (Ok None) p e = refl
comment_still (Ok (Some (t, q))) p e = cc
comment_still (Err f) p e = refl

-- A rejected group does not change the position.
abbrev pub StaysRefused : ℕ → Reply × ℕ → Type 0
StaysRefused p a = is_done a.0 ≡ false → a.1 ≡ p

paren_still : (is_it : TokenKind → Bool) (p : ℕ) (refusal : Reply) (after : ℕ → Reply × ℕ) → ((q : ℕ) → StaysRefused p (after q)) → (a : Look) → StaysRefused p (paren_reply is_it p refusal after a)
paren_still is_it p refusal after h (Ok None) = λ e. refl
paren_still is_it p refusal after h (Ok (Some (t, q))) = by_kind (is_it t.kind)
  where
    by_kind : (b : Bool) → StaysRefused p (if b then after q else (refusal, p))
    by_kind true = h q
    by_kind false = λ e. refl
paren_still is_it p refusal after h (Err f) = λ e. refl

done : (p q : ℕ) → StaysRefused p (reply.Done, q)
done p q e = cc

close_still : (s : Source) (n : Names) (p : ℕ) (a : Result ℕ Fault) → StaysRefused p (close_reply s n p a)
close_still s n p (Ok q) = paren_still is_close p (reply.NotClosed (current_span s q n)) (λ r. (reply.Done, r)) (done p) (shown s q n)
close_still s n p (Err f) = λ e. refl

group_still : (s : Source) (n : Names) (k p : ℕ) → StaysRefused p (group_reply s n k p)
unfolding group_reply
group_still s n k p =
    let closes = λ (q : ℕ). close_still s n p (after_taking s n k q) in
    paren_still is_open p (reply.NotOpen (current_span s p n)) (λ q. close_reply s n p (after_taking s n k q)) closes (shown s p n)

register_still : (s : State) (x : List ℕ) (b : Bool)
    → let a : Reply × State = if b then (reply.TooOften, s) else (reply.Done, record s { names = more s.names x }) in is_done a.0 ≡ false → a.1 ≡ s
register_still s x true e = refl
register_still s x false e = cc

unregister_still : (s : State) (x : List ℕ) (b : Bool)
    → let a : Reply × State = if b then (reply.Done, record s { names = fewer s.names x }) else (reply.Absent, s) in is_done a.0 ≡ false → a.1 ≡ s
unregister_still s x true e = cc
unregister_still s x false e = refl

at_place : (s : State) (p : ℕ) → p ≡ s.place → record s { place = p } ≡ s
at_place s p e = ap (λ x. record s { place = x }) e

-- A peek or a rejected call does not change the state.
pub refused_still : (s : State) (c : Call) → is_kept s c ≡ false → (answer s c).1 ≡ s
refused_still s call.Look e = refl
refused_still s call.Take e = at_place s _ (shown_still (shown s.source s.place s.names) s.place e)
refused_still s call.Comment e = at_place s _ (comment_still (comment_at s.source s.place) s.place e)
refused_still s (call.Register x) e = register_still s (string_bytes x) (nat_eq (count s.names (string_bytes x)) max_registrations) e
refused_still s (call.Unregister x) e = unregister_still s (string_bytes x) (is_registered s.names (string_bytes x)) e
refused_still s (call.Parens n) e = at_place s _ (group_still s.source s.names n s.place e)

-- One more call before a sequence: one that is kept, and one that is not.
kept_more : (s : State) (c : Call) (cs : List Call) → is_kept s c ≡ true → IsIndependentOfPeeks (answer s c).1 cs → IsIndependentOfPeeks s (c ∷ cs)
unfolding replies state_after kept_calls kept_replies
kept_more s c cs e rest =
    let left = kept_calls (answer s c).1 cs in
    let given = kept_replies (answer s c).1 cs in
    let f : kept_calls s (c ∷ cs) ≡ c ∷ left = ap (λ b. if b then c ∷ left else left) e in
    let g : kept_replies s (c ∷ cs) ≡ (answer s c).0 ∷ given = ap (λ b. if b then (answer s c).0 ∷ given else given) e in
    record {
      same_replies = ap (replies s) f ∙ ap (λ x. (answer s c).0 ∷ x) rest.same_replies ∙ sym g;
      same_state = ap (state_after s) f ∙ rest.same_state;
    }

left_out : (s : State) (c : Call) (cs : List Call) → is_kept s c ≡ false → IsIndependentOfPeeks (answer s c).1 cs → IsIndependentOfPeeks s (c ∷ cs)
unfolding replies state_after kept_calls kept_replies
left_out s c cs e rest =
    let left = kept_calls (answer s c).1 cs in
    let given = kept_replies (answer s c).1 cs in
    let still = sym (refused_still s c e) in
    let f : kept_calls s (c ∷ cs) ≡ left = ap (λ b. if b then c ∷ left else left) e in
    let g : kept_replies s (c ∷ cs) ≡ given = ap (λ b. if b then (answer s c).0 ∷ given else given) e in
    record {
      same_replies = ap (replies s) f ∙ ap (λ x. replies x left) still ∙ rest.same_replies ∙ sym g;
      same_state = ap (state_after s) f ∙ ap (λ x. state_after x left) still ∙ rest.same_state;
    }

-- Without peeks and rejected calls, the other replies and the last state stay the same.
pub nothing_else : (s : State) (cs : List Call) → IsIndependentOfPeeks s cs
unfolding replies state_after kept_calls kept_replies
nothing_else s [] = record { same_replies = refl; same_state = refl }
nothing_else s (c ∷ cs) = elim (cases_Bool (is_kept s c)) [
  | inl e ↦ kept_more s c cs e (nothing_else (answer s c).1 cs)
  | inr e ↦ left_out s c cs e (nothing_else (answer s c).1 cs)
]
