-- The replies to a sequence of calls and the state after it, one call at a time.
use Rattle.std.proofs.Common.{◌≡◌, ℕ, ◌+◌, ◌<◌, List, [], ◌∷◌, ◌++◌, refl, sym, ap, ◌∙◌, length, get_or, take}
use Rattle.std.proofs.lemmas.List.{take_more}
use Rattle.wat_lexer_parser.specs.declared.parser.calls.Call.{Call}
use Rattle.wat_lexer_parser.specs.declared.parser.calls.Reply.{Reply}
use Rattle.wat_lexer_parser.specs.calls.Calls.{IsStateAfterPrefix, answer, replies, state_after}
use Rattle.wat_lexer_parser.specs.parser.State.{State}

replies_push : (s : State) (cs : List Call) (c : Call) → replies s (cs ++ (c ∷ [])) ≡ replies s cs ++ ((answer (state_after s cs) c).0 ∷ [])
unfolding replies state_after
replies_push s [] c = refl
replies_push s (x ∷ cs) c = ap (λ r. (answer s x).0 ∷ r) (replies_push (answer s x).1 cs c)

state_push : (s : State) (cs : List Call) (c : Call) → state_after s (cs ++ (c ∷ [])) ≡ (answer (state_after s cs) c).1
unfolding state_after
state_push s [] c = refl
state_push s (x ∷ cs) c = state_push (answer s x).1 cs c

-- One more call.
pub replies_more : (s : State) (cs : List Call) (k : ℕ) (c : Call) → k < length cs → replies s (take (k + 1) cs) ≡ replies s (take k cs) ++ ((answer (state_after s (take k cs)) (get_or cs k c)).0 ∷ [])
replies_more s cs k c h = ap (replies s) (take_more cs k c h) ∙ replies_push s (take k cs) (get_or cs k c)

pub state_more : (s : State) (cs : List Call) (k : ℕ) (c : Call) → k < length cs → state_after s (take (k + 1) cs) ≡ (answer (state_after s (take k cs)) (get_or cs k c)).1
state_more s cs k c h = ap (state_after s) (take_more cs k c h) ∙ state_push s (take k cs) (get_or cs k c)

-- The first `k` of the calls were made: the replies to them, and the state after them.
pub record Played (s : State) (cs : List Call) (k : ℕ) (given : List Reply) (now : State) : Type 0 where
  pub replied : given ≡ replies s (take k cs)
  pub reached : now ≡ state_after s (take k cs)

pub play_start : (s : State) (cs : List Call) → Played s cs 0 [] s
unfolding replies state_after
play_start s cs = record { replied = refl; reached = refl }

pub play_more : (s : State) (cs : List Call) (k : ℕ) (given : List Reply) (now : State) (c : Call) (r : Reply) (next : State)
    → k < length cs → r ≡ (answer now (get_or cs k c)).0 → next ≡ (answer now (get_or cs k c)).1 → Played s cs k given now → Played s cs (k + 1) (given ++ (r ∷ [])) next
play_more s cs k given now c r next h e f p = record {
  replied = ap (λ x. given ++ (x ∷ [])) e
      ∙ ap (λ x. given ++ ((answer x (get_or cs k c)).0 ∷ [])) p.reached
      ∙ ap (λ x. x ++ ((answer (state_after s (take k cs)) (get_or cs k c)).0 ∷ [])) p.replied
      ∙ sym (replies_more s cs k c h);
  reached = f ∙ ap (λ x. (answer x (get_or cs k c)).1) p.reached ∙ sym (state_more s cs k c h);
}

pub play_begins : (s : State) (cs : List Call) (k : ℕ) (given : List Reply) (now : State) → Played s cs k given now → IsStateAfterPrefix s cs now
play_begins s cs k given now p = (k, p.reached)
