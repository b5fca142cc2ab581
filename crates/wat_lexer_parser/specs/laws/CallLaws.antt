-- A theorem about all sequences of calls: peeks and rejected calls have no effect on other calls. Not part of the
-- standard.
use Rattle.std.specs.Prelude.{◌≡◌, Bool, true, false, ◌&&◌, not, List, [], ◌∷◌, if◌then◌else◌}
use Rattle.wat_lexer_parser.specs.declared.parser.calls.Call.{Call}
use Rattle.wat_lexer_parser.specs.declared.parser.calls.Call.TheVariants as call
use Rattle.wat_lexer_parser.specs.declared.parser.calls.Reply.{Reply}
use Rattle.wat_lexer_parser.specs.declared.parser.calls.Reply.TheVariants as reply
use Rattle.wat_lexer_parser.specs.calls.Calls.{answer, replies, state_after}
use Rattle.wat_lexer_parser.specs.parser.State.{State}

-- The reply is a token, a comment or `Done`: the call was not rejected.
abbrev pub is_done : Reply → Bool
is_done (reply.Token t) = true
is_done (reply.Comment o n) = true
is_done reply.Done = true
is_done other = false

abbrev pub is_look : Call → Bool
is_look call.Look = true
is_look other = false

abbrev pub is_kept : State → Call → Bool
is_kept s c = not (is_look c) && is_done (answer s c).0

-- The calls of a sequence without peeks and rejected calls, and the replies to them.
unfoldable pub kept_calls : State → List Call → List Call
kept_calls s [] = []
kept_calls s (c ∷ cs) = if is_kept s c then c ∷ kept_calls (answer s c).1 cs else kept_calls (answer s c).1 cs

unfoldable pub kept_replies : State → List Call → List Reply
kept_replies s [] = []
kept_replies s (c ∷ cs) = if is_kept s c then (answer s c).0 ∷ kept_replies (answer s c).1 cs else kept_replies (answer s c).1 cs

-- Without peeks and rejected calls, the other replies and the last state stay the same.
pub record IsIndependentOfPeeks (s : State) (cs : List Call) : Type 0 where
  pub same_replies : replies s (kept_calls s cs) ≡ kept_replies s cs
  pub same_state : state_after s (kept_calls s cs) ≡ state_after s cs

-- Theorem: this holds for each state and each sequence of calls.
abbrev pub PeeksAndRejectedCalls : Type 0
PeeksAndRejectedCalls = (s : State) (cs : List Call) → IsIndependentOfPeeks s cs
