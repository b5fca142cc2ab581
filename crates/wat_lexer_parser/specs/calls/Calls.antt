-- The reply of a parser to each call, and the state after it; for a sequence of calls, a fold over it. Not part of the
-- standard.
use Rattle.std.specs.Prelude.{◌≡◌, ℕ, zero, suc, Bool, List, [], ◌∷◌, take, nat_eq, if◌then◌else◌, Result, Ok, Err, string_bytes}
use Rattle.wat_lexer_parser.specs.declared.parser.calls.Call.{Call}
use Rattle.wat_lexer_parser.specs.declared.parser.calls.Call.TheVariants as call
use Rattle.wat_lexer_parser.specs.declared.parser.calls.Reply.{Reply}
use Rattle.wat_lexer_parser.specs.declared.parser.calls.Reply.TheVariants as reply
use Rattle.wat_lexer_parser.specs.groups.Sorts.{is_open, is_close}
use Rattle.wat_lexer_parser.specs.names.RegisteredNames.{Names, max_registrations, count, more, fewer, is_registered}
use Rattle.wat_lexer_parser.specs.parser.State.{State, Source, TokenKind, Fault, Look, shown, comment_at, current_span}
use Rattle.wat_lexer_parser.specs.Cases.{cases_of}

abbrev pub fault_reply : Fault → Reply
fault_reply f = reply.Fault f.offset f.kind

-- The reply to `Look` and to `Take`, for the result of a peek.
abbrev pub shown_reply : Look → Reply
shown_reply look = cases_of look reply.End (λ t q. reply.Token t) fault_reply

-- The reply to `Comment`, for the comment at the position.
abbrev pub comment_reply : Look → Reply
comment_reply look = cases_of look reply.Absent (λ t q. reply.Comment t.offset t.len) fault_reply

-- The position after the token or comment that was found, or `p` if none was.
abbrev pub position_after : Look → ℕ → ℕ
position_after look p = cases_of look p (λ t q. q) (λ f. p)

-- The position after up to `n` visible tokens, fewer at the end of the text, or the first error before them.
unfoldable pub after_taking : Source → Names → ℕ → ℕ → Result ℕ Fault
after_taking s names zero p = Ok p
after_taking s names (suc n) p = cases_of (shown s p names) (Ok p) (λ t q. after_taking s names n q) Err

-- The reply and position of consuming one parenthesis: the result of `after` if the visible token is this parenthesis,
-- otherwise `refusal` or the error, at the position `p`.
abbrev pub paren_reply : (TokenKind → Bool) → ℕ → Reply → (ℕ → Reply × ℕ) → Look → Reply × ℕ
paren_reply is_it p refusal after look = cases_of look (refusal, p) (λ t q. if is_it t.kind then after q else (refusal, p)) (λ f. (fault_reply f, p))

abbrev pub close_reply : Source → Names → ℕ → Result ℕ Fault → Reply × ℕ
close_reply s names p (Ok q) = paren_reply is_close p (reply.NotClosed (current_span s q names)) (λ r. (reply.Done, r)) (shown s q names)
close_reply s names p (Err f) = (fault_reply f, p)

-- The reply to consuming a group with up to `n` visible tokens in it, and the position after the group. The position
-- is `p` if the reply is not `Done`.
unfoldable pub group_reply : Source → Names → ℕ → ℕ → Reply × ℕ
group_reply s names n p =
    paren_reply is_open p (reply.NotOpen (current_span s p names)) (λ q. close_reply s names p (after_taking s names n q)) (shown s p names)

abbrev pub register : State → List ℕ → Reply × State
register s x = if nat_eq (count s.names x) max_registrations then (reply.TooOften, s) else (reply.Done, record s { names = more s.names x })

abbrev pub unregister : State → List ℕ → Reply × State
unregister s x = if is_registered s.names x then (reply.Done, record s { names = fewer s.names x }) else (reply.Absent, s)

-- The reply to a call, and the state after it.
abbrev pub answer : State → Call → Reply × State
answer s call.Look = (shown_reply (shown s.source s.place s.names), s)
answer s call.Take = (shown_reply (shown s.source s.place s.names), record s { place = position_after (shown s.source s.place s.names) s.place })
answer s call.Comment = (comment_reply (comment_at s.source s.place), record s { place = position_after (comment_at s.source s.place) s.place })
answer s (call.Register x) = register s (string_bytes x)
answer s (call.Unregister x) = unregister s (string_bytes x)
answer s (call.Parens n) = ((group_reply s.source s.names n s.place).0, record s { place = (group_reply s.source s.names n s.place).1 })

-- The replies to a sequence of calls, each made in the state that the calls before it leave.
unfoldable pub replies : State → List Call → List Reply
replies s [] = []
replies s (c ∷ cs) = (answer s c).0 ∷ replies (answer s c).1 cs

unfoldable pub state_after : State → List Call → State
state_after s [] = s
state_after s (c ∷ cs) = state_after (answer s c).1 cs

-- `t` is the state after some prefix of the calls `cs`.
abbrev pub IsStateAfterPrefix : State → List Call → State → Type 0
IsStateAfterPrefix s cs t = (k : ℕ) × (t ≡ state_after s (take k cs))
