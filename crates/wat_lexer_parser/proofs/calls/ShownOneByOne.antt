-- A sequence of peeks gives all visible tokens.
use Rattle.std.proofs.Common.{◌≡◌, ℕ, List, [], ◌∷◌, sym, ap, ◌∙◌, subst, drop, Some, None, Ok, Err}
use Rattle.std.specs.Prelude.{Option}
use Rattle.std.specs.Str.{IsUtf8}
use Rattle.wat_lex.specs.declared.lexer.kinds.Token.{Token}
use Rattle.wat_lexer_parser.specs.declared.parser.fault.Fault.{Fault}
use Rattle.wat_lexer_parser.specs.names.RegisteredNames.{Names}
use Rattle.wat_lexer_parser.specs.places.Source.{Source, IsRead}
use Rattle.wat_lexer_parser.specs.laws.AllShown.{AllShown, end, fault, next}
use Rattle.wat_lexer_parser.specs.shown.Showing.{shown, SomethingShown}
use Rattle.wat_lexer_parser.specs.inside.ShownIn.{Showing, shown_in}
use Rattle.wat_lexer_parser.specs.laws.ShownLaws.{LooksAreAllShown}
use Rattle.wat_lexer_parser.specs.lemmas.After.{after_in, after_place, from_none, from_fault, from_token}
use Rattle.wat_lexer_parser.proofs.calls.EachShown.{shows_at}

token_first : SomethingShown → (s : Source) (n : Names) (p q : ℕ) (t : Token) (us : List Token) (f : Option Fault) → IsUtf8 s.setting.text → IsRead s → shown s p n ≡ Ok (Some (t, q))
    → AllShown s.setting.text s.ending n (drop q s.tokens) us f → AllShown s.setting.text s.ending n (drop p s.tokens) (t ∷ us) f
unfolding shown
token_first some s n p q t us f u h e g =
    let k = from_token s.tokens (shown_in s.setting.text s.ending n Showing (drop p s.tokens)) t q e in
    let b = after_place t s.tokens p k.0 (after_in s.setting.text s.ending n Showing (drop p s.tokens) t k.0 k.1) in
    let r : k.0 ≡ drop q s.tokens = b.tail ∙ ap (λ y. drop y s.tokens) k.2 in
    next (shows_at some s n p (Ok (Some (t, k.0))) u h k.1) (subst (λ y. AllShown s.setting.text s.ending n y us f) (sym r) g)

end_last : SomethingShown → (s : Source) (n : Names) (p : ℕ) → IsUtf8 s.setting.text → IsRead s → shown s p n ≡ Ok None → AllShown s.setting.text s.ending n (drop p s.tokens) [] None
unfolding shown
end_last some s n p u h e = end (shows_at some s n p (Ok None) u h (from_none s.tokens (shown_in s.setting.text s.ending n Showing (drop p s.tokens)) e))

fault_last : SomethingShown → (s : Source) (n : Names) (p : ℕ) (f : Fault) → IsUtf8 s.setting.text → IsRead s → shown s p n ≡ Err f → AllShown s.setting.text s.ending n (drop p s.tokens) [] (Some f)
unfolding shown
fault_last some s n p f u h e = fault (shows_at some s n p (Err f) u h (from_fault s.tokens (shown_in s.setting.text s.ending n Showing (drop p s.tokens)) f e))

pub looks_are_all : SomethingShown → LooksAreAllShown
looks_are_all some = record { token = token_first some; end = end_last some; fault = fault_last some }
