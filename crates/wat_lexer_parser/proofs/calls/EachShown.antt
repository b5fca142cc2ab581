-- All visible tokens, one after another.
use Rattle.std.proofs.Common.{◌≡◌, ℕ, zero, suc, ◌-◌, ◌<◌, List, [], ◌∷◌, refl, sym, ap, ◌∙◌, subst, length, drop, length-drop, arith, Some, None, Ok, Err}
use Rattle.std.specs.Prelude.{Option}
use Rattle.std.specs.Str.{IsUtf8}
use Rattle.wat_lex.specs.declared.lexer.faults.LexFault.{LexFault}
use Rattle.wat_lex.specs.declared.lexer.kinds.Token.{Token}
use Rattle.wat_lexer_parser.specs.declared.parser.fault.Fault.{Fault}
use Rattle.wat_lexer_parser.specs.names.RegisteredNames.{Names}
use Rattle.wat_lexer_parser.specs.places.Source.{Source, IsRead}
use Rattle.wat_lexer_parser.specs.laws.AllShown.{AllShown, end, fault, next}
use Rattle.wat_lexer_parser.specs.shown.Shown.{Finding, Shown}
use Rattle.wat_lexer_parser.specs.inside.ShownIn.{Showing, shown_in}
use Rattle.wat_lexer_parser.specs.shown.Showing.{SomethingShown, OneThingShown}
use Rattle.wat_lexer_parser.specs.lemmas.After.{AfterPlace, after_in, after_place, same_token}

same_shown : OneThingShown → (x : List ℕ) (z : Option LexFault) (n : Names) (ts : List Token) (a b : Finding) → Shown x z n ts a → Shown x z n ts b → a ≡ b
same_shown one x z n ts a b h k = one x z n ts a h ∙ sym (one x z n ts b k)

-- The list of visible tokens, and the end or error after it, are unique.
pub all_is_one : OneThingShown → (x : List ℕ) (z : Option LexFault) (n : Names) (ts us vs : List Token) (f g : Option Fault) → AllShown x z n ts us f → AllShown x z n ts vs g → (us ≡ vs) × (f ≡ g)
all_is_one one x z n ts us vs f g (end h) (end k) = (refl, refl)
all_is_one one x z n ts us vs f g (end h) (fault {f = b} k) = let e : ◌≡◌ {A = Finding} (Ok None) (Err b) = same_shown one x z n ts _ _ h k in cc
all_is_one one x z n ts us vs f g (end h) (next {r = r} {t = t} k l) = let e : ◌≡◌ {A = Finding} (Ok None) (Ok (Some (t, r))) = same_shown one x z n ts _ _ h k in cc
all_is_one one x z n ts us vs f g (fault {f = a} h) (end k) = let e : ◌≡◌ {A = Finding} (Err a) (Ok None) = same_shown one x z n ts _ _ h k in cc
all_is_one one x z n ts us vs f g (fault {f = a} h) (fault {f = b} k) = let e : ◌≡◌ {A = Finding} (Err a) (Err b) = same_shown one x z n ts _ _ h k in let d : a ≡ b = cc in (refl, ap Some d)
all_is_one one x z n ts us vs f g (fault {f = a} h) (next {r = r} {t = t} k l) = let e : ◌≡◌ {A = Finding} (Err a) (Ok (Some (t, r))) = same_shown one x z n ts _ _ h k in cc
all_is_one one x z n ts us vs f g (next {r = r} {t = t} h m) (end k) = let e : ◌≡◌ {A = Finding} (Ok (Some (t, r))) (Ok None) = same_shown one x z n ts _ _ h k in cc
all_is_one one x z n ts us vs f g (next {r = r} {t = t} h m) (fault {f = b} k) = let e : ◌≡◌ {A = Finding} (Ok (Some (t, r))) (Err b) = same_shown one x z n ts _ _ h k in cc
all_is_one one x z n ts us vs f g (next {r = r} {us = ws} {t = t} h m) (next {r = q} {us = xs} {t = u} k l) =
    let e = same_token t u r q (same_shown one x z n ts _ _ h k) in
    let d = all_is_one one x z n r ws xs f g m (subst (λ y. AllShown x z n y xs g) (sym e.1) l) in
    (ap (λ y. y ∷ ws) e.0 ∙ ap (λ y. u ∷ y) d.0, d.1)

-- The visible tokens from a position, followed by the end or an error.
abbrev AllFrom : Source → Names → ℕ → Type 0
AllFrom s n p = (us : List Token) × (f : Option Fault) × AllShown s.setting.text s.ending n (drop p s.tokens) us f

-- What a peek finds at a position is found in the tokens from there.
pub shows_at : SomethingShown → (s : Source) (n : Names) (p : ℕ) (a : Finding) → IsUtf8 s.setting.text → IsRead s → shown_in s.setting.text s.ending n Showing (drop p s.tokens) ≡ a → Shown s.setting.text s.ending n (drop p s.tokens) a
shows_at some s n p a u h e = subst (Shown s.setting.text s.ending n (drop p s.tokens)) e (some s n p u h)

token_then : (s : Source) (n : Names) (p : ℕ) (t : Token) (r : List Token) → Shown s.setting.text s.ending n (drop p s.tokens) (Ok (Some (t, r))) → AfterPlace t s.tokens p r
    → AllFrom s n (length s.tokens - length r) → AllFrom s n p
token_then s n p t r h b m = (t ∷ m.0, m.1, next h (subst (λ y. AllShown s.setting.text s.ending n y m.0 m.1) (sym b.tail) m.2))

place_by : SomethingShown → (s : Source) (n : Names) (p : ℕ) → IsUtf8 s.setting.text → IsRead s → ((q : ℕ) → length (drop q s.tokens) < length (drop p s.tokens) → AllFrom s n q)
    → (a : Finding) → shown_in s.setting.text s.ending n Showing (drop p s.tokens) ≡ a → AllFrom s n p
place_by some s n p u h below (Ok None) e = ([], None, end (shows_at some s n p (Ok None) u h e))
place_by some s n p u h below (Err f) e = ([], Some f, fault (shows_at some s n p (Err f) u h e))
place_by some s n p u h below (Ok (Some (t, r))) e =
    let q = length s.tokens - length r in
    let b = after_place t s.tokens p r (after_in s.setting.text s.ending n Showing (drop p s.tokens) t r e) in
    let k : length (drop q s.tokens) < length (drop p s.tokens) = omega (arith, b.forward, b.inside, length-drop p s.tokens, length-drop q s.tokens) in
    token_then s n p t r (shows_at some s n p (Ok (Some (t, r))) u h e) b (below q k)

place_left : SomethingShown → (s : Source) (n : Names) (d p : ℕ) → IsUtf8 s.setting.text → IsRead s → length (drop p s.tokens) < d → AllFrom s n p
place_left some s n zero p u h l = absurd (omega arith)
place_left some s n (suc d) p u h l = place_by some s n p u h (λ q k. place_left some s n d q u h (omega arith)) (shown_in s.setting.text s.ending n Showing (drop p s.tokens)) refl

pub something_is_all : SomethingShown → (s : Source) (n : Names) (p : ℕ) → IsUtf8 s.setting.text → IsRead s → AllFrom s n p
something_is_all some s n p u h = place_left some s n (suc (length (drop p s.tokens))) p u h (omega arith)
