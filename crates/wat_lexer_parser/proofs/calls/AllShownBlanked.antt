-- All visible tokens of a text with whitespace over a comment are those of the original text.
use Rattle.std.proofs.Common.{◌≡◌, ◌-◌, ℕ, List, ◌∷◌, sym, subst, length, drop, Some, None, Ok, Err}
use Rattle.std.specs.Prelude.{Option}
use Rattle.std.specs.List.{AllByRecursion}
use Rattle.std.specs.Str.{IsUtf8}
use Rattle.wat_lex.specs.tokens.ReadableTokens.{token_text}
use Rattle.wat_lex.specs.declared.lexer.kinds.Token.{Token}
use Rattle.wat_lexer_parser.specs.declared.parser.fault.Fault.{Fault}
use Rattle.wat_lexer_parser.specs.lemmas.After.{after_in, after_place}
use Rattle.wat_lexer_parser.specs.names.RegisteredNames.{Names}
use Rattle.wat_lexer_parser.specs.places.Source.{Source, IsRead}
use Rattle.wat_lexer_parser.specs.laws.AllShown.{AllShown, end, fault, next}
use Rattle.wat_lexer_parser.specs.inside.ShownIn.{Showing, shown_in}
use Rattle.wat_lexer_parser.specs.shown.Showing.{SomethingShown, OneThingShown}
use Rattle.wat_lexer_parser.proofs.calls.EachShown.{shows_at}
use Rattle.wat_lexer_parser.proofs.shown.BlankedShown.{AreBlank, SameAfter, Twins, Found, found_twins}

-- The token has the same bytes in both texts.
abbrev pub SameText : List ℕ → List ℕ → Token → Type 0
SameText x y t = token_text y t ≡ token_text x t

module _ (some : SomethingShown) (one : OneThingShown) (x : List ℕ) (s : Source) (n : Names) (utf8 : IsUtf8 s.setting.text) (read : IsRead s)
    (v w : Token) (a b h : List Token) (va : AreBlank (v ∷ a)) (wb : AreBlank (w ∷ b)) (same : SameAfter x s.setting.text h) where
  abbrev pub Both : List Token → List Token → Option Fault → Type 0
  Both ts us last = AllShown s.setting.text s.ending n ts us last × AllByRecursion (SameText x s.setting.text) us

  -- The visible tokens of a list are those of its twin.
  pub all_twins : (ts us : List Token) (last : Option Fault) (p : ℕ) → Twins x s.setting.text s.ending n v w a b h ts (drop p s.tokens) → AllShown x s.ending n ts us last → Both (drop p s.tokens) us last
  all_twins ts us last p g (end k) =
      let f = subst (λ e. Found x s.setting.text s.ending n v w a b h e (shown_in s.setting.text s.ending n Showing (drop p s.tokens))) (sym (one x s.ending n ts (Ok None) k))
      (found_twins x s.setting.text s.ending n v w a b h va wb same ts (drop p s.tokens) g) in
      (end (shows_at some s n p (Ok None) utf8 read f), tt)
  all_twins ts us last p g (fault {f = e} k) =
      let f = subst (λ e. Found x s.setting.text s.ending n v w a b h e (shown_in s.setting.text s.ending n Showing (drop p s.tokens))) (sym (one x s.ending n ts (Err e) k))
      (found_twins x s.setting.text s.ending n v w a b h va wb same ts (drop p s.tokens) g) in
      (fault (shows_at some s n p (Err e) utf8 read f), tt)
  all_twins ts us last p g (next {r = r} {us = vs} {t = t} k l) =
      let f = subst (λ e. Found x s.setting.text s.ending n v w a b h e (shown_in s.setting.text s.ending n Showing (drop p s.tokens))) (sym (one x s.ending n ts (Ok (Some (t, r))) k))
      (found_twins x s.setting.text s.ending n v w a b h va wb same ts (drop p s.tokens) g) in
      let q = length s.tokens - length f.0 in
      let tail = (after_place t s.tokens p f.0 (after_in s.setting.text s.ending n Showing (drop p s.tokens) t f.0 f.1)).tail in
      let rest = all_twins r vs last q (subst (Twins x s.setting.text s.ending n v w a b h r) tail f.3) l in
      (next (shows_at some s n p (Ok (Some (t, f.0))) utf8 read f.1) (subst (λ y. AllShown s.setting.text s.ending n y vs last) (sym tail) rest.0), (f.2, rest.1))
