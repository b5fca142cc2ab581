-- The comment at a position, in terms of the tokens there.
use Rattle.std.proofs.Common.{◌≡◌, ◌+◌, ◌-◌, ℕ, zero, suc, Bool, true, false, List, [], ◌∷◌, length, drop, refl, sym, ap, ◌∙◌, arith, Some, None, Ok, length-drop}
use Rattle.std.specs.Prelude.{slice_get, if◌then◌else◌}
use Rattle.std.proofs.lemmas.List.{drop_more}
use Rattle.std.proofs.lemmas.Option.{slice_get_within, get_or_from_slice_get}
use Rattle.wat_lex.specs.declared.lexer.kinds.Token.{Token}
use Rattle.wat_lex.specs.tokens.Blanks.{is_space, is_comment}
use Rattle.wat_lexer_parser.specs.places.Places.{past_space, comment_in, comment_at}
use Rattle.wat_lexer_parser.specs.places.Source.{Source}
use Rattle.wat_lexer_parser.specs.shown.Shown.{ended}
use Rattle.wat_lexer_parser.specs.shown.Showing.{placed}

pub drop_some : (ts : List Token) (p : ℕ) (t : Token) → slice_get ts p ≡ Some t → drop p ts ≡ t ∷ drop (p + 1) ts
drop_some ts p t e = drop_more ts p t (slice_get_within ts p t e) ∙ ap (λ x. x ∷ drop (p + 1) ts) (get_or_from_slice_get ts p t t e)

pub drop_none : (ts : List Token) (p : ℕ) → slice_get ts p ≡ None → drop p ts ≡ []
drop_none [] zero e = refl
drop_none [] (suc p) e = refl
drop_none (a ∷ ts) zero e = cc
drop_none (a ∷ ts) (suc p) e = drop_none ts p e

pub past_none : (ts : List Token) (p : ℕ) → slice_get ts p ≡ None → past_space (drop p ts) ≡ drop p ts
unfolding past_space
past_none ts p e = ap past_space (drop_none ts p e) ∙ sym (drop_none ts p e)

past_front : (t : Token) (r : List Token) (b : Bool) → is_space t.kind ≡ b → past_space (t ∷ r) ≡ (if b then r else t ∷ r)
unfolding past_space
past_front t r b e = ap (λ x. if x then r else t ∷ r) e

pub past_one : (ts : List Token) (p : ℕ) (t : Token) → slice_get ts p ≡ Some t → is_space t.kind ≡ true → past_space (drop p ts) ≡ drop (p + 1) ts
past_one ts p t e f = ap past_space (drop_some ts p t e) ∙ past_front t (drop (p + 1) ts) true f

pub past_other : (ts : List Token) (p : ℕ) (t : Token) → slice_get ts p ≡ Some t → is_space t.kind ≡ false → past_space (drop p ts) ≡ drop p ts
past_other ts p t e f = ap past_space (drop_some ts p t e) ∙ past_front t (drop (p + 1) ts) false f ∙ sym (drop_some ts p t e)

pub comment_none : (s : Source) (p q : ℕ) → past_space (drop p s.tokens) ≡ drop q s.tokens → slice_get s.tokens q ≡ None → comment_at s p ≡ placed s.tokens (ended s.ending)
unfolding comment_at comment_in
comment_none s p q e f = ap (λ x. placed s.tokens (comment_in s.ending x)) (e ∙ drop_none s.tokens q f)

comment_front : (s : Source) (p q : ℕ) (t : Token) (b : Bool) → past_space (drop p s.tokens) ≡ drop q s.tokens → slice_get s.tokens q ≡ Some t → is_comment t.kind ≡ b → comment_at s p ≡ placed s.tokens (if b then Ok (Some (t, drop (q + 1) s.tokens)) else Ok None)
unfolding comment_at comment_in
comment_front s p q t b e f g =
    ap (λ x. placed s.tokens (comment_in s.ending x)) (e ∙ drop_some s.tokens q t f)
    ∙ ap (λ x. placed s.tokens (if x then Ok (Some (t, drop (q + 1) s.tokens)) else Ok None)) g

pub comment_found : (s : Source) (p q : ℕ) (t : Token) → past_space (drop p s.tokens) ≡ drop q s.tokens → slice_get s.tokens q ≡ Some t → is_comment t.kind ≡ true → comment_at s p ≡ Ok (Some (t, q + 1))
comment_found s p q t e f g =
    let k : length s.tokens - length (drop (q + 1) s.tokens) ≡ q + 1 = omega (arith, length-drop (q + 1) s.tokens, slice_get_within s.tokens q t f) in
    comment_front s p q t true e f g ∙ ap (λ x. Ok (Some (t, x))) k

pub comment_other : (s : Source) (p q : ℕ) (t : Token) → past_space (drop p s.tokens) ≡ drop q s.tokens → slice_get s.tokens q ≡ Some t → is_comment t.kind ≡ false → comment_at s p ≡ Ok None
comment_other s p q t e f g = comment_front s p q t false e f g

pub ruleset spaces = (past_none, past_one, past_other)

pub ruleset comments = (comment_none, comment_found, comment_other)
