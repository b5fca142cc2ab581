-- The comment at an offset is unique, and a parser finds the same comment.
use Rattle.std.proofs.Common.{◌≡◌, ◌≤◌, ◌+◌, ℕ, zero, suc, List, [], ◌∷◌, length, drop, refl, ap, sym, ◌∙◌, subst, arith, inl, inr, Bool, true, false}
use Rattle.std.specs.Prelude.{Option, Some, None, Ok, Err, IfOk, IfSome, if◌then◌else◌}
use Rattle.std.proofs.lemmas.Bool.{both_ways, cases_Bool}
use Rattle.wat_lex.specs.tokens.EverySetting.{ScanResultIsUnique}
use Rattle.wat_lex.specs.tokens.Setting.{Setting}
use Rattle.wat_lex.specs.tokens.Tiling.{TokenAt, Tiling, MaximalTiling, EndsAt}
use Rattle.wat_lex.specs.tokens.UniqueTilings.{ResultAt}
use Rattle.wat_lex.specs.declared.lexer.faults.LexFault.{LexFault}
use Rattle.wat_lex.specs.declared.lexer.kinds.Token.{Token}
use Rattle.wat_lex.specs.tokens.Blanks.{is_space, is_comment}
use Rattle.wat_lexer_parser.specs.places.Places.{offset_at, past_space, comment_in, comment_at}
use Rattle.wat_lexer_parser.specs.places.Source.{Source, IsRead}
use Rattle.wat_lexer_parser.specs.shown.Showing.{placed}
use Rattle.wat_c.specs.CommentPlaces.{IsPast, here, after, TellsComment, comment_word, look_known, IsParsersComment, CommentsAreOne, CommentsAreParsers}
use Rattle.wat_c.specs.Words.{no_word}
use Rattle.wat_c.specs.declared.words.Word.{Word}
use Rattle.wat_c.proofs.OneFinding.{Answered, token_is_at, some_token}

-- ---- the raw tokens from a position on

tiling_after : (s : Setting) (from to : ℕ) (t : Token) (ts : List Token) (p : ℕ) → Tiling s from to (t ∷ ts) → p ≤ length ts → Tiling s (offset_at (t ∷ ts) (suc p)) to (drop p ts)
tiling_after s from to t ts zero h l = h.1
tiling_after s from to t [] (suc p) h l = absurd (omega arith)
tiling_after s from to t (u ∷ ts) (suc p) h l = tiling_after s (t.offset + t.len) to u ts p h.1 (omega arith)

tails : (s : Setting) (ts : List Token) (e : Option LexFault) (p : ℕ) → MaximalTiling s 0 ts e → p ≤ length ts → MaximalTiling s (offset_at ts p) (drop p ts) e
tails s ts e zero h l = h
tails s [] e (suc p) h l = absurd (omega arith)
tails s (t ∷ ts) e (suc p) h l = record { to = h.to; tiling = tiling_after s 0 h.to t ts p h.tiling (omega arith); ends = h.ends }

-- ---- the token after whitespace

not_space : (t : Token) → is_space t.kind ≡ true → is_space t.kind ≡ false → ⊥
not_space t a b = both_ways (is_space t.kind) b a

module _ (is_at : ScanResultIsUnique) (s : Setting) where
  apart : (p : ℕ) (a : Answered) (space : Token) → ResultAt s p a → IfOk a (λ found. IfSome found (λ t. is_space t.kind ≡ false)) → TokenAt s p space → is_space space.kind ≡ true → ⊥
  apart p a space h n k e = not_space space e (subst (λ r. IfOk r (λ found. IfSome found (λ t. is_space t.kind ≡ false))) (is_at s p a (token_is_at space) h k) n)

  one_past : (p : ℕ) (a b : Answered) → IsPast s p a → IsPast s p b → a ≡ b
  one_past p a b (here h n) (here k m) = is_at s p a b h k
  one_past p a b (here h n) (after u k e r) = absurd (apart p a u h n k e)
  one_past p a b (after t h d q) (here k m) = absurd (apart p b t k m h d)
  one_past p a b (after t h d q) (after u k e r) =
      let same = some_token t u (is_at s p (token_is_at t) (token_is_at u) h k) in
      is_at s (u.offset + u.len) a b (subst (λ (x : Token). ResultAt s (x.offset + x.len) a) same q) r

  pub one_comment : (p : ℕ) (word other : Word) → TellsComment s p word → TellsComment s p other → word ≡ other
  one_comment p word other h k = h.known ∙ ap comment_word (one_past p h.answer k.answer h.past k.past) ∙ sym k.known

  -- The ending of the tokens is the result of a scan at their end.
  abbrev end_of : (e : Option LexFault) → Answered
  end_of None = Ok None
  end_of (Some f) = Err f

  ends : (p : ℕ) (e : Option LexFault) → EndsAt s p e → ResultAt s p (end_of e)
  ends p None h = h
  ends p (Some f) h = h

  clear : (e : Option LexFault) → IfOk (end_of e) (λ found. IfSome found (λ t. is_space t.kind ≡ false))
  clear None = tt
  clear (Some f) = tt

  -- what comes before tokens that are left
  abbrev front : Option LexFault → List Token → Answered
  front e [] = end_of e
  front e (t ∷ r) = Ok (Some t)

  is_at_front : (p to : ℕ) (e : Option LexFault) (r : List Token) → Tiling s p to r → EndsAt s to e → ResultAt s p (front e r)
  is_at_front p to e [] h k = ends p e (subst (λ x. EndsAt s x e) (sym h) k)
  is_at_front p to e (t ∷ r) h k = h.0

  past_front : (p to : ℕ) (e : Option LexFault) (r : List Token) → Tiling s p to r → EndsAt s to e → IsPast s p (front e (past_space r))
  unfolding past_space
  past_front p to e [] h k = here (is_at_front p to e [] h k) (clear e)
  past_front p to e (t ∷ r) h k = elim (cases_Bool (is_space t.kind)) [
    | inl space ↦ (let same : past_space (t ∷ r) ≡ r = ap (λ b. if b then r else (t ∷ r)) space in
        subst (λ x. IsPast s p (front e x)) (sym same) (after t h.0 space (is_at_front (t.offset + t.len) to e r h.1 k)))
    | inr other ↦ (let same : past_space (t ∷ r) ≡ t ∷ r = ap (λ b. if b then r else (t ∷ r)) other in
        subst (λ x. IsPast s p (front e x)) (sym same) (here h.0 other))
  ]

  -- and what is reported of it
  known_front : (ts : List Token) (e : Option LexFault) (r : List Token) → look_known (placed ts (comment_in e r)) ≡ comment_word (front e r)
  unfolding comment_in
  known_front ts None [] = refl
  known_front ts (Some f) [] = refl
  known_front ts e (t ∷ r) = by (is_comment t.kind)
    where
      by : (b : Bool) → look_known (placed ts (if b then Ok (Some (t, r)) else Ok None)) ≡ (if b then record { start = t.offset; len = t.len; status = 0 } else no_word 3)
      by true = refl
      by false = refl

  parsers : (p : ℕ) (word : Word) → TellsComment s p word → (source : Source) (place : ℕ) → IsRead source → source.setting ≡ s → place ≤ length source.tokens → offset_at source.tokens place ≡ p → word ≡ look_known (comment_at source place)
  unfolding comment_at
  parsers p word h source place read same l at =
      let m = tails source.setting source.tokens source.ending place read l in
      let r = drop place source.tokens in
      let tiling : Tiling s p m.to r = subst (λ x. Tiling x p m.to r) same (subst (λ q. Tiling source.setting q m.to r) at m.tiling) in
      let end : EndsAt s m.to source.ending = subst (λ x. EndsAt x m.to source.ending) same m.ends in
      h.known ∙ ap comment_word (one_past p h.answer (front source.ending (past_space r)) h.past (past_front p m.to source.ending r tiling end))
      ∙ sym (known_front source.tokens source.ending (past_space r))

pub comments_are_one : ScanResultIsUnique → CommentsAreOne
unfolding CommentsAreOne
comments_are_one is_at s p word other h k = one_comment is_at s p word other h k

pub comments_are_parsers : ScanResultIsUnique → CommentsAreParsers
unfolding CommentsAreParsers IsParsersComment
comments_are_parsers is_at s p word h = parsers is_at s p word h
