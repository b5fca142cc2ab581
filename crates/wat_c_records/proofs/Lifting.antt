-- The visible token among the significant tokens, with the position after it among the raw tokens.
use Rattle.std.proofs.Common.{◌≡◌, ◌≤◌, ◌+◌, ◌-◌, ℕ, suc, List, ◌∷◌, false, refl, sym, ap, ◌∙◌, subst, arith, length, drop, Some, None, Ok, Err}
use Rattle.std.specs.Prelude.{Option}
use Rattle.std.specs.Str.{IsUtf8}
use Rattle.wat_lex.specs.declared.lexer.faults.LexFault.{LexFault}
use Rattle.wat_lex.specs.declared.lexer.kinds.Token.{Token}
use Rattle.wat_lex.specs.tokens.Blanks.{is_blank}
use Rattle.wat_lexer_parser.specs.lemmas.After.{after_in, after_place, same_token}
use Rattle.wat_lexer_parser.specs.names.RegisteredNames.{Names}
use Rattle.wat_lexer_parser.specs.places.Source.{Source, IsRead}
use Rattle.wat_lexer_parser.specs.laws.Counting.{CountingShowsTheSame, counting, counting_after}
use Rattle.wat_lexer_parser.specs.shown.Shown.{Finding, Shown, ended, unclosed_ending, none_left, blank, none_follows, no_annotation, misnamed, registered, skipped, unclosed, unmarked, other}
use Rattle.wat_lexer_parser.specs.shown.Showing.{OneThingShown, SomethingShown, Look, placed, shown}
use Rattle.wat_lexer_parser.specs.inside.ShownIn.{Showing, shown_in}
use Rattle.wat_c_records.specs.Places.{raw_position}
use Rattle.wat_c_records.proofs.RawPlaces.{drop_shorter, drops, place_of}

-- The visible token among the significant tokens from an index on.
abbrev pub look_in : Source → Names → ℕ → Finding
look_in s n number = shown_in s.setting.text s.ending n Showing (drop number (counting s.tokens))

-- The finding, with the position after the visible token among the raw tokens.
abbrev pub lifted : List Token → Finding → Look
lifted ts (Ok None) = Ok None
lifted ts (Ok (Some (t, r))) = Ok (Some (t, raw_position ts (length (counting ts) - length r)))
lifted ts (Err f) = Err f

not_ended : (z : Option LexFault) (t : Token) (r : List Token) → ended z ≡ Ok (Some (t, r)) → ⊥
not_ended None t r e = cc
not_ended (Some f) t r e = cc

not_left : (z : Option LexFault) (o t : Token) (r : List Token) → unclosed_ending z o ≡ Ok (Some (t, r)) → ⊥
not_left None o t r e = cc
not_left (Some f) o t r e = cc

-- A visible token is significant.
shown_counts : (x : List ℕ) (z : Option LexFault) (n : Names) (ts : List Token) (a : Finding) (t : Token) (r : List Token) → Shown x z n ts a
    → a ≡ Ok (Some (t, r)) → is_blank t.kind ≡ false
shown_counts x z n ts a t r none_left e = absurd (not_ended z t r e)
shown_counts x z n ts a t r (blank {r = q} b h) e = shown_counts x z n q a t r h e
shown_counts x z n ts a t r (none_follows m) e = absurd (not_ended z t r e)
shown_counts x z n ts a t r (no_annotation {t = o} {u = u} {r = q} m k) e = ap (λ (v : Token). is_blank v.kind) (sym (same_token o t
    (u ∷ q) r e).0) ∙ ap is_blank m.0
shown_counts x z n ts a t r (misnamed m w) e = cc
shown_counts x z n ts a t r (registered {t = o} {u = u} {r = q} m w i) e = ap (λ (v : Token). is_blank v.kind) (sym (same_token o t (u ∷ q) r e).0)
    ∙ ap is_blank m.0
shown_counts x z n ts a t r (skipped {m = q} m w i g h) e = shown_counts x z n q a t r h e
shown_counts x z n ts a t r (unclosed {t = o} m w i g) e = absurd (not_left z o t r e)
shown_counts x z n ts a t r (unmarked {t = o} {r = q} k l) e = ap (λ (v : Token). is_blank v.kind) (sym (same_token o t q r e).0) ∙ ap is_blank k
shown_counts x z n ts a t r (other {t = o} {r = q} b k) e = ap (λ (v : Token). is_blank v.kind) (sym (same_token o t q r e).0) ∙ b

module _ (some : SomethingShown) (one : OneThingShown) (same : CountingShowsTheSame) (s : Source) (utf8 : IsUtf8 s.setting.text) (read : IsRead s)
    (n : Names) where
  abbrev raw_look : ℕ → Finding
  raw_look p = shown_in s.setting.text s.ending n Showing (drop (raw_position s.tokens p) s.tokens)

  raw_shows : (p : ℕ) → Shown s.setting.text s.ending n (drop (raw_position s.tokens p) s.tokens) (raw_look p)
  raw_shows p = some s n (raw_position s.tokens p) utf8 read

  in_counting : (p : ℕ) → Shown s.setting.text s.ending n (drop p (counting s.tokens)) (counting_after (raw_look p))
  in_counting p =
      subst (λ r. Shown s.setting.text s.ending n r (counting_after (raw_look p))) (drops s.tokens p) (same s n (raw_position s.tokens p)
      (raw_look p) utf8 read (raw_shows p))

  of_counting : (p : ℕ) → counting_after (raw_look p) ≡ look_in s n p
  of_counting p = one s.setting.text s.ending n (drop p (counting s.tokens)) (counting_after (raw_look p)) (in_counting p)

  pub shows : (p : ℕ) → Shown s.setting.text s.ending n (drop p (counting s.tokens)) (look_in s n p)
  shows p = subst (Shown s.setting.text s.ending n (drop p (counting s.tokens))) (of_counting p) (in_counting p)

  lift : (p : ℕ) (a : Finding) → raw_look p ≡ a → placed s.tokens a ≡ lifted s.tokens (counting_after a)
  lift p (Ok None) e = refl
  lift p (Err f) e = refl
  lift p (Ok (Some (t, r))) e =
      let from = raw_position s.tokens p in
      let b = after_place t s.tokens from r (after_in s.setting.text s.ending n Showing (drop from s.tokens) t r e) in
      let to = length s.tokens - length r in
      let last = to - 1 in
      let next : suc last ≡ to = omega (arith, b.forward) in
      let tail : drop (suc last) s.tokens ≡ r = ap (λ k. drop k s.tokens) next ∙ sym b.tail in
      let shorter : length (counting r) ≤ length (counting s.tokens) = omega (
        arith,
        drop_shorter s.tokens (suc last),
        ap (λ k. length
            (counting k)) tail,
      ) in
      let count : length (counting s.tokens) - length (counting r) + length (counting (drop (suc last) s.tokens)) ≡ length
      (counting s.tokens) = omega (arith, shorter, ap (λ k. length (counting k)) tail) in
      let other = shown_counts s.setting.text s.ending n (drop from s.tokens) (raw_look p) t r (raw_shows p) e in
      let place = place_of s.tokens last t (length (counting s.tokens) - length (counting r)) b.there other count in
      ap (λ k. Ok (Some (t, k))) (sym (place ∙ next))

  pub shown_lifted : (p : ℕ) → shown s (raw_position s.tokens p) n ≡ lifted s.tokens (look_in s n p)
  unfolding shown
  shown_lifted p = lift p (raw_look p) refl ∙ ap (lifted s.tokens) (of_counting p)
