-- Overwriting a comment with whitespace does not change the visible tokens.
use Rattle.std.proofs.Common.{◌≡◌, ◌≤◌, ◌+◌, ℕ, zero, suc, List, [], ◌∷◌, ◌++◌, true, false, refl, sym, ap, ◌∙◌, subst, arith, inl, inr, length, replicate, append_assoc}
use Rattle.std.specs.Prelude.{Option}
use Rattle.std.specs.List.{AllByRecursion}
use Rattle.std.specs.Str.{IsUtf8, IsCharBoundary}
use Rattle.std.proofs.lemmas.List.{length-replicate}
use Rattle.std.proofs.lemmas.List.Elements.{All-from_recursion, recursion_from_All}
use Rattle.std.proofs.lemmas.Str.{IsCharBoundary-start}
use Rattle.wat_lex.specs.grammar.Classes.{Each, is_whitespace}
use Rattle.wat_lex.specs.tokens.Blanking.{space, AreBlanksOf, overwritten, with_other_text, AtMostOneSpace, Spaced, IsRawComment, BlanksAreSpace, BlanksAreText}
use Rattle.wat_lex.specs.tokens.EverySetting.{TilingsAreUnique, TokensEndAtBoundaries}
use Rattle.wat_lex.specs.tokens.Faults.{IsComment}
use Rattle.wat_lex.specs.tokens.Setting.{Setting}
use Rattle.wat_lex.specs.tokens.Tiling.{Tiling, MaximalTiling}
use Rattle.wat_lex.specs.declared.lexer.kinds.Token.{Token}
use Rattle.wat_lex.specs.declared.lexer.kinds.TokenKind.{TokenKind}
use Rattle.wat_lex.specs.declared.lexer.kinds.TokenKind.TheVariants.{LParen, Annotation}
use Rattle.wat_lexer_parser.specs.declared.parser.fault.Fault.{Fault}
use Rattle.wat_lex.specs.tokens.Blanks.{is_blank, is_marked}
use Rattle.wat_lexer_parser.specs.names.RegisteredNames.{Names}
use Rattle.wat_lexer_parser.specs.places.Source.{Source}
use Rattle.wat_lexer_parser.specs.laws.AllShown.{AllShown}
use Rattle.wat_lexer_parser.specs.laws.Blanking.{TextShows, ShowTheSame, BlankingShowsTheSame}
use Rattle.wat_lexer_parser.specs.laws.ShownLaws.{SomethingIsAllShown, AllShownIsOne}
use Rattle.wat_lexer_parser.specs.shown.Showing.{SomethingShown, OneThingShown}
use Rattle.wat_lexer_parser.proofs.calls.AllShownBlanked.{SameText, all_twins}
use Rattle.wat_lexer_parser.proofs.shown.BlankedMarks.{mark_before, mark_after, annotation_some}
use Rattle.wat_lexer_parser.proofs.shown.BlankedShown.{AreBlank, SameBefore, SameAfter, Twins, spaced}
use Rattle.wat_lexer_parser.proofs.shown.Marks.{paren_len}

-- The theorems about the lexer and visible tokens that the proof uses.
pub record Laws : Type 0 where
  pub tokens : BlanksAreSpace
  pub text : BlanksAreText
  pub one_tiling : TilingsAreUnique
  pub boundary : TokensEndAtBoundaries
  pub some : SomethingShown
  pub one : OneThingShown
  pub all_some : SomethingIsAllShown
  pub all_one : AllShownIsOne

-- Whitespace before a comment, the comment, and whitespace after it.
space_blank : (ts : List Token) → AtMostOneSpace ts → AreBlank ts
space_blank [] h = tt
space_blank (t ∷ []) h = (ap is_blank h, tt)
space_blank (t ∷ u ∷ ts) h = absurd h

comment_blank : (k : TokenKind) → IsComment k → is_blank k ≡ true
comment_blank k (inl e) = ap is_blank e
comment_blank k (inr e) = ap is_blank e

blank_append : (ts us : List Token) → AreBlank ts → AreBlank us → AreBlank (ts ++ us)
blank_append [] us h g = g
blank_append (t ∷ ts) us h g = (h.0, blank_append ts us h.1 g)

module _ (boundary : TokensEndAtBoundaries) (s : Setting) (utf8 : IsUtf8 s.text) where
  -- The tokens after the first ones.
  record Past (p to : ℕ) (r : List Token) : Type 0 where
    at : ℕ
    forward : p ≤ at
    whole : IsCharBoundary s.text at
    tiling : Tiling s at to r

  past : (p to : ℕ) (b r : List Token) → IsCharBoundary s.text p → Tiling s p to (b ++ r) → Past p to r
  past p to [] r at h = record { at = p; forward = omega arith; whole = at; tiling = h }
  past p to (t ∷ b) r at h =
      let g = past (t.offset + t.len) to b r (boundary s p t utf8 at h.0) h.1 in
      let o = h.0.offset in
      record { at = g.at; forward = let f = g.forward in omega (arith, o, f); whole = g.whole; tiling = g.tiling }

  module _ (c : Token) (white : List ℕ) (blanks : AreBlanksOf c white) (left right after : List Token) where
    -- The position of the comment, and the tokens after the whitespace that follows it.
    pub record Parts (p to : ℕ) : Type 0 where
      reached : p ≤ c.offset
      pub first : IsCharBoundary s.text c.offset
      pub end : IsCharBoundary s.text (c.offset + c.len)
      fits : c.offset + c.len ≤ length s.text
      last : ℕ
      beyond : c.offset + c.len ≤ last
      tiling : Tiling s last to after

    parts : (p to : ℕ) (b : List Token) → IsCharBoundary s.text p → Tiling s p to (b ++ ((left ++ c ∷ right) ++ after)) → Parts p to
    parts p to b at h =
        let g = past p to b ((left ++ c ∷ right) ++ after) at h in
        let k = past g.at to left (c ∷ right ++ after) g.whole (subst (Tiling s g.at to) (append_assoc left (c ∷ right) after) g.tiling) in
        let o = k.tiling.0.offset in
        let end = boundary s k.at c utf8 k.whole k.tiling.0 in
        let l = past (c.offset + c.len) to right after end k.tiling.1 in
        let f = g.forward in
        let e = k.forward in
        record { reached = omega (arith, o, f, e); first = subst (IsCharBoundary s.text) (sym o) k.whole; end = end; fits = end.0; last = l.at; beyond = l.forward; tiling = l.tiling }

    same_before : (p to : ℕ) (b : List Token) → IsCharBoundary s.text p → Tiling s p to (b ++ ((left ++ c ∷ right) ++ after)) → AllByRecursion (SameText s.text (overwritten s.text c white)) b → SameBefore s.text (overwritten s.text c white) b
    same_before p to [] at h g = tt
    same_before p to (t ∷ []) at h g = (g.0, tt)
    same_before p to (t ∷ u ∷ b) at h g =
        let next = boundary s p t utf8 at h.0 in
        let k = parts (u.offset + u.len) to b (boundary s (t.offset + t.len) u utf8 next h.1.0) h.1.1 in
        let mark : t.kind ≡ LParen → u.kind ≡ Annotation → is_marked (overwritten s.text c white) t ≡ is_marked s.text t = λ e f.
        let one = paren_len s p t h.0 e in
        let some = annotation_some s (t.offset + t.len) u h.1.0 f in
        let o = h.1.0.offset in
        let r = k.reached in
        mark_before s.text c white k.fits blanks t (omega (arith, one, some, o, r)) in
        (g.0, mark, same_before (t.offset + t.len) to (u ∷ b) next h.1 g.1)

  same_after : (c : Token) (white : List ℕ) (p to : ℕ) (ts : List Token) → AreBlanksOf c white → c.offset + c.len ≤ length s.text → c.offset + c.len ≤ p → Tiling s p to ts → AllByRecursion (SameText s.text (overwritten s.text c white)) ts → SameAfter s.text (overwritten s.text c white) ts
  same_after c white p to [] blanks fits l h g = tt
  same_after c white p to (t ∷ ts) blanks fits l h g =
      let o = h.0.offset in
      (g.0, mark_after s.text c white fits blanks t (omega (arith, o, l)), same_after c white (t.offset + t.len) to ts blanks fits (omega (arith, o, l)) h.1 g.1)

-- The first token of the whitespace and the comment, and the others.
first_blank : (left : List Token) (c : Token) (right : List Token) → (v : Token) × (a : List Token) × (left ++ c ∷ right ≡ v ∷ a)
first_blank [] c right = (c, right, refl)
first_blank (t ∷ left) c right = (t, left ++ c ∷ right, refl)

module _ (laws : Laws) (s : Setting) (utf8 : IsUtf8 s.text) (c : Token) (white : List ℕ) (blanks : AreBlanksOf c white) (raw : IsRawComment s 0 c) where
  start : IsCharBoundary s.text 0
  start = IsCharBoundary-start s.text utf8

  blanked_utf8 : IsUtf8 (overwritten s.text c white)
  blanked_utf8 = (laws.text s 0 c white utf8 start blanks raw).1

  -- The visible tokens of the original tokens are those of the tokens after overwriting.
  spaced_shows : (us : List Token) → MaximalTiling (with_other_text s (overwritten s.text c white)) 0 us raw.ending → Spaced s.text (overwritten s.text c white) c raw.tokens us → (n : Names) (vs : List Token) (last : Option Fault) → AllShown s.text raw.ending n raw.tokens vs last
      → AllShown (overwritten s.text c white) raw.ending n us vs last × AllByRecursion (SameText s.text (overwritten s.text c white)) vs
  spaced_shows us m g n vs last h =
      let to = raw.tiling.to in
      let f = first_blank g.left c g.right in
      let v = f.0 in
      let a = f.1 in
      let source : Source = record { setting = with_other_text s (overwritten s.text c white); track = false; tokens = us; ending = raw.ending } in
      let tiling = subst (Tiling s 0 to) g.was raw.tiling.tiling in
      let k = parts laws.boundary s utf8 c white blanks g.left g.right g.after 0 to g.before start tiling in
      let before = same_before laws.boundary s utf8 c white blanks g.left g.right g.after 0 to g.before start tiling (recursion_from_All (SameText s.text (overwritten s.text c white)) g.before g.texts_before) in
      let after = same_after laws.boundary s utf8 c white k.last to g.after blanks k.fits k.beyond k.tiling (recursion_from_All (SameText s.text (overwritten s.text c white)) g.after g.texts_after) in
      let blank : AreBlank (v ∷ a) = subst AreBlank f.2 (blank_append g.left (c ∷ g.right) (space_blank g.left g.beside_left) (comment_blank c.kind raw.kind, space_blank g.right g.beside_right)) in
      let alone : AreBlank (g.white ∷ []) = (ap is_blank g.kind, tt) in
      let was : raw.tokens ≡ g.before ++ (v ∷ a ++ g.after) = g.was ∙ ap (λ y. g.before ++ (y ++ g.after)) f.2 in
      let twins : Twins s.text (overwritten s.text c white) raw.ending n v g.white a [] g.after raw.tokens us =
      subst (λ y. Twins s.text (overwritten s.text c white) raw.ending n v g.white a [] g.after y us) (sym was)
      (subst (Twins s.text (overwritten s.text c white) raw.ending n v g.white a [] g.after (g.before ++ (v ∷ a ++ g.after))) (sym g.is) (spaced g.before before)) in
      all_twins laws.some laws.one s.text source n blanked_utf8 m v g.white a [] g.after blank alone after raw.tokens vs last 0 twins h

  -- The visible tokens of a text are those of its raw tokens.
  raw_shows : (n : Names) (vs : List Token) (last : Option Fault) → TextShows s n vs last → AllShown s.text raw.ending n raw.tokens vs last
  raw_shows n vs last h =
      let e = laws.one_tiling s 0 h.tokens raw.tokens h.ending raw.ending h.tiling raw.tiling in
      subst (λ y. AllShown s.text raw.ending n y vs last) e.0 (subst (λ y. AllShown s.text y n h.tokens vs last) e.1 h.all)

  shows_blanked : (n : Names) (vs : List Token) (last : Option Fault) → TextShows s n vs last → TextShows (with_other_text s (overwritten s.text c white)) n vs last × AllByRecursion (SameText s.text (overwritten s.text c white)) vs
  shows_blanked n vs last h =
      let b = laws.tokens s 0 c white utf8 start blanks raw in
      let g = spaced_shows b.0 b.1 b.2 n vs last (raw_shows n vs last h) in
      (record { tokens = b.0; ending = raw.ending; tiling = b.1; all = g.0 }, g.1)

  -- Visible tokens exist, so by uniqueness the overwritten text has no others.
  blanked_shows : (n : Names) (vs : List Token) (last : Option Fault) → TextShows (with_other_text s (overwritten s.text c white)) n vs last → TextShows s n vs last
  blanked_shows n vs last h =
      let source : Source = record { setting = s; track = false; tokens = raw.tokens; ending = raw.ending } in
      let a = laws.all_some source n 0 utf8 raw.tiling in
      let was : TextShows s n a.0 a.1 = record { tokens = raw.tokens; ending = raw.ending; tiling = raw.tiling; all = a.2 } in
      let now = (shows_blanked n a.0 a.1 was).0 in
      let e = laws.one_tiling (with_other_text s (overwritten s.text c white)) 0 now.tokens h.tokens now.ending h.ending now.tiling h.tiling in
      let there = subst (λ y. AllShown (overwritten s.text c white) h.ending n y a.0 a.1) e.0 (subst (λ y. AllShown (overwritten s.text c white) y n now.tokens a.0 a.1) e.1 now.all) in
      let o = laws.all_one (overwritten s.text c white) h.ending n h.tokens a.0 vs a.1 last there h.all in
      subst (λ y. TextShows s n y last) o.0 (subst (TextShows s n a.0) o.1 was)

  same_shown : ShowTheSame s (with_other_text s (overwritten s.text c white))
  same_shown = record {
    tokens = λ n vs last. (λ h. (shows_blanked n vs last h).0, λ h. blanked_shows n vs last h);
    texts = λ n vs last h. All-from_recursion (SameText s.text (overwritten s.text c white)) vs (shows_blanked n vs last h).1;
  }

spaces_white : (n : ℕ) → Each is_whitespace (replicate n space)
spaces_white zero = tt
spaces_white (suc n) = (refl, spaces_white n)

-- As many spaces as the token has bytes.
pub spaces_are_blanks : (t : Token) → AreBlanksOf t (replicate t.len space)
spaces_are_blanks t = record { long = length-replicate t.len space; blank = spaces_white t.len }

pub blanking_shows_the_same : Laws → BlankingShowsTheSame
blanking_shows_the_same laws text c white utf8 blanks flags raw = same_shown laws (record { text = text; flags = flags }) utf8 c white blanks raw

-- The start and the end of a comment among the raw tokens are char boundaries.
pub comment_bounds : TokensEndAtBoundaries → BlanksAreSpace → (s : Setting) (c : Token) → IsUtf8 s.text → IsRawComment s 0 c → IsCharBoundary s.text c.offset × IsCharBoundary s.text (c.offset + c.len)
comment_bounds boundary tokens s c utf8 raw =
    let start = IsCharBoundary-start s.text utf8 in
    let white = replicate c.len space in
    let blanks = spaces_are_blanks c in
    let g = (tokens s 0 c white utf8 start blanks raw).2 in
    let k = parts boundary s utf8 c white blanks g.left g.right g.after 0 raw.tiling.to g.before start (subst (Tiling s 0 raw.tiling.to) g.was raw.tiling.tiling) in
    (k.first, k.end)
