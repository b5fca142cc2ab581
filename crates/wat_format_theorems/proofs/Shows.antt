-- A formatted text has the visible tokens of the text.
use Rattle.std.proofs.Common.{◌≡◌, ℕ, false, List, length, ◌-◌, drop, refl, sym, subst}
use Rattle.std.proofs.lemmas.Str.{IsCharBoundary-start}
use Rattle.std.specs.Prelude.{Option, Some, None, Ok, Err}
use Rattle.std.specs.Option.{option_map}
use Rattle.std.specs.Str.{IsUtf8}
use Rattle.wat_lex.specs.tokens.EverySetting.{EachBoundaryHasTiling, TilingsAreUnique, TokensAreReadable, TokensEndAtBoundaries, WordsOfTokens}
use Rattle.wat_lex.specs.tokens.Setting.{Setting}
use Rattle.wat_lex.specs.tokens.Tiling.{MaximalTiling}
use Rattle.wat_lex.specs.declared.lexer.faults.LexFault.{LexFault}
use Rattle.wat_lex.specs.declared.lexer.kinds.Token.{Token}
use Rattle.wat_lexer_parser.specs.declared.parser.fault.Fault.{Fault}
use Rattle.wat_lexer_parser.specs.lemmas.After.{after_in, after_place}
use Rattle.wat_lexer_parser.specs.names.RegisteredNames.{Names}
use Rattle.wat_lexer_parser.specs.places.Source.{Source, IsRead}
use Rattle.wat_lexer_parser.specs.laws.AllShown.{AllShown, end, fault, next}
use Rattle.wat_lexer_parser.specs.laws.Blanking.{TextShows}
use Rattle.wat_lexer_parser.specs.laws.Counting.{CountingShowsTheSame, counting}
use Rattle.wat_lexer_parser.specs.shown.Shown.{Shown}
use Rattle.wat_lexer_parser.specs.laws.ShownLaws.{SomethingIsAllShown}
use Rattle.wat_lexer_parser.specs.shown.Showing.{OneThingShown}
use Rattle.wat_lexer_parser.specs.inside.ShownIn.{Showing, shown_in}
use Rattle.wat_format.specs.Laws.{over, KeepsTokens, LayoutsKeepTokens, LayoutsAreUtf8}
use Rattle.wat_format.specs.Layout.{layout}
use Rattle.wat_format_theorems.specs.Moved.{fault_moved, ShowsMoved, LayoutsShowTheSame}
use Rattle.wat_format_theorems.proofs.Alike.{twins}
use Rattle.wat_format_theorems.proofs.Places.{moved, moved_end, same_by}
use Rattle.wat_format_theorems.specs.Reads.{LayoutsAreSameTexts}
use Rattle.wat_format_theorems.specs.Sides.{AllSame, SameTexts}
use Rattle.wat_format_theorems.proofs.Same.{Moved, all_moved}
use Rattle.wat_format_theorems.proofs.Tokens.{Before, before, rising, all_measured}

pub record Laws : Type 0 where
  pub some_tiling : EachBoundaryHasTiling
  pub one_tiling : TilingsAreUnique
  pub readable : TokensAreReadable
  pub boundary : TokensEndAtBoundaries
  pub word : WordsOfTokens
  pub one : OneThingShown
  pub all_some : SomethingIsAllShown
  pub counting : CountingShowsTheSame
  pub keep : LayoutsKeepTokens
  pub utf8 : LayoutsAreUtf8

-- All visible tokens are visible among the significant tokens.
of_counting : OneThingShown → CountingShowsTheSame → (s : Source) (n : Names) → IsUtf8 s.setting.text → IsRead s → (p : ℕ) (ts vs : List Token) (f : Option Fault) → ts ≡ drop p s.tokens → AllShown s.setting.text s.ending n ts vs f
    → AllShown s.setting.text s.ending n (counting (drop p s.tokens)) vs f
of_counting one same s n u read p ts vs f e (end h) = end (same s n p (Ok None) u read (subst (λ l. Shown s.setting.text s.ending n l (Ok None)) e h))
of_counting one same s n u read p ts vs f e (fault {f = a} h) = fault (same s n p (Err a) u read (subst (λ l. Shown s.setting.text s.ending n l (Err a)) e h))
of_counting one same s n u read p ts vs f e (next {r = r} {us = us} {t = t} h rest) =
    let g : Shown s.setting.text s.ending n (drop p s.tokens) (Ok (Some (t, r))) = subst (λ l. Shown s.setting.text s.ending n l (Ok (Some (t, r)))) e h in
    let is : shown_in s.setting.text s.ending n Showing (drop p s.tokens) ≡ Ok (Some (t, r)) = sym (one s.setting.text s.ending n (drop p s.tokens) (Ok (Some (t, r))) g) in
    let b = after_place t s.tokens p r (after_in s.setting.text s.ending n Showing (drop p s.tokens) t r is) in
    let ih = of_counting one same s n u read (length s.tokens - length r) r us f b.tail rest in
    next (same s n p (Ok (Some (t, r))) u read g) (subst (λ l. AllShown s.setting.text s.ending n (counting l) us f) (sym b.tail) ih)

module _ (laws : Laws) (s : Setting) (ts : List Token) (utf8 : IsUtf8 s.text) (m : MaximalTiling s 0 ts None) where
  abbrev r : Setting
  r = over s (layout s.text ts)

  utf8_r : IsUtf8 r.text
  utf8_r = laws.utf8 s r.text utf8 (record { tokens = ts; tiling = m; laid = refl })

  raw : (us : List Token) × (e : Option LexFault) × MaximalTiling r 0 us e
  raw = laws.some_tiling r 0 utf8_r (IsCharBoundary-start r.text utf8_r)

  abbrev us : List Token
  us = raw.0

  keeps : KeepsTokens s ts us raw.1
  keeps = laws.keep s ts us raw.1 utf8 m raw.2

  tiling : MaximalTiling r 0 us None
  tiling = subst (MaximalTiling r 0 us) keeps.no_fault raw.2

  abbrev move : ℕ → ℕ
  move = moved (length r.text) (counting ts) (counting us)

  same : AllSame s.text r.text move (counting ts) (counting us)
  same = same_by s.text r.text (length r.text) move 0 (counting ts) (counting us) (λ q le. refl) (rising s 0 m.to ts m.tiling)
      (twins s.text r.text ts us keeps.same keeps.marked (all_measured laws.readable laws.boundary laws.word s 0 m.to ts utf8 (IsCharBoundary-start s.text utf8) m.tiling)
      (all_measured laws.readable laws.boundary laws.word r 0 tiling.to us utf8_r (IsCharBoundary-start r.text utf8_r) tiling.tiling))

  abbrev of_text : Source
  of_text = record { setting = s; track = false; tokens = ts; ending = None }

  abbrev of_layout : Source
  of_layout = record { setting = r; track = false; tokens = us; ending = None }

  -- The visible tokens of the text, and those of the formatted text.
  all_text : (n : Names) (vs : List Token) (f : Option Fault) → TextShows s n vs f → AllShown s.text None n ts vs f
  all_text n vs f h =
      let k = laws.one_tiling s 0 h.tokens ts h.ending None h.tiling m in
      subst (λ l. AllShown s.text None n l vs f) k.0 (subst (λ e. AllShown s.text e n h.tokens vs f) k.1 h.all)

  abbrev all_layout : (n : Names) → (ws : List Token) × (g : Option Fault) × AllShown r.text None n us ws g
  all_layout n = laws.all_some of_layout n 0 utf8_r tiling

  moves : (n : Names) (vs : List Token) (f : Option Fault) → TextShows s n vs f → Moved s.text r.text move n vs (all_layout n).0 f (all_layout n).1
  moves n vs f h =
      let a = all_layout n in
      all_moved s.text r.text move n laws.one (counting ts) (counting us) vs a.0 f a.1 same
      (of_counting laws.one laws.counting of_text n utf8 m 0 ts vs f refl (all_text n vs f h))
      (of_counting laws.one laws.counting of_layout n utf8_r tiling 0 us a.0 a.1 refl a.2)

  shows : ShowsMoved s r move
  shows = record {
    tokens = λ n vs f h.
        let a = all_layout n in
        let k = moves n vs f h in
        record {
          tokens = us;
          ending = None;
          tiling = tiling;
          all = subst (λ l. AllShown r.text None n us l (option_map (fault_moved move) f)) k.tokens (subst (λ g. AllShown r.text None n us a.0 g) k.last a.2);
        };
    texts = λ n vs f h. (moves n vs f h).texts;
    end = moved_end (length r.text) (length s.text) (counting ts) (counting us) (subst (λ p. Before p (counting ts)) m.ends (before s 0 m.to ts m.tiling));
  }

  pub same_is_shown : (move : ℕ → ℕ) × ShowsMoved s r move
  same_is_shown = (move, shows)

  -- These tokens and those of the formatted text are the same.
  same_texts : (o : Source) → IsRead o → o.setting ≡ r → SameTexts of_text o move
  same_texts o read e =
      let is : (us ≡ o.tokens) × (None ≡ o.ending) = laws.one_tiling r 0 us o.tokens None o.ending tiling (subst (λ z. MaximalTiling z 0 o.tokens o.ending) e read) in
      record {
        utf8 = (utf8, subst (λ z. IsUtf8 z.text) (sym e) utf8_r);
        read = (m, read);
        ending = (refl, sym is.1);
        tokens = subst (λ z. AllSame s.text z.text move (counting ts) (counting o.tokens)) (sym e) (subst (λ l. AllSame s.text r.text move (counting ts) (counting l)) is.0 same);
        end = subst (λ z. move (length s.text) ≡ length z.text) (sym e) shows.end;
      }

pub layouts_are_same_texts : Laws → LayoutsAreSameTexts
layouts_are_same_texts laws s r utf8 read ending other e =
    let m = subst (MaximalTiling s.setting 0 s.tokens) ending read in
    let k = move laws s.setting s.tokens utf8 m in (
      k,
      subst (λ z. ShowsMoved s.setting z k) (sym e) (shows laws s.setting s.tokens utf8 m),
      as_source s k r ending (same_texts laws s.setting s.tokens utf8 m r other e),
    )
  where
    as_source : (s : Source) (move : ℕ → ℕ) (r : Source) → s.ending ≡ None → SameTexts (record { setting = s.setting; track = false; tokens = s.tokens; ending = None }) r move → SameTexts s r move
    as_source s move r e h = record {
      utf8 = h.utf8;
      read = (subst (MaximalTiling s.setting 0 s.tokens) (sym e) h.read.0, h.read.1);
      ending = (e, h.ending.1);
      tokens = h.tokens;
      end = h.end;
    }

pub layouts_show_the_same : Laws → LayoutsShowTheSame
layouts_show_the_same laws s ts u m = same_is_shown laws s ts u m
