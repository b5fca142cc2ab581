-- Proofs that parsing a whole text yields the value that a rule derives for it. The contracts can be understood
-- without them.
use Rattle.std.proofs.Common.{◌≡◌, ◌∙◌, ◌+◌, ◌-◌, ℕ, List, [], ◌∷◌, Bool, true, false, refl, sym, ap, subst, length, drop, Some, None, Ok, Err}
use Rattle.std.proofs.lemmas.Str.{IsCharBoundary-start}
use Rattle.std.specs.Prelude.{IfOk, Option, Result}
use Rattle.std.specs.Option.{option_map}
use Rattle.std.specs.Str.{IsUtf8}
use Rattle.wat_lex.specs.errors.Errors.{Report}
use Rattle.wat_lex.specs.tokens.EverySetting.{EachBoundaryHasTiling, TilingsAreUnique}
use Rattle.wat_lex.specs.tokens.Setting.{Setting}
use Rattle.wat_lex.specs.declared.lexer.kinds.Token.{Token}
use Rattle.wat_lexer_parser.specs.declared.parser.fault.Fault.{Fault}
use Rattle.wat_lexer_parser.specs.lemmas.AnswerLaws.{answers_true}
use Rattle.wat_lexer_parser.specs.lemmas.After.{After, after_in, after_place, shown_is_taken}
use Rattle.wat_lexer_parser.specs.names.RegisteredNames.{Names, no_names}
use Rattle.wat_lexer_parser.specs.parser.State.{Answers, report_of, seen, known}
use Rattle.wat_lexer_parser.specs.places.Places.{current_span, offset_at}
use Rattle.wat_lexer_parser.specs.lemmas.Parts as parts
use Rattle.wat_lexer_parser.specs.places.Source.{Source, IsRead}
use Rattle.wat_lexer_parser.specs.laws.AllShown.{AllShown}
use Rattle.wat_lexer_parser.specs.laws.AllShown as all_shown
use Rattle.wat_lexer_parser.specs.shown.Shown.{Shown, Finding}
use Rattle.wat_lexer_parser.specs.shown.Showing.{Look, placed, shown, OneThingShown}
use Rattle.wat_lexer_parser.specs.inside.ShownIn.{Showing, shown_in}
use Rattle.wat_lexer_parser.specs.laws.ShownLaws.{SomethingIsAllShown}
use Rattle.wat_lexer_parser.specs.readings.Readings.{Reading, whole}
use Rattle.wat_lexer_parser.specs.lemmas.RuleLaws.{At, Follows, left, spelled_is_whole, whole_is_spelled}
use Rattle.wat_lexer_parser.specs.rules.Rules.{Rule}
use Rattle.wat_lexer_parser.specs.rules.Spelling.{Spells, ReadsAsSpelled, after_value, end_from, ground_of}

shown_is : OneThingShown → (s : Source) (names : Names) (p : ℕ) (ts : List Token) (a : Finding) → ts ≡ drop p s.tokens → Shown s.setting.text s.ending names ts a → shown s p names ≡ placed s.tokens a
unfolding shown
shown_is one s names p ts a e shows =
    ap (λ ts. placed s.tokens (shown_in s.setting.text s.ending names Showing ts)) (sym e) ∙ ap (placed s.tokens) (sym (one s.setting.text s.ending names ts a shows))

seen_is : (s : Source) (names : Names) (p : ℕ) (l : Look) → shown s p names ≡ l → seen s p names ≡ known s.setting.text l
unfolding seen
seen_is s names p l e = ap (known s.setting.text) e

span_is : (s : Source) (names : Names) (p : ℕ) (l : Look) → shown s p names ≡ l → current_span s p names ≡ parts.span_of s p l
unfolding current_span
span_is s names p l e = ap (parts.span_of s p) e

end_more : (text : List ℕ) (p q : ℕ) (t : Token) (us : List Token) (f : Option Fault) → q ≡ t.offset + t.len → end_from text q us f ≡ end_from text p (t ∷ us) f
end_more text p q t us None e = refl
end_more text p q t us (Some f) e = ap (λ n. end_from text n us (Some f)) e

-- All visible tokens from a position, as a sequence of peeks.
at_by : OneThingShown → (s : Source) (names : Names) (p : ℕ) (ts us : List Token) (f : Option Fault) → AllShown s.setting.text s.ending names ts us f → ts ≡ drop p s.tokens → At s names (end_from s.setting.text (offset_at s.tokens p) us f) p us
at_by one s names p ts _ _ (all_shown.end shows) e =
    let is = shown_is one s names p ts (Ok None) e shows in
    (seen_is s names p (Ok None) is, span_is s names p (Ok None) is)
at_by one s names p ts _ _ (all_shown.fault {f = f} shows) e =
    let is = shown_is one s names p ts (Err f) e shows in
    (seen_is s names p (Err f) is, span_is s names p (Err f) is)
at_by one s names p ts _ f (all_shown.next {r = r} {us = us} {t = t} shows others) e =
    let x = s.setting.text in
    let q = length s.tokens - length r in
    let is = shown_is one s names p ts (Ok (Some (t, r))) e shows in
    let here : shown_in x s.ending names Showing ts ≡ Ok (Some (t, r)) = sym (one x s.ending names ts (Ok (Some (t, r))) shows) in
    let after = after_place t s.tokens p r (subst (λ ts. After t ts r) e (after_in x s.ending names Showing ts t r here)) in
    let more = end_more x (offset_at s.tokens p) (offset_at s.tokens q) t us f (shown_is_taken s p names t q is).3 in
    (q, is, subst (λ e. At s names e q us) more (at_by one s names q r us f others after.tail))

spells_of : {V : Type 0} (R : Rule V) (s : Source) (v : V) (us : List Token) (f : Option Fault) → IsRead s → AllShown s.setting.text s.ending no_names s.tokens us f → R (ground_of s.setting.text us f) us v []
    → option_map (report_of s.setting.text) f ≡ None → Spells R s.setting v
spells_of R s v us None r all h e = record { tokens = us; shown = record { tokens = s.tokens; ending = s.ending; tiling = r; all = all }; begins = h }
spells_of R s v us (Some f) r all h e = cc

left_is : {V : Type 0} (s : Source) (v : V) (us l : List Token) (f : Option Fault) → left s (end_from s.setting.text 0 us f) v l ≡ after_value v s.setting l f
left_is s v us [] None = refl
left_is s v us [] (Some f) = refl
left_is s v us (t ∷ l) f = refl

pub reads_as_spelled : {V : Type 0} → TilingsAreUnique → SomethingIsAllShown → OneThingShown → (m : Reading V) (R : Rule V) → Follows m R → ReadsAsSpelled m R
reads_as_spelled one_tiling some one m R law = record {
  read = λ s v u r e.
      let k = some s no_names 0 u r in
      let at = at_by one s no_names 0 s.tokens k.0 k.1 k.2 refl in
      let h = whole_is_spelled m R law s (end_from s.setting.text 0 k.0 k.1) k.0 v at e in
      spells_of R s v k.0 k.1 r k.2 h.1 h.0;
  spelled = λ s v l f r h.
      let x = s.setting.text in
      let is = one_tiling s.setting 0 h.shown.tokens s.tokens h.shown.ending s.ending h.shown.tiling r in
      let all = subst (λ ts. AllShown x s.ending no_names ts h.tokens f) is.0 (subst (λ e. AllShown x e no_names h.shown.tokens h.tokens f) is.1 h.shown.all) in
      let at = at_by one s no_names 0 s.tokens h.tokens f all refl in
      spelled_is_whole m R law s (end_from x 0 h.tokens f) h.tokens v l at h.begins ∙ left_is s v h.tokens l f;
}

-- A rule derives at most one value for a text.
pub spelled_once : {V : Type 0} {m : Reading V} {R : Rule V} → ReadsAsSpelled m R → (x : Setting) (v w : V) → Spells R x v → Spells R x w → v ≡ w
spelled_once law x v w h k =
    let s : Source = record { setting = x; track = false; tokens = h.shown.tokens; ending = h.shown.ending } in
    let is : ◌≡◌ {A = Result _ _} (Ok v) (Ok w) = sym (law.spelled s v [] None h.shown.tiling h) ∙ law.spelled s w [] None h.shown.tiling k in
    cc

-- Each text has raw tokens.
pub some_source : EachBoundaryHasTiling → (x : Setting) (track : Bool) → IsUtf8 x.text → (s : Source) × IsRead s × (s.setting ≡ x) × (s.track ≡ track)
some_source some x track u =
    let tiling = some x 0 u (IsCharBoundary-start x.text u) in (record { setting = x; track = track; tokens = tiling.0; ending = tiling.1 }, tiling.2, refl, refl)

-- A call that parses a whole text returns a value only if the rule derives it; and if the rule derives a value, the
-- call returns this value.
module _ {V T : Type 0} {m : Reading V} {R : Rule V} (law : ReadsAsSpelled m R) (s : Source) (x : Setting) (takes : Bool) (f : T → V) where
  pub answer_is_spelled : (r : Result T (Option Report)) → IsRead s → s.setting ≡ x → IsUtf8 x.text → Answers takes f (whole m s) r → IfOk r (λ v. Spells R x (f v))
  answer_is_spelled (Ok v) read e u h = subst (λ y. Spells R y (f v)) e (law.read s (f v) (subst (λ y. IsUtf8 y.text) (sym e) u) read h)
  answer_is_spelled (Err report) read e u h = tt

  pub spelled_is_answer : (r : Result T (Option Report)) → IsRead s → s.setting ≡ x → Answers takes f (whole m s) r → (v : V) → Spells R x v → Answers true f (Ok v) r
  spelled_is_answer r read e h v spells =
      subst (λ a. Answers true f a r) (law.spelled s v [] None read (subst (λ y. Spells R y v) (sym e) spells)) (answers_true takes f (whole m s) r h)
