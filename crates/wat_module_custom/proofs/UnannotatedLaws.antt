-- A text without annotations of the name `custom` is read as tokens outside of these.
use Rattle.std.proofs.Common.{◌≡◌, ◌∙◌, ◌+◌, ◌-◌, ◌⊎◌, inl, inr, ℕ, zero, suc, List, [], ◌∷◌, length, drop, Bool, true, false, refl, sym, ap, subst, Option, Some, None, Result, Ok, Err}
use Rattle.std.specs.Prelude.{bytes_eq, codes, if◌then◌else◌, is_some, nat_eq, nat_lt, not, unwrap_or}
use Rattle.std.specs.Cmp.Lexicographic.{slice_cmp}
use Rattle.std.specs.FinMap.{get-empty}
use Rattle.std.specs.Ordering.{nat_cmp}
use Rattle.std.specs.List.{All}
use Rattle.std.proofs.lemmas.List.Elements.{All-head, All-tail}
use Rattle.std.specs.Str.{IsUtf8}
use Rattle.wat_lex.specs.errors.Errors.{Report}
use Rattle.wat_lex.specs.declared.lexer.faults.LexFault.{LexFault}
use Rattle.wat_lex.specs.declared.lexer.kinds.Token.{Token}
use Rattle.wat_lex.specs.declared.lexer.kinds.TokenKind.{TokenKind}
use Rattle.wat_lex.specs.declared.lexer.kinds.TokenKind.TheVariants as kind
use Rattle.wat_lex.specs.tokens.EverySetting.{TilingsAreUnique}
use Rattle.wat_lex.specs.tokens.Tiling.{MaximalTiling}
use Rattle.wat_lexer_parser.specs.declared.parser.fault.Fault.{Fault}
use Rattle.wat_lexer_parser.specs.inside.ShownIn.{Showing, shown_in}
use Rattle.wat_lexer_parser.specs.laws.AllShown.{AllShown}
use Rattle.wat_lexer_parser.specs.laws.AllShown as all_shown
use Rattle.wat_lexer_parser.specs.lemmas.After.{After, after_in, after_place, from_none}
use Rattle.wat_lexer_parser.specs.lemmas.Parts as parts
use Rattle.wat_lexer_parser.specs.lemmas.RuleLaws.{At}
use Rattle.wat_lexer_parser.specs.names.RegisteredNames.{Names, is_registered, max_registrations, no_names}
use Rattle.wat_lexer_parser.specs.parser.State.{State, known, registered, seen, too_often}
use Rattle.wat_lexer_parser.specs.parser.Takers.{as_annotation, as_keyword}
use Rattle.wat_lexer_parser.specs.places.Places.{current_span}
use Rattle.wat_lexer_parser.specs.places.Source.{IsRead, Source}
use Rattle.wat_lexer_parser.specs.readings.Readings.{at_end, start, under_by, whole, whole_by}
use Rattle.wat_lexer_parser.specs.readings.Types.{spelling}
use Rattle.wat_lexer_parser.specs.rules.Rules.{Ground, While, known_word, tells_kind, tells_second, tells_word}
use Rattle.wat_lexer_parser.specs.rules.Rules as rules
use Rattle.wat_lexer_parser.specs.shown.Shown.{Finding, Shown, unclosed_ending}
use Rattle.wat_lexer_parser.specs.shown.Shown as shown_by
use Rattle.wat_lexer_parser.specs.shown.Showing.{Look, OneThingShown, SomethingShown, placed as look_placed, shown}
use Rattle.wat_module_custom.specs.Customs.{CustomSection, HasSections, Item, Plain, all_items, as_piece, custom_sections, head, item, items, level, may_have_customs, pieces, placed, placed_by, plain, sections_from}
use Rattle.wat_module_custom.specs.Unannotated.{IsOther, IsUnannotated, UnannotatedHasNone, custom_name}
use Rattle.wat_module_custom.specs.declared.reading.Piece.{Piece}
use Rattle.wat_module_custom.specs.declared.reading.Piece.TheVariants as piece

-- ---- one token

a_piece : (text : List ℕ) (t : Token) (k : TokenKind) → (p : Piece) × (as_piece text t k ≡ Some (Ok p))
a_piece text t kind.LParen = (piece.Open, refl)
a_piece text t kind.RParen = (piece.Close, refl)
a_piece text t kind.Id = (piece.Id, refl)
a_piece text t kind.LineComment = (piece.Other, refl)
a_piece text t kind.BlockComment = (piece.Other, refl)
a_piece text t kind.Whitespace = (piece.Other, refl)
a_piece text t kind.String = (piece.Other, refl)
a_piece text t kind.Keyword = (piece.Other, refl)
a_piece text t kind.Annotation = (piece.Other, refl)
a_piece text t kind.Reserved = (piece.Other, refl)
a_piece text t (kind.Integer i) = (piece.Other, refl)
a_piece text t (kind.Float f) = (piece.Other, refl)

-- No word, or one without an error.
abbrev IsFound : Option (Result (Unit {0}) Report) → Type 0
IsFound o = (o ≡ None) ⊎ (o ≡ Some (Ok tt))

chosen : (b : Bool) → IsFound (if b then Some (Ok tt) else None)
chosen true = inr refl
chosen false = inl refl

a_keyword : (w text : List ℕ) (t : Token) (k : TokenKind) → IsFound (spelling as_keyword w text t k)
a_keyword w text t kind.Keyword = chosen (bytes_eq _ w)
a_keyword w text t kind.LParen = inl refl
a_keyword w text t kind.RParen = inl refl
a_keyword w text t kind.Id = inl refl
a_keyword w text t kind.LineComment = inl refl
a_keyword w text t kind.BlockComment = inl refl
a_keyword w text t kind.Whitespace = inl refl
a_keyword w text t kind.String = inl refl
a_keyword w text t kind.Annotation = inl refl
a_keyword w text t kind.Reserved = inl refl
a_keyword w text t (kind.Integer i) = inl refl
a_keyword w text t (kind.Float f) = inl refl

-- The context of a text without a lexical error.
abbrev ground : List ℕ → ℕ → Ground
ground text span = record { text = text; end = record { fault = None; span = span } }

not_second : (text : List ℕ) (span : ℕ) (t : Token) (ts : List Token) → All (IsOther text) (t ∷ ts) → tells_second (tells_word (spelling as_annotation (codes "custom"))) (ground text span) (t ∷ ts) ≡ Ok false
not_second text span t [] h = refl
not_second text span t (u ∷ us) h = ap known_word (All-head (IsOther text) u us (All-tail (IsOther text) t (u ∷ us) h))

one_item : (text : List ℕ) (span : ℕ) (t : Token) (ts : List Token) → All (IsOther text) (t ∷ ts) → (p : Piece) × item.rule (ground text span) (t ∷ ts) (Plain p) ts
unfolding item
one_item text span t ts h = elim (a_keyword (codes "module") text t t.kind) [
  | inl absent ↦ let p = a_piece text t t.kind in (p.0, inr (not_second text span t ts h, inr (ap known_word absent, (p.0, rules.one p.1, refl))))
  | inr present ↦ (piece.Module, inr (not_second text span t ts h, inl (ap known_word present, (t.offset, ((tt, t.offset), (tt, rules.one present, refl), refl), refl))))
]

abbrev plain_items : List Piece → List Item
plain_items [] = []
plain_items (p ∷ ps) = Plain p ∷ plain_items ps

all_plain : (text : List ℕ) (span : ℕ) (ts : List Token) → All (IsOther text) ts → (ps : List Piece) × While (tells_kind as_piece) item.rule (ground text span) ts (plain_items ps) []
all_plain text span [] h = ([], rules.none refl)
all_plain text span (t ∷ ts) h =
    let i = one_item text span t ts h in
    let rest = all_plain text span ts (All-tail (IsOther text) t ts h) in
    (i.0 ∷ rest.0, rules.more (ap (λ r. Ok (is_some r)) (a_piece text t t.kind).1) i.1 rest.1)

-- ---- the visible tokens

shown_is : OneThingShown → (s : Source) (names : Names) (p : ℕ) (ts : List Token) (a : Finding) → ts ≡ drop p s.tokens → Shown s.setting.text s.ending names ts a → shown s p names ≡ look_placed s.tokens a
unfolding shown
shown_is one s names p ts a e shows =
    ap (λ ts. look_placed s.tokens (shown_in s.setting.text s.ending names Showing ts)) (sym e) ∙ ap (look_placed s.tokens) (sym (one s.setting.text s.ending names ts a shows))

seen_is : (s : Source) (names : Names) (p : ℕ) (l : Look) → shown s p names ≡ l → seen s p names ≡ known s.setting.text l
unfolding seen
seen_is s names p l e = ap (known s.setting.text) e

span_is : (s : Source) (names : Names) (p : ℕ) (l : Look) → shown s p names ≡ l → current_span s p names ≡ parts.span_of s p l
unfolding current_span
span_is s names p l e = ap (parts.span_of s p) e

-- All visible tokens from a position, as a sequence of peeks.
visible : OneThingShown → (s : Source) (names : Names) (p : ℕ) (ts us : List Token) (f : Option Fault) → AllShown s.setting.text s.ending names ts us f → f ≡ None → ts ≡ drop p s.tokens → At s names (ground s.setting.text (length s.setting.text)).end p us
visible one s names p ts _ _ (all_shown.end shows) n e =
    let is = shown_is one s names p ts (Ok None) e shows in
    (seen_is s names p (Ok None) is, span_is s names p (Ok None) is)
visible one s names p ts _ _ (all_shown.fault {f = f} shows) n e = cc
visible one s names p ts _ f (all_shown.next {r = r} {us = us} {t = t} shows others) n e =
    let x = s.setting.text in
    let q = length s.tokens - length r in
    let is = shown_is one s names p ts (Ok (Some (t, r))) e shows in
    let here : shown_in x s.ending names Showing ts ≡ Ok (Some (t, r)) = sym (one x s.ending names ts (Ok (Some (t, r))) shows) in
    let after = after_place t s.tokens p r (subst (λ ts. After t ts r) e (after_in x s.ending names Showing ts t r here)) in
    (q, is, visible one s names q r us f others n after.tail)

-- ---- nothing is visible without `@custom` where nothing is with it

unregistered : (x : List ℕ) → is_registered no_names x ≡ false
unregistered x = ap (λ o. nat_lt 0 (unwrap_or o 0)) (get-empty (slice_cmp nat_cmp) x)

not_unclosed : {A : Type 0} (z : Option LexFault) (t : Token) → unclosed_ending z t ≡ Ok None → A
not_unclosed None t e = cc
not_unclosed (Some f) t e = cc

fewer : (x : List ℕ) (z : Option LexFault) (ts : List Token) (a : Finding) → Shown x z custom_name ts a → a ≡ Ok None → Shown x z no_names ts a
fewer x z _ _ shown_by.none_left e = shown_by.none_left
fewer x z _ a (shown_by.blank {r = r} b h) e = shown_by.blank b (fewer x z r a h e)
fewer x z _ _ (shown_by.none_follows m) e = shown_by.none_follows m
fewer x z _ _ (shown_by.no_annotation m n) e = cc
fewer x z _ _ (shown_by.misnamed m n) e = cc
fewer x z _ _ (shown_by.registered m n k) e = cc
fewer x z _ a (shown_by.skipped {m = us} {x = y} m n k g h) e = shown_by.skipped m n (unregistered y) g (fewer x z us a h e)
fewer x z _ _ (shown_by.unclosed {t = t} m n k g) e = not_unclosed z t e
fewer x z _ _ (shown_by.unmarked k m) e = cc
fewer x z _ _ (shown_by.other b k) e = cc

known_none : (x : List ℕ) (l : Look) → known x l ≡ Ok None → l ≡ Ok None
known_none x (Ok None) e = refl
known_none x (Ok (Some v)) e = cc
known_none x (Err f) e = cc

nothing : OneThingShown → SomethingShown → (s : Source) (p : ℕ) → IsUtf8 s.setting.text → IsRead s → seen s p custom_name ≡ Ok None → seen s p no_names ≡ Ok None
unfolding seen shown
nothing one some s p u r e =
    let x = s.setting.text in
    let ts = drop p s.tokens in
    let found = from_none s.tokens (shown_in x s.ending custom_name Showing ts) (known_none x (shown s p custom_name) e) in
    let shows : Shown x s.ending custom_name ts (Ok None) = subst (λ a. Shown x s.ending custom_name ts a) found (some s custom_name p u r) in
    ap (λ a. known x (look_placed s.tokens a)) (sym (one x s.ending no_names ts (Ok None) (fewer x s.ending ts (Ok None) shows refl)))

-- ---- the reading

none_from : (left d : ℕ) (ps : List Piece) → sections_from left d (plain_items ps) ≡ Ok []
unfolding sections_from
none_from left d [] = refl
none_from (suc left) d (p ∷ ps) = none_from left d ps
none_from zero d (p ∷ ps) = none_from zero (level p d) ps

-- The state after the name is registered.
abbrev reading_state : Source → State
reading_state s = record { source = s; place = 0; names = custom_name; depth = 0 }

registers : (s : Source) → registered (start s) (codes "custom") ≡ Ok (reading_state s)
registers s = ap (λ (o : Option ℕ). if nat_eq (unwrap_or o 0) max_registrations then Err (too_often (start s)) else Ok (reading_state s)) (get-empty (slice_cmp nat_cmp) (codes "custom"))

read_none : OneThingShown → SomethingShown → (s : Source) (ts : List Token) → IsRead s → IsUtf8 s.setting.text → AllShown s.setting.text s.ending custom_name s.tokens ts None → All (IsOther s.setting.text) ts → placed s.setting.text (whole all_items s) ≡ Ok []
unfolding all_items items
read_none one some s ts r u all others =
    let x = s.setting.text in
    let b = reading_state s in
    let span = length x in
    let is = all_plain x span ts others in
    let at = visible one s custom_name 0 s.tokens ts None all refl refl in
    let o = items.reading b in
    let k = items.law.complete b (ground x span).end ts (plain_items is.0) [] at is.1 in
    let last = nothing one some s (b.place + o.passed) u r k.1.0 in
    ap (λ (r : Result State Report). let m = under_by r (not (is_registered no_names (codes "custom"))) items.reading in placed x (whole_by m.answer m.passed s)) (registers s)
    ∙ ap (λ a. placed x (whole_by a o.passed s)) k.0
    ∙ ap (λ p. placed x (at_end p (plain_items is.0) s)) last
    ∙ ap (placed_by x) (none_from (head (pieces (plain_items is.0))) 1 is.0)

-- ---- the sections of a text

module _ (tilings : TilingsAreUnique) (one : OneThingShown) (some : SomethingShown) where
  read : (s : Source) → IsRead s → IsUtf8 s.setting.text → s.setting ≡ plain s.setting.text → IsUnannotated s.setting.text → placed s.setting.text (whole all_items s) ≡ Ok []
  read s r u e h =
      let x = s.setting.text in
      let k = h.shown in
      let same = tilings (plain x) 0 k.tokens s.tokens k.ending s.ending k.tiling (subst (λ y. MaximalTiling y 0 s.tokens s.ending) e r) in
      let all = subst (λ ts. AllShown x s.ending custom_name ts h.tokens None) same.0 (subst (λ z. AllShown x z custom_name k.tokens h.tokens None) same.1 k.all) in
      read_none one some s h.tokens r u all h.others

  searched : (s : Source) (b : Bool) → placed s.setting.text (whole all_items s) ≡ Ok [] → (if b then placed s.setting.text (whole all_items s) else Ok []) ≡ Ok []
  searched s true e = e
  searched s false e = refl

  sections : (text : List ℕ) (r : Result (List CustomSection) Report) → IsUtf8 text → IsUnannotated text → HasSections text r → r ≡ Ok []
  unfolding custom_sections
  sections text r u h k =
      let s = k.source in
      let e : text ≡ s.setting.text = sym (ap (λ x. x.text) k.setting) in
      let p = k.setting ∙ ap plain e in
      k.are ∙ searched s (may_have_customs s.setting.text) (read s k.read (subst IsUtf8 e u) p (subst IsUnannotated e h))

  pub unannotated_has_none : UnannotatedHasNone
  unannotated_has_none = record { read = read; sections = sections }
