-- The visible token at a position, one step at a time.
use Rattle.std.proofs.Common.{◌≡◌, ℕ, zero, suc, ◌+◌, ◌-◌, ◌<◌, ◌≤◌, List, [], ◌∷◌, refl, sym, ap, ◌∙◌, inl, inr, subst, length, drop, get_or, arith, length-drop, Some, None, Ok, Err}
use Rattle.std.specs.Prelude.{slice_get, Option, Result, true, if◌then◌else◌}
use Rattle.std.proofs.lemmas.List.{drop_more, drop_all}
use Rattle.wat_lex.specs.declared.lexer.faults.LexFault.{LexFault}
use Rattle.wat_lex.specs.declared.lexer.kinds.TokenKind.{TokenKind}
use Rattle.wat_lex.specs.declared.lexer.kinds.TokenKind.TheVariants.{LineComment, BlockComment, Whitespace, LParen, RParen, String, Id, Keyword, Annotation, Reserved, Integer, Float}
use Rattle.wat_lex.specs.declared.lexer.kinds.Token.{Token}
use Rattle.wat_lexer_parser.specs.declared.parser.fault.Fault.{Fault}
use Rattle.wat_lexer_parser.specs.declared.parser.fault.Step.TheVariants.{Pass, Take, Finish, Refuse, Skip}
use Rattle.wat_lexer_parser.proofs.groups.Closing.{Closed}
use Rattle.wat_lexer_parser.specs.lemmas.After.{does}
use Rattle.wat_lexer_parser.specs.names.RegisteredNames.{Names, is_registered}
use Rattle.wat_lexer_parser.specs.shown.Shown.{ended, unclosed_ending}
use Rattle.wat_lexer_parser.specs.shown.Showing.{shown, placed}
use Rattle.wat_lexer_parser.specs.inside.ShownIn.{Showing, shown_in, first, step_of, step_kind, step_next, step_named, name_at}
use Rattle.wat_lexer_parser.specs.places.Source.{Source}
use Rattle.wat_lex.specs.tokens.Blanks.{is_blank, is_marked}
use Rattle.wat_lexer_parser.specs.inside.Table.{HeadsAnnotation}
use Rattle.wat_lexer_parser.proofs.shown.Annotations.{is_annotation, no_name}
use Rattle.wat_lexer_parser.proofs.shown.Skipping.{past_closed, closes_or_not}
use Rattle.std.proofs.lemmas.Bool.{cases_Bool}
use Rattle.std.proofs.lemmas.Option.{slice_get_read, slice_get_within, get_or_from_slice_get}
use Rattle.wat_lex.specs.declared.lexer.faults.LexError.{LexError}
use Rattle.wat_lexer_parser.specs.inside.Groups.{found_inside}
use Rattle.wat_lexer_parser.proofs.places.Comments.{drop_none}

pub step_at : (x : List ℕ) (z : Option LexFault) (n : Names) (t : Token) (r : List Token) → shown_in x z n Showing (t ∷ r) ≡ does x z n t r (step_of x n t (first r))
unfolding shown_in
step_at x z n t r = refl

pub first-drop : (i : ℕ) (ts : List Token) → first (drop i ts) ≡ slice_get ts i
first-drop zero [] = refl
first-drop zero (t ∷ ts) = refl
first-drop (suc i) [] = refl
first-drop (suc i) (t ∷ ts) = first-drop i ts

-- The token at a position determines the visible token there.
pub shown_at : (s : Source) (n : Names) (i : ℕ) (t : Token) → i < length s.tokens → t ≡ get_or s.tokens i t
    → shown s i n ≡ placed s.tokens (does s.setting.text s.ending n t (drop (i + 1) s.tokens) (step_of s.setting.text n t (slice_get s.tokens (i + 1))))
unfolding shown
shown_at s n i t h e =
    let f : drop i s.tokens ≡ t ∷ drop (i + 1) s.tokens = drop_more s.tokens i t h ∙ ap (λ x. x ∷ drop (i + 1) s.tokens) (sym e) in
    ap (λ x. placed s.tokens (shown_in s.setting.text s.ending n Showing x)) f
    ∙ ap (placed s.tokens) (step_at s.setting.text s.ending n t (drop (i + 1) s.tokens))
    ∙ ap (λ u. placed s.tokens (does s.setting.text s.ending n t (drop (i + 1) s.tokens) (step_of s.setting.text n t u))) (first-drop (i + 1) s.tokens)

pub shown_end : (s : Source) (n : Names) (i : ℕ) → length s.tokens ≤ i → shown s i n ≡ placed s.tokens (ended s.ending)
unfolding shown shown_in
shown_end s n i h = ap (λ x. placed s.tokens (shown_in s.setting.text s.ending n Showing x)) (drop_all i s.tokens h)

pub shown_pass : (s : Source) (n : Names) (i : ℕ) (t : Token) → i < length s.tokens → t ≡ get_or s.tokens i t
    → step_of s.setting.text n t (slice_get s.tokens (i + 1)) ≡ Pass → shown s i n ≡ shown s (i + 1) n
unfolding shown
shown_pass s n i t h e f = shown_at s n i t h e ∙ ap (λ k. placed s.tokens (does s.setting.text s.ending n t (drop (i + 1) s.tokens) k)) f

pub shown_take : (s : Source) (n : Names) (i : ℕ) (t : Token) → i < length s.tokens → t ≡ get_or s.tokens i t
    → step_of s.setting.text n t (slice_get s.tokens (i + 1)) ≡ Take → shown s i n ≡ Ok (Some (t, i + 1))
shown_take s n i t h e f =
    let k : length s.tokens - length (drop (i + 1) s.tokens) ≡ i + 1 = omega (arith, length-drop (i + 1) s.tokens) in
    shown_at s n i t h e ∙ ap (λ k. placed s.tokens (does s.setting.text s.ending n t (drop (i + 1) s.tokens) k)) f ∙ ap (λ x. Ok (Some (t, x))) k

pub shown_finish : (s : Source) (n : Names) (i : ℕ) (t : Token) → i < length s.tokens → t ≡ get_or s.tokens i t
    → step_of s.setting.text n t (slice_get s.tokens (i + 1)) ≡ Finish → shown s i n ≡ placed s.tokens (ended s.ending)
shown_finish s n i t h e f = shown_at s n i t h e ∙ ap (λ k. placed s.tokens (does s.setting.text s.ending n t (drop (i + 1) s.tokens) k)) f

pub shown_refuse : (s : Source) (n : Names) (i : ℕ) (t : Token) (x : Fault) → i < length s.tokens → t ≡ get_or s.tokens i t
    → step_of s.setting.text n t (slice_get s.tokens (i + 1)) ≡ Refuse x → shown s i n ≡ Err x
shown_refuse s n i t x h e f = shown_at s n i t h e ∙ ap (λ k. placed s.tokens (does s.setting.text s.ending n t (drop (i + 1) s.tokens) k)) f

pub shown_skip : (s : Source) (n : Names) (i j : ℕ) (t : Token) → i < length s.tokens → t ≡ get_or s.tokens i t
    → step_of s.setting.text n t (slice_get s.tokens (i + 1)) ≡ Skip → Closed (drop (i + 1) s.tokens) (drop (j + 1) s.tokens) → shown s i n ≡ shown s (j + 1) n
unfolding shown
shown_skip s n i j t h e f g =
    shown_at s n i t h e ∙ ap (λ k. placed s.tokens (does s.setting.text s.ending n t (drop (i + 1) s.tokens) k)) f
    ∙ ap (placed s.tokens) (past_closed s.setting.text s.ending n t 0 (drop (i + 1) s.tokens) (drop (j + 1) s.tokens) g)

pub shown_unclosed : (s : Source) (n : Names) (i : ℕ) (t : Token) → i < length s.tokens → t ≡ get_or s.tokens i t
    → step_of s.setting.text n t (slice_get s.tokens (i + 1)) ≡ Skip → ((r : List Token) → Closed (drop (i + 1) s.tokens) r → ⊥) → shown s i n ≡ placed s.tokens (unclosed_ending s.ending t)
shown_unclosed s n i t h e f g =
    shown_at s n i t h e ∙ ap (λ k. placed s.tokens (does s.setting.text s.ending n t (drop (i + 1) s.tokens) k)) f
    ∙ ap (placed s.tokens) (elim (closes_or_not s.setting.text s.ending n t 0 (drop (i + 1) s.tokens)) [
      | inl k ↦ absurd (g k.1.0 k.1.1)
      | inr k ↦ k.shows
    ])

-- Only an opening parenthesis begins a group.
pub skip_opens : (s : Source) (n : Names) (t : Token) (u : Option Token) → step_of s.setting.text n t u ≡ Skip → t.kind ≡ LParen
skip_opens s n t u e = opens t.kind refl
  where
    opens : (k : TokenKind) → t.kind ≡ k → t.kind ≡ LParen
    opens LParen f = f
    opens LineComment f = let g : step_kind s.setting.text n t LineComment u ≡ Skip = subst (λ x. step_kind s.setting.text n t x u ≡ Skip) f e in cc
    opens BlockComment f = let g : step_kind s.setting.text n t BlockComment u ≡ Skip = subst (λ x. step_kind s.setting.text n t x u ≡ Skip) f e in cc
    opens Whitespace f = let g : step_kind s.setting.text n t Whitespace u ≡ Skip = subst (λ x. step_kind s.setting.text n t x u ≡ Skip) f e in cc
    opens RParen f = let g : step_kind s.setting.text n t RParen u ≡ Skip = subst (λ x. step_kind s.setting.text n t x u ≡ Skip) f e in cc
    opens String f = let g : step_kind s.setting.text n t String u ≡ Skip = subst (λ x. step_kind s.setting.text n t x u ≡ Skip) f e in cc
    opens Id f = let g : step_kind s.setting.text n t Id u ≡ Skip = subst (λ x. step_kind s.setting.text n t x u ≡ Skip) f e in cc
    opens Keyword f = let g : step_kind s.setting.text n t Keyword u ≡ Skip = subst (λ x. step_kind s.setting.text n t x u ≡ Skip) f e in cc
    opens Annotation f = let g : step_kind s.setting.text n t Annotation u ≡ Skip = subst (λ x. step_kind s.setting.text n t x u ≡ Skip) f e in cc
    opens Reserved f = let g : step_kind s.setting.text n t Reserved u ≡ Skip = subst (λ x. step_kind s.setting.text n t x u ≡ Skip) f e in cc
    opens (Integer y) f = let g : step_kind s.setting.text n t (Integer y) u ≡ Skip = subst (λ x. step_kind s.setting.text n t x u ≡ Skip) f e in cc
    opens (Float y) f = let g : step_kind s.setting.text n t (Float y) u ≡ Skip = subst (λ x. step_kind s.setting.text n t x u ≡ Skip) f e in cc

-- The tokens after a step that skips a group.
heads_by : (s : Source) (n : Names) (i : ℕ) (t : Token) (o : Option Token) → slice_get s.tokens i ≡ Some t → slice_get s.tokens (i + 1) ≡ o → t.kind ≡ LParen → step_kind s.setting.text n t LParen o ≡ Skip → (u : Token) × HeadsAnnotation s.tokens i u
heads_by s n i t None e f o h = elim (cases_Bool (is_marked s.setting.text t)) [
  | inl m ↦ let k : Finish ≡ Skip = sym (ap (λ b. if b then step_next s.setting.text n None else Take) m) ∙ h in cc
  | inr m ↦ let k : Take ≡ Skip = sym (ap (λ b. if b then step_next s.setting.text n None else Take) m) ∙ h in cc
]
heads_by s n i t (Some u) e f o h = elim (cases_Bool (is_marked s.setting.text t)) [
  | inl m ↦
      let k : step_named n u (name_at s.setting.text u) ≡ Skip = sym (ap (λ b. if b then step_next s.setting.text n (Some u) else Take) m) ∙ h in
      elim (is_annotation u.kind) [
        | inl a ↦ (u, record { paren = t; opens = e; next = f; is_open = o; is_annotation = a })
        | inr a ↦ let l : Take ≡ Skip = sym (ap (step_named n u) (no_name s.setting.text u u.kind a)) ∙ k in cc
      ]
  | inr m ↦ let k : Take ≡ Skip = sym (ap (λ b. if b then step_next s.setting.text n (Some u) else Take) m) ∙ h in cc
]

pub skip_heads : (s : Source) (n : Names) (i : ℕ) (t : Token) → i < length s.tokens → t ≡ get_or s.tokens i t → step_of s.setting.text n t (slice_get s.tokens (i + 1)) ≡ Skip → (u : Token) × HeadsAnnotation s.tokens i u
skip_heads s n i t l e h =
    let o = skip_opens s n t (slice_get s.tokens (i + 1)) h in
    heads_by s n i t (slice_get s.tokens (i + 1)) (slice_get_read s.tokens (length s.tokens) i t refl l e) refl o (subst (λ k. step_kind s.setting.text n t k (slice_get s.tokens (i + 1)) ≡ Skip) o h)

-- Whitespace and comments are skipped.
pub blank_passes : (x : List ℕ) (n : Names) (t : Token) (u : Option Token) → is_blank t.kind ≡ true → step_of x n t u ≡ Pass
blank_passes x n t u e = passes t.kind e
  where
    passes : (k : TokenKind) → is_blank k ≡ true → step_kind x n t k u ≡ Pass
    passes Whitespace e = refl
    passes LineComment e = refl
    passes BlockComment e = refl
    passes LParen e = cc
    passes RParen e = cc
    passes String e = cc
    passes Id e = cc
    passes Keyword e = cc
    passes Annotation e = cc
    passes Reserved e = cc
    passes (Integer k) e = cc
    passes (Float k) e = cc

pub shown_none : (s : Source) (n : Names) (i : ℕ) → slice_get s.tokens i ≡ None → shown s i n ≡ placed s.tokens (ended s.ending)
unfolding shown shown_in
shown_none s n i e = ap (λ x. placed s.tokens (shown_in s.setting.text s.ending n Showing x)) (drop_none s.tokens i e)

-- The token visible at a parenthesis whose group is skipped.
pub shown_group : (s : Source) (n : Names) (i : ℕ) (t : Token) → slice_get s.tokens i ≡ Some t → step_of s.setting.text n t (slice_get s.tokens (i + 1)) ≡ Skip → shown s i n ≡ placed s.tokens (found_inside s (i + 1) 0 n t)
shown_group s n i t e f =
    shown_at s n i t (slice_get_within s.tokens i t e) (sym (get_or_from_slice_get s.tokens i t t e))
    ∙ ap (λ k. placed s.tokens (does s.setting.text s.ending n t (drop (i + 1) s.tokens) k)) f

named_goes_on : (n : Names) (u : Token) (o : Option (Result (List ℕ) LexError)) → step_named n u o ≡ Finish → ⊥
named_goes_on n u None e = cc
named_goes_on n u (Some (Err x)) e = cc
named_goes_on n u (Some (Ok x)) e = elim (cases_Bool (is_registered n x)) [
  | inl r ↦ let k : Take ≡ Finish = sym (ap (λ b. if b then Take else Skip) r) ∙ e in cc
  | inr r ↦ let k : Skip ≡ Finish = sym (ap (λ b. if b then Take else Skip) r) ∙ e in cc
]

finish_by : (x : List ℕ) (n : Names) (t : Token) (u : Option Token) (k : TokenKind) → step_kind x n t k u ≡ Finish → u ≡ None
finish_by x n t None k e = refl
finish_by x n t (Some u) LParen e = elim (cases_Bool (is_marked x t)) [
  | inl m ↦ absurd (named_goes_on n u (name_at x u) (sym (ap (λ b. if b then step_next x n (Some u) else Take) m) ∙ e))
  | inr m ↦ let k : Take ≡ Finish = sym (ap (λ b. if b then step_next x n (Some u) else Take) m) ∙ e in cc
]
finish_by x n t (Some u) Whitespace e = cc
finish_by x n t (Some u) LineComment e = cc
finish_by x n t (Some u) BlockComment e = cc
finish_by x n t (Some u) RParen e = cc
finish_by x n t (Some u) String e = cc
finish_by x n t (Some u) Id e = cc
finish_by x n t (Some u) Keyword e = cc
finish_by x n t (Some u) Annotation e = cc
finish_by x n t (Some u) Reserved e = cc
finish_by x n t (Some u) (Integer k) e = cc
finish_by x n t (Some u) (Float k) e = cc

-- If the tokens end with a `(` that is followed by `@`, the result of a peek is the one after it.
pub shown_last : (s : Source) (n : Names) (i : ℕ) (t : Token) → slice_get s.tokens i ≡ Some t → step_of s.setting.text n t (slice_get s.tokens (i + 1)) ≡ Finish → shown s i n ≡ shown s (i + 1) n
shown_last s n i t e f =
    shown_finish s n i t (slice_get_within s.tokens i t e) (sym (get_or_from_slice_get s.tokens i t t e)) f
    ∙ sym (shown_none s n (i + 1) (finish_by s.setting.text n t (slice_get s.tokens (i + 1)) t.kind f))

pub shown_passed : (s : Source) (n : Names) (i : ℕ) (t : Token) → slice_get s.tokens i ≡ Some t → step_of s.setting.text n t (slice_get s.tokens (i + 1)) ≡ Pass → shown s i n ≡ shown s (i + 1) n
shown_passed s n i t e f = shown_pass s n i t (slice_get_within s.tokens i t e) (sym (get_or_from_slice_get s.tokens i t t e)) f

pub shown_taken : (s : Source) (n : Names) (i : ℕ) (t : Token) → slice_get s.tokens i ≡ Some t → step_of s.setting.text n t (slice_get s.tokens (i + 1)) ≡ Take → shown s i n ≡ Ok (Some (t, i + 1))
shown_taken s n i t e f = shown_take s n i t (slice_get_within s.tokens i t e) (sym (get_or_from_slice_get s.tokens i t t e)) f

pub shown_refused : (s : Source) (n : Names) (i : ℕ) (t : Token) (x : Fault) → slice_get s.tokens i ≡ Some t → step_of s.setting.text n t (slice_get s.tokens (i + 1)) ≡ Refuse x → shown s i n ≡ Err x
shown_refused s n i t x e f = shown_refuse s n i t x (slice_get_within s.tokens i t e) (sym (get_or_from_slice_get s.tokens i t t e)) f

pub shown_from : (s : Source) (n : Names) (i : ℕ) → shown s i n ≡ placed s.tokens (shown_in s.setting.text s.ending n Showing (drop i s.tokens))
unfolding shown
shown_from s n i = refl
