-- Words without an escape.
use Rattle.std.proofs.Common.{◌≡◌, ℕ, Bool, true, false, List, [], ◌∷◌, inl, inr, Err, Ok, Some, None, refl, subst, ap, ◌∙◌, sym}
use Rattle.std.specs.Cow.{IsBorrowedStr}
use Rattle.std.specs.declared.borrow.CowStr.{CowStr}
use Rattle.std.specs.declared.borrow.CowStr.TheVariants.{Borrowed, Owned}
use Rattle.std.specs.Prelude.{◌==◌, ◌&&◌, ◌||◌, ◌↔◌, Option, Result, is_err, is_some}
use Rattle.std.specs.List.{list_any}
use Rattle.std.specs.Str.{NonePass}
use Rattle.std.proofs.lemmas.Bool.{cases_Bool}
use Rattle.wat_lex.specs.errors.Errors.{Report}
use Rattle.wat_lex.specs.grammar.Classes.{quote, backslash}
use Rattle.wat_lex.specs.identifiers.Identifiers.{is_owned_str}
use Rattle.wat_lex.specs.tokens.ReadableTokens.{word_of}
use Rattle.wat_lex.specs.values.Names.{HasNone, HasNoEscape}
use Rattle.wat_lex.specs.declared.lexer.kinds.Token.{Token}
use Rattle.wat_lex.specs.declared.lexer.kinds.TokenKind.TheVariants.{String}
use Rattle.wat_lexer_parser.specs.parser.State.{State, Answers, at_place, peek_at}
use Rattle.wat_lexer_parser.specs.parser.Takers.{contains, allocates_at, as_string, word_allocates}
use Rattle.wat_lexer_parser.specs.lemmas.Parts.{may_take}

none_pass : (p : ℕ → Bool) (w : List ℕ) → list_any p w ≡ false → NonePass p w
none_pass p [] e = tt
none_pass p (c ∷ w) e = elim (cases_Bool (p c)) [
  | inl h ↦ let k : true ≡ false = sym (ap (λ b. b || list_any p w) h) ∙ e in cc
  | inr h ↦ (h, none_pass p w (sym (ap (λ b. b || list_any p w) h) ∙ e))
]

pub has_none : (c : ℕ) (w : List ℕ) → contains c w ≡ false → HasNone c w
has_none c w e = none_pass (λ d. d == c) w e

no_escape : (w : List ℕ) → (contains quote w && contains backslash w) ≡ false → HasNoEscape w
no_escape w e = elim (cases_Bool (contains quote w)) [
  | inl h ↦ inr (has_none backslash w (sym (ap (λ b. b && contains backslash w) h) ∙ e))
  | inr h ↦ inl (has_none quote w h)
]

-- A word that may have an escape contains a quotation mark and a backslash.
pub escapes : (w : List ℕ) → (HasNoEscape w → ⊥) → (contains quote w && contains backslash w) ≡ true
escapes w h = elim (cases_Bool (contains quote w && contains backslash w)) [
  | inl e ↦ e
  | inr e ↦ absurd (h (no_escape w e))
]

pub contained : (c : ℕ) (w : List ℕ) → (HasNone c w → ⊥) → contains c w ≡ true
contained c w h = elim (cases_Bool (contains c w)) [
  | inl e ↦ e
  | inr e ↦ absurd (h (has_none c w e))
]

-- An allocation failure is a permitted result if the call may allocate.
pub wanting : {V T : Type 0} (takes : Bool) (f : T → V) (m : Result V Report) (r : Result T (Option Report)) → r ≡ Err None → takes ≡ true → Answers takes f m r
wanting takes f m r e h = subst (Answers takes f m) (sym e) (ap (λ b. b || is_err m) h)

pub may_take_string : (a : State) (p q : ℕ) (t : Token) → peek_at (at_place a p) ≡ Ok (Some (t, q)) → t.kind ≡ String → allocates_at as_string (at_place a p) ≡ contains backslash (word_of a.source.setting.text t)
may_take_string a p q t e k =
    let x = a.source.setting.text in ap (may_take as_string x) e ∙ ap (λ k. is_some (as_string x t k) && word_allocates x t k) k

none_in : (p : ℕ → Bool) (w : List ℕ) → NonePass p w → list_any p w ≡ false
none_in p [] h = refl
none_in p (c ∷ w) h = ap (λ b. b || list_any p w) h.0 ∙ none_in p w h.1

no_backslash : (b : Bool) → (b && false) ≡ false
no_backslash true = refl
no_backslash false = refl

not_escaped : (w : List ℕ) → HasNoEscape w → (contains quote w && contains backslash w) ≡ false
not_escaped w h = elim h [
  | inl k ↦ ap (λ b. b && contains backslash w) (none_in (λ d. d == quote) w k)
  | inr k ↦ ap (λ b. contains quote w && b) (none_in (λ d. d == backslash) w k) ∙ no_backslash (contains quote w)
]

-- A name that is borrowed without an escape is owned with one.
pub owned_where_escaped : {Z : Type 0} (name : CowStr Z) (w : List ℕ) → (IsBorrowedStr name ↔ HasNoEscape w) → is_owned_str name ≡ (contains quote w && contains backslash w)
owned_where_escaped (Borrowed text) w h = sym (not_escaped w (h.0 tt))
owned_where_escaped (Owned text) w h = sym (escapes w (λ e. h.1 e))
