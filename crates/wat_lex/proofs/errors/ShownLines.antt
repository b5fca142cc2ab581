-- What is left to show of a line, at either end.
use Rattle.std.proofs.Common.{◌≡◌, ◌<◌, ◌≤◌, ◌+◌, ◌-◌, ℕ, zero, suc, Bool, true, false, not, List, [], ◌∷◌, ◌++◌, length, get_or, take, refl, true≢false, arith, ap, sym, ◌∙◌, subst, append_assoc, length-append, Option, Some, None}
use Rattle.std.specs.Prelude.{flat_map, replicate, MatchOption}
use Rattle.std.proofs.lemmas.Grind.{flat_map-append}
use Rattle.std.proofs.lemmas.List.{append-nil, nil_from_length, get_or-append-add}
use Rattle.std.proofs.lemmas.Str.{chars_past_char, IsUtf8-past_char, IsUtf8-take, chars-nil, encodes-append, encodes-chars, chars_from_encodes}
use Rattle.std.specs.Str.{chars, IsUtf8, IsCharBoundary}
use Rattle.std.specs.Str.Iter.{chars_rest, chars_steps, chars_steps_back}
use Rattle.std.specs.declared.str.Chars.{Chars}
use Rattle.std.proofs.Math.Seq.{take-append_seam}
use Rattle.std.specs.Iterator.{Yields, FindsItem}
use Rattle.std.specs.List.{FoldsTo}
use Rattle.std.specs.Fn.{CalledAt}
use denote.Param.Members.{Mut}
use denote.Ref.{Bor}
use lib.Utf8.{encode}
use Rattle.wat_lex.specs.grammar.Classes.{is_confusing}
use Rattle.wat_lex.specs.errors.Rendering.{rendered_char}
use Rattle.wat_lex.specs.errors.ShownView.{between}
use Rattle.wat_lex.specs.lemmas.Lengths.{shown_none}

-- The characters that are displayed of a text.
abbrev pub all_shown : List ℕ → List ℕ
all_shown text = flat_map rendered_char (chars text)

-- ---- a character comes off, from the front and from the back

pub first_off : (text rest : List ℕ) (c : ℕ) → IsUtf8 text → text ≡ encode c ++ rest → all_shown text ≡ rendered_char c ++ all_shown rest
first_off text rest c u e = ap (flat_map rendered_char) (chars_past_char text rest c u e)

-- no character has a later character's byte as its first
pub lead_byte : (c : ℕ) → 128 ≤ get_or (encode c) 0 0 → 192 ≤ get_or (encode c) 0 0
unfolding encode
lead_byte c h = grind arith

pub utf8_before : (text rest : List ℕ) (c : ℕ) → IsUtf8 text → text ≡ rest ++ encode c → IsUtf8 rest
utf8_before text rest c u e =
    let long : length text ≡ length rest + length (encode c) = ap length e ∙ length-append rest (encode c) in
    let end : length rest ≡ length rest + 0 = omega arith in
    let here : get_or text (length rest) 0 ≡ get_or (encode c) 0 0 = ap (λ t. get_or t (length rest) 0) e ∙ ap (λ n. get_or (rest ++ encode c) n 0) end ∙ get_or-append-add rest (encode c) 0 0 in
    let cut : IsCharBoundary text (length rest) = (omega (arith, long), λ _ high. subst (λ b. 192 ≤ b) (sym here) (lead_byte c (subst (λ b. 128 ≤ b) here high))) in
    subst IsUtf8 (ap (take (length rest)) e ∙ take-append_seam rest (encode c)) (IsUtf8-take text (length rest) u cut)

pub last_off : (text rest : List ℕ) (c : ℕ) → IsUtf8 text → text ≡ rest ++ encode c → all_shown text ≡ all_shown rest ++ rendered_char c
last_off text rest c u e =
    let before = utf8_before text rest c u e in
    let whole : chars rest ++ c ∷ [] ≡ chars text = chars_from_encodes (chars rest ++ c ∷ []) text u
    (encodes-append (chars rest) (c ∷ []) ∙ ap (λ x. x ++ (encode c ++ [])) (encodes-chars rest before) ∙ ap (λ x. rest ++ x) (append-nil (encode c)) ∙ sym e) in
    sym (ap (flat_map rendered_char) whole) ∙ flat_map-append rendered_char (chars rest) (c ∷ []) ∙ ap (λ x. all_shown rest ++ x) (append-nil (rendered_char c))

-- ---- characters that are dropped are skipped

is_dropped : (c : ℕ) → is_confusing c ≡ true → rendered_char c ≡ []
is_dropped c k = sym (shown_none c (λ e. absurd (true≢false (sym k ∙ ap is_confusing e))) k)

from_not : (b : Bool) → false ≡ not b → b ≡ true
from_not true e = refl
from_not false e = absurd (true≢false (sym e))

to_not : (b : Bool) → true ≡ not b → b ≡ false
to_not false e = refl
to_not true e = absurd (true≢false e)

module _ {F : Type 0} {g : Mut F (Bor ℕ × Unit {0}) Bool} (f : F)
    (tests : (x : ℕ) (b : Bool) (q : F) → CalledAt g f x b q → (q ≡ f) × (b ≡ not (is_confusing x))) where
  abbrev Passed : F → List ℕ → F → Type 0
  Passed = FoldsTo (λ p x q. CalledAt g p x false q)

  passed_front : (s t : Chars) (xs : List ℕ) (p q : F) → p ≡ f → IsUtf8 (chars_rest s) → Yields chars_steps s xs t → Passed p xs q → IsUtf8 (chars_rest t) × (all_shown (chars_rest s) ≡ all_shown (chars_rest t)) × (q ≡ f)
  passed_front s t [] p q e u y h = (subst (λ x. IsUtf8 (chars_rest x)) y u, ap (λ x. all_shown (chars_rest x)) y, sym h ∙ e)
  passed_front s t (x ∷ xs) p q e u y h =
      let call = tests x false h.0 (subst (λ p. CalledAt g p x false h.0) e h.1) in
      let dropped = is_dropped x (from_not (is_confusing x) call.1) in
      let off = first_off (chars_rest s) (chars_rest y.0) x u y.1.0 in
      let more = passed_front y.0 t xs h.0 q call.0 (IsUtf8-past_char (chars_rest s) (chars_rest y.0) x u y.1.0) y.2 h.2 in
      (more.0, off ∙ ap (λ d. d ++ all_shown (chars_rest y.0)) dropped ∙ more.1, more.2)

  passed_back : (s t : Chars) (xs : List ℕ) (p q : F) → p ≡ f → IsUtf8 (chars_rest s) → Yields chars_steps_back s xs t → Passed p xs q → IsUtf8 (chars_rest t) × (all_shown (chars_rest s) ≡ all_shown (chars_rest t)) × (q ≡ f)
  passed_back s t [] p q e u y h = (subst (λ x. IsUtf8 (chars_rest x)) y u, ap (λ x. all_shown (chars_rest x)) y, sym h ∙ e)
  passed_back s t (x ∷ xs) p q e u y h =
      let call = tests x false h.0 (subst (λ p. CalledAt g p x false h.0) e h.1) in
      let dropped = is_dropped x (from_not (is_confusing x) call.1) in
      let off = last_off (chars_rest s) (chars_rest y.0) x u y.1 in
      let more = passed_back y.0 t xs h.0 q call.0 (utf8_before (chars_rest s) (chars_rest y.0) x u y.1) y.2 h.2 in
      (more.0, off ∙ ap (λ d. all_shown (chars_rest y.0) ++ d) dropped ∙ append-nil _ ∙ more.1, more.2)

  nothing_left : (text : List ℕ) → length text ≡ 0 → all_shown text ≡ []
  nothing_left text e = ap all_shown (nil_from_length text e) ∙ ap (flat_map rendered_char) chars-nil

  pub found_first : (s u : Chars) (r : Option ℕ) → IsUtf8 (chars_rest s) → FindsItem chars_steps g s f r u
      → MatchOption r ((all_shown (chars_rest s) ≡ []) × (all_shown (chars_rest u) ≡ [])) (λ c. (is_confusing c ≡ false) × (all_shown (chars_rest s) ≡ rendered_char c ++ all_shown (chars_rest u)))
  found_first s u None b h =
      let passed = passed_front s h.2.0 h.0 f h.1 refl b h.2.1 h.3 in
      let last = h.2.2 in
      let none = nothing_left (chars_rest h.2.0) last.0.0 in
      (passed.1 ∙ none, ap (λ x. all_shown (chars_rest x)) last.0.1 ∙ none)
  found_first s u (Some c) b h =
      let passed = passed_front s h.2.0 h.0 f h.1 refl b h.2.1 h.3 in
      let last = h.2.2 in
      let call = tests c true h.4.0 (subst (λ p. CalledAt g p c true h.4.0) passed.2 h.4.1) in
      (to_not (is_confusing c) call.1, passed.1 ∙ first_off (chars_rest h.2.0) (chars_rest u) c passed.0 last.0)

  pub found_last : (s u : Chars) (r : Option ℕ) → IsUtf8 (chars_rest s) → FindsItem chars_steps_back g s f r u
      → MatchOption r ((all_shown (chars_rest s) ≡ []) × (all_shown (chars_rest u) ≡ [])) (λ c. (is_confusing c ≡ false) × (all_shown (chars_rest s) ≡ all_shown (chars_rest u) ++ rendered_char c))
  found_last s u None b h =
      let passed = passed_back s h.2.0 h.0 f h.1 refl b h.2.1 h.3 in
      let last = h.2.2 in
      let none = nothing_left (chars_rest h.2.0) last.0 in
      (passed.1 ∙ none, ap (λ x. all_shown (chars_rest x)) last.1 ∙ none)
  found_last s u (Some c) b h =
      let passed = passed_back s h.2.0 h.0 f h.1 refl b h.2.1 h.3 in
      let last = h.2.2 in
      let call = tests c true h.4.0 (subst (λ p. CalledAt g p c true h.4.0) passed.2 h.4.1) in
      (to_not (is_confusing c) call.1, passed.1 ∙ last_off (chars_rest h.2.0) (chars_rest u) c passed.0 last)

-- ---- between the spaces of TABs

-- an item at the front, and at the back
pub first_between : (front back : ℕ) (text rest item : List ℕ) → front ≤ 0 → all_shown text ≡ item ++ all_shown rest → between front text back ≡ item ++ between front rest back
first_between zero back text rest item l e = ap (λ x. x ++ replicate back 32) e ∙ append_assoc item (all_shown rest) (replicate back 32)
first_between (suc n) back text rest item l e = absurd (omega (arith, l))

pub last_between : (front back : ℕ) (text rest item : List ℕ) → back ≤ 0 → all_shown text ≡ all_shown rest ++ item → between front text back ≡ between front rest back ++ item
last_between front zero text rest item l e =
    ap (λ x. replicate front 32 ++ x) (append-nil (all_shown text) ∙ e ∙ ap (λ x. x ++ item) (sym (append-nil (all_shown rest)))) ∙ sym (append_assoc (replicate front 32) (all_shown rest ++ []) item)
last_between front (suc n) text rest item l e = absurd (omega (arith, l))

-- nothing between, and no spaces at the one end: a space of the other comes off, or nothing is left
pub back_space : (front back : ℕ) (text rest : List ℕ) → front ≤ 0 → 0 < back → all_shown text ≡ [] → all_shown rest ≡ [] → between front text back ≡ 32 ∷ between front rest (back - 1)
back_space zero (suc n) text rest l h a b = let less : n ≡ suc n - 1 = omega arith in
    ap (λ x. x ++ replicate (suc n) 32) a ∙ ap (λ x. 32 ∷ (x ++ replicate n 32)) (sym b) ∙ ap (λ k. 32 ∷ (all_shown rest ++ replicate k 32)) less
back_space zero zero text rest l h a b = absurd (omega (arith, h))
back_space (suc m) back text rest l h a b = absurd (omega (arith, l))

abbrev pub spaces : ℕ → List ℕ
spaces n = replicate n 32

spaces_end : (n : ℕ) → spaces (suc n) ≡ spaces n ++ 32 ∷ []
spaces_end zero = refl
spaces_end (suc n) = ap (λ x. 32 ∷ x) (spaces_end n)

pub front_space : (front back : ℕ) (text rest : List ℕ) → back ≤ 0 → 0 < front → all_shown text ≡ [] → all_shown rest ≡ [] → between front text back ≡ between (front - 1) rest back ++ 32 ∷ []
front_space (suc n) zero text rest l h a b =
    let less : n ≡ suc n - 1 = omega arith in
    ap (λ x. spaces (suc n) ++ (x ++ [])) a ∙ append-nil (spaces (suc n)) ∙ spaces_end n ∙ ap (λ x. x ++ 32 ∷ []) (sym (append-nil (spaces n)) ∙ ap (λ x. spaces n ++ (x ++ [])) (sym b) ∙ ap (λ k. spaces k ++ (all_shown rest ++ [])) less)
front_space zero zero text rest l h a b = absurd (omega (arith, h))
front_space front (suc m) text rest l h a b = absurd (omega (arith, l))

pub none_between : (front back : ℕ) (text : List ℕ) → front ≤ 0 → back ≤ 0 → all_shown text ≡ [] → between front text back ≡ []
none_between zero zero text l h e = append-nil (all_shown text) ∙ e
none_between (suc n) back text l h e = absurd (omega (arith, l))
none_between zero (suc n) text l h e = absurd (omega (arith, h))

-- a TAB, of whose spaces three stay
pub first_tab : (front back : ℕ) (text rest : List ℕ) → front ≤ 0 → all_shown text ≡ spaces 4 ++ all_shown rest → between front text back ≡ 32 ∷ between 3 rest back
first_tab front back text rest l e = first_between front back text rest (spaces 4) l e ∙ first_moved front l
  where
    first_moved : (front : ℕ) → front ≤ 0 → spaces 4 ++ between front rest back ≡ 32 ∷ between 3 rest back
    first_moved zero l = refl
    first_moved (suc n) l = absurd (omega (arith, l))

pub last_tab : (front back : ℕ) (text rest : List ℕ) → back ≤ 0 → all_shown text ≡ all_shown rest ++ spaces 4 → between front text back ≡ between front rest 3 ++ 32 ∷ []
last_tab front zero text rest l e =
    ap (λ x. spaces front ++ x) (append-nil (all_shown text) ∙ e ∙ sym (append_assoc (all_shown rest) (spaces 3) (32 ∷ []))) ∙ sym (append_assoc (spaces front) (all_shown rest ++ spaces 3) (32 ∷ []))
last_tab front (suc n) text rest l e = absurd (omega (arith, l))
