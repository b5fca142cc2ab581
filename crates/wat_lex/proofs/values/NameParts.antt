-- Values of strings, a part at a time.
use Rattle.std.proofs.Common.{◌≡◌, ◌≢◌, ◌≤◌, ◌<◌, ◌+◌, ◌-◌, ◌↔◌, ℕ, List, [], ◌∷◌, ◌++◌, length, take, drop, get_or, refl, arith, ap, sym, ◌∙◌, subst, Bool, true, false, length-append, length-drop, length-take-le, rules, inl, inr}
use Rattle.std.specs.Prelude.{Some, None, Result, Ok, Err, is_err, MatchResult, slice_index, ◌==◌, set, if◌then◌else◌}
use Rattle.std.specs.Bool.{Decides}
use Rattle.std.specs.Char.{IsScalar}
use Rattle.std.specs.Result.{result_err}
use Rattle.std.specs.Str.{chars, IsUtf8, is_utf8}
use Rattle.std.proofs.lemmas.Bool.{cases_Bool, eqb-true, eq-eqb, both_ways, false≢true}
use Rattle.std.proofs.lemmas.List.{append-nil, append_assoc, append_cancel_left, take_at, drop_at, take_more_set, get_or-append-add}
use Rattle.std.proofs.lemmas.Str.{IsUtf8-append, IsUtf8-encode, IsUtf8-take, IsUtf8-drop, IsCharBoundary-from_drop, IsCharBoundary-from_take, IsCharBoundary-start, length-encode, len_utf8_bounds}
use lib.Utf8.{encode, encodes, scalars}
use Rattle.memchr.specs.Find.{IsFirstByte, is_byte}
use Rattle.wat_lex.specs.declared.lexer.faults.LexError.{LexError}
use Rattle.wat_lex.specs.declared.lexer.faults.LexError.TheVariants.{InvalidUtf8Id}
use Rattle.wat_lex.specs.grammar.Classes.{Each, is_idchar}
use Rattle.wat_lex.specs.tokens.Setting.{lenient}
use Rattle.wat_lex.specs.grammar.Strings.{Element, ends}
use Rattle.wat_lex.specs.values.Names.{IsQuoted}
use Rattle.wat_lex.specs.values.WordValues.{Between, elements_value, named_bytes, name_bytes, checked_name, name_value}
use Rattle.wat_lex.specs.inside.StringParts.{value_of, part_bytes, IsWhole, Taken, PlainBytes, EndsCharacters}
use Rattle.wat_lex.specs.declared.lexer.read.names.Part.{Part}
use Rattle.wat_lex.specs.declared.lexer.read.names.Part.TheVariants.{Text, Byte, Scalar}
use Rattle.wat_lex.proofs.values.StringValues.{Reading, reading_element, reading_plain, at_backslash, closing, no_backslash}
use Rattle.wat_lex.proofs.values.Names.{NameTail, quote_cut, bare_named}
use Rattle.wat_lex.proofs.values.WordValues.{elements_are, named_is, good_name, bad_name}

-- ---- one part

start : (elements : List ℕ) → IsUtf8 elements → IsQuoted (chars elements) → Reading elements elements []
start elements u q = record { value = q.0; left = q.1; whole = q.1; utf8 = u }

read : (elements rest bytes : List ℕ) → Reading elements rest bytes → value_of elements ≡ bytes ++ value_of rest
read elements rest bytes h =
    elements_are lenient (chars elements) (bytes ++ h.value) [] h.whole ∙ ap (λ x. bytes ++ x) (sym (elements_are lenient (chars rest) h.value [] h.left))

pub element_taken : (elements rest bytes : List ℕ) → IsUtf8 elements → IsQuoted (chars elements) → Element lenient (chars elements) bytes (chars rest) → IsUtf8 rest → length rest < length elements → Taken elements bytes rest
element_taken elements rest bytes u q e v l =
    let h = reading_element elements elements [] rest bytes (start elements u q) e v in
    record { value = read elements rest bytes h; quoted = (h.value, h.left); utf8 = v; shorter = l }

pub plain_to_escape : (elements : List ℕ) (n : ℕ) → IsUtf8 elements → IsQuoted (chars elements) → IsFirstByte (is_byte 92) elements (Some n) → 0 < n → PlainBytes elements n
plain_to_escape elements n u q b l =
    let h = reading_plain elements elements [] n (start elements u q) b in
    let a = at_backslash elements n u b in
    let r = a.range in
    record {
      boundary = IsCharBoundary-from_drop elements n (omega arith) a.left;
      value = read elements (drop n elements) (take n elements) h;
      quoted = (h.value, h.left);
      none = λ z. absurd (omega (arith, z, l));
    }

closed : (t : List ℕ) → t ≡ 34 ∷ [] → elements_value Between t ≡ []
unfolding elements_value
closed t e = ap (elements_value Between) e

pub plain_to_quote : (elements : List ℕ) → IsUtf8 elements → IsQuoted (chars elements) → IsFirstByte (is_byte 92) elements None → PlainBytes elements (length elements - 1)
plain_to_quote elements u q b =
    let c = closing elements q.0 u (no_backslash elements u b) q.1 in
    let n = length elements - 1 in
    let is : value_of elements ≡ take n elements = elements_are lenient (chars elements) q.0 [] q.1 ∙ sym c.value in
    record {
      boundary = c.boundary;
      value = is ∙ sym (append-nil (take n elements)) ∙ ap (λ x. take n elements ++ x) (sym (closed (chars (drop n elements)) c.quote));
      quoted = subst IsQuoted (sym c.quote) ([], ends);
      none = λ z. is ∙ ap (λ x. take x elements) z;
    }

pub text_taken : (elements : List ℕ) (n : ℕ) → PlainBytes elements n → IsUtf8 elements → 0 < n → Taken elements (take n elements) (drop n elements)
text_taken elements n p u l = record {
  value = p.value;
  quoted = p.quoted;
  utf8 = IsUtf8-drop elements n u p.boundary;
  shorter = let b = p.boundary in grind (arith, length-drop);
}

-- ---- comparing

-- what is wanted of the whole is wanted of what is left, before a part and after it
pub compared : (P : Type 0) (old bytes new left stripped : List ℕ) → (P ↔ (value_of old ≡ left)) → Taken old bytes new → left ≡ bytes ++ stripped → P ↔ (value_of new ≡ stripped)
compared P old bytes new left stripped h t e = (
  λ p. append_cancel_left bytes (value_of new) stripped (sym t.value ∙ h.0 p ∙ e),
  λ k. h.1 (t.value ∙ ap (λ x. bytes ++ x) k ∙ sym e),
)

pub differs : (P : Type 0) (old bytes new left : List ℕ) → (P ↔ (value_of old ≡ left)) → Taken old bytes new → ((rest : List ℕ) → left ≢ bytes ++ rest) → P → ⊥
differs P old bytes new left h t n p = n (value_of new) (sym (h.0 p) ∙ t.value)

-- ---- UTF-8

pub past_utf8 : (xs ys : List ℕ) → IsUtf8 xs → IsUtf8 (xs ++ ys) → IsUtf8 ys
past_utf8 xs ys u v =
    let l = length-append xs ys in
    let b = IsCharBoundary-from_take (xs ++ ys) (length xs) v (omega (arith, l)) (subst IsUtf8 (sym (take_at xs ys (length xs) refl)) u) in
    subst IsUtf8 (drop_at xs ys (length xs) refl) (IsUtf8-drop (xs ++ ys) (length xs) v b)

-- a value is UTF-8 where what follows its first characters is
pub passed : (P : Type 0) (old bytes new : List ℕ) → (P ↔ IsUtf8 old) → old ≡ bytes ++ new → IsUtf8 bytes → P ↔ IsUtf8 new
passed P old bytes new h e u = (
  λ p. past_utf8 bytes new u (subst IsUtf8 e (h.0 p)),
  λ v. h.1 (subst IsUtf8 (sym e) (IsUtf8-append bytes new u v)),
)

-- bytes are UTF-8 where a character begins after them and all is
pub before_whole : (p u v : List ℕ) → IsUtf8 (p ++ (u ++ v)) → IsUtf8 u → u ≢ [] → IsUtf8 p
before_whole p [] v h k n = absurd (n refl)
before_whole p (c ∷ u) v h k n =
    let l = length-append p (c ∷ (u ++ v)) in
    let plus : length p + 0 ≡ length p = omega arith in
    let at : slice_index (p ++ (c ∷ (u ++ v))) (length p) ≡ c = ap (λ n. get_or (p ++ (c ∷ (u ++ v))) n 0) (sym plus) ∙ get_or-append-add p (c ∷ (u ++ v)) 0 0 in
    let b = (IsCharBoundary-start (c ∷ u) k).1 (omega arith) in
    subst IsUtf8 (take_at p (c ∷ (u ++ v)) (length p) refl)
    (IsUtf8-take (p ++ (c ∷ (u ++ v))) (length p) h ((omega (arith, l)), λ i j. subst (λ x. 192 ≤ x) (sym at) (b (subst (λ x. 128 ≤ x) at j))))

first_scalar : (c : ℕ) (cs : List ℕ) → scalars (c ∷ cs) ≡ true → IsScalar c
first_scalar c cs h = search rules

-- a text begins with a character of at most four bytes
pub no_character : (x : ℕ) (w : List ℕ) → ((k : ℕ) → 0 < k → k < 5 → IsUtf8 (take k (x ∷ w)) → ⊥) → IsUtf8 (x ∷ w) → ⊥
no_character x w n u = by u.0 u.1.0 u.1.1
  where
    by : (cs : List ℕ) → scalars cs ≡ true → encodes cs ≡ x ∷ w → ⊥
    by [] s e = cc
    by (c ∷ cs) s e =
        let l = length-encode c in
        let b = len_utf8_bounds c in
        n (length (encode c)) (omega (arith, l, b.0)) (omega (arith, l, b.1))
        (subst IsUtf8 (sym (ap (λ y. take (length (encode c)) y) (sym e) ∙ take_at (encode c) (encodes cs) (length (encode c)) refl)) (IsUtf8-encode c (first_scalar c cs s)))

-- ---- the bytes that are held of a character

pub held : (w buffer v : List ℕ) (n : ℕ) → length buffer ≡ 4 → n ≤ 4 → take n buffer ++ v ≡ w → take n w ≡ take n buffer
held w buffer v n l h e = ap (λ x. take n x) (sym e) ∙ take_at (take n buffer) v n (length-take-le n buffer (omega (arith, l, h)))

pub held_more : (w buffer rest after : List ℕ) (n byte : ℕ) → length buffer ≡ 4 → n < 4 → take n buffer ++ value_of rest ≡ w → Taken rest (byte ∷ []) after → take (n + 1) (set buffer n byte) ++ value_of after ≡ w
held_more w buffer rest after n byte l h e t =
    ap (λ x. x ++ value_of after) (take_more_set buffer n byte (omega (arith, l, h)))
    ∙ append_assoc (take n buffer) (byte ∷ []) (value_of after) ∙ ap (λ x. take n buffer ++ x) (sym t.value) ∙ e

-- no such number of first bytes is UTF-8
abbrev pub NoneBelow : ℕ → List ℕ → Type 0
NoneBelow n w = (k : ℕ) → 0 < k → k < n → IsUtf8 (take k w) → ⊥

pub none_more : (n : ℕ) (w : List ℕ) → NoneBelow n w → (IsUtf8 (take n w) → ⊥) → NoneBelow (n + 1) w
none_more n w h f k a b u = elim (cases_Bool (k == n)) [
  | inl e ↦ f (subst (λ x. IsUtf8 (take x w)) (eqb-true k n e) u)
  | inr e ↦ h k a (less (λ i. both_ways (k == n) e (eq-eqb k n i))) u
]
  where
    less : (k ≡ n → ⊥) → k < n
    less d = omega (arith, b, d)

-- A part other than the escape of a byte is UTF-8 and not empty.
pub whole_utf8 : (part : Part) → IsWhole part → ((b : ℕ) → part ≡ Byte b → ⊥) → IsUtf8 (part_bytes part) × (part_bytes part ≢ [])
whole_utf8 (Text text) h n = h
whole_utf8 (Byte b) h n = absurd (n b refl)
whole_utf8 (Scalar c) h n = h

pub scalar_whole : (c : ℕ) → IsScalar c → IsWhole (Scalar c)
scalar_whole c s = (IsUtf8-encode c s, λ e. let l = length-encode c in let b = len_utf8_bounds c in absurd (omega (arith, l, b.0, ap length e)))

pub ends_at_part : (elements part after : List ℕ) → Taken elements part after → IsUtf8 part → part ≢ [] → EndsCharacters elements
ends_at_part elements part after t u n p h = before_whole p part (value_of after) (subst (λ x. IsUtf8 (p ++ x)) t.value h) u n

pub ends_at_quote : (elements : List ℕ) → value_of elements ≡ [] → EndsCharacters elements
ends_at_quote elements e p h = subst IsUtf8 (ap (λ x. p ++ x) e ∙ append-nil p) h

pub still_none : (w buffer v : List ℕ) (n : ℕ) → length buffer ≡ 4 → n ≤ 4 → take n buffer ++ v ≡ w → NoneBelow n w → (IsUtf8 (take n buffer) → ⊥) → NoneBelow (n + 1) w
still_none w buffer v n l h e b f = none_more n w b (λ u. f (subst IsUtf8 (held w buffer v n l h e) u))

pub refused : {S E : Type 0} (r : Result S E) (P : S → Type 0) (Q : Type 0) (R : E → Type 0) → is_err r ≡ true → MatchResult r P (λ e. Q × R e) → Q
refused (Ok s) P Q R e h = absurd (false≢true e)
refused (Err x) P Q R e h = h.0

-- ---- names

pub quoted_bytes : (text elements : List ℕ) → IsUtf8 text → text ≡ 34 ∷ elements → named_bytes (chars text) ≡ value_of elements
unfolding named_bytes
quoted_bytes text elements u e = ap named_bytes (quote_cut text elements u e)

pub bare_bytes : (text : List ℕ) → IsUtf8 text → Each is_idchar (chars text) → named_bytes (chars text) ≡ text
bare_bytes text u h = named_is (chars text) text (bare_named text u h)

pub name_checked : (e : LexError) (text rest : List ℕ) → NameTail text → rest ≡ drop 1 text → name_value e (chars text) ≡ checked_name e (named_bytes (chars rest))
unfolding name_value name_bytes
name_checked e text rest t k = ap (name_value e) t.cut ∙ ap (λ x. checked_name e (named_bytes (chars x))) (sym k)

checked_is : (e : LexError) (v n : List ℕ) → checked_name e v ≡ Ok n → v ≡ n
unfolding checked_name
checked_is e [] n h = cc
checked_is e (b ∷ bs) n h = by (is_utf8 (b ∷ bs)) h
  where
    by : (t : Bool) → (if t then Ok (b ∷ bs) else Err InvalidUtf8Id) ≡ Ok n → b ∷ bs ≡ n
    by true h = cc
    by false h = cc

checked_empty : (e : LexError) (n : List ℕ) → checked_name e [] ≡ Ok n → ⊥
unfolding checked_name
checked_empty e n h = cc

pub has_some_name : (e : LexError) (w v n : List ℕ) (r : Bool) → name_value e w ≡ checked_name e v → IsUtf8 n → n ≢ [] → Decides r (v ≡ n) → Decides r (name_value e w ≡ Ok n)
has_some_name e w v n r k u s d = (λ h. k ∙ ap (checked_name e) (d.0 h) ∙ good_name e n u s, λ h. d.1 (checked_is e v n (sym k ∙ h)))

pub has_no_name : (e : LexError) (w n : List ℕ) → n ≡ [] → Decides false (name_value e w ≡ Ok n)
unfolding name_value
has_no_name e w n z = (λ h. absurd (false≢true h), λ h. absurd (checked_empty e n (subst (λ x. checked_name e x ≡ Ok n) (checked_is e (name_bytes w) n h ∙ z) h)))

pub fault_empty : (e : LexError) (w v : List ℕ) → name_value e w ≡ checked_name e v → v ≡ [] → Some e ≡ result_err (name_value e w)
unfolding checked_name
fault_empty e w v k z = sym (ap result_err (k ∙ ap (checked_name e) z))

pub fault_bytes : (e : LexError) (w v : List ℕ) → name_value e w ≡ checked_name e v → (IsUtf8 v → ⊥) → Some InvalidUtf8Id ≡ result_err (name_value e w)
fault_bytes e w v k n = sym (ap result_err (k ∙ bad_name e v n))

pub fault_none : (e : LexError) (w v : List ℕ) → name_value e w ≡ checked_name e v → IsUtf8 v → v ≢ [] → None ≡ result_err (name_value e w)
fault_none e w v k u n = sym (ap result_err (k ∙ good_name e v u n))
