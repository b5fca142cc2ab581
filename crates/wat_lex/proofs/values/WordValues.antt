-- What strings and names read as: by the grammar, and so by the functions.
use Rattle.std.proofs.Common.{◌≡◌, ◌≢◌, ℕ, List, [], ◌∷◌, ◌++◌, refl, ap, sym, ◌∙◌, subst, Bool, true, false, append_assoc, inl, inr, not}
use Rattle.std.specs.Prelude.{◌==◌, ◌&&◌, ◌||◌, Some, None, Ok, Err, encode_utf8, encode_utf8_all, if◌then◌else◌}
use Rattle.std.proofs.lemmas.Bool.{cases_Bool, both_ways, eqb-true}
use Rattle.std.proofs.lemmas.List.{append-nil}
use Rattle.std.proofs.lemmas.Str.{is_utf8-from_IsUtf8, IsUtf8-from_is_utf8, IsUtf8-nil}
use Rattle.std.specs.Str.{IsUtf8, is_utf8}
use Rattle.wat_lex.specs.grammar.Classes.{is_hex, is_idchar, is_confusing, Each}
use Rattle.wat_lex.specs.values.Names.{Name, Named, bare, quoted as named_string, NameFault, no_name, not_utf8}
use Rattle.wat_lex.specs.grammar.Strings.{is_control, letter_value, hex_value, is_hex_or_underscore, Element, raw, letter, byte, unicode, Quoted, ends, more, StringWord, quoted}
use Rattle.wat_lex.specs.declared.lexer.settings.Settings.{Settings}
use Rattle.wat_lex.specs.declared.lexer.faults.LexError.{LexError}
use Rattle.wat_lex.specs.declared.lexer.faults.LexError.TheVariants.{InvalidUtf8Id}
use Rattle.wat_lex.specs.values.WordValues.{Between, Row, elements_value, string_value, named_bytes, name_bytes, checked_name, name_value}

-- a test that fails at k fails at what equals k
differs : (p : ℕ → Bool) (c k : ℕ) → p c ≡ true → p k ≡ false → (c == k) ≡ false
differs p c k h n = elim (cases_Bool (c == k)) [
  | inl e ↦ absurd (both_ways (p c) (ap p (eqb-true c k e) ∙ n) h)
  | inr e ↦ e
]

raw_not : (a b c d : Bool) → ((not a && not b && not c) && d) ≡ true → (b ≡ false) × (c ≡ false)
raw_not true b c d h = cc
raw_not false true c d h = cc
raw_not false false true d h = cc
raw_not false false false d h = (refl, refl)

not_u : (c v : ℕ) → letter_value c ≡ Some v → (c == 117) ≡ false
not_u c v h = elim (cases_Bool (c == 117)) [
  | inl e ↦ let k : letter_value 117 ≡ Some v = subst (λ x. letter_value x ≡ Some v) (eqb-true c 117 e) h in cc
  | inr e ↦ e
]

no_letter : (c : ℕ) → is_hex c ≡ true → letter_value c ≡ None
no_letter c h = rw (differs is_hex c 34 h refl, differs is_hex c 39 h refl, differs is_hex c 92 h refl, differs is_hex c 116 h refl, differs is_hex c 110 h refl, differs is_hex c 114 h refl) refl

row_is : (acc ds r : List ℕ) → Each is_hex_or_underscore ds → elements_value (Row acc) (ds ++ 125 ∷ r) ≡ encode_utf8 (hex_value (acc ++ ds)) ++ elements_value Between r
unfolding elements_value
row_is acc [] r h = ap (λ x. encode_utf8 (hex_value x) ++ elements_value Between r) (sym (append-nil acc))
row_is acc (d ∷ ds) r h =
    ap (λ b. if b then encode_utf8 (hex_value acc) ++ elements_value Between (ds ++ 125 ∷ r) else elements_value (Row (acc ++ d ∷ [])) (ds ++ 125 ∷ r)) (differs is_hex_or_underscore d 125 h.0 refl)
    ∙ row_is (acc ++ d ∷ []) ds r h.1
    ∙ ap (λ x. encode_utf8 (hex_value x) ++ elements_value Between r) (append_assoc acc (d ∷ []) ds)

element_is : (f : Settings) (s u t : List ℕ) → Element f s u t → elements_value Between s ≡ u ++ elements_value Between t
unfolding elements_value
element_is f s u t (raw {c = c} {r = r} h) =
    let n = raw_not (is_control c) (c == 34) (c == 92) (f.allow || not (is_confusing c)) h in
    rw (n.0, n.1) refl
element_is f s u t (letter {c = c} {v = v} {r = r} h) = rw (not_u c v h, h) refl
element_is f s u t (byte {c = c} {d = d} {r = r} h k) = rw (differs is_hex c 117 h refl, no_letter c h) refl
element_is f s u t (unicode {d = d} {s = w} {r = r} ds e row n k) =
    rw (differs is_hex d 125 row.first refl) (ap (elements_value (Row (d ∷ []))) e ∙ row_is (d ∷ []) ds r row.others)

pub elements_are : (f : Settings) (t v r : List ℕ) → Quoted f t v r → elements_value Between t ≡ v
unfolding elements_value
elements_are f t v r ends = refl
elements_are f t v r (more {s = s} {t = m} {u = u} {v = w} h q) = element_is f s u m h ∙ ap (λ x. u ++ x) (elements_are f m w r q)

pub string_value_is : (f : Settings) (w v : List ℕ) → StringWord f w v → string_value w ≡ v
unfolding string_value
string_value_is f w v (quoted {t = t} h) = elements_are f t v [] h

bare_is : (t : List ℕ) → Each is_idchar t → named_bytes t ≡ encode_utf8_all t
unfolding named_bytes
bare_is [] h = refl
bare_is (c ∷ t) h = rw (differs is_idchar c 34 h.0 refl) refl

pub named_is : (t v : List ℕ) → Named t v → named_bytes t ≡ v
unfolding named_bytes
named_is t v (bare h) = bare_is t h
named_is t v (named_string (quoted {flags = f} {t = u} h)) = elements_are f u v [] h

pub name_is : (w v : List ℕ) → Name w v → name_bytes w ≡ v
unfolding name_bytes
name_is [] v h = absurd h
name_is (c ∷ t) v h = named_is t v h

pub good_name : (e : LexError) (v : List ℕ) → IsUtf8 v → v ≢ [] → checked_name e v ≡ Ok v
unfolding checked_name
good_name e [] u n = absurd (n refl)
good_name e (b ∷ bs) u n = rw (is_utf8-from_IsUtf8 (b ∷ bs) u) refl

pub bad_name : (e : LexError) (v : List ℕ) → (IsUtf8 v → ⊥) → checked_name e v ≡ Err InvalidUtf8Id
unfolding checked_name
bad_name e [] n = absurd (n IsUtf8-nil)
bad_name e (b ∷ bs) n = elim (cases_Bool (is_utf8 (b ∷ bs))) [
  | inl h ↦ absurd (n (IsUtf8-from_is_utf8 (b ∷ bs) h))
  | inr h ↦ rw h refl
]

pub name_good : (e : LexError) (w v : List ℕ) → Name w v → IsUtf8 v → v ≢ [] → name_value e w ≡ Ok v
unfolding name_value
name_good e w v h u n = ap (checked_name e) (name_is w v h) ∙ good_name e v u n

pub name_fault : (e f : LexError) (w : List ℕ) → NameFault e w f → name_value e w ≡ Err f
unfolding name_value checked_name
name_fault e f w (no_name h) = ap (checked_name e) (name_is w [] h)
name_fault e f w (not_utf8 {bytes = v} h n) = ap (checked_name e) (name_is w v h) ∙ bad_name e v n
