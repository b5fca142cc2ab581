-- A text after a quote is the rest of a string, or a string goes wrong there.
use Rattle.std.proofs.Common.{◌≡◌, ◌≢◌, ◌⊎◌, ◌<◌, ◌^◌, ℕ, zero, suc, List, [], ◌∷◌, ◌++◌, length, refl, arith, ap, sym, ◌∙◌, subst, true, false, ◌||◌, inl, inr, append_assoc, lit<}
use Rattle.std.specs.Prelude.{IsTrue, Option, Some, None, ◌==◌}
use Rattle.std.proofs.lemmas.List.{append-nil, same_from_push}
use Rattle.std.proofs.lemmas.Bool.{both_ways, or_cases, or_from, eqb-true, ne_eqb, cases_eq, cases_lt, cases_Bool}
use Rattle.std.specs.Char.{IsScalar}
use lib.Utf8.{scalar, low_scalar}
use Rattle.wat_lex.specs.grammar.Classes.{Each, Begins, is_hex, is_confusing, underscore, close_brace}
use Rattle.wat_lex.specs.grammar.Strings.{Element, raw, letter, byte, unicode, Quoted, ends, more, letter_value, is_control, is_hex_or_underscore, hex_value, EndsInUnderscore, HexRow}
use Rattle.wat_lex.specs.tokens.StringFaults.{StringFault, later, no_quote, control, confusing, no_escape, bad_escape, no_second, bad_second, no_open, bad_open, no_digit, bad_digit, number, NumberFault, too_big, doubled, lone, no_scalar, no_brace, no_more}
use Rattle.wat_lex.specs.declared.lexer.faults.LexError.{LexError}
use Rattle.wat_lex.specs.declared.lexer.settings.Settings.{Settings}
use Rattle.wat_lex.proofs.inside.StringSteps.{raw_char}
use Rattle.wat_lex.proofs.inside.HexRows.{Each_push, parted_none, parted_push, hex_skip, hex_one, hex_small}
use Rattle.wat_lex.proofs.tokens.OneNumberFault.{row_prefix}
use Rattle.wat_lex.proofs.tokens.OneStringFault.{element_shorter}

data SomeElement (flags : Settings) (s : List ℕ) : Type 0 where
  element : {u r : List ℕ} → Element flags s u r → SomeElement flags s
  broken : {e : LexError} {at : List ℕ} → StringFault flags s e at → SomeElement flags s

-- what a row of digits and underscores ends in
data LastOf (ds : List ℕ) : Type 0 where
  nothing : ds ≡ [] → LastOf ds
  digit : (prefix : List ℕ) (e : ℕ) → IsTrue (is_hex e) → ds ≡ prefix ++ e ∷ [] → LastOf ds
  under : (prefix : List ℕ) → ds ≡ prefix ++ underscore ∷ [] → LastOf ds

last_more : (d : ℕ) (ds : List ℕ) → IsTrue (is_hex_or_underscore d) → LastOf ds → LastOf (d ∷ ds)
last_more d ds h (nothing e) =
    elim (or_cases (is_hex d) (d == underscore) h) [
      | inl t ↦ digit [] d t (ap (λ x. d ∷ x) e)
      | inr t ↦ let k = eqb-true d underscore t in let q : d ∷ ds ≡ [] ++ underscore ∷ [] = cc in under [] q
    ]
last_more d ds h (digit prefix e t k) = digit (d ∷ prefix) e t (ap (λ x. d ∷ x) k)
last_more d ds h (under prefix k) = under (d ∷ prefix) (ap (λ x. d ∷ x) k)

last_of_row : (ds : List ℕ) → Each is_hex_or_underscore ds → LastOf ds
last_of_row [] h = nothing refl
last_of_row (d ∷ ds) h = last_more d ds h.0 (last_of_row ds h.1)

not_under : (ds prefix : List ℕ) (e : ℕ) → IsTrue (is_hex e) → ds ≡ prefix ++ e ∷ [] → EndsInUnderscore ds → ⊥
not_under ds prefix e t k h = both_ways (is_hex e) (ap is_hex (same_from_push prefix h.0 e underscore (sym k ∙ h.1)).1) t

none_under : (ds : List ℕ) → ds ≡ [] → EndsInUnderscore ds → ⊥
none_under ds e h = by h.0 (sym e ∙ h.1)
  where
    by : (prefix : List ℕ) → [] ≡ prefix ++ underscore ∷ [] → ⊥
    by [] k = cc
    by (c ∷ prefix) k = cc

module _ (flags : Settings) (d : ℕ) (s : List ℕ) where
  Answer : Type 0
  Answer = SomeElement flags (92 ∷ 117 ∷ 123 ∷ d ∷ s)

  fault : (e : LexError) (at : List ℕ) → IsTrue (is_hex d) → NumberFault flags d s e at → Answer
  unfolding Answer
  fault e at h f = broken (number h f)

  -- the row is well written: what comes after it decides
  well_written : (ds rest : List ℕ) → s ≡ ds ++ rest → HexRow flags d ds → (EndsInUnderscore ds → ⊥) → IsScalar (hex_value (d ∷ ds)) → (Begins is_hex_or_underscore rest → ⊥) → Answer
  unfolding Answer
  well_written ds [] e row n k stop =
      let same : s ≡ ds = e ∙ append-nil ds in
      fault _ [] row.first (no_more (subst (HexRow flags d) (sym same) row) (subst (λ x. EndsInUnderscore x → ⊥) (sym same) n) (subst (λ x. IsScalar (hex_value (d ∷ x))) (sym same) k))
  well_written ds (c ∷ t) e row n k stop =
      elim (cases_eq c close_brace) [
        | inl b ↦ element (unicode ds (e ∙ ap (λ x. ds ++ x ∷ t) b) row n k)
        | inr b ↦ fault _ (c ∷ t) row.first (no_brace ds e row n k stop b)
      ]

  by_value : (ds rest : List ℕ) → s ≡ ds ++ rest → HexRow flags d ds → (EndsInUnderscore ds → ⊥) → (Begins is_hex_or_underscore rest → ⊥) → (scalar (hex_value (d ∷ ds)) ≡ false → Answer) → Answer
  by_value ds rest e row n stop other =
      elim (cases_Bool (scalar (hex_value (d ∷ ds)))) [
        | inl k ↦ well_written ds rest e row n k stop
        | inr k ↦ other k
      ]

  -- the row ends here
  row_stops : (ds rest : List ℕ) → s ≡ ds ++ rest → HexRow flags d ds → (Begins is_hex_or_underscore rest → ⊥) → LastOf ds → Answer
  row_stops ds rest e row stop (nothing z) =
      let v : hex_value (d ∷ ds) ≡ hex_value (d ∷ []) = ap (λ x. hex_value (d ∷ x)) z in
      let a = hex_one d row.first in
      let b = hex_small d row.first in
      let c : hex_value (d ∷ ds) < 55296 = omega arith in
      by_value ds rest e row (none_under ds z) stop (λ k. absurd (both_ways (scalar (hex_value (d ∷ ds))) k (low_scalar (hex_value (d ∷ ds)) c)))
  row_stops ds rest e row stop (digit prefix x h k) =
      by_value ds rest e row (not_under ds prefix x h k) stop
      (λ bad. fault _ (x ∷ rest) row.first (no_scalar prefix (e ∙ ap (λ y. y ++ rest) k ∙ append_assoc prefix (x ∷ []) rest) (subst (HexRow flags d) k row) h stop
      (λ g. both_ways (scalar (hex_value (d ∷ prefix ++ x ∷ []))) (subst (λ y. scalar (hex_value (d ∷ y)) ≡ false) k bad) g)))
  row_stops ds rest e row stop (under prefix k) =
      fault _ (underscore ∷ rest) row.first (lone prefix (e ∙ ap (λ y. y ++ rest) k ∙ append_assoc prefix (underscore ∷ []) rest) (row_prefix flags d prefix (underscore ∷ []) (subst (HexRow flags d) k row)) stop)

  digit_row : (ds : List ℕ) (c : ℕ) → HexRow flags d ds → IsTrue (is_hex c) → hex_value (d ∷ ds ++ c ∷ []) < 2 ^ 32 → HexRow flags d (ds ++ c ∷ [])
  digit_row ds c row h small = record {
    first = row.first;
    others = Each_push is_hex_or_underscore ds c row.others (ap (λ x. x || c == underscore) h);
    small = small;
    parted = λ q. parted_push ds c (row.parted q) (λ g _. both_ways (is_hex c) (ap is_hex g) h);
  }

  under_row : (ds : List ℕ) → HexRow flags d ds → (flags.strict ≡ true → EndsInUnderscore ds → ⊥) → HexRow flags d (ds ++ underscore ∷ [])
  under_row ds row n = record {
    first = row.first;
    others = Each_push is_hex_or_underscore ds underscore row.others refl;
    small = subst (λ x. x < 2 ^ 32) (sym (hex_skip (d ∷ ds) underscore refl)) row.small;
    parted = λ q. parted_push ds underscore (row.parted q) (λ _. n q);
  }

  one_on : (ds t : List ℕ) (c : ℕ) → s ≡ ds ++ c ∷ t → s ≡ (ds ++ c ∷ []) ++ t
  one_on ds t c e = e ∙ sym (append_assoc ds (c ∷ []) t)

  -- an underscore may follow, or is one too many
  may_follow : (ds : List ℕ) → HexRow flags d ds → LastOf ds → ((flags.strict ≡ true) × EndsInUnderscore ds) ⊎ (flags.strict ≡ true → EndsInUnderscore ds → ⊥)
  may_follow ds row (nothing z) = inr (λ q. none_under ds z)
  may_follow ds row (digit prefix x h k) = inr (λ q. not_under ds prefix x h k)
  may_follow ds row (under prefix k) = elim (cases_Bool flags.strict) [ inl q ↦ inl (q, (prefix, k)) | inr q ↦ inr (λ p _. both_ways flags.strict q p) ]

  scan_row : (rest ds : List ℕ) → s ≡ ds ++ rest → HexRow flags d ds → Answer
  scan_row [] ds e row = row_stops ds [] e row (λ b. b) (last_of_row ds row.others)
  scan_row (c ∷ t) ds e row =
      elim (cases_Bool (is_hex c)) [
        | inl h ↦ elim (cases_lt (hex_value (d ∷ ds ++ c ∷ [])) (2 ^ 32)) [
          | inl small ↦ scan_row t (ds ++ c ∷ []) (one_on ds t c e) (digit_row ds c row h small)
          | inr big ↦ fault _ (c ∷ t) row.first (too_big ds e row h big)
        ]
        | inr h ↦ elim (cases_eq c underscore) [
          | inl u ↦
              let f : s ≡ ds ++ underscore ∷ t = e ∙ ap (λ x. ds ++ x ∷ t) u in
              elim (may_follow ds row (last_of_row ds row.others)) [
                | inl g ↦ fault _ (underscore ∷ t) row.first (doubled ds f row g.0 g.1)
                | inr n ↦ scan_row t (ds ++ underscore ∷ []) (one_on ds t underscore f) (under_row ds row n)
              ]
          | inr u ↦ row_stops ds (c ∷ t) e row (λ b. both_ways (is_hex_or_underscore c) (or_from (is_hex c) (c == underscore) h (ne_eqb c underscore u)) b) (last_of_row ds row.others)
        ]
      ]

one_digit : (flags : Settings) (d : ℕ) → IsTrue (is_hex d) → HexRow flags d []
one_digit flags d h = record { first = h; others = tt; small = let a = hex_one d h in let b = hex_small d h in omega (arith, pow32); parted = λ q. parted_none }
  where
    pow32 : 16 < 2 ^ 32
    pow32 = lit< tt

some_digit : (flags : Settings) (t : List ℕ) → SomeElement flags (92 ∷ 117 ∷ 123 ∷ t)
unfolding Answer
some_digit flags [] = broken no_digit
some_digit flags (d ∷ s) = elim (cases_Bool (is_hex d)) [ inl h ↦ scan_row flags d s s [] refl (one_digit flags d h) | inr h ↦ broken (bad_digit (λ k. both_ways (is_hex d) h k)) ]

some_open : (flags : Settings) (t : List ℕ) → SomeElement flags (92 ∷ 117 ∷ t)
some_open flags [] = broken no_open
some_open flags (c ∷ t) = elim (cases_eq c 123) [ inl e ↦ subst (λ x. SomeElement flags (92 ∷ 117 ∷ x ∷ t)) (sym e) (some_digit flags t) | inr e ↦ broken (bad_open e) ]

some_second : (flags : Settings) (c : ℕ) (t : List ℕ) → IsTrue (is_hex c) → SomeElement flags (92 ∷ c ∷ t)
some_second flags c [] h = broken (no_second h)
some_second flags c (d ∷ t) h = elim (cases_Bool (is_hex d)) [ inl k ↦ element (byte h k) | inr k ↦ broken (bad_second h (λ g. both_ways (is_hex d) k g)) ]

some_escape : (flags : Settings) (t : List ℕ) → SomeElement flags (92 ∷ t)
some_escape flags [] = broken no_escape
some_escape flags (c ∷ t) = by (letter_value c) refl
  where
    by : (o : Option ℕ) → letter_value c ≡ o → SomeElement flags (92 ∷ c ∷ t)
    by (Some v) e = element (letter e)
    by None e =
        elim (cases_Bool (is_hex c)) [
          | inl h ↦ some_second flags c t h
          | inr h ↦ elim (cases_eq c 117) [
            | inl u ↦ subst (λ x. SomeElement flags (92 ∷ x ∷ t)) (sym u) (some_open flags t)
            | inr u ↦ broken (bad_escape e (λ k. both_ways (is_hex c) h k) u)
          ]
        ]

some_element : (flags : Settings) (c : ℕ) (t : List ℕ) → c ≢ 34 → SomeElement flags (c ∷ t)
some_element flags c t q =
    elim (cases_eq c 92) [
      | inl e ↦ subst (λ x. SomeElement flags (x ∷ t)) (sym e) (some_escape flags t)
      | inr e ↦ elim (cases_Bool (is_control c)) [
        | inl k ↦ broken (control k)
        | inr k ↦ elim (cases_Bool flags.allow) [
          | inl a ↦ element (raw (raw_char flags c q e k (λ f. absurd (both_ways flags.allow f a))))
          | inr a ↦ elim (cases_Bool (is_confusing c)) [ inl f ↦ broken (confusing a f) | inr f ↦ element (raw (raw_char flags c q e k (λ _. f))) ]
        ]
      ]
    ]

pub data SomeString (flags : Settings) (s : List ℕ) : Type 0 where
  closed : {v r : List ℕ} → Quoted flags s v r → length r < length s → SomeString flags s
  wrong : {e : LexError} {at : List ℕ} → StringFault flags s e at → SomeString flags s

past_element : (flags : Settings) (s u t : List ℕ) → Element flags s u t → SomeString flags t → SomeString flags s
past_element flags s u t h (closed {r = r} q l) = let k = element_shorter flags s u t h in closed (more h q) (omega arith)
past_element flags s u t h (wrong f) = wrong (later h f)

after_element : (flags : Settings) (s : List ℕ) → SomeElement flags s → ((t : List ℕ) → length t < length s → SomeString flags t) → SomeString flags s
after_element flags s (element {u = u} {r = r} h) next = past_element flags s u r h (next r (element_shorter flags s u r h))
after_element flags s (broken f) next = wrong f

string_by : (n : ℕ) (flags : Settings) (s : List ℕ) → length s < n → SomeString flags s
string_by zero flags s l = absurd (omega arith)
string_by (suc n) flags [] l = wrong no_quote
string_by (suc n) flags (c ∷ t) l =
    elim (cases_eq c 34) [
      | inl e ↦ subst (λ x. SomeString flags (x ∷ t)) (sym e) (closed ends (omega arith))
      | inr e ↦ after_element flags (c ∷ t) (some_element flags c t e) (λ r k. string_by n flags r (omega arith))
    ]

pub some_string : (flags : Settings) (s : List ℕ) → SomeString flags s
some_string flags s = string_by (suc (length s)) flags s (omega arith)
