-- Tokens of one byte, by the byte and the next.
use Rattle.std.proofs.Common.{◌≡◌, ◌<◌, ◌+◌, ℕ, List, [], ◌∷◌, ◌++◌, length, drop, get_or, refl, arith, ap, sym, ◌∙◌, subst, append-nil, Bool, true, false, inl, inr, ◌||◌}
use Rattle.std.specs.Prelude.{◌==◌}
use Rattle.std.specs.Prelude.{if◌then◌else◌, codes, nat_lt}
use Rattle.std.specs.Char.{char_set_contains}
use Rattle.std.specs.Int.Bits.{bit_and}
use Rattle.std.proofs.lemmas.List.{drop_more, drop-drop, get_or-drop, length-drop}
use Rattle.std.proofs.lemmas.Bool.{cases_Bool, both_ways, or_cases, eqb-true, ltb-true}
use Rattle.std.proofs.lemmas.Str.{IsUtf8-drop, IsCharBoundary-after_ascii, chars_past_char, chars-nil, chars-encodes, length-encode, IsUtf8-past_char, encode_ascii, len_utf8_ascii, byte_from_char}
use Rattle.std.specs.Str.{chars, IsUtf8, IsCharBoundary}
use lib.Utf8.{encode, encodes, scalars}
use Rattle.wat_lex.specs.grammar.Classes.{size, Each, Begins, is_whitespace, is_punctuation}
use Rattle.wat_lex.specs.grammar.Words.{Word, MayFollow, Punctuation}
use Rattle.wat_lex.specs.declared.lexer.settings.Settings.{Settings}
use Rattle.wat_lex.specs.declared.lexer.kinds.TokenKind.{TokenKind}
use Rattle.wat_lex.specs.declared.lexer.kinds.TokenKind.TheVariants.{LParen, RParen, Reserved, Whitespace}
use Rattle.wat_lex.specs.values.KindNumbers.{kind_number}
use Rattle.wat_c_records.specs.Rows.{kind_row, plain}
use Rattle.wat_c_records.specs.inside.OneByte.{sorts, blocking_classes, kind_alone, row_alone, IsAlone}
use Rattle.wat_c_records.specs.declared.rows.KindRow.{KindRow}

add-zero : (n : ℕ) → n + 0 ≡ n
add-zero n = omega arith

-- a text that begins with an ASCII character
record Led (text : List ℕ) (c : ℕ) : Type 0 where
  chars : chars text ≡ c ∷ chars (drop 1 text)
  utf8 : IsUtf8 (drop 1 text)

led : (text : List ℕ) (c : ℕ) → IsUtf8 text → 0 < length text → get_or text 0 0 ≡ c → c < 128 → Led text c
led text c u l e s =
    let bytes : text ≡ c ∷ drop 1 text = drop_more text 0 0 l ∙ ap (λ x. x ∷ drop 1 text) e in
    let spelt : text ≡ encode c ++ drop 1 text = bytes ∙ ap (λ x. x ++ drop 1 text) (sym (encode_ascii c s)) in
    record { chars = chars_past_char text (drop 1 text) c u spelt; utf8 = IsUtf8-past_char text (drop 1 text) c u spelt }

-- If the first byte fails a test of ASCII characters, so does the first character.
not_begun : (p : ℕ → Bool) (text : List ℕ) → IsUtf8 text → ((c : ℕ) → p c ≡ true → c < 128) → p (get_or text 0 0) ≡ false → Begins p (chars text) → ⊥
not_begun p text u ascii fails h = by u.0 u.1.0 (sym u.1.1)
  where
    by : (cs : List ℕ) → scalars cs ≡ true → text ≡ encodes cs → ⊥
    by [] s e = subst (Begins p) (ap chars e ∙ chars-nil) h
    by (c ∷ cs) s e =
        let t : p c ≡ true = subst (Begins p) (ap chars e ∙ chars-encodes (c ∷ cs) s) h in
        both_ways (p c) (sym (ap p (byte_from_char text (encodes cs) c e (ascii c t))) ∙ fails) t

one_byte : (c : ℕ) → c < 128 → size (c ∷ []) ≡ 1
one_byte c s = ap length (append-nil (encode c)) ∙ length-encode c ∙ len_utf8_ascii c s

one : (text : List ℕ) (at : ℕ) (k : TokenKind) (c : ℕ) → IsUtf8 text → IsCharBoundary text at → at < length text → get_or text at 0 ≡ c → c < 128
    → ((flags : Settings) → Word k (c ∷ []) flags) → MayFollow k (c ∷ []) (chars (drop (at + 1) text)) → IsAlone text at k
one text at k c u b l e s w f =
    let part = drop at text in
    let v : IsUtf8 part = IsUtf8-drop text at u b in
    let some : 0 < length part = omega (arith, length-drop at text, l) in
    let d : Led part c = led part c v some (get_or-drop at text 0 0 ∙ ap (λ x. get_or text x 0) (add-zero at) ∙ e) s in
    let follows : MayFollow k (c ∷ []) (chars (drop 1 part)) = subst (λ x. MayFollow k (c ∷ []) (chars x)) (sym (drop-drop 1 at text)) f in
    record {
      token = λ flags. record {
        offset = refl;
        word = c ∷ [];
        rest = chars (drop 1 part);
        is_at = record { cut = d.chars; word = w flags; ends = follows };
        len = sym (one_byte c s);
      };
      after = IsCharBoundary-after_ascii text at u l (subst (λ x. x < 128) (sym e) s);
    }

-- If the byte after an ASCII byte fails a test of ASCII characters, so does the character there.
not_after : (text : List ℕ) (at : ℕ) (p : ℕ → Bool) → IsUtf8 text → IsCharBoundary text at → at < length text → get_or text at 0 < 128
    → ((c : ℕ) → p c ≡ true → c < 128) → p (get_or text (at + 1) 0) ≡ false → Begins p (chars (drop (at + 1) text)) → ⊥
not_after text at p u b l s ascii fails =
    not_begun p (drop (at + 1) text) (IsUtf8-drop text (at + 1) u (IsCharBoundary-after_ascii text at u l s)) ascii
    (ap p (get_or-drop (at + 1) text 0 0 ∙ ap (λ x. get_or text x 0) (add-zero (at + 1))) ∙ fails)

-- the characters of a set
set_ascii : (s : List ℕ) (c : ℕ) → Each (λ d. nat_lt d 128) s → char_set_contains s c ≡ true → c < 128
set_ascii [] c h e = cc
set_ascii (d ∷ s) c h e =
    elim (or_cases (d == c) (char_set_contains s c) e) [
      | inl t ↦ subst (λ x. x < 128) (eqb-true d c t) (ltb-true d 128 h.0)
      | inr t ↦ set_ascii s c h.1 t
    ]

whitespace_ascii : (c : ℕ) → is_whitespace c ≡ true → c < 128
whitespace_ascii c = set_ascii (32 ∷ 10 ∷ 13 ∷ 9 ∷ []) c (refl, (refl, (refl, (refl, tt))))

punctuation_ascii : (c : ℕ) → is_punctuation c ≡ true → c < 128
punctuation_ascii c = set_ascii (codes ",[]{}") c (refl, (refl, (refl, (refl, (refl, tt)))))

semicolon_ascii : (c : ℕ) → (c == 59) ≡ true → c < 128
semicolon_ascii c t = let k = eqb-true c 59 t in omega (arith, k)

-- what the tests of a byte say, by the tests
abbrev sorts_by : Bool → Bool → ℕ
sorts_by s w = if s then 5 else if w then 6 else 4

abbrev longer_by : Bool → Bool → Bool → Bool → Bool → ℕ
longer_by o s w c p = if o || s then 1 else if w then 2 else if c || p then 0 else 4

abbrev kind_by : Bool → Bool → Bool → TokenKind
kind_by o c w = if o then LParen else if c then RParen else if w then Whitespace else Reserved

sorts_is : (b : ℕ) (s w : Bool) → (b == 59) ≡ s → is_whitespace b ≡ w → sorts b ≡ sorts_by s w
sorts_is b s w e f = ap (λ x. sorts_by x (is_whitespace b)) e ∙ ap (sorts_by s) f

longer_is : (b : ℕ) (o s w c p : Bool) → (b == 40) ≡ o → (b == 59) ≡ s → is_whitespace b ≡ w → (b == 41) ≡ c → is_punctuation b ≡ p
    → blocking_classes b ≡ longer_by o s w c p
longer_is b o s w c p eo es ew ec ep =
    ap (λ x. longer_by x (b == 59) (is_whitespace b) (b == 41) (is_punctuation b)) eo
    ∙ ap (λ x. longer_by o x (is_whitespace b) (b == 41) (is_punctuation b)) es
    ∙ ap (λ x. longer_by o s x (b == 41) (is_punctuation b)) ew
    ∙ ap (λ x. longer_by o s w x (is_punctuation b)) ec
    ∙ ap (longer_by o s w c) ep

kind_is : (b : ℕ) (o c w : Bool) → (b == 40) ≡ o → (b == 41) ≡ c → is_whitespace b ≡ w → kind_alone b ≡ kind_by o c w
kind_is b o c w eo ec ew =
    ap (λ x. kind_by x (b == 41) (is_whitespace b)) eo ∙ ap (λ x. kind_by o x (is_whitespace b)) ec ∙ ap (kind_by o c) ew

-- The next byte is not `;`, or not whitespace. Each byte has a class.
no_semicolon : (next : ℕ) → bit_and 1 (sorts next) ≡ 0 → (next == 59) ≡ false
no_semicolon next z =
    elim (cases_Bool (next == 59)) [
      | inl t ↦
          let one : bit_and 1 5 ≡ 0 = subst (λ x. bit_and 1 (sorts x) ≡ 0) (eqb-true next 59 t) z in
          absurd (omega (arith, one))
      | inr f ↦ f
    ]

no_whitespace : (next : ℕ) → bit_and 2 (sorts next) ≡ 0 → is_whitespace next ≡ false
no_whitespace next z =
    elim (cases_Bool (is_whitespace next)) [
      | inl w ↦
          elim (cases_Bool (next == 59)) [
            | inl s ↦ absurd (both_ways (is_whitespace next) (ap is_whitespace (eqb-true next 59 s)) w)
            | inr s ↦
                let two : bit_and 2 6 ≡ 0 = subst (λ x. bit_and 2 x ≡ 0) (sorts_is next false true s w) z in
                absurd (omega (arith, two))
          ]
      | inr f ↦ f
    ]

some_sort : (next : ℕ) → bit_and 4 (sorts next) ≡ 0 → ⊥
some_sort next z =
    elim (cases_Bool (next == 59)) [
      | inl s ↦
          let k : bit_and 4 5 ≡ 0 = subst (λ x. bit_and 4 (sorts x) ≡ 0) (eqb-true next 59 s) z in
          omega (arith, k)
      | inr s ↦
          elim (cases_Bool (is_whitespace next)) [
            | inl w ↦ let k : bit_and 4 6 ≡ 0 = subst (λ x. bit_and 4 x ≡ 0) (sorts_is next false true s w) z in omega (arith, k)
            | inr w ↦ let k : bit_and 4 4 ≡ 0 = subst (λ x. bit_and 4 x ≡ 0) (sorts_is next false false s w) z in omega (arith, k)
          ]
    ]

opens : (text : List ℕ) (at next : ℕ) → IsUtf8 text → IsCharBoundary text at → at < length text → get_or text at 0 ≡ 40
    → get_or text (at + 1) 0 ≡ next → (next == 59) ≡ false → IsAlone text at LParen
opens text at next u b l e n f =
    one text at LParen 40 u b l e (omega arith) (λ flags. refl)
    (not_after text at (λ d. d == 59) u b l (subst (λ x. x < 128) (sym e) (omega arith)) semicolon_ascii (ap (λ x. x == 59) n ∙ f))

closes : (text : List ℕ) (at : ℕ) → IsUtf8 text → IsCharBoundary text at → at < length text → get_or text at 0 ≡ 41 → IsAlone text at RParen
closes text at u b l e = one text at RParen 41 u b l e (omega arith) (λ flags. refl) tt

semicolon_alone : (text : List ℕ) (at next : ℕ) → IsUtf8 text → IsCharBoundary text at → at < length text → get_or text at 0 ≡ 59
    → get_or text (at + 1) 0 ≡ next → (next == 59) ≡ false → IsAlone text at Reserved
semicolon_alone text at next u b l e n f =
    let m : Punctuation (59 ∷ []) = (59, refl, refl) in
    one text at Reserved 59 u b l e (omega arith) (λ flags. inl m) (
      λ _. not_after text at (λ d. d == 59) u b l (subst (λ x. x < 128) (sym e) (omega arith)) semicolon_ascii (ap (λ x. x == 59) n ∙ f),
      λ k. absurd (k m),
    )

punctuation : (text : List ℕ) (at first : ℕ) → IsUtf8 text → IsCharBoundary text at → at < length text → get_or text at 0 ≡ first
    → is_punctuation first ≡ true → IsAlone text at Reserved
punctuation text at c u b l e t =
    let m : Punctuation (c ∷ []) = (c, refl, ap (λ x. x || c == 59) t) in
    let other : c ∷ [] ≡ 59 ∷ [] → ⊥ = λ q. let k : c ≡ 59 = cc in both_ways (is_punctuation c) (ap is_punctuation k) t in
    one text at Reserved c u b l e (punctuation_ascii c t) (λ flags. inl m) (λ q. absurd (other q), λ k. absurd (k m))

blank : (text : List ℕ) (at first next : ℕ) → IsUtf8 text → IsCharBoundary text at → at < length text → get_or text at 0 ≡ first
    → is_whitespace first ≡ true → get_or text (at + 1) 0 ≡ next → is_whitespace next ≡ false → IsAlone text at Whitespace
blank text at c next u b l e t n f =
    let some : c ∷ [] ≡ [] → ⊥ = λ q. cc in
    one text at Whitespace c u b l e (whitespace_ascii c t) (λ flags. (some, (t, tt)))
    (not_after text at is_whitespace u b l (subst (λ x. x < 128) (sym e) (whitespace_ascii c t)) whitespace_ascii (ap is_whitespace n ∙ f))

pub is_at_alone : (text : List ℕ) (at first next : ℕ) → IsUtf8 text → IsCharBoundary text at → at < length text → get_or text at 0 ≡ first
    → get_or text (at + 1) 0 ≡ next → bit_and (blocking_classes first) (sorts next) ≡ 0 → IsAlone text at (kind_alone first)
is_at_alone text at first next u b l e n z =
    elim (cases_Bool (first == 40)) [
      | inl o ↦
          let k : first ≡ 40 = eqb-true first 40 o in
          let f = no_semicolon next (subst (λ x. bit_and (blocking_classes x) (sorts next) ≡ 0) k z) in
          subst (λ x. IsAlone text at (kind_alone x)) (sym k) (opens text at next u b l (e ∙ k) n f)
      | inr o ↦
          elim (cases_Bool (first == 59)) [
            | inl s ↦
                let k : first ≡ 59 = eqb-true first 59 s in
                let f = no_semicolon next (subst (λ x. bit_and (blocking_classes x) (sorts next) ≡ 0) k z) in
                subst (λ x. IsAlone text at (kind_alone x)) (sym k) (semicolon_alone text at next u b l (e ∙ k) n f)
            | inr s ↦
                elim (cases_Bool (first == 41)) [
                  | inl c ↦
                      let k : first ≡ 41 = eqb-true first 41 c in
                      subst (λ x. IsAlone text at (kind_alone x)) (sym k) (closes text at u b l (e ∙ k))
                  | inr c ↦ others text at first next u b l e n z o s c
                ]
          ]
    ]
  where
    others : (text : List ℕ) (at first next : ℕ) → IsUtf8 text → IsCharBoundary text at → at < length text → get_or text at 0 ≡ first
        → get_or text (at + 1) 0 ≡ next → bit_and (blocking_classes first) (sorts next) ≡ 0 → (first == 40) ≡ false → (first == 59) ≡ false
        → (first == 41) ≡ false → IsAlone text at (kind_alone first)
    others text at first next u b l e n z o s c =
        elim (cases_Bool (is_whitespace first)) [
          | inl w ↦
              let k : blocking_classes first ≡ 2 = longer_is first false false true false (is_punctuation first) o s w c refl in
              let f = no_whitespace next (subst (λ x. bit_and x (sorts next) ≡ 0) k z) in
              subst (IsAlone text at) (sym (kind_is first false false true o c w)) (blank text at first next u b l e w n f)
          | inr w ↦
              elim (cases_Bool (is_punctuation first)) [
                | inl p ↦ subst (IsAlone text at) (sym (kind_is first false false false o c w)) (punctuation text at first u b l e p)
                | inr p ↦
                    let k : blocking_classes first ≡ 4 = longer_is first false false false false false o s w c p in
                    absurd (some_sort next (subst (λ x. bit_and x (sorts next) ≡ 0) k z))
              ]
        ]

-- The row of such a byte, by the code of its kind.
pub row_by_code : (b at : ℕ) → (record { offset = at; len = 1; kind = plain (kind_number (kind_alone b)) }) ≡ row_alone b at
row_by_code b at =
    elim (cases_Bool (b == 40)) [
      | inl o ↦ by true (b == 41) (is_whitespace b) o refl refl
      | inr o ↦
          elim (cases_Bool (b == 41)) [
            | inl c ↦ by false true (is_whitespace b) o c refl
            | inr c ↦
                elim (cases_Bool (is_whitespace b)) [
                  | inl w ↦ by false false true o c w
                  | inr w ↦ by false false false o c w
                ]
          ]
    ]
  where
    same : (o c w : Bool) → plain (kind_number (kind_by o c w)) ≡ kind_row (kind_by o c w)
    same true c w = refl
    same false true w = refl
    same false false true = refl
    same false false false = refl

    by : (o c w : Bool) → (b == 40) ≡ o → (b == 41) ≡ c → is_whitespace b ≡ w
        → (record { offset = at; len = 1; kind = plain (kind_number (kind_alone b)) }) ≡ row_alone b at
    by o c w eo ec ew =
        let k = kind_is b o c w eo ec ew in
        ap (λ (r : KindRow). record { offset = at; len = 1; kind = r }) (ap (λ x. plain (kind_number x)) k ∙ same o c w ∙ sym (ap kind_row k))
