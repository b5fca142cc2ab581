-- The end of a block comment and the value of a string are unique.
use Rattle.std.proofs.Common.{◌≡◌, ◌⊎◌, ◌≤◌, ◌+◌, ◌*◌, ◌&&◌, ℕ, List, [], ◌∷◌, ◌++◌, refl, arith, ap, sym, ◌∙◌, subst, Bool, true, false, not, ◌||◌, inl, inr, cond, append_assoc}
use Rattle.std.specs.Prelude.{Some, Option, encode_utf8, ◌==◌}
use Rattle.std.proofs.lemmas.Bool.{both_ways, or_cases, and_parts, eqb-true, false≢true}
use Rattle.std.specs.Str.Parse.{digits_value, digits_value_after}
use Rattle.std.specs.List.{filter}
use Rattle.std.specs.Char.{digit_value, IsScalar}
use Rattle.wat_lex.specs.grammar.Classes.{Each, Begins, is_confusing, is_hex}
use Rattle.wat_lex.specs.grammar.Comments.{Closes, close, plain, lone_semicolon, lone_paren, nested}
use Rattle.wat_lex.specs.grammar.Strings.{Element, raw, letter, byte, unicode, Quoted, ends, more, letter_value, is_hex_or_underscore, is_raw, is_control, hex_value, HexRow, EndsInUnderscore}
use Rattle.wat_lex.specs.tokens.StringFaults.{StringFault, later, no_quote, control, confusing, no_escape, bad_escape, no_second, bad_second, no_open, bad_open, no_digit, bad_digit, number, NumberFault, too_big, doubled, lone, no_scalar, no_brace, no_more}
use Rattle.wat_lex.specs.declared.lexer.faults.LexError.{LexError}
use Rattle.wat_lex.specs.declared.lexer.settings.Settings.{Settings}
use Rattle.wat_lex.proofs.grammar.Comments.{at_close, at_plain, at_lone_semicolon, at_lone_paren, at_nested}

-- The end of a block comment is unique.
pub closes_unique : (t r q : List ℕ) → Closes t r → Closes t q → r ≡ q
closes_unique t r q close k = at_close r q k
closes_unique t r q (plain {c = c} {t = s} a b h) k = closes_unique s r q h (at_plain c s q k a b)
closes_unique t r q (lone_semicolon {d = d} {t = s} a h) k = closes_unique (d ∷ s) r q h (at_lone_semicolon d s q k a)
closes_unique t r q (lone_paren {d = d} {t = s} a h) k = closes_unique (d ∷ s) r q h (at_lone_paren d s q k a)
closes_unique t r q (nested {t = s} {m = m} g h) k =
    let n = at_nested s q k in
    let e = closes_unique s m n.0 g n.1 in
    closes_unique m r q h (subst (λ x. Closes x q) (sym e) n.2)

-- what comes before the first character that fails
pub span_unique : (p : ℕ → Bool) (x y r s : List ℕ) → Each p x → Each p y → (Begins p r → ⊥) → (Begins p s → ⊥) → x ++ r ≡ y ++ s → (x ≡ y) × (r ≡ s)
span_unique p [] [] r s a b f g e = (refl, e)
span_unique p [] (d ∷ y) r s a b f g e = absurd (f (subst (Begins p) (sym e) b.0))
span_unique p (c ∷ x) [] r s a b f g e = absurd (g (subst (Begins p) e a.0))
span_unique p (c ∷ x) (d ∷ y) r s a b f g e =
    let h : c ≡ d = cc in
    let t : x ++ r ≡ y ++ s = cc in
    let k = span_unique p x y r s a.1 b.1 f g t in
    let u = k.0 in
    let w : c ∷ x ≡ d ∷ y = cc in
    (w, k.1)

when : (c d : ℕ) (f : ℕ → Bool) → (c == d) ≡ true → f d ≡ false → f c ≡ true → ⊥
when c d f e g h = both_ways (f c) (ap f (eqb-true c d e) ∙ g) h

chosen : (b : Bool) (x y z : Option ℕ) → cond b x y ≡ z → ((b ≡ true) × (x ≡ z)) ⊎ ((b ≡ false) × (y ≡ z))
chosen true x y z e = inl (refl, e)
chosen false x y z e = inr (refl, e)

pub letter_not_hex : (c v : ℕ) → letter_value c ≡ Some v → is_hex c ≡ true → ⊥
letter_not_hex c v e h =
    elim (chosen ((c == 34 || c == 39) || c == 92) _ _ _ e) [
      | inl k ↦ elim (or_cases (c == 34 || c == 39) (c == 92) k.0) [
        | inl l ↦ elim (or_cases (c == 34) (c == 39) l) [ inl m ↦ when c 34 is_hex m refl h | inr m ↦ when c 39 is_hex m refl h ]
        | inr l ↦ when c 92 is_hex l refl h
      ]
      | inr k ↦ elim (chosen (c == 116) _ _ _ k.1) [
        | inl l ↦ when c 116 is_hex l.0 refl h
        | inr l ↦ elim (chosen (c == 110) _ _ _ l.1) [
          | inl m ↦ when c 110 is_hex m.0 refl h
          | inr m ↦ elim (chosen (c == 114) _ _ _ m.1) [ inl n ↦ when c 114 is_hex n.0 refl h | inr n ↦ cc ]
        ]
      ]
    ]

pub no_quote_element : {flags : Settings} {s u t : List ℕ} → Element flags (34 ∷ s) u t → ⊥
no_quote_element (raw a) = false≢true a

pub element_unique : (flags : Settings) (s u v t r : List ℕ) → Element flags s u t → Element flags s v r → (u ≡ v) × (t ≡ r)
element_unique flags s u v t r (raw a) (raw b) = (refl, refl)
element_unique flags s u v t r (raw a) (letter b) = absurd (false≢true a)
element_unique flags s u v t r (raw a) (byte b c) = absurd (false≢true a)
element_unique flags s u v t r (raw a) (unicode ds e h n k) = absurd (false≢true a)
element_unique flags s u v t r (letter b) (raw a) = absurd (false≢true a)
element_unique flags s u v t r (letter {v = x} a) (letter {v = y} b) = let h : x ≡ y = cc in (ap (λ z. z ∷ []) h, refl)
element_unique flags s u v t r (letter {c = c} {v = x} a) (byte b d) = absurd (letter_not_hex c x a b)
element_unique flags s u v t r (letter a) (unicode ds e h n k) = cc
element_unique flags s u v t r (byte b c) (raw a) = absurd (false≢true a)
element_unique flags s u v t r (byte b d) (letter {c = c} {v = x} a) = absurd (letter_not_hex c x a b)
element_unique flags s u v t r (byte b c) (byte d e) = (refl, refl)
element_unique flags s u v t r (byte b c) (unicode ds e h n k) = absurd (false≢true b)
element_unique flags s u v t r (unicode ds e h n k) (raw a) = absurd (false≢true a)
element_unique flags s u v t r (unicode ds e h n k) (letter a) = cc
element_unique flags s u v t r (unicode ds e h n k) (byte b c) = absurd (false≢true b)
element_unique flags s u v t r (unicode {d = d} {r = x} ds e h n k) (unicode {r = y} es f i m l) =
    let w = span_unique is_hex_or_underscore ds es (125 ∷ x) (125 ∷ y) h.others i.others (λ b. false≢true b) (λ b. false≢true b) (sym e ∙ f) in
    let z = w.1 in
    let q : x ≡ y = cc in
    (ap (λ a. encode_utf8 (hex_value (d ∷ a))) w.0, q)

pub quoted_unique : (flags : Settings) (s u v t r : List ℕ) → Quoted flags s u t → Quoted flags s v r → (u ≡ v) × (t ≡ r)
quoted_unique flags s u v t r ends ends = (refl, refl)
quoted_unique flags s u v t r ends (more a k) = absurd (no_quote_element a)
quoted_unique flags s u v t r (more a k) ends = absurd (no_quote_element a)
quoted_unique flags s u v t r (more {t = x} {u = y} {v = z} a h) (more {t = x'} {u = y'} {v = z'} b k) =
    let p = element_unique flags s y y' x x' a b in
    let q = quoted_unique flags x z z' t r h (subst (λ l. Quoted flags l z' r) (sym p.1) k) in
    let e = p.0 in
    let f = q.0 in
    let w : y ++ z ≡ y' ++ z' = cc in
    (w, q.1)

-- a number that is well written has no fault
record Prefix (ds es : List ℕ) (x : ℕ) (t r : List ℕ) : Type 0 where
  more : List ℕ
  is : ds ≡ es ++ x ∷ more
  after : t ≡ more ++ 125 ∷ r

prefix_step : (y z x : ℕ) (ds es t r : List ℕ) → y ≡ z → Prefix ds es x t r → Prefix (y ∷ ds) (z ∷ es) x t r
prefix_step y z x ds es t r e p = record { more = p.more; is = ap (λ a. a ∷ ds) e ∙ ap (λ a. z ∷ a) p.is; after = p.after }

row_prefix : (ds es : List ℕ) (x : ℕ) (t r : List ℕ) → Each is_hex_or_underscore ds → Each is_hex_or_underscore es → is_hex_or_underscore x ≡ true → ds ++ 125 ∷ r ≡ es ++ x ∷ t → Prefix ds es x t r
row_prefix [] [] x t r a b h e = let k : 125 ≡ x = cc in absurd (both_ways (is_hex_or_underscore x) (ap is_hex_or_underscore (sym k)) h)
row_prefix [] (z ∷ es) x t r a b h e = let k : 125 ≡ z = cc in absurd (both_ways (is_hex_or_underscore z) (ap is_hex_or_underscore (sym k)) b.0)
row_prefix (y ∷ ds) [] x t r a b h e = let k : y ≡ x = cc in let l : t ≡ ds ++ 125 ∷ r = cc in record { more = ds; is = ap (λ c. c ∷ ds) k; after = l }
row_prefix (y ∷ ds) (z ∷ es) x t r a b h e = let k : y ≡ z = cc in let l : ds ++ 125 ∷ r ≡ es ++ x ∷ t = cc in prefix_step y z x ds es t r k (row_prefix ds es x t r a.1 b.1 h l)

value_grows : (n : ℕ) (ys : List ℕ) → n ≤ digits_value_after 16 n ys
value_grows n [] = omega arith
value_grows n (y ∷ ys) = let k = value_grows (n * 16 + digit_value y) ys in omega arith

digits_append : (n : ℕ) (xs ys : List ℕ) → digits_value_after 16 n (xs ++ ys) ≡ digits_value_after 16 (digits_value_after 16 n xs) ys
digits_append n [] ys = refl
digits_append n (x ∷ xs) ys = digits_append (n * 16 + digit_value x) xs ys

filter_append : (xs ys : List ℕ) → filter is_hex (xs ++ ys) ≡ filter is_hex xs ++ filter is_hex ys
filter_append [] ys = refl
filter_append (x ∷ xs) ys =
    elim (is_hex x) as (λ b. cond b (x ∷ filter is_hex (xs ++ ys)) (filter is_hex (xs ++ ys)) ≡ cond b (x ∷ filter is_hex xs) (filter is_hex xs) ++ filter is_hex ys) [
      | true ↦ ap (λ y. x ∷ y) (filter_append xs ys)
      | false ↦ filter_append xs ys
    ]

pub value_prefix : (xs ys : List ℕ) → hex_value xs ≤ hex_value (xs ++ ys)
value_prefix xs ys =
    subst (λ x. hex_value xs ≤ x) (sym (ap (digits_value 16) (filter_append xs ys) ∙ digits_append 0 (filter is_hex xs) (filter is_hex ys))) (value_grows (hex_value xs) (filter is_hex ys))

pub begins_stop : (more u t : List ℕ) → Each is_hex_or_underscore more → t ≡ more ++ u → (Begins is_hex_or_underscore t → ⊥) → more ≡ []
begins_stop [] u t a e f = refl
begins_stop (y ∷ ys) u t a e f = absurd (f (subst (Begins is_hex_or_underscore) (sym e) a.0))

pub each_after : (p : ℕ → Bool) (xs : List ℕ) (x : ℕ) (ys : List ℕ) → Each p (xs ++ x ∷ ys) → Each p ys
each_after p [] x ys h = h.1
each_after p (z ∷ xs) x ys h = each_after p xs x ys h.1

pub each_prefix : (xs ys : List ℕ) → Each is_hex_or_underscore (xs ++ ys) → Each is_hex_or_underscore xs
each_prefix [] ys h = tt
each_prefix (x ∷ xs) ys h = (h.0, each_prefix xs ys h.1)

each_after_first : (ds r : List ℕ) → Each is_hex_or_underscore (ds ++ 125 ∷ r) → is_hex_or_underscore 125 ≡ true
each_after_first [] r h = h.0
each_after_first (x ∷ ds) r h = each_after_first ds r h.1

number_clash : (flags : Settings) (d : ℕ) (ds s r at : List ℕ) (e : LexError) → s ≡ ds ++ 125 ∷ r → HexRow flags d ds → (EndsInUnderscore ds → ⊥) → IsScalar (hex_value (d ∷ ds)) → NumberFault flags d s e at → ⊥
number_clash flags d ds s r at e q h n k (too_big {e = x} {t = t} es eq row hx big) =
    let p = row_prefix ds es x t r h.others row.others (ap (λ b. b || x == 95) hx) (sym q ∙ eq) in
    let g : (d ∷ es ++ x ∷ []) ++ p.more ≡ d ∷ ds = ap (λ a. d ∷ a) (append_assoc es (x ∷ []) p.more ∙ sym p.is) in
    let v : hex_value (d ∷ es ++ x ∷ []) ≤ hex_value (d ∷ ds) = subst (λ a. hex_value (d ∷ es ++ x ∷ []) ≤ hex_value a) g (value_prefix (d ∷ es ++ x ∷ []) p.more) in
    let w = h.small in
    omega arith
number_clash flags d ds s r at e q h n k (doubled {t = t} es eq row st un) =
    let p = row_prefix ds es 95 t r h.others row.others refl (sym q ∙ eq) in
    h.parted st un.0 p.more (p.is ∙ ap (λ a. a ++ 95 ∷ p.more) un.1 ∙ append_assoc un.0 (95 ∷ []) (95 ∷ p.more))
number_clash flags d ds s r at e q h n k (lone {t = t} es eq row stop) =
    let p = row_prefix ds es 95 t r h.others row.others refl (sym q ∙ eq) in
    let m = begins_stop p.more (125 ∷ r) t (each_after is_hex_or_underscore es 95 p.more (subst (Each is_hex_or_underscore) p.is h.others)) p.after stop in
    n (es, p.is ∙ ap (λ a. es ++ 95 ∷ a) m)
number_clash flags d ds s r at e q h n k (no_scalar {e = x} {t = t} es eq row hx stop bad) =
    let p = row_prefix ds es x t r h.others (each_prefix es (x ∷ []) row.others) (ap (λ b. b || x == 95) hx) (sym q ∙ eq) in
    let m = begins_stop p.more (125 ∷ r) t (each_after is_hex_or_underscore es x p.more (subst (Each is_hex_or_underscore) p.is h.others)) p.after stop in
    bad (subst (λ a. IsScalar (hex_value (d ∷ a))) (p.is ∙ ap (λ a. es ++ x ∷ a) m) k)
number_clash flags d ds s r at e q h n k (no_brace {c = c} {t = t} es eq row m sc out ne) =
    let w = span_unique is_hex_or_underscore ds es (125 ∷ r) (c ∷ t) h.others row.others (λ b. false≢true b) out (sym q ∙ eq) in
    let z = w.1 in
    let y : 125 ≡ c = cc in
    ne (sym y)
number_clash flags d ds s r at e q h n k (no_more row m sc) = false≢true (each_after_first ds r (subst (Each is_hex_or_underscore) q row.others))

raw_control : (flags : Settings) (c : ℕ) → is_raw flags c ≡ true → is_control c ≡ true → ⊥
raw_control flags c a k = both_ways (is_raw flags c) (ap (λ x. (not x && not (c == 34) && not (c == 92)) && (flags.allow || not (is_confusing c))) k) a

raw_confusing : (flags : Settings) (c : ℕ) → flags.allow ≡ false → is_raw flags c ≡ true → is_confusing c ≡ true → ⊥
raw_confusing flags c o a k =
    let plain = (not (is_control c) && not (c == 34)) && not (c == 92) in
    let p = and_parts plain (flags.allow || not (is_confusing c)) a in
    both_ways (flags.allow || not (is_confusing c)) (ap (λ x. x || not (is_confusing c)) o ∙ ap not k) p.1

-- after an element is the fault that comes after it
pub element_fault : (flags : Settings) (s u t at : List ℕ) (e : LexError) → Element flags s u t → StringFault flags s e at → StringFault flags t e at
element_fault flags s u t at e x (later {t = r} {u = v} y k) = subst (λ z. StringFault flags z e at) (sym (element_unique flags s u v t r x y).1) k
element_fault flags s u t at e x no_quote = elim x [ ]
element_fault flags s u t at e (raw {c = c} a) (control k) = absurd (raw_control flags c a k)
element_fault flags s u t at e (raw {c = c} a) (confusing o k) = absurd (raw_confusing flags c o a k)
element_fault flags s u t at e (raw a) no_escape = absurd (false≢true a)
element_fault flags s u t at e (raw a) (bad_escape k l m) = absurd (false≢true a)
element_fault flags s u t at e (raw a) (no_second k) = absurd (false≢true a)
element_fault flags s u t at e (raw a) (bad_second k l) = absurd (false≢true a)
element_fault flags s u t at e (raw a) no_open = absurd (false≢true a)
element_fault flags s u t at e (raw a) (bad_open k) = absurd (false≢true a)
element_fault flags s u t at e (raw a) no_digit = absurd (false≢true a)
element_fault flags s u t at e (raw a) (bad_digit k) = absurd (false≢true a)
element_fault flags s u t at e (raw a) (number k l) = absurd (false≢true a)
element_fault flags s u t at e (letter a) (control k) = absurd (false≢true k)
element_fault flags s u t at e (letter a) (confusing o k) = absurd (false≢true k)
element_fault flags s u t at e (letter a) (bad_escape k l m) = cc
element_fault flags s u t at e (letter {c = c} {v = v} a) (no_second k) = absurd (letter_not_hex c v a k)
element_fault flags s u t at e (letter {c = c} {v = v} a) (bad_second k l) = absurd (letter_not_hex c v a k)
element_fault flags s u t at e (letter a) no_open = cc
element_fault flags s u t at e (letter a) (bad_open k) = cc
element_fault flags s u t at e (letter a) no_digit = cc
element_fault flags s u t at e (letter a) (bad_digit k) = cc
element_fault flags s u t at e (letter a) (number k l) = cc
element_fault flags s u t at e (byte a b) (control k) = absurd (false≢true k)
element_fault flags s u t at e (byte a b) (confusing o k) = absurd (false≢true k)
element_fault flags s u t at e (byte a b) (bad_escape k l m) = absurd (l a)
element_fault flags s u t at e (byte a b) (bad_second k l) = absurd (l b)
element_fault flags s u t at e (byte a b) (bad_open k) = absurd (false≢true a)
element_fault flags s u t at e (byte a b) no_digit = absurd (false≢true a)
element_fault flags s u t at e (byte a b) (bad_digit k) = absurd (false≢true a)
element_fault flags s u t at e (byte a b) (number k l) = absurd (false≢true a)
element_fault flags s u t at e (unicode ds q h n k) (control l) = absurd (false≢true l)
element_fault flags s u t at e (unicode ds q h n k) (confusing o l) = absurd (false≢true l)
element_fault flags s u t at e (unicode ds q h n k) (bad_escape a b c) = absurd (c refl)
element_fault flags s u t at e (unicode ds q h n k) (bad_second a b) = absurd (false≢true a)
element_fault flags s u t at e (unicode ds q h n k) (bad_open a) = absurd (a refl)
element_fault flags s u t at e (unicode ds q h n k) (bad_digit a) = absurd (a h.first)
element_fault flags s u t at e (unicode {d = d} {s = x} {r = r} ds q h n k) (number a f) = absurd (number_clash flags d ds x r at e q h n k f)

-- a string that ends has no fault
pub quoted_sound : (flags : Settings) (s v r at : List ℕ) (e : LexError) → Quoted flags s v r → StringFault flags s e at → ⊥
quoted_sound flags s v r at e ends (later a k) = no_quote_element a
quoted_sound flags s v r at e ends (control k) = false≢true k
quoted_sound flags s v r at e ends (confusing o k) = false≢true k
quoted_sound flags s v r at e (more {t = t} {u = u} {v = w} a k) f = quoted_sound flags t w r at e k (element_fault flags s u t at e a f)
