-- The values of string literals and names in the bytes of their lexemes.
use Rattle.std.proofs.Common.{◌≡◌, ◌≢◌, ◌<◌, ◌+◌, ◌-◌, ◌⊎◌, ℕ, suc, List, [], ◌∷◌, ◌++◌, length, take, drop, get_or, refl, ap, sym, ◌∙◌, subst, arith, inl, inr, Bool, true, false, cond, length-append}
use Rattle.std.specs.Prelude.{◌==◌, ◌&&◌, ◌||◌, nat_le, Option, Some, None, MatchOption}
use Rattle.std.specs.Option.{option_map}
use Rattle.std.specs.Str.{chars, IsUtf8, IsCharBoundary}
use Rattle.std.proofs.lemmas.Bool.{both_ways, eqb-true, ne_eqb, false≢true, cases_Bool}
use Rattle.std.proofs.lemmas.List.{take_at, drop_at, get_or-append-add, append-nil}
use Rattle.std.proofs.lemmas.Str.{encodes-chars, encodes-append, encode_ascii, NoCharPasses-byte, IsUtf8-between, IsUtf8-drop, IsCharBoundary-after_ascii, IsCharBoundary-before_ascii, char_from_byte, length-encode, len_utf8_bounds}
use lib.Utf8.{encode, encodes}
use Rattle.memchr.specs.Find.{IsFirstByte, is_byte}
use Rattle.wat_lex.specs.grammar.Classes.{Each, is_idchar}
use Rattle.wat_lex.specs.grammar.Numbers.{Number}
use Rattle.wat_lex.specs.grammar.Runs.{Piece, Idchar, Quoted, Run, idchar, idchars, RunKind, RunWord, WordKind}
use Rattle.wat_lex.specs.grammar.Strings.{raw, letter, byte, unicode, Quoted as Elements, ends, more, StringWord, quoted}
use Rattle.wat_lex.specs.grammar.Words.{Word}
use Rattle.wat_lex.specs.tokens.Setting.{lenient}
use Rattle.wat_lex.specs.values.Names.{Name, Named, bare, quoted as named_string, HasNone, HasNoEscape}
use Rattle.wat_lex.specs.values.Names.{no_name, not_utf8}
use Rattle.wat_lex.specs.values.UniqueValues.{SomeValue, SomeName, good, fault}
use Rattle.wat_lex.specs.declared.lexer.faults.LexError.{LexError}
use Rattle.wat_lex.specs.declared.lexer.kinds.TokenKind.{TokenKind}
use Rattle.wat_lex.specs.declared.lexer.kinds.TokenKind.TheVariants.{Id, Keyword, Annotation, Reserved, String}
use Rattle.wat_lexer_parser.specs.parser.Takers.{contains}
use Rattle.wat_c.specs.Readings.{IsNamed}

-- ---- bytes and characters

-- a text that begins with an ASCII character
pub led : (b : List ℕ) (c : ℕ) (t : List ℕ) → IsUtf8 b → chars b ≡ c ∷ t → c < 128 → b ≡ c ∷ encodes t
led b c t u e l = sym (encodes-chars b u) ∙ ap encodes e ∙ ap (λ x. x ++ encodes t) (encode_ascii c l)

-- what is between two ends of a text
pub between : (b front v back : List ℕ) (n : ℕ) → b ≡ front ++ (v ++ back) → length v ≡ n → take n (drop (length front) b) ≡ v
between b front v back n e l = ap (λ x. take n (drop (length front) x)) e ∙ ap (take n) (drop_at front (v ++ back) (length front) refl) ∙ take_at v back n l

no_byte : (cs : List ℕ) → ((i : ℕ) → i < length (encodes cs) → (get_or (encodes cs) i 0 == 92) ≡ true → ⊥) → HasNone 92 cs
no_byte [] h = tt
no_byte (c ∷ cs) h = (first, no_byte cs (λ i l e. h (length (encode c) + i) (omega (arith, l, length-append (encode c) (encodes cs))) (ap (λ x. x == 92) (get_or-append-add (encode c) (encodes cs) i 0) ∙ e)))
  where
    bytes : c ≡ 92 → encodes (c ∷ cs) ≡ 92 ∷ encodes cs
    bytes e = ap (λ x. encode x ++ encodes cs) e ∙ ap (λ x. x ++ encodes cs) (encode_ascii 92 (omega arith))

    first : (c == 92) ≡ false
    first = elim (cases_Bool (c == 92)) [
      | inl t ↦ absurd (let e = bytes (eqb-true c 92 t) in h 0 (omega (arith, ap length e)) (ap (λ x. get_or x 0 0 == 92) e))
      | inr f ↦ f
    ]

-- If no byte is a backslash, no character is one.
pub no_backslash : (b : List ℕ) → IsUtf8 b → IsFirstByte (is_byte 92) b None → HasNone 92 (chars b)
no_backslash b u h =
    let e = encodes-chars b u in
    no_byte (chars b) (λ i l t. h i (omega arith) (subst (λ x. i < length x) e l) (ap (λ x. get_or x i 0 == 92) (sym e) ∙ t))

pub has_backslash : (b : List ℕ) (i : ℕ) → IsUtf8 b → IsFirstByte (is_byte 92) b (Some i) → HasNone 92 (chars b) → ⊥
has_backslash b i u h k =
    let t : (get_or b i 0 == 92) ≡ true = h.1 in
    let e = eqb-true (get_or b i 0) 92 t in
    both_ways (get_or b i 0 == 92) (NoCharPasses-byte (λ d. d == 92) b i (chars b, encodes-chars b u, k) h.0.high (omega (arith, e))) t

-- ---- strings

-- elements without escapes stand for themselves, up to the quote
record Plain (s v : List ℕ) : Type 0 where
  inner : List ℕ
  cut : s ≡ inner ++ 34 ∷ []
  value : v ≡ encodes inner

plain_more : (c : ℕ) (s v : List ℕ) → Plain s v → Plain (c ∷ s) (encode c ++ v)
plain_more c s v p = record { inner = c ∷ p.inner; cut = ap (λ x. c ∷ x) p.cut; value = ap (λ x. encode c ++ x) p.value }

plain : (s v : List ℕ) → Elements lenient s v [] → HasNone 92 s → Plain s v
plain s v ends h = record { inner = []; cut = refl; value = refl }
plain s v (more {t = t} {v = w} (raw {c = c} a) q) h = plain_more c t w (plain t w q h.1)
plain s v (more (letter a) q) h = absurd (false≢true (sym h.0))
plain s v (more (byte a b) q) h = absurd (false≢true (sym h.0))
plain s v (more (unicode ds e a n k) q) h = absurd (false≢true (sym h.0))

-- the bytes of such elements
plain_bytes : (s v : List ℕ) → Plain s v → encodes s ≡ v ++ 34 ∷ []
plain_bytes s v p =
    ap encodes p.cut ∙ encodes-append p.inner (34 ∷ []) ∙ ap (λ x. encodes p.inner ++ (x ++ [])) (encode_ascii 34 (omega arith)) ∙ ap (λ x. x ++ 34 ∷ []) (sym p.value)

-- A string's lexeme without escapes is its value between two quotation marks.
pub record StringBytes (b : List ℕ) : Type 0 where
  pub value : List ℕ
  pub cut : b ≡ (34 ∷ []) ++ (value ++ 34 ∷ [])
  pub is : StringWord lenient (chars b) value

string_by : (b w v : List ℕ) → IsUtf8 b → StringWord lenient w v → chars b ≡ w → HasNone 92 w → StringBytes b
string_by b w v u (quoted {t = t} q) e h = record {
  value = v;
  cut = led b 34 t u e (omega arith) ∙ ap (λ x. 34 ∷ x) (plain_bytes t v (plain t v q h.1));
  is = subst (λ x. StringWord lenient x v) (sym e) (quoted q);
}

pub string_bytes : (b : List ℕ) → IsUtf8 b → SomeValue (chars b) → HasNone 92 (chars b) → StringBytes b
string_bytes b u some h = string_by b (chars b) some.value u some.is refl h

-- ---- names

abbrev pub IsSign : ℕ → Type 0
IsSign c = (c ≡ 36) ⊎ (c ≡ 64)

not_reserved : (k : TokenKind) → IsNamed k → k ≡ Reserved → ⊥
not_reserved k (inl e) h = let x : Id ≡ Reserved = sym e ∙ h in cc
not_reserved k (inr e) h = let x : Annotation ≡ Reserved = sym e ∙ h in cc

not_keyword : (k : TokenKind) → IsNamed k → k ≡ Keyword → ⊥
not_keyword k (inl e) h = let x : Id ≡ Keyword = sym e ∙ h in cc
not_keyword k (inr e) h = let x : Annotation ≡ Keyword = sym e ∙ h in cc

not_string : (k : TokenKind) → IsNamed k → k ≡ String → ⊥
not_string k (inl e) h = let x : Id ≡ String = sym e ∙ h in cc
not_string k (inr e) h = let x : Annotation ≡ String = sym e ∙ h in cc

not_number : (k : TokenKind) (w : List ℕ) → IsNamed k → Number w k → ⊥
not_number k w (inl e) h = subst (Number w) e h
not_number k w (inr e) h = subst (Number w) e h

-- The lexeme of a name begins with `$` or `@`.
record Signed (w : List ℕ) : Type 0 where
  first : ℕ
  rest : List ℕ
  cut : w ≡ first ∷ rest
  sign : IsSign first

module _ (k : TokenKind) (named : IsNamed k) where
  by_first : (c : ℕ) (a b d : Bool) → (c == 36) ≡ b → (c == 64) ≡ d → k ≡ cond a Keyword (cond b Id (cond d Annotation Reserved)) → IsSign c
  by_first c true b d x y e = absurd (not_keyword k named e)
  by_first c false true d x y e = inl (eqb-true c 36 x)
  by_first c false false true x y e = inr (eqb-true c 64 y)
  by_first c false false false x y e = absurd (not_reserved k named e)

  by_word : (c : ℕ) (cs : List ℕ) → WordKind (c ∷ cs) k → IsSign c
  by_word c cs (inl n) = absurd (not_number k (c ∷ cs) named n)
  by_word c cs (inr h) = by_first c (nat_le 97 c && nat_le c 122) (c == 36) (c == 64) refl refl h.1

  by_option : (c : ℕ) (o : Option (List ℕ)) → MatchOption (option_map (λ cs. c ∷ cs) o) (k ≡ Reserved) (λ w. WordKind w k) → IsSign c
  by_option c None h = absurd (not_reserved k named h)
  by_option c (Some cs) h = by_word c cs h

  run_cons : (w : List ℕ) (c : ℕ) (ps : List Piece) → IsSign c → Run lenient w (Idchar c ∷ ps) [] → Signed w
  run_cons w c ps s (idchar {t = t} h r) = record { first = c; rest = t; cut = refl; sign = s }

  run_signed : (w : List ℕ) (ps : List Piece) → ps ≢ [] → Run lenient w ps [] → RunKind ps k → Signed w
  run_signed w [] n r h = absurd (n refl)
  run_signed w (Quoted v ∷ []) n r h = absurd (not_string k named h)
  run_signed w (Quoted v ∷ p ∷ ps) n r h = absurd (not_reserved k named h)
  run_signed w (Idchar c ∷ []) n r h = run_cons w c [] (by_word c [] h) r
  run_signed w (Idchar c ∷ Quoted v ∷ []) n r h = run_cons w c (Quoted v ∷ []) (by_first c false (c == 36) (c == 64) refl refl h) r
  run_signed w (Idchar c ∷ Quoted v ∷ p ∷ ps) n r h = absurd (not_reserved k named h)
  run_signed w (Idchar c ∷ Idchar d ∷ ps) n r h = run_cons w c (Idchar d ∷ ps) (by_option c (idchars (Idchar d ∷ ps)) h) r

signed : (k : TokenKind) (w : List ℕ) → IsNamed k → Word k w lenient → Signed w
signed k w (inl e) h =
    let r : RunWord Id w lenient = subst (λ k. Word k w lenient) e h in
    run_signed Id (inl refl) w r.0 r.1 r.2 r.3
signed k w (inr e) h =
    let r : RunWord Annotation w lenient = subst (λ k. Word k w lenient) e h in
    run_signed Annotation (inr refl) w r.0 r.1 r.2 r.3

sign_ascii : (c : ℕ) → IsSign c → c < 128
sign_ascii c (inl e) = omega (arith, e)
sign_ascii c (inr e) = omega (arith, e)

sign_no_quote : (c : ℕ) → IsSign c → (c == 34) ≡ false
sign_no_quote c (inl e) = ap (λ x. x == 34) e
sign_no_quote c (inr e) = ap (λ x. x == 34) e

no_quotes : (cs : List ℕ) → Each is_idchar cs → HasNone 34 cs
no_quotes [] h = tt
no_quotes (c ∷ cs) h = (ne_eqb c 34 (λ e. both_ways (is_idchar c) (ap is_idchar e) h.0), no_quotes cs h.1)

-- The first byte of idchars is not a quotation mark.
first_no_quote : (cs : List ℕ) → Each is_idchar cs → get_or (encodes cs) 0 0 ≡ 34 → ⊥
first_no_quote [] h e = absurd (omega (arith, e))
first_no_quote (c ∷ cs) h e =
    let l : 0 < length (encodes (c ∷ cs)) = omega (arith, length-append (encode c) (encodes cs), length-encode c, (len_utf8_bounds c).0) in
    let k = char_from_byte (encodes (c ∷ cs)) (encodes cs) c refl (omega (arith, e)) l in
    both_ways (is_idchar c) (ap is_idchar (k ∙ e)) h.0

-- The lexeme of a name: a sign and idchars, or a sign and a string literal, whose elements without escapes are the
-- name.
pub data NameBytes (b : List ℕ) : Type 0 where
  bare_name : (c : ℕ) (v : List ℕ) → IsSign c → b ≡ c ∷ v → (get_or v 0 0 ≡ 34 → ⊥) → HasNone 34 (chars b) → Name (chars b) v → NameBytes b
  quoted_name : (c : ℕ) (s : List ℕ) → IsSign c → chars b ≡ c ∷ 34 ∷ s → b ≡ c ∷ 34 ∷ encodes s → (HasNone 92 s → (v : List ℕ) × (encodes s ≡ v ++ 34 ∷ []) × Name (chars b) v) → NameBytes b

named_bytes : (b : List ℕ) (c : ℕ) (t v : List ℕ) → IsUtf8 b → IsSign c → chars b ≡ c ∷ t → Named t v → NameBytes b
named_bytes b c t v u s e (bare h) =
    bare_name c (encodes t) s (led b c t u e (sign_ascii c s)) (first_no_quote t h) (subst (HasNone 34) (sym e) (sign_no_quote c s, no_quotes t h)) (subst (λ x. Name x (encodes t)) (sym e) (bare h))
named_bytes b c t v u s e (named_string (quoted {t = r} q)) =
    quoted_name c r s e (led b c (34 ∷ r) u e (sign_ascii c s) ∙ ap (λ x. c ∷ (x ++ encodes r)) (encode_ascii 34 (omega arith)))
    (λ h. (v, plain_bytes r v (plain r v q h), subst (λ x. Name x v) (sym e) (named_string (quoted q))))

some_named : (empty : LexError) (w : List ℕ) → SomeName empty w → (v : List ℕ) × Name w v
some_named empty w (good {name = v} h u n) = (v, h)
some_named empty w (fault (no_name h)) = ([], h)
some_named empty w (fault (not_utf8 {bytes = v} h n)) = (v, h)

pub name_bytes : (empty : LexError) (b : List ℕ) (k : TokenKind) → IsUtf8 b → IsNamed k → Word k (chars b) lenient → SomeName empty (chars b) → NameBytes b
name_bytes empty b k u named h some =
    let s = signed k (chars b) named h in
    let n = some_named empty (chars b) some in
    named_bytes b s.first s.rest n.0 u s.sign s.cut (subst (λ x. Name x n.0) s.cut n.1)

-- A name without escapes, after the first `front` and before the last `back` bytes of its lexeme.
pub record NameAt (b : List ℕ) (front back : ℕ) : Type 0 where
  pub value : List ℕ
  pub fits : front + (length value + back) ≡ length b
  pub there : take (length value) (drop front b) ≡ value
  pub named : Name (chars b) value
  pub utf8 : IsUtf8 value
  pub plain : HasNoEscape (chars b)

first_boundary : (b : List ℕ) (c : ℕ) (v : List ℕ) → IsUtf8 b → IsSign c → b ≡ c ∷ v → IsCharBoundary b 1
first_boundary b c v u s e =
    let ascii : get_or b 0 0 < 128 = omega (arith, sign_ascii c s, ap (λ x. get_or x 0 0) e) in
    IsCharBoundary-after_ascii b 0 u (omega (arith, ap length e)) ascii

pub bare_at : (b : List ℕ) (c : ℕ) (v : List ℕ) → IsUtf8 b → IsSign c → b ≡ c ∷ v → HasNone 34 (chars b) → Name (chars b) v → NameAt b 1 0
bare_at b c v u s e h n = record {
  value = v;
  fits = omega (arith, ap length e);
  there = between b (c ∷ []) v [] (length v) (e ∙ ap (λ x. c ∷ x) (sym (append-nil v))) refl;
  named = n;
  utf8 = subst IsUtf8 (ap (drop 1) e) (IsUtf8-drop b 1 u (first_boundary b c v u s e));
  plain = inl h;
}

-- after a list is what was put after it
last_of : (v : List ℕ) → get_or (v ++ 34 ∷ []) (length v) 0 ≡ 34
last_of v = ap (λ n. get_or (v ++ 34 ∷ []) n 0) (let n : length v ≡ length v + 0 = omega arith in n) ∙ get_or-append-add v (34 ∷ []) 0 0

pub quoted_at : (b : List ℕ) (c : ℕ) (s v : List ℕ) → IsUtf8 b → IsSign c → b ≡ c ∷ 34 ∷ encodes s → encodes s ≡ v ++ 34 ∷ [] → HasNone 92 (chars b) → Name (chars b) v → NameAt b 2 1
quoted_at b c s v u sign e f h n =
    let cut : b ≡ (c ∷ 34 ∷ []) ++ (v ++ 34 ∷ []) = e ∙ ap (λ x. c ∷ 34 ∷ x) f in
    let l : length b ≡ 2 + (length v + 1) = ap length cut ∙ ap (λ x. suc (suc x)) (length-append v (34 ∷ [])) ∙ omega arith in
    let there = between b (c ∷ 34 ∷ []) v (34 ∷ []) (length v) cut refl in
    let first = first_boundary b c (34 ∷ encodes s) u sign e in
    let second = IsCharBoundary-after_ascii b 1 u (omega (arith, l)) (let k = ap (λ x. get_or x 1 0) e in omega (arith, k)) in
    let at : get_or b (2 + length v) 0 ≡ 34 = ap (λ x. get_or x (2 + length v) 0) cut ∙ get_or-append-add (c ∷ 34 ∷ []) (v ++ 34 ∷ []) (length v) 0 ∙ last_of v in
    let last = IsCharBoundary-before_ascii b (2 + length v) (omega (arith, l)) (omega (arith, at)) in
    record {
      value = v;
      fits = omega (arith, l);
      there = there;
      named = n;
      utf8 = subst IsUtf8 (ap (λ m. take m (drop 2 b)) (let m : 2 + length v - 2 ≡ length v = omega arith in m) ∙ there) (IsUtf8-between b 2 (2 + length v) u (omega arith) second last);
      plain = inr h;
    }

-- A character that is not in the lexeme is not found there.
pub none_contains : (c : ℕ) (w : List ℕ) → HasNone c w → contains c w ≡ false
none_contains c [] h = refl
none_contains c (d ∷ w) h = ap (λ b. b || contains c w) h.0 ∙ none_contains c w h.1

-- by the byte after the sign
pub bare_or : (b : List ℕ) → IsUtf8 b → NameBytes b → (get_or b 1 0 == 34) ≡ false → NameAt b 1 0 × (contains 34 (chars b) ≡ false)
bare_or b u (bare_name c v s e q h n) k = (bare_at b c v u s e h n, none_contains 34 (chars b) h)
bare_or b u (quoted_name c s sign ce be f) k = absurd (both_ways (get_or b 1 0 == 34) k (ap (λ x. get_or x 1 0 == 34) be))

found_quote : (b : List ℕ) (c : ℕ) (s : List ℕ) → IsSign c → chars b ≡ c ∷ 34 ∷ s → contains 34 (chars b) ≡ true
found_quote b c s sign e = ap (contains 34) e ∙ ap (λ x. x || true) (sign_no_quote c sign)

pub quoted_or : (b : List ℕ) → IsUtf8 b → NameBytes b → (get_or b 1 0 == 34) ≡ true → HasNone 92 (chars b) → NameAt b 2 1 × (contains 34 (chars b) ≡ true)
quoted_or b u (bare_name c v s e q h n) k free = absurd (q (sym (ap (λ x. get_or x 1 0) e) ∙ eqb-true (get_or b 1 0) 34 k))
quoted_or b u (quoted_name c s sign ce be f) k free =
    let v = f (subst (HasNone 92) ce free).1.1 in
    (quoted_at b c s v.0 u sign be v.1 free v.2, found_quote b c s sign ce)

pub quoted_escape : (b : List ℕ) → NameBytes b → (get_or b 1 0 == 34) ≡ true → (HasNone 92 (chars b) → ⊥) → HasNoEscape (chars b) → ⊥
quoted_escape b (bare_name c v s e q h n) k esc free = q (sym (ap (λ x. get_or x 1 0) e) ∙ eqb-true (get_or b 1 0) 34 k)
quoted_escape b (quoted_name c s sign ce be f) k esc (inl h) = false≢true (sym (subst (HasNone 34) ce h).1.0)
quoted_escape b (quoted_name c s sign ce be f) k esc (inr h) = esc h
