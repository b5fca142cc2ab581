-- The values of strings.
use Rattle.std.proofs.Common.{◌≡◌, ◌≤◌, ◌<◌, ◌+◌, ◌-◌, ◌⊎◌, ℕ, List, [], ◌∷◌, ◌++◌, length, take, drop, refl, arith, ap, sym, ◌∙◌, subst, Bool, true, false, not, length-append, append_assoc, inl, inr}
use Rattle.std.specs.Prelude.{Some, None, Option, IsTrue, unwrap_or, ◌==◌}
use Rattle.std.proofs.lemmas.Bool.{both_ways, eqb-true, eq-eqb, false≢true}
use Rattle.std.proofs.lemmas.List.{append-nil, take_at, drop_at}
use Rattle.std.proofs.lemmas.Str.{chars-encodes, encodes-chars, encode_ascii, IsCharBoundary-at_seam}
use Rattle.std.specs.Str.{chars, IsUtf8, IsCharBoundary}
use Rattle.std.specs.List.{prefix_len}
use lib.Utf8.{encode, encodes}
use Rattle.memchr.specs.Find.{IsFirstByte, is_byte}
use Rattle.wat_lex.specs.grammar.Classes.{size, Each, Begins}
use Rattle.wat_lex.specs.values.Names.{HasNone}
use Rattle.wat_lex.specs.inside.ScannedStrings.{Breaks}
use Rattle.wat_lex.specs.tokens.Setting.{lenient}
use Rattle.wat_lex.specs.grammar.Strings.{Element, is_raw, raw, letter, byte, unicode, Quoted, ends, more}
use Rattle.wat_lex.specs.declared.lexer.scan.strings.Broken.{Broken}
use Rattle.wat_lex.proofs.inside.CheckedComments.{halves}
use Rattle.wat_lex.proofs.inside.Confusing.{size-append}
use Rattle.wat_lex.proofs.inside.LineComments.{Until, until, first_place}
use Rattle.wat_lex.proofs.grammar.OneString.{element_unique, quoted_sound}

-- a text that is cut after n bytes
pub record Seam (text w rest : List ℕ) (n : ℕ) : Type 0 where
  pub prefix : take n text ≡ encodes w
  pub after : chars (drop n text) ≡ rest
  pub utf8 : IsUtf8 (drop n text)
  pub boundary : IsCharBoundary text n
  pub range : n ≤ length text
  pub bytes : length text ≡ n + length (drop n text)

pub seam : (text w rest : List ℕ) (n : ℕ) → IsUtf8 text → chars text ≡ w ++ rest → n ≡ size w → Seam text w rest n
seam text w rest n u e m =
    let h = halves text w rest u e in
    let d : drop n text ≡ encodes rest = ap (λ x. drop n x) h.bytes ∙ drop_at (encodes w) (encodes rest) n (sym m) in
    let l : length text ≡ length (encodes w) + length (encodes rest) = ap length h.bytes ∙ length-append (encodes w) (encodes rest) in
    record {
      prefix = ap (λ x. take n x) h.bytes ∙ take_at (encodes w) (encodes rest) n (sym m);
      after = ap chars d ∙ chars-encodes rest h.right;
      utf8 = subst IsUtf8 (sym d) (rest, (h.right, refl));
      boundary = subst (IsCharBoundary text) (sym m) (IsCharBoundary-at_seam text (encodes w) (encodes rest) h.bytes (rest, (h.right, refl)));
      range = omega (arith, l, m);
      bytes = omega (arith, l, m, ap length d);
    }

-- one ASCII character at the start
pub seam_one : (text rest : List ℕ) (c : ℕ) → IsUtf8 text → c < 128 → chars text ≡ c ∷ rest → Seam text (c ∷ []) rest 1
seam_one text rest c u l e = seam text (c ∷ []) rest 1 u e (sym (ap (λ x. length (x ++ [])) (encode_ascii c l)))

none_of : (cs : List ℕ) → Each (λ c. not (is_byte 92 c)) cs → HasNone 92 cs
none_of [] h = tt
none_of (c ∷ cs) h = (by (c == 92) h.0, none_of cs h.1)
  where
    by : (b : Bool) → not b ≡ true → b ≡ false
    by true e = sym e
    by false e = refl

backslash_ascii : (c : ℕ) → is_byte 92 c ≡ true → c < 128
backslash_ascii c h = let e = eqb-true c 92 h in omega (arith, e)

until_backslash : (text : List ℕ) → IsUtf8 text → (r : Option ℕ) → IsFirstByte (is_byte 92) text r → (t : Until (is_byte 92) (chars text)) × (unwrap_or r (length text) ≡ size t.prefix)
until_backslash text u r h =
    let t = until (is_byte 92) backslash_ascii (chars text) in
    (t, first_place (is_byte 92) text r h ∙ ap (prefix_len (λ c. not (is_byte 92 c))) (sym (encodes-chars text u)) ∙ t.len)

-- a backslash comes after n bytes, and none before
pub record AtBackslash (text : List ℕ) (n : ℕ) : Type 0 where
  pub prefix : List ℕ
  pub clear : HasNone 92 prefix
  pub bytes : take n text ≡ encodes prefix
  pub cut : chars text ≡ prefix ++ 92 ∷ chars (drop (n + 1) text)
  pub here : chars (drop n text) ≡ 92 ∷ chars (drop (n + 1) text)
  pub left : IsUtf8 (drop n text)
  pub utf8 : IsUtf8 (drop (n + 1) text)
  pub boundary : IsCharBoundary text (n + 1)
  pub range : n + 1 ≤ length text
  pub shorter : length (drop (n + 1) text) < length text

at_backslash_by : (text prefix rest : List ℕ) (n : ℕ) → IsUtf8 text → HasNone 92 prefix → chars text ≡ prefix ++ 92 ∷ rest → n ≡ size prefix → AtBackslash text n
at_backslash_by text prefix rest n u h e l =
    let a = seam text prefix (92 ∷ rest) n u e l in
    let b = seam text (prefix ++ 92 ∷ []) rest (n + 1) u (e ∙ sym (append_assoc prefix (92 ∷ []) rest)) (sym (size-append prefix (92 ∷ []) ∙ ap (λ x. size prefix + length (x ++ [])) (encode_ascii 92 (omega arith)) ∙ ap (λ x. x + 1) (sym l))) in
    record {
      prefix = prefix;
      clear = h;
      bytes = a.prefix;
      cut = e ∙ ap (λ x. prefix ++ 92 ∷ x) (sym b.after);
      here = a.after ∙ ap (λ x. 92 ∷ x) (sym b.after);
      left = a.utf8;
      utf8 = b.utf8;
      boundary = b.boundary;
      range = b.range;
      shorter = let k = b.bytes in omega arith;
    }

pub at_backslash : (text : List ℕ) (n : ℕ) → IsUtf8 text → IsFirstByte (is_byte 92) text (Some n) → AtBackslash text n
at_backslash text n u h =
    let t = until_backslash text u (Some n) h in
    let b = h.0 in
    by t.0.prefix t.0.rest (none_of t.0.prefix t.0.passes) t.0.cut t.0.stops t.1 b.high
  where
    by : (prefix rest : List ℕ) → HasNone 92 prefix → chars text ≡ prefix ++ rest → (rest ≡ []) ⊎ Begins (is_byte 92) rest → n ≡ size prefix → n < length text → AtBackslash text n
    by prefix rest p e (inl s) l g =
        let k : length text ≡ size prefix = sym (ap length (encodes-chars text u)) ∙ ap size (e ∙ ap (λ x. prefix ++ x) s ∙ append-nil prefix) in
        absurd (omega (arith, k, l))
    by prefix [] p e (inr s) l g = absurd s
    by prefix (c ∷ rest) p e (inr s) l g = at_backslash_by text prefix rest n u p (subst (λ x. chars text ≡ prefix ++ x ∷ rest) (eqb-true c 92 s) e) l

pub no_backslash : (text : List ℕ) → IsUtf8 text → IsFirstByte (is_byte 92) text None → HasNone 92 (chars text)
no_backslash text u h =
    let t = until_backslash text u None h in
    by t.0.prefix t.0.rest (none_of t.0.prefix t.0.passes) t.0.cut t.0.stops t.1
  where
    by : (prefix rest : List ℕ) → HasNone 92 prefix → chars text ≡ prefix ++ rest → (rest ≡ []) ⊎ Begins (is_byte 92) rest → length text ≡ size prefix → HasNone 92 (chars text)
    by prefix rest p e (inl s) l = subst (HasNone 92) (sym (e ∙ ap (λ x. prefix ++ x) s ∙ append-nil prefix)) p
    by prefix [] p e (inr s) l = absurd s
    by prefix (c ∷ rest) p e (inr s) l =
        let d = eqb-true c 92 s in
        let k : length text ≡ size prefix + size (c ∷ rest) = sym (ap length (encodes-chars text u)) ∙ ap size e ∙ size-append prefix (c ∷ rest) in
        let m : size (c ∷ rest) ≡ 1 + size rest = ap (λ x. size (x ∷ rest)) d ∙ ap (λ x. length (x ++ encodes rest)) (encode_ascii 92 (omega arith)) ∙ length-append (92 ∷ []) (encodes rest) in
        absurd (omega (arith, k, l, m))

-- a text with a backslash has one
none_at : (prefix rest : List ℕ) → HasNone 92 (prefix ++ 92 ∷ rest) → ⊥
none_at [] rest h = false≢true (sym h.0)
none_at (c ∷ prefix) rest h = none_at prefix rest h.1

pub has_backslash : (text : List ℕ) (n : ℕ) → IsUtf8 text → IsFirstByte (is_byte 92) text (Some n) → HasNone 92 (chars text) → ⊥
has_backslash text n u h k = let b = at_backslash text n u h in none_at b.prefix (chars (drop (n + 1) text)) (subst (HasNone 92) b.cut k)

-- elements with no backslash stand for themselves, up to the quote
pub record Plain (s v : List ℕ) : Type 0 where
  pub inner : List ℕ
  pub cut : s ≡ inner ++ 34 ∷ []
  pub value : v ≡ encodes inner

plain_more : (c : ℕ) (s v : List ℕ) → Plain s v → Plain (c ∷ s) (encode c ++ v)
plain_more c s v p = record { inner = c ∷ p.inner; cut = ap (λ x. c ∷ x) p.cut; value = ap (λ x. encode c ++ x) p.value }

pub plain_whole : (s v : List ℕ) → Quoted lenient s v [] → HasNone 92 s → Plain s v
plain_whole s v ends h = record { inner = []; cut = refl; value = refl }
plain_whole s v (more {t = t} {v = w} (raw {c = c} a) q) h = plain_more c t w (plain_whole t w q h.1)
plain_whole s v (more (letter a) q) h = absurd (false≢true (sym h.0))
plain_whole s v (more (byte a b) q) h = absurd (false≢true (sym h.0))
plain_whole s v (more (unicode ds e a n k) q) h = absurd (false≢true (sym h.0))

-- The elements and the value after a prefix of characters that are not backslashes.
record PlainPrefix (cs t v : List ℕ) : Type 0 where
  rest : List ℕ
  value : v ≡ encodes cs ++ rest
  quoted : Quoted lenient t rest []

prefix_more : (c d : ℕ) (cs t v : List ℕ) → d ≡ c → PlainPrefix cs t v → PlainPrefix (c ∷ cs) t (encode d ++ v)
prefix_more c d cs t v e p = record {
  rest = p.rest;
  value = ap (λ x. encode x ++ v) e ∙ ap (λ x. encode c ++ x) p.value ∙ sym (append_assoc (encode c) (encodes cs) p.rest);
  quoted = p.quoted;
}

same_head : (c d : ℕ) (xs ys : List ℕ) → c ∷ xs ≡ d ∷ ys → (c ≡ d) × (xs ≡ ys)
same_head c d xs ys e = let h : c ≡ d = cc in let k : xs ≡ ys = cc in (h, k)

no_end : (cs : List ℕ) (x : ℕ) (t : List ℕ) → [] ≡ cs ++ x ∷ t → ⊥
no_end [] x t e = cc
no_end (c ∷ cs) x t e = cc

escape_first : (c : ℕ) (cs xs ys : List ℕ) → HasNone 92 (c ∷ cs) → 92 ∷ xs ≡ c ∷ ys → ⊥
escape_first c cs xs ys h e = both_ways (c == 92) h.0 (eq-eqb c 92 (sym (same_head 92 c xs ys e).0))

plain_prefix : (cs : List ℕ) (x : ℕ) (t s v : List ℕ) → HasNone 92 cs → Quoted lenient s v [] → s ≡ cs ++ x ∷ t → PlainPrefix cs (x ∷ t) v
plain_prefix [] x t s v h q e = record { rest = v; value = refl; quoted = subst (λ y. Quoted lenient y v []) e q }
plain_prefix (c ∷ cs) x t s v h ends e = absurd (no_end cs x t (same_head 34 c [] (cs ++ x ∷ t) e).1)
plain_prefix (c ∷ cs) x t s v h (more {t = r} {v = w} (raw {c = d} a) q) e =
    let k = same_head d c r (cs ++ x ∷ t) e in
    prefix_more c d cs (x ∷ t) w k.0 (plain_prefix cs x t r w h.1 q k.1)
plain_prefix (c ∷ cs) x t s v h (more (letter {c = d} {r = r} a) q) e = absurd (escape_first c cs (d ∷ r) (cs ++ x ∷ t) h e)
plain_prefix (c ∷ cs) x t s v h (more (byte {c = d} {d = f} {r = r} a b) q) e = absurd (escape_first c cs (d ∷ f ∷ r) (cs ++ x ∷ t) h e)
plain_prefix (c ∷ cs) x t s v h (more (unicode {d = d} {s = y} ds f a n k) q) e = absurd (escape_first c cs (117 ∷ 123 ∷ d ∷ y) (cs ++ x ∷ t) h e)

-- part of a string's value is read: what is read, and the value of the rest
pub record Reading (start rest done : List ℕ) : Type 0 where
  pub value : List ℕ
  pub left : Quoted lenient (chars rest) value []
  pub whole : Quoted lenient (chars start) (done ++ value) []
  pub utf8 : IsUtf8 rest

-- an element whose value is known, and what follows it
record FirstElement (s u t v : List ℕ) : Type 0 where
  rest : List ℕ
  value : v ≡ u ++ rest
  quoted : Quoted lenient t rest []

-- no element begins with a quote
not_quote : (s u t r : List ℕ) → Element lenient s u t → s ≡ 34 ∷ r → ⊥
not_quote s u t r (raw {c = c} {r = x} a) e = false≢true (subst (λ y. IsTrue (is_raw lenient y)) (same_head c 34 x r e).0 a)
not_quote s u t r (letter {c = d} {r = x} a) e = false≢true (ap (λ y. y == 34) (same_head 92 34 (d ∷ x) r e).0)
not_quote s u t r (byte {c = d} {d = f} {r = x} a b) e = false≢true (ap (λ y. y == 34) (same_head 92 34 (d ∷ f ∷ x) r e).0)
not_quote s u t r (unicode {d = d} {s = x} ds f a n k) e = false≢true (ap (λ y. y == 34) (same_head 92 34 (117 ∷ 123 ∷ d ∷ x) r e).0)

first_element : (s u t v : List ℕ) → Quoted lenient s v [] → Element lenient s u t → FirstElement s u t v
first_element s u t v ends h = absurd (not_quote s u t [] h refl)
first_element s u t v (more {t = x} {u = y} {v = z} k q) h =
    let m = element_unique lenient s u y t x h k in
    record { rest = z; value = ap (λ a. a ++ z) (sym m.0); quoted = subst (λ a. Quoted lenient a z []) (sym m.1) q }

-- an element is read
pub reading_element : (start rest done next u : List ℕ) → Reading start rest done → Element lenient (chars rest) u (chars next) → IsUtf8 next → Reading start next (done ++ u)
reading_element start rest done next u h e utf8 =
    let f = first_element (chars rest) u (chars next) h.value h.left e in
    let v : done ++ h.value ≡ (done ++ u) ++ f.rest = ap (λ x. done ++ x) f.value ∙ sym (append_assoc done u f.rest) in
    record { value = f.rest; left = f.quoted; whole = subst (λ x. Quoted lenient (chars start) x []) v h.whole; utf8 = utf8 }

-- what comes before a backslash is read
pub reading_plain : (start rest done : List ℕ) (n : ℕ) → Reading start rest done → IsFirstByte (is_byte 92) rest (Some n) → Reading start (drop n rest) (done ++ take n rest)
reading_plain start rest done n h b =
    let a = at_backslash rest n h.utf8 b in
    let p = plain_prefix a.prefix 92 (chars (drop (n + 1) rest)) (chars rest) h.value a.clear h.left a.cut in
    let v : done ++ h.value ≡ (done ++ take n rest) ++ p.rest =
    ap (λ x. done ++ x) (p.value ∙ ap (λ x. x ++ p.rest) (sym a.bytes)) ∙ sym (append_assoc done (take n rest) p.rest) in
    record { value = p.rest; left = subst (λ x. Quoted lenient x p.rest []) (sym a.here) p.quoted; whole = subst (λ x. Quoted lenient (chars start) x []) v h.whole; utf8 = a.left }

pub reading_sound : (start rest done : List ℕ) (n : ℕ) (broken : Broken) → Reading start rest done → IsFirstByte (is_byte 92) rest (Some n) → Breaks lenient (92 ∷ []) (drop (n + 1) rest) broken → ⊥
reading_sound start rest done n broken h b e =
    let a = at_backslash rest n h.utf8 b in
    let mid = chars (drop (n + 1) rest) in
    let p = plain_prefix a.prefix 92 mid (chars rest) h.value a.clear h.left a.cut in
    quoted_sound lenient (92 ∷ mid) p.rest [] e.at broken.error p.quoted e.fault

-- the last byte is the closing quote
pub record Closing (text v : List ℕ) : Type 0 where
  pub range : 1 ≤ length text
  pub value : take (length text - 1) text ≡ v
  pub boundary : IsCharBoundary text (length text - 1)
  pub quote : chars (drop (length text - 1) text) ≡ 34 ∷ []

pub closing : (text v : List ℕ) → IsUtf8 text → HasNone 92 (chars text) → Quoted lenient (chars text) v [] → Closing text v
closing text v u h q =
    let p = plain_whole (chars text) v q h in
    let l : length text ≡ size p.inner + 1 = sym (ap length (encodes-chars text u)) ∙ ap size p.cut ∙ size-append p.inner (34 ∷ []) ∙ ap (λ x. size p.inner + length (x ++ [])) (encode_ascii 34 (omega arith)) in
    let s = seam text p.inner (34 ∷ []) (length text - 1) u p.cut (omega (arith, l)) in
    record { range = omega (arith, l); value = s.prefix ∙ sym p.value; boundary = s.boundary; quote = s.after }

pub reading_ends : (start rest done : List ℕ) → Reading start rest done → IsFirstByte (is_byte 92) rest None → Quoted lenient (chars start) (done ++ take (length rest - 1) rest) []
reading_ends start rest done h b =
    let c = closing rest h.value h.utf8 (no_backslash rest h.utf8 b) h.left in
    subst (λ x. Quoted lenient (chars start) (done ++ x) []) (sym c.value) h.whole
