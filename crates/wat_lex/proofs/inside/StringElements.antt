-- The elements of a string, each at its offset in the text.
use Rattle.std.proofs.Common.{◌≡◌, ◌≢◌, ◌≤◌, ◌<◌, ◌+◌, ◌-◌, ◌*◌, ◌/◌, ℕ, List, [], ◌∷◌, ◌++◌, length, take, drop, get_or, refl, arith, ap, sym, ◌∙◌, subst, Bool, true, false, cond, not, ◌&&◌, length-append, inl, inr, lit<}
use Rattle.std.specs.Prelude.{encode_utf8, slice_index, ◌==◌, Option, Some, None, is_some}
use Rattle.std.specs.List.{prefix_len}
use Rattle.std.specs.Char.{digit_value}
use Rattle.std.specs.Str.{chars, IsUtf8, IsCharBoundary}
use Rattle.std.proofs.lemmas.Bool.{cases_Bool, cases_lt, both_ways, false≢true}
use Rattle.std.proofs.lemmas.Bool.Decides.{nat_tests}
use Rattle.std.proofs.lemmas.List.{drop-drop, drop_at, take-append-drop, get_or-append-add, get_or_append_left, get_or-take, length-drop, length-take}
use Rattle.std.proofs.lemmas.List.Sums.{prefix_len-le-length, prefix_len_passes, prefix_len_stops}
use Rattle.std.proofs.lemmas.Str.{encodes-chars, encodes-append, chars-append, IsUtf8-take, IsUtf8-drop, IsCharBoundary-at_seam, encode_ascii}
use lib.Dec.{T, ltb, ltb→lt, lt→ltb}
use lib.Utf8.{encode, encodes, next}
use Rattle.wat_lex.specs.grammar.Classes.{size, Each, is_hex, is_confusing}
use Rattle.wat_lex.specs.grammar.Strings.{Element, raw, letter, byte, letter_value, Quoted, ends, more, is_raw, is_control}
use Rattle.wat_lex.specs.tokens.StringFaults.{StringFault, later, no_quote, control, confusing}
use Rattle.wat_lex.specs.inside.ScannedStrings.{Escaped, Breaks, BeginsByteEscape, BeginsLetterEscape, BeginsPunctuation, ElementTaken, StringTaken, StringFaultFound, is_plain}
use Rattle.wat_lex.specs.declared.lexer.scan.strings.Broken.{Broken}
use Rattle.wat_lex.specs.declared.lexer.faults.LexError.{LexError}
use Rattle.wat_lex.specs.declared.lexer.faults.LexError.TheVariants.{InvalidStringElement, UnexpectedEof, ConfusingUnicode}
use Rattle.wat_lex.specs.declared.lexer.settings.Settings.{Settings}
use Rattle.wat_lex.proofs.grammar.AsciiPrefixes.{led}
use Rattle.wat_lex.proofs.grammar.Remainders.{element_taken, string_fault_fits}
use Rattle.wat_lex.specs.inside.Blocks.{leads_at}
use Rattle.wat_lex.proofs.inside.Confusing.{lead, leads, encode_some}
use Rattle.wat_lex.proofs.inside.StringSteps.{Took, took, at_end, raw_char}

-- ---- one element

-- the bytes that are left of a text after a prefix of its characters
pub left_of : (text rest prefix : List ℕ) → IsUtf8 text → IsUtf8 rest → chars text ≡ prefix ++ chars rest → (length rest ≤ length text) × (drop (length text - length rest) text ≡ rest)
left_of text rest prefix u v e =
    let bytes : text ≡ encodes prefix ++ rest = sym (encodes-chars text u) ∙ ap encodes e ∙ encodes-append prefix (chars rest) ∙ ap (λ x. encodes prefix ++ x) (encodes-chars rest v) in
    let sum : length text ≡ length (encodes prefix) + length rest = ap length bytes ∙ length-append (encodes prefix) rest in
    (omega (arith, sum), ap (λ x. drop (length text - length rest) x) bytes ∙ drop_at (encodes prefix) rest (length text - length rest) (omega (arith, sum)))

element_to : (flags : Settings) (text rest value : List ℕ) → IsUtf8 text → IsUtf8 rest → Element flags (chars text) value (chars rest) → length rest < length text → ElementTaken flags text (length text - length rest)
element_to flags text rest value u v e l =
    let t = element_taken flags (chars text) value (chars rest) e in
    let b = left_of text rest t.prefix u v t.cut in
    record {
      value = value;
      element = subst (λ x. Element flags (chars text) value (chars x)) (sym b.1) e;
      utf8 = subst IsUtf8 (sym b.1) v;
      some = omega arith;
      range = omega arith;
    }

pub element_raw : (flags : Settings) (text rest : List ℕ) (c : ℕ) → IsUtf8 text → Took text c rest → length rest < length text → c ≢ 34 → c ≢ 92 → is_control c ≡ false → (flags.allow ≡ false → is_confusing c ≡ false) → ElementTaken flags text (length text - length rest)
element_raw flags text rest c u t l a b e f =
    element_to flags text rest (encode_utf8 c) u t.utf8 (subst (λ x. Element flags x (encode_utf8 c) (chars rest)) (sym t.spelled) (raw (raw_char flags c a b e f))) l

pub element_escaped : (flags : Settings) (text mid rest value : List ℕ) → IsUtf8 text → Took text 92 mid → length mid < length text → Escaped flags (92 ∷ []) mid rest value → ElementTaken flags text (length text - length rest)
element_escaped flags text mid rest value u t l e =
    let s = e.shorter in
    element_to flags text rest value u e.utf8 (subst (λ x. Element flags x value (chars rest)) (sym t.spelled) e.element) (omega arith)

pub element_missing : (flags : Settings) (text : List ℕ) → length text ≡ 0 → StringFaultFound flags text (record { offset = 0; error = UnexpectedEof })
element_missing flags text l = record { at = []; fault = subst (λ x. StringFault flags x UnexpectedEof []) (sym (at_end text l)) no_quote; place = sym l }

refused_here : (flags : Settings) (text rest : List ℕ) (c : ℕ) (e : LexError) → Took text c rest → StringFault flags (c ∷ chars rest) e (c ∷ chars rest) → StringFaultFound flags text (record { offset = 0; error = e })
refused_here flags text rest c e t f = record { at = chars text; fault = subst (λ x. StringFault flags x e x) (sym t.spelled) f; place = let s = t.size_is in omega arith }

pub element_control : (flags : Settings) (text rest : List ℕ) (c : ℕ) → Took text c rest → is_control c ≡ true → StringFaultFound flags text (record { offset = 0; error = InvalidStringElement c })
element_control flags text rest c t e = refused_here flags text rest c (InvalidStringElement c) t (control e)

pub element_confusing : (flags : Settings) (text rest : List ℕ) (c : ℕ) → Took text c rest → flags.allow ≡ false → is_confusing c ≡ true → StringFaultFound flags text (record { offset = 0; error = ConfusingUnicode c })
element_confusing flags text rest c t a e = refused_here flags text rest c (ConfusingUnicode c) t (confusing a e)

pub escape_fits : (flags : Settings) (text mid : List ℕ) (broken : Broken) → Took text 92 mid → Breaks flags (92 ∷ []) mid broken → broken.left ≤ length text
escape_fits flags text mid broken t b = omega (arith, string_fault_fits flags (92 ∷ chars mid) broken.error b.at b.fault, b.place, t.size_is, ap size t.spelled)

pub element_escape : (flags : Settings) (text mid : List ℕ) (broken : Broken) → Took text 92 mid → Breaks flags (92 ∷ []) mid broken → StringFaultFound flags text (record { offset = length text - broken.left; error = broken.error })
element_escape flags text mid broken t b = record {
  at = b.at;
  fault = subst (λ x. StringFault flags x broken.error b.at) (sym t.spelled) b.fault;
  place = let k = escape_fits flags text mid broken t b in let p = b.place in omega arith;
}

hex_ascii : (c : ℕ) → is_hex c ≡ true → c < 128
hex_ascii c h = grind (arith, nat_tests)

-- an escape of two hexadecimal digits: its byte, and what comes after it
pub record ByteEscape (flags : Settings) (text : List ℕ) : Type 0 where
  pub element : Element flags (chars text) ((16 * digit_value (slice_index text 1) + digit_value (slice_index text 2)) ∷ []) (chars (drop 3 text))
  pub boundary : IsCharBoundary text 3

pub byte_escaped : (flags : Settings) (text : List ℕ) → IsUtf8 text → BeginsByteEscape text → ByteEscape flags text
byte_escaped flags [] u h = absurd (omega (arith, h.long))
byte_escaped flags (b ∷ []) u h = absurd (omega (arith, h.long))
byte_escaped flags (b ∷ c ∷ []) u h = absurd (omega (arith, h.long))
byte_escaped flags (b ∷ c ∷ d ∷ rest) u h =
    let mark = led (b ∷ c ∷ d ∷ rest) 92 u (omega arith) h.mark (lit< tt) in
    let first = led (c ∷ d ∷ rest) c mark.utf8 (omega arith) refl (hex_ascii c h.first) in
    let second = led (d ∷ rest) d first.utf8 (omega arith) refl (hex_ascii d h.second) in
    let spelled : chars (b ∷ c ∷ d ∷ rest) ≡ 92 ∷ c ∷ d ∷ chars rest = mark.chars ∙ ap (λ x. 92 ∷ x) (first.chars ∙ ap (λ x. c ∷ x) second.chars) in
    record {
      element = subst (λ x. Element flags x ((16 * digit_value c + digit_value d) ∷ []) (chars rest)) (sym spelled) (byte h.first h.second);
      boundary = IsCharBoundary-at_seam (b ∷ c ∷ d ∷ rest) (b ∷ c ∷ d ∷ []) rest refl second.utf8;
    }

pub byte_taken : (flags : Settings) (text : List ℕ) → IsUtf8 text → BeginsByteEscape text → ElementTaken flags text 3
byte_taken flags text u h =
    let e = byte_escaped flags text u h in
    record { value = (16 * digit_value (slice_index text 1) + digit_value (slice_index text 2)) ∷ []; element = e.element; utf8 = IsUtf8-drop text 3 u e.boundary; some = omega arith; range = h.long }

letter_ascii : (c v : ℕ) → letter_value c ≡ Some v → c < 128
letter_ascii c v h = grind (arith, nat_tests)

-- an escape of one letter: its byte, and what comes after it
pub record LetterEscape (flags : Settings) (text : List ℕ) (v : ℕ) : Type 0 where
  pub element : Element flags (chars text) (v ∷ []) (chars (drop 2 text))
  pub boundary : IsCharBoundary text 2

pub letter_escaped : (flags : Settings) (text : List ℕ) (v : ℕ) → IsUtf8 text → 2 ≤ length text → get_or text 0 0 ≡ 92 → letter_value (get_or text 1 0) ≡ Some v → LetterEscape flags text v
letter_escaped flags [] v u l mark value = absurd (omega (arith, l))
letter_escaped flags (b ∷ []) v u l mark value = absurd (omega (arith, l))
letter_escaped flags (b ∷ c ∷ rest) v u l mark value =
    let first = led (b ∷ c ∷ rest) 92 u (omega arith) mark (lit< tt) in
    let second = led (c ∷ rest) c first.utf8 (omega arith) refl (letter_ascii c v value) in
    let spelled : chars (b ∷ c ∷ rest) ≡ 92 ∷ c ∷ chars rest = first.chars ∙ ap (λ x. 92 ∷ x) second.chars in
    record {
      element = subst (λ x. Element flags x (v ∷ []) (chars rest)) (sym spelled) (letter value);
      boundary = IsCharBoundary-at_seam (b ∷ c ∷ rest) (b ∷ c ∷ []) rest refl second.utf8;
    }

pub letter_taken : (flags : Settings) (text : List ℕ) → IsUtf8 text → BeginsLetterEscape text → ElementTaken flags text 2
letter_taken flags text u h = by (letter_value (get_or text 1 0)) refl
  where
    by : (o : Option ℕ) → letter_value (get_or text 1 0) ≡ o → ElementTaken flags text 2
    by None e = absurd (false≢true (sym (ap is_some e) ∙ h.letter))
    by (Some v) e =
        let l = letter_escaped flags text v u h.long h.mark e in
        record { value = v ∷ []; element = l.element; utf8 = IsUtf8-drop text 2 u l.boundary; some = omega arith; range = h.long }

-- the bytes of a character, by whether it is below the least ones of two, three and four bytes
abbrev bytes_by : Bool → Bool → Bool → ℕ → List ℕ
bytes_by x y z c = cond x (c ∷ []) (cond y ((192 + c / 64) ∷ next c ∷ []) (cond z ((224 + c / 4096) ∷ next (c / 64) ∷ next c ∷ []) ((240 + c / 262144) ∷ next (c / 4096) ∷ next (c / 64) ∷ next c ∷ [])))

-- the character whose first byte is 0xE2 has three bytes
three_of : (x y z : Bool) (c : ℕ) → get_or (bytes_by x y z c) 0 0 ≡ 0xE2 → (T x → c < 128) → (T y → c < 2048) → (x ≡ false) × (length (bytes_by x y z c) ≡ 3)
three_of true y z c h a b = absurd (omega (arith, h, a tt))
three_of false true z c h a b = absurd (omega (arith, h, b tt))
three_of false false true c h a b = (refl, refl)
three_of false false false c h a b = absurd (omega (arith, h))

three_bytes : (c : ℕ) → get_or (encode c) 0 0 ≡ 0xE2 → (128 ≤ c) × (length (encode c) ≡ 3)
unfolding encode
three_bytes c h =
    let t = three_of (ltb c 128) (ltb c 2048) (ltb c 65536) c h (ltb→lt c 128) (ltb→lt c 2048) in
    (elim (cases_lt c 128) [ inl l ↦ absurd (subst T t.0 (lt→ltb c 128 l)) | inr g ↦ g ], t.1)

high_control : (c : ℕ) → 128 ≤ c → is_control c ≡ false
high_control c l = grind (arith, nat_tests)

pub punctuation_taken : (flags : Settings) (text : List ℕ) → IsUtf8 text → BeginsPunctuation text → ElementTaken flags text 3
punctuation_taken flags text u h = by (chars text) (encodes-chars text u)
  where
    by : (cs : List ℕ) → encodes cs ≡ text → ElementTaken flags text 3
    by [] e = absurd (omega (arith, h.long, ap length e))
    by (c ∷ cs) e =
        let rest = encodes cs in
        let first : get_or (encode c) 0 0 ≡ 0xE2 = sym (get_or_append_left (encode c) rest 0 0 (encode_some c)) ∙ ap (λ x. get_or x 0 0) e ∙ h.lead in
        let three = three_bytes c first in
        let t = took text rest c u (sym e) in
        let long : length text ≡ 3 + length rest = ap length (sym e) ∙ length-append (encode c) rest ∙ ap (λ x. x + length rest) three.1 in
        let clear : is_confusing c ≡ false = elim (cases_Bool (is_confusing c)) [
          | inl t ↦ absurd (both_ways (leads_at text 0) h.clear (ap (λ x. leads_at x 0) (sym e) ∙ leads c rest t))
          | inr f ↦ f
        ] in
        let high = three.0 in
        subst (ElementTaken flags text) (omega (arith, long))
        (element_raw flags text rest c u t (omega (arith, long)) (λ a. absurd (omega (arith, high, a))) (λ a. absurd (omega (arith, high, a))) (high_control c high) (λ _. clear))

    high_control : (c : ℕ) → 128 ≤ c → is_control c ≡ false
    high_control c l = grind (arith, nat_tests)

-- ---- elements up to an offset

-- what ends the text from there on as a string ends the whole as one
pub record Continues (flags : Settings) (text : List ℕ) (at : ℕ) : Type 0 where
  pub quoted : (v r : List ℕ) → Quoted flags (chars (drop at text)) v r → (u : List ℕ) × Quoted flags (chars text) u r
  pub fault : (e : LexError) (place : List ℕ) → StringFault flags (chars (drop at text)) e place → StringFault flags (chars text) e place
  pub utf8 : IsUtf8 (drop at text)
  pub range : at ≤ length text

pub begin : (flags : Settings) (text : List ℕ) → IsUtf8 text → Continues flags text 0
begin flags text u = record { quoted = λ v r h. (v, h); fault = λ e place h. h; utf8 = u; range = omega arith }

pub element_more : (flags : Settings) (text : List ℕ) (at n : ℕ) → Continues flags text at → ElementTaken flags (drop at text) n → Continues flags text (at + n)
element_more flags text at n h e =
    let past : drop n (drop at text) ≡ drop (at + n) text = drop-drop n at text in
    record {
      quoted = λ v r q. h.quoted (e.value ++ v) r (more e.element (subst (λ x. Quoted flags (chars x) v r) (sym past) q));
      fault = λ d place q. h.fault d place (later e.element (subst (λ x. StringFault flags (chars x) d place) (sym past) q));
      utf8 = subst IsUtf8 past e.utf8;
      range = let a = h.range in let b = e.range in omega (arith, a, b, length-drop at text);
    }

pub closed : (flags : Settings) (text : List ℕ) (at : ℕ) → Continues flags text at → at < length text → get_or (drop at text) 0 0 ≡ 34 → StringTaken flags text (at + 1)
closed flags text at h l e =
    let t = led (drop at text) 34 h.utf8 (omega (arith, length-drop at text)) e (lit< tt) in
    let past : drop 1 (drop at text) ≡ drop (at + 1) text = drop-drop 1 at text in
    let q = h.quoted [] (chars (drop 1 (drop at text))) (subst (λ x. Quoted flags x [] (chars (drop 1 (drop at text)))) (sym t.chars) ends) in
    record { value = q.0; quoted = subst (λ x. Quoted flags (chars text) q.0 (chars x)) past q.1; utf8 = subst IsUtf8 past t.utf8; range = omega arith }

-- ---- plain bytes

-- each byte is plain
abbrev AllPlain : List ℕ → Type 0
AllPlain bs = (k : ℕ) → k < length bs → is_plain (get_or bs k 0) ≡ true

-- a byte that is not plain is ASCII or begins a character
begins_character : (b : ℕ) → is_plain b ≡ false → 128 ≤ b → 192 ≤ b
begins_character b h l = grind (arith, nat_tests)

-- a character whose first byte is plain stands for itself
raw_plain : (flags : Settings) (c : ℕ) → is_plain (get_or (encode c) 0 0) ≡ true → is_raw flags c ≡ true
raw_plain flags c h =
    raw_char flags c (λ e. ascii (omega arith) (λ k. both_ways (is_plain c) (ap is_plain e) k)) (λ e. ascii (omega arith) (λ k. both_ways (is_plain c) (ap is_plain e) k))
    (elim (cases_Bool (is_control c)) [ inl t ↦ absurd (ascii (control_ascii c t) (λ k. plain_control c t k)) | inr f ↦ f ])
    (λ _. elim (cases_Bool (is_confusing c)) [ inl t ↦ absurd (both_ways (is_plain 0xE2) refl (sym (ap is_plain (lead c t)) ∙ h)) | inr f ↦ f ])
  where
    ascii : c < 128 → (is_plain c ≡ true → ⊥) → ⊥
    ascii l f = f (sym (ap (λ x. is_plain (get_or x 0 0)) (encode_ascii c l)) ∙ h)

    control_ascii : (c : ℕ) → is_control c ≡ true → c < 128
    control_ascii c t = grind (arith, nat_tests)

    plain_control : (c : ℕ) → is_control c ≡ true → is_plain c ≡ true → ⊥
    plain_control c t k = both_ways (is_plain c) (ap (λ x. (not x && not (c == 34)) && (not (c == 92) && not (c == 0xE2))) t) k

raw_chars : (flags : Settings) (cs : List ℕ) → AllPlain (encodes cs) → Each (is_raw flags) cs
raw_chars flags [] h = tt
raw_chars flags (c ∷ cs) h = (
  raw_plain flags c (sym (ap is_plain (get_or_append_left (encode c) (encodes cs) 0 0 (encode_some c))) ∙ h 0 (omega (arith, length-append (encode c) (encodes cs), encode_some c))),
  raw_chars flags cs (λ k l. sym (ap is_plain (get_or-append-add (encode c) (encodes cs) k 0)) ∙ h (length (encode c) + k) (omega (arith, length-append (encode c) (encodes cs)))),
)

quoted_over : (flags : Settings) (cs t v r : List ℕ) → Each (is_raw flags) cs → Quoted flags t v r → (u : List ℕ) × Quoted flags (cs ++ t) u r
quoted_over flags [] t v r h q = (v, q)
quoted_over flags (c ∷ cs) t v r h q = let p = quoted_over flags cs t v r h.1 q in (encode_utf8 c ++ p.0, more (raw h.0) p.1)

fault_over : (flags : Settings) (cs t : List ℕ) (e : LexError) (place : List ℕ) → Each (is_raw flags) cs → StringFault flags t e place → StringFault flags (cs ++ t) e place
fault_over flags [] t e place h f = f
fault_over flags (c ∷ cs) t e place h f = later (raw h.0) (fault_over flags cs t e place h.1 f)

-- plain bytes up to one that is not are elements
pub plain_more : (flags : Settings) (text : List ℕ) (at n : ℕ) → Continues flags text at → n ≡ prefix_len is_plain (drop at text) → Continues flags text (at + n)
plain_more flags text at n h e =
    let r = drop at text in
    let short : n ≤ length r = omega (arith, e, prefix_len-le-length is_plain r) in
    let boundary : IsCharBoundary r n = (short, λ l high. begins_character (get_or r n 0) (stops l) high) in
    let u = IsUtf8-take r n h.utf8 boundary in
    let past : drop n r ≡ drop (at + n) text = drop-drop n at text in
    let split : chars r ≡ chars (take n r) ++ chars (drop (at + n) text) = ap chars (sym (take-append-drop n r)) ∙ chars-append (take n r) (drop n r) u ∙ ap (λ x. chars (take n r) ++ chars x) past in
    let raws = raw_chars flags (chars (take n r)) (subst AllPlain (sym (encodes-chars (take n r) u)) (λ k l. plain k l)) in
    record {
      quoted = λ v q p. let t = quoted_over flags (chars (take n r)) (chars (drop (at + n) text)) v q raws p in h.quoted t.0 q (subst (λ x. Quoted flags x t.0 q) (sym split) t.1);
      fault = λ d place p. h.fault d place (subst (λ x. StringFault flags x d place) (sym split) (fault_over flags (chars (take n r)) (chars (drop (at + n) text)) d place raws p));
      utf8 = subst IsUtf8 past (IsUtf8-drop r n h.utf8 boundary);
      range = let a = h.range in omega (arith, a, short, length-drop at text);
    }
  where
    stops : n < length (drop at text) → is_plain (get_or (drop at text) n 0) ≡ false
    stops l = subst (λ x. x < length (drop at text) → is_plain (get_or (drop at text) x 0) ≡ false) (sym e) (prefix_len_stops is_plain (drop at text) 0) l

    plain : (k : ℕ) → k < length (take n (drop at text)) → is_plain (get_or (take n (drop at text)) k 0) ≡ true
    plain k l =
        let m : k < n = omega (arith, length-take n (drop at text)) in
        ap is_plain (get_or-take n (drop at text) k 0 m) ∙ prefix_len_passes is_plain (drop at text) k 0 (omega (arith, e))
