-- Line comments, single characters and whitespace at the start of a text.
use Rattle.std.proofs.Common.{◌≡◌, ◌<◌, ◌+◌, ◌⊎◌, ℕ, suc, List, [], ◌∷◌, ◌++◌, length, take, drop, get_or, refl, arith, ap, sym, ◌∙◌, subst, length-append, Bool, true, false, cond, not, ◌||◌, inl, inr, one-add}
use Rattle.std.specs.Prelude.{◌==◌, nat_lt, codes, Option, Some, None, unwrap_or}
use Rattle.memchr.specs.Find.{IsFirstByte, is_byte2}
use Rattle.std.proofs.lemmas.List.{get_or-drop}
use Rattle.std.proofs.lemmas.List.Sums.{prefix_len_is}
use Rattle.std.proofs.lemmas.Bool.{cases_Bool, both_ways, or_cases, eqb-true, ne_eqb, ltb-true, and_parts}
use Rattle.std.proofs.lemmas.Bool.Decides.{nat_tests}
use Rattle.std.proofs.lemmas.Str.{encodes-chars, encode_ascii, chars_past_char, byte_from_char, len_utf8_ascii}
use Rattle.std.specs.Char.{char_set_contains, is_ascii_alphanumeric}
use Rattle.std.specs.List.{prefix_len, list_all}
use Rattle.std.specs.Str.{chars, IsUtf8}
use lib.Utf8.{encode, encodes}
use Rattle.wat_lex.specs.grammar.Classes.{size, Each, Begins, is_line_end, is_whitespace, is_punctuation, is_idchar, is_run_char}
use Rattle.wat_lex.specs.grammar.Comments.{begun}
use Rattle.wat_lex.specs.grammar.Words.{Word, MayFollow, Punctuation}
use Rattle.wat_lex.specs.tokens.Faults.{Fault, unexpected, begins_word}
use Rattle.wat_lex.specs.tokens.Setting.{allowing}
use Rattle.wat_lex.specs.inside.ScannedLexemes.{LexemeFound, Refused}
use Rattle.wat_lex.specs.declared.lexer.kinds.TokenKind.{TokenKind}
use Rattle.wat_lex.specs.declared.lexer.kinds.TokenKind.TheVariants.{LineComment as line_kind, LParen, RParen, Reserved, Whitespace}
use Rattle.wat_lex.specs.declared.lexer.faults.LexError.TheVariants.{Unexpected}
use Rattle.wat_lex.proofs.grammar.CommentBytes.{ascii_in}
use Rattle.wat_lex.proofs.inside.Confusing.{size_one}
use Rattle.wat_lex.proofs.grammar.AsciiPrefixes.{led, not_begun, ascii_prefix}
use Rattle.wat_lex.specs.declared.lexer.settings.Settings.{Settings}

prefix_past : (q : ℕ → Bool) (bs t : List ℕ) → ((k : ℕ) → k < length bs → q (get_or bs k 0) ≡ true) → prefix_len q (bs ++ t) ≡ length bs + prefix_len q t
prefix_past q [] t h = omega arith
prefix_past q (b ∷ bs) t h =
    let e : prefix_len q (bs ++ t) ≡ length bs + prefix_len q t = prefix_past q bs t (λ k l. h (suc k) (omega arith)) in
    ap (λ x. cond x (1 + prefix_len q (bs ++ t)) 0) (h 0 (omega arith)) ∙ omega (arith, e)

-- the characters before the first that passes p, which is ASCII
pub record Until (p : ℕ → Bool) (cs : List ℕ) : Type 0 where
  pub prefix : List ℕ
  pub rest : List ℕ
  pub cut : cs ≡ prefix ++ rest
  pub passes : Each (λ c. not (p c)) prefix
  pub stops : (rest ≡ []) ⊎ Begins p rest
  pub len : prefix_len (λ c. not (p c)) (encodes cs) ≡ size prefix

pub until : (p : ℕ → Bool) → ((c : ℕ) → p c ≡ true → c < 128) → (cs : List ℕ) → Until p cs
until p ascii [] = record { prefix = []; rest = []; cut = refl; passes = tt; stops = inl refl; len = refl }
until p ascii (c ∷ cs) =
    elim (cases_Bool (p c)) [
      | inl t ↦ record {
        prefix = [];
        rest = c ∷ cs;
        cut = refl;
        passes = tt;
        stops = inr t;
        len = ap (λ x. prefix_len (λ c. not (p c)) (x ++ encodes cs)) (encode_ascii c (ascii c t)) ∙ ap (λ x. cond (not x) (1 + prefix_len (λ c. not (p c)) (encodes cs)) 0) t;
      }
      | inr f ↦
          let u = until p ascii cs in
          record {
            prefix = c ∷ u.prefix;
            rest = u.rest;
            cut = ap (λ x. c ∷ x) u.cut;
            passes = (ap not f, u.passes);
            stops = u.stops;
            len =
                prefix_past (λ c. not (p c)) (encode c) (encodes cs) (λ k l. ap not (inner c f k l))
                ∙ ap (λ x. length (encode c) + x) u.len
                ∙ sym (length-append (encode c) (encodes u.prefix));
          }
    ]
  where
    inner : (c : ℕ) → p c ≡ false → (k : ℕ) → k < length (encode c) → p (get_or (encode c) k 0) ≡ false
    inner c f k l =
        elim (cases_Bool (p (get_or (encode c) k 0))) [
          | inl t ↦ absurd (both_ways (p c) f (ap p (ascii_in c k (get_or (encode c) k 0) l refl (ascii (get_or (encode c) k 0) t)) ∙ t))
          | inr g ↦ g
        ]

-- the characters of a set
pub set_ascii : (s : List ℕ) (c : ℕ) → Each (λ d. nat_lt d 128) s → char_set_contains s c ≡ true → c < 128
set_ascii [] c h e = cc
set_ascii (d ∷ s) c h e =
    elim (or_cases (d == c) (char_set_contains s c) e) [
      | inl t ↦ subst (λ x. x < 128) (eqb-true d c t) (ltb-true d 128 h.0)
      | inr t ↦ set_ascii s c h.1 t
    ]

pub line_end_ascii : (c : ℕ) → is_line_end c ≡ true → c < 128
line_end_ascii c = set_ascii (10 ∷ 13 ∷ []) c (refl, (refl, tt))

pub whitespace_ascii : (c : ℕ) → is_whitespace c ≡ true → c < 128
whitespace_ascii c = set_ascii (32 ∷ 10 ∷ 13 ∷ 9 ∷ []) c (refl, (refl, (refl, (refl, tt))))

pub punctuation_ascii : (c : ℕ) → is_punctuation c ≡ true → c < 128
punctuation_ascii c = set_ascii (codes ",[]{}") c (refl, (refl, (refl, (refl, (refl, tt)))))

size_two : (f : List ℕ) → size (59 ∷ 59 ∷ f) ≡ 2 + size f
unfolding encode
size_two f = omega arith

-- a text that begins with `;;`
pub line_found : (flags : Settings) (text : List ℕ) (n : ℕ) → IsUtf8 text → get_or text 0 0 ≡ 59 → get_or text 1 0 ≡ 59 → n ≡ prefix_len (λ c. not (is_line_end c)) (drop 2 text) → LexemeFound (allowing flags) text (record { kind = line_kind; len = n + 2 })
line_found flags [] n u a b e = cc
line_found flags (c ∷ []) n u a b e = cc
line_found flags (c ∷ d ∷ t) n u a b e =
    let l = led (c ∷ d ∷ t) 59 u (omega arith) a (omega arith) in
    let m = led (d ∷ t) 59 l.utf8 (omega arith) b (omega arith) in
    let k = until is_line_end line_end_ascii (chars t) in
    record {
      word = 59 ∷ 59 ∷ k.prefix;
      rest = k.rest;
      is_at = record { cut = l.chars ∙ ap (λ x. 59 ∷ x) (m.chars ∙ ap (λ x. 59 ∷ x) k.cut); word = (begun k.passes, tt); ends = k.stops };
      len = let s : prefix_len (λ c. not (is_line_end c)) t ≡ size k.prefix = ap (prefix_len (λ c. not (is_line_end c))) (sym (encodes-chars t m.utf8)) ∙ k.len in omega (arith, size_two k.prefix, s);
    }

-- a word of one ASCII character
pub found_one : (flags : Settings) (text : List ℕ) (kind : TokenKind) (c : ℕ) → IsUtf8 text → 0 < length text → get_or text 0 0 ≡ c → c < 128 → Word kind (c ∷ []) flags → MayFollow kind (c ∷ []) (chars (drop 1 text)) → LexemeFound flags text (record { kind = kind; len = 1 })
found_one flags text kind c u l e s w f =
    let k = led text c u l e s in
    record { word = c ∷ []; rest = chars (drop 1 text); is_at = record { cut = k.chars; word = w; ends = f }; len = sym (size_one c ∙ len_utf8_ascii c s) }

no_semicolon : (text : List ℕ) (c : ℕ) → IsUtf8 text → 0 < length text → get_or text 0 0 ≡ c → c < 128 → (get_or text 1 0 ≡ 59 → ⊥) → Begins (λ d. d == 59) (chars (drop 1 text)) → ⊥
no_semicolon text c u l e s n =
    not_begun (λ d. d == 59) (drop 1 text) (led text c u l e s).utf8 (λ d t. let k = eqb-true d 59 t in omega arith)
    (λ _. ne_eqb (get_or (drop 1 text) 0 0) 59 (λ k. n (sym (get_or-drop 1 text 0 0) ∙ k)))

pub found_open : (flags : Settings) (text : List ℕ) → IsUtf8 text → 0 < length text → get_or text 0 0 ≡ 40 → (get_or text 1 0 ≡ 59 → ⊥) → LexemeFound flags text (record { kind = LParen; len = 1 })
found_open flags text u l e n = found_one flags text LParen 40 u l e (omega arith) refl (no_semicolon text 40 u l e (omega arith) n)

pub found_close : (flags : Settings) (text : List ℕ) → IsUtf8 text → 0 < length text → get_or text 0 0 ≡ 41 → LexemeFound flags text (record { kind = RParen; len = 1 })
found_close flags text u l e = found_one flags text RParen 41 u l e (omega arith) refl tt

pub found_semicolon : (flags : Settings) (text : List ℕ) → IsUtf8 text → 0 < length text → get_or text 0 0 ≡ 59 → (get_or text 1 0 ≡ 59 → ⊥) → LexemeFound flags text (record { kind = Reserved; len = 1 })
found_semicolon flags text u l e n =
    let m : Punctuation (59 ∷ []) = (59, refl, refl) in
    found_one flags text Reserved 59 u l e (omega arith) (inl m) (λ _. no_semicolon text 59 u l e (omega arith) n, λ k. absurd (k m))

pub found_punctuation : (flags : Settings) (text : List ℕ) → IsUtf8 text → 0 < length text → is_punctuation (get_or text 0 0) ≡ true → LexemeFound flags text (record { kind = Reserved; len = 1 })
found_punctuation flags text u l t =
    let c = get_or text 0 0 in
    let m : Punctuation (c ∷ []) = (c, refl, ap (λ b. b || c == 59) t) in
    let other : c ∷ [] ≡ 59 ∷ [] → ⊥ = λ e. let k : c ≡ 59 = cc in both_ways (is_punctuation c) (ap is_punctuation k) t in
    found_one flags text Reserved c u l refl (punctuation_ascii c t) (inl m) (λ e. absurd (other e), λ k. absurd (k m))

whitespace_first : (text : List ℕ) → 0 < length text → is_whitespace (get_or text 0 0) ≡ true → take (prefix_len is_whitespace text) text ≡ [] → ⊥
whitespace_first [] l t e = omega arith
whitespace_first (b ∷ bs) l t e =
    let k : prefix_len is_whitespace (b ∷ bs) ≡ suc (prefix_len is_whitespace bs) = ap (λ x. cond x (1 + prefix_len is_whitespace bs) 0) t ∙ one-add (prefix_len is_whitespace bs) in
    let f : take (suc (prefix_len is_whitespace bs)) (b ∷ bs) ≡ [] = subst (λ x. take x (b ∷ bs) ≡ []) k e in
    cc

pub found_whitespace : (flags : Settings) (text : List ℕ) (n : ℕ) → IsUtf8 text → 0 < length text → is_whitespace (get_or text 0 0) ≡ true → n ≡ prefix_len is_whitespace text → LexemeFound flags text (record { kind = Whitespace; len = n })
found_whitespace flags text n u l t e =
    let k = ascii_prefix is_whitespace whitespace_ascii text u in
    record {
      word = take (prefix_len is_whitespace text) text;
      rest = chars (drop (prefix_len is_whitespace text) text);
      is_at = record { cut = k.cut; word = (whitespace_first text l t, k.passes); ends = k.stops };
      len = e ∙ sym k.size_is;
    }

alphanumeric_ascii : (c : ℕ) → is_ascii_alphanumeric c ≡ true → c < 128
alphanumeric_ascii c h = grind (arith, nat_tests)

each_ascii : (s : List ℕ) → list_all (λ d. nat_lt d 128) s ≡ true → Each (λ d. nat_lt d 128) s
each_ascii [] h = tt
each_ascii (d ∷ s) h = let p = and_parts (nat_lt d 128) (list_all (λ d. nat_lt d 128) s) h in (p.0, each_ascii s p.1)

pub idchar_ascii : (c : ℕ) → is_idchar c ≡ true → c < 128
idchar_ascii c h =
    elim (or_cases (is_ascii_alphanumeric c) (char_set_contains (codes "!#$%&'*+-./:<=>?@\\^_`|~") c) h) [
      | inl t ↦ alphanumeric_ascii c t
      | inr t ↦ set_ascii (codes "!#$%&'*+-./:<=>?@\\^_`|~") c (each_ascii (codes "!#$%&'*+-./:<=>?@\\^_`|~") refl) t
    ]

pub run_char_ascii : (c : ℕ) → is_run_char c ≡ true → c < 128
run_char_ascii c h = elim (or_cases (is_idchar c) (c == 34) h) [ inl t ↦ idchar_ascii c t | inr t ↦ let k = eqb-true c 34 t in omega arith ]

pub word_ascii : (c : ℕ) → begins_word c ≡ true → c < 128
word_ascii c h =
    elim (or_cases (is_whitespace c || is_run_char c) (is_punctuation c || ((c == 40 || c == 41) || c == 59)) h) [
      | inl t ↦ elim (or_cases (is_whitespace c) (is_run_char c) t) [ inl k ↦ whitespace_ascii c k | inr k ↦ run_char_ascii c k ]
      | inr t ↦ elim (or_cases (is_punctuation c) ((c == 40 || c == 41) || c == 59) t) [
        | inl k ↦ punctuation_ascii c k
        | inr k ↦ elim (or_cases (c == 40 || c == 41) (c == 59) k) [
          | inl g ↦ elim (or_cases (c == 40) (c == 41) g) [ inl j ↦ let i = eqb-true c 40 j in omega arith | inr j ↦ let i = eqb-true c 41 j in omega arith ]
          | inr g ↦ let i = eqb-true c 59 g in omega arith
        ]
      ]
    ]

pub found_unexpected : (flags : Settings) (text rest : List ℕ) (c : ℕ) → IsUtf8 text → text ≡ encode c ++ rest → begins_word (get_or text 0 0) ≡ false → Refused flags text (record { offset = 0; error = Unexpected c })
found_unexpected flags text rest c u e f =
    let k : chars text ≡ c ∷ chars rest = chars_past_char text rest c u e in
    record {
      at = chars text;
      fault = subst (λ x. Fault flags x (Unexpected c) x) (sym k) (unexpected (λ t. both_ways (begins_word c) (sym (ap begins_word (byte_from_char text rest c e (word_ascii c t))) ∙ f) t));
      place = omega (arith, ap length (encodes-chars text u));
    }

fails_at : (p : ℕ → Bool) (c : ℕ) → (p c ≡ true → ⊥) → p c ≡ false
fails_at p c h = elim (cases_Bool (p c)) [ inl t ↦ absurd (h t) | inr f ↦ f ]

-- The index of the first byte that passes a test is the number of bytes before it that do not.
pub first_place : (p : ℕ → Bool) (bs : List ℕ) (r : Option ℕ) → IsFirstByte p bs r → unwrap_or r (length bs) ≡ prefix_len (λ c. not (p c)) bs
first_place p bs None h = sym (prefix_len_is (λ c. not (p c)) bs (length bs) 0 (omega arith) (λ k l. ap not (fails_at p (get_or bs k 0) (h k (omega arith) l))) (λ l. absurd (omega arith)))
first_place p bs (Some n) h =
    let b = h.0 in
    sym (prefix_len_is (λ c. not (p c)) bs n 0 (let a = b.high in omega arith) (λ k l. ap not (fails_at p (get_or bs k 0) (b.before k (omega arith) l))) (λ _. ap not h.1))

line_end_bytes : (c : ℕ) → is_byte2 10 13 c ≡ is_line_end c
line_end_bytes c = grind (arith, nat_tests)

-- the two tests of a line end
pub line_ends_same : (bs : List ℕ) → prefix_len (λ c. not (is_byte2 10 13 c)) bs ≡ prefix_len (λ c. not (is_line_end c)) bs
line_ends_same [] = refl
line_ends_same (b ∷ bs) = ap (λ x. cond (not x) (1 + prefix_len (λ c. not (is_byte2 10 13 c)) bs) 0) (line_end_bytes b) ∙ ap (λ x. cond (not (is_line_end b)) (1 + x) 0) (line_ends_same bs)
