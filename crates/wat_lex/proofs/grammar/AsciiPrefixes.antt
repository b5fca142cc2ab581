-- The start of a text: bytes and characters.
use Rattle.std.proofs.Common.{◌≡◌, ◌<◌, ◌+◌, ℕ, suc, List, [], ◌∷◌, ◌++◌, length, take, drop, get_or, refl, arith, ap, sym, ◌∙◌, subst, length-append, Bool, true, false, cond, one-add, inl, inr}
use Rattle.std.proofs.lemmas.List.{drop_more}
use Rattle.std.proofs.lemmas.Bool.{cases_Bool, both_ways}
use Rattle.std.proofs.lemmas.Str.{chars_past_char, chars-nil, chars-encodes, length-encode, IsUtf8-past_char, encode_ascii, len_utf8_ascii, byte_from_char}
use Rattle.std.specs.List.{prefix_len}
use Rattle.std.specs.Str.{chars, IsUtf8}
use lib.Utf8.{encode, encodes, scalars}
use Rattle.wat_lex.specs.grammar.Classes.{size, Each, Begins}
use Rattle.wat_lex.proofs.inside.Confusing.{size-append, size_one}

-- a text that begins with an ASCII character
pub record Led (text : List ℕ) (c : ℕ) : Type 0 where
  pub chars : chars text ≡ c ∷ chars (drop 1 text)
  pub utf8 : IsUtf8 (drop 1 text)
  pub bytes : text ≡ c ∷ drop 1 text

pub led : (text : List ℕ) (c : ℕ) → IsUtf8 text → 0 < length text → get_or text 0 0 ≡ c → c < 128 → Led text c
led text c u l e s =
    let cut : text ≡ get_or text 0 0 ∷ drop 1 text = drop_more text 0 0 l in
    let bytes : text ≡ c ∷ drop 1 text = cut ∙ ap (λ x. x ∷ drop 1 text) e in
    let spelt : text ≡ encode c ++ drop 1 text = bytes ∙ ap (λ x. x ++ drop 1 text) (sym (encode_ascii c s)) in
    record { chars = chars_past_char text (drop 1 text) c u spelt; utf8 = IsUtf8-past_char text (drop 1 text) c u spelt; bytes = bytes }

-- where the first byte fails a test of ASCII characters, the first character does
pub not_begun : (p : ℕ → Bool) (text : List ℕ) → IsUtf8 text → ((c : ℕ) → p c ≡ true → c < 128) → (0 < length text → p (get_or text 0 0) ≡ false) → Begins p (chars text) → ⊥
not_begun p text u ascii fails h = by u.0 u.1.0 (sym u.1.1)
  where
    by : (cs : List ℕ) → scalars cs ≡ true → text ≡ encodes cs → ⊥
    by [] s e = subst (Begins p) (ap chars e ∙ chars-nil) h
    by (c ∷ cs) s e =
        let t : p c ≡ true = subst (Begins p) (ap chars e ∙ chars-encodes (c ∷ cs) s) h in
        let b : get_or text 0 0 ≡ c = byte_from_char text (encodes cs) c e (ascii c t) in
        let l : 0 < length text = omega (arith, ap length e, length-append (encode c) (encodes cs), length-encode c, len_utf8_ascii c (ascii c t)) in
        both_ways (p c) (sym (ap p b) ∙ fails l) t

-- the longest prefix whose bytes pass a test of ASCII characters
pub record AsciiPrefix (p : ℕ → Bool) (text : List ℕ) (n : ℕ) : Type 0 where
  pub cut : chars text ≡ take n text ++ chars (drop n text)
  pub passes : Each p (take n text)
  pub size_is : size (take n text) ≡ n
  pub utf8 : IsUtf8 (drop n text)
  pub stops : Begins p (chars (drop n text)) → ⊥

pub ascii_prefix : (p : ℕ → Bool) → ((c : ℕ) → p c ≡ true → c < 128) → (text : List ℕ) → IsUtf8 text → AsciiPrefix p text (prefix_len p text)
ascii_prefix p ascii [] u = record { cut = refl; passes = tt; size_is = refl; utf8 = u; stops = λ h. subst (Begins p) chars-nil h }
ascii_prefix p ascii (b ∷ bs) u =
    elim (cases_Bool (p b)) [
      | inl t ↦
          let l = led (b ∷ bs) b u (omega arith) refl (ascii b t) in
          let r = ascii_prefix p ascii bs l.utf8 in
          let n = prefix_len p bs in
          let made : AsciiPrefix p (b ∷ bs) (suc n) = record {
            cut = l.chars ∙ ap (λ x. b ∷ x) r.cut;
            passes = (t, r.passes);
            size_is = size-append (b ∷ []) (take n bs) ∙ ap (λ x. x + size (take n bs)) (size_one b ∙ len_utf8_ascii b (ascii b t)) ∙ ap (λ x. 1 + x) r.size_is ∙ one-add n;
            utf8 = r.utf8;
            stops = r.stops;
          } in
          subst (AsciiPrefix p (b ∷ bs)) (sym (ap (λ x. cond x (1 + n) 0) t ∙ one-add n)) made
      | inr f ↦
          let made : AsciiPrefix p (b ∷ bs) 0 = record { cut = refl; passes = tt; size_is = refl; utf8 = u; stops = not_begun p (b ∷ bs) u ascii (λ l. f) } in
          subst (AsciiPrefix p (b ∷ bs)) (sym (ap (λ x. cond x (1 + prefix_len p bs) 0) f)) made
    ]
