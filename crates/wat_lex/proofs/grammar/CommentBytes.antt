-- A block comment of bytes and of characters.
use Rattle.std.proofs.Common.{◌≡◌, ◌≢◌, ℕ, zero, suc, ◌<◌, ◌≤◌, List, [], ◌∷◌, ◌++◌, refl, length, get_or, arith, subst, sym, ap, ◌∙◌, inl, inr}
use Rattle.std.proofs.lemmas.Bool.{cases_eq}
use Rattle.std.proofs.lemmas.List.{append-nil}
use Rattle.std.proofs.lemmas.Str.{inside_one, length-encode, len_utf8_bounds}
use lib.Utf8.{encode, encodes}
use Rattle.wat_lex.specs.grammar.Comments.{Closes, close, plain, lone_semicolon, lone_paren, nested}
use Rattle.wat_lex.proofs.grammar.Comments.{at_nil, at_close, at_plain, at_lone_semicolon, at_lone_paren, at_nested, at_last}

-- bytes that are none of the two
abbrev Inert : List ℕ → Type 0
Inert bs = (k : ℕ) → k < length bs → (get_or bs k 0 ≢ 59) × (get_or bs k 0 ≢ 40)

Inert_tail : (b : ℕ) (bs : List ℕ) → Inert (b ∷ bs) → Inert bs
Inert_tail b bs h k l = h (suc k) (omega arith)

skip : (bs t r : List ℕ) → Inert bs → Closes t r → Closes (bs ++ t) r
skip [] t r i h = h
skip (b ∷ bs) t r i h = let p = i 0 (omega arith) in plain p.0 p.1 (skip bs t r (Inert_tail b bs i) h)

unskip : (bs t r : List ℕ) → Inert bs → Closes (bs ++ t) r → Closes t r
unskip [] t r i h = h
unskip (b ∷ bs) t r i h = let p = i 0 (omega arith) in unskip bs t r (Inert_tail b bs i) (at_plain b (bs ++ t) r h p.0 p.1)

-- a byte below 128 in a character is that character
pub ascii_in : (c k x : ℕ) → k < length (encode c) → get_or (encode c) k 0 ≡ x → x < 128 → c ≡ x
ascii_in c k x l e s = inside_one c [] (encode c) k (sym (append-nil (encode c))) l (omega arith) ∙ e

Inert_char : (c : ℕ) → c ≢ 59 → c ≢ 40 → Inert (encode c)
Inert_char c a b k l = (λ e. a (ascii_in c k 59 l e (omega arith)), λ e. b (ascii_in c k 40 l e (omega arith)))

-- the first byte of a character
record First (c : ℕ) : Type 0 where
  byte : ℕ
  others : List ℕ
  is : encode c ≡ byte ∷ others
  ascii : (x : ℕ) → x < 128 → byte ≡ x → c ≡ x

first_of_list : (c : ℕ) (bs : List ℕ) → encode c ≡ bs → First c
first_of_list c [] e = absurd (let l = ap length e in let m = length-encode c in let n = len_utf8_bounds c in omega arith)
first_of_list c (b ∷ bs) e = record { byte = b; others = bs; is = e; ascii = λ x l h. ascii_in c 0 x (omega (arith, ap length e)) (ap (λ y. get_or y 0 0) e ∙ h) l }

first_of_char : (c : ℕ) → First c
first_of_char c = first_of_list c (encode c) refl

encodes_open : (cs : List ℕ) → encodes (40 ∷ cs) ≡ 40 ∷ encodes cs
unfolding encode
encodes_open cs = refl

encodes_semicolon : (cs : List ℕ) → encodes (59 ∷ cs) ≡ 59 ∷ encodes cs
unfolding encode
encodes_semicolon cs = refl

encodes_close : (cs : List ℕ) → encodes (41 ∷ cs) ≡ 41 ∷ encodes cs
unfolding encode
encodes_close cs = refl

-- what closes over characters closes over bytes
pub to_bytes : (cs ds : List ℕ) → Closes cs ds → Closes (encodes cs) (encodes ds)
to_bytes cs ds (close {r = r}) = rw (encodes_semicolon (41 ∷ r), encodes_close r) close
to_bytes cs ds (plain {c = c} {t = t} a b h) = skip (encode c) (encodes t) (encodes ds) (Inert_char c a b) (to_bytes t ds h)
to_bytes cs ds (lone_semicolon {d = d} {t = t} a h) =
    let f = first_of_char d in
    let g : Closes (f.byte ∷ (f.others ++ encodes t)) (encodes ds) = subst (λ x. Closes (x ++ encodes t) (encodes ds)) f.is (to_bytes (d ∷ t) ds h) in
    rw (encodes_semicolon (d ∷ t)) (subst (λ x. Closes (59 ∷ (x ++ encodes t)) (encodes ds)) (sym f.is) (lone_semicolon (λ e. a (f.ascii 41 (omega arith) e)) g))
to_bytes cs ds (lone_paren {d = d} {t = t} a h) =
    let f = first_of_char d in
    let g : Closes (f.byte ∷ (f.others ++ encodes t)) (encodes ds) = subst (λ x. Closes (x ++ encodes t) (encodes ds)) f.is (to_bytes (d ∷ t) ds h) in
    rw (encodes_open (d ∷ t)) (subst (λ x. Closes (40 ∷ (x ++ encodes t)) (encodes ds)) (sym f.is) (lone_paren (λ e. a (f.ascii 59 (omega arith) e)) g))
to_bytes cs ds (nested {t = t} {m = m} g h) = rw (encodes_open (59 ∷ t), encodes_semicolon t) (nested (to_bytes t m g) (to_bytes m ds h))

-- the rest of a text, of which the characters are closed as well
pub record Rest (cs r : List ℕ) : Type 0 where
  pub chars : List ℕ
  pub is : r ≡ encodes chars
  pub shorter : length chars < length cs
  pub closes : Closes cs chars

Rest_step : (c : ℕ) (cs r : List ℕ) → ((ds : List ℕ) → Closes cs ds → Closes (c ∷ cs) ds) → Rest cs r → Rest (c ∷ cs) r
Rest_step c cs r f p = record { chars = p.chars; is = p.is; shorter = let h = p.shorter in omega arith; closes = f p.chars p.closes }

abbrev Below : ℕ → Type 0
Below n = (cs r : List ℕ) → length cs ≤ n → Closes (encodes cs) r → Rest cs r

semicolon_step : (n : ℕ) → Below n → (cs r : List ℕ) → length cs ≤ n → Closes (59 ∷ encodes cs) r → Rest (59 ∷ cs) r
semicolon_step n ih [] r l h = at_last 59 r h
semicolon_step n ih (d ∷ cs) r l h =
    elim (cases_eq d 41) [
      | inl e ↦
          let g : Closes (59 ∷ 41 ∷ encodes cs) r = rw encodes_close at (subst (λ x. Closes (59 ∷ encodes (x ∷ cs)) r) e h) in
          subst (λ x. Rest (59 ∷ x ∷ cs) r) (sym e) (record { chars = cs; is = sym (at_close (encodes cs) r g); shorter = omega arith; closes = close })
      | inr a ↦
          let f = first_of_char d in
          let g : Closes (59 ∷ f.byte ∷ (f.others ++ encodes cs)) r = subst (λ x. Closes (59 ∷ (x ++ encodes cs)) r) f.is h in
          let k : Closes (f.byte ∷ (f.others ++ encodes cs)) r = at_lone_semicolon f.byte (f.others ++ encodes cs) r g (λ e. a (f.ascii 41 (omega arith) e)) in
          Rest_step 59 (d ∷ cs) r (λ ds. lone_semicolon a) (ih (d ∷ cs) r l (subst (λ x. Closes (x ++ encodes cs) r) (sym f.is) k))
    ]

paren_step : (n : ℕ) → Below n → (cs r : List ℕ) → length cs ≤ n → Closes (40 ∷ encodes cs) r → Rest (40 ∷ cs) r
paren_step n ih [] r l h = at_last 40 r h
paren_step n ih (d ∷ cs) r l h =
    elim (cases_eq d 59) [
      | inl e ↦
          let g : Closes (40 ∷ 59 ∷ encodes cs) r = rw encodes_semicolon at (subst (λ x. Closes (40 ∷ encodes (x ∷ cs)) r) e h) in
          let k = at_nested (encodes cs) r g in
          let inner = ih cs k.0 (omega arith) k.1 in
          let outer = ih inner.chars r (let s = inner.shorter in omega arith) (subst (λ x. Closes x r) inner.is k.2) in
          subst (λ x. Rest (40 ∷ x ∷ cs) r) (sym e) (record {
            chars = outer.chars;
            is = outer.is;
            shorter = let s = inner.shorter in let t = outer.shorter in omega arith;
            closes = nested inner.closes outer.closes;
          })
      | inr a ↦
          let f = first_of_char d in
          let g : Closes (40 ∷ f.byte ∷ (f.others ++ encodes cs)) r = subst (λ x. Closes (40 ∷ (x ++ encodes cs)) r) f.is h in
          let k : Closes (f.byte ∷ (f.others ++ encodes cs)) r = at_lone_paren f.byte (f.others ++ encodes cs) r g (λ e. a (f.ascii 59 (omega arith) e)) in
          Rest_step 40 (d ∷ cs) r (λ ds. lone_paren a) (ih (d ∷ cs) r l (subst (λ x. Closes (x ++ encodes cs) r) (sym f.is) k))
    ]

-- what closes over bytes closes over characters; n bounds the number of characters
pub from_bytes : (n : ℕ) (cs r : List ℕ) → length cs ≤ n → Closes (encodes cs) r → Rest cs r
from_bytes n [] r l h = at_nil r h
from_bytes zero (c ∷ cs) r l h = absurd (omega arith)
from_bytes (suc n) (c ∷ cs) r l h =
    elim (cases_eq c 59) [
      | inl e ↦ subst (λ x. Rest (x ∷ cs) r) (sym e) (semicolon_step n (from_bytes n) cs r (omega arith) (rw encodes_semicolon at (subst (λ x. Closes (encodes (x ∷ cs)) r) e h)))
      | inr a ↦ elim (cases_eq c 40) [
        | inl e ↦ subst (λ x. Rest (x ∷ cs) r) (sym e) (paren_step n (from_bytes n) cs r (omega arith) (rw encodes_open at (subst (λ x. Closes (encodes (x ∷ cs)) r) e h)))
        | inr b ↦ Rest_step c cs r (λ ds. plain a b) (from_bytes n cs r (omega arith) (unskip (encode c) (encodes cs) r (Inert_char c a b) h))
      ]
    ]
