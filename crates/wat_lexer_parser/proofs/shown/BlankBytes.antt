-- Bytes of which all except line ends are replaced by spaces.
use Rattle.std.proofs.Common.{◌≡◌, ℕ, zero, suc, Bool, true, false, List, [], ◌∷◌, ◌++◌, refl, sym, ap, ◌∙◌, subst, inl, inr, Some}
use Rattle.std.specs.Prelude.{◌==◌, if◌then◌else◌, map, flat_map, slice_get}
use Rattle.std.specs.Char.{char_set_contains}
use Rattle.std.proofs.lemmas.Bool.{cases_Bool, or_cases, both_ways, eqb-true, false≢true}
use Rattle.std.proofs.lemmas.List.{map-append}
use Rattle.wat_lex.specs.grammar.Classes.{Each, is_whitespace, is_line_end}
use Rattle.wat_lex.specs.tokens.Blanking.{space}
use Rattle.wat_lex.specs.tokens.ReadableTokens.{token_text}
use Rattle.wat_lex.specs.declared.lexer.kinds.Token.{Token}
use Rattle.wat_lex.specs.tokens.Blanks.{is_comment}
use Rattle.wat_lexer_parser.specs.laws.BlankTexts.{blank_byte, blank_text, blank_texts, SameLineEnds}

kept : (b : ℕ) → is_line_end b ≡ true → blank_byte b ≡ b
kept b h = ap (λ k. if k then b else space) h

gone : (b : ℕ) → is_line_end b ≡ false → blank_byte b ≡ space
gone b h = ap (λ k. if k then b else space) h

line_end_white : (c : ℕ) → is_line_end c ≡ true → is_whitespace c ≡ true
line_end_white c h =
    elim (or_cases (10 == c) (char_set_contains (13 ∷ []) c) h) [
      | inl t ↦ subst (λ x. is_whitespace x ≡ true) (eqb-true 10 c t) refl
      | inr k ↦ elim (or_cases (13 == c) false k) [
        | inl t ↦ subst (λ x. is_whitespace x ≡ true) (eqb-true 13 c t) refl
        | inr f ↦ absurd (false≢true f)
      ]
    ]

byte_white : (b : ℕ) → is_whitespace (blank_byte b) ≡ true
byte_white b = elim (cases_Bool (is_line_end b)) [
  | inl t ↦ ap is_whitespace (kept b t) ∙ line_end_white b t
  | inr f ↦ ap is_whitespace (gone b f)
]

pub bytes_white : (bs : List ℕ) → Each is_whitespace (map blank_byte bs)
bytes_white [] = tt
bytes_white (b ∷ bs) = (byte_white b, bytes_white bs)

-- The replacement is idempotent.
byte_twice : (b : ℕ) → blank_byte (blank_byte b) ≡ blank_byte b
byte_twice b = elim (cases_Bool (is_line_end b)) [
  | inl t ↦ ap blank_byte (kept b t)
  | inr f ↦ ap blank_byte (gone b f) ∙ sym (gone b f)
]

bytes_twice : (bs : List ℕ) → map blank_byte (map blank_byte bs) ≡ map blank_byte bs
bytes_twice [] = refl
bytes_twice (b ∷ bs) = ap (λ c. c ∷ map blank_byte (map blank_byte bs)) (byte_twice b) ∙ ap (λ r. blank_byte b ∷ r) (bytes_twice bs)

text_twice : (bs : List ℕ) (k : Bool) → map blank_byte (if k then map blank_byte bs else bs) ≡ map blank_byte bs
text_twice bs true = bytes_twice bs
text_twice bs false = refl

pub texts_twice : (text : List ℕ) (ts : List Token) → map blank_byte (blank_texts text ts) ≡ map blank_byte (flat_map (token_text text) ts)
texts_twice text [] = refl
texts_twice text (t ∷ ts) =
    map-append blank_byte (blank_text text t) (blank_texts text ts)
    ∙ ap (λ x. x ++ map blank_byte (blank_texts text ts)) (text_twice (token_text text t) (is_comment t.kind))
    ∙ ap (λ x. map blank_byte (token_text text t) ++ x) (texts_twice text ts)
    ∙ sym (map-append blank_byte (token_text text t) (flat_map (token_text text) ts))

-- The line ends stay the same.
stays : (bs : List ℕ) (i c : ℕ) → is_line_end c ≡ true → slice_get bs i ≡ Some c → slice_get (map blank_byte bs) i ≡ Some c
stays [] i c h e = cc
stays (b ∷ bs) zero c h e = let k : b ≡ c = cc in ap (λ x. Some (blank_byte x)) k ∙ ap Some (kept c h)
stays (b ∷ bs) (suc i) c h e = stays bs i c h e

stood : (bs : List ℕ) (i c : ℕ) → is_line_end c ≡ true → slice_get (map blank_byte bs) i ≡ Some c → slice_get bs i ≡ Some c
stood [] i c h e = cc
stood (b ∷ bs) zero c h e =
    let k : blank_byte b ≡ c = cc in
    elim (cases_Bool (is_line_end b)) [
      | inl t ↦ ap Some (sym (kept b t) ∙ k)
      | inr f ↦ let n : is_line_end c ≡ false = ap is_line_end (sym k ∙ gone b f) in absurd (both_ways (is_line_end c) n h)
    ]
stood (b ∷ bs) (suc i) c h e = stood bs i c h e

pub same_line_ends : (x y : List ℕ) → map blank_byte y ≡ map blank_byte x → SameLineEnds x y
same_line_ends x y e i c h = (
  λ k. stood y i c h (ap (λ z. slice_get z i) e ∙ stays x i c h k),
  λ k. stood x i c h (ap (λ z. slice_get z i) (sym e) ∙ stays y i c h k),
)
