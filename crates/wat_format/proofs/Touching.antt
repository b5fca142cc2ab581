-- Tokens that may touch, by the first character of the second one.
use Rattle.std.proofs.Common.{◌≡◌, ◌≢◌, ℕ, true, false, eqb, ◌||◌, List, [], ◌∷◌, refl, sym, ap, ◌∙◌, subst, inl, inr, arith}
use Rattle.std.proofs.lemmas.Bool.{false≢true, eqb-true}
use Rattle.std.proofs.lemmas.Bool.Decides.{nat_tests}
use Rattle.std.specs.Prelude.{IsTrue, ◌⊎◌}
use Rattle.wat_lex.specs.grammar.Classes.{is_line_end, is_run_char, is_whitespace, is_punctuation, semicolon}
use Rattle.wat_lex.specs.grammar.Words.{MayFollow}
use Rattle.wat_lex.specs.declared.lexer.kinds.TokenKind.{TokenKind}
use Rattle.wat_lex.specs.declared.lexer.kinds.TokenKind.TheVariants.{LineComment, BlockComment, Whitespace, LParen, RParen, String, Id, Keyword, Annotation, Reserved, Integer, Float}
use Rattle.wat_format.specs.Layout.{is_white}
use Rattle.wat_format.specs.Spaces.{IsRun, BeginsWithSemicolon, Joins}
use Rattle.wat_format.specs.Spaces.Joins.{one_run, block_comment, line_comment}
use Rattle.wat_format.proofs.FirstCharacters.{IsFirst, white_cases}
use Rattle.wat_format.proofs.Follows.{GoesOnWithNone, ends_words}

at_semicolon : (c : ℕ) → IsTrue (eqb c semicolon) → c ≡ semicolon
at_semicolon c h = eqb-true c semicolon h

other_char : (c d : ℕ) {A : Type 0} → c ≡ d → eqb d semicolon ≡ false → IsTrue (eqb c semicolon) → A
other_char c d e f h = absurd (false≢true (sym f ∙ subst (λ x. eqb x semicolon ≡ true) e h))

run_char : (c : ℕ) {A : Type 0} → IsTrue (is_run_char c) → IsTrue (eqb c semicolon) → A
run_char c h k = absurd (false≢true (subst (λ x. is_run_char x ≡ true) (at_semicolon c k) h))

other_run : (c d : ℕ) {A : Type 0} → c ≡ d → is_run_char d ≡ false → IsTrue (is_run_char c) → A
other_run c d e f h = absurd (false≢true (sym f ∙ subst (λ x. is_run_char x ≡ true) e h))

first_semicolon : (k : TokenKind) (w : List ℕ) (c : ℕ) → IsFirst k w c → IsTrue (eqb c semicolon) → BeginsWithSemicolon k w
first_semicolon LineComment w c h b = tt
first_semicolon BlockComment w c h b = other_char c 40 h refl b
first_semicolon Whitespace w c h b = absurd h
first_semicolon LParen w c h b = other_char c 40 h refl b
first_semicolon RParen w c h b = other_char c 41 h.0 refl b
first_semicolon Reserved w c (inl h) b = h.0 ∙ ap (λ x. x ∷ []) (at_semicolon c b)
first_semicolon Reserved w c (inr h) b = run_char c h b
first_semicolon String w c h b = run_char c h b
first_semicolon Id w c h b = run_char c h b
first_semicolon Keyword w c h b = run_char c h b
first_semicolon Annotation w c h b = run_char c h b
first_semicolon (Integer i) w c h b = run_char c h b
first_semicolon (Float f) w c h b = run_char c h b

mark_cases : (c : ℕ) → IsTrue (is_punctuation c || eqb c semicolon) → (c ≡ 44) ⊎ ((c ≡ 91) ⊎ ((c ≡ 93) ⊎ ((c ≡ 123) ⊎ ((c ≡ 125) ⊎ (c ≡ 59)))))
mark_cases c h = grind (arith, nat_tests)

-- a reserved character begins no run
mark_no_run : (c : ℕ) → IsTrue (is_punctuation c || eqb c semicolon) → IsTrue (is_run_char c) → ⊥
mark_no_run c h k = elim (mark_cases c h) [
  | inl e ↦ false≢true (subst (λ x. is_run_char x ≡ true) e k)
  | inr f ↦ elim f [
    | inl e ↦ false≢true (subst (λ x. is_run_char x ≡ true) e k)
    | inr g ↦ elim g [
      | inl e ↦ false≢true (subst (λ x. is_run_char x ≡ true) e k)
      | inr i ↦ elim i [
        | inl e ↦ false≢true (subst (λ x. is_run_char x ≡ true) e k)
        | inr j ↦ elim j [ inl e ↦ false≢true (subst (λ x. is_run_char x ≡ true) e k) | inr e ↦ false≢true (subst (λ x. is_run_char x ≡ true) e k) ]
      ]
    ]
  ]
]

abbrev head_of : ℕ → List ℕ → ℕ
head_of d [] = d
head_of d (x ∷ xs) = x

first_run : (k : TokenKind) (w others : List ℕ) (c : ℕ) → w ≡ c ∷ others → IsFirst k w c → IsTrue (is_run_char c) → IsRun k w
first_run LineComment w others c e h b = other_run c 59 h refl b
first_run BlockComment w others c e h b = other_run c 40 h refl b
first_run Whitespace w others c e h b = absurd h
first_run LParen w others c e h b = other_run c 40 h refl b
first_run RParen w others c e h b = other_run c 41 h.0 refl b
first_run Reserved w others c e h b = λ p.
    let same : p.0 ≡ c = ap (head_of c) (sym p.1 ∙ e) in
    mark_no_run p.0 p.2 (subst (λ x. is_run_char x ≡ true) (sym same) b)
first_run String w others c e h b = tt
first_run Id w others c e h b = tt
first_run Keyword w others c e h b = tt
first_run Annotation w others c e h b = tt
first_run (Integer i) w others c e h b = tt
first_run (Float f) w others c e h b = tt

-- If tokens do not join, the second one may follow the first one directly.
pub touch_in : (j : TokenKind) (v : List ℕ) (k : TokenKind) (w others r : List ℕ) (c : ℕ) → is_white j ≡ false → j ≢ LineComment → w ≡ c ∷ others → IsFirst k w c → (Joins j v k w → ⊥) → MayFollow j v (c ∷ r)
touch_in LineComment v k w others r c e n f h apart = absurd (n refl)
touch_in BlockComment v k w others r c e n f h apart = tt
touch_in Whitespace v k w others r c e n f h apart = absurd (false≢true (sym e))
touch_in LParen v k w others r c e n f h apart = λ b. apart (block_comment refl (first_semicolon k w c h b))
touch_in RParen v k w others r c e n f h apart = tt
touch_in Reserved v k w others r c e n f h apart = ((λ i b. apart (line_comment refl i (first_semicolon k w c h b))), (λ p b. apart (one_run p (first_run k w others c f h b))))
touch_in String v k w others r c e n f h apart = λ b. apart (one_run tt (first_run k w others c f h b))
touch_in Id v k w others r c e n f h apart = λ b. apart (one_run tt (first_run k w others c f h b))
touch_in Keyword v k w others r c e n f h apart = λ b. apart (one_run tt (first_run k w others c f h b))
touch_in Annotation v k w others r c e n f h apart = λ b. apart (one_run tt (first_run k w others c f h b))
touch_in (Integer i) v k w others r c e n f h apart = λ b. apart (one_run tt (first_run k w others c f h b))
touch_in (Float x) v k w others r c e n f h apart = λ b. apart (one_run tt (first_run k w others c f h b))

run_begins : (k : TokenKind) (w : List ℕ) (c : ℕ) → IsFirst k w c → IsRun k w → IsTrue (is_run_char c)
run_begins LineComment w c h r = absurd r
run_begins BlockComment w c h r = absurd r
run_begins Whitespace w c h r = absurd r
run_begins LParen w c h r = absurd r
run_begins RParen w c h r = absurd r
run_begins Reserved w c (inl h) r = absurd (r (c, h.0, h.1))
run_begins Reserved w c (inr h) r = h
run_begins String w c h r = h
run_begins Id w c h r = h
run_begins Keyword w c h r = h
run_begins Annotation w c h r = h
run_begins (Integer i) w c h r = h
run_begins (Float f) w c h r = h

run_goes_on : (j : TokenKind) (v r : List ℕ) (c : ℕ) → IsRun j v → MayFollow j v (c ∷ r) → IsTrue (is_run_char c) → ⊥
run_goes_on LineComment v r c i m b = i
run_goes_on BlockComment v r c i m b = i
run_goes_on Whitespace v r c i m b = i
run_goes_on LParen v r c i m b = i
run_goes_on RParen v r c i m b = i
run_goes_on Reserved v r c i m b = m.1 i b
run_goes_on String v r c i m b = m b
run_goes_on Id v r c i m b = m b
run_goes_on Keyword v r c i m b = m b
run_goes_on Annotation v r c i m b = m b
run_goes_on (Integer n) v r c i m b = m b
run_goes_on (Float f) v r c i m b = m b

is_semicolon : (c : ℕ) → c ≡ semicolon → IsTrue (eqb c semicolon)
is_semicolon c e = subst (λ x. eqb x semicolon ≡ true) (sym e) refl

semicolon_begins : (k : TokenKind) (w others : List ℕ) (c : ℕ) → w ≡ c ∷ others → IsFirst k w c → BeginsWithSemicolon k w → IsTrue (eqb c semicolon)
semicolon_begins LineComment w others c e h s = is_semicolon c h
semicolon_begins Reserved w others c e h s = is_semicolon c (ap (head_of c) (sym e ∙ s))
semicolon_begins k w others c e h s = absurd s

-- If the second one follows the first one directly, they do not join.
pub touch_out : (j : TokenKind) (v : List ℕ) (k : TokenKind) (w others r : List ℕ) (c : ℕ) → w ≡ c ∷ others → IsFirst k w c → MayFollow j v (c ∷ r) → Joins j v k w → ⊥
touch_out j v k w others r c e h m (one_run p q) = run_goes_on j v r c p m (run_begins k w c h q)
touch_out j v k w others r c e h m (block_comment i s) = (subst (λ x. MayFollow x v (c ∷ r)) i m) (semicolon_begins k w others c e h s)
touch_out j v k w others r c e h m (line_comment i x s) = (subst (λ x. MayFollow x v (c ∷ r)) i m).0 x (semicolon_begins k w others c e h s)

line_or_not : (k : TokenKind) → (k ≡ LineComment) ⊎ (k ≢ LineComment)
line_or_not LineComment = inl refl
line_or_not BlockComment = inr (λ e. cc)
line_or_not Whitespace = inr (λ e. cc)
line_or_not LParen = inr (λ e. cc)
line_or_not RParen = inr (λ e. cc)
line_or_not Reserved = inr (λ e. cc)
line_or_not String = inr (λ e. cc)
line_or_not Id = inr (λ e. cc)
line_or_not Keyword = inr (λ e. cc)
line_or_not Annotation = inr (λ e. cc)
line_or_not (Integer i) = inr (λ e. cc)
line_or_not (Float f) = inr (λ e. cc)

white_goes_on : (c : ℕ) → IsTrue (is_whitespace c) → GoesOnWithNone c
white_goes_on c h = elim (white_cases c h) [
  | inl e ↦ subst GoesOnWithNone (sym e) (record { no_run = refl; no_semicolon = refl })
  | inr f ↦ elim f [
    | inl e ↦ subst GoesOnWithNone (sym e) (record { no_run = refl; no_semicolon = refl })
    | inr g ↦ elim g [ inl e ↦ subst GoesOnWithNone (sym e) (record { no_run = refl; no_semicolon = refl }) | inr e ↦ subst GoesOnWithNone (sym e) (record { no_run = refl; no_semicolon = refl }) ]
  ]
]

-- Whitespace may follow each token. After a line comment, it must begin with a line end.
pub white_follows : (j : TokenKind) (v r : List ℕ) (c : ℕ) → is_white j ≡ false → IsTrue (is_whitespace c) → (j ≡ LineComment → IsTrue (is_line_end c)) → MayFollow j v (c ∷ r)
white_follows j v r c e h f = elim (line_or_not j) [
  | inl k ↦ subst (λ x. MayFollow x v (c ∷ r)) (sym k) (inr (f k))
  | inr n ↦ ends_words j v r c e n (white_goes_on c h)
]

-- The end of the text may follow each token.
pub end_follows : (j : TokenKind) (v : List ℕ) → is_white j ≡ false → MayFollow j v []
end_follows LineComment v e = inl refl
end_follows BlockComment v e = tt
end_follows Whitespace v e = absurd (false≢true (sym e))
end_follows LParen v e = λ h. h
end_follows RParen v e = tt
end_follows Reserved v e = ((λ i h. h), (λ p h. h))
end_follows String v e = λ h. h
end_follows Id v e = λ h. h
end_follows Keyword v e = λ h. h
end_follows Annotation v e = λ h. h
end_follows (Integer i) v e = λ h. h
end_follows (Float f) v e = λ h. h
