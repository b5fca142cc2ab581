-- The first characters of lexemes.
use Rattle.std.proofs.Common.{◌≡◌, ◌≢◌, ℕ, Bool, true, false, ◌||◌, eqb, List, [], ◌∷◌, refl, sym, subst, inl, inr, arith}
use Rattle.std.proofs.lemmas.Bool.{false≢true}
use Rattle.std.proofs.lemmas.Bool.Decides.{nat_tests}
use Rattle.std.specs.Prelude.{IsTrue, ◌⊎◌}
use Rattle.wat_lex.specs.grammar.Classes.{is_whitespace, is_run_char, is_idchar, is_punctuation, quote, semicolon, open_paren, close_paren}
use Rattle.wat_lex.specs.grammar.Comments.{BlockComment as Commented, LineComment as CommentedLine}
use Rattle.wat_lex.specs.grammar.Runs.{Piece, Run}
use Rattle.wat_lex.specs.grammar.Words.{Word}
use Rattle.wat_lex.specs.declared.lexer.settings.Settings.{Settings}
use Rattle.wat_lex.specs.declared.lexer.kinds.TokenKind.{TokenKind}
use Rattle.wat_lex.specs.declared.lexer.kinds.TokenKind.TheVariants.{LineComment, BlockComment, Whitespace, LParen, RParen, String, Id, Keyword, Annotation, Reserved, Integer, Float}
use Rattle.wat_format.specs.Layout.{is_white}

-- Whitespace is one of four characters.
pub white_cases : (c : ℕ) → IsTrue (is_whitespace c) → (c ≡ 32) ⊎ ((c ≡ 10) ⊎ ((c ≡ 13) ⊎ (c ≡ 9)))
white_cases c h = grind (arith, nat_tests)

pub run_is_no_white : (c : ℕ) → IsTrue (is_run_char c) → IsTrue (is_whitespace c) → ⊥
run_is_no_white c h k = elim (white_cases c k) [
  | inl e ↦ false≢true (subst (λ x. is_run_char x ≡ true) e h)
  | inr f ↦ elim f [
    | inl e ↦ false≢true (subst (λ x. is_run_char x ≡ true) e h)
    | inr g ↦ elim g [
      | inl e ↦ false≢true (subst (λ x. is_run_char x ≡ true) e h)
      | inr e ↦ false≢true (subst (λ x. is_run_char x ≡ true) e h)
    ]
  ]
]

pub punctuation_is_no_white : (c : ℕ) → IsTrue (is_punctuation c || eqb c semicolon) → IsTrue (is_whitespace c) → ⊥
punctuation_is_no_white c h k = elim (white_cases c k) [
  | inl e ↦ false≢true (subst (λ x. (is_punctuation x || eqb x semicolon) ≡ true) e h)
  | inr f ↦ elim f [
    | inl e ↦ false≢true (subst (λ x. (is_punctuation x || eqb x semicolon) ≡ true) e h)
    | inr g ↦ elim g [
      | inl e ↦ false≢true (subst (λ x. (is_punctuation x || eqb x semicolon) ≡ true) e h)
      | inr e ↦ false≢true (subst (λ x. (is_punctuation x || eqb x semicolon) ≡ true) e h)
    ]
  ]
]

or_left : (a b : Bool) → a ≡ true → (a || b) ≡ true
or_left true b h = refl
or_left false b h = absurd (false≢true h)

run_first : {flags : Settings} {w r : List ℕ} {ps : List Piece} → Run flags w ps r → ps ≢ [] → (c : ℕ) × (t : List ℕ) × (w ≡ c ∷ t) × IsTrue (is_run_char c)
run_first (Run.none) n = absurd (n refl)
run_first (Run.idchar {c = c} {t = t} h k) n = (c, t, refl, or_left (is_idchar c) (eqb c quote) h)
run_first (Run.string {t = t} h k) n = (quote, t, refl, refl)

commented_first : {w r : List ℕ} → Commented w r → (t : List ℕ) × (w ≡ open_paren ∷ semicolon ∷ t)
commented_first (Commented.opened {t = t} h) = (t, refl)

line_first : {w : List ℕ} → CommentedLine w → (t : List ℕ) × (w ≡ semicolon ∷ t)
line_first (CommentedLine.begun {t = t} h) = (semicolon ∷ t, refl)

-- The first character of a lexeme of this kind, except whitespace.
abbrev pub IsFirst : TokenKind → List ℕ → ℕ → Type 0
IsFirst LineComment w c = c ≡ semicolon
IsFirst BlockComment w c = c ≡ open_paren
IsFirst LParen w c = c ≡ open_paren
IsFirst RParen w c = (c ≡ close_paren) × (w ≡ close_paren ∷ [])
IsFirst Whitespace w c = ⊥
IsFirst Reserved w c = ((w ≡ c ∷ []) × IsTrue (is_punctuation c || eqb c semicolon)) ⊎ IsTrue (is_run_char c)
IsFirst kind w c = IsTrue (is_run_char c)

pub record First (kind : TokenKind) (w : List ℕ) : Type 0 where
  pub char : ℕ
  pub others : List ℕ
  pub cut : w ≡ char ∷ others
  pub is : IsFirst kind w char

of_run : {flags : Settings} {w : List ℕ} (kind : TokenKind) → ((c : ℕ) → IsTrue (is_run_char c) → IsFirst kind w c) → (ps : List Piece) × (ps ≢ []) × Run flags w ps [] → First kind w
of_run kind f (ps, n, r) = let h = run_first r n in record { char = h.0; others = h.1; cut = h.2; is = f h.0 h.3 }

pub first_of_word : (kind : TokenKind) (w : List ℕ) (flags : Settings) → is_white kind ≡ false → Word kind w flags → First kind w
first_of_word LineComment w flags e h = let k = line_first h.0 in record { char = semicolon; others = k.0; cut = k.1; is = refl }
first_of_word BlockComment w flags e h = let k = commented_first h.0 in record { char = open_paren; others = semicolon ∷ k.0; cut = k.1; is = refl }
first_of_word Whitespace w flags e h = absurd (false≢true (sym e))
first_of_word LParen w flags e h = record { char = open_paren; others = []; cut = h; is = refl }
first_of_word RParen w flags e h = record { char = close_paren; others = []; cut = h; is = (refl, h) }
first_of_word Reserved w flags e (inl h) = record { char = h.0; others = []; cut = h.1; is = inl (h.1, h.2) }
first_of_word Reserved w flags e (inr h) = of_run Reserved (λ c k. inr k) (h.0, h.1, h.2)
first_of_word String w flags e h = of_run String (λ c k. k) (h.0, h.1, h.2)
first_of_word Id w flags e h = of_run Id (λ c k. k) (h.0, h.1, h.2)
first_of_word Keyword w flags e h = of_run Keyword (λ c k. k) (h.0, h.1, h.2)
first_of_word Annotation w flags e h = of_run Annotation (λ c k. k) (h.0, h.1, h.2)
first_of_word (Integer i) w flags e h = of_run (Integer i) (λ c k. k) (h.0, h.1, h.2)
first_of_word (Float f) w flags e h = of_run (Float f) (λ c k. k) (h.0, h.1, h.2)

pub first_is_no_white : (kind : TokenKind) (w : List ℕ) (c : ℕ) → IsFirst kind w c → IsTrue (is_whitespace c) → ⊥
first_is_no_white LineComment w c h k = false≢true (subst (λ x. is_whitespace x ≡ true) h k)
first_is_no_white BlockComment w c h k = false≢true (subst (λ x. is_whitespace x ≡ true) h k)
first_is_no_white Whitespace w c h k = absurd h
first_is_no_white LParen w c h k = false≢true (subst (λ x. is_whitespace x ≡ true) h k)
first_is_no_white RParen w c h k = false≢true (subst (λ x. is_whitespace x ≡ true) h.0 k)
first_is_no_white Reserved w c (inl h) k = punctuation_is_no_white c h.1 k
first_is_no_white Reserved w c (inr h) k = run_is_no_white c h k
first_is_no_white String w c h k = run_is_no_white c h k
first_is_no_white Id w c h k = run_is_no_white c h k
first_is_no_white Keyword w c h k = run_is_no_white c h k
first_is_no_white Annotation w c h k = run_is_no_white c h k
first_is_no_white (Integer i) w c h k = run_is_no_white c h k
first_is_no_white (Float f) w c h k = run_is_no_white c h k
