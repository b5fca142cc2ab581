-- At the start of a text is one word.
use Rattle.std.proofs.Common.{◌≡◌, ◌≢◌, ◌⊎◌, ℕ, List, [], ◌∷◌, ◌++◌, refl, ap, sym, ◌∙◌, subst, Bool, true, false, cond, not, ◌||◌, inl, inr}
use Rattle.std.specs.Prelude.{◌==◌, codes}
use Rattle.std.proofs.lemmas.List.{append-nil, append_cancel_right}
use Rattle.std.proofs.lemmas.Bool.{both_ways, or_cases, eqb-true, false≢true}
use Rattle.wat_lex.specs.grammar.Classes.{Each, Begins, is_whitespace, is_idchar, is_run_char, is_punctuation, is_line_end, open_paren, close_paren, semicolon, quote}
use Rattle.wat_lex.specs.grammar.Comments.{Closes, BlockComment as Commented, opened, LineComment as CommentedLine, begun}
use Rattle.wat_lex.specs.grammar.Runs.{Piece, Run, none, idchar, string, RunKind, RunWord}
use Rattle.wat_lex.specs.grammar.Words.{Punctuation, EndsRun, Word, MayFollow, WordIsAt}
use Rattle.wat_lex.specs.declared.lexer.settings.Settings.{Settings}
use Rattle.wat_lex.specs.declared.lexer.kinds.TokenKind.{TokenKind}
use Rattle.wat_lex.specs.declared.lexer.kinds.TokenKind.TheVariants.{LineComment, BlockComment, Whitespace, LParen, RParen, String, Id, Keyword, Annotation, Reserved, Integer, Float}
use Rattle.wat_lex.proofs.inside.BlockComments.{closes_cut}
use Rattle.wat_lex.proofs.grammar.Remainders.{run_taken}
use Rattle.wat_lex.proofs.grammar.OneString.{closes_unique, span_unique}
use Rattle.wat_lex.proofs.grammar.OneKind.{run_kind_one}
use Rattle.wat_lex.proofs.grammar.OneRun.{idchar_runs, run_unique}
use Rattle.wat_lex.proofs.tokens.OneStringFault.{set_apart}

-- what can be at the start, by its first two characters
pub data Class : Type 0 where
  Nothing : Class
  Spaces : Class
  Joined : Class
  Punctuated : Class
  Block : Class
  Opens : Class
  Shuts : Class
  Line : Class
  Single : Class
  Other : Class

abbrev pub before_semicolon : List ℕ → Class → Class → Class
before_semicolon [] x y = y
before_semicolon (d ∷ t) x y = cond (d == semicolon) x y

abbrev pub pick : Bool → Bool → Bool → Bool → Bool → Bool → List ℕ → Class
pick whitespace run punctuation opens shuts single t = cond whitespace Spaces (cond run Joined (cond punctuation Punctuated (cond opens (before_semicolon t Block Opens) (cond shuts Shuts (cond single (before_semicolon t Line Single) Other)))))

abbrev pub class_of : List ℕ → Class
class_of [] = Nothing
class_of (c ∷ t) = pick (is_whitespace c) (is_run_char c) (is_punctuation c) (c == open_paren) (c == close_paren) (c == semicolon) t

fails : (b : Bool) → (b ≡ true → ⊥) → b ≡ false
fails true h = absurd (h refl)
fails false h = refl

pub whitespace_no_run : (c : ℕ) → is_whitespace c ≡ true → is_run_char c ≡ true → ⊥
whitespace_no_run c = set_apart is_run_char (32 ∷ 10 ∷ 13 ∷ 9 ∷ []) c (refl, (refl, (refl, (refl, tt))))

punctuation_no_whitespace : (c : ℕ) → is_punctuation c ≡ true → is_whitespace c ≡ true → ⊥
punctuation_no_whitespace c = set_apart is_whitespace (codes ",[]{}") c (refl, (refl, (refl, (refl, (refl, tt)))))

punctuation_no_run : (c : ℕ) → is_punctuation c ≡ true → is_run_char c ≡ true → ⊥
punctuation_no_run c = set_apart is_run_char (codes ",[]{}") c (refl, (refl, (refl, (refl, (refl, tt)))))

class_whitespace : (c : ℕ) (t : List ℕ) → is_whitespace c ≡ true → class_of (c ∷ t) ≡ Spaces
class_whitespace c t h = ap (λ b. pick b (is_run_char c) (is_punctuation c) (c == open_paren) (c == close_paren) (c == semicolon) t) h

class_run : (c : ℕ) (t : List ℕ) → is_run_char c ≡ true → class_of (c ∷ t) ≡ Joined
class_run c t h =
    ap (λ b. pick b (is_run_char c) (is_punctuation c) (c == open_paren) (c == close_paren) (c == semicolon) t) (fails (is_whitespace c) (λ k. whitespace_no_run c k h))
    ∙ ap (λ b. pick false b (is_punctuation c) (c == open_paren) (c == close_paren) (c == semicolon) t) h

class_punctuation : (c : ℕ) (t : List ℕ) → is_punctuation c ≡ true → class_of (c ∷ t) ≡ Punctuated
class_punctuation c t h =
    ap (λ b. pick b (is_run_char c) (is_punctuation c) (c == open_paren) (c == close_paren) (c == semicolon) t) (fails (is_whitespace c) (punctuation_no_whitespace c h))
    ∙ ap (λ b. pick false b (is_punctuation c) (c == open_paren) (c == close_paren) (c == semicolon) t) (fails (is_run_char c) (punctuation_no_run c h))
    ∙ ap (λ b. pick false false b (c == open_paren) (c == close_paren) (c == semicolon) t) h

-- no semicolon follows
class_second : (t : List ℕ) (x y : Class) → (Begins (λ c. c == semicolon) t → ⊥) → before_semicolon t x y ≡ y
class_second [] x y n = refl
class_second (d ∷ t) x y n = ap (λ b. cond b x y) (fails (d == semicolon) n)

-- a word is one character
pub One : TokenKind → TokenKind → List ℕ → Type 0
One kind k w = (k ≡ kind) × (c : ℕ) × (w ≡ c ∷ [])

pub record IsLine (k : TokenKind) (w r : List ℕ) : Type 0 where
  kind : k ≡ LineComment
  prefix : List ℕ
  cut : w ≡ semicolon ∷ semicolon ∷ prefix
  inside : Each (λ c. not (is_line_end c)) prefix
  stops : Begins (λ c. not (is_line_end c)) r → ⊥

pub record IsRun (flags : Settings) (k : TokenKind) (w r : List ℕ) : Type 0 where
  pub pieces : List Piece
  pub run : Run flags (w ++ r) pieces r
  pub kind : RunKind pieces k
  pub ends : EndsRun r

-- the word w of the kind k before r, by its class
unfoldable pub Form : Class → Settings → TokenKind → List ℕ → List ℕ → Type 0
Form Nothing flags k w r = ⊥
Form Spaces flags k w r = (k ≡ Whitespace) × Each is_whitespace w × (Begins is_whitespace r → ⊥)
Form Joined flags k w r = IsRun flags k w r
Form Punctuated flags k w r = One Reserved k w
Form Block flags k w r = (k ≡ BlockComment) × Commented (w ++ r) r
Form Opens flags k w r = One LParen k w
Form Shuts flags k w r = One RParen k w
Form Line flags k w r = IsLine k w r
Form Single flags k w r = One Reserved k w
Form Other flags k w r = ⊥

one_unique : (kind k l : TokenKind) (w x r s : List ℕ) → One kind k w → One kind l x → w ++ r ≡ x ++ s → (k ≡ l) × (w ≡ x)
unfolding One
one_unique kind k l w x r s h g e =
    let m = h.1 in
    let n = g.1 in
    let a = h.2 in
    let b = g.2 in
    let c : m ∷ r ≡ n ∷ s = ap (λ y. y ++ r) (sym a) ∙ e ∙ ap (λ y. y ++ s) b in
    let d : m ≡ n = cc in
    (h.0 ∙ sym g.0, a ∙ ap (λ y. y ∷ []) d ∙ sym b)

line_unique : (k l : TokenKind) (w x r s : List ℕ) → IsLine k w r → IsLine l x s → w ++ r ≡ x ++ s → (k ≡ l) × (w ≡ x)
line_unique k l w x r s h g e =
    let a = h.cut in
    let b = g.cut in
    let c : semicolon ∷ semicolon ∷ (h.prefix ++ r) ≡ semicolon ∷ semicolon ∷ (g.prefix ++ s) = ap (λ y. y ++ r) (sym a) ∙ e ∙ ap (λ y. y ++ s) b in
    let d : h.prefix ++ r ≡ g.prefix ++ s = cc in
    let u = span_unique (λ c. not (is_line_end c)) h.prefix g.prefix r s h.inside g.inside h.stops g.stops d in
    (h.kind ∙ sym g.kind, a ∙ ap (λ y. semicolon ∷ semicolon ∷ y) u.0 ∙ sym b)

comment_unique : (s r q : List ℕ) → Commented s r → Commented s q → r ≡ q
comment_unique s r q (opened {t = t} h) (opened g) = closes_unique t r q h g

same_rest : (w x r s : List ℕ) → w ++ r ≡ x ++ s → r ≡ s → w ≡ x
same_rest w x r s e h = append_cancel_right w x r (e ∙ ap (λ y. x ++ y) (sym h))

run_form_unique : (flags : Settings) (k l : TokenKind) (w x r s : List ℕ) → IsRun flags k w r → IsRun flags l x s → w ++ r ≡ x ++ s → (k ≡ l) × (w ≡ x)
run_form_unique flags k l w x r s h g e =
    let u = run_unique flags (w ++ r) r s h.pieces g.pieces h.run h.ends (subst (λ y. Run flags y g.pieces s) (sym e) g.run) g.ends in
    (run_kind_one h.pieces k l h.kind (subst (λ p. RunKind p l) (sym u.0) g.kind), same_rest w x r s e u.1)

form_unique : (c : Class) (flags : Settings) (k l : TokenKind) (w x r s : List ℕ) → Form c flags k w r → Form c flags l x s → w ++ r ≡ x ++ s → (k ≡ l) × (w ≡ x)
unfolding Form
form_unique Nothing flags k l w x r s h g e = absurd h
form_unique Spaces flags k l w x r s h g e = (h.0 ∙ sym g.0, (span_unique is_whitespace w x r s h.1 g.1 h.2 g.2 e).0)
form_unique Joined flags k l w x r s h g e = run_form_unique flags k l w x r s h g e
form_unique Punctuated flags k l w x r s h g e = one_unique Reserved k l w x r s h g e
form_unique Block flags k l w x r s h g e = (h.0 ∙ sym g.0, same_rest w x r s e (comment_unique (w ++ r) r s h.1 (subst (λ y. Commented y s) (sym e) g.1)))
form_unique Opens flags k l w x r s h g e = one_unique LParen k l w x r s h g e
form_unique Shuts flags k l w x r s h g e = one_unique RParen k l w x r s h g e
form_unique Line flags k l w x r s h g e = line_unique k l w x r s h g e
form_unique Single flags k l w x r s h g e = one_unique Reserved k l w x r s h g e
form_unique Other flags k l w x r s h g e = absurd h

-- a word that may come before the rest has the form of its class
HasForm : Settings → TokenKind → List ℕ → List ℕ → Type 0
HasForm flags k w r = Form (class_of (w ++ r)) flags k w r

in_class : (c : Class) (flags : Settings) (k : TokenKind) (w r : List ℕ) → class_of (w ++ r) ≡ c → Form c flags k w r → HasForm flags k w r
unfolding HasForm
in_class c flags k w r e h = subst (λ y. Form y flags k w r) (sym e) h

whitespace_form : (flags : Settings) (w r : List ℕ) → w ≢ [] → Each is_whitespace w → (Begins is_whitespace r → ⊥) → HasForm flags Whitespace w r
unfolding Form
whitespace_form flags [] r n h e = absurd (n refl)
whitespace_form flags (c ∷ w) r n h e = in_class Spaces flags Whitespace (c ∷ w) r (class_whitespace c (w ++ r) h.0) (refl, h, e)

line_form : (flags : Settings) (w r : List ℕ) → CommentedLine w → MayFollow LineComment w r → HasForm flags LineComment w r
unfolding Form
line_form flags w r (begun {t = t} h) e = in_class Line flags LineComment (semicolon ∷ semicolon ∷ t) r refl (record { kind = refl; prefix = t; cut = refl; inside = h; stops = stops r e })
  where
    stops : (r : List ℕ) → (r ≡ []) ⊎ Begins is_line_end r → Begins (λ c. not (is_line_end c)) r → ⊥
    stops [] e b = b
    stops (c ∷ r) (inl e) b = cc
    stops (c ∷ r) (inr e) b = both_ways (not (is_line_end c)) (ap not e) b

block_form : (flags : Settings) (w r : List ℕ) → Commented w [] → HasForm flags BlockComment w r
unfolding Form
block_form flags w r (opened {t = t} h) =
    let k = closes_cut t [] h in
    let e : k.prefix ≡ t = sym (append-nil k.prefix) ∙ sym k.cut in
    in_class Block flags BlockComment (open_paren ∷ semicolon ∷ t) r refl (refl, opened (subst (λ y. Closes (y ++ r) r) e (k.closes r)))

open_form : (flags : Settings) (w r : List ℕ) → w ≡ open_paren ∷ [] → (Begins (λ c. c == semicolon) r → ⊥) → HasForm flags LParen w r
unfolding Form One
open_form flags w r e n = in_class Opens flags LParen w r (ap (λ y. class_of (y ++ r)) e ∙ class_second r Block Opens n) (refl, open_paren, e)

shut_form : (flags : Settings) (w r : List ℕ) → w ≡ close_paren ∷ [] → HasForm flags RParen w r
unfolding Form One
shut_form flags w r e = in_class Shuts flags RParen w r (ap (λ y. class_of (y ++ r)) e) (refl, close_paren, e)

punctuation_form : (flags : Settings) (w r : List ℕ) → Punctuation w → MayFollow Reserved w r → HasForm flags Reserved w r
unfolding Form One
punctuation_form flags w r m f =
    let c = m.0 in
    elim (or_cases (is_punctuation c) (c == semicolon) m.2) [
      | inl t ↦ in_class Punctuated flags Reserved w r (ap (λ y. class_of (y ++ r)) m.1 ∙ class_punctuation c r t) (refl, c, m.1)
      | inr t ↦
          let e : w ≡ semicolon ∷ [] = m.1 ∙ ap (λ y. y ∷ []) (eqb-true c semicolon t) in
          in_class Single flags Reserved w r (ap (λ y. class_of (y ++ r)) e ∙ class_second r Line Single (f.0 e)) (refl, semicolon, e)
    ]

pub begun_class : (s : List ℕ) → Begins is_run_char s → class_of s ≡ Joined
begun_class [] h = absurd h
begun_class (c ∷ t) h = class_run c t h

-- a run that is not empty begins with an idchar or a quote
run_class : (flags : Settings) (s r : List ℕ) (ps : List Piece) → ps ≢ [] → Run flags s ps r → class_of s ≡ Joined
run_class flags s r ps n none = absurd (n refl)
run_class flags s r ps n (idchar {c = c} {t = t} h k) = class_run c t (idchar_runs c h)
run_class flags s r ps n (string {t = t} h k) = class_run quote t refl

run_form : (flags : Settings) (k : TokenKind) (w r : List ℕ) → RunWord k w flags → EndsRun r → HasForm flags k w r
unfolding Form
run_form flags k w r h e =
    let t = run_taken flags w h.0 [] h.2 in
    let f : t.prefix ≡ w = sym (append-nil t.prefix) ∙ sym t.cut in
    let run : Run flags (w ++ r) h.0 r = subst (λ y. Run flags (y ++ r) h.0 r) f (t.again r) in
    in_class Joined flags k w r (run_class flags (w ++ r) r h.0 h.1 run) (record { pieces = h.0; run = run; kind = h.3; ends = e })

-- A run is not punctuation.
run_no_punctuation : (flags : Settings) (w : List ℕ) (ps : List Piece) → ps ≢ [] → Run flags w ps [] → Punctuation w → ⊥
run_no_punctuation flags w ps n none m = n refl
run_no_punctuation flags w ps n (idchar {c = c} h k) m =
    let e = m.1 in
    let d : c ≡ m.0 = cc in
    elim (or_cases (is_punctuation m.0) (m.0 == semicolon) m.2) [
      | inl t ↦ punctuation_no_run c (ap is_punctuation d ∙ t) (idchar_runs c h)
      | inr t ↦ both_ways (is_idchar c) (ap is_idchar (d ∙ eqb-true m.0 semicolon t)) h
    ]
run_no_punctuation flags w ps n (string h k) m =
    let e = m.1 in
    let d : m.0 ≡ quote = cc in
    false≢true (sym (ap (λ c. is_punctuation c || c == semicolon) d) ∙ m.2)

word_form : (flags : Settings) (k : TokenKind) (w r : List ℕ) → Word k w flags → MayFollow k w r → HasForm flags k w r
word_form flags Whitespace w r h e = whitespace_form flags w r h.0 h.1 e
word_form flags LineComment w r h e = line_form flags w r h.0 e
word_form flags BlockComment w r h e = block_form flags w r h.0
word_form flags LParen w r h e = open_form flags w r h e
word_form flags RParen w r h e = shut_form flags w r h
word_form flags Reserved w r (inl m) e = punctuation_form flags w r m e
word_form flags Reserved w r (inr h) e = run_form flags Reserved w r h (e.1 (run_no_punctuation flags w h.0 h.1 h.2))
word_form flags String w r h e = run_form flags String w r h e
word_form flags Id w r h e = run_form flags Id w r h e
word_form flags Keyword w r h e = run_form flags Keyword w r h e
word_form flags Annotation w r h e = run_form flags Annotation w r h e
word_form flags (Integer x) w r h e = run_form flags (Integer x) w r h e
word_form flags (Float x) w r h e = run_form flags (Float x) w r h e

pub is_at_form : (flags : Settings) (text : List ℕ) (k : TokenKind) (w r : List ℕ) → WordIsAt flags text k w r → Form (class_of text) flags k w r
unfolding HasForm
is_at_form flags text k w r h = subst (λ y. Form (class_of y) flags k w r) (sym h.cut) (word_form flags k w r h.word h.ends)

pub is_at_unique : (flags : Settings) (text : List ℕ) (k l : TokenKind) (w x r s : List ℕ) → WordIsAt flags text k w r → WordIsAt flags text l x s → (k ≡ l) × (w ≡ x)
is_at_unique flags text k l w x r s h g = form_unique (class_of text) flags k l w x r s (is_at_form flags text k w r h) (is_at_form flags text l x s g) (sym h.cut ∙ g.cut)
