-- What some flags take, looser flags take too.
use Rattle.std.proofs.Common.{◌≡◌, ℕ, List, [], refl, ap, ◌∙◌, Bool, true, false, ◌&&◌, ◌||◌, inl, inr}
use Rattle.std.specs.Prelude.{not, IsTrue, ◌==◌}
use Rattle.std.proofs.lemmas.Bool.{and_parts}
use Rattle.wat_lex.specs.grammar.Classes.{quote, backslash, is_confusing, IsClear}
use Rattle.wat_lex.specs.tokens.Setting.{lenient}
use Rattle.wat_lex.specs.grammar.Strings.{is_control, is_raw, HexRow, Element, raw, letter, byte, unicode, Quoted, ends, more}
use Rattle.wat_lex.specs.grammar.Runs.{Piece, Run, none, idchar, string, RunWord}
use Rattle.wat_lex.specs.grammar.Words.{Word, WordIsAt}
use Rattle.wat_lex.specs.declared.lexer.settings.Settings.{Settings}
use Rattle.wat_lex.specs.declared.lexer.kinds.TokenKind.{TokenKind}
use Rattle.wat_lex.specs.declared.lexer.kinds.TokenKind.TheVariants.{LineComment, BlockComment, Whitespace, LParen, RParen, String, Id, Keyword, Annotation, Reserved, Integer, Float}

-- g allows what f allows, and is strict only where f is
pub record Looser (f g : Settings) : Type 0 where
  pub allow : f.allow ≡ true → g.allow ≡ true
  pub strict : g.strict ≡ true → f.strict ≡ true

or_looser : (a b x : Bool) → (a ≡ true → b ≡ true) → (a || x) ≡ true → (b || x) ≡ true
or_looser true b x h k = ap (λ z. z || x) (h refl)
or_looser false true x h k = refl
or_looser false false x h k = k

raw_looser : (f g : Settings) (c : ℕ) → Looser f g → IsTrue (is_raw f c) → IsTrue (is_raw g c)
raw_looser f g c l h =
    let plain = (not (is_control c) && not (c == quote)) && not (c == backslash) in
    let p = and_parts plain (f.allow || not (is_confusing c)) h in
    ap (λ b. b && (g.allow || not (is_confusing c))) p.0 ∙ or_looser f.allow g.allow (not (is_confusing c)) l.allow p.1

row_looser : (f g : Settings) (d : ℕ) (ds : List ℕ) → Looser f g → HexRow f d ds → HexRow g d ds
row_looser f g d ds l h = record { first = h.first; others = h.others; small = h.small; parted = λ s. h.parted (l.strict s) }

element_looser : (f g : Settings) (s v r : List ℕ) → Looser f g → Element f s v r → Element g s v r
element_looser f g s v r l (raw {c = c} h) = raw (raw_looser f g c l h)
element_looser f g s v r l (letter h) = letter h
element_looser f g s v r l (byte h k) = byte h k
element_looser f g s v r l (unicode {d = d} ds e h n k) = unicode ds e (row_looser f g d ds l h) n k

quoted_looser : (f g : Settings) (s v r : List ℕ) → Looser f g → Quoted f s v r → Quoted g s v r
quoted_looser f g s v r l ends = ends
quoted_looser f g s v r l (more {t = t} {u = u} {v = w} h k) = more (element_looser f g s u t l h) (quoted_looser f g t w r l k)

run_looser : (f g : Settings) (s : List ℕ) (ps : List Piece) (r : List ℕ) → Looser f g → Run f s ps r → Run g s ps r
run_looser f g s ps r l none = none
run_looser f g s ps r l (idchar {t = t} {ps = qs} h k) = idchar h (run_looser f g t qs r l k)
run_looser f g s ps r l (string {t = t} {v = v} {m = m} {ps = qs} h k) = string (quoted_looser f g t v m l h) (run_looser f g m qs r l k)

run_word_looser : (kind : TokenKind) (w : List ℕ) (f g : Settings) → Looser f g → RunWord kind w f → RunWord kind w g
run_word_looser kind w f g l h = (h.0, h.1, run_looser f g w h.0 [] l h.2, h.3)

clear_looser : (a b : Bool) (w : List ℕ) → (a ≡ true → b ≡ true) → IsClear a w → IsClear b w
clear_looser a true w l h = tt
clear_looser false false w l h = h
clear_looser true false w l h = let k = l refl in cc

pub word_looser : (kind : TokenKind) (w : List ℕ) (f g : Settings) → Looser f g → Word kind w f → Word kind w g
word_looser Whitespace w f g l h = h
word_looser LineComment w f g l h = (h.0, clear_looser f.allow g.allow w l.allow h.1)
word_looser BlockComment w f g l h = (h.0, clear_looser f.allow g.allow w l.allow h.1)
word_looser LParen w f g l h = h
word_looser RParen w f g l h = h
word_looser Reserved w f g l (inl m) = inl m
word_looser Reserved w f g l (inr h) = inr (run_word_looser Reserved w f g l h)
word_looser String w f g l h = run_word_looser String w f g l h
word_looser Id w f g l h = run_word_looser Id w f g l h
word_looser Keyword w f g l h = run_word_looser Keyword w f g l h
word_looser Annotation w f g l h = run_word_looser Annotation w f g l h
word_looser (Integer k) w f g l h = run_word_looser (Integer k) w f g l h
word_looser (Float k) w f g l h = run_word_looser (Float k) w f g l h

pub is_at_looser : (f g : Settings) (text : List ℕ) (kind : TokenKind) (w rest : List ℕ) → Looser f g → WordIsAt f text kind w rest → WordIsAt g text kind w rest
is_at_looser f g text kind w rest l h = record { cut = h.cut; word = word_looser kind w f g l h.word; ends = h.ends }

pub lenient_looser : (f : Settings) → Looser f lenient
lenient_looser f = record { allow = λ h. refl; strict = λ h. absurd (let k : false ≡ true = h in cc) }
