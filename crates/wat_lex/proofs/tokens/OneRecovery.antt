-- A fault covers one part of a text, which is not empty.
use Rattle.std.proofs.Common.{◌≡◌, ◌≢◌, ℕ, Bool, true, false, List, [], ◌∷◌, ◌++◌, not, refl, arith, ap, sym, ◌∙◌, subst, append_assoc}
use Rattle.std.specs.Prelude.{IsTrue, ◌==◌}
use Rattle.std.proofs.lemmas.Bool.{both_ways, false≢true, and_parts}
use Rattle.std.proofs.lemmas.List.{append_cancel_left}
use Rattle.wat_lex.specs.grammar.Classes.{quote, size, is_line_end}
use Rattle.wat_lex.specs.grammar.Runs.{Piece, Run, none, idchar, string}
use Rattle.wat_lex.specs.grammar.Words.{WordIsAt}
use Rattle.wat_lex.specs.tokens.Faults.{IsComment}
use Rattle.wat_lex.specs.tokens.Recovery.{is_inside, SkipsString, closed, line_end, text_end, escape, inside, Covers, character, opening, comment, run, ResumesAt}
use Rattle.wat_lex.specs.tokens.Setting.{Setting, allowing}
use Rattle.wat_lex.specs.tokens.StringFaults.{StringFault, later, no_quote, control, confusing, no_escape, bad_escape, no_second, bad_second, no_open, bad_open, no_digit, bad_digit, number, NumberFault, too_big, doubled, lone, no_scalar, no_brace, no_more}
use Rattle.wat_lex.specs.declared.lexer.settings.Settings.{Settings}
use Rattle.wat_lex.specs.declared.lexer.kinds.TokenKind.{TokenKind}
use Rattle.wat_lex.specs.declared.lexer.faults.LexError.{LexError}
use Rattle.wat_lex.specs.declared.lexer.faults.LexError.TheVariants.{DanglingBlockComment, Unexpected, ConfusingUnicode}
use Rattle.wat_lex.specs.declared.lexer.faults.LexFault.{LexFault}
use Rattle.wat_lex.proofs.grammar.OneString.{quoted_unique, quoted_sound}
use Rattle.wat_lex.proofs.grammar.OneWord.{is_at_unique}
use Rattle.wat_lex.proofs.grammar.Remainders.{run_taken}
use Rattle.wat_lex.proofs.tokens.OneFault.{comment_start, comment_no_run}
use Rattle.wat_lex.proofs.tokens.Scans.{word_some}

pub inside_no_line_end : (c : ℕ) → IsTrue (is_inside c) → IsTrue (is_line_end c) → ⊥
inside_no_line_end c h k = both_ways (not (is_line_end c)) (ap not k) (and_parts (not (c == quote)) (not (is_line_end c)) h).1

pub passes_unique : (s r q : List ℕ) → SkipsString s r → SkipsString s q → r ≡ q
passes_unique s r q closed closed = refl
passes_unique s r q closed (line_end h) = absurd (false≢true h)
passes_unique s r q closed (inside h n p) = absurd (false≢true h)
passes_unique s r q (line_end h) closed = absurd (false≢true h)
passes_unique s r q (line_end h) (line_end k) = refl
passes_unique s r q (line_end h) (escape k p) = absurd (false≢true h)
passes_unique s r q (line_end {c = c} h) (inside k n p) = absurd (inside_no_line_end c k h)
passes_unique s r q text_end text_end = refl
passes_unique s r q (escape h p) (line_end k) = absurd (false≢true k)
passes_unique s r q (escape {t = t} h p) (escape k o) = passes_unique t r q p o
passes_unique s r q (escape h p) (inside k n o) = absurd (n refl h)
passes_unique s r q (inside h n p) closed = absurd (false≢true h)
passes_unique s r q (inside {c = c} h n p) (line_end k) = absurd (inside_no_line_end c h k)
passes_unique s r q (inside h n p) (escape k o) = absurd (n refl k)
passes_unique s r q (inside {t = t} h n p) (inside k m o) = passes_unique t r q p o

-- an error whose fault covers its first characters alone
unfoldable pub covers_start : LexError → Bool
covers_start DanglingBlockComment = true
covers_start (Unexpected c) = true
covers_start e = false

number_fault_error : (flags : Settings) (d : ℕ) (s : List ℕ) (e : LexError) (at : List ℕ) → NumberFault flags d s e at → covers_start e ≡ false
unfolding covers_start
number_fault_error flags d s e at (too_big ds k h i n) = refl
number_fault_error flags d s e at (doubled ds k h a b) = refl
number_fault_error flags d s e at (lone ds k h n) = refl
number_fault_error flags d s e at (no_scalar ds k h i n m) = refl
number_fault_error flags d s e at (no_brace ds k h n i m l) = refl
number_fault_error flags d s e at (no_more h n i) = refl

pub string_fault_error : (flags : Settings) (s : List ℕ) (e : LexError) (at : List ℕ) → StringFault flags s e at → covers_start e ≡ false
unfolding covers_start
string_fault_error flags s e at (later {t = t} h g) = string_fault_error flags t e at g
string_fault_error flags s e at no_quote = refl
string_fault_error flags s e at (control h) = refl
string_fault_error flags s e at (confusing a h) = refl
string_fault_error flags s e at no_escape = refl
string_fault_error flags s e at (bad_escape h i j) = refl
string_fault_error flags s e at (no_second h) = refl
string_fault_error flags s e at (bad_second h i) = refl
string_fault_error flags s e at no_open = refl
string_fault_error flags s e at (bad_open h) = refl
string_fault_error flags s e at no_digit = refl
string_fault_error flags s e at (bad_digit h) = refl
string_fault_error flags s e at (number {d = d} {s = t} h k) = number_fault_error flags d t e at k

-- no fault of a string covers its first characters alone
pub no_start : (flags : Settings) (s : List ℕ) (e f : LexError) (at : List ℕ) → StringFault flags s e at → e ≡ f → covers_start f ≡ true → ⊥
no_start flags s e f at h k b = false≢true (sym (string_fault_error flags s e at h) ∙ ap covers_start k ∙ b)

-- the string that goes wrong in a run
pub run_string_unique : (flags : Settings) (s t u a b : List ℕ) (ps qs : List Piece) (e f : LexError) → Run flags s ps (quote ∷ t) → StringFault flags t e a → Run flags s qs (quote ∷ u) → StringFault flags u f b → t ≡ u
run_string_unique flags s t u a b ps qs e f none x none y = refl
run_string_unique flags s t u a b ps qs e f none x (idchar i j) y = absurd (false≢true i)
run_string_unique flags s t u a b ps qs e f none x (string {v = w} {m = n} i j) y = absurd (quoted_sound flags t w n a e i x)
run_string_unique flags s t u a b ps qs e f (idchar h k) x none y = absurd (false≢true h)
run_string_unique flags s t u a b ps qs e f (idchar {t = m} {ps = xs} h k) x (idchar {ps = ys} i j) y = run_string_unique flags m t u a b xs ys e f k x j y
run_string_unique flags s t u a b ps qs e f (idchar h k) x (string i j) y = absurd (false≢true h)
run_string_unique flags s t u a b ps qs e f (string {v = v} {m = m} h k) x none y = absurd (quoted_sound flags u v m b f h y)
run_string_unique flags s t u a b ps qs e f (string h k) x (idchar i j) y = absurd (false≢true i)
run_string_unique flags s t u a b ps qs e f (string {t = l} {v = v} {m = m} {ps = xs} h k) x (string {v = w} {m = n} {ps = ys} i j) y =
    run_string_unique flags m t u a b xs ys e f k x (subst (λ z. Run flags z ys (quote ∷ u)) (sym (quoted_unique flags l v w m n h i).1) j) y

pub comment_unique : (flags : Settings) (s : List ℕ) (k l : TokenKind) (w x r q : List ℕ) → WordIsAt flags s k w r → WordIsAt flags s l x q → r ≡ q
comment_unique flags s k l w x r q h g =
    let same = (is_at_unique flags s k l w x r q h g).1 in
    append_cancel_left w r q (sym h.cut ∙ g.cut ∙ ap (λ y. y ++ q) (sym same))

pub comment_run : (flags : Settings) (s : List ℕ) (kind : TokenKind) (w r : List ℕ) (ps : List Piece) (t : List ℕ) → IsComment kind → WordIsAt (allowing flags) s kind w r → Run flags s ps (quote ∷ t) → ⊥
comment_run flags s kind w r ps t k h g = comment_no_run flags s ps t (comment_start (allowing flags) s kind w r k h) g

pub covers_unique : (flags : Settings) (s : List ℕ) (e f : LexError) (r q : List ℕ) → e ≡ f → Covers flags s e r → Covers flags s f q → r ≡ q
unfolding covers_start
covers_unique flags s e f r q k character character = refl
covers_unique flags s e f r q k (character {c = c}) (comment {c = d} i h) = let a : Unexpected c ≡ ConfusingUnicode d = k in absurd (false≢true (sym (ap covers_start a)))
covers_unique flags s e f r q k (character {c = c}) (run {t = t} {at = at} g h p) = absurd (no_start flags t f e at h (sym k) refl)
covers_unique flags s e f r q k opening opening = refl
covers_unique flags s e f r q k opening (comment {c = d} i h) = let a : DanglingBlockComment ≡ ConfusingUnicode d = k in absurd (false≢true (sym (ap covers_start a)))
covers_unique flags s e f r q k opening (run {t = t} {at = at} g h p) = absurd (no_start flags t f e at h (sym k) refl)
covers_unique flags s e f r q k (character {c = c}) opening = let a : Unexpected c ≡ DanglingBlockComment = k in cc
covers_unique flags s e f r q k opening (character {c = c}) = let a : DanglingBlockComment ≡ Unexpected c = k in cc
covers_unique flags s e f r q k (comment {c = d} i h) (character {c = c}) = let a : ConfusingUnicode d ≡ Unexpected c = k in absurd (false≢true (ap covers_start a))
covers_unique flags s e f r q k (comment {c = d} i h) opening = let a : ConfusingUnicode d ≡ DanglingBlockComment = k in absurd (false≢true (ap covers_start a))
covers_unique flags s e f r q k (comment {w = w} {kind = m} i h) (comment {w = x} {kind = n} j g) = comment_unique (allowing flags) s m n w x r q h g
covers_unique flags s e f r q k (comment {w = w} {kind = m} i h) (run {t = t} {ps = ps} g x p) = absurd (comment_run flags s m w r ps t i h g)
covers_unique flags s e f r q k (run {t = t} {at = at} g h p) (character {c = c}) = absurd (no_start flags t e f at h k refl)
covers_unique flags s e f r q k (run {t = t} {at = at} g h p) opening = absurd (no_start flags t e f at h k refl)
covers_unique flags s e f r q k (run {t = t} {ps = ps} g x p) (comment {w = w} {kind = m} i h) = absurd (comment_run flags s m w q ps t i h g)
covers_unique flags s e f r q k (run {t = t} {at = a} {ps = ps} g h p) (run {t = u} {at = b} {ps = qs} x y o) =
    passes_unique t r q p (subst (λ z. SkipsString z q) (sym (run_string_unique flags s t u a b ps qs e f g h x y)) o)

pub resumes_once : (s : Setting) (p : ℕ) (f : LexFault) (q r : ℕ) → ResumesAt s p f q → ResumesAt s p f r → q ≡ r
resumes_once s p f q r h g =
    let same = covers_unique s.flags _ f.error f.error h.rest g.rest refl h.covers g.covers in
    omega (arith, h.place, g.place, ap size same)

-- r is a suffix of s: the text after what is skipped.
pub record Passed (s r : List ℕ) : Type 0 where
  pub prefix : List ℕ
  pub cut : s ≡ prefix ++ r

pub passes_cut : (s r : List ℕ) → SkipsString s r → Passed s r
passes_cut s r closed = record { prefix = quote ∷ []; cut = refl }
passes_cut s r (line_end h) = record { prefix = []; cut = refl }
passes_cut s r text_end = record { prefix = []; cut = refl }
passes_cut s r (escape {c = c} {t = t} h p) = let k = passes_cut t r p in record { prefix = 92 ∷ c ∷ k.prefix; cut = ap (λ x. 92 ∷ c ∷ x) k.cut }
passes_cut s r (inside {c = c} {t = t} h n p) = let k = passes_cut t r p in record { prefix = c ∷ k.prefix; cut = ap (λ x. c ∷ x) k.cut }

-- what a fault covers, a character at least, and then the rest
pub record CoveredPart (s r : List ℕ) : Type 0 where
  pub prefix : List ℕ
  pub cut : s ≡ prefix ++ r
  pub some : prefix ≢ []

not_nil : (c : ℕ) (w x : List ℕ) → w ++ c ∷ x ≢ []
not_nil c [] x e = cc
not_nil c (d ∷ w) x e = cc

pub covers_cut : (flags : Settings) (s : List ℕ) (e : LexError) (r : List ℕ) → Covers flags s e r → CoveredPart s r
covers_cut flags s e r (character {c = c}) = record { prefix = c ∷ []; cut = refl; some = λ k. cc }
covers_cut flags s e r opening = record { prefix = 40 ∷ 59 ∷ []; cut = refl; some = λ k. cc }
covers_cut flags s e r (comment {w = w} {kind = k} i h) = record { prefix = w; cut = h.cut; some = word_some k w (allowing flags) h.word }
covers_cut flags s e r (run {t = t} {ps = ps} g h p) =
    let a = run_taken flags s ps (quote ∷ t) g in
    let b = passes_cut t r p in
    record {
      prefix = a.prefix ++ quote ∷ b.prefix;
      cut = a.cut ∙ ap (λ x. a.prefix ++ quote ∷ x) b.cut ∙ sym (append_assoc a.prefix (quote ∷ b.prefix) r);
      some = not_nil quote a.prefix b.prefix;
    }
