-- Runs and faults of a text: what comes before their rest.
use Rattle.std.proofs.Common.{◌≡◌, ◌≤◌, ℕ, List, [], ◌∷◌, ◌++◌, refl, arith, ap, sym, ◌∙◌, subst, append_assoc}
use Rattle.std.proofs.lemmas.List.{append-nil}
use Rattle.wat_lex.specs.grammar.Classes.{size}
use Rattle.wat_lex.specs.grammar.Strings.{Element, raw, letter, byte, unicode, Quoted, ends, more}
use Rattle.wat_lex.specs.tokens.StringFaults.{StringFault, later, no_quote, control, confusing, no_escape, bad_escape, no_second, bad_second, no_open, bad_open, no_digit, bad_digit, number, NumberFault, too_big, doubled, lone, no_scalar, no_brace, no_more}
use Rattle.wat_lex.specs.grammar.Runs.{Piece, Run, none, idchar, string}
use Rattle.wat_lex.specs.declared.lexer.faults.LexError.{LexError}
use Rattle.wat_lex.proofs.inside.Confusing.{size-append}
use Rattle.wat_lex.specs.declared.lexer.settings.Settings.{Settings}

-- what a reading took, which it takes before any rest
pub record Taken (reads : List ℕ → List ℕ → Type 0) (s r : List ℕ) : Type 0 where
  pub prefix : List ℕ
  pub cut : s ≡ prefix ++ r
  pub again : (q : List ℕ) → reads (prefix ++ q) q

pub element_taken : (flags : Settings) (s v r : List ℕ) → Element flags s v r → Taken (λ x y. Element flags x v y) s r
element_taken flags s v r (raw {c = c} h) = record { prefix = c ∷ []; cut = refl; again = λ q. raw h }
element_taken flags s v r (letter {c = c} h) = record { prefix = 92 ∷ c ∷ []; cut = refl; again = λ q. letter h }
element_taken flags s v r (byte {c = c} {d = d} h k) = record { prefix = 92 ∷ c ∷ d ∷ []; cut = refl; again = λ q. byte h k }
element_taken flags s v r (unicode {d = d} ds e h n k) = record {
  prefix = 92 ∷ 117 ∷ 123 ∷ d ∷ (ds ++ 125 ∷ []);
  cut = ap (λ x. 92 ∷ 117 ∷ 123 ∷ d ∷ x) (e ∙ sym (append_assoc ds (125 ∷ []) r));
  again = λ q. unicode ds (append_assoc ds (125 ∷ []) q) h n k;
}

pub quoted_taken : (flags : Settings) (s v r : List ℕ) → Quoted flags s v r → Taken (λ x y. Quoted flags x v y) s r
quoted_taken flags s v r ends = record { prefix = 34 ∷ []; cut = refl; again = λ q. ends }
quoted_taken flags s v r (more {t = t} {u = u} {v = w} h g) =
    let a = element_taken flags s u t h in
    let b = quoted_taken flags t w r g in
    record {
      prefix = a.prefix ++ b.prefix;
      cut = a.cut ∙ ap (λ x. a.prefix ++ x) b.cut ∙ sym (append_assoc a.prefix b.prefix r);
      again = λ q. subst (λ x. Quoted flags x (u ++ w) q) (sym (append_assoc a.prefix b.prefix q)) (more (a.again (b.prefix ++ q)) (b.again q));
    }

pub run_taken : (flags : Settings) (s : List ℕ) (ps : List Piece) (r : List ℕ) → Run flags s ps r → Taken (λ x y. Run flags x ps y) s r
run_taken flags s ps r none = record { prefix = []; cut = refl; again = λ q. none }
run_taken flags s ps r (idchar {c = c} {t = t} {ps = qs} h g) =
    let a = run_taken flags t qs r g in
    record { prefix = c ∷ a.prefix; cut = ap (λ x. c ∷ x) a.cut; again = λ q. idchar h (a.again q) }
run_taken flags s ps r (string {t = t} {v = v} {m = m} {ps = qs} h g) =
    let a = quoted_taken flags t v m h in
    let b = run_taken flags m qs r g in
    record {
      prefix = 34 ∷ (a.prefix ++ b.prefix);
      cut = ap (λ x. 34 ∷ x) (a.cut ∙ ap (λ x. a.prefix ++ x) b.cut ∙ sym (append_assoc a.prefix b.prefix r));
      again = λ q. subst (λ x. Run flags (34 ∷ x) ps q) (sym (append_assoc a.prefix b.prefix q)) (string (a.again (b.prefix ++ q)) (b.again q));
    }

-- r is what is left of s
pub Ends : List ℕ → List ℕ → Type 0
Ends s r = (w : List ℕ) × (s ≡ w ++ r)

number_ends : (flags : Settings) (d : ℕ) (s : List ℕ) (e : LexError) (at : List ℕ) → NumberFault flags d s e at → Ends s at
unfolding Ends
number_ends flags d s e at (too_big ds k h i n) = (ds, k)
number_ends flags d s e at (doubled ds k h a b) = (ds, k)
number_ends flags d s e at (lone ds k h n) = (ds, k)
number_ends flags d s e at (no_scalar ds k h i n m) = (ds, k)
number_ends flags d s e at (no_brace ds k h n i m l) = (ds, k)
number_ends flags d s e at (no_more h n i) = (s, sym (append-nil s))

-- with more before it
ends_more : (w s r : List ℕ) → Ends s r → Ends (w ++ s) r
unfolding Ends
ends_more w s r h = (w ++ h.0, ap (λ x. w ++ x) h.1 ∙ sym (append_assoc w h.0 r))

string_ends : (flags : Settings) (s : List ℕ) (e : LexError) (at : List ℕ) → StringFault flags s e at → Ends s at
unfolding Ends
string_ends flags s e at (later {t = t} {u = u} h g) =
    let a = element_taken flags s u t h in
    let b = string_ends flags t e at g in
    (a.prefix ++ b.0, a.cut ∙ ap (λ x. a.prefix ++ x) b.1 ∙ sym (append_assoc a.prefix b.0 at))
string_ends flags s e at no_quote = ([], refl)
string_ends flags s e at (control h) = ([], refl)
string_ends flags s e at (confusing a h) = ([], refl)
string_ends flags s e at no_escape = (92 ∷ [], refl)
string_ends flags s e at (bad_escape {c = c} h i j) = (92 ∷ [], refl)
string_ends flags s e at (no_second {c = c} h) = (92 ∷ c ∷ [], refl)
string_ends flags s e at (bad_second {c = c} h i) = (92 ∷ c ∷ [], refl)
string_ends flags s e at no_open = (92 ∷ 117 ∷ [], refl)
string_ends flags s e at (bad_open h) = (92 ∷ 117 ∷ [], refl)
string_ends flags s e at no_digit = (92 ∷ 117 ∷ 123 ∷ [], refl)
string_ends flags s e at (bad_digit h) = (92 ∷ 117 ∷ 123 ∷ [], refl)
string_ends flags s e at (number {d = d} {s = t} h k) = ends_more (92 ∷ 117 ∷ 123 ∷ d ∷ []) t at (number_ends flags d t e at k)

pub string_fault_fits : (flags : Settings) (s : List ℕ) (e : LexError) (at : List ℕ) → StringFault flags s e at → size at ≤ size s
unfolding Ends
string_fault_fits flags s e at h = let b = string_ends flags s e at h in omega (arith, ap size b.1, size-append b.0 at)
