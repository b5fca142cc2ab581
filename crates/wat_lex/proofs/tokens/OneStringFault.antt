-- A string goes wrong in one way.
use Rattle.std.proofs.Common.{◌≡◌, ◌<◌, ℕ, Bool, zero, suc, List, [], ◌∷◌, length, refl, arith, ap, ◌∙◌, true, inl, inr, length-append}
use Rattle.std.specs.Prelude.{not, ◌==◌}
use Rattle.std.proofs.lemmas.Bool.{both_ways, false≢true, or_cases, eqb-true}
use Rattle.std.specs.Char.{char_set_contains}
use Rattle.wat_lex.specs.grammar.Classes.{Each, is_confusing}
use Rattle.wat_lex.specs.grammar.Strings.{Element, raw, letter, byte, unicode, is_control}
use Rattle.wat_lex.specs.tokens.StringFaults.{StringFault, later, no_quote, control, confusing, no_escape, bad_escape, no_second, bad_second, no_open, bad_open, no_digit, bad_digit, number}
use Rattle.wat_lex.specs.declared.lexer.faults.LexError.{LexError}
use Rattle.wat_lex.specs.declared.lexer.settings.Settings.{Settings}
use Rattle.wat_lex.proofs.grammar.OneString.{element_fault}
use Rattle.wat_lex.proofs.tokens.OneNumberFault.{number_fault_unique}

-- what fails at each character of a set fails at one of them
pub set_apart : (p : ℕ → Bool) (s : List ℕ) (c : ℕ) → Each (λ d. not (p d)) s → char_set_contains s c ≡ true → p c ≡ true → ⊥
set_apart p [] c h e k = cc
set_apart p (d ∷ s) c h e k =
    elim (or_cases (d == c) (char_set_contains s c) e) [
      | inl t ↦ both_ways (not (p d)) (ap not (ap p (eqb-true d c t) ∙ k)) h.0
      | inr t ↦ set_apart p s c h.1 t k
    ]

control_confusing : (c : ℕ) → is_control c ≡ true → is_confusing c ≡ true → ⊥
control_confusing c h k = set_apart is_control (0x202A ∷ 0x202B ∷ 0x202D ∷ 0x202E ∷ 0x2066 ∷ 0x2067 ∷ 0x2068 ∷ 0x2069 ∷ 0x206C ∷ []) c (refl, (refl, (refl, (refl, (refl, (refl, (refl, (refl, (refl, tt))))))))) k h

pub element_shorter : (flags : Settings) (s u t : List ℕ) → Element flags s u t → length t < length s
element_shorter flags s u t (raw h) = omega arith
element_shorter flags s u t (letter h) = omega arith
element_shorter flags s u t (byte h k) = omega arith
element_shorter flags s u t (unicode {r = r} ds e h n k) = omega (arith, ap length e, length-append ds (125 ∷ r))

-- all faults of a text are one fault
OneFault : Settings → List ℕ → Type 0
OneFault flags s = (e f : LexError) (p q : List ℕ) → StringFault flags s e p → StringFault flags s f q → (e ≡ f) × (p ≡ q)

-- where the fault is not after an element
pairs : (flags : Settings) (s : List ℕ) (e f : LexError) (p q : List ℕ) → ((t : List ℕ) → length t < length s → OneFault flags t) → StringFault flags s e p → StringFault flags s f q → (e ≡ f) × (p ≡ q)
unfolding OneFault
pairs flags s e f p q ih (later {t = t} {u = u} x h) g = ih t (element_shorter flags s u t x) e f p q h (element_fault flags s u t q f x g)
pairs flags s e f p q ih no_quote (later x h) = elim x [ ]
pairs flags s e f p q ih (control a) (later {t = t} {u = u} x h) = ih t (element_shorter flags s u t x) e f p q (element_fault flags s u t p e x (control a)) h
pairs flags s e f p q ih (confusing a b) (later {t = t} {u = u} x h) = ih t (element_shorter flags s u t x) e f p q (element_fault flags s u t p e x (confusing a b)) h
pairs flags s e f p q ih no_escape (later {t = t} {u = u} x h) = ih t (element_shorter flags s u t x) e f p q (element_fault flags s u t p e x no_escape) h
pairs flags s e f p q ih (bad_escape a b c) (later {t = t} {u = u} x h) = ih t (element_shorter flags s u t x) e f p q (element_fault flags s u t p e x (bad_escape a b c)) h
pairs flags s e f p q ih (no_second a) (later {t = t} {u = u} x h) = ih t (element_shorter flags s u t x) e f p q (element_fault flags s u t p e x (no_second a)) h
pairs flags s e f p q ih (bad_second a b) (later {t = t} {u = u} x h) = ih t (element_shorter flags s u t x) e f p q (element_fault flags s u t p e x (bad_second a b)) h
pairs flags s e f p q ih no_open (later {t = t} {u = u} x h) = ih t (element_shorter flags s u t x) e f p q (element_fault flags s u t p e x no_open) h
pairs flags s e f p q ih (bad_open a) (later {t = t} {u = u} x h) = ih t (element_shorter flags s u t x) e f p q (element_fault flags s u t p e x (bad_open a)) h
pairs flags s e f p q ih no_digit (later {t = t} {u = u} x h) = ih t (element_shorter flags s u t x) e f p q (element_fault flags s u t p e x no_digit) h
pairs flags s e f p q ih (bad_digit a) (later {t = t} {u = u} x h) = ih t (element_shorter flags s u t x) e f p q (element_fault flags s u t p e x (bad_digit a)) h
pairs flags s e f p q ih (number a b) (later {t = t} {u = u} x h) = ih t (element_shorter flags s u t x) e f p q (element_fault flags s u t p e x (number a b)) h
pairs flags s e f p q ih no_quote no_quote = (refl, refl)
pairs flags s e f p q ih (control {c = x} a) (control i) = (refl, refl)
pairs flags s e f p q ih (control {c = x} a) (confusing i j) = absurd (control_confusing x a j)
pairs flags s e f p q ih (control {c = x} a) no_escape = absurd (false≢true a)
pairs flags s e f p q ih (control {c = x} a) (bad_escape i j k) = absurd (false≢true a)
pairs flags s e f p q ih (control {c = x} a) (no_second i) = absurd (false≢true a)
pairs flags s e f p q ih (control {c = x} a) (bad_second i j) = absurd (false≢true a)
pairs flags s e f p q ih (control {c = x} a) no_open = absurd (false≢true a)
pairs flags s e f p q ih (control {c = x} a) (bad_open i) = absurd (false≢true a)
pairs flags s e f p q ih (control {c = x} a) no_digit = absurd (false≢true a)
pairs flags s e f p q ih (control {c = x} a) (bad_digit i) = absurd (false≢true a)
pairs flags s e f p q ih (control {c = x} a) (number i j) = absurd (false≢true a)
pairs flags s e f p q ih (confusing {c = x} a b) (control i) = absurd (control_confusing x i b)
pairs flags s e f p q ih (confusing {c = x} a b) (confusing i j) = (refl, refl)
pairs flags s e f p q ih (confusing {c = x} a b) no_escape = absurd (false≢true b)
pairs flags s e f p q ih (confusing {c = x} a b) (bad_escape i j k) = absurd (false≢true b)
pairs flags s e f p q ih (confusing {c = x} a b) (no_second i) = absurd (false≢true b)
pairs flags s e f p q ih (confusing {c = x} a b) (bad_second i j) = absurd (false≢true b)
pairs flags s e f p q ih (confusing {c = x} a b) no_open = absurd (false≢true b)
pairs flags s e f p q ih (confusing {c = x} a b) (bad_open i) = absurd (false≢true b)
pairs flags s e f p q ih (confusing {c = x} a b) no_digit = absurd (false≢true b)
pairs flags s e f p q ih (confusing {c = x} a b) (bad_digit i) = absurd (false≢true b)
pairs flags s e f p q ih (confusing {c = x} a b) (number i j) = absurd (false≢true b)
pairs flags s e f p q ih no_escape (control i) = absurd (false≢true i)
pairs flags s e f p q ih no_escape (confusing i j) = absurd (false≢true j)
pairs flags s e f p q ih no_escape no_escape = (refl, refl)
pairs flags s e f p q ih (bad_escape a b c) (control i) = absurd (false≢true i)
pairs flags s e f p q ih (bad_escape a b c) (confusing i j) = absurd (false≢true j)
pairs flags s e f p q ih (bad_escape a b c) (bad_escape i j k) = (refl, refl)
pairs flags s e f p q ih (bad_escape a b c) (no_second i) = absurd (b i)
pairs flags s e f p q ih (bad_escape a b c) (bad_second i j) = absurd (b i)
pairs flags s e f p q ih (bad_escape a b c) no_open = absurd (c refl)
pairs flags s e f p q ih (bad_escape a b c) (bad_open i) = absurd (c refl)
pairs flags s e f p q ih (bad_escape a b c) no_digit = absurd (c refl)
pairs flags s e f p q ih (bad_escape a b c) (bad_digit i) = absurd (c refl)
pairs flags s e f p q ih (bad_escape a b c) (number i j) = absurd (c refl)
pairs flags s e f p q ih (no_second a) (control i) = absurd (false≢true i)
pairs flags s e f p q ih (no_second a) (confusing i j) = absurd (false≢true j)
pairs flags s e f p q ih (no_second a) (bad_escape i j k) = absurd (j a)
pairs flags s e f p q ih (no_second a) (no_second i) = (refl, refl)
pairs flags s e f p q ih (no_second a) no_open = absurd (false≢true a)
pairs flags s e f p q ih (bad_second a b) (control i) = absurd (false≢true i)
pairs flags s e f p q ih (bad_second a b) (confusing i j) = absurd (false≢true j)
pairs flags s e f p q ih (bad_second a b) (bad_escape i j k) = absurd (j a)
pairs flags s e f p q ih (bad_second a b) (bad_second i j) = (refl, refl)
pairs flags s e f p q ih (bad_second a b) (bad_open i) = absurd (false≢true a)
pairs flags s e f p q ih (bad_second a b) no_digit = absurd (false≢true a)
pairs flags s e f p q ih (bad_second a b) (bad_digit i) = absurd (false≢true a)
pairs flags s e f p q ih (bad_second a b) (number i j) = absurd (false≢true a)
pairs flags s e f p q ih no_open (control i) = absurd (false≢true i)
pairs flags s e f p q ih no_open (confusing i j) = absurd (false≢true j)
pairs flags s e f p q ih no_open (bad_escape i j k) = absurd (k refl)
pairs flags s e f p q ih no_open (no_second i) = absurd (false≢true i)
pairs flags s e f p q ih no_open no_open = (refl, refl)
pairs flags s e f p q ih (bad_open a) (control i) = absurd (false≢true i)
pairs flags s e f p q ih (bad_open a) (confusing i j) = absurd (false≢true j)
pairs flags s e f p q ih (bad_open a) (bad_escape i j k) = absurd (k refl)
pairs flags s e f p q ih (bad_open a) (bad_second i j) = absurd (false≢true i)
pairs flags s e f p q ih (bad_open a) (bad_open i) = (refl, refl)
pairs flags s e f p q ih (bad_open a) no_digit = absurd (a refl)
pairs flags s e f p q ih (bad_open a) (bad_digit i) = absurd (a refl)
pairs flags s e f p q ih (bad_open a) (number i j) = absurd (a refl)
pairs flags s e f p q ih no_digit (control i) = absurd (false≢true i)
pairs flags s e f p q ih no_digit (confusing i j) = absurd (false≢true j)
pairs flags s e f p q ih no_digit (bad_escape i j k) = absurd (k refl)
pairs flags s e f p q ih no_digit (bad_second i j) = absurd (false≢true i)
pairs flags s e f p q ih no_digit (bad_open i) = absurd (i refl)
pairs flags s e f p q ih no_digit no_digit = (refl, refl)
pairs flags s e f p q ih (bad_digit a) (control i) = absurd (false≢true i)
pairs flags s e f p q ih (bad_digit a) (confusing i j) = absurd (false≢true j)
pairs flags s e f p q ih (bad_digit a) (bad_escape i j k) = absurd (k refl)
pairs flags s e f p q ih (bad_digit a) (bad_second i j) = absurd (false≢true i)
pairs flags s e f p q ih (bad_digit a) (bad_open i) = absurd (i refl)
pairs flags s e f p q ih (bad_digit a) (bad_digit i) = (refl, refl)
pairs flags s e f p q ih (bad_digit a) (number i j) = absurd (a i)
pairs flags s e f p q ih (number {d = x} {s = t} a b) (control i) = absurd (false≢true i)
pairs flags s e f p q ih (number {d = x} {s = t} a b) (confusing i j) = absurd (false≢true j)
pairs flags s e f p q ih (number {d = x} {s = t} a b) (bad_escape i j k) = absurd (k refl)
pairs flags s e f p q ih (number {d = x} {s = t} a b) (bad_second i j) = absurd (false≢true i)
pairs flags s e f p q ih (number {d = x} {s = t} a b) (bad_open i) = absurd (i refl)
pairs flags s e f p q ih (number {d = x} {s = t} a b) (bad_digit i) = absurd (i a)
pairs flags s e f p q ih (number {d = x} {s = t} a b) (number i j) = number_fault_unique flags x t e f p q b j

one_by : (n : ℕ) (flags : Settings) (s : List ℕ) → length s < n → OneFault flags s
unfolding OneFault
one_by zero flags s l e f p q h g = absurd (omega arith)
one_by (suc n) flags s l e f p q h g = pairs flags s e f p q (λ t k. one_by n flags t (omega arith)) h g

pub string_fault_unique : (flags : Settings) (s : List ℕ) (e f : LexError) (p q : List ℕ) → StringFault flags s e p → StringFault flags s f q → (e ≡ f) × (p ≡ q)
unfolding OneFault
string_fault_unique flags s e f p q h g = one_by (suc (length s)) flags s (omega arith) e f p q h g
