-- A fault is reported in what it covers, or directly after it.
use Rattle.std.proofs.Common.{◌≡◌, ◌≢◌, ◌≤◌, ℕ, Bool, true, false, List, [], ◌∷◌, ◌++◌, length, not, ◌&&◌, refl, arith, ap, sym, ◌∙◌, subst, inl, inr}
use Rattle.std.specs.Prelude.{IsTrue, Option, Some, None, ◌==◌}
use Rattle.std.proofs.lemmas.Bool.{both_ways, false≢true, and_parts, or_cases, ne_eqb, eqb-true, cases_Bool}
use Rattle.std.proofs.lemmas.List.{append-nil}
use Rattle.wat_lex.specs.grammar.Classes.{Each, Begins, quote, backslash, size, is_hex, is_line_end}
use Rattle.wat_lex.specs.grammar.Strings.{Element, raw, letter, byte, unicode, letter_value, is_control, is_raw, is_hex_or_underscore}
use Rattle.wat_lex.specs.tokens.Faults.{Fault, unexpected, dangling, confusing as refused, in_string}
use Rattle.wat_lex.specs.tokens.Recovery.{is_inside, is_escaped, SkipsString, closed, line_end, escape, inside, Covers, character, opening, comment, run}
use Rattle.wat_lex.specs.tokens.Setting.{allowing}
use Rattle.wat_lex.specs.tokens.StringFaults.{StringFault, later, no_quote, control, confusing, no_escape, bad_escape, no_second, bad_second, no_open, bad_open, no_digit, bad_digit, number, NumberFault, too_big, doubled, lone, no_scalar, no_brace, no_more}
use Rattle.wat_lex.specs.declared.lexer.settings.Settings.{Settings}
use Rattle.wat_lex.specs.declared.lexer.faults.LexError.{LexError}
use Rattle.wat_lex.specs.declared.lexer.faults.LexError.TheVariants.{DanglingBlockComment, Unexpected, ConfusingUnicode}
use Rattle.wat_lex.proofs.inside.Confusing.{size-append}
use Rattle.wat_lex.proofs.tokens.OneNumberFault.{row_prefix}
use Rattle.wat_lex.proofs.tokens.OneRecovery.{covers_start, inside_no_line_end, passes_cut, covers_cut, no_start, comment_run, comment_unique, run_string_unique}
use Rattle.wat_lex.proofs.tokens.OneStringFault.{set_apart}

-- A character that is skipped alone in a string with an error.
record Still (c : ℕ) : Type 0 where
  is : IsTrue (is_inside c)
  plain : c ≢ backslash

still_by : (p : ℕ → Bool) (c : ℕ) → p 34 ≡ false → p 92 ≡ false → p 10 ≡ false → p 13 ≡ false → p c ≡ true → Still c
still_by p c a b d e h =
    let ends : is_line_end c ≡ false = elim (cases_Bool (is_line_end c)) [ inl t ↦ absurd (set_apart p (10 ∷ 13 ∷ []) c (ap not d, (ap not e, tt)) t h) | inr f ↦ f ] in
    record {
      is = ap (λ x. not x && not (is_line_end c)) (ne_eqb c quote (λ k. both_ways (p c) (ap p k ∙ a) h)) ∙ ap not ends;
      plain = λ k. both_ways (p c) (ap p k ∙ b) h;
    }

hex_still : (c : ℕ) → IsTrue (is_hex c) → Still c
hex_still c h = still_by is_hex c refl refl refl refl h

row_still : (c : ℕ) → IsTrue (is_hex_or_underscore c) → Still c
row_still c h = still_by is_hex_or_underscore c refl refl refl refl h

raw_still : (flags : Settings) (c : ℕ) → IsTrue (is_raw flags c) → Still c
raw_still flags c h = still_by (λ x. not (is_control x) && not (x == quote) && not (x == backslash)) c refl refl refl refl (and_parts _ _ h).0

is_some : Option ℕ → Bool
is_some None = false
is_some (Some v) = true

letter_still : (c v : ℕ) → letter_value c ≡ Some v → is_escaped c ≡ false → Still c
unfolding is_some
letter_still c v e f = still_by (λ x. is_some (letter_value x) && not (is_escaped x)) c refl refl refl refl (ap (λ x. x && not (is_escaped c)) (ap is_some e) ∙ ap not f)

none_escaped : (c : ℕ) → letter_value c ≡ None → IsTrue (is_escaped c) → ⊥
unfolding is_some
none_escaped c e h =
    elim (or_cases (c == quote) (c == backslash) h) [
      | inl t ↦ false≢true (sym (ap is_some e) ∙ ap (λ x. is_some (letter_value x)) (eqb-true c 34 t))
      | inr t ↦ false≢true (sym (ap is_some e) ∙ ap (λ x. is_some (letter_value x)) (eqb-true c 92 t))
    ]

still_not_escaped : (c : ℕ) → Still c → IsTrue (is_escaped c) → ⊥
still_not_escaped c s h =
    elim (or_cases (c == quote) (c == backslash) h) [
      | inl t ↦ let i = s.is in false≢true (sym (ap is_inside (eqb-true c quote t)) ∙ i)
      | inr t ↦ s.plain (eqb-true c backslash t)
    ]

-- ---- the rest of a string with an error, after a first character

step : (c : ℕ) (t q : List ℕ) → Still c → SkipsString (c ∷ t) q → SkipsString t q
step c t q s closed = let i = s.is in absurd (false≢true i)
step c t q s (line_end k) = absurd (inside_no_line_end c s.is k)
step c t q s (escape k p) = absurd (s.plain refl)
step c t q s (inside i n p) = p

past_backslash : (t q : List ℕ) → (Begins is_escaped t → ⊥) → SkipsString (backslash ∷ t) q → SkipsString t q
past_backslash t q n (line_end k) = absurd (false≢true k)
past_backslash t q n (escape k p) = absurd (n k)
past_backslash t q n (inside i m p) = p

past_escape : (c : ℕ) (t q : List ℕ) → IsTrue (is_escaped c) → SkipsString (backslash ∷ c ∷ t) q → SkipsString t q
past_escape c t q h (line_end k) = absurd (false≢true k)
past_escape c t q h (escape k p) = p
past_escape c t q h (inside i m p) = absurd (m refl h)

past_row : (ds t q : List ℕ) → Each is_hex_or_underscore ds → SkipsString (ds ++ t) q → SkipsString t q
past_row [] t q h p = p
past_row (d ∷ ds) t q h p = past_row ds t q h.1 (step d (ds ++ t) q (row_still d h.0) p)

letter_u_still : Still 117
letter_u_still = record { is = refl; plain = λ e. let k : 117 ≡ 92 = e in omega (arith, k) }

open_brace_still : Still 123
open_brace_still = record { is = refl; plain = λ e. let k : 123 ≡ 92 = e in omega (arith, k) }

close_brace_still : Still 125
close_brace_still = record { is = refl; plain = λ e. let k : 125 ≡ 92 = e in omega (arith, k) }

past_open : (t q : List ℕ) → SkipsString (92 ∷ 117 ∷ 123 ∷ t) q → SkipsString t q
past_open t q p = step 123 t q open_brace_still (step 117 (123 ∷ t) q letter_u_still (past_backslash (117 ∷ 123 ∷ t) q (still_not_escaped 117 letter_u_still) p))

element_passed : (flags : Settings) (s u t q : List ℕ) → Element flags s u t → SkipsString s q → SkipsString t q
element_passed flags s u t q (raw {c = c} h) p = step c t q (raw_still flags c h) p
element_passed flags s u t q (letter {c = c} {v = v} h) p =
    elim (cases_Bool (is_escaped c)) [
      | inl e ↦ past_escape c t q e p
      | inr f ↦ step c t q (letter_still c v h f) (past_backslash (c ∷ t) q (both_ways (is_escaped c) f) p)
    ]
element_passed flags s u t q (byte {c = c} {d = d} h k) p =
    step d t q (hex_still d k) (step c (d ∷ t) q (hex_still c h) (past_backslash (c ∷ d ∷ t) q (still_not_escaped c (hex_still c h)) p))
element_passed flags s u t q (unicode {d = d} ds e h n k) p =
    let row = h.others in
    step 125 t q close_brace_still
    (past_row ds (125 ∷ t) q row (subst (λ x. SkipsString x q) e (step d _ q (hex_still d h.first) (past_open _ q p))))

-- ---- what is left

passes_fits : (s q : List ℕ) → SkipsString s q → size q ≤ size s
passes_fits s q p = let k = passes_cut s q p in omega (arith, ap size k.cut, size-append k.prefix q)

number_within : (flags : Settings) (d : ℕ) (s : List ℕ) (e : LexError) (at q : List ℕ) → NumberFault flags d s e at → SkipsString s q → size q ≤ size at
number_within flags d s e at q (too_big ds k h i n) p = passes_fits at q (past_row ds at q h.others (subst (λ x. SkipsString x q) k p))
number_within flags d s e at q (doubled ds k h a b) p = passes_fits at q (past_row ds at q h.others (subst (λ x. SkipsString x q) k p))
number_within flags d s e at q (lone ds k h n) p = passes_fits at q (past_row ds at q h.others (subst (λ x. SkipsString x q) k p))
number_within flags d s e at q (no_scalar {e = x} ds k h i n m) p = let row = row_prefix flags d ds (x ∷ []) h in passes_fits at q (past_row ds at q row.others (subst (λ x. SkipsString x q) k p))
number_within flags d s e at q (no_brace ds k h n i m l) p = passes_fits at q (past_row ds at q h.others (subst (λ x. SkipsString x q) k p))
number_within flags d s e at q (no_more h n i) p = passes_fits [] q (past_row s [] q h.others (subst (λ x. SkipsString x q) (sym (append-nil s)) p))

string_within : (flags : Settings) (s : List ℕ) (e : LexError) (at q : List ℕ) → StringFault flags s e at → SkipsString s q → size q ≤ size at
string_within flags s e at q (later {t = t} {u = u} h g) p = string_within flags t e at q g (element_passed flags s u t q h p)
string_within flags s e at q no_quote p = passes_fits at q p
string_within flags s e at q (control h) p = passes_fits at q p
string_within flags s e at q (confusing a h) p = passes_fits at q p
string_within flags s e at q no_escape p = passes_fits [] q (past_backslash [] q (λ b. b) p)
string_within flags s e at q (bad_escape {c = c} h i j) p = passes_fits at q (past_backslash at q (none_escaped c h) p)
string_within flags s e at q (no_second {c = c} h) p = passes_fits [] q (step c [] q (hex_still c h) (past_backslash (c ∷ []) q (still_not_escaped c (hex_still c h)) p))
string_within flags s e at q (bad_second {c = c} h i) p = passes_fits at q (step c at q (hex_still c h) (past_backslash (c ∷ at) q (still_not_escaped c (hex_still c h)) p))
string_within flags s e at q no_open p = passes_fits [] q (step 117 [] q letter_u_still (past_backslash (117 ∷ []) q (still_not_escaped 117 letter_u_still) p))
string_within flags s e at q (bad_open h) p = passes_fits at q (step 117 at q letter_u_still (past_backslash (117 ∷ at) q (still_not_escaped 117 letter_u_still) p))
string_within flags s e at q no_digit p = passes_fits [] q (past_open [] q p)
string_within flags s e at q (bad_digit h) p = passes_fits at q (past_open at q p)
string_within flags s e at q (number {d = d} {s = t} h k) p = number_within flags d t e at q k (step d t q (hex_still d h) (past_open (d ∷ t) q p))

-- where a text is cut in two ways, the later cut leaves less
cut_later : (w x r t : List ℕ) → w ++ r ≡ x ++ t → length x ≤ length w → size r ≤ size t
cut_later w [] r t e l = omega (arith, ap size e, size-append w r)
cut_later [] (d ∷ x) r t e l = absurd (omega (arith, l))
cut_later (c ∷ w) (d ∷ x) r t e l = cut_later w x r t (let k : w ++ r ≡ x ++ t = cc in k) (omega (arith, l))

covers_fits : (flags : Settings) (s : List ℕ) (e : LexError) (r : List ℕ) → Covers flags s e r → size r ≤ size s
covers_fits flags s e r h = let k = covers_cut flags s e r h in omega (arith, ap size k.cut, size-append k.prefix r)

pub reported_within : (flags : Settings) (s : List ℕ) (e f : LexError) (at r : List ℕ) → e ≡ f → Fault flags s e at → Covers flags s f r → size r ≤ size at
unfolding covers_start
reported_within flags s e f at r k (unexpected n) h = covers_fits flags s f r h
reported_within flags s e f at r k (dangling n) h = covers_fits flags s f r h
reported_within flags s e f at r k (refused {c = c} {kind = kind} {w = w} {rest = rest} prefix off kind_is there cut clear is lt) (comment {w = x} {kind = l} j g) =
    let same = comment_unique (allowing flags) s kind l w x rest r there g in
    cut_later w prefix r at (ap (λ y. w ++ y) (sym same) ∙ sym there.cut ∙ cut) (omega (arith, lt))
reported_within flags s e f at r k (refused {c = c} prefix off kind_is there cut clear is lt) (character {c = d}) = let a : ConfusingUnicode c ≡ Unexpected d = k in cc
reported_within flags s e f at r k (refused {c = c} prefix off kind_is there cut clear is lt) opening = let a : ConfusingUnicode c ≡ DanglingBlockComment = k in cc
reported_within flags s e f at r k (refused {kind = kind} {w = w} {rest = rest} prefix off kind_is there cut clear is lt) (run {t = t} {ps = ps} g x p) = absurd (comment_run flags s kind w rest ps t kind_is there g)
reported_within flags s e f at r k (in_string {t = t} {ps = ps} g x) (run {t = u} {at = b} {ps = qs} i y p) =
    string_within flags t e at r x (subst (λ z. SkipsString z r) (sym (run_string_unique flags s t u at b ps qs e f g x i y)) p)
reported_within flags s e f at r k (in_string {t = t} g x) (character {c = d}) = absurd (no_start flags t e f at x k refl)
reported_within flags s e f at r k (in_string {t = t} g x) opening = absurd (no_start flags t e f at x k refl)
reported_within flags s e f at r k (in_string {t = t} {ps = ps} g x) (comment {w = w} {kind = kind} j i) = absurd (comment_run flags s kind w r ps t j i g)
