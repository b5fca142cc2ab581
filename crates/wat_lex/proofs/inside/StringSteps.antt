-- Steps of the readers of strings.
use Rattle.std.proofs.Common.{◌≡◌, ◌≢◌, ◌≤◌, ◌+◌, ◌*◌, ℕ, List, [], ◌∷◌, ◌++◌, length, refl, arith, ap, sym, ◌∙◌, subst, Bool, true, false, not, ◌&&◌, ◌||◌, length-append, append_assoc}
use Rattle.std.specs.Prelude.{Some, None, Result, Ok, Err, IfOk, IfErr, IsTrue, ◌==◌}
use Rattle.std.proofs.lemmas.Bool.{both_ways, ne_eqb}
use Rattle.std.proofs.lemmas.List.{nil_from_length}
use Rattle.std.proofs.lemmas.Str.{chars_past_char, chars-nil, encodes-chars, IsUtf8-past_char}
use Rattle.std.specs.Str.{chars, IsUtf8}
use Rattle.std.specs.Char.{digit_value}
use lib.Utf8.{encode}
use Rattle.wat_lex.specs.grammar.Classes.{size, is_hex, is_confusing}
use Rattle.wat_lex.specs.grammar.Strings.{Element, letter, byte, letter_value, is_raw, is_control}
use Rattle.wat_lex.specs.tokens.StringFaults.{StringFault, no_escape, bad_escape, no_second, bad_second, no_open, bad_open, no_digit, bad_digit}
use Rattle.wat_lex.specs.inside.ScannedStrings.{Escaped, Breaks}
use Rattle.wat_lex.specs.declared.lexer.scan.strings.Broken.{Broken}
use Rattle.wat_lex.specs.declared.lexer.faults.LexError.{LexError}
use Rattle.wat_lex.specs.declared.lexer.faults.LexError.TheVariants.{InvalidStringEscape, InvalidHexDigit, Expected, UnexpectedEof}
use Rattle.wat_lex.specs.declared.lexer.settings.Settings.{Settings}

-- a character was taken
pub record Took (old : List ℕ) (c : ℕ) (new : List ℕ) : Type 0 where
  pub spelled : chars old ≡ c ∷ chars new
  pub utf8 : IsUtf8 new
  pub shorter : length new ≤ length old
  pub size_is : length old ≡ size (chars old)

pub took : (old new : List ℕ) (c : ℕ) → IsUtf8 old → old ≡ encode c ++ new → Took old c new
took old new c u e = record {
  spelled = chars_past_char old new c u e;
  utf8 = IsUtf8-past_char old new c u e;
  shorter = omega (arith, ap length e, length-append (encode c) new);
  size_is = sym (ap length (encodes-chars old u));
}

pub at_end : (old : List ℕ) → length old ≡ 0 → chars old ≡ []
at_end old e = ap chars (nil_from_length old e) ∙ chars-nil

-- one character less before it
pub escaped_on : (flags : Settings) (prefix old mid new value : List ℕ) (c : ℕ) → Took old c mid → Escaped flags (prefix ++ c ∷ []) mid new value → Escaped flags prefix old new value
escaped_on flags prefix old mid new value c t h = record {
  element = subst (λ x. Element flags x value (chars new)) (append_assoc prefix (c ∷ []) (chars mid) ∙ ap (λ x. prefix ++ x) (sym t.spelled)) h.element;
  utf8 = h.utf8;
  shorter = let a = t.shorter in let b = h.shorter in omega arith;
}

pub breaks_on : (flags : Settings) (prefix old mid : List ℕ) (c : ℕ) (broken : Broken) → Took old c mid → Breaks flags (prefix ++ c ∷ []) mid broken → Breaks flags prefix old broken
breaks_on flags prefix old mid c broken t h = record {
  at = h.at;
  fault = subst (λ x. StringFault flags x broken.error h.at) (append_assoc prefix (c ∷ []) (chars mid) ∙ ap (λ x. prefix ++ x) (sym t.spelled)) h.fault;
  place = h.place;
}

pub made_escape : (flags : Settings) (prefix old new : List ℕ) (d : ℕ) (v : List ℕ) → Took old d new → Element flags (prefix ++ d ∷ chars new) v (chars new) → Escaped flags prefix old new v
made_escape flags prefix old new d v t h = record {
  element = subst (λ x. Element flags (prefix ++ x) v (chars new)) (sym t.spelled) h;
  utf8 = t.utf8;
  shorter = t.shorter;
}

-- the fault is at the character that was taken, or at the end
pub breaks_here : (flags : Settings) (prefix old new : List ℕ) (d left : ℕ) (e : LexError) → Took old d new → left ≡ length old → StringFault flags (prefix ++ d ∷ chars new) e (d ∷ chars new) → Breaks flags prefix old (record { left = left; error = e })
breaks_here flags prefix old new d left e t l h = record {
  at = chars old;
  fault = subst (λ x. StringFault flags (prefix ++ x) e x) (sym t.spelled) h;
  place = l ∙ t.size_is;
}

pub breaks_end : (flags : Settings) (prefix old : List ℕ) (e : LexError) → length old ≡ 0 → StringFault flags (prefix ++ []) e [] → Breaks flags prefix old (record { left = 0; error = e })
breaks_end flags prefix old e l h = record { at = []; fault = subst (λ x. StringFault flags (prefix ++ x) e []) (sym (at_end old l)) h; place = refl }

pub fails : (b : Bool) → b ≡ false → IsTrue b → ⊥
fails b e t = both_ways b e t

pub second_read : (flags : Settings) (old new : List ℕ) (c d : ℕ) → Took old d new → is_hex c ≡ true → is_hex d ≡ true → Escaped flags (92 ∷ c ∷ []) old new ((16 * digit_value c + digit_value d) ∷ [])
second_read flags old new c d t a b = made_escape flags (92 ∷ c ∷ []) old new d _ t (byte a b)

pub second_missing : (flags : Settings) (old : List ℕ) (c : ℕ) → length old ≡ 0 → is_hex c ≡ true → Breaks flags (92 ∷ c ∷ []) old (record { left = 0; error = UnexpectedEof })
second_missing flags old c l a = breaks_end flags (92 ∷ c ∷ []) old UnexpectedEof l (no_second a)

pub second_wrong : (flags : Settings) (old new : List ℕ) (c d left : ℕ) → Took old d new → left ≡ length old → is_hex c ≡ true → is_hex d ≡ false → Breaks flags (92 ∷ c ∷ []) old (record { left = left; error = InvalidHexDigit d })
second_wrong flags old new c d left t l a b = breaks_here flags (92 ∷ c ∷ []) old new d left (InvalidHexDigit d) t l (bad_second a (fails (is_hex d) b))

pub escape_missing : (flags : Settings) (old : List ℕ) → length old ≡ 0 → Breaks flags (92 ∷ []) old (record { left = 0; error = UnexpectedEof })
escape_missing flags old l = breaks_end flags (92 ∷ []) old UnexpectedEof l no_escape

pub escape_letter : (flags : Settings) (old new : List ℕ) (c v : ℕ) → Took old c new → letter_value c ≡ Some v → Escaped flags (92 ∷ []) old new (v ∷ [])
escape_letter flags old new c v t h = made_escape flags (92 ∷ []) old new c (v ∷ []) t (letter h)

pub escape_wrong : (flags : Settings) (old new : List ℕ) (c left : ℕ) → Took old c new → left ≡ length old → letter_value c ≡ None → is_hex c ≡ false → c ≢ 117 → Breaks flags (92 ∷ []) old (record { left = left; error = InvalidStringEscape c })
escape_wrong flags old new c left t l a b n = breaks_here flags (92 ∷ []) old new c left (InvalidStringEscape c) t l (bad_escape a (fails (is_hex c) b) n)

pub open_missing : (flags : Settings) (old : List ℕ) → length old ≡ 0 → Breaks flags (92 ∷ 117 ∷ []) old (record { left = 0; error = UnexpectedEof })
open_missing flags old l = breaks_end flags (92 ∷ 117 ∷ []) old UnexpectedEof l no_open

pub open_wrong : (flags : Settings) (old new : List ℕ) (c left : ℕ) → Took old c new → left ≡ length old → c ≢ 123 → Breaks flags (92 ∷ 117 ∷ []) old (record { left = left; error = Expected 123 c })
open_wrong flags old new c left t l n = breaks_here flags (92 ∷ 117 ∷ []) old new c left (Expected 123 c) t l (bad_open n)

allowed : (allow : Bool) (c : ℕ) → (allow ≡ false → is_confusing c ≡ false) → (allow || not (is_confusing c)) ≡ true
allowed true c f = refl
allowed false c f = ap not (f refl)

pub raw_char : (flags : Settings) (c : ℕ) → c ≢ 34 → c ≢ 92 → is_control c ≡ false → (flags.allow ≡ false → is_confusing c ≡ false) → is_raw flags c ≡ true
raw_char flags c a b e f =
    ap (λ x. (not x && not (c == 34) && not (c == 92)) && (flags.allow || not (is_confusing c))) e
    ∙ ap (λ x. (true && not x && not (c == 92)) && (flags.allow || not (is_confusing c))) (ne_eqb c 34 a)
    ∙ ap (λ x. (true && true && not x) && (flags.allow || not (is_confusing c))) (ne_eqb c 92 b)
    ∙ allowed flags.allow c f

pub digits_missing : (flags : Settings) (old : List ℕ) → length old ≡ 0 → Breaks flags (92 ∷ 117 ∷ 123 ∷ []) old (record { left = 0; error = UnexpectedEof })
digits_missing flags old l = breaks_end flags (92 ∷ 117 ∷ 123 ∷ []) old UnexpectedEof l no_digit

pub digits_wrong : (flags : Settings) (old new : List ℕ) (c left : ℕ) → Took old c new → left ≡ length old → is_hex c ≡ false → Breaks flags (92 ∷ 117 ∷ 123 ∷ []) old (record { left = left; error = InvalidHexDigit c })
digits_wrong flags old new c left t l b = breaks_here flags (92 ∷ 117 ∷ 123 ∷ []) old new c left (InvalidHexDigit c) t l (bad_digit (fails (is_hex c) b))

pub if_ok : {T E : Type 0} (r : Result T E) (P Q : T → Type 0) → ((x : T) → P x → Q x) → IfOk r P → IfOk r Q
if_ok (Ok x) P Q f h = f x h
if_ok (Err e) P Q f h = h

pub if_err : {T E : Type 0} (r : Result T E) (P Q : E → Type 0) → ((e : E) → P e → Q e) → IfErr r P → IfErr r Q
if_err (Ok x) P Q f h = h
if_err (Err e) P Q f h = f e h

pub refused : {T E : Type 0} (r : Result T E) (e : E) (P : E → Type 0) → r ≡ Err e → P e → IfErr r P
refused r e P h p = subst (λ x. IfErr x P) (sym h) p
