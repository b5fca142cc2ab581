-- The result of `wat_format`, by that of the formatter.
use Rattle.std.proofs.Common.{◌≡◌, ◌<◌, ◌≤◌, ◌^◌, ℕ, List, refl, sym, ap, subst, length, arith}
use Rattle.std.specs.Prelude.{Option, Some, None, Ok, Err}
use Rattle.wat_lex.specs.tokens.EverySetting.{TilingsAreUnique}
use Rattle.wat_lex.specs.tokens.Setting.{Setting}
use Rattle.wat_lex.specs.declared.lexer.faults.LexFault.{LexFault}
use Rattle.wat_format.specs.Formatting.{Formatted, Refuses}
use Rattle.wat_format.specs.Laws.{LayoutsAreOne, LayoutsHaveNoFault}
use Rattle.wat_format.specs.declared.error.Error.{Error}
use Rattle.wat_format.specs.declared.error.Error.TheVariants as error
use Rattle.wat_c.specs.Answers.{Answers, answer_of, left_of}
use Rattle.wat_c.specs.Formatting.{Formats, refusal_of}
use Rattle.wat_c.specs.declared.answers.Answer.{Answer}
use Rattle.wat_c.specs.declared.answers.Refusal.{Refusal}
use Rattle.wat_c.specs.declared.answers.Refusal.TheVariants.{Other, Memory, Absent, Fault}
use Rattle.wat_c.proofs.Answering.{given, refused}
use Rattle.wat_c.proofs.OneFinding.{One}

formats_error : (s : Setting) (e : Error) → Refuses s e → Formats s (Err (refusal_of e))
formats_error s (error.Memory refused) h = tt
formats_error s (error.Fault fault) h = (fault.offset, h)
formats_error s error.TooLong h = h

pub answered_text : (s : Setting) (old new bytes read : List ℕ) (answer : Answer) → Formatted s read → length read < 2 ^ 32 → bytes ≡ read → answer ≡ answer_of (Ok bytes) → new ≡ left_of old (Ok bytes) → Answers (Formats s) old new answer
answered_text s old new bytes read answer h short e known left = given (Formats s) old new bytes read answer (h, short) e known left

pub answered_error : (s : Setting) (old : List ℕ) (e : Error) (reason : Refusal) (answer : Answer) → Refuses s e → reason ≡ refusal_of e → answer ≡ answer_of (Err reason) → Answers (Formats s) old old answer
answered_error s old e reason answer h is known = refused (Formats s) old reason answer (subst (λ r. Formats s (Err r)) (sym is) (formats_error s e h)) known

-- ---- the result is unique

abbrev fault_of : LexFault → Option LexFault → LexFault
fault_of d None = d
fault_of d (Some f) = f

one_fault : TilingsAreUnique → (s : Setting) (f g : LexFault) → Refuses s (error.Fault f) → Refuses s (error.Fault g) → f ≡ g
one_fault tilings s f g h k = ap (fault_of f) (tilings s 0 h.0 k.0 (Some f) (Some g) h.1 k.1).1

short_long : (a b : List ℕ) → a ≡ b → length a < 2 ^ 32 → 2 ^ 32 ≤ length b → ⊥
short_long a b e h k = let l : length a ≡ length b = ap length e in absurd (omega (arith, l, h, k))

pub one_formatted : LayoutsAreOne → LayoutsHaveNoFault → TilingsAreUnique → (s : Setting) → One (Formats s)
one_formatted one no_fault tilings s (Ok a) (Ok b) h k n m = ap Ok (one s a b h.0 k.0)
one_formatted one no_fault tilings s (Ok a) (Err (Fault e)) h k n m = absurd (no_fault s a (record { offset = k.0; error = e }) h.0 k.1)
one_formatted one no_fault tilings s (Ok a) (Err Other) h k n m = absurd (short_long a k.0 (one s a k.0 h.0 k.1) h.1 k.2)
one_formatted one no_fault tilings s (Err (Fault e)) (Ok b) h k n m = absurd (no_fault s b (record { offset = h.0; error = e }) k.0 h.1)
one_formatted one no_fault tilings s (Err Other) (Ok b) h k n m = absurd (short_long b h.0 (one s b h.0 k.0 h.1) k.1 h.2)
one_formatted one no_fault tilings s (Err (Fault e)) (Err (Fault f)) h k n m =
    ap (λ x. Err (Fault x.error)) (one_fault tilings s (record { offset = h.0; error = e }) (record { offset = k.0; error = f }) h.1 k.1)
one_formatted one no_fault tilings s (Err (Fault e)) (Err Other) h k n m = absurd (no_fault s k.0 (record { offset = h.0; error = e }) k.1 h.1)
one_formatted one no_fault tilings s (Err Other) (Err (Fault e)) h k n m = absurd (no_fault s h.0 (record { offset = k.0; error = e }) h.1 k.1)
one_formatted one no_fault tilings s (Err Other) (Err Other) h k n m = refl
one_formatted one no_fault tilings s (Err (Memory refused)) b h k n m = absurd (n refl)
one_formatted one no_fault tilings s (Err Absent) b h k n m = absurd h
one_formatted one no_fault tilings s (Ok a) (Err (Memory refused)) h k n m = absurd (m refl)
one_formatted one no_fault tilings s (Ok a) (Err Absent) h k n m = absurd k
one_formatted one no_fault tilings s (Err (Fault e)) (Err (Memory refused)) h k n m = absurd (m refl)
one_formatted one no_fault tilings s (Err (Fault e)) (Err Absent) h k n m = absurd k
one_formatted one no_fault tilings s (Err Other) (Err (Memory refused)) h k n m = absurd (m refl)
one_formatted one no_fault tilings s (Err Other) (Err Absent) h k n m = absurd k
