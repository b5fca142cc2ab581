-- Results that report what was found, and write it if it fits.
use Rattle.std.proofs.Common.{◌≡◌, ◌≢◌, ℕ, List, refl, sym, subst, ap, ◌∙◌, arith}
use Rattle.std.specs.Prelude.{Result, Ok, Err}
use Rattle.wat_lex.specs.tokens.Setting.{Setting}
use Rattle.wat_c.specs.Readings.{FindsFault}
use Rattle.wat_c.specs.Answers.{Answers, answer_of, left_of}
use Rattle.wat_c.specs.declared.answers.Answer.{Answer}
use Rattle.wat_c.specs.declared.answers.Refusal.{Refusal}
use Rattle.wat_c.specs.declared.answers.Refusal.TheVariants.{Other, Memory, Absent, Fault}

pub given : (Reads : Result (List ℕ) Refusal → Type 0) (old new bytes read : List ℕ) (answer : Answer) → Reads (Ok read) → bytes ≡ read → answer ≡ answer_of (Ok bytes) → new ≡ left_of old (Ok bytes) → Answers Reads old new answer
given Reads old new bytes read answer reads e known left = record { found = Ok bytes; reads = subst (λ b. Reads (Ok b)) (sym e) reads; known = known; left = left }

pub refused : (Reads : Result (List ℕ) Refusal → Type 0) (old : List ℕ) (refusal : Refusal) (answer : Answer) → Reads (Err refusal) → answer ≡ answer_of (Err refusal) → Answers Reads old old answer
refused Reads old refusal answer reads known = record { found = Err refusal; reads = reads; known = known; left = refl }

free_of : (s : Setting) (p : ℕ) (found : Result (List ℕ) Refusal) → FindsFault s p found → (answer_of found).status ≢ 2
free_of s p (Ok bytes) h e = absurd (omega (arith, e))
free_of s p (Err Other) h e = absurd (omega (arith, e))
free_of s p (Err (Memory refused)) h e = h
free_of s p (Err Absent) h e = h
free_of s p (Err (Fault f)) h e = h

-- Formatting a lexical error does not allocate.
pub fault_free : (s : Setting) (p : ℕ) (old new : List ℕ) (answer : Answer) → Answers (FindsFault s p) old new answer → answer.status ≢ 2
fault_free s p old new answer h e = free_of s p h.found h.reads (sym (ap (λ a. a.status) h.known) ∙ e)
