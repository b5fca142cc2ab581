-- A formatted error: its message replaces the end of another message, before the location.
use Rattle.std.proofs.Common.{◌≡◌, ◌≤◌, ◌<◌, ◌+◌, ◌-◌, ℕ, List, [], ◌++◌, length, take, drop, refl, ap, sym, ◌∙◌, subst, arith, length-append, append_assoc, Bool, true, false}
use Rattle.std.specs.Prelude.{codes, nat_lt, nat_le, if◌then◌else◌, Ok, Err}
use Rattle.std.specs.Fmt.{decimal}
use Rattle.std.proofs.lemmas.Bool.Decides.{nat_tests}
use Rattle.std.proofs.lemmas.List.{take_all, drop_all, drop_at, append-nil, length-take-le}
use Rattle.wat_lex.specs.errors.Rendering.{Excerpt, overwrite_start, align_right}
use Rattle.wat_c.specs.Answers.{Answers}
use Rattle.wat_c.specs.Printing.{Prints, printed_in}
use Rattle.wat_c.specs.declared.answers.Refusal.TheVariants.{Other, Memory, Absent, Fault}
use Rattle.wat_c.proofs.MessageBytes.{put_there}
use Rattle.wat_c.proofs.OneFinding.{One}

pub whole_laid : (all before : List ℕ) → length before ≡ length all → overwrite_start all before ≡ all
whole_laid all before e =
    ap (λ x. x ++ drop (length all) before) (take_all (length before) all (omega (arith, e))) ∙ ap (λ x. all ++ x) (drop_all (length all) before (omega (arith, e))) ∙ append-nil all

-- The message is written over the end of another message, which was written so that the location follows at the right
-- index.
pub message_over : (m out w post all other place : List ℕ) → 16 ≤ length m → length other ≡ 16 → all ≡ other ++ place → w ≡ all → length m ≤ length out + 16 → post ≡ []
    → m ++ drop (length m) (take (length m - 16) out ++ (w ++ post)) ≡ m ++ place
message_over m out w post all other place long o e f room none =
    let i = length m - 16 in
    let front : length (take i out ++ other) ≡ length m = omega (arith, length-append (take i out) other, length-take-le i out (omega (arith, room, long)), o, long) in
    let same : take i out ++ (w ++ post) ≡ (take i out ++ other) ++ place =
    ap (λ x. take i out ++ (w ++ x)) none ∙ ap (λ x. take i out ++ x) (append-nil w ∙ f ∙ e) ∙ sym (append_assoc (take i out) other place) in
    ap (λ x. m ++ x) (ap (drop (length m)) same ∙ drop_at (take i out ++ other) place (length m) front)

pub one_print : (text : List ℕ) (offset : ℕ) (message file : List ℕ) → One (Prints text offset message file)
one_print text offset message file (Ok a) (Ok b) h k n m = ap Ok (h ∙ sym k)
one_print text offset message file (Err (Memory refused)) b h k n m = absurd (n refl)
one_print text offset message file (Ok a) (Err (Memory refused)) h k n m = absurd (m refl)
one_print text offset message file (Ok a) (Err Other) h k n m = absurd k
one_print text offset message file (Ok a) (Err Absent) h k n m = absurd k
one_print text offset message file (Ok a) (Err (Fault e)) h k n m = absurd k
one_print text offset message file (Err Other) b h k n m = absurd h
one_print text offset message file (Err Absent) b h k n m = absurd h
one_print text offset message file (Err (Fault e)) b h k n m = absurd h

-- ---- before and after the name

abbrev pub after_far : Excerpt → List ℕ
after_far e = codes ":" ++ (decimal e.line ++ (codes ":" ++ decimal e.column))

abbrev pub after_near : Excerpt → List ℕ
after_near e =
    codes ":" ++ (decimal e.line ++ (codes ":" ++ (decimal e.column ++ (codes "\n      |" ++ (codes "\n " ++ (align_right 4 (decimal e.line) ++ (codes " | " ++ (e.snippet ++ (codes "\n      | " ++ align_right e.column (codes "^"))))))))))

-- The bytes of the location, by the first of them.
pub record Around (shown : List ℕ) (e : Excerpt) (near : Bool) : Type 0 where
  pub is : nat_lt 500 e.column ≡ (if near then false else true)
  pub bytes : shown ≡ codes "empty identifier" ++ ((if near then codes "\n     --> " else codes " at ") ++ (codes "<anon>" ++ (if near then after_near e else after_far e)))

-- ---- into a buffer

pub fits_put : (text : List ℕ) (offset : ℕ) (message file old new : List ℕ) (n : ℕ) → file ≡ file → n ≡ length (printed_in text offset message file) → new ≡ printed_in text offset message file → n ≤ length old
    → Answers (Prints text offset message file) old (new ++ drop n old) (record { needed = n; status = 0 })
fits_put text offset message file old new n _ e f l =
    let all = printed_in text offset message file in
    record {
      found = Ok all;
      reads = refl;
      known = λ i. record { needed = e i; status = 0 };
      left = (λ i. f i ++ drop (e i) old) ∙ put_there all old (subst (λ x. x ≤ length old) e l);
    }

pub short_put : (text : List ℕ) (offset : ℕ) (message file old : List ℕ) (n : ℕ) → n ≡ length (printed_in text offset message file) → length old < n
    → Answers (Prints text offset message file) old old (record { needed = n; status = 0 })
short_put text offset message file old n e l =
    let all = printed_in text offset message file in
    let over : nat_le (length all) (length old) ≡ false = (let k : length old < length all = omega (arith, e, l) in grind (arith, nat_tests)) in
    record {
      found = Ok all;
      reads = refl;
      known = λ i. record { needed = e i; status = 0 };
      left = sym (ap (λ b. if b then all ++ drop (length all) old else old) over);
    }

pub joined_four : (none a b c d message front name back : List ℕ) → none ≡ [] → a ≡ none ++ message → b ≡ a ++ front → c ≡ b ++ name → d ≡ c ++ back → d ≡ message ++ (front ++ (name ++ back))
joined_four none a b c d message front name back z e f g h =
    h ∙ ap (λ x. x ++ back) (g ∙ ap (λ x. x ++ name) (f ∙ ap (λ x. x ++ front) (e ∙ ap (λ x. x ++ message) z))) ∙ append_assoc (message ++ front) name back ∙ append_assoc message front (name ++ back)
