-- The result of a run without the cause of its failure.
use Rattle.std.proofs.Common.{◌≡◌, ◌⊎◌, ◌↔◌, inl, inr, ℕ, Bool, true, List, refl, ap, subst}
use Rattle.std.specs.Prelude.{Option, Some, None, Result, Ok, Err, IfOk, IfErr, IfSome, IsSome, IsErrOf, OnOk}
use Rattle.std.specs.Str.{IsValidUpTo}
use Rattle.wat_lex.specs.errors.Errors.{Report}
use Rattle.wat_lex.specs.declared.lexer.settings.Settings.{Settings}
use Rattle.wat_lexer_parser.specs.declared.parser.calls.Call.{Call}
use Rattle.wat_tokens_io.specs.declared.failed.Failed.{Failed}
use Rattle.wat_tokens_output.specs.Refusals.{IsFailedWrite, error_of, read_failure, write_failure}
use Rattle.wat_tokens_output.specs.Replies.{Plays}
use Rattle.wat_tokens_output.specs.declared.input.RunError.{RunError}
use Rattle.wat_tokens_output.specs.declared.input.RunError.TheVariants as error
use Rattle.wat_tokens_output.specs.declared.input.RunFailure.{RunFailure}
use Rattle.wat_tokens_output.specs.declared.input.RunFailure.TheVariants.{Read, TooLong, NotUtf8, Write, Memory}
use Rattle.wat_tokens_run.specs.Printed.{Prints, AppendsText}
use Rattle.wat_tokens_run.specs.Runs.{Runs, RunsWithCause, without_cause, without_error}

abbrev Run : Type 0
Run = Result (Option (Option Report)) RunFailure

-- Correspondence of the failures with and without a cause.
reads : (r : Run) → IsErrOf (without_cause r) error.Read ↔ IsSome (read_failure r)
reads (Ok e) = (λ x. cc, λ x. cc)
reads (Err (Read f)) = (λ x. refl, λ x. refl)
reads (Err TooLong) = (λ x. cc, λ x. cc)
reads (Err (NotUtf8 n)) = (λ x. cc, λ x. cc)
reads (Err (Write f)) = (λ x. cc, λ x. cc)
reads (Err (Memory m)) = (λ x. cc, λ x. cc)

writes : (r : Run) → IsErrOf (without_cause r) error.Write ↔ IsSome (write_failure r)
writes (Ok e) = (λ x. cc, λ x. cc)
writes (Err (Read f)) = (λ x. cc, λ x. cc)
writes (Err TooLong) = (λ x. cc, λ x. cc)
writes (Err (NotUtf8 n)) = (λ x. cc, λ x. cc)
writes (Err (Write f)) = (λ x. refl, λ x. refl)
writes (Err (Memory m)) = (λ x. cc, λ x. cc)

written_with : (r : Run) → IsErrOf (without_cause r) error.Write → (f : Failed) × IsErrOf r (Write f)
written_with (Ok e) x = cc
written_with (Err (Read f)) x = cc
written_with (Err TooLong) x = cc
written_with (Err (NotUtf8 n)) x = cc
written_with (Err (Write f)) x = (f, refl)
written_with (Err (Memory m)) x = cc

longs : (r : Run) → IsErrOf (without_cause r) error.TooLong ↔ IsErrOf r TooLong
longs (Ok e) = (λ x. cc, λ x. cc)
longs (Err (Read f)) = (λ x. cc, λ x. cc)
longs (Err TooLong) = (λ x. refl, λ x. refl)
longs (Err (NotUtf8 n)) = (λ x. cc, λ x. cc)
longs (Err (Write f)) = (λ x. cc, λ x. cc)
longs (Err (Memory m)) = (λ x. cc, λ x. cc)

no_texts : (r : Run) → IsErrOf (without_cause r) error.NotUtf8 → (n : ℕ) × IsErrOf r (NotUtf8 n)
no_texts (Ok e) x = cc
no_texts (Err (Read f)) x = cc
no_texts (Err TooLong) x = cc
no_texts (Err (NotUtf8 n)) x = (n, refl)
no_texts (Err (Write f)) x = cc
no_texts (Err (Memory m)) x = cc

no_text : (r : Run) (n : ℕ) → IsErrOf r (NotUtf8 n) → IsErrOf (without_cause r) error.NotUtf8
no_text r n x = ap without_cause x

-- The clauses of `Runs`, one by one.
as_written : (P : Option (Option Report) → Type 0) (r : Run) → IfOk r P → IfOk (without_cause r) P
as_written P (Ok e) h = h
as_written P (Err f) h = tt

as_ended : (P : Type 0) (r : Run) → OnOk r P → OnOk (without_cause r) P
as_ended P (Ok e) h = h
as_ended P (Err f) h = tt

as_unwritten : (P : Type 0) (r : Run) → IfErr r (λ e. IsFailedWrite e ⊎ P) → IfErr (without_cause r) (λ e. (e ≡ error.Write) ⊎ P)
as_unwritten P (Ok e) h = tt
as_unwritten P (Err f) h = elim h [ inl w ↦ inl (ap error_of w.1) | inr p ↦ inr p ]

as_known : (A : Type 0) (o p : Option Failed) → o ≡ p → (A ↔ IsSome o) → (A ↔ IsSome p)
as_known A o p e h = subst (λ q. A ↔ IsSome q) e h

as_long : (P : Type 0) (left : Option (List ℕ)) (r : Run) → IfSome left (λ _. IsErrOf r TooLong ↔ P) → IfSome left (λ _. IsErrOf (without_cause r) error.TooLong ↔ P)
as_long P None r h = tt
as_long P (Some bytes) r h = (λ x. h.0 ((longs r).0 x), λ p. (longs r).1 (h.1 p))

as_no_text : (left : Option (List ℕ)) (ended : Bool) (r : Run) → ((n : ℕ) → IfSome left (λ bytes. IsErrOf r (NotUtf8 n) ↔ ((ended ≡ true) × IsValidUpTo bytes n)))
    → IfSome left (λ bytes. IsErrOf (without_cause r) error.NotUtf8 ↔ ((ended ≡ true) × (n : ℕ) × IsValidUpTo bytes n))
as_no_text None ended r h = tt
as_no_text (Some bytes) ended r h = (
  λ x. let k = no_texts r x in let v = (h k.0).0 k.1 in (v.0, k.0, v.1),
  λ v. no_text r v.1 ((h v.1).1 (v.0, v.2)),
)

pub forget : {S T : Type 0} {left : S → Option (List ℕ)} {read_failed : S → Option Failed} {has_ended : S → Bool} {held : T → Option (List ℕ)} {write_failed : T → Option Failed} {prints : Prints} {input input' : S} {output output' : T} (run : Run)
    → RunsWithCause left read_failed has_ended held write_failed prints input input' output output' run → Runs left read_failed has_ended held write_failed prints input input' output output' (without_cause run)
forget {left = left} {read_failed = read_failed} {has_ended = has_ended} {write_failed = write_failed} {input = input} {input' = input'} {output' = output'} run h = record {
  written = as_written _ run h.written;
  cut = λ x. let k = written_with run x in h.cut k.0 k.1;
  unwritten = as_unwritten _ run h.unwritten;
  ended = as_ended _ run h.ended;
  not_utf8_ended = λ x. let k = no_texts run x in h.not_utf8_ended k.0 k.1;
  write_ended = λ x. let k = written_with run x in h.write_ended k.0 k.1;
  read = as_known _ (read_failure run) (read_failed input') h.read (reads run);
  write = as_known _ (write_failure run) (write_failed output') h.write (writes run);
  short = elim h.short [ inl x ↦ inl ((longs run).1 x) | inr s ↦ inr s ];
  too_long = as_long _ (left input) run h.too_long;
  not_utf8 = as_no_text (left input) (has_ended input') run h.not_utf8;
}

-- `play` returns no error of the text.
abbrev Plain : Type 0
Plain = Result (Option (Option Report)) RunError

abbrev pub unit_of : Run → Result (Unit {0}) RunError
unit_of (Ok found) = Ok tt
unit_of (Err f) = Err (error_of f)

no_error : (settings : Settings) (calls : List Call) (bytes : List ℕ) (found : Option (Option Report)) (old new : Option (List ℕ)) → AppendsText (Plays settings calls bytes) found old new → AppendsText (Plays settings calls bytes) None old new
no_error settings calls bytes found old new h = record { text = h.text; printed = subst (Plays settings calls bytes h.text) h.printed.no_error h.printed; appended = h.appended }

no_error_if : (settings : Settings) (calls : List Call) (left : Option (List ℕ)) (found : Option (Option Report)) (old new : Option (List ℕ)) → IfSome left (λ bytes. AppendsText (Plays settings calls bytes) found old new) → IfSome left (λ bytes. AppendsText (Plays settings calls bytes) None old new)
no_error_if settings calls None found old new h = tt
no_error_if settings calls (Some bytes) found old new h = no_error settings calls bytes found old new h

not_refused : {B : Type 0} (found : Option (Option Report)) (e : RunError) → (IsErrOf {T = Option (Option Report)} {E = RunError} (Ok found) e ↔ B) → (IsErrOf {T = Option (Option Report)} {E = RunError} (Ok None) e ↔ B)
not_refused found e h = (λ x. cc, λ b. let x = h.1 b in cc)

not_refused_if : (found : Option (Option Report)) (e : RunError) (left : Option (List ℕ)) (B : List ℕ → Type 0) → IfSome left (λ bytes. IsErrOf {T = Option (Option Report)} {E = RunError} (Ok found) e ↔ B bytes) → IfSome left (λ bytes. IsErrOf {T = Option (Option Report)} {E = RunError} (Ok None) e ↔ B bytes)
not_refused_if found e None B h = tt
not_refused_if found e (Some bytes) B h = not_refused found e h

without : {S T : Type 0} {left : S → Option (List ℕ)} {read_failed : S → Option Failed} {has_ended : S → Bool} {held : T → Option (List ℕ)} {write_failed : T → Option Failed} {settings : Settings} {calls : List Call} {input input' : S} {output output' : T} (run : Run)
    → Runs left read_failed has_ended held write_failed (Plays settings calls) input input' output output' (without_cause run) → Runs left read_failed has_ended held write_failed (Plays settings calls) input input' output output' (without_error (unit_of run))
without {left = left} {held = held} {settings = settings} {calls = calls} {input = input} {output = output} {output' = output'} (Ok found) h = record {
  written = no_error_if settings calls (left input) found (held output) (held output') h.written;
  cut = λ e. cc;
  unwritten = tt;
  ended = h.ended;
  not_utf8_ended = λ e. cc;
  write_ended = λ e. cc;
  read = not_refused found error.Read h.read;
  write = not_refused found error.Write h.write;
  short = elim h.short [ inl x ↦ cc | inr s ↦ inr s ];
  too_long = not_refused_if found error.TooLong (left input) _ h.too_long;
  not_utf8 = not_refused_if found error.NotUtf8 (left input) _ h.not_utf8;
}
without (Err f) h = h

pub plays : {S T : Type 0} {left : S → Option (List ℕ)} {read_failed : S → Option Failed} {has_ended : S → Bool} {held : T → Option (List ℕ)} {write_failed : T → Option Failed} {settings : Settings} {calls : List Call} {input input' : S} {output output' : T} (run : Run) (result : Result (Unit {0}) RunError)
    → RunsWithCause left read_failed has_ended held write_failed (Plays settings calls) input input' output output' run → result ≡ unit_of run → Runs left read_failed has_ended held write_failed (Plays settings calls) input input' output output' (without_error result)
plays run result h e = rw e (without run (forget run h))
