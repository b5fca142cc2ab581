-- The rules for complaints: none of them leads to the usage line, and the modes of `fmt`.
use Rattle.std.proofs.Common.{◌≡◌, ◌≢◌, ◌∙◌, ◌+◌, ◌≤◌, ℕ, zero, suc, Bool, true, false, List, [], ◌∷◌, length, refl, sym, ap, arith}
use Rattle.std.specs.Prelude.{◌||◌, ◌&&◌, not, nat_lt, Option, Some, None, IfSome, IfNone, is_some, if◌then◌else◌, string_bytes}
use Rattle.std.specs.Option.{option_map}
use Rattle.std.proofs.lemmas.Bool.Decides.{nat_tests}
use Rattle.wat_tokens_args.specs.Arguments.{Word, Given, after_front, first_of, is_file, named_kind, times}
use Rattle.wat_tokens_args.specs.Complaints.{Reason, asks_for_words, first_reason, is_mode, is_own_option, modes_in, plays, reason_beyond, reason_of, rejects, repeated, wrong_command, wrong_number, wrong_option, wrong_start, wrong_word}
use Rattle.wat_tokens_args.specs.Complaints.Reason.{Usage, Twice, Nameless, Late, Unknown, Nothing, NoJson, NoFlags, NoCall, Mixed, TooMany, NoOutput, NoNames, NoValidate, Overwrites, NoMode, Modes, Terminal}
use Rattle.wat_tokens_args.specs.Options.{AsksMode, Parts, all_args, files_of, formats, looks_like_file, overwrites, parts_of, verb_named}
use Rattle.wat_tokens_args.specs.declared.arguments.Kind.TheVariants as kind
use Rattle.wat_tokens_args.specs.declared.complaint.Complaint.{Complaint}
use Rattle.wat_tokens_args.specs.declared.complaint.Complaint.TheVariants as variant
use Rattle.wat_tokens_args.specs.declared.options.Mode.{Mode}
use Rattle.wat_tokens_args.specs.declared.options.Mode.TheVariants as mode

abbrev is_usage : Reason → Bool
is_usage Usage = true
is_usage (Twice word) = false
is_usage (Nameless word) = false
is_usage (Late word) = false
is_usage (Unknown word) = false
is_usage (Nothing word) = false
is_usage NoJson = false
is_usage NoFlags = false
is_usage NoCall = false
is_usage Mixed = false
is_usage TooMany = false
is_usage NoOutput = false
is_usage NoNames = false
is_usage NoValidate = false
is_usage Overwrites = false
is_usage NoMode = false
is_usage Modes = false
is_usage Terminal = false

abbrev IsNamed : Option Reason → Type 0
IsNamed None = Unit {0}
IsNamed (Some reason) = is_usage reason ≡ false

first_named : (first : Option Reason) (reasons : List (Option Reason)) (last : Reason) → IsNamed first → is_usage (first_reason reasons last) ≡ false → is_usage (first_reason (first ∷ reasons) last) ≡ false
first_named None reasons last h k = k
first_named (Some reason) reasons last h k = h

word_named : (word : Word) → is_usage (wrong_word word) ≡ false
word_named word = by (is_some (named_kind word)) (asks_for_words word) (is_mode word)
  where
    by : (a b c : Bool) → is_usage (if a then Nameless (string_bytes word) else if b then Late (string_bytes word) else if c then NoMode else Unknown (string_bytes word)) ≡ false
    by true b c = refl
    by false true c = refl
    by false false true = refl
    by false false false = refl

repeated_named : (option : Option (List ℕ)) → IsNamed (option_map Twice option)
repeated_named None = tt
repeated_named (Some option) = refl

start_named : (there : Bool) (words : List Word) → IsNamed (wrong_start there words)
start_named there [] = tt
start_named there (word ∷ words) = by (is_own_option word || not (is_file word)) (is_some (verb_named word) || (looks_like_file word || there))
  where
    by : (a b : Bool) → IsNamed (if a then Some (wrong_word word) else if b then None else Some (Nothing (string_bytes word)))
    by true b = word_named word
    by false true = tt
    by false false = refl

option_named : (p : Parts) → IsNamed (wrong_option p)
option_named p = by (rejects p kind.Json) (rejects p kind.Allow || rejects p kind.Strict) (rejects p kind.Output) (rejects p kind.NoNames) (rejects p kind.NoValidate) (rejects p kind.Check || (rejects p kind.Write || rejects p kind.Diff))
  where
    by : (a b c d e f : Bool) → IsNamed (if a then Some NoJson else if b then Some NoFlags else if c then Some NoOutput else if d then Some NoNames else if e then Some NoValidate else if f then Some NoMode else None)
    by true b c d e f = refl
    by false true c d e f = refl
    by false false true d e f = refl
    by false false false true e f = refl
    by false false false false true f = refl
    by false false false false false true = refl
    by false false false false false false = tt

argument_named : (word : Option Word) → IsNamed (option_map wrong_word word)
argument_named None = tt
argument_named (Some word) = word_named word

number_named : (p : Parts) → is_usage (wrong_number p) ≡ false
number_named p = by (formats p.verb && nat_lt 1 (modes_in (all_args p))) (plays p.verb && not (nat_lt 1 (length (files_of p)))) (nat_lt 0 (times kind.File (all_args p)) && nat_lt 0 (length p.last)) (overwrites p)
  where
    by : (a b c d : Bool) → is_usage (if a then Modes else if b then NoCall else if c then Mixed else if d then Overwrites else TooMany) ≡ false
    by true b c d = refl
    by false true c d = refl
    by false false true d = refl
    by false false false true = refl
    by false false false false = refl

command_named : (p : Parts) → is_usage (wrong_command p) ≡ false
command_named p = first_named (wrong_option p) _ _ (option_named p) (first_named (option_map wrong_word (first_of kind.Wrong p.args)) _ _ (argument_named (first_of kind.Wrong p.args)) (number_named p))

beyond_named : (there : Bool) (words : List Word) → is_usage (reason_beyond there words) ≡ false
beyond_named there words =
    first_named (option_map Twice (repeated (all_args (parts_of words)))) _ _ (repeated_named (repeated (all_args (parts_of words)))) (first_named (wrong_start there (after_front words)) _ _ (start_named there (after_front words)) (command_named (parts_of words)))

pub not_usage : (there : Bool) (words : List Word) (complaint : Complaint) → reason_of complaint ≡ reason_beyond there words → complaint ≢ variant.Usage
not_usage there words complaint e h =
    let told : true ≡ false = ap (λ c. is_usage (reason_of c)) (sym h) ∙ ap is_usage e ∙ beyond_named there words in cc

-- The options that select a mode of `fmt` select none if there are several of them.
some_mode : (args : List Given) (check write diff : ℕ) → times kind.Check args ≡ check → times kind.Write args ≡ write → times kind.Diff args ≡ diff → check + (write + diff) ≤ 1 → (m : Mode) × AsksMode args m
some_mode args zero zero zero e f g h = (mode.Print, record { check = e; write = f; diff = g })
some_mode args (suc zero) zero zero e f g h = (mode.Check, record { check = e; write = f; diff = g })
some_mode args zero (suc zero) zero e f g h = (mode.Write, record { check = e; write = f; diff = g })
some_mode args zero zero (suc zero) e f g h = (mode.Diff, record { check = e; write = f; diff = g })
some_mode args (suc (suc check)) write diff e f g h = absurd (omega arith)
some_mode args (suc zero) (suc write) diff e f g h = absurd (omega arith)
some_mode args (suc zero) zero (suc diff) e f g h = absurd (omega arith)
some_mode args zero (suc (suc write)) diff e f g h = absurd (omega arith)
some_mode args zero (suc zero) (suc diff) e f g h = absurd (omega arith)
some_mode args zero zero (suc (suc diff)) e f g h = absurd (omega arith)

one_mode : (args : List Given) (m : Mode) → AsksMode args m → modes_in args ≤ 1
one_mode args mode.Print h = omega (arith, h.check, h.write, h.diff)
one_mode args mode.Check h = omega (arith, h.check, h.write, h.diff)
one_mode args mode.Write h = omega (arith, h.check, h.write, h.diff)
one_mode args mode.Diff h = omega (arith, h.check, h.write, h.diff)

few_is : (n : ℕ) → n ≤ 1 → false ≡ nat_lt 1 n
few_is n h = grind (arith, nat_tests)

is_few : (n : ℕ) → nat_lt 1 n ≡ false → n ≤ 1
is_few n h = grind (arith, nat_tests)

pub several_modes : (args : List Given) (m : Option Mode) (none : Bool) → IfSome m (λ m. AsksMode args m) → IfNone m ((m : Mode) → ¬ AsksMode args m) → is_some m ≡ not none → none ≡ nat_lt 1 (modes_in args)
several_modes args (Some m) true h k e = cc
several_modes args (Some m) false h k e = few_is (modes_in args) (one_mode args m h)
several_modes args None false h k e = cc
several_modes args None true h k e = by (nat_lt 1 (modes_in args)) refl
  where
    by : (b : Bool) → nat_lt 1 (modes_in args) ≡ b → true ≡ nat_lt 1 (modes_in args)
    by true f = sym f
    by false f =
        let some = some_mode args (times kind.Check args) (times kind.Write args) (times kind.Diff args) refl refl refl (is_few (modes_in args) f) in
        absurd (k some.0 some.1)
