-- Execution of the command line: the files that are opened and formatted, the output, and the exit status. Not part of
-- the standard.
use Rattle.std.specs.Prelude.{◌≡◌, ◌≢◌, ◌⊎◌, ◌||◌, ◌&&◌, ℕ, Bool, true, false, List, [], ◌∷◌, ◌++◌, length, take, max, nat_lt, codes, string_bytes, Option, Some, None, IsSome, IfSome, MatchOption, Result, Ok, Err, alloc_error, if◌then◌else◌}
use Rattle.std.specs.Io.KnownBytes.{Appends}
use Rattle.std.specs.Option.{option_map}
use Rattle.std.specs.Str.{bytes_eq}
use Rattle.wat_lex.specs.declared.lexer.settings.Settings.{Settings}
use Rattle.wat_tokens_io.specs.Streams.{AppendsPrefix}
use Rattle.wat_tokens_io.specs.declared.failed.Failed.{Failed}
use Rattle.wat_tokens_output.specs.Places.{visible}
use Rattle.wat_tokens_output.specs.declared.input.RunFailure.TheVariants.{Memory, Write}
use Rattle.wat_tokens_args.specs.Help.{help, version}
use Rattle.wat_tokens_args.specs.Arguments.{Word}
use Rattle.wat_tokens_args.specs.Options.{Asks, AsksNothing, AsksPlay, file_in_question, file_names}
use Rattle.wat_tokens_run.specs.Outcomes.{Ran, status}
use Rattle.wat_tokens_run.specs.Printed.{Prints, task_prints}
use Rattle.wat_tokens_args.specs.declared.options.Command.{Command}
use Rattle.wat_tokens_args.specs.declared.options.Command.TheVariants.{Help, Version, Run, Format}
use Rattle.wat_tokens_args.specs.declared.options.Mode.{Mode}
use Rattle.wat_tokens_args.specs.declared.options.Task.{Task}
use Rattle.wat_tokens_args.specs.declared.options.Task.TheVariants as task
use Rattle.wat_tokens_run.specs.declared.outcome.Outcome.{Outcome}
use Rattle.wat_tokens_run.specs.declared.outcome.Outcome.TheVariants.{Listed, Faulty, Refused, Unopened, Wrong, Differs, Kept}

-- The result of opening a file, if it is known: its bytes, or the failure.
abbrev pub Found : Type 0
Found = Option (Result (List ℕ) Failed)

-- The result `found`, if known, is a source with the bytes `left`.
abbrev pub Gives : Found → Option (List ℕ) → Type 0
Gives found left = IfSome found (λ f. (bytes : List ℕ) × (f ≡ Ok bytes) × (left ≡ Some bytes))

-- The result `found`, if known, is the failure `failed`.
abbrev pub Fails : Found → Failed → Type 0
Fails found failed = IfSome found (λ f. f ≡ Err failed)

-- The name of a file in reports: `<stdin>` for `-`.
abbrev pub name_of : List ℕ → List ℕ
name_of file = if bytes_eq file (codes "-") then codes "<stdin>" else file

-- The file name in lines of JSON, or `None` if there is only one file.
abbrev pub label : Bool → List ℕ → Option (List ℕ)
label several file = if several then Some (name_of file) else None

-- The task is a list that is not JSON.
abbrev pub is_plain_list : Task → Bool
is_plain_list task.List = true
is_plain_list (task.Sig names) = true
is_plain_list task.JsonList = false
is_plain_list (task.JsonSig names) = false
is_plain_list (task.Play calls) = false
is_plain_list task.Blank = false
is_plain_list task.Types = false
is_plain_list (task.Module names) = false

-- The line that names a file before its list. An empty line precedes it if a file was opened before (`begun`). Only
-- lists that are not JSON have such a line, and only if there are several files.
abbrev pub head : Bool → Bool → Task → List ℕ → Option (List ℕ)
head several begun t file = if several && is_plain_list t then Some ((if begun then codes "\n" else []) ++ (codes "==> " ++ (visible (name_of file) ++ codes " <==\n"))) else None

-- The sink receives the line `text` and nothing else, without a failed write. Without such a line, it is unchanged.
abbrev pub Headed : {T : Type 0} → (T → Option (List ℕ)) → (T → Option Failed) → Option (List ℕ) → T → T → Type 0
Headed held write_failed None output output' = output' ≡ output
Headed held write_failed (Some text) output output' = Appends (held output) (held output') text × (write_failed output' ≡ None)

-- There is a line before the list, and either its write failed after a prefix of it, or its allocation failed and the
-- sink is unchanged.
abbrev pub Unheaded : {T : Type 0} → (T → Option (List ℕ)) → (T → Option Failed) → Option (List ℕ) → T → T → Outcome → Type 0
Unheaded held write_failed None output output' outcome = ⊥
Unheaded held write_failed (Some text) output output' outcome =
    ((failed : Failed) × (outcome ≡ Refused (Write failed)) × (write_failed output' ≡ Some failed) × AppendsPrefix (held output) (held output') text)
    ⊎ ((outcome ≡ Refused (Memory alloc_error)) × (output' ≡ output))

-- Specification of a run on one file. `opened`: the file is opened, its head is written, and the task runs. `unheaded`:
-- the file is opened, and allocating or writing its head fails. `unopened`: the file can't be opened, and the sink is
-- unchanged.
pub data RanFile {S T : Type 0} (left : S → Option (List ℕ)) (read_failed : S → Option Failed) (has_ended : S → Bool) (held : T → Option (List ℕ)) (write_failed : T → Option Failed) (prints : Prints) (head : Option (List ℕ)) (found : Found) (output output' : T) (outcome : Outcome) : Type 0 where
  opened : (input input' : S) (within : T) → Gives found (left input) → read_failed input ≡ None → Headed held write_failed head output within → Ran left read_failed has_ended held write_failed prints input input' within output' outcome → RanFile left read_failed has_ended held write_failed prints head found output output' outcome
  unheaded : (input : S) → Gives found (left input) → Unheaded held write_failed head output output' outcome → RanFile left read_failed has_ended held write_failed prints head found output output' outcome
  unopened : (failed : Failed) → Fails found failed → outcome ≡ Unopened failed → output' ≡ output → RanFile left read_failed has_ended held write_failed prints head found output output' outcome

-- The file is opened, which changes `inputs` to `inputs'`, and `RanFile` describes the run of the task on it. `several`
-- states that there are several files, and `begun` that one was opened before.
abbrev pub RanFileOf : {I S T : Type 0} → (I → List ℕ → I → Type 0) → (I → List ℕ → Found) → (S → Option (List ℕ)) → (S → Option Failed) → (S → Bool) → (T → Option (List ℕ)) → (T → Option Failed) → Bool → Bool → Settings → Task → List ℕ → I → I → T → T → Outcome → Type 0
RanFileOf opening finding left read_failed has_ended held write_failed several begun settings t file inputs inputs' output output' outcome = opening inputs file inputs' × RanFile left read_failed has_ended held write_failed (task_prints settings (label several file) t) (head several begun t file) (finding inputs file) output output' outcome

-- A relation between a file name, the inputs before and after a run on it, the sink before and after, and the outcome.
abbrev pub Runner : Type 0 → Type 0 → Type 1
Runner I T = List ℕ → I → I → T → T → Outcome → Type 0

-- The file of a run was opened.
abbrev pub was_opened : Outcome → Bool
was_opened Listed = true
was_opened (Faulty error) = true
was_opened (Refused failure) = true
was_opened (Unopened failed) = false
was_opened (Wrong words) = true
was_opened Differs = true
was_opened Kept = true

-- The file of one of these runs was opened.
abbrev pub begun : List Outcome → Bool
begun [] = false
begun (outcome ∷ outcomes) = was_opened outcome || begun outcomes

-- The files are run one after the other with these outcomes. No run follows a failed write.
pub data RanEach {I T : Type 0} (run : Bool → Runner I T) (write_failed : T → Option Failed) : List Word → List Outcome → I → I → T → T → Type 0 where
  none : (inputs : I) (output : T) → RanEach run write_failed [] [] inputs inputs output output
  more : (front files : List Word) (file : Word) (before outcomes : List Outcome) (outcome : Outcome) (inputs between inputs' : I) (output within output' : T) → files ≡ front ++ file ∷ [] → outcomes ≡ before ++ outcome ∷ []
      → RanEach run write_failed front before inputs between output within → write_failed within ≡ None → run (begun before) (string_bytes file) between inputs' within output' outcome → RanEach run write_failed files outcomes inputs inputs' output output'

-- The greatest exit status of these outcomes.
abbrev pub worst : List Outcome → ℕ
worst [] = 0
worst (outcome ∷ outcomes) = max (status true outcome) (worst outcomes)

-- All files are run, or all up to the first failed write, and `exit` is the greatest exit status.
pub record RanFiles {I T : Type 0} (run : Bool → Runner I T) (write_failed : T → Option Failed) (files : List Word) (inputs inputs' : I) (output output' : T) (exit : ℕ) : Type 0 where
  pub outcomes : List Outcome
  pub ran : RanEach run write_failed (take (length outcomes) files) outcomes inputs inputs' output output'
  pub whole : (length outcomes ≡ length files) ⊎ IsSome (write_failed output')
  pub greatest : exit ≡ worst outcomes

-- The files are run, or standard input if no file is named.
pub data RanAll {I T : Type 0} (run : Bool → Runner I T) (write_failed : T → Option Failed) (files : List Word) (inputs inputs' : I) (output output' : T) (exit : ℕ) : Type 0 where
  alone : (outcome : Outcome) → files ≡ [] → run false (codes "-") inputs inputs' output output' outcome → exit ≡ status false outcome → RanAll run write_failed files inputs inputs' output output' exit
  each : files ≢ [] → RanFiles run write_failed files inputs inputs' output output' exit → RanAll run write_failed files inputs inputs' output output' exit

-- The first file, or `-` if no file is named.
abbrev pub first_file : List Word → List ℕ
first_file [] = codes "-"
first_file (file ∷ files) = string_bytes file

-- Specification of a run on `file` with the file `target` as its output. `into`: the run has the sink of `target`.
-- `unmade`: the exit status is 2 and the inputs are unchanged. The clause states no reason; the program returns it if
-- allocating the sink fails.
pub data RanInto {I O : Type 0} (writes : I → List ℕ → O → Type 0) (write_failed : O → Option Failed) (run : Runner I O) (target file : List ℕ) (inputs inputs' : I) (exit : ℕ) : Type 0 where
  into : (sink sink' : O) (outcome : Outcome) → writes inputs target sink → write_failed sink ≡ None → run file inputs inputs' sink sink' outcome → exit ≡ status true outcome → RanInto writes write_failed run target file inputs inputs' exit
  unmade : exit ≡ 2 → inputs' ≡ inputs → RanInto writes write_failed run target file inputs inputs' exit

-- A relation between a file name, the inputs before and after `fmt` on it, and the exit status.
abbrev pub Layer : Type 0 → Type 1
Layer I = List ℕ → I → I → ℕ → Type 0

-- `fmt` runs on each file once, in order, and the last argument is the greatest exit status.
pub data FormatsEach {I : Type 0} (lay : Layer I) : List Word → I → I → ℕ → Type 0 where
  no_file : (inputs : I) → FormatsEach lay [] inputs inputs 0
  one_more : (front files : List Word) (file : Word) (inputs between inputs' : I) (worst status : ℕ) → files ≡ front ++ file ∷ [] → FormatsEach lay front inputs between worst → lay (string_bytes file) between inputs' status → FormatsEach lay files inputs inputs' (max worst status)

-- `fmt` runs on each file once, in order, or on standard input if no file is named. `exit` is the greatest exit status.
pub data FormatsAll {I : Type 0} (lay : Layer I) (files : List Word) (inputs inputs' : I) (exit : ℕ) : Type 0 where
  standard : files ≡ [] → lay (codes "-") inputs inputs' exit → FormatsAll lay files inputs inputs' exit
  named : files ≢ [] → FormatsEach lay files inputs inputs' exit → FormatsAll lay files inputs inputs' exit

-- The word of `file_in_question` names an existing file, if that is known, or there is none.
abbrev pub FileInQuestionExists : (List ℕ → Option Bool) → List Word → Type 0
FileInQuestionExists there words = MatchOption (file_in_question words) (Unit {0}) (λ word. IfSome (there (string_bytes word)) (λ known. known ≡ true))

-- The word of `file_in_question` names no existing file, if that is known.
abbrev pub FileInQuestionMissing : (List ℕ → Option Bool) → List Word → Type 0
FileInQuestionMissing there words = (word : Word) × (file_in_question words ≡ Some word) × IfSome (there (string_bytes word)) (λ known. known ≡ false)

-- The program writes `text`, the help or the version, or a prefix of it if the write failed.
abbrev pub AppendsProgramText : {T : Type 0} → (T → Option (List ℕ)) → (T → Option Failed) → List ℕ → T → T → Outcome → Type 0
AppendsProgramText held write_failed text output output' outcome =
    ((outcome ≡ Listed) × Appends (held output) (held output') text)
    ⊎ ((failed : Failed) × (outcome ≡ Refused (Write failed)) × (write_failed output' ≡ Some failed) × AppendsPrefix (held output) (held output') text)

-- The program writes `text` and returns the exit status of the outcome. The inputs are unchanged.
abbrev pub WritesProgramText : {I T : Type 0} → (T → Option (List ℕ)) → (T → Option Failed) → List ℕ → I → I → T → T → ℕ → Type 0
WritesProgramText held write_failed text inputs inputs' output output' exit = (outcome : Outcome) × AppendsProgramText held write_failed text output output' outcome × (exit ≡ status false outcome) × (inputs' ≡ inputs)

-- The file for the output, or `None` for standard output. The name `-` is standard output.
abbrev pub target_file : Option (List ℕ) → Option (List ℕ)
target_file None = None
target_file (Some name) = if bytes_eq name (codes "-") then None else Some name

-- The command writes the bytes of a module to standard output, and no `-o` is given.
abbrev pub is_binary : Command → Bool
is_binary Help = false
is_binary Version = false
is_binary (Format settings m files) = false
is_binary (Run settings t (Some target) files) = false
is_binary (Run settings t None files) = compiles t
  where
    compiles : Task → Bool
    compiles task.Types = true
    compiles (task.Module names) = true
    compiles task.List = false
    compiles (task.Sig names) = false
    compiles task.JsonList = false
    compiles (task.JsonSig names) = false
    compiles (task.Play calls) = false
    compiles task.Blank = false

-- A task runs on `files` with standard output as its output, or on the first of them with a file as its output.
abbrev pub RanTo : {I T O : Type 0} → (T → Option Failed) → (I → List ℕ → O → Type 0) → (O → Option Failed) → (Bool → Runner I T) → Runner I O → Option (List ℕ) → List Word → I → I → T → T → ℕ → Type 0
RanTo write_failed writes failed run run_into None files inputs inputs' output output' exit = RanAll run write_failed files inputs inputs' output output' exit
RanTo write_failed writes failed run run_into (Some target) files inputs inputs' output output' exit = RanInto writes failed run_into target (first_file files) inputs inputs' exit × (output' ≡ output)

-- Specification of a command that is executed: a task runs, `fmt` runs, or the help or the version is written.
abbrev pub Acted : {I T O : Type 0} → (T → Option (List ℕ)) → (T → Option Failed) → (I → List ℕ → O → Type 0) → (O → Option Failed) → (Bool → Bool → Settings → Task → Runner I T) → (Settings → Task → Runner I O) → (Settings → Mode → Layer I) → Command → I → I → T → T → ℕ → Type 0
Acted held write_failed writes failed run run_into lay (Run settings task target files) inputs inputs' output output' exit = RanTo write_failed writes failed (λ begun. run (nat_lt 1 (length (file_names files))) begun settings task) (run_into settings task) (target_file (option_map (λ t. t.now) target)) (file_names files) inputs inputs' output output' exit
Acted held write_failed writes failed run run_into lay (Format settings m files) inputs inputs' output output' exit = FormatsAll (lay settings m) (file_names files) inputs inputs' exit × (output' ≡ output)
Acted held write_failed writes failed run run_into lay Help inputs inputs' output output' exit = WritesProgramText held write_failed help inputs inputs' output output' exit
Acted held write_failed writes failed run run_into lay Version inputs inputs' output output' exit = WritesProgramText held write_failed version inputs inputs' output output' exit

-- The command does not write the bytes of a module to standard output, or standard output is not a terminal, if that is
-- known.
abbrev pub OutputIsAllowed : Option Bool → Command → Type 0
OutputIsAllowed shown command = (is_binary command ≡ false) ⊎ IfSome shown (λ known. known ≡ false)

-- The command writes the bytes of a module to standard output, and standard output is a terminal, if that is known.
abbrev pub OutputIsRejected : Option Bool → Command → Type 0
OutputIsRejected shown command = (is_binary command ≡ true) × IfSome shown (λ known. known ≡ true)

-- Specification of the program for the command line `words`, with the exit status `exit`. `acted`: the command is
-- executed. `wrong`: the command line is invalid, or the word of `file_in_question` names no existing file.
-- `on_terminal`: the command would write the bytes of a module to a terminal. `unread`: the command is `play`. In the
-- last three cases the exit status is 2, and nothing is opened or written. The clause `unread` states no reason; the
-- program returns it if allocating the calls of `play` fails.
pub data Responded {I T O : Type 0} (held : T → Option (List ℕ)) (write_failed : T → Option Failed) (there : List ℕ → Option Bool) (shown : Option Bool) (writes : I → List ℕ → O → Type 0) (failed : O → Option Failed) (run : Bool → Bool → Settings → Task → Runner I T) (run_into : Settings → Task → Runner I O) (lay : Settings → Mode → Layer I) (words : List Word) (inputs inputs' : I) (output output' : T) (exit : ℕ) : Type 0 where
  acted : (command : Command) → Asks words command → FileInQuestionExists there words → OutputIsAllowed shown command → Acted held write_failed writes failed run run_into lay command inputs inputs' output output' exit → Responded held write_failed there shown writes failed run run_into lay words inputs inputs' output output' exit
  wrong : AsksNothing words ⊎ FileInQuestionMissing there words → exit ≡ 2 → inputs' ≡ inputs → output' ≡ output → Responded held write_failed there shown writes failed run run_into lay words inputs inputs' output output' exit
  on_terminal : (command : Command) → Asks words command → OutputIsRejected shown command → exit ≡ 2 → inputs' ≡ inputs → output' ≡ output → Responded held write_failed there shown writes failed run run_into lay words inputs inputs' output output' exit
  unread : AsksPlay words → exit ≡ 2 → inputs' ≡ inputs → output' ≡ output → Responded held write_failed there shown writes failed run run_into lay words inputs inputs' output output' exit
