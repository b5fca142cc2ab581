-- Parsing of the command line: its parts, and the command that they form. Not part of the standard.
use Rattle.std.specs.Prelude.{◌≡◌, ◌⊎◌, ◌≤◌, ◌+◌, ◌-◌, ◌||◌, ◌&&◌, ◌==◌, nat_lt, not, ℕ, Bool, true, false, ⊤, List, [], ◌∷◌, ◌++◌, take, drop, length, codes, if◌then◌else◌, string_bytes, Option, Some, None, is_some, unwrap_or}
use Rattle.std.specs.List.{list_any, prefix_len}
use Rattle.std.specs.Str.{bytes_eq}
use Rattle.std.specs.Option.{option_map}
use Rattle.wat_lex.specs.declared.lexer.settings.Settings.{Settings}
use Rattle.wat_lexer_parser.specs.declared.parser.calls.Call.{Call}
use Rattle.wat_tokens_output.specs.Calls.{NamesCall}
use Rattle.wat_tokens_args.specs.Arguments.{Word, Given, spells, is_file, args_of, after_front, times, first_of, files_in}
use Rattle.wat_tokens_args.specs.declared.arguments.Kind.{Kind}
use Rattle.wat_tokens_args.specs.declared.arguments.Kind.TheVariants as kind
use Rattle.wat_tokens_args.specs.declared.options.Calls.{Calls}
use Rattle.wat_tokens_args.specs.declared.options.Calls.TheVariants.{Owned, Borrowed}
use Rattle.wat_tokens_args.specs.declared.options.Command.{Command}
use Rattle.wat_tokens_args.specs.declared.options.Command.TheVariants as command
use Rattle.wat_tokens_args.specs.declared.options.FileNames.{FileNames}
use Rattle.wat_tokens_args.specs.declared.options.Line.{Line}
use Rattle.wat_tokens_args.specs.declared.options.Mode.{Mode}
use Rattle.wat_tokens_args.specs.declared.options.Mode.TheVariants as mode
use Rattle.wat_tokens_args.specs.declared.options.Task.{Task}
use Rattle.wat_tokens_args.specs.declared.options.Task.TheVariants as task
use Rattle.wat_tokens_args.specs.declared.options.Verb.{Verb}
use Rattle.wat_tokens_args.specs.declared.options.Verb.TheVariants as verb

-- The command with this name.
abbrev pub verb_named : Word → Option Verb
verb_named word =
    if spells (codes "list") word then Some verb.List
    else if spells (codes "sig") word then Some verb.Sig
    else if spells (codes "play") word then Some verb.Play
    else if spells (codes "blank") word then Some verb.Blank
    else if spells (codes "types") word then Some verb.Types
    else if spells (codes "module") word then Some verb.Module
    else if spells (codes "fmt") word then Some verb.Fmt
    else None

-- The command that the words begin with, or `list` if they begin with none; and the words after its name.
abbrev pub verb_of : List Word → Verb
verb_of [] = verb.List
verb_of (word ∷ words) = unwrap_or (verb_named word) verb.List

abbrev pub after_verb : List Word → List Word
after_verb [] = []
after_verb (word ∷ words) = if is_some (verb_named word) then words else word ∷ words

-- The number of words before `--`.
abbrev pub own_len : List Word → ℕ
own_len words = prefix_len (λ word. not (spells (codes "--") word)) words

-- The words before `--`, and the words after it.
abbrev pub own_words : List Word → List Word
own_words words = take (own_len words) words

abbrev pub last_words : List Word → List Word
last_words words = drop (own_len words + 1) words

-- Each word denotes the call of the same index, and the two lists have the same length.
abbrev pub NamesCalls : List Word → List Call → Type 0
NamesCalls [] [] = ⊤
NamesCalls [] (call ∷ calls) = ⊥
NamesCalls (word ∷ words) [] = ⊥
NamesCalls (word ∷ words) (call ∷ calls) = NamesCall (string_bytes word) call × NamesCalls words calls

-- The calls, whether parsed from the command line or borrowed from the caller.
abbrev pub calls_of : Calls → List Call
calls_of (Owned calls) = calls.items
calls_of (Borrowed calls) = calls.now

-- A command, the presence of `--json`, the absence of `--no-names` and of `--no-validate`, and the names or calls after the
-- command determine the task. Commands that write no JSON have no task with `--json`, and `fmt` has none at all.
abbrev pub AsksTask : Verb → Bool → Bool → Bool → List Word → Task → Type 0
AsksTask v json named valid words task.List = (v ≡ verb.List) × (json ≡ false)
AsksTask v json named valid words (task.Sig names) = (v ≡ verb.Sig) × (json ≡ false) × (names.now ≡ words)
AsksTask v json named valid words task.JsonList = (v ≡ verb.List) × (json ≡ true)
AsksTask v json named valid words (task.JsonSig names) = (v ≡ verb.Sig) × (json ≡ true) × (names.now ≡ words)
AsksTask v json named valid words (task.Play calls) = (v ≡ verb.Play) × (json ≡ false) × NamesCalls words (calls_of calls)
AsksTask v json named valid words task.Blank = (v ≡ verb.Blank) × (json ≡ false)
AsksTask v json named valid words task.Types = (v ≡ verb.Types) × (json ≡ false)
AsksTask v json named valid words (task.Module options) = (v ≡ verb.Module) × (json ≡ false) × (options.has_names ≡ named) × (options.is_checked ≡ valid)

-- All words after the command are names or calls. After any other command they are options and files.
abbrev pub owns_operands : Verb → Bool
owns_operands verb.List = false
owns_operands verb.Sig = true
owns_operands verb.Play = true
owns_operands verb.Blank = false
owns_operands verb.Types = false
owns_operands verb.Module = false
owns_operands verb.Fmt = false

-- The command accepts several files. Other commands accept at most one.
abbrev pub accepts_many_files : Verb → Bool
accepts_many_files verb.List = true
accepts_many_files verb.Sig = true
accepts_many_files verb.Play = false
accepts_many_files verb.Blank = false
accepts_many_files verb.Types = false
accepts_many_files verb.Module = false
accepts_many_files verb.Fmt = true

-- The command accepts lexer flags.
abbrev pub takes_flags : Verb → Bool
takes_flags verb.List = true
takes_flags verb.Sig = true
takes_flags verb.Play = true
takes_flags verb.Blank = true
takes_flags verb.Types = false
takes_flags verb.Module = false
takes_flags verb.Fmt = true

-- The command writes a list of tokens, and accepts `--json`.
abbrev pub lists : Verb → Bool
lists verb.List = true
lists verb.Sig = true
lists verb.Play = false
lists verb.Blank = false
lists verb.Types = false
lists verb.Module = false
lists verb.Fmt = false

-- The command is `fmt`, and accepts `--check`, `--write` and `--diff`.
abbrev pub formats : Verb → Bool
formats verb.List = false
formats verb.Sig = false
formats verb.Play = false
formats verb.Blank = false
formats verb.Types = false
formats verb.Module = false
formats verb.Fmt = true

-- The command writes the bytes of a module, and accepts `--output`.
abbrev pub compiles : Verb → Bool
compiles verb.List = false
compiles verb.Sig = false
compiles verb.Play = false
compiles verb.Blank = false
compiles verb.Types = true
compiles verb.Module = true
compiles verb.Fmt = false

-- The command writes a name section, and accepts `--no-names` and `--no-validate`.
abbrev pub writes_names : Verb → Bool
writes_names verb.List = false
writes_names verb.Sig = false
writes_names verb.Play = false
writes_names verb.Blank = false
writes_names verb.Types = false
writes_names verb.Module = true
writes_names verb.Fmt = false

-- The command accepts arguments of a kind.
abbrev pub takes : Verb → Kind → Bool
takes v kind.Allow = takes_flags v
takes v kind.Strict = takes_flags v
takes v kind.Json = lists v
takes v kind.NoNames = writes_names v
takes v kind.NoValidate = writes_names v
takes v kind.Check = formats v
takes v kind.Write = formats v
takes v kind.Diff = formats v
takes v kind.Named = true
takes v kind.Output = compiles v
takes v kind.File = true
takes v kind.Wrong = false

-- The command accepts each of these arguments.
abbrev pub take_all : Verb → List Given → Bool
take_all v [] = true
take_all v (given ∷ args) = takes v given.kind && take_all v args

-- The parts of a command line: the options before the command; the command; the names of `sig` or the calls of `play`;
-- the arguments of any other command, up to `--`; and the files after `--`.
pub record Parts : Type 0 where
  pub front : List Given
  pub verb : Verb
  pub own : List Word
  pub args : List Given
  pub last : List Word

abbrev pub parts : List Given → Verb → List Word → Bool → Parts
parts front v after true = record { front = front; verb = v; own = after; args = []; last = [] }
parts front v after false = record { front = front; verb = v; own = []; args = args_of (own_words after); last = last_words after }

abbrev pub parts_of : List Word → Parts
parts_of words = parts (args_of (take (length words - length (after_front words)) words)) (verb_of (after_front words)) (after_verb (after_front words)) (owns_operands (verb_of (after_front words)))

-- The parts of a command line after `Line::of` has split it.
abbrev pub line_parts : Line → Parts
line_parts l = record { front = args_of l.front.now; verb = l.verb; own = l.own.now; args = args_of l.args.now; last = l.last.now }

-- All arguments, before and after the command.
abbrev pub all_args : Parts → List Given
all_args p = p.front ++ p.args

-- The input files in order.
abbrev pub files_of : Parts → List Word
files_of p = files_in p.front ++ (files_in p.args ++ p.last)

abbrev pub file_names : FileNames → List Word
file_names f = files_in (args_of f.front.now) ++ (files_in (args_of f.args.now) ++ f.last.now)

-- `files` are the input files, and the command accepts their number. File names without an option are before `--` or
-- after it, not both.
pub record HasFiles (p : Parts) (files : List Word) : Type 0 where
  pub all : files ≡ files_of p
  pub alone : (times kind.File (all_args p) ≡ 0) ⊎ (length p.last ≡ 0)
  pub few : (accepts_many_files p.verb ≡ true) ⊎ (length files ≤ 1)

-- The name in `--output`, if it is given.
abbrev pub target_of : Parts → Option (List ℕ)
target_of p = option_map string_bytes (first_of kind.Output (all_args p))

-- The output file is the first input file, by name. `-` is not a file.
abbrev pub overwrites : Parts → Bool
overwrites p = is_first (target_of p) (files_of p)
  where
    is_first : Option (List ℕ) → List Word → Bool
    is_first None files = false
    is_first (Some target) [] = false
    is_first (Some target) (file ∷ files) = spells target file && not (bytes_eq target (codes "-"))

-- One if the condition holds, and zero otherwise.
abbrev pub once_if : Bool → ℕ
once_if b = if b then 1 else 0

-- `--json` is given.
abbrev pub wants_json : List Given → Bool
wants_json args = nat_lt 0 (times kind.Json args)

-- `--no-names` is not given.
abbrev pub wants_names : List Given → Bool
wants_names args = not (nat_lt 0 (times kind.NoNames args))

-- `--no-validate` is not given.
abbrev pub validates : List Given → Bool
validates args = not (nat_lt 0 (times kind.NoValidate args))

-- The arguments select these settings: each flag is given once if its setting is on, and not at all otherwise. `--json`,
-- `--no-names` and `--no-validate` are given at most once.
pub record Selects (args : List Given) (settings : Settings) : Type 0 where
  pub allow : times kind.Allow args ≡ once_if settings.allow
  pub strict : times kind.Strict args ≡ once_if settings.strict
  pub json : times kind.Json args ≡ once_if (wants_json args)
  pub names : times kind.NoNames args ≡ once_if (not (wants_names args))
  pub checks : times kind.NoValidate args ≡ once_if (not (validates args))

abbrev pub is_check : Mode → Bool
is_check mode.Print = false
is_check mode.Check = true
is_check mode.Write = false
is_check mode.Diff = false

abbrev pub is_write : Mode → Bool
is_write mode.Print = false
is_write mode.Check = false
is_write mode.Write = true
is_write mode.Diff = false

abbrev pub is_diff : Mode → Bool
is_diff mode.Print = false
is_diff mode.Check = false
is_diff mode.Write = false
is_diff mode.Diff = true

-- The arguments select this mode: its option is given once, and the options of the other modes are not given. `Print`
-- has no option.
pub record AsksMode (args : List Given) (m : Mode) : Type 0 where
  pub check : times kind.Check args ≡ once_if (is_check m)
  pub write : times kind.Write args ≡ once_if (is_write m)
  pub diff : times kind.Diff args ≡ once_if (is_diff m)

-- The first word is `text`.
abbrev pub begins_with : List ℕ → List Word → Bool
begins_with text [] = false
begins_with text (word ∷ words) = spells text word

-- The first word requests help.
abbrev pub asks_help : List Word → Bool
asks_help words = begins_with (codes "--help") words || (begins_with (codes "-h") words || begins_with (codes "help") words)

-- The first word requests the version.
abbrev pub asks_version : List Word → Bool
asks_version words = begins_with (codes "--version") words || begins_with (codes "-V") words

-- The first word is a command other than `sig` and `play`.
abbrev pub begins_with_files : List Word → Bool
begins_with_files [] = false
begins_with_files (word ∷ words) = takes_files (verb_named word)
  where
    takes_files : Option Verb → Bool
    takes_files None = false
    takes_files (Some v) = not (owns_operands v)

-- Help is requested: by the first word after the leading options, or by the first word after a command that reads
-- files.
abbrev pub wants_help : List Word → Bool
wants_help words = asks_help (after_front words) || (begins_with_files (after_front words) && asks_help (after_verb (after_front words)))

-- The words request `task` with these settings over `files`. The output goes to the file `target` if `--output` is
-- given, at most once; it is not the first of `files`. `--` is not the first word after the leading options.
pub record AsksRun (words : List Word) (settings : Settings) (task : Task) (target : Option (List ℕ)) (files : List Word) : Type 0 where
  pub taken : take_all (parts_of words).verb (all_args (parts_of words)) ≡ true
  pub selects : Selects (all_args (parts_of words)) settings
  pub asked : AsksTask (parts_of words).verb (wants_json (all_args (parts_of words))) (wants_names (all_args (parts_of words))) (validates (all_args (parts_of words))) (parts_of words).own task
  pub target_is : target ≡ target_of (parts_of words)
  pub once : times kind.Output (all_args (parts_of words)) ≤ 1
  pub apart : overwrites (parts_of words) ≡ false
  pub named : HasFiles (parts_of words) files
  pub begun : begins_with (codes "--") (after_front words) ≡ false
  pub other : wants_help words ≡ false

-- The words request `fmt` with these settings, in the mode `m`, over `files`.
pub record AsksFormat (words : List Word) (settings : Settings) (m : Mode) (files : List Word) : Type 0 where
  pub taken : take_all (parts_of words).verb (all_args (parts_of words)) ≡ true
  pub selects : Selects (all_args (parts_of words)) settings
  pub command : (parts_of words).verb ≡ verb.Fmt
  pub done : AsksMode (all_args (parts_of words)) m
  pub named : HasFiles (parts_of words) files
  pub other : wants_help words ≡ false

-- The words request the command: help, the version, a task, or `fmt`.
abbrev pub Asks : List Word → Command → Type 0
Asks words command.Help = wants_help words ≡ true
Asks words command.Version = asks_version words ≡ true
Asks words (command.Run settings task target files) = AsksRun words settings task (option_map (λ t. t.now) target) (file_names files)
Asks words (command.Format settings m files) = AsksFormat words settings m (file_names files)

-- The command is `play`.
abbrev pub AsksPlay : List Word → Type 0
AsksPlay words = (parts_of words).verb ≡ verb.Play

-- The words request some command.
abbrev pub AsksSomething : List Word → Type 0
AsksSomething words = Asks words command.Help ⊎ (Asks words command.Version ⊎ (((settings : Settings) × (task : Task) × (target : Option (List ℕ)) × (files : List Word) × AsksRun words settings task target files) ⊎ ((settings : Settings) × (m : Mode) × (files : List Word) × AsksFormat words settings m files)))

-- The words request no command: the command line is invalid.
abbrev pub AsksNothing : List Word → Type 0
AsksNothing words = ¬ AsksSomething words

-- The word is recognizable as a file name: it is `-`, or it contains `.` or `/` and does not begin with a dash.
abbrev pub looks_like_file : Word → Bool
looks_like_file word = spells (codes "-") word || (is_file word && (list_any (λ b. b == 46) (string_bytes word) || list_any (λ b. b == 47) (string_bytes word)))

-- The word is valid without a file of its name.
abbrev pub is_known : Word → Bool
is_known word = spells (codes "help") word || (is_some (verb_named word) || looks_like_file word)

-- The first word after the leading options if it is meaningful only as the name of an existing file: it is neither an
-- option nor a command, nor recognizable as a file name.
abbrev pub file_in_question : List Word → Option Word
file_in_question words = first (after_front words)
  where
    asked : Word → Option Word
    asked word = if is_known word || not (is_file word) then None else Some word

    first : List Word → Option Word
    first [] = None
    first (word ∷ words) = asked word
