-- Error messages for invalid command lines. Not part of the standard.
use Rattle.std.specs.Prelude.{ℕ, ◌+◌, Bool, true, false, ◌||◌, ◌&&◌, not, nat_lt, List, [], ◌∷◌, ◌++◌, length, codes, if◌then◌else◌, string_bytes, Option, Some, None, is_some}
use Rattle.std.specs.Option.{option_map}
use Rattle.wat_tokens_output.specs.Places.{visible}
use Rattle.wat_tokens_args.specs.Arguments.{Word, Given, spells, is_file, named_kind, after_front, times, first_of}
use Rattle.wat_tokens_args.specs.Options.{Parts, all_args, files_of, formats, overwrites, parts_of, takes, verb_named, owns_operands, looks_like_file}
use Rattle.wat_tokens_args.specs.declared.arguments.Kind.{Kind}
use Rattle.wat_tokens_args.specs.declared.arguments.Kind.TheVariants as kind
use Rattle.wat_tokens_args.specs.declared.complaint.Complaint.{Complaint}
use Rattle.wat_tokens_args.specs.declared.complaint.Complaint.TheVariants as variant
use Rattle.wat_tokens_args.specs.declared.options.Verb.{Verb}
use Rattle.wat_tokens_args.specs.declared.options.Verb.TheVariants as verb

-- The word requests help or the version.
abbrev pub asks_for_words : Word → Bool
asks_for_words word = spells (codes "--help") word || (spells (codes "-h") word || (spells (codes "help") word || (spells (codes "--version") word || spells (codes "-V") word)))

-- The word is an option that requires a name, or requests help or the version.
abbrev pub is_own_option : Word → Bool
is_own_option word = is_some (named_kind word) || asks_for_words word

-- The first word after the leading options goes beyond the usage line: it is a command that reads files, an option that
-- requires a name, a request for help or the version, or a file. A word that is not recognizable as a file name is one
-- if it names an existing file (`there`).
abbrev pub rest_goes_beyond : Bool → List Word → Bool
rest_goes_beyond there [] = false
rest_goes_beyond there (word ∷ words) = by (verb_named word)
  where
    by : Option Verb → Bool
    by None = is_own_option word || (looks_like_file word || (there && is_file word))
    by (Some v) = not (owns_operands v)

-- The leading options, or the first word after them, go beyond the usage line. Later words do not matter.
abbrev pub goes_beyond : Bool → List Word → Bool
goes_beyond there words =
    gives kind.Json || (gives kind.NoNames || (gives kind.NoValidate || (gives kind.Named || (gives kind.Output || rest_goes_beyond there (after_front words)))))
  where
    gives : Kind → Bool
    gives k = nat_lt 0 (times k (parts_of words).front)

-- The reference to `--help` after most messages.
abbrev more : List ℕ
more = codes "\nwat_tokens --help lists the commands and their options"

-- The message of each complaint: the usage line alone, or the error and the reference to `--help`. `Terminal` has no
-- reference.
abbrev pub complaint : Complaint → List ℕ
complaint variant.Usage = codes "usage: wat_tokens [--allow-confusing] [--strict-underscores] [sig NAME.. | play CALL..]"
complaint (variant.Twice word) = codes "wat_tokens: " ++ (word.now ++ (codes " is given twice" ++ more))
complaint (variant.Nameless word) = codes "wat_tokens: " ++ (word.now ++ (codes " has no name after it" ++ more))
complaint (variant.Late word) = codes "wat_tokens: " ++ (word.now ++ (codes " comes too late" ++ more))
complaint (variant.Unknown word) = codes "wat_tokens: unknown option: " ++ (visible word.now ++ more)
complaint (variant.Nothing word) = codes "wat_tokens: no such command or file: " ++ (visible word.now ++ more)
complaint variant.NoJson = codes "wat_tokens: --json goes with list and sig alone" ++ more
complaint variant.NoFlags = codes "wat_tokens: types and module take no flags" ++ more
complaint variant.NoCall = codes "wat_tokens: play takes calls of a parser alone" ++ more
complaint variant.Mixed = codes "wat_tokens: files are before -- or after it, not both" ++ more
complaint variant.TooMany = codes "wat_tokens: this command takes one file" ++ more
complaint variant.NoOutput = codes "wat_tokens: -o goes with module and types alone" ++ more
complaint variant.NoNames = codes "wat_tokens: --no-names goes with module alone" ++ more
complaint variant.NoValidate = codes "wat_tokens: --no-validate goes with module alone" ++ more
complaint variant.Overwrites = codes "wat_tokens: -o names the input file" ++ more
complaint variant.NoMode = codes "wat_tokens: --check, --write and --diff go with fmt alone" ++ more
complaint variant.Modes = codes "wat_tokens: fmt takes one of --check, --write and --diff" ++ more
complaint variant.Terminal = codes "wat_tokens: standard output is a terminal; -o FILE writes to a file"

-- What an invalid command line does wrong: a `Complaint`, with the text of its word.
pub data Reason : Type 0 where
  Usage : Reason
  Twice : List ℕ → Reason
  Nameless : List ℕ → Reason
  Late : List ℕ → Reason
  Unknown : List ℕ → Reason
  Nothing : List ℕ → Reason
  NoJson : Reason
  NoFlags : Reason
  NoCall : Reason
  Mixed : Reason
  TooMany : Reason
  NoOutput : Reason
  NoNames : Reason
  NoValidate : Reason
  Overwrites : Reason
  NoMode : Reason
  Modes : Reason
  Terminal : Reason

abbrev pub reason_of : Complaint → Reason
reason_of variant.Usage = Usage
reason_of (variant.Twice word) = Twice word.now
reason_of (variant.Nameless word) = Nameless word.now
reason_of (variant.Late word) = Late word.now
reason_of (variant.Unknown word) = Unknown word.now
reason_of (variant.Nothing word) = Nothing word.now
reason_of variant.NoJson = NoJson
reason_of variant.NoFlags = NoFlags
reason_of variant.NoCall = NoCall
reason_of variant.Mixed = Mixed
reason_of variant.TooMany = TooMany
reason_of variant.NoOutput = NoOutput
reason_of variant.NoNames = NoNames
reason_of variant.NoValidate = NoValidate
reason_of variant.Overwrites = Overwrites
reason_of variant.NoMode = NoMode
reason_of variant.Modes = Modes
reason_of variant.Terminal = Terminal

-- The option that is given more than once, the first of these six.
abbrev pub repeated : List Given → Option (List ℕ)
repeated args =
    if repeats kind.Allow then Some (codes "--allow-confusing")
    else if repeats kind.Strict then Some (codes "--strict-underscores")
    else if repeats kind.Json then Some (codes "--json")
    else if repeats kind.NoNames then Some (codes "--no-names")
    else if repeats kind.NoValidate then Some (codes "--no-validate")
    else if repeats kind.Output then Some (codes "-o")
    else None
  where
    repeats : Kind → Bool
    repeats k = nat_lt 1 (times k args)

-- The word is an option that selects a mode of `fmt`.
abbrev pub is_mode : Word → Bool
is_mode word = spells (codes "--check") word || (spells (codes "--write") word || spells (codes "--diff") word)

-- The reason for a word that is not accepted at its position: it is an option without its name, or requests help or the
-- version, or selects a mode of `fmt`, or is an unknown option.
abbrev pub wrong_word : Word → Reason
wrong_word word =
    if is_some (named_kind word) then Nameless (string_bytes word)
    else if asks_for_words word then Late (string_bytes word)
    else if is_mode word then NoMode
    else Unknown (string_bytes word)

-- The reason for the first word after the leading options. It must be a command or a file. A word that is not
-- recognizable as a file name is one if it names an existing file (`there`).
abbrev pub wrong_start : Bool → List Word → Option Reason
wrong_start there [] = None
wrong_start there (word ∷ words) =
    if is_own_option word || not (is_file word) then Some (wrong_word word)
    else if is_some (verb_named word) || (looks_like_file word || there) then None
    else Some (Nothing (string_bytes word))

-- An argument of this kind is given, before or after the command, and the command does not accept it.
abbrev pub rejects : Parts → Kind → Bool
rejects p k = nat_lt 0 (times k (all_args p)) && not (takes p.verb k)

-- The reason for an option that the command does not accept: `--json`, a lexer flag, `-o`, `--no-names`, `--no-validate`, or
-- a mode of `fmt`.
abbrev pub wrong_option : Parts → Option Reason
wrong_option p =
    if rejects p kind.Json then Some NoJson
    else if rejects p kind.Allow || rejects p kind.Strict then Some NoFlags
    else if rejects p kind.Output then Some NoOutput
    else if rejects p kind.NoNames then Some NoNames
    else if rejects p kind.NoValidate then Some NoValidate
    else if rejects p kind.Check || (rejects p kind.Write || rejects p kind.Diff) then Some NoMode
    else None

-- The number of options that select a mode of `fmt`.
abbrev pub modes_in : List Given → ℕ
modes_in args = times kind.Check args + (times kind.Write args + times kind.Diff args)

-- The command is `play`.
abbrev pub plays : Verb → Bool
plays verb.List = false
plays verb.Sig = false
plays verb.Play = true
plays verb.Blank = false
plays verb.Types = false
plays verb.Module = false
plays verb.Fmt = false

-- The reason if each argument is accepted: `fmt` has several modes; `play`, with at most one file, has a word that is
-- not a call; there are files both before and after `--`; the output file is the input file; or there are too many
-- files.
abbrev pub wrong_number : Parts → Reason
wrong_number p =
    if formats p.verb && nat_lt 1 (modes_in (all_args p)) then Modes
    else if plays p.verb && not (nat_lt 1 (length (files_of p))) then NoCall
    else if nat_lt 0 (times kind.File (all_args p)) && nat_lt 0 (length p.last) then Mixed
    else if overwrites p then Overwrites
    else TooMany

-- The first of these reasons that there is, or else the last one.
abbrev pub first_reason : List (Option Reason) → Reason → Reason
first_reason [] last = last
first_reason (None ∷ reasons) last = first_reason reasons last
first_reason (Some reason ∷ reasons) last = reason

-- The reason for a command whose arguments are invalid: an option that it does not accept, a word after it that is not
-- accepted, or the number of its files or modes.
abbrev pub wrong_command : Parts → Reason
wrong_command p = first_reason (wrong_option p ∷ option_map wrong_word (first_of kind.Wrong p.args) ∷ []) (wrong_number p)

-- The reason for a command line that goes beyond the usage line: an option is given twice, the first word is neither a
-- command nor a file, or the command's arguments are invalid.
abbrev pub reason_beyond : Bool → List Word → Reason
reason_beyond there words = first_reason (option_map Twice (repeated (all_args (parts_of words))) ∷ wrong_start there (after_front words) ∷ []) (wrong_command (parts_of words))

-- The reason for an invalid command line: `Usage` if it uses nothing beyond the usage line.
abbrev pub reason_in : Bool → List Word → Reason
reason_in there words = if goes_beyond there words then reason_beyond there words else Usage
