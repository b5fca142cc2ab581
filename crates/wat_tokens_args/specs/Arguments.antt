-- Arguments of the command line: its options, and the names of files. Not part of the standard.
use Rattle.std.specs.Prelude.{◌≡◌, ◌+◌, ◌<◌, ◌||◌, nat_eq, not, ℕ, Bool, true, false, List, [], ◌∷◌, take, length, codes, if◌then◌else◌, string_bytes, String, Option, Some, None, is_some}
use Rattle.std.specs.Str.{bytes_eq}
use Rattle.std.specs.declared.alloc.Global.{Global}
use Rattle.wat_tokens_args.specs.declared.arguments.Kind.{Kind}
use Rattle.wat_tokens_args.specs.declared.arguments.Kind.TheVariants.{Allow, Strict, Json, NoNames, NoValidate, Check, Write, Diff, Named, Output, File, Wrong}

abbrev pub Word : Type 0
Word = String Global

-- `word` consists of the bytes `text`.
abbrev pub spells : List ℕ → Word → Bool
spells text word = bytes_eq (string_bytes word) text

-- `word` names a file before `--`: it is `-`, or does not begin with a dash.
abbrev pub is_file : Word → Bool
is_file word = spells (codes "-") word || not (bytes_eq (take 1 (string_bytes word)) (codes "-"))

-- The kind of an option that requires a name after it: `--file`, or `-o` and its long form `--output`.
abbrev pub named_kind : Word → Option Kind
named_kind word =
    if spells (codes "--file") word then Some Named
    else if spells (codes "-o") word || spells (codes "--output") word then Some Output
    else None

-- The kind of an argument that consists of one word.
abbrev pub alone_kind : Word → Kind
alone_kind word =
    if spells (codes "--allow-confusing") word then Allow
    else if spells (codes "--strict-underscores") word then Strict
    else if spells (codes "--json") word then Json
    else if spells (codes "--no-names") word then NoNames
    else if spells (codes "--no-validate") word then NoValidate
    else if spells (codes "--check") word then Check
    else if spells (codes "--write") word then Write
    else if spells (codes "--diff") word then Diff
    else if is_file word then File
    else Wrong

-- An argument: its kind, and the name after its option, or its word if it has no name.
pub record Given : Type 0 where
  pub kind : Kind
  pub word : Word

abbrev pub alone : Word → Given
alone word = record { kind = alone_kind word; word = word }

-- The option with its name and the arguments after it if `kind` is given, and `other` otherwise.
abbrev pub named_or : Option Kind → Word → List Given → List Given → List Given
named_or (Some kind) name after other = record { kind = kind; word = name } ∷ after
named_or None name after other = other

-- The arguments of a sequence of words. Options and file names may be mixed in any order.
unfoldable pub args_of : List Word → List Given
args_of [] = []
args_of (word ∷ []) = alone word ∷ []
args_of (word ∷ next ∷ words) = named_or (named_kind word) next (args_of words) (alone word ∷ args_of (next ∷ words))

-- An option of this kind may precede the command.
abbrev pub leads : Kind → Bool
leads Allow = true
leads Strict = true
leads Json = true
leads NoNames = true
leads NoValidate = true
leads Check = false
leads Write = false
leads Diff = false
leads Named = true
leads Output = true
leads File = false
leads Wrong = false

-- The words after the options that precede the command.
unfoldable pub after_front : List Word → List Word
after_front [] = []
after_front (word ∷ []) = if leads (alone_kind word) then [] else word ∷ []
after_front (word ∷ next ∷ words) =
    if is_some (named_kind word) then after_front words
    else if leads (alone_kind word) then after_front (next ∷ words)
    else word ∷ next ∷ words

-- The index of a kind, for comparisons.
abbrev pub number : Kind → ℕ
number Allow = 0
number Strict = 1
number Json = 2
number NoNames = 3
number NoValidate = 4
number Check = 5
number Write = 6
number Diff = 7
number Named = 8
number Output = 9
number File = 10
number Wrong = 11

abbrev pub is_kind : Kind → Kind → Bool
is_kind kind other = nat_eq (number kind) (number other)

-- The number of arguments of a kind.
abbrev pub times : Kind → List Given → ℕ
times kind [] = 0
times kind (given ∷ args) = (if is_kind kind given.kind then 1 else 0) + times kind args

-- The word of the first argument of a kind.
abbrev pub first_of : Kind → List Given → Option Word
first_of kind [] = None
first_of kind (given ∷ args) = if is_kind kind given.kind then Some given.word else first_of kind args

abbrev pub names_file : Kind → Bool
names_file kind = is_kind Named kind || is_kind File kind

-- The files that the arguments name, in order.
abbrev pub files_in : List Given → List Word
files_in [] = []
files_in (given ∷ args) = if names_file given.kind then given.word ∷ files_in args else files_in args

-- The argument of `kind` with `word` is the first of `words`, and `rest` are the words after it. `front` describes
-- `after_front`, and `shorter` bounds a recursion over the words.
pub record IsNextArgument (words : List Word) (kind : Kind) (word : Word) (rest : List Word) : Type 0 where
  pub given : args_of words ≡ record { kind = kind; word = word } ∷ args_of rest
  pub front : after_front words ≡ (if leads kind then after_front rest else words)
  pub shorter : length rest < length words
