-- Output of a run for the bytes that it has read: one of the texts that the task prints for them, with the error that
-- is returned. Not part of the standard.
use Rattle.std.specs.Prelude.{ℕ, List, Option}
use Rattle.std.specs.Io.KnownBytes.{Appends}
use Rattle.wat_lex.specs.errors.Errors.{Report}
use Rattle.wat_lex.specs.declared.lexer.settings.Settings.{Settings}
use Rattle.wat_tokens_io.specs.Streams.{AppendsPrefix}
use Rattle.wat_tokens_output.specs.Blanks.{Blanks}
use Rattle.wat_tokens_output.specs.JsonLists.{JsonLists, JsonShows}
use Rattle.wat_tokens_output.specs.Lists.{Lists}
use Rattle.wat_tokens_output.specs.Replies.{Plays}
use Rattle.wat_tokens_output.specs.Shows.{Shows}
use Rattle.wat_tokens_run.specs.Compiles.{CompilesModule, CompilesTypes}
use Rattle.wat_tokens_args.specs.Options.{calls_of}
use Rattle.wat_tokens_args.specs.declared.options.Task.{Task}
use Rattle.wat_tokens_args.specs.declared.options.Task.TheVariants as task

-- The first argument is the bytes of the input, the second a text that is printed for them, and the third the error
-- that is returned, if any.
abbrev pub Prints : Type 1
Prints = List ℕ → List ℕ → Option (Option Report) → Type 0

-- The texts that a task prints for the bytes of an input. `file` is the file name in lines of JSON, if they have one.
abbrev pub task_prints : Settings → Option (List ℕ) → Task → Prints
task_prints s file task.List = Lists s
task_prints s file (task.Sig names) = Shows s names.now
task_prints s file task.JsonList = JsonLists s file
task_prints s file (task.JsonSig names) = JsonShows s file names.now
task_prints s file (task.Play calls) = Plays s (calls_of calls)
task_prints s file task.Blank = Blanks s
task_prints s file task.Types = CompilesTypes
task_prints s file (task.Module options) = CompilesModule options

-- If the bytes of the output are known, they grow from `old` to `new` by a text that is printed and returns `error`.
pub record AppendsText (prints : List ℕ → Option (Option Report) → Type 0) (error : Option (Option Report)) (old new : Option (List ℕ)) : Type 0 where
  pub text : List ℕ
  pub printed : prints text error
  pub appended : Appends old new text

-- If the bytes of the output are known, they grow from `old` to `new` by a prefix of a text that is printed.
pub record AppendsCut (prints : List ℕ → Option (Option Report) → Type 0) (old new : Option (List ℕ)) : Type 0 where
  pub text : List ℕ
  pub error : Option (Option Report)
  pub printed : prints text error
  pub appended : AppendsPrefix old new text
