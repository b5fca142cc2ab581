-- Results of parsing the command line: the requested command, or none.
use Rattle.std.proofs.Common.{inl, inr, ℕ, List}
use Rattle.std.specs.Prelude.{Option, Some, None, Result, Ok, Err, IfOk, MatchOption}
use Rattle.wat_lex.specs.declared.lexer.settings.Settings.{Settings}
use Rattle.wat_tokens_args.specs.declared.options.Command.{Command}
use Rattle.wat_tokens_args.specs.declared.options.Command.TheVariants as command
use Rattle.wat_tokens_args.specs.declared.options.Mode.{Mode}
use Rattle.wat_tokens_args.specs.declared.options.Task.{Task}
use Rattle.wat_tokens_args.specs.Arguments.{Word}
use Rattle.wat_tokens_args.specs.Options.{Asks, AsksRun, AsksFormat, AsksNothing}

-- A command line that requests neither help nor the version, neither a task nor `fmt`, requests nothing.
pub nothing_asked : (words : List Word) → ¬ Asks words command.Help → ¬ Asks words command.Version → ((s : Settings) (m : Mode) (files : List Word) → ¬ AsksFormat words s m files)
    → ((s : Settings) (t : Task) (o : Option (List ℕ)) (files : List Word) → ¬ AsksRun words s t o files) → AsksNothing words
nothing_asked words help version format run h = elim h [
  | inl asked ↦ help asked
  | inr other ↦ elim other [
    | inl asked ↦ version asked
    | inr more ↦ elim more [ inl r ↦ run r.0 r.1 r.2 r.3 r.4 | inr f ↦ format f.0 f.1 f.2 f.3 ]
  ]
]

pub asked_or_nothing : {E : Type 0} (words : List Word) (r : Result (Option Command) E) → ¬ Asks words command.Help → ¬ Asks words command.Version
    → ((s : Settings) (m : Mode) (files : List Word) → ¬ AsksFormat words s m files) → IfOk r (λ c. MatchOption c ((s : Settings) (t : Task) (o : Option (List ℕ)) (files : List Word) → ¬ AsksRun words s t o files) (Asks words)) → IfOk r (λ c. MatchOption c (AsksNothing words) (Asks words))
asked_or_nothing words (Ok None) help version format h = nothing_asked words help version format h
asked_or_nothing words (Ok (Some c)) help version format h = h
asked_or_nothing words (Err e) help version format h = tt
