-- The parts of a message of the code, and what it adds to a binary, as definitions. Not part of the standard.
use Rattle.std.specs.Prelude.{ℕ, ◌++◌, List, codes}
use Rattle.wat_modules.specs.declared.messages.Found.{Found}
use Rattle.wat_modules.specs.declared.messages.Found.TheVariants as declared
use Rattle.wat_modules.specs.declared.messages.Suggestion.{Suggestion}
use Rattle.wat_modules.specs.declared.messages.Suggestion.TheVariants as suggestion
use Rattle.wat_modules.specs.declared.Extras.{Extras}
use Rattle.wat_modules.specs.declared.Extras.TheVariants as extras
use Rattle.wat_modules.specs.Compiling.{Bare, Complete, Named, Sections, Wanted}
use Rattle.wat_modules.specs.Messages.{kind_phrase, location, quoted}

-- The token in error, or the end of the text.
abbrev pub found_of : Found → List ℕ
found_of (declared.Lexeme w k) = quoted (w.now ++ k.now)
found_of (declared.Kind k) = kind_phrase k
found_of declared.End = codes "the end of the text"

-- The token in error after a noun.
abbrev pub named_of : Found → List ℕ
named_of (declared.Lexeme w k) = codes " " ++ quoted w.now
named_of (declared.Kind k) = codes ""
named_of declared.End = codes ""

-- The identifier that a message suggests, after the one in error.
abbrev pub suggestion_of : Suggestion → List ℕ
suggestion_of (suggestion.Name w p) = codes "; did you mean `" ++ (w.now ++ (codes "` at " ++ (location p ++ codes "?")))
suggestion_of suggestion.Absent = codes ""

-- What the code adds to a binary, in a text whose annotations define this.
abbrev pub wanted_by : Extras → Sections → Wanted
wanted_by extras.Nothing r = Bare
wanted_by extras.Names r = Named
wanted_by extras.Customs r = Complete r
