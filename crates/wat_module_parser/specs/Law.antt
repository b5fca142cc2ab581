-- The theorem that the parser and the grammar of modules agree.
use Rattle.std.specs.Prelude.{◌≡◌, ◌↔◌, List, Ok}
use Rattle.wat_module_tokens.specs.Terminals.{Terminal}
use Rattle.wat_module_ast.specs.Fields.{Field}
use Rattle.wat_module_ast.specs.Modules.{Module}
use Rattle.wat_module_parser.specs.Reading as reading

-- Theorem: the parser returns the fields `fs` for the tokens `ts` if and only if these match
-- the grammar of a module with the fields `fs`.
abbrev pub ReadingIsGrammar : Type 0
ReadingIsGrammar = (ts : List Terminal) (fs : List Field) → (reading.whole ts ≡ Ok fs) ↔ Module ts fs
