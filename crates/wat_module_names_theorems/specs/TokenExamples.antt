-- WebAssembly 3.0, appendix, name annotations: the tokens of the texts in `Examples` of `wat_module_annotations`, and their items.
use Rattle.std.specs.Prelude.{List, [], ◌∷◌, codes}
use Rattle.wat_module_annotations.specs.Examples.{block_in_condition, named_function, named_import, named_reference}
use Rattle.wat_module_names_theorems.specs.TokenForms.{HasItems}
use Rattle.wat_module_tokens.specs.declared.token.Sign.TheVariants.{Absent}
use Rattle.wat_module_tokens.specs.Terminals.{Terminal, Open, Close, Word, Id, Integer, Text}

-- `(module $m (func (param i32) (local i32 i64) block end))`
abbrev pub function_tokens : List Terminal
function_tokens =
    Open ∷ Word (codes "module") ∷ Id (codes "m") ∷ Open ∷ Word (codes "func") ∷ Open ∷ Word (codes "param") ∷ Word (codes "i32") ∷ Close
    ∷ Open ∷ Word (codes "local") ∷ Word (codes "i32") ∷ Word (codes "i64") ∷ Close ∷ Word (codes "block") ∷ Word (codes "end") ∷ Close ∷ Close ∷ []

-- `(func (if (block (result i32) (i32.const 0)) (then)))`
abbrev pub condition_tokens : List Terminal
condition_tokens =
    Open ∷ Word (codes "func") ∷ Open ∷ Word (codes "if") ∷ Open ∷ Word (codes "block") ∷ Open ∷ Word (codes "result") ∷ Word (codes "i32") ∷ Close
    ∷ Open ∷ Word (codes "i32.const") ∷ Integer Absent 0 ∷ Close ∷ Close ∷ Open ∷ Word (codes "then") ∷ Close ∷ Close ∷ Close ∷ []

-- `(import "" "" (func (param i32))) (start 0)`
abbrev pub import_tokens : List Terminal
import_tokens =
    Open ∷ Word (codes "import") ∷ Text [] ∷ Text [] ∷ Open ∷ Word (codes "func") ∷ Open ∷ Word (codes "param") ∷ Word (codes "i32") ∷ Close ∷ Close ∷ Close
    ∷ Open ∷ Word (codes "start") ∷ Integer Absent 0 ∷ Close ∷ []

-- `(export "e" (func 0))`
abbrev pub reference_tokens : List Terminal
reference_tokens = Open ∷ Word (codes "export") ∷ Text (codes "e") ∷ Open ∷ Word (codes "func") ∷ Integer Absent 0 ∷ Close ∷ Close ∷ []

-- Theorem: the items of these tokens are those of the texts, which have annotations.
pub record TokenExamples : Type 0 where
  pub function : HasItems function_tokens named_function
  pub condition : HasItems condition_tokens block_in_condition
  pub imported : HasItems import_tokens named_import
  pub reference : HasItems reference_tokens named_reference
