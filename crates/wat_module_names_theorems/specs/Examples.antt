-- WebAssembly 2.0, 6.5.2 and 6.5.10: the structured control instructions of some texts.
use Rattle.std.specs.Prelude.{◌≡◌, List, [], ◌∷◌, codes, Some, None}
use Rattle.wat_module_ast.specs.Names.{block_labels}
use Rattle.wat_module_names_theorems.specs.BlockLabels.{Structure, Structured, labelled}
use Rattle.wat_module_tokens.specs.declared.token.Sign.TheVariants.{Absent}
use Rattle.wat_module_tokens.specs.Terminals.{Terminal, Open, Close, Word, Id, Integer, Label}

-- `(if $a (block $b (result i32) (i32.const 1)) (then (nop)))`: a block in the condition.
abbrev pub block_in_condition : List Terminal
block_in_condition =
    Open ∷ Word (codes "if") ∷ Id (codes "a") ∷ Open ∷ Word (codes "block") ∷ Id (codes "b") ∷ Open ∷ Word (codes "result") ∷ Word (codes "i32") ∷ Close ∷ Open ∷ Word (codes "i32.const") ∷ Integer Absent 1 ∷ Close ∷ Close
    ∷ Open ∷ Word (codes "then") ∷ Open ∷ Word (codes "nop") ∷ Close ∷ Close ∷ Close ∷ []

-- `(if $a (if $b (local.get 0) (then (local.get 1)) (else (loop $c))) (then (block $d)))`: an `if` in the condition.
abbrev pub if_in_condition : List Terminal
if_in_condition =
    Open ∷ Word (codes "if") ∷ Id (codes "a")
    ∷ Open ∷ Word (codes "if") ∷ Id (codes "b") ∷ Open ∷ Word (codes "local.get") ∷ Integer Absent 0 ∷ Close ∷ Open ∷ Word (codes "then") ∷ Open ∷ Word (codes "local.get") ∷ Integer Absent 1 ∷ Close ∷ Close
    ∷ Open ∷ Word (codes "else") ∷ Open ∷ Word (codes "loop") ∷ Id (codes "c") ∷ Close ∷ Close ∷ Close
    ∷ Open ∷ Word (codes "then") ∷ Open ∷ Word (codes "block") ∷ Id (codes "d") ∷ Close ∷ Close ∷ Close ∷ []

-- `if loop $a end $a else (block) end`: an `if` and a block without labels.
abbrev pub without_labels : List Terminal
without_labels =
    Word (codes "if") ∷ Word (codes "loop") ∷ Id (codes "a") ∷ Word (codes "end") ∷ Id (codes "a") ∷ Word (codes "else") ∷ Open ∷ Word (codes "block") ∷ Close ∷ Word (codes "end") ∷ []

-- `IsExample ts xs ls`: the tokens `ts` have the structured control instructions `xs`, and the labels `ls` are listed.
pub record IsExample (ts : List Terminal) (xs : List Structured) (ls : List Label) : Type 0 where
  pub structure : Structure ts xs []
  pub listed : block_labels [] ts ≡ ls

-- Theorem: the structured control instructions and the labels of these texts.
pub record Examples : Type 0 where
  pub block_in_condition : IsExample block_in_condition (labelled 0x02 (Some (codes "b")) ∷ labelled 0x04 (Some (codes "a")) ∷ []) (Some (codes "b") ∷ Some (codes "a") ∷ [])
  pub if_in_condition : IsExample if_in_condition (labelled 0x04 (Some (codes "b")) ∷ labelled 0x03 (Some (codes "c")) ∷ labelled 0x04 (Some (codes "a")) ∷ labelled 0x02 (Some (codes "d")) ∷ [])
      (Some (codes "b") ∷ Some (codes "c") ∷ Some (codes "a") ∷ Some (codes "d") ∷ [])
  pub without_labels : IsExample without_labels (labelled 0x04 None ∷ labelled 0x03 (Some (codes "a")) ∷ labelled 0x02 None ∷ []) (None ∷ Some (codes "a") ∷ None ∷ [])
