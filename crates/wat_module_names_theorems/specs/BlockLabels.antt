-- WebAssembly 2.0, 6.5.1 (labels), 6.5.2 (control instructions), 6.5.10 (folded instructions), 5.4.1 (binary format of
-- control instructions), and the extended-name-section proposal: the structured control instructions of a function body,
-- each with the identifier of its label, in the order of the binary format. There an instruction follows its operands and
-- precedes the instructions inside it. Of other instructions and of types only the parentheses count here: each body that the
-- grammar derives has a structure (`Bodies`), and so do other tokens.
use Rattle.std.specs.Prelude.{◌≡◌, ℕ, Bool, true, false, not, ◌||◌, List, [], ◌∷◌, ◌++◌, map, is_some, Some}
use Rattle.wat_module_ast.specs.Grammar.{is_else, is_end, is_if, is_then, label_of, structured}
use Rattle.wat_module_ast.specs.Names.{block_labels, inside}
use Rattle.wat_module_tokens.specs.Terminals.{Terminal, Open, Close, Word, Label}

-- 5.4.1: a structured control instruction: the opcode of `block`, `loop` or `if`, and the identifier of its label.
pub record Structured : Type 0 where
  pub opcode : ℕ
  pub label : Label

abbrev pub labelled : ℕ → Label → Structured
labelled o l = record { opcode = o; label = l }

abbrev pub opcode_in : Structured → ℕ
opcode_in x = x.opcode

abbrev pub label_in : Structured → Label
label_in x = x.label

-- Returns `true` for the keywords `block`, `loop`, `if`, `then`, `else` and `end`.
abbrev pub is_structural : List ℕ → Bool
is_structural w = is_some (structured w) || (is_then w || (is_else w || is_end w))

-- Returns `true` if a token is neither a parenthesis nor one of these keywords.
abbrev pub is_opaque : Terminal → Bool
is_opaque Open = false
is_opaque Close = false
is_opaque (Word w) = not (is_structural w)
is_opaque t = true

-- 6.5, `instr*`, or a part of an instruction. `Structure ts xs r`: the tokens `ts`, up to the rest `r`, have the structured
-- control instructions `xs`, in the order of the binary format.
pub data Structure : List Terminal → List Structured → List Terminal → Type 0 where
  -- No token.
  by_none : {ts : List Terminal} → Structure ts [] ts
  -- A token of a plain instruction, or of a type in a group.
  by_token : {t : Terminal} {ts r : List Terminal} {xs : List Structured} → is_opaque t ≡ true → Structure ts xs r → Structure (t ∷ ts) xs r
  -- 6.5.10: `(plaininstr foldedinstr*)`, which has the structured instructions of its operands; or a group of a type use
  -- or of result types (6.6.3, 6.4.5), which has none.
  by_group : {w : List ℕ} {ts us r : List Terminal} {inner xs : List Structured} → is_structural w ≡ false → Structure ts inner (Close ∷ us) → Structure us xs r → Structure (Open ∷ Word w ∷ ts) (inner ++ xs) r
  -- 6.5.2: `block label blocktype instr* end id?`, which comes before the instructions inside it; `loop` and `if` likewise.
  by_block : {w v : List ℕ} {o : ℕ} {ts us r : List Terminal} {body xs : List Structured}
      → structured w ≡ Some o → Structure (label_of ts).1 body (Word v ∷ us) → is_end v ≡ true → Structure (label_of us).1 xs r → Structure (Word w ∷ ts) (labelled o (label_of ts).0 ∷ (body ++ xs)) r
  -- 6.5.2: `if label blocktype instr* else id? instr* end id?`.
  by_if_else : {w v x : List ℕ} {o : ℕ} {ts us ys r : List Terminal} {body other xs : List Structured}
      → structured w ≡ Some o → is_if o ≡ true → Structure (label_of ts).1 body (Word v ∷ us) → is_else v ≡ true → Structure (label_of us).1 other (Word x ∷ ys) → is_end x ≡ true → Structure (label_of ys).1 xs r
      → Structure (Word w ∷ ts) (labelled o (label_of ts).0 ∷ (body ++ (other ++ xs))) r
  -- 6.5.10: `(block label blocktype instr*)` is `block label blocktype instr* end`; `loop` likewise.
  by_folded_block : {w : List ℕ} {o : ℕ} {ts us r : List Terminal} {body xs : List Structured}
      → structured w ≡ Some o → is_if o ≡ false → Structure (label_of ts).1 body (Close ∷ us) → Structure us xs r → Structure (Open ∷ Word w ∷ ts) (labelled o (label_of ts).0 ∷ (body ++ xs)) r
  -- 6.5.10: `(if label blocktype foldedinstr* (then instr*))` is `foldedinstr* if label blocktype instr* end`: the
  -- instructions of the condition come before the `if`, which comes before those of its body.
  by_folded_if : {w t : List ℕ} {o : ℕ} {ts us vs r : List Terminal} {condition body xs : List Structured}
      → structured w ≡ Some o → is_if o ≡ true → Structure (label_of ts).1 condition (Open ∷ Word t ∷ us) → is_then t ≡ true → Structure us body (Close ∷ Close ∷ vs) → Structure vs xs r
      → Structure (Open ∷ Word w ∷ ts) (condition ++ (labelled o (label_of ts).0 ∷ (body ++ xs))) r
  -- 6.5.10: `(if label blocktype foldedinstr* (then instr*) (else instr*))` is `foldedinstr* if label blocktype instr* else
  -- instr* end`.
  by_folded_if_else : {w t e : List ℕ} {o : ℕ} {ts us vs ys r : List Terminal} {condition body other xs : List Structured}
      → structured w ≡ Some o → is_if o ≡ true → Structure (label_of ts).1 condition (Open ∷ Word t ∷ us) → is_then t ≡ true → Structure us body (Close ∷ Open ∷ Word e ∷ vs) → is_else e ≡ true
      → Structure vs other (Close ∷ Close ∷ ys) → Structure ys xs r
      → Structure (Open ∷ Word w ∷ ts) (condition ++ (labelled o (label_of ts).0 ∷ (body ++ (other ++ xs)))) r

-- Theorem: `block_labels` lists the labels of these instructions in this order, of all tokens of a list, and of the tokens
-- of a body up to its `)`. So the order is that of the binary format, and each instruction has one entry.
pub record LabelsAreListed : Type 0 where
  pub all : (ts : List Terminal) (xs : List Structured) → Structure ts xs [] → block_labels [] ts ≡ map label_in xs
  pub body : (ts r : List Terminal) (xs : List Structured) → Structure ts xs (Close ∷ r) → block_labels [] (inside 0 ts) ≡ map label_in xs
