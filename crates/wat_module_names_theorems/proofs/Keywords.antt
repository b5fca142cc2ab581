-- The keywords of structured control instructions: each test on a keyword decides the others.
use Rattle.std.proofs.Common.{◌≡◌, ◌∙◌, ℕ, Bool, true, false, ◌⊎◌, List, Option, Some, None, inl, inr, refl, sym, ap}
use Rattle.std.proofs.lemmas.Slice.Eq.{bytes_eq-Decides}
use Rattle.std.specs.Prelude.{if◌then◌else◌, ◌||◌, not, bytes_eq, codes, is_some}
use Rattle.wat_module_ast.specs.Grammar.{is_else, is_end, is_if, is_then, structured}
use Rattle.wat_module_annotations.specs.declared.reading.Role.TheVariants as role
use Rattle.wat_module_annotations.specs.Items.{role_of}
use Rattle.wat_module_names_theorems.specs.BlockLabels.{is_structural}

pub same_word : (w v : List ℕ) → bytes_eq w v ≡ true → w ≡ v
same_word w v e = (bytes_eq-Decides w v).0 e

pub not_true : (b : Bool) → not b ≡ true → b ≡ false
not_true true e = sym e
not_true false e = refl

left_false : (b c : Bool) → (b || c) ≡ false → b ≡ false
left_false true c e = e
left_false false c e = refl

right_false : (b c : Bool) → (b || c) ≡ false → c ≡ false
right_false true c e = cc
right_false false c e = e

none_by : {A : Type 0} (o : Option A) → is_some o ≡ false → o ≡ None
none_by None e = refl
none_by (Some a) e = cc

-- A word that is not one of these keywords.

pub not_structured : (w : List ℕ) → is_structural w ≡ false → structured w ≡ None
not_structured w e = none_by (structured w) (left_false (is_some (structured w)) (is_then w || (is_else w || is_end w)) e)

pub not_then : (w : List ℕ) → is_structural w ≡ false → is_then w ≡ false
not_then w e = left_false (is_then w) (is_else w || is_end w) (right_false (is_some (structured w)) (is_then w || (is_else w || is_end w)) e)

abbrev pub opcode : Bool → Bool → Bool → Option ℕ
opcode b c d = if b then Some 0x02 else if c then Some 0x03 else if d then Some 0x04 else None

if_by : (b c d : Bool) → opcode b c d ≡ None → d ≡ false
if_by true c d e = cc
if_by false true d e = cc
if_by false false true e = cc
if_by false false false e = refl

pub unstructured_if : (w : List ℕ) → structured w ≡ None → bytes_eq w (codes "if") ≡ false
unstructured_if w e = if_by (bytes_eq w (codes "block")) (bytes_eq w (codes "loop")) (bytes_eq w (codes "if")) e

-- `block`, `loop` and `if`.

is_if_at : Option ℕ → Bool
is_if_at (Some o) = is_if o
is_if_at None = false

opcode_by : (b c d : Bool) (o : ℕ) → opcode b c d ≡ Some o → is_if o ≡ true → d ≡ true
unfolding is_if_at
opcode_by true c d o e i = let f : false ≡ is_if o = ap is_if_at e in cc
opcode_by false true d o e i = let f : false ≡ is_if o = ap is_if_at e in cc
opcode_by false false true o e i = refl
opcode_by false false false o e i = cc

pub if_word : (w : List ℕ) (o : ℕ) → structured w ≡ Some o → is_if o ≡ true → bytes_eq w (codes "if") ≡ true
if_word w o e i = opcode_by (bytes_eq w (codes "block")) (bytes_eq w (codes "loop")) (bytes_eq w (codes "if")) o e i

not_if_by : (w : List ℕ) (o : ℕ) (b : Bool) → structured w ≡ Some o → is_if o ≡ false → bytes_eq w (codes "if") ≡ b → b ≡ false
unfolding is_if_at
not_if_by w o true e i f = let g : structured w ≡ Some 4 = ap structured (same_word w (codes "if") f) in let h : true ≡ is_if o = ap is_if_at (sym g ∙ e) in cc
not_if_by w o false e i f = refl

pub not_if_word : (w : List ℕ) (o : ℕ) → structured w ≡ Some o → is_if o ≡ false → bytes_eq w (codes "if") ≡ false
not_if_word w o e i = not_if_by w o (bytes_eq w (codes "if")) e i refl

not_then_by : (w : List ℕ) (o : ℕ) (b : Bool) → structured w ≡ Some o → is_then w ≡ b → b ≡ false
not_then_by w o true e f = let g : structured w ≡ None = ap structured (same_word w (codes "then") f) in cc
not_then_by w o false e f = refl

pub structured_then : (w : List ℕ) (o : ℕ) → structured w ≡ Some o → is_then w ≡ false
structured_then w o e = not_then_by w o (is_then w) e refl

-- `then`, `else` and `end`.

pub then_if : (w : List ℕ) → is_then w ≡ true → bytes_eq w (codes "if") ≡ false
then_if w e = ap (λ v. bytes_eq v (codes "if")) (same_word w (codes "then") e)

pub else_structured : (w : List ℕ) → is_else w ≡ true → structured w ≡ None
else_structured w e = ap structured (same_word w (codes "else") e)

pub else_if : (w : List ℕ) → is_else w ≡ true → bytes_eq w (codes "if") ≡ false
else_if w e = ap (λ v. bytes_eq v (codes "if")) (same_word w (codes "else") e)

pub else_then : (w : List ℕ) → is_else w ≡ true → is_then w ≡ false
else_then w e = ap is_then (same_word w (codes "else") e)

pub end_structured : (w : List ℕ) → is_end w ≡ true → structured w ≡ None
end_structured w e = ap structured (same_word w (codes "end") e)

-- The roles of keywords for name annotations.

block_or_loop : (b c d : Bool) (o : ℕ) → opcode b c d ≡ Some o → is_if o ≡ false → (b ≡ true) ⊎ (c ≡ true)
unfolding is_if_at
block_or_loop true c d o e i = inl refl
block_or_loop false true d o e i = inr refl
block_or_loop false false true o e i = let f : true ≡ is_if o = ap is_if_at e in cc
block_or_loop false false false o e i = cc

block_role_by : (w : List ℕ) → (bytes_eq w (codes "block") ≡ true) ⊎ (bytes_eq w (codes "loop") ≡ true) → role_of w ≡ role.Block
unfolding role_of
block_role_by w (inl e) = ap role_of (same_word w (codes "block") e)
block_role_by w (inr e) = ap role_of (same_word w (codes "loop") e)

pub block_role : (w : List ℕ) (o : ℕ) → structured w ≡ Some o → is_if o ≡ false → role_of w ≡ role.Block
block_role w o e i = block_role_by w (block_or_loop (bytes_eq w (codes "block")) (bytes_eq w (codes "loop")) (bytes_eq w (codes "if")) o e i)

pub if_role : (w : List ℕ) (o : ℕ) → structured w ≡ Some o → is_if o ≡ true → role_of w ≡ role.If
unfolding role_of
if_role w o e i = ap role_of (same_word w (codes "if") (if_word w o e i))

pub then_role : (w : List ℕ) → is_then w ≡ true → role_of w ≡ role.Then
unfolding role_of
then_role w e = ap role_of (same_word w (codes "then") e)

pub else_role : (w : List ℕ) → is_else w ≡ true → role_of w ≡ role.Other
unfolding role_of
else_role w e = ap role_of (same_word w (codes "else") e)
