-- The keywords of plain instructions and of their immediates are not those of structured control instructions, nor are the
-- opcodes.
use Rattle.std.proofs.Common.{◌≡◌, ◌∙◌, ℕ, Bool, true, false, List, [], ◌∷◌, ◌++◌, Some, refl, sym, ap, subst}
use Rattle.std.specs.Prelude.{if◌then◌else◌, not, ◌==◌, ◌&&◌, ◌||◌, bytes_eq, codes, is_some}
use Rattle.wat_module_ast.specs.Grammar.{heap_type, is_else, is_end, is_then, reference_type, shape, value_type}
use Rattle.wat_module_ast.specs.Memory as memory
use Rattle.wat_module_ast.specs.Table.{Mnemonic, found, high, high_vectors, low, low_vectors, mnemonics, prefixed}
use Rattle.wat_module_ast.specs.declared.instruction.Opcode.{Opcode}
use Rattle.wat_module_ast.specs.declared.instruction.Opcode.TheVariants.{Byte, Prefixed}
use Rattle.wat_module_names_theorems.specs.BlockLabels.{is_structural}
use Rattle.wat_module_names_theorems.specs.Bodies.{structured_opcode}
use Rattle.wat_module_annotations.specs.Items.{role_of}
use Rattle.wat_module_names_theorems.proofs.Filling.{is_other}
use Rattle.wat_module_names_theorems.proofs.Keywords.{not_true, opcode, same_word}

-- What holds of each of these keywords.
each : (P : List ℕ → Type 0) → P (codes "block") → P (codes "loop") → P (codes "if") → P (codes "then") → P (codes "else") → P (codes "end")
    → (w : List ℕ) (b c d e f g : Bool) → bytes_eq w (codes "block") ≡ b → bytes_eq w (codes "loop") ≡ c → bytes_eq w (codes "if") ≡ d → is_then w ≡ e → is_else w ≡ f → is_end w ≡ g
    → (is_some (opcode b c d) || (e || (f || g))) ≡ true → P w
each P block loop if_ then_ else_ end_ w true c d e f g i j k l m n h = subst P (sym (same_word w (codes "block") i)) block
each P block loop if_ then_ else_ end_ w false true d e f g i j k l m n h = subst P (sym (same_word w (codes "loop") j)) loop
each P block loop if_ then_ else_ end_ w false false true e f g i j k l m n h = subst P (sym (same_word w (codes "if") k)) if_
each P block loop if_ then_ else_ end_ w false false false true f g i j k l m n h = subst P (sym (same_word w (codes "then") l)) then_
each P block loop if_ then_ else_ end_ w false false false false true g i j k l m n h = subst P (sym (same_word w (codes "else") m)) else_
each P block loop if_ then_ else_ end_ w false false false false false true i j k l m n h = subst P (sym (same_word w (codes "end") n)) end_
each P block loop if_ then_ else_ end_ w false false false false false false i j k l m n h = cc

IsFalse : (List ℕ → Bool) → List ℕ → Type 0
IsFalse p w = p w ≡ false

other_by : (p : List ℕ → Bool) → p (codes "block") ≡ false → p (codes "loop") ≡ false → p (codes "if") ≡ false → p (codes "then") ≡ false → p (codes "else") ≡ false → p (codes "end") ≡ false
    → (w : List ℕ) → p w ≡ true → (b : Bool) → is_structural w ≡ b → b ≡ false
unfolding IsFalse
other_by p block loop if_ then_ else_ end_ w h false e = refl
other_by p block loop if_ then_ else_ end_ w h true e =
    let k : p w ≡ false = each (IsFalse p) block loop if_ then_ else_ end_ w (bytes_eq w (codes "block")) (bytes_eq w (codes "loop")) (bytes_eq w (codes "if")) (is_then w) (is_else w) (is_end w) refl refl refl refl refl refl e in
    cc

-- a keyword that a test accepts, which accepts none of these
other : (p : List ℕ → Bool) → p (codes "block") ≡ false → p (codes "loop") ≡ false → p (codes "if") ≡ false → p (codes "then") ≡ false → p (codes "else") ≡ false → p (codes "end") ≡ false
    → (w : List ℕ) → p w ≡ true → is_structural w ≡ false
other p block loop if_ then_ else_ end_ w h = other_by p block loop if_ then_ else_ end_ w h (is_structural w) refl

pub offset_word : (w : List ℕ) → is_some (memory.offset w) ≡ true → is_structural w ≡ false
unfolding memory.after
offset_word = other (λ w. is_some (memory.offset w)) refl refl refl refl refl refl

pub align_word : (w : List ℕ) → is_some (memory.align w) ≡ true → is_structural w ≡ false
unfolding memory.after
align_word = other (λ w. is_some (memory.align w)) refl refl refl refl refl refl

pub value_word : (w : List ℕ) → is_some (value_type w) ≡ true → is_structural w ≡ false
value_word = other (λ w. is_some (value_type w)) refl refl refl refl refl refl

pub reference_word : (w : List ℕ) → is_some (reference_type w) ≡ true → is_structural w ≡ false
reference_word = other (λ w. is_some (reference_type w)) refl refl refl refl refl refl

pub heap_word : (w : List ℕ) → is_some (heap_type w) ≡ true → is_structural w ≡ false
heap_word = other (λ w. is_some (heap_type w)) refl refl refl refl refl refl

pub shape_word : (w : List ℕ) → is_some (shape w) ≡ true → is_structural w ≡ false
shape_word = other (λ w. is_some (shape w)) refl refl refl refl refl refl

-- The table of plain instructions.

abbrev is_plain_opcode : Opcode → Bool
is_plain_opcode (Byte b) = not ((b == 0x02) || ((b == 0x03) || (b == 0x04)))
is_plain_opcode (Prefixed prefix b) = true

abbrev is_plain_row : Mnemonic → Bool
is_plain_row m = not (is_structural m.word) && (is_plain_opcode m.opcode && is_other (role_of m.word))

abbrev are_plain : List Mnemonic → Bool
are_plain [] = true
are_plain (m ∷ ms) = is_plain_row m && are_plain ms

first_true : (b c : Bool) → (b && c) ≡ true → b ≡ true
first_true true c e = refl
first_true false c e = e

second_true : (b c : Bool) → (b && c) ≡ true → c ≡ true
second_true true c e = e
second_true false c e = cc

both_true : (b c d : Bool) → (b && c) ≡ true → (c ≡ true → d ≡ true) → (b && d) ≡ true
both_true true c d e f = f e
both_true false c d e f = e

plain_on : (ms ns : List Mnemonic) → are_plain ms ≡ true → are_plain ns ≡ true → are_plain (ms ++ ns) ≡ true
plain_on [] ns e f = f
plain_on (m ∷ ms) ns e f = both_true (is_plain_row m) (are_plain ms) (are_plain (ms ++ ns)) e (λ g. plain_on ms ns g f)

plain_low : are_plain low ≡ true
unfolding low role_of
plain_low = refl

plain_high : are_plain high ≡ true
unfolding high role_of
plain_high = refl

plain_prefixed : are_plain prefixed ≡ true
unfolding prefixed role_of
plain_prefixed = refl

plain_low_vectors : are_plain low_vectors ≡ true
unfolding low_vectors role_of
plain_low_vectors = refl

plain_high_vectors : are_plain high_vectors ≡ true
unfolding high_vectors role_of
plain_high_vectors = refl

plain_rows : are_plain mnemonics ≡ true
unfolding mnemonics
plain_rows = plain_on low (high ++ (prefixed ++ (low_vectors ++ high_vectors))) plain_low (plain_on high (prefixed ++ (low_vectors ++ high_vectors)) plain_high (plain_on prefixed (low_vectors ++ high_vectors) plain_prefixed (plain_on low_vectors high_vectors plain_low_vectors plain_high_vectors)))

pub record IsPlainRow (w : List ℕ) (m : Mnemonic) : Type 0 where
  pub word : is_structural w ≡ false
  pub role : is_other (role_of w) ≡ true
  pub opcode : structured_opcode m.opcode ≡ []

plain_byte : (b : Bool) (n : ℕ) → not b ≡ true → (if b then n ∷ [] else []) ≡ []
plain_byte true n e = cc
plain_byte false n e = refl

plain_opcode : (o : Opcode) → is_plain_opcode o ≡ true → structured_opcode o ≡ []
plain_opcode (Byte b) e = plain_byte ((b == 0x02) || ((b == 0x03) || (b == 0x04))) b e
plain_opcode (Prefixed prefix b) e = refl

row : (w : List ℕ) (m : Mnemonic) → m.word ≡ w → is_plain_row m ≡ true → IsPlainRow w m
row w m e p = record {
  word = not_true (is_structural w) (ap (λ v. not (is_structural v)) (sym e) ∙ first_true (not (is_structural m.word)) (is_plain_opcode m.opcode && is_other (role_of m.word)) p);
  role = ap (λ v. is_other (role_of v)) (sym e) ∙ second_true (is_plain_opcode m.opcode) (is_other (role_of m.word)) (second_true (not (is_structural m.word)) (is_plain_opcode m.opcode && is_other (role_of m.word)) p);
  opcode = plain_opcode m.opcode (first_true (is_plain_opcode m.opcode) (is_other (role_of m.word)) (second_true (not (is_structural m.word)) (is_plain_opcode m.opcode && is_other (role_of m.word)) p));
}

row_by : (w : List ℕ) (b : Bool) (n m : Mnemonic) (ms : List Mnemonic) → bytes_eq n.word w ≡ b → (is_plain_row n && are_plain ms) ≡ true → (if b then Some n else found w ms) ≡ Some m → (are_plain ms ≡ true → found w ms ≡ Some m → IsPlainRow w m) → IsPlainRow w m
row_by w true n m ms e p f more = let g : n ≡ m = cc in subst (IsPlainRow w) g (row w n (same_word n.word w e) (first_true (is_plain_row n) (are_plain ms) p))
row_by w false n m ms e p f more = more (second_true (is_plain_row n) (are_plain ms) p) f

row_of : (w : List ℕ) (ms : List Mnemonic) (m : Mnemonic) → are_plain ms ≡ true → found w ms ≡ Some m → IsPlainRow w m
row_of w [] m p e = cc
row_of w (n ∷ ms) m p e = row_by w (bytes_eq n.word w) n m ms refl p e (row_of w ms m)

pub found_row : (w : List ℕ) (m : Mnemonic) → found w mnemonics ≡ Some m → IsPlainRow w m
found_row w m e = row_of w mnemonics m plain_rows e
