-- The tables of the code have the rows of the list of types.
use Rattle.std.proofs.Common.{◌≡◌, ◌<◌, ◌≤◌, ◌+◌, ℕ, zero, suc, Bool, true, false, List, [], ◌∷◌, Option, Some, None, refl, sym, ◌∙◌, ap, subst, map, arith}
use Rattle.std.specs.Prelude.{◌==◌, ◌&&◌, if◌then◌else◌}
use Rattle.wat_module_ast.specs.declared.instruction.Opcode.{Opcode}
use Rattle.wat_module_ast.specs.declared.instruction.Opcode.TheVariants.{Byte, Prefixed}
use Rattle.wat_valid.specs.declared.typing.TheConstants.{BYTES, NUMERIC, VECTORS}
use Rattle.wat_valid.specs.InstructionTypes as types
use Rattle.wat_valid.specs.InstructionTypes.{TypedInstruction, Typing, typed_instructions}
use Rattle.wat_valid.specs.Instructions.{same_opcode, typing_in, typing_of}
use Rattle.wat_valid.specs.Algorithm.{plain_part}
use Rattle.wat_valid.specs.Views.{typing_at}
use Rattle.wat_valid.proofs.Effects.{both}

abbrev upto : ℕ → ℕ → List ℕ
upto k zero = []
upto k (suc n) = k ∷ upto (suc k) n

agree : {A : Type 0} (f g : ℕ → A) (k n m : ℕ) → map f (upto k n) ≡ map g (upto k n) → k ≤ m → m < k + n → f m ≡ g m
agree f g k zero m e l u = absurd (omega arith)
agree f g k (suc n) m e l u = by (m == k) refl (agree f g (suc k) n m)
  where
    by : (b : Bool) → m == k ≡ b → (map f (upto (suc k) n) ≡ map g (upto (suc k) n) → suc k ≤ m → m < suc k + n → f m ≡ g m) → f m ≡ g m
    by true is later = let same : m ≡ k = grind arith in let head : f k ≡ g k = cc in ap f same ∙ (head ∙ ap g (sym same))
    by false is later = let other : m ≡ k → ⊥ = grind arith in later (let tail : map f (upto (suc k) n) ≡ map g (upto (suc k) n) = cc in tail) (omega arith) (omega arith)

abbrev bytes_in : List TypedInstruction → List (Option Typing)
bytes_in rows = map (λ n. plain_part (typing_in (Byte n) rows)) (upto 0 256)

abbrev after_in : ℕ → List TypedInstruction → List (Option Typing)
after_in p rows = map (λ n. plain_part (typing_in (Prefixed p n) rows)) (upto 0 256)

bytes_agree : map (typing_at BYTES) (upto 0 256) ≡ bytes_in typed_instructions
unfolding types.typed_instructions types.low types.high types.prefixed types.low_vectors types.high_vectors
bytes_agree = refl

numeric_agree : map (typing_at NUMERIC) (upto 0 256) ≡ after_in 0xFC typed_instructions
unfolding types.typed_instructions types.low types.high types.prefixed types.low_vectors types.high_vectors
numeric_agree = refl

vectors_agree : map (typing_at VECTORS) (upto 0 256) ≡ after_in 0xFD typed_instructions
unfolding types.typed_instructions types.low types.high types.prefixed types.low_vectors types.high_vectors
vectors_agree = refl

pub byte_row : (n : ℕ) → n < 256 → typing_at BYTES n ≡ plain_part (typing_of (Byte n))
unfolding typing_of
byte_row n l = agree (typing_at BYTES) (λ m. plain_part (typing_in (Byte m) typed_instructions)) 0 256 n bytes_agree (omega arith) (omega arith)

pub numeric_row : (n : ℕ) → n < 256 → typing_at NUMERIC n ≡ plain_part (typing_of (Prefixed 0xFC n))
unfolding typing_of
numeric_row n l = agree (typing_at NUMERIC) (λ m. plain_part (typing_in (Prefixed 0xFC m) typed_instructions)) 0 256 n numeric_agree (omega arith) (omega arith)

pub vector_row : (n : ℕ) → n < 256 → typing_at VECTORS n ≡ plain_part (typing_of (Prefixed 0xFD n))
unfolding typing_of
vector_row n l = agree (typing_at VECTORS) (λ m. plain_part (typing_in (Prefixed 0xFD m) typed_instructions)) 0 256 n vectors_agree (omega arith) (omega arith)

-- no other prefix

abbrev known : Opcode → Bool
known (Byte b) = true
known (Prefixed p n) = if p == 0xFC then true else p == 0xFD

abbrev all_known : List TypedInstruction → Bool
all_known [] = true
all_known (r ∷ rs) = known r.opcode && all_known rs

each_known : all_known typed_instructions ≡ true
unfolding types.typed_instructions types.low types.high types.prefixed types.low_vectors types.high_vectors
each_known = refl

other_opcode : (p n : ℕ) (o : Opcode) → p == 0xFC ≡ false → p == 0xFD ≡ false → known o ≡ true → same_opcode (Prefixed p n) o ≡ false
other_opcode p n (Byte b) e f k = refl
other_opcode p n (Prefixed q m) e f k = by (p == q) refl
  where
    by : (b : Bool) → p == q ≡ b → b && (n == m) ≡ false
    by false is = refl
    by true is =
        let same : p ≡ q = grind arith in
        let no : known (Prefixed p n) ≡ false = ap (λ (b : Bool). if b then true else p == 0xFD) e ∙ f in
        let yes : known (Prefixed p n) ≡ true = subst (λ (x : ℕ). (if x == 0xFC then true else x == 0xFD) ≡ true) (sym same) k in
        cc

none_in : (p n : ℕ) (rows : List TypedInstruction) → p == 0xFC ≡ false → p == 0xFD ≡ false → all_known rows ≡ true → typing_in (Prefixed p n) rows ≡ None
none_in p n [] e f k = refl
none_in p n (r ∷ rs) e f k =
    let b = both (known r.opcode) (all_known rs) k in
    ap (λ (t : Bool). if t then Some r.typing else typing_in (Prefixed p n) rs) (other_opcode p n r.opcode e f b.0) ∙ none_in p n rs e f b.1

pub no_row : (p n : ℕ) → p == 0xFC ≡ false → p == 0xFD ≡ false → typing_of (Prefixed p n) ≡ None
unfolding typing_of
no_row p n e f = none_in p n typed_instructions e f each_known
