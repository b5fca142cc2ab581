-- The name map of variables, part by part.
use Rattle.std.proofs.Common.{◌≡◌, ◌+◌, ℕ, suc, List, [], ◌∷◌, ◌++◌, Some, None, length, map, refl, ap, ◌∙◌, arith}
use Rattle.wat_module_ast.specs.declared.instruction.ValueType.{ValueType}
use Rattle.wat_module_ast.specs.Fields.{Variable, name_of, unnamed}
use Rattle.wat_module_ast.specs.Names.{association, associations}
use Rattle.wat_module_tokens.specs.Terminals.{Label}

pub append : (n m : ℕ) (xs ys : List Label) → m ≡ n + length xs → associations n (xs ++ ys) ≡ associations n xs ++ associations m ys
append n m [] ys e = ap (λ k. associations k ys) (omega (arith, e))
append n m (None ∷ xs) ys e = append (suc n) m xs ys (omega (arith, e))
append n m (Some x ∷ xs) ys e = ap (λ rest. association n x ∷ rest) (append (suc n) m xs ys (omega (arith, e)))

names_append : (vs ws : List Variable) → map name_of (vs ++ ws) ≡ map name_of vs ++ map name_of ws
names_append [] ws = refl
names_append (v ∷ vs) ws = ap (λ ls. name_of v ∷ ls) (names_append vs ws)

names_length : (vs : List Variable) → length (map name_of vs) ≡ length vs
names_length [] = refl
names_length (v ∷ vs) = ap suc (names_length vs)

pub listed : (ps ls : List Variable) → associations 0 (map name_of (ps ++ ls)) ≡ associations 0 (map name_of ps) ++ associations (length ps) (map name_of ls)
listed ps ls = let k = names_length ps in ap (λ x. associations 0 x) (names_append ps ls) ∙ append 0 (length ps) (map name_of ps) (map name_of ls) (omega (arith, k))

indexed_from : (n m : ℕ) (ps : List ValueType) (ls : List Variable) → m ≡ n + length ps → associations n (map name_of (map unnamed ps ++ ls)) ≡ associations m (map name_of ls)
indexed_from n m [] ls e = ap (λ k. associations k (map name_of ls)) (omega (arith, e))
indexed_from n m (p ∷ ps) ls e = indexed_from (suc n) m ps ls (omega (arith, e))

pub indexed : (ps : List ValueType) (ls : List Variable) → associations 0 (map name_of (map unnamed ps ++ ls)) ≡ associations (length ps) (map name_of ls)
indexed ps ls = indexed_from 0 (length ps) ps ls (omega arith)
