-- Locals of the code, which are counted: those from one on are this one and those after it.
use Rattle.std.proofs.Common.{◌≡◌, ◌<◌, ◌∙◌, ◌+◌, ℕ, zero, suc, Bool, true, false, List, ◌∷◌, ◌++◌, length, map, drop, get_or, refl, sym, ap, append_assoc, arith}
use Rattle.std.specs.Prelude.{◌==◌, replicate}
use Rattle.std.proofs.lemmas.Bool.Decides.{Decides-eqb}
use Rattle.std.specs.List.{flat_map}
use Rattle.std.proofs.lemmas.List.{drop_more, map-append, replicate-append-replicate}
use Rattle.wat_module_ast.specs.declared.fields.Locals.{Locals}
use Rattle.wat_module_ast.specs.Views.{local_types}
use Rattle.wat_module_ast.specs.Types.{type_byte}
use Rattle.wat_module_encoder.specs.Binary.{runs_of}
use Rattle.wat_module_encoder.specs.Views.{bytes_of}
use Rattle.wat_module_encoder.proofs.RunLaws.{other_run}

times : {A B : Type 0} (f : A → B) (n : ℕ) (x : A) → map f (replicate n x) ≡ replicate n (f x)
times f zero x = refl
times f (suc n) x = ap (λ ys. f x ∷ ys) (times f n x)

-- The bytes of the locals from one on.
from_local : (ls : List Locals) (i : ℕ) (d : Locals) (c b : ℕ) → i < length ls → (get_or ls i d).count ≡ c → type_byte (get_or ls i d).of ≡ b
    → bytes_of (drop i ls) ≡ replicate c b ++ bytes_of (drop (i + 1) ls)
from_local ls i d c b h e f =
    let l = get_or ls i d in
    ap bytes_of (drop_more ls i d h) ∙ map-append type_byte (local_types l) (flat_map local_types (drop (i + 1) ls))
    ∙ ap (λ bs. bs ++ bytes_of (drop (i + 1) ls)) (times type_byte l.count l.of ∙ ap (λ n. replicate n (type_byte l.of)) e ∙ ap (replicate c) f)

-- More locals of the type of the run before them.
pub more_same : (ls : List Locals) (i : ℕ) (d : Locals) (n b c : ℕ) → i < length ls → (get_or ls i d).count ≡ c → type_byte (get_or ls i d).of ≡ b
    → replicate n b ++ bytes_of (drop i ls) ≡ replicate (n + c) b ++ bytes_of (drop (i + 1) ls)
more_same ls i d n b c h e f =
    ap (λ bs. replicate n b ++ bs) (from_local ls i d c b h e f) ∙ sym (append_assoc (replicate n b) (replicate c b) (bytes_of (drop (i + 1) ls)))
    ∙ ap (λ bs. bs ++ bytes_of (drop (i + 1) ls)) (replicate-append-replicate n c b)

-- No locals.
pub more_none : (ls : List Locals) (i : ℕ) (d : Locals) → i < length ls → (get_or ls i d).count ≡ 0 → bytes_of (drop i ls) ≡ bytes_of (drop (i + 1) ls)
more_none ls i d h e = from_local ls i d 0 (type_byte (get_or ls i d).of) h e refl

differ : (b t : ℕ) → (t ≡ b → ⊥) → (x : Bool) → (b == t) ≡ x → x ≡ false
differ b t g true e = absurd (g (sym ((Decides-eqb b t).0 e)))
differ b t g false e = refl

-- Locals of another type than the run before them.
pub more_other : (ls : List Locals) (i : ℕ) (d : Locals) (n b c t : ℕ) → i < length ls → (get_or ls i d).count ≡ c → type_byte (get_or ls i d).of ≡ t → (t ≡ b → ⊥) → 0 < c
    → runs_of (replicate n b ++ bytes_of (drop i ls)) ≡ runs_of (replicate n b) ++ runs_of (replicate c t ++ bytes_of (drop (i + 1) ls))
more_other ls i d n b zero t h e f g k = absurd (omega (arith, k))
more_other ls i d n b (suc c) t h e f g k =
    ap (λ bs. runs_of (replicate n b ++ bs)) (from_local ls i d (suc c) t h e f) ∙ other_run n b t (differ b t g (b == t) refl) (replicate c t ++ bytes_of (drop (i + 1) ls))
