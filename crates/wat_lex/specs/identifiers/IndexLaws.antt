-- Identifiers and indices as keys: their equality is an equivalence relation, and equal ones feed the same input to a
-- hasher. The standard has no such keys.
use Rattle.std.specs.Prelude.{◌≡◌, true, ◌++◌, ◌==◌, refl, nat_eq}
use Rattle.std.specs.Cmp.Lexicographic.{nat_list_eq_equiv, pointwise, same_text}
use Rattle.std.proofs.Common.{ap, sym, ◌∙◌}
use Rattle.std.proofs.lemmas.Bool.{eqb-true, false≢true}
use Rattle.std.specs.Cmp.{IsEquivalence, and_equiv, first_so, nat_eq_equiv, on_equiv, second_so}
use Rattle.std.specs.Hash as fed
use Rattle.wat_lex.specs.identifiers.Identifiers.{Identifier, is_same_identifier}
use Rattle.wat_lex.specs.identifiers.Indices.{hash_input_of, identifier_hash_input, is_same_index}
use Rattle.wat_lex.specs.declared.token.Index.{Index}
use Rattle.wat_lex.specs.declared.token.Index.TheVariants.{Id, Num}

is_same_identifier_laws : IsEquivalence is_same_identifier
is_same_identifier_laws =
    and_equiv (on_equiv (λ i. i.name) nat_list_eq_equiv) (on_equiv (λ i. i.generation) nat_eq_equiv)

pub identifier_hash_input-same : (a b : Identifier) → is_same_identifier a b ≡ true → identifier_hash_input a ≡ identifier_hash_input b
identifier_hash_input-same a b e =
    ap (λ name. fed.str name ++ fed.u32 a.generation) (same_text a.name b.name (sym (first_so (pointwise nat_eq a.name b.name) (a.generation == b.generation) e)))
    ∙ ap (λ n. fed.str b.name ++ fed.u32 n) (eqb-true a.generation b.generation (second_so (pointwise nat_eq a.name b.name) (a.generation == b.generation) e))

reflexive : (x : Index) → is_same_index x x ≡ true
reflexive (Num n s) = nat_eq_equiv.refl n
reflexive (Id a) = is_same_identifier_laws.refl a

symmetric : (x y : Index) → is_same_index x y ≡ is_same_index y x
symmetric (Num m s) (Num n t) = nat_eq_equiv.symm m n
symmetric (Num m s) (Id b) = refl
symmetric (Id a) (Num n t) = refl
symmetric (Id a) (Id b) = is_same_identifier_laws.symm a b

congruent : (x y z : Index) → is_same_index x y ≡ true → is_same_index x z ≡ is_same_index y z
congruent (Num m s) (Num n t) (Num k u) e = nat_eq_equiv.congr m n k e
congruent (Num m s) (Num n t) (Id c) e = refl
congruent (Num m s) (Id b) z e = absurd (false≢true e)
congruent (Id a) (Num n t) z e = absurd (false≢true e)
congruent (Id a) (Id b) (Num k u) e = refl
congruent (Id a) (Id b) (Id c) e = is_same_identifier_laws.congr a b c e

pub is_same_index_laws : IsEquivalence is_same_index
is_same_index_laws = record { refl = reflexive; symm = symmetric; congr = congruent }

pub hash_input_of-same : (x y : Index) → is_same_index x y ≡ true → hash_input_of x ≡ hash_input_of y
hash_input_of-same (Num m s) (Num n t) e = ap (λ k. fed.u8 0 ++ fed.u32 k) (eqb-true m n e)
hash_input_of-same (Num m s) (Id b) e = absurd (false≢true e)
hash_input_of-same (Id a) (Num n t) e = absurd (false≢true e)
hash_input_of-same (Id a) (Id b) e = ap (λ w. fed.u8 1 ++ w) (identifier_hash_input-same a b e)
