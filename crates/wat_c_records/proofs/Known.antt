-- The tokens of rows.
use Rattle.std.proofs.Common.{◌≡◌, ℕ, zero, suc, List, [], ◌∷◌, refl, sym, ap, ◌∙◌, arith, length, Some}
use Rattle.std.specs.Prelude.{map, slice_get}
use Rattle.std.proofs.lemmas.List.{length-map}
use Rattle.wat_lex.specs.declared.lexer.kinds.Token.{Token}
use Rattle.wat_lex.specs.declared.lexer.kinds.TokenKind.TheVariants.{Annotation}
use Rattle.wat_c_records.specs.Counting.{row_of}
use Rattle.wat_c_records.specs.Links.{codes_of, without_link}
use Rattle.wat_c_records.specs.inside.Naming.{annotation_of}
use Rattle.wat_c_records.specs.declared.counting.Row.{Row}
use Rattle.wat_c_records.proofs.Coding.{annotation_kind, code_of, codes}

-- The row at this index tells the token.
pub record Tells (x : List ℕ) (ts : List Token) (number : ℕ) (row : Row) : Type 0 where
  pub token : Token
  pub there : slice_get ts number ≡ Some token
  pub known : without_link row ≡ row_of x 0 token

pub tells : (x : List ℕ) (rows : List Row) (ts : List Token) (number : ℕ) (row : Row) → map without_link rows ≡ map (row_of x 0) ts
    → slice_get rows number ≡ Some row → Tells x ts number row
tells x [] ts zero row e h = cc
tells x [] ts (suc n) row e h = cc
tells x (r ∷ rows) [] n row e h = cc
tells x (r ∷ rows) (t ∷ ts) zero row e h =
    let a : r ≡ row = cc in
    let b : without_link r ≡ row_of x 0 t = cc in
    record { token = t; there = refl; known = sym (ap without_link a) ∙ b }
tells x (r ∷ rows) (t ∷ ts) (suc n) row e h =
    let b : map without_link rows ≡ map (row_of x 0) ts = cc in
    let k = tells x rows ts n row b h in
    record { token = k.token; there = k.there; known = k.known }

pub code_known : (x : List ℕ) (ts : List Token) (n : ℕ) (row : Row) → (h : Tells x ts n row) → row.kind.code ≡ code_of x h.token
code_known x ts n row h = ap (λ (r : Row). r.kind.code) h.known

pub length_known : (x : List ℕ) (rows : List Row) (ts : List Token) → map without_link rows ≡ map (row_of x 0) ts → length rows ≡ length ts
length_known x rows ts e = omega (arith, ap length e, length-map rows without_link, length-map ts (row_of x 0))

pub codes_known : (x : List ℕ) (rows : List Row) (ts : List Token) → map without_link rows ≡ map (row_of x 0) ts → codes_of rows ≡ codes x ts
codes_known x [] [] e = refl
codes_known x [] (t ∷ ts) e = cc
codes_known x (r ∷ rows) [] e = cc
codes_known x (r ∷ rows) (t ∷ ts) e =
    let a : without_link r ≡ row_of x 0 t = cc in
    let b : map without_link rows ≡ map (row_of x 0) ts = cc in
    let c : r.kind.code ≡ code_of x t = ap (λ (y : Row). y.kind.code) a in
    ap (λ y. y ∷ codes_of rows) c ∙ ap (λ y. code_of x t ∷ y) (codes_known x rows ts b)

-- the token of an annotation's row
pub annotation_known : (x : List ℕ) (ts : List Token) (n : ℕ) (row : Row) → (h : Tells x ts n row) → row.kind.code ≡ 9 → annotation_of row ≡ h.token
annotation_known x ts n row h e =
    let offset = ap (λ (r : Row). r.offset) h.known in
    let len = ap (λ (r : Row). r.len) h.known in
    let kind = annotation_kind x h.token h.token.kind (sym (code_known x ts n row h) ∙ e) in
    let back : Annotation ≡ h.token.kind = sym kind in
    λ i. record { offset = offset i; len = len i; kind = back i }
