-- The result of a reader of a row is unique, unless an allocation fails.
use Rattle.std.proofs.Common.{◌≡◌, ◌⊎◌, ℕ, List, refl, sym, ◌∙◌, inl, inr}
use Rattle.std.specs.Prelude.{Ok, Err}
use Rattle.wat_lex.specs.declared.lexer.kinds.Token.{Token}
use Rattle.wat_lex.specs.declared.lexer.kinds.TokenKind.{TokenKind}
use Rattle.wat_c_records.specs.declared.counting.Row.{Row}
use Rattle.wat_c.specs.ByRow.{FindsOf, kind_of, token_of}
use Rattle.wat_c.specs.declared.answers.Refusal.TheVariants.{Other, Memory, Absent, Fault}
use Rattle.wat_c.proofs.OneFinding.{Finding, One}

module _ (Is : TokenKind → Type 0) (Reads : List ℕ → Token → Finding → Type 0) (text : List ℕ) (row : Row)
    (one : One (Reads text (token_of row))) where
  abbrev Of : Type 0
  Of = Is (kind_of row.kind)

  abbrev Read : Finding → Type 0
  Read a = Of × Reads text (token_of row) a

  split : (a : Finding) → FindsOf Is Reads text row a → ((a ≡ Err Other) × (Of → ⊥)) ⊎ Read a
  split (Ok bytes) h = inr h
  split (Err Other) h = inl (refl, h)
  split (Err (Memory refused)) h = inr h
  split (Err Absent) h = inr h
  split (Err (Fault e)) h = inr h

  pub one_of_row : One (FindsOf Is Reads text row)
  one_of_row a b h k n m =
      elim (split a h) [
        | inl x ↦ elim (split b k) [ inl y ↦ x.0 ∙ sym y.0 | inr y ↦ absurd (x.1 y.0) ]
        | inr x ↦ elim (split b k) [ inl y ↦ absurd (y.1 x.0) | inr y ↦ one a b x.1 y.1 n m ]
      ]
