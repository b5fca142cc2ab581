-- Block comments without their closing `;)`: WebAssembly 2.0, 6.2.4 (comments) derives no comment from such a `(;`, and
-- error recovery, which the standard does not have, skips only the `(;`.
use Rattle.std.specs.Prelude.{◌≡◌, ◌+◌, ℕ, List, slice_index}
use Rattle.std.specs.Str.{IsCharBoundary}
use Rattle.wat_lex.specs.tokens.Faults.{FaultAt}
use Rattle.wat_lex.specs.tokens.Setting.{Setting}
use Rattle.wat_lex.specs.declared.lexer.faults.LexError.TheVariants.{DanglingBlockComment}

-- `UnclosedAt s p`: at byte `p`, which is a char boundary, the lexical error is a `(;` without its `;)`.
pub record UnclosedAt (s : Setting) (p : ℕ) : Type 0 where
  pub boundary : IsCharBoundary s.text p
  pub fault : FaultAt s p (record { offset = p; error = DanglingBlockComment })

-- `AreMarks s marks`: each number that is not 0 is 1 plus the offset of a `(;` without its `;)`.
abbrev pub AreMarks : Setting → List ℕ → Type 0
AreMarks s marks = (k p : ℕ) → slice_index marks k ≡ p + 1 → UnclosedAt s p
