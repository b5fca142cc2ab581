-- WebAssembly 2.0, 6.2.4 (comments): line comments, and block comments, which nest.
use Rattle.std.specs.Prelude.{◌≢◌, ℕ, List, ◌∷◌, not}
use Rattle.wat_lex.specs.grammar.Classes.{open_paren, close_paren, semicolon, is_line_end, Each}

-- `Closes t r`: `t` is the inside of a block comment, its closing `;)`, and then `r`. The inside is a sequence of
-- items: a character other than `;` and `(`, a `;` that is not followed by `)`, a `(` that is not followed by `;`, or a
-- block comment.
pub data Closes : List ℕ → List ℕ → Type 0 where
  close : {r : List ℕ} → Closes (semicolon ∷ close_paren ∷ r) r
  plain : {c : ℕ} {t r : List ℕ} → c ≢ semicolon → c ≢ open_paren → Closes t r → Closes (c ∷ t) r
  lone_semicolon : {d : ℕ} {t r : List ℕ} → d ≢ close_paren → Closes (d ∷ t) r → Closes (semicolon ∷ d ∷ t) r
  lone_paren : {d : ℕ} {t r : List ℕ} → d ≢ semicolon → Closes (d ∷ t) r → Closes (open_paren ∷ d ∷ t) r
  nested : {t m r : List ℕ} → Closes t m → Closes m r → Closes (open_paren ∷ semicolon ∷ t) r

-- `BlockComment s r`: `s` is a block comment, and then `r`.
pub data BlockComment : List ℕ → List ℕ → Type 0 where
  opened : {t r : List ℕ} → Closes t r → BlockComment (open_paren ∷ semicolon ∷ t) r

-- A line comment: `;;` and characters other than LF and CR. The end of the line is not a part of it.
pub data LineComment : List ℕ → Type 0 where
  begun : {t : List ℕ} → Each (λ c. not (is_line_end c)) t → LineComment (semicolon ∷ semicolon ∷ t)
