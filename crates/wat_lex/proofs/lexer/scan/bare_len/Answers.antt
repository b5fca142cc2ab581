use Rattle.std.proofs.Common.{◌≡◌, ◌≢◌, ◌∷◌, [], ℕ, List, length, ◌≤◌, true, false, get_or, ap, ◌∙◌, sym, inl, inr, cond, arith, rules}
use Rattle.std.proofs.lemmas.Bool.Decides.{eqb_tells}
use Rattle.std.specs.List.{prefix_len}
use Rattle.std.specs.Prelude.{◌==◌, if◌then◌else◌, ◌+◌}
use Rattle.wat_lex.specs.grammar.Classes.{is_idchar, quote}
use Rattle.wat_lex.specs.tokens.BareWords.{bare_len}
use Rattle.wat_lex.proofs.lexer.scan.bare_len.Goals as goal

other : (b q : ℕ) → b ≢ q → (b == q) ≡ false
other b q n = elim (eqb_tells b q) [
  | inl e ↦ absurd (n e.1)
  | inr e ↦ e.0
]

one_idchar : (a b : ℕ) (r : List ℕ) → is_idchar a ≡ true → is_idchar b ≡ false → prefix_len is_idchar (a ∷ b ∷ r) ≡ 1
one_idchar a b r p0 p1 = ap (λ x. cond x (1 + prefix_len is_idchar (b ∷ r)) 0) p0 ∙ ap (λ x. 1 + cond x (1 + prefix_len is_idchar r) 0) p1

one : (a b : ℕ) (r : List ℕ) (n : ℕ) → n ≡ 1 → b ≢ quote → (if get_or (a ∷ b ∷ r) n 0 == quote then 0 else n) ≡ 1
one a b r n e q = ap (λ k. if get_or (a ∷ b ∷ r) k 0 == quote then 0 else k) e ∙ ap (λ x. if x then 0 else 1) (other b quote q)

one_bare : (text : List ℕ) → 2 ≤ length text → is_idchar (get_or text 0 0) ≡ true → is_idchar (get_or text 1 0) ≡ false → get_or text 1 0 ≢ quote → 1 ≡ bare_len text
one_bare [] long p0 p1 q = absurd (omega (arith, long))
one_bare (a ∷ []) long p0 p1 q = absurd (omega (arith, long))
one_bare (a ∷ b ∷ r) long p0 p1 q = sym (one a b r (prefix_len is_idchar (a ∷ b ∷ r)) (one_idchar a b r p0 p1) q)

pub returns-in-len2-up : goal.returns-in-len2-up
returns-in-len2-up c =
    let ends = c.ends_bare_word.ensures (search rules) in
    one_bare c.args.text.now c.in-len2-up.len_at_least (search rules) ends.0 ends.1
