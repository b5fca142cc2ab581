use Rattle.std.proofs.Common.{◌≡◌, ◌+◌, ◌-◌, ℕ, List, length, take, drop, length-drop, ap, ◌∙◌, arith, refl, subst, inl, inr}
use Rattle.std.proofs.lemmas.Bool.{cases_eq}
use Rattle.std.proofs.lemmas.List.{take_rest}
use Rattle.std.proofs.lemmas.Str.{IsUtf8-drop}
use Rattle.std.specs.Str.{IsCharBoundary}
use Rattle.wat_lex.specs.tokens.QuotedNames.{quoted_name_len}
use Rattle.wat_lex.proofs.tokens.QuotedNames.{named, quoted_fits, quoted_found}
use Rattle.wat_lex.proofs.tokens.Scans.{part_ends}
use Rattle.wat_lex.proofs.lexer.Lexer.past_quoted_name.Goals as goal

measured : (text bs : List ℕ) (p n : ℕ) → bs ≡ text → n ≡ quoted_name_len (take (length bs - p) (drop p bs)) → n ≡ quoted_name_len (drop p text)
measured text bs p n e f = f ∙ ap quoted_name_len (take_rest bs p ∙ ap (drop p) e)

pub overflow_add-result : goal.overflow_add-result
overflow_add-result c =
    let text = c.args.self.now.text in
    let e = measured text c.as_bytes.result.now c.args.pos _ (c.as_bytes.ensures.value ∙ c.input-text.ensures.text) c.quoted_name_len.ensures in
    record { fits = omega (arith, e, quoted_fits (drop c.args.pos text), length-drop c.args.pos text, c.requires.0, c.input-text.ensures.short, ap length c.input-text.ensures.text) }

pub returns-clause-value : goal.returns-clause-value
returns-clause-value c =
    let e = measured c.args.self.now.text c.as_bytes.result.now c.args.pos _ (c.as_bytes.ensures.value ∙ c.input-text.ensures.text) c.quoted_name_len.ensures in
    ap (λ n. c.args.pos + n) e

pub returns-clause-token : goal.returns-clause-token
returns-clause-token c = λ some.
    let s = c.args.self.now in
    let e = measured s.text c.as_bytes.result.now c.args.pos _ (c.as_bytes.ensures.value ∙ c.input-text.ensures.text) c.quoted_name_len.ensures in
    named s c.args.pos c.quoted_name_len.result c.input-text.ensures.utf8 c.requires e (omega (arith, some))

pub returns-clause-boundary : goal.returns-clause-boundary
returns-clause-boundary c =
    let s = c.args.self.now in
    let p = c.args.pos in
    let n = c.quoted_name_len.result in
    let e = measured s.text c.as_bytes.result.now p _ (c.as_bytes.ensures.value ∙ c.input-text.ensures.text) c.quoted_name_len.ensures in
    elim (cases_eq n 0) [
      | inl none ↦ let same : p ≡ p + n = omega (arith, none) in subst (IsCharBoundary s.text) same c.requires
      | inr some ↦
          let u = IsUtf8-drop s.text p c.input-text.ensures.utf8 c.requires in
          part_ends s (drop p s.text) p _ c.requires.0 refl u (quoted_found s.flags (drop p s.text) n u e (omega (arith, some)))
    ]
