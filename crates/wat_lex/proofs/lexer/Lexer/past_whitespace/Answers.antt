use Rattle.std.proofs.Common.{◌≡◌, ◌<◌, ◌+◌, ◌-◌, ℕ, List, length, take, drop, length-drop, ap, ◌∙◌, subst, arith, refl, inl, inr}
use Rattle.std.specs.List.{prefix_len}
use Rattle.std.specs.Str.{IsCharBoundary, IsUtf8}
use Rattle.std.proofs.lemmas.Bool.{cases_eq}
use Rattle.std.proofs.lemmas.List.{take_rest}
use Rattle.std.proofs.lemmas.List.Sums.{prefix_len-le-length, prefix_len_passes}
use Rattle.std.proofs.lemmas.Str.{IsUtf8-drop}
use Rattle.wat_lex.specs.declared.lexer.kinds.TokenKind.TheVariants.{Whitespace}
use Rattle.wat_lex.specs.grammar.Classes.{is_whitespace}
use Rattle.wat_lex.specs.inside.ScannedLexemes.{LexemeFound}
use Rattle.wat_lex.specs.tokens.Setting.{Setting}
use Rattle.wat_lex.proofs.inside.LineComments.{found_whitespace}
use Rattle.wat_lex.proofs.tokens.Scans.{token_at, part_ends}
use Rattle.wat_lex.proofs.lexer.Lexer.past_whitespace.Goals as goal

measured : (text bs : List ℕ) (p n : ℕ) → bs ≡ text → n ≡ prefix_len is_whitespace (take (length bs - p) (drop p bs)) → n ≡ prefix_len is_whitespace (drop p text)
measured text bs p n e f = f ∙ ap (prefix_len is_whitespace) (take_rest bs p ∙ ap (drop p) e)

whitespace_found : (s : Setting) (p n : ℕ) → IsUtf8 s.text → IsCharBoundary s.text p → n ≡ prefix_len is_whitespace (drop p s.text) → 0 < n → LexemeFound s.flags (drop p s.text) (record { kind = Whitespace; len = n })
whitespace_found s p n u b e some =
    let rest = drop p s.text in
    found_whitespace s.flags rest n (IsUtf8-drop s.text p u b) (omega (arith, some, e, prefix_len-le-length is_whitespace rest)) (prefix_len_passes is_whitespace rest 0 0 (omega (arith, some, e))) e

ends : (s : Setting) (p n : ℕ) → IsUtf8 s.text → IsCharBoundary s.text p → n ≡ prefix_len is_whitespace (drop p s.text) → IsCharBoundary s.text (p + n)
ends s p n u b e = elim (cases_eq n 0) [
  | inl none ↦ let same : p ≡ p + n = omega (arith, none) in subst (IsCharBoundary s.text) same b
  | inr some ↦ part_ends s (drop p s.text) p (record { kind = Whitespace; len = n }) b.0 refl (IsUtf8-drop s.text p u b) (whitespace_found s p n u b e (omega (arith, some)))
]

pub overflow_add-result : goal.overflow_add-result
overflow_add-result c =
    let text = c.args.self.now.text in
    let e = measured text c.as_bytes.result.now c.args.pos _ (c.as_bytes.ensures.value ∙ c.input-text.ensures.text) c.blank_len.ensures in
    record { fits = omega (arith, e, prefix_len-le-length is_whitespace (drop c.args.pos text), length-drop c.args.pos text, c.requires.0, c.input-text.ensures.short, ap length c.input-text.ensures.text) }

pub returns-clause-token : goal.returns-clause-token
returns-clause-token c = λ some.
    let s = c.args.self.now in
    let e = measured s.text c.as_bytes.result.now c.args.pos _ (c.as_bytes.ensures.value ∙ c.input-text.ensures.text) c.blank_len.ensures in
    let found = whitespace_found s c.args.pos c.blank_len.result c.input-text.ensures.utf8 c.requires e (omega (arith, some)) in
    (_, token_at s (drop c.args.pos s.text) c.args.pos _ refl found, refl, refl)

pub returns-clause-boundary : goal.returns-clause-boundary
returns-clause-boundary c =
    let s = c.args.self.now in
    let e = measured s.text c.as_bytes.result.now c.args.pos _ (c.as_bytes.ensures.value ∙ c.input-text.ensures.text) c.blank_len.ensures in
    ends s c.args.pos c.blank_len.result c.input-text.ensures.utf8 c.requires e
