-- From each boundary on there are raw tokens and their ending.
use Rattle.std.proofs.Common.{◌≡◌, ◌<◌, ◌+◌, ◌-◌, ℕ, zero, suc, [], ◌∷◌, length, drop, refl, arith, ap, ◌∙◌, length-drop}
use Rattle.std.specs.Prelude.{Some, None}
use Rattle.std.proofs.lemmas.Str.{encodes-chars, IsUtf8-drop}
use Rattle.std.specs.Str.{chars, IsUtf8, IsCharBoundary}
use Rattle.wat_lex.specs.grammar.Classes.{size}
use Rattle.wat_lex.specs.tokens.Faults.{FaultAt}
use Rattle.wat_lex.specs.tokens.Setting.{Setting}
use Rattle.wat_lex.specs.tokens.Tiling.{TokenAt}
use Rattle.wat_lex.specs.tokens.UniqueTilings.{SomeTiling}
use Rattle.wat_lex.specs.declared.lexer.kinds.Token.{Token}
use Rattle.wat_lex.specs.declared.lexer.faults.LexFault.{LexFault}
use Rattle.wat_lex.proofs.tokens.RawLaws.{after, token_some}
use Rattle.wat_lex.proofs.tokens.MovedTexts.{fault_fits}
use Rattle.wat_lex.proofs.tokens.SomeAnswer.{SomeAnswer, nothing, word, fault, some_answer}

one_more : (s : Setting) (p : ℕ) (t : Token) → TokenAt s p t → SomeTiling s (t.offset + t.len) → SomeTiling s p
one_more s p t h m = (t ∷ m.0, m.1, record { to = m.2.to; tiling = (h, m.2.tiling); ends = m.2.ends })

module _ (s : Setting) (utf8 : IsUtf8 s.text) where
  left_size : (p : ℕ) → IsCharBoundary s.text p → size (chars (drop p s.text)) ≡ length s.text - p
  left_size p b = ap length (encodes-chars (drop p s.text) (IsUtf8-drop s.text p utf8 b)) ∙ length-drop p s.text

  at_end : (p : ℕ) → IsCharBoundary s.text p → chars (drop p s.text) ≡ [] → SomeTiling s p
  at_end p b e =
      let k = left_size p b in
      let l = ap size e in
      let z : p ≡ length s.text = omega (arith, k, l, b.0) in
      ([], None, record { to = p; tiling = refl; ends = z })

  tiling_by : (n p : ℕ) → IsCharBoundary s.text p → length s.text - p < n → SomeTiling s p
  tiling_by zero p b l = absurd (omega arith)
  tiling_by (suc n) p b l = by (some_answer s.flags (chars (drop p s.text))) (λ t h. one_more s p t h (tiling_by n (t.offset + t.len) (after s p t utf8 b h) (shorter t h)))
    where
      shorter : (t : Token) → TokenAt s p t → length s.text - (t.offset + t.len) < n
      shorter t h =
          let o = h.offset in
          let k = token_some s p t h in
          let c = (after s p t utf8 b h).0 in
          omega (arith, o, k, c, l)

      by : SomeAnswer s.flags (chars (drop p s.text)) → ((t : Token) → TokenAt s p t → SomeTiling s p) → SomeTiling s p
      by (nothing e) next = at_end p b e
      by (word {k = k} {w = w} {r = r} h) next = next (record { kind = k; offset = p; len = size w }) (record { offset = refl; word = w; rest = r; is_at = h; len = refl })
      by (fault {e = e} {at = at} h) next =
          let f : LexFault = record { offset = length s.text - size at; error = e } in
          let k = fault_fits s.flags (chars (drop p s.text)) e at h in
          let g = left_size p b in
          let there : FaultAt s p f = record { at = at; fault = h; place = omega (arith, k, g) } in
          ([], Some f, record { to = p; tiling = refl; ends = there })

pub some_tiling : (s : Setting) (p : ℕ) → IsUtf8 s.text → IsCharBoundary s.text p → SomeTiling s p
some_tiling s p u b = tiling_by s u (suc (length s.text - p)) p b (omega arith)
