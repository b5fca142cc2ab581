use Rattle.std.proofs.Common.{◌≡◌, ◌<◌, ◌+◌, ℕ, List, zero, suc, [], ◌∷◌, length, length-drop, drop, get_or, get_or-drop, ap, ◌∙◌, arith, rules, refl}
use Rattle.std.specs.Prelude.{slice_index}
use Rattle.std.proofs.lemmas.Str.{IsUtf8-drop}
use Rattle.wat_lex.proofs.inside.LineComments.{found_close}
use Rattle.wat_lex.proofs.tokens.Scans.{token_at, part_ends}
use Rattle.wat_lex.proofs.lexer.Lexer.is_close.Goals as goal

first_is : (text : List ℕ) (p : ℕ) → get_or (drop p text) 0 0 ≡ get_or text p 0
first_is text p = let plus : p + 0 ≡ p = omega arith in get_or-drop p text 0 0 ∙ ap (λ i. get_or text i 0) plus

inside : (text : List ℕ) (i : ℕ) → get_or text i 0 ≡ 41 → i < length text
inside [] i e = absurd (omega (arith, e))
inside (b ∷ bs) zero e = omega arith
inside (b ∷ bs) (suc i) e = omega (arith, inside bs i e)

pub returns-clause-token : goal.returns-clause-token
returns-clause-token c = λ yes.
    let s = c.args.self.now in
    let p = c.args.pos in
    let byte : slice_index s.text p ≡ 41 = search rules in
    let found = found_close s.flags (drop p s.text) (IsUtf8-drop s.text p c.input-text.ensures.utf8 c.requires) (omega (arith, inside s.text p byte, length-drop p s.text)) (first_is s.text p ∙ byte) in
    token_at s (drop p s.text) p _ refl found

pub returns-clause-boundary : goal.returns-clause-boundary
returns-clause-boundary c = λ yes.
    let s = c.args.self.now in
    let p = c.args.pos in
    let byte : slice_index s.text p ≡ 41 = search rules in
    let u = IsUtf8-drop s.text p c.input-text.ensures.utf8 c.requires in
    let found = found_close s.flags (drop p s.text) u (omega (arith, inside s.text p byte, length-drop p s.text)) (first_is s.text p ∙ byte) in
    part_ends s (drop p s.text) p _ c.requires.0 refl u found
