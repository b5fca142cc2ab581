use Rattle.std.proofs.Common.{sym, ap, ◌∙◌, ◌≡◌, ◌<◌, ℕ, Bool, true, false, not, ◌==◌, ◌||◌, get_or, eqb-true, refl, arith}
use Rattle.std.specs.Char.{digit_value}
use Rattle.std.proofs.lemmas.Bool.{agree_below_at}
use Rattle.wat_lex.specs.grammar.Classes.{is_hex}
use Rattle.wat_lex.specs.declared.lexer.read.strings.TheConstants.{DIGIT_VALUES}
use Rattle.wat_lex.proofs.lexer.read.strings.digit.Goals as goal

-- a value that is not 16 is that of a hexadecimal digit
below : (n : ℕ) (hex : Bool) → (n == 16) ≡ not hex → n < 16 → hex ≡ true
below n true e l = refl
below n false e l = absurd (omega (arith, eqb-true n 16 e))

pub returns-clause-digit : goal.returns-clause-digit
returns-clause-digit c l = below _ (is_hex c.args.byte) (agree_below_at (λ b. get_or DIGIT_VALUES b 0 == 16) (λ b. not (is_hex b)) 256 c.args.byte refl c.ranges.byte.fits) l

pub returns-clause-value : goal.returns-clause-value
returns-clause-value c h =
    let table = agree_below_at (λ b. not (is_hex b) || get_or DIGIT_VALUES b 0 == digit_value b) (λ _. true) 256 c.args.byte refl c.ranges.byte.fits in
    eqb-true _ _ (sym (ap (λ x. not x || get_or DIGIT_VALUES c.args.byte 0 == digit_value c.args.byte) h) ∙ table)
