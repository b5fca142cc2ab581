use Rattle.std.proofs.Common.{sym, ◌∙◌, ◌≡◌, ◌||◌, Bool, false, subst, ℕ, List}
use Rattle.std.proofs.Common.{Global}
use Rattle.std.specs.declared.borrow.CowStr.{CowStr}
use Rattle.wat_lex.specs.values.NumberValues.{number_text, IsText}
use Rattle.wat_lex.proofs.values.NumberValues.{plain_text}
use Rattle.wat_lex.proofs.lexer.read.numbers.number_text.Goals as goal

as_written : (hex again : Bool) (w : List ℕ) (t : CowStr Global) → hex ≡ false → again ≡ false → IsText false (number_text false w) t → IsText (hex || again) (number_text hex w) t
as_written hex again w t e f h = subst (λ x. IsText (x || again) (number_text x w) t) (sym e) (subst (λ x. IsText x (number_text false w) t) (sym f) h)

pub returns-then-not-underscores-clause-value : goal.returns-then-not-underscores-clause-value
returns-then-not-underscores-clause-value c =
    let f = c.if-not-underscores.true in
    as_written c.args.hex c.args.underscores c.args.word.now _ c.if-not-hex.true f
    (c.without_plus.ensures ∙ plain_text c.args.word.now (c.requires.plain f), tt)
