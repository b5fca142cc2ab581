use Rattle.std.proofs.Common.{◌≡◌, ℕ, List, get_or, ap, ◌∙◌, sym, subst}
use Rattle.std.specs.Str.{chars}
use Rattle.std.proofs.lemmas.Str.{IsCharBoundary-from_drop}
use Rattle.wat_lex.specs.grammar.Classes.{Begins}
use Rattle.wat_lex.specs.tokens.Recovery.{is_inside}
use Rattle.wat_lex.proofs.inside.Recoveries.{passed_quote, passed_line}
use Rattle.wat_lex.proofs.lexer.recover.rest_of_string.Goals as goal

reads : (text bs : List ℕ) (i x : ℕ) → bs ≡ text → x ≡ get_or bs i 0 → get_or text i 0 ≡ x
reads text bs i x e f = ap (λ t. get_or t i 0) (sym e) ∙ sym f

pub range_from-requires : goal.range_from-requires
range_from-requires c = λ _. let i = c.inside.invariant in IsCharBoundary-from_drop c.args.text.now c.inside.at i.range i.utf8

pub returns-then-byte_at-eq34 : goal.returns-then-byte_at-eq34
returns-then-byte_at-eq34 c = passed_quote c.args.text.now c.inside.at c.inside.invariant (reads c.args.text.now c.as_bytes.result.now c.inside.at c.byte_at.result c.as_bytes.ensures.value c.byte_at.ensures ∙ c.if-byte_at-eq34.true)

pub returns : goal.returns
returns c =
    passed_line c.args.text.now c.inside.at c.inside.invariant
    (subst (λ x. Begins is_inside (chars x) → ⊥) c.range_from.ensures.value c.in_default.ensures.none)
    (λ k. c.if-byte_at-eq34.false (sym (reads c.args.text.now c.as_bytes.result.now c.inside.at c.byte_at.result c.as_bytes.ensures.value c.byte_at.ensures) ∙ k))
