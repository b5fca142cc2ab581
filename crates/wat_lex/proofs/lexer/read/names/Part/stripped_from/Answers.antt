use Rattle.std.proofs.Common.{◌≡◌, ◌≢◌, ◌++◌, ℕ, List, sym, ap, ◌∙◌, subst}
use Rattle.std.specs.Prelude.{MatchOption}
use Rattle.std.proofs.lemmas.Bool.Decides.{Decides-eqb}
use Rattle.std.proofs.lemmas.Slice.Eq.{strip_prefix_is}
use Rattle.wat_lex.specs.inside.StringParts.{part_bytes}
use Rattle.wat_lex.proofs.lexer.read.names.Part.stripped_from.Goals as goal

pub returns-in-Text : goal.returns-in-Text
returns-in-Text c =
    let value = c.args.value.now in
    subst (λ x. MatchOption c.strip_prefix.result ((rest : List ℕ) → value ≢ x ++ rest) (λ rest. value ≡ x ++ rest.now)) (c.as_bytes.ensures.value ∙ sym (ap part_bytes c.in-Text.is))
    (strip_prefix_is Decides-eqb value c.as_bytes.result.now c.strip_prefix.result c.strip_prefix.ensures.cases)
