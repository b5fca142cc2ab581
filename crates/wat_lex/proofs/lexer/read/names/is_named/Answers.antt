use Rattle.std.proofs.Common.{◌≡◌, ◌∷◌, lit<, sym, ◌∙◌, subst}
use Rattle.std.specs.Prelude.{None, Some}
use Rattle.std.specs.Str.{chars}
use Rattle.std.specs.Bool.{Decides}
use Rattle.std.proofs.lemmas.Bool.Decides.{Decides-eqb}
use Rattle.std.proofs.lemmas.Slice.Eq.{slice_eq-Decides}
use Rattle.std.proofs.lemmas.Str.Pattern.{strip_prefix_char}
use Rattle.wat_lex.specs.grammar.Classes.{Each, is_idchar}
use Rattle.wat_lex.proofs.values.Names.{name_elements, bare_idchars}
use Rattle.wat_lex.proofs.values.NameParts.{quoted_bytes, bare_bytes}
use Rattle.wat_lex.proofs.lexer.read.names.is_named.Goals as goal
use Rattle.wat_lex.proofs.lexer.read.names.is_named.Goals.{In-Some, In-None}

quote : (c : In-Some) → c.args.text.now ≡ 34 ∷ c.in-Some.elements.now
quote c = strip_prefix_char 34 c.args.text.now (Some c.in-Some.elements) c.in-Some.ensures.cases (lit< tt)

idchars : (c : In-None) → Each is_idchar (chars c.args.text.now)
idchars c = bare_idchars c.args.text.now c.utf8.text (strip_prefix_char 34 c.args.text.now None c.in-None.ensures.cases (lit< tt)) c.requires

pub is_value-requires : goal.is_value-requires
is_value-requires c = name_elements c.args.text.now c.in-Some.elements.now c.utf8.text (quote (goal.at.is_value-requires c).In-Some) c.requires

pub returns-in-Some : goal.returns-in-Some
returns-in-Some c =
    subst (λ x. Decides c.is_value.result (x ≡ c.args.bytes.now)) (sym (quoted_bytes c.args.text.now c.in-Some.elements.now c.utf8.text (quote (goal.at.returns-in-Some c).In-Some)))
    c.is_value.ensures

pub returns-in-None : goal.returns-in-None
returns-in-None c =
    let e = bare_bytes c.args.text.now c.utf8.text (idchars (goal.at.returns-in-None c).In-None) in
    subst (λ x. Decides c.eq.result (x ≡ c.args.bytes.now)) (c.as_bytes.ensures.value ∙ sym e)
    (slice_eq-Decides Decides-eqb c.as_bytes.result.now c.args.bytes.now c.eq.result c.eq.ensures)
