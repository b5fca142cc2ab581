use Rattle.std.proofs.Common.{sym, subst, ◌≡◌, ◌∷◌, lit<}
use Rattle.std.specs.Prelude.{None, Some}
use Rattle.std.specs.Str.{chars}
use Rattle.std.proofs.lemmas.Bool.{false≢true}
use Rattle.std.proofs.lemmas.Str.Pattern.{strip_prefix_char}
use Rattle.wat_lex.specs.grammar.Classes.{Each, is_idchar}
use Rattle.wat_lex.specs.values.Names.{Named}
use Rattle.wat_lex.proofs.values.Names.{name_elements, quoted_named, quoted_free, free_quoted, bare_idchars, bare_named, bare_free}
use Rattle.wat_lex.proofs.lexer.read.strings.name.Goals as goal
use Rattle.wat_lex.proofs.lexer.read.strings.name.Goals.{In-Some, In_default}

quote : (c : In-Some) → c.args.text.now ≡ 34 ∷ c.in-Some.elements.now
quote c = strip_prefix_char 34 c.args.text.now (Some c.in-Some.elements) c.in-Some.ensures.cases (lit< tt)

idchars : (c : In_default) → Each is_idchar (chars c.args.text.now)
idchars c = bare_idchars c.args.text.now c.utf8.text (strip_prefix_char 34 c.args.text.now None c.in_default.ensures.cases (lit< tt)) c.requires

pub returns-in_default-clause-some : goal.returns-in_default-clause-some
returns-in_default-clause-some c = bare_named c.args.text.now c.utf8.text (idchars (goal.at.returns-in_default-clause-some c).In_default)

pub returns-in_default-clause-borrowed : goal.returns-in_default-clause-borrowed
returns-in_default-clause-borrowed c = (λ _. bare_free (chars c.args.text.now) (idchars (goal.at.returns-in_default-clause-borrowed c).In_default), λ _. tt)

pub plain-requires : goal.plain-requires
plain-requires c = name_elements c.args.text.now c.in-Some.elements.now c.utf8.text (quote (goal.at.plain-requires c).In-Some) c.requires

pub returns-in-Some-plain-clause-some : goal.returns-in-Some-plain-clause-some
returns-in-Some-plain-clause-some c = quoted_named c.args.text.now c.in-Some.elements.now c.in-Some-plain.value.now c.utf8.text (quote (goal.at.returns-in-Some-plain-clause-some c).In-Some) c.in-Some-plain.ensures.value

pub returns-in-Some-plain-clause-borrowed : goal.returns-in-Some-plain-clause-borrowed
returns-in-Some-plain-clause-borrowed c = (λ _. quoted_free c.args.text.now c.in-Some.elements.now c.utf8.text (quote (goal.at.returns-in-Some-plain-clause-borrowed c).In-Some) c.in-Some-plain.ensures.some, λ _. tt)

pub unescaped-requires : goal.unescaped-requires
unescaped-requires c = name_elements c.args.text.now c.in-Some.elements.now c.utf8.text (quote (goal.at.unescaped-requires c).In-Some) c.requires

pub returns-in_err-unescaped-clause-free : goal.returns-in_err-unescaped-clause-free
returns-in_err-unescaped-clause-free c h = absurd (c.in_default-plain.ensures.none (free_quoted c.args.text.now c.in-Some.elements.now c.utf8.text (quote (goal.at.returns-in_err-unescaped-clause-free c).In-Some) h))

pub returns-in-Ok-clause-some : goal.returns-in-Ok-clause-some
returns-in-Ok-clause-some c =
    subst (λ x. Named (chars c.args.text.now) x.items) (sym c.in-Ok.ensures.ok)
    (quoted_named c.args.text.now c.in-Some.elements.now c.in_ok-unescaped.field-0.items c.utf8.text (quote (goal.at.returns-in-Ok-clause-some c).In-Some) c.in_ok-unescaped.ensures)

pub returns-in-Ok-clause-borrowed : goal.returns-in-Ok-clause-borrowed
returns-in-Ok-clause-borrowed c = (λ h. absurd h, λ h. c.in_default-plain.ensures.none (free_quoted c.args.text.now c.in-Some.elements.now c.utf8.text (quote (goal.at.returns-in-Ok-clause-borrowed c).In-Some) h))

pub returns-clause-none : goal.returns-clause-none
returns-clause-none c = (
  c.in_ok-unescaped.field-0.items,
  quoted_named c.args.text.now c.in-Some.elements.now c.in_ok-unescaped.field-0.items c.utf8.text (quote (goal.at.returns-clause-none c).In-Some) c.in_ok-unescaped.ensures,
  λ u. false≢true (c.in-Err.ensures.succeeds u),
)
