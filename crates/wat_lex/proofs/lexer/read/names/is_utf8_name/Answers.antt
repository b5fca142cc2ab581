use Rattle.std.proofs.Common.{◌≡◌, ◌∷◌, lit<, refl, sym, subst}
use Rattle.std.specs.Prelude.{None, Some}
use Rattle.std.specs.Str.{chars, IsUtf8}
use Rattle.std.specs.Bool.{Decides}
use Rattle.std.proofs.lemmas.Str.Pattern.{strip_prefix_char}
use Rattle.wat_lex.specs.grammar.Classes.{Each, is_idchar}
use Rattle.wat_lex.proofs.values.Names.{name_elements, bare_idchars}
use Rattle.wat_lex.proofs.values.NameParts.{quoted_bytes, bare_bytes}
use Rattle.wat_lex.proofs.lexer.read.names.is_utf8_name.Goals as goal
use Rattle.wat_lex.proofs.lexer.read.names.is_utf8_name.Goals.{In-Some, In-None}

quote : (c : In-Some) → c.args.text.now ≡ 34 ∷ c.in-Some.elements.now
quote c = strip_prefix_char 34 c.args.text.now (Some c.in-Some.elements) c.in-Some.ensures.cases (lit< tt)

idchars : (c : In-None) → Each is_idchar (chars c.args.text.now)
idchars c = bare_idchars c.args.text.now c.utf8.text (strip_prefix_char 34 c.args.text.now None c.in-None.ensures.cases (lit< tt)) c.requires

pub is_utf8_value-requires : goal.is_utf8_value-requires
is_utf8_value-requires c = name_elements c.args.text.now c.in-Some.elements.now c.utf8.text (quote (goal.at.is_utf8_value-requires c).In-Some) c.requires

pub returns-in-Some : goal.returns-in-Some
returns-in-Some c =
    subst (λ x. Decides c.is_utf8_value.result (IsUtf8 x)) (sym (quoted_bytes c.args.text.now c.in-Some.elements.now c.utf8.text (quote (goal.at.returns-in-Some c).In-Some)))
    c.is_utf8_value.ensures

pub returns-in-None : goal.returns-in-None
returns-in-None c =
    let e = bare_bytes c.args.text.now c.utf8.text (idchars c) in
    (λ _. subst IsUtf8 (sym e) c.utf8.text, λ _. refl)
