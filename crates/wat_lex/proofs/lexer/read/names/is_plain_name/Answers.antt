use Rattle.std.proofs.Common.{◌≡◌, ◌≢◌, ◌∷◌, ◌∙◌, ℕ, List, [], length, Bool, true, false, lit<, ap, sym, subst}
use Rattle.std.specs.Prelude.{◌==◌, None, Some, IsTrue, not}
use Rattle.std.specs.Str.{chars, IsUtf8}
use Rattle.std.proofs.lemmas.Str.Pattern.{strip_prefix_char}
use Rattle.wat_lex.specs.grammar.Classes.{Each, is_idchar}
use Rattle.wat_lex.specs.values.WordValues.{named_bytes}
use Rattle.wat_lex.proofs.values.Names.{name_elements, bare_idchars, quoted_named}
use Rattle.wat_lex.proofs.values.NameParts.{bare_bytes}
use Rattle.wat_lex.proofs.values.WordValues.{named_is}
use Rattle.wat_lex.proofs.lexer.read.names.is_plain_name.Goals as goal
use Rattle.wat_lex.proofs.lexer.read.names.is_plain_name.Goals.{In-Some, In_default, In-Some-plain}

some : (v bytes : List ℕ) (b : Bool) → b ≡ (length v == 0) → IsTrue (not b) → bytes ≡ v → bytes ≢ []
some v bytes b e t f z =
    let g : b ≡ true = e ∙ ap (λ x. length x == 0) (sym f ∙ z) in
    let no : false ≡ true = subst (λ x. IsTrue (not x)) g t in cc

quote : (c : In-Some) → c.args.text.now ≡ 34 ∷ c.in-Some.elements.now
quote c = strip_prefix_char 34 c.args.text.now (Some c.in-Some.elements) c.in-Some.ensures.cases (lit< tt)

idchars : (c : In_default) → Each is_idchar (chars c.args.text.now)
idchars c = bare_idchars c.args.text.now c.utf8.text (strip_prefix_char 34 c.args.text.now None c.in_default.ensures.cases (lit< tt)) c.requires

value : (c : In-Some-plain) → named_bytes (chars c.args.text.now) ≡ c.in-Some-plain.value.now
value c = named_is (chars c.args.text.now) c.in-Some-plain.value.now (quoted_named c.args.text.now c.in-Some.elements.now c.in-Some-plain.value.now c.utf8.text (strip_prefix_char 34 c.args.text.now (Some c.in-Some.elements) c.in-Some.ensures.cases (lit< tt)) c.in-Some-plain.ensures.value)

pub returns-in_default-clause-some : goal.returns-in_default-clause-some
returns-in_default-clause-some c t = some c.args.text.now (named_bytes (chars c.args.text.now)) c.is_empty.result c.is_empty.ensures t (bare_bytes c.args.text.now c.utf8.text (idchars (goal.at.returns-in_default-clause-some c).In_default))

pub returns-in_default-clause-utf8 : goal.returns-in_default-clause-utf8
returns-in_default-clause-utf8 c _ = subst IsUtf8 (sym (bare_bytes c.args.text.now c.utf8.text (idchars (goal.at.returns-in_default-clause-utf8 c).In_default))) c.utf8.text

pub plain-requires : goal.plain-requires
plain-requires c = name_elements c.args.text.now c.in-Some.elements.now c.utf8.text (quote (goal.at.plain-requires c).In-Some) c.requires

pub returns-in-Some-plain-clause-some : goal.returns-in-Some-plain-clause-some
returns-in-Some-plain-clause-some c t = some c.in-Some-plain.value.now (named_bytes (chars c.args.text.now)) c.is_empty-in-Some-plain.result c.is_empty-in-Some-plain.ensures t (value (goal.at.returns-in-Some-plain-clause-some c).In-Some-plain)

pub returns-in-Some-plain-clause-utf8 : goal.returns-in-Some-plain-clause-utf8
returns-in-Some-plain-clause-utf8 c _ = subst IsUtf8 (sym (value (goal.at.returns-in-Some-plain-clause-utf8 c).In-Some-plain)) c.in-Some-plain.ensures.utf8
