use Rattle.std.proofs.Common.{sym, ◌∙◌, subst, [], ◌∷◌, drop}
use Rattle.std.specs.Str.{chars}
use Rattle.std.specs.Str.Iter.{chars_rest}
use Rattle.wat_lex.specs.grammar.Strings.{Element}
use Rattle.wat_lex.specs.inside.ScannedStrings.{Escaped, Breaks, escape_bytes}
use Rattle.wat_lex.specs.tokens.Setting.{lenient}
use Rattle.wat_lex.proofs.values.StringValues.{Reading, at_backslash, reading_sound}
use Rattle.wat_lex.proofs.lexer.read.strings.first_escape.Goals as goal

pub range_from-requires : goal.range_from-requires
range_from-requires c = let p = at_backslash c.args.elements.now 0 c.utf8.elements c.requires.first in λ _. p.boundary

pub unreachable-requires : goal.unreachable-requires
unreachable-requires c =
    let q = c.requires.quoted in
    let h : Reading c.args.elements.now c.args.elements.now [] = record { value = q.0; left = q.1; whole = q.1; utf8 = c.utf8.elements } in
    reading_sound c.args.elements.now c.args.elements.now [] 0 c.in-Err.field-0 h c.requires.first
    (subst (λ x. Breaks lenient (92 ∷ []) x c.in-Err.field-0) (c.chars-it.ensures.rest ∙ c.range_from.ensures.value) c.in-Err.ensures.err)

pub returns-clause-element : goal.returns-clause-element
returns-clause-element c =
    let p = at_backslash c.args.elements.now 0 c.utf8.elements c.requires.first in
    let e : Escaped lenient (92 ∷ []) (drop 1 c.args.elements.now) (chars_rest c.escape.new.it) (escape_bytes c.in-Ok.read) =
    subst (λ x. Escaped lenient (92 ∷ []) x (chars_rest c.escape.new.it) (escape_bytes c.in-Ok.read)) (c.chars-it.ensures.rest ∙ c.range_from.ensures.value) c.in-Ok.ensures.ok in
    subst (λ x. Element lenient (chars c.args.elements.now) (escape_bytes c.in-Ok.read) (chars x)) (sym c.as_str.ensures)
    (subst (λ x. Element lenient x (escape_bytes c.in-Ok.read) (chars (chars_rest c.escape.new.it))) (sym p.here) e.element)
