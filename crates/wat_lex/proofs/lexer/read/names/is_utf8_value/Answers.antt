use Rattle.std.proofs.Common.{◌≡◌, ◌++◌, ◌∷◌, ap, ◌∙◌}
use Rattle.wat_lex.specs.inside.StringParts.{value_of, part_bytes}
use Rattle.wat_lex.proofs.values.NameParts.{passed, whole_utf8}
use Rattle.wat_lex.proofs.lexer.read.names.is_utf8_value.Goals as goal

pub loop-part-preserved-in_default-part : goal.loop-part-preserved-in_default-part
loop-part-preserved-in_default-part c =
    let t = c.in-Some.ensures.0 in
    let w = whole_utf8 c.in-Some.part c.in-Some.ensures.1 c.in_default-part.not-Byte in
    (t.utf8, t.quoted, passed _ (value_of c.loop-part.rest.now) (part_bytes c.in-Some.part) (value_of c.in-Some.after.now) c.loop-part.invariant.2 t.value w.0)

pub loop-part-preserved : goal.loop-part-preserved
loop-part-preserved c =
    let t = c.in-Some.ensures.0 in
    let k = c.in-Some-past_character.ensures in
    let e : value_of c.loop-part.rest.now ≡ c.in-Byte.byte ∷ value_of c.in-Some.after.now = t.value ∙ ap (λ x. part_bytes x ++ value_of c.in-Some.after.now) c.in-Byte.is in
    (k.utf8, k.quoted, passed _ (value_of c.loop-part.rest.now) k.characters (value_of c.in-Some-past_character.past.now) c.loop-part.invariant.2 (e ∙ k.value) k.are_utf8)
