use Rattle.std.proofs.Common.{◌∷◌, [], length, ap, arith, length-append, refl}
use Rattle.wat_c.specs.ByRow.{kind_of}
use Rattle.wat_c.proofs.WordPlaces.{string_bytes}
use Rattle.wat_c.proofs.KnownWords.{string_given, string_escaped}
use Rattle.wat_c.proofs.words.string_word.Goals as goal

pub overflow_sub-result : goal.overflow_sub-result
overflow_sub-result c =
    let s = string_bytes c.source.result.now c.source.utf8 (c.strings.ensures.some _ c.source.ensures.word) (c.has_backslash.ensures.none c.if-has_backslash.false) in
    omega (arith, ap length s.cut, length-append s.value (34 ∷ []), c.source.ensures.len)

pub overflow_add-result : goal.overflow_add-result
overflow_add-result c =
    let s = string_bytes c.source.result.now c.source.utf8 (c.strings.ensures.some _ c.source.ensures.word) (c.has_backslash.ensures.none c.if-has_backslash.false) in
    omega (arith, ap length s.cut, length-append s.value (34 ∷ []), c.source.ensures.len, c.source.ensures.ends, c.requires.short)

pub returns : goal.returns
returns c =
    let free = c.has_backslash.ensures.none c.if-has_backslash.false in
    let s = string_bytes c.source.result.now c.source.utf8 (c.strings.ensures.some _ c.source.ensures.word) free in
    string_given c.args.text.now c.args.row.offset c.args.row.len (kind_of c.args.row.kind) c.source.result.now _ c.requires.is c.source.ensures.text c.source.ensures.len s free refl refl refl

pub returns-then-has_backslash : goal.returns-then-has_backslash
returns-then-has_backslash c =
    string_escaped c.args.text.now c.args.row.offset c.args.row.len (kind_of c.args.row.kind) c.source.result.now c.refused.result c.requires.is c.source.ensures.text
    (c.has_backslash.ensures.some c.if-has_backslash.true) c.refused.ensures
