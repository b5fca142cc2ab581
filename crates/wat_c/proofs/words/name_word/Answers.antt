use Rattle.std.proofs.Common.{sym, ◌∙◌, arith}
use Rattle.wat_c.specs.ByRow.{kind_of}
use Rattle.wat_c.proofs.WordPlaces.{bare_or, quoted_or, quoted_escape}
use Rattle.wat_c.proofs.KnownWords.{named_word, name_known, name_escaped, bare_known, quoted_known, at_kind}
use Rattle.wat_c.proofs.words.name_word.Goals as goal

pub name_within-requires-clause-fits : goal.name_within-requires-clause-fits
name_within-requires-clause-fits c =
    let b = c.source-word.result.now in
    let u = c.source-word.utf8 in
    let n = named_word c.names.ensures.some b c.args.kind u c.requires.named c.source-word.ensures.word in
    let fits = (bare_or b u n (sym c.is_quoted.ensures ∙ c.if-not-is_quoted.true)).0.fits in
    omega (arith, fits, c.source-word.ensures.len)

pub returns-then-not-is_quoted : goal.returns-then-not-is_quoted
returns-then-not-is_quoted c =
    let b = c.source-word.result.now in
    let u = c.source-word.utf8 in
    let n = named_word c.names.ensures.some b c.args.kind u c.requires.named c.source-word.ensures.word in
    let at = bare_or b u n (sym c.is_quoted.ensures ∙ c.if-not-is_quoted.true) in
    let known = bare_known c.args.kind _ c.requires.named at.1 in
    at_kind c.args.text.now c.args.row.offset c.args.row.len (kind_of c.args.row.kind) c.args.kind c.name_within.result c.requires.is
    (name_known c.args.text.now c.args.row.offset c.args.row.len c.args.kind b c.name_within.result 1 0 c.requires.named c.source-word.ensures.text c.source-word.ensures.len at.0 known.0 known.1
    c.name_within.ensures.empty c.name_within.ensures.some)

pub returns-then-has_backslash : goal.returns-then-has_backslash
returns-then-has_backslash c =
    let b = c.source-word.result.now in
    let u = c.source-word.utf8 in
    let n = named_word c.names.ensures.some b c.args.kind u c.requires.named c.source-word.ensures.word in
    let esc = quoted_escape b n (sym c.is_quoted.ensures ∙ c.if-not-is_quoted.false) (c.has_backslash.ensures.some c.if-has_backslash.true) in
    at_kind c.args.text.now c.args.row.offset c.args.row.len (kind_of c.args.row.kind) c.args.kind c.refused.result c.requires.is
    (name_escaped c.args.text.now c.args.row.offset c.args.row.len c.args.kind b c.refused.result c.requires.named c.source-word.ensures.text esc c.refused.ensures)

pub name_within-requires-2-clause-fits : goal.name_within-requires-2-clause-fits
name_within-requires-2-clause-fits c =
    let b = c.source-word.result.now in
    let u = c.source-word.utf8 in
    let n = named_word c.names.ensures.some b c.args.kind u c.requires.named c.source-word.ensures.word in
    let fits = (quoted_or b u n (sym c.is_quoted.ensures ∙ c.if-not-is_quoted.false) (c.has_backslash.ensures.none c.if-has_backslash.false)).0.fits in
    omega (arith, fits, c.source-word.ensures.len)

pub returns : goal.returns
returns c =
    let b = c.source-word.result.now in
    let u = c.source-word.utf8 in
    let n = named_word c.names.ensures.some b c.args.kind u c.requires.named c.source-word.ensures.word in
    let at = quoted_or b u n (sym c.is_quoted.ensures ∙ c.if-not-is_quoted.false) (c.has_backslash.ensures.none c.if-has_backslash.false) in
    let known = quoted_known c.args.kind _ c.requires.named at.1 in
    at_kind c.args.text.now c.args.row.offset c.args.row.len (kind_of c.args.row.kind) c.args.kind c.name_within-2.result c.requires.is
    (name_known c.args.text.now c.args.row.offset c.args.row.len c.args.kind b c.name_within-2.result 2 1 c.requires.named c.source-word.ensures.text c.source-word.ensures.len at.0 known.0 known.1
    c.name_within-2.ensures.empty c.name_within-2.ensures.some)
