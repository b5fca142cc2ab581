use Rattle.std.proofs.Common.{ap, ◌∙◌, ◌≡◌, ◌+◌, length-drop, drop, arith, sym}
use Rattle.std.specs.List.{prefix_len}
use Rattle.std.specs.Int.Count.{count_trailing_zeros}
use Rattle.std.proofs.lemmas.List.{take_rest}
use Rattle.std.proofs.lemmas.List.Sums.{prefix_len-le-length}
use Rattle.wat_lex.specs.grammar.Classes.{is_idchar}
use Rattle.wat_lex.specs.inside.Blocks.{failures}
use Rattle.wat_lex.proofs.grammar.ShortNumbers.{sign_there}
use Rattle.wat_lex.proofs.inside.Blocks.{goes_on, ends_at, ends_before}
use Rattle.wat_lex.proofs.inside.Outlines.{some_prefix}
use Rattle.wat_lex.proofs.lexer.scan.number.Goals as goal
use Rattle.wat_lex.proofs.lexer.scan.number.Goals.{Else-string_follows}

pub overflow_add-idchar_len_by_block : goal.overflow_add-idchar_len_by_block
overflow_add-idchar_len_by_block c =
    let text = c.args.text.now in
    omega (arith, c.idchar_len_by_block.ensures ∙ ap (prefix_len is_idchar) (take_rest text 16), prefix_len-le-length is_idchar (drop 16 text), length-drop 16 text)

pub long_number-requires : goal.long_number-requires
long_number-requires c =
    let text = c.args.text.now in
    let mask = c.other_than_idchars-others.ensures ∙ ap (failures is_idchar) c.block_at.ensures in
    ap (λ n. 16 + n) (c.idchar_len_by_block.ensures ∙ ap (prefix_len is_idchar) (take_rest text 16)) ∙ sym (goes_on is_idchar text 0 16 _ mask c.if-text-lt16.false c.if-others-eq0.true)

-- the word ends within the block
ends : (c : Else-string_follows) → prefix_len is_idchar c.args.text.now ≡ count_trailing_zeros 64 c.other_than_idchars-others.result
ends c = ends_at is_idchar c.args.text.now 0 16 _ (c.other_than_idchars-others.ensures ∙ ap (failures is_idchar) c.block_at.ensures) c.if-text-lt16.false (omega arith) c.if-others-eq0.false

pub short_number_kind-kind-requires-clause-sign : goal.short_number_kind-kind-requires-clause-sign
short_number_kind-kind-requires-clause-sign c =
    let text = c.args.text.now in
    c.requires.sign ∙ sign_there text _ (omega (arith, ends c, some_prefix is_idchar text c.requires.some c.requires.first)) (omega arith)

pub short_number_kind-kind-requires-clause-some : goal.short_number_kind-kind-requires-clause-some
short_number_kind-kind-requires-clause-some c = omega (arith, ends c, some_prefix is_idchar c.args.text.now c.requires.some c.requires.first)

pub short_number_kind-kind-requires-clause-short : goal.short_number_kind-kind-requires-clause-short
short_number_kind-kind-requires-clause-short c =
    let mask = c.other_than_idchars-others.ensures ∙ ap (failures is_idchar) c.block_at.ensures in
    omega (arith, ends c, ends_before is_idchar c.args.text.now 0 16 _ mask c.if-text-lt16.false c.if-others-eq0.false)

pub returns : goal.returns
returns c =
    record {
      len = sym (ends_at is_idchar c.args.text.now 0 16 _ (c.other_than_idchars-others.ensures ∙ ap (failures is_idchar) c.block_at.ensures) c.if-text-lt16.false (omega arith) c.if-others-eq0.false);
      ends = λ q. let no = c.if-string_follows.ensures.1 q in cc;
      kind = c.short_number_kind-kind.ensures;
    }
