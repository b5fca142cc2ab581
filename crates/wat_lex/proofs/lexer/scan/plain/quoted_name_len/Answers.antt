use Rattle.std.proofs.Common.{◌≡◌, ◌-◌, ◌∙◌, ℕ, List, length, length-drop, take, drop, ap, sym, arith}
use Rattle.std.specs.List.{prefix_len}
use Rattle.std.proofs.lemmas.List.{take_rest}
use Rattle.std.proofs.lemmas.List.Sums.{prefix_len-le-length}
use Rattle.wat_lex.specs.inside.ScannedStrings.{is_plain}
use Rattle.wat_lex.proofs.tokens.QuotedNames.{too_short, with_name, without_name}
use Rattle.wat_lex.proofs.lexer.scan.plain.quoted_name_len.Goals as goal

measured : (text : List ℕ) (n : ℕ) → n ≡ prefix_len is_plain (take (length text - 2) (drop 2 text)) → n ≡ prefix_len is_plain (drop 2 text)
measured text n e = e ∙ ap (prefix_len is_plain) (take_rest text 2)

pub is_quoted_name-requires : goal.is_quoted_name-requires
is_quoted_name-requires c = omega (arith, measured c.args.text.now c.plain_len-len.result c.plain_len-len.ensures, prefix_len-le-length is_plain (drop 2 c.args.text.now), length-drop 2 c.args.text.now)

pub overflow_add-result : goal.overflow_add-result
overflow_add-result c = record { fits = omega (arith, measured c.args.text.now c.plain_len-len.result c.plain_len-len.ensures, prefix_len-le-length is_plain (drop 2 c.args.text.now), length-drop 2 c.args.text.now, c.type_inv.text) }

pub returns-then-text-lt2 : goal.returns-then-text-lt2
returns-then-text-lt2 c = sym (too_short c.args.text.now (omega (arith, c.if-text-lt2.true)))

pub returns-then-is_quoted_name : goal.returns-then-is_quoted_name
returns-then-is_quoted_name c = with_name c.args.text.now c.plain_len-len.result (measured c.args.text.now c.plain_len-len.result c.plain_len-len.ensures) (sym c.is_quoted_name.ensures ∙ c.if-is_quoted_name.true)

pub returns-else-is_quoted_name : goal.returns-else-is_quoted_name
returns-else-is_quoted_name c = without_name c.args.text.now c.plain_len-len.result (measured c.args.text.now c.plain_len-len.result c.plain_len-len.ensures) (sym c.is_quoted_name.ensures ∙ c.if-is_quoted_name.false)
