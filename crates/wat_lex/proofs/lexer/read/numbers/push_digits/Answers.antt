use Rattle.std.proofs.Common.{ap, sym, ◌∙◌, ◌≡◌, ◌++◌, ◌-◌, ℕ, List, subst, length, drop}
use Rattle.std.specs.Prelude.{Result, Ok, Err, OnOk, string_bytes, if◌then◌else◌}
use Rattle.std.specs.Result.{is_ok}
use Rattle.wat_lex.specs.grammar.Numbers.{unsigned}
use Rattle.wat_lex.specs.values.NumberValues.{after_prefix, bare_digits}
use Rattle.wat_lex.proofs.values.NumberParts.{seam_back}
use Rattle.wat_lex.proofs.values.NumberValues.{digits_ascii, digits_cut, digits_joined}
use Rattle.wat_lex.proofs.lexer.read.numbers.push_digits.Goals as goal

grown : {T E : Type 0} (r : Result T E) (x y z : List ℕ) → x ≡ (if is_ok r then y else z) → OnOk r (x ≡ y)
grown (Ok t) x y z h = h
grown (Err e) x y z h = tt

pub push_joined-requires : goal.push_joined-requires
push_joined-requires c = record {
  ascii = digits_ascii c.args.hex c.args.word.now c.unsigned.result.now c.after_prefix-digits.result.now c.requires.ascii (c.unsigned.ensures ∙ ap unsigned c.as_bytes.ensures.value) c.after_prefix-digits.ensures;
}

pub returns : goal.returns
returns c =
    let word = c.args.word.now in
    let hex = c.args.hex in
    let digits : c.after_prefix-digits.result.now ≡ after_prefix hex (unsigned word) =
    c.after_prefix-digits.ensures ∙ ap (after_prefix hex) (c.unsigned.ensures ∙ ap unsigned c.as_bytes.ensures.value) in
    let d = digits_cut hex word in
    let e : c.range_from.result.now ≡ bare_digits hex word =
    c.range_from.ensures.value ∙ ap (λ x. drop (length word - length x) word) digits ∙ seam_back word d.0 (after_prefix hex (unsigned word)) d.1 ∙ sym (digits_joined hex word (c.requires.plain c.if-underscores.false)) in
    subst (λ x. OnOk c.push_str.result (string_bytes c.push_str.new.self ≡ string_bytes c.args.text.now ++ x)) e
    (grown c.push_str.result _ (string_bytes c.args.text.now ++ c.range_from.result.now) (string_bytes c.args.text.now) c.push_str.ensures.bytes)
