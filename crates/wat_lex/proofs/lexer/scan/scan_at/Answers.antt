use Rattle.std.proofs.Common.{sym, ◌≡◌, ◌<◌, ◌+◌, ◌-◌, ℕ, List, length, take, drop, length-drop, get_or, ap, ◌∙◌, subst, arith, Bool, true, false}
use Rattle.std.specs.Prelude.{◌==◌}
use Rattle.std.proofs.lemmas.Bool.{eqb-false}
use Rattle.std.proofs.lemmas.List.{take_rest}
use Rattle.std.proofs.lemmas.Str.{IsUtf8-drop}
use Rattle.std.proofs.lemmas.List.Sums.{prefix_len-le-length}
use Rattle.std.specs.List.{prefix_len}
use Rattle.wat_lex.specs.grammar.Classes.{is_whitespace, is_punctuation, is_run_char}
use Rattle.wat_lex.specs.tokens.Faults.{begins_word}
use Rattle.wat_lex.specs.inside.Outlines.{Begun}
use Rattle.wat_lex.proofs.inside.LineComments.{found_close, found_punctuation}
use Rattle.wat_lex.proofs.inside.Outlines.{whitespace_there, refused_there}
use Rattle.wat_lex.proofs.inside.Starts.{begins_run}
use Rattle.wat_lex.proofs.lexer.scan.scan_at.Goals as goal

filled : (text bs : List ℕ) (b : Bool) → bs ≡ text → b ≡ (length bs == 0) → b ≡ false → 0 < length text
filled text bs b e f g = let k : length bs ≡ 0 → ⊥ = eqb-false (length bs) 0 (sym f ∙ g) in omega (arith, ap length e)

reads : (text bs : List ℕ) (x : ℕ) → bs ≡ text → x ≡ get_or bs 0 0 → x ≡ get_or text 0 0
reads text bs x e f = f ∙ ap (λ t. get_or t 0 0) e

tail_is : (text bs : List ℕ) → bs ≡ text → take (length bs - 1) (drop 1 bs) ≡ drop 1 text
tail_is text bs e = take_rest bs 1 ∙ ap (drop 1) e

rest_is : (text bs : List ℕ) (n : ℕ) → bs ≡ text → take (length bs - n) (drop n bs) ≡ drop n text
rest_is text bs n e = take_rest bs n ∙ ap (drop n) e

pub overflow_add-whitespace_len : goal.overflow_add-whitespace_len
overflow_add-whitespace_len c =
    let text = drop c.args.pos c.args.text.now in
    let e = rest_is c.args.text.now c.as_bytes.result.now c.args.pos c.as_bytes.ensures.value in
    let n = c.whitespace_len.ensures ∙ ap (prefix_len is_whitespace) (tail_is text _ e) in
    record { fits = omega (arith, n, prefix_len-le-length is_whitespace (drop 1 text), length-drop 1 text, length-drop c.args.pos c.args.text.now, c.as_bytes.type_inv.0, ap length c.as_bytes.ensures.value) }

pub returns-in-Whitespace : goal.returns-in-Whitespace
returns-in-Whitespace c =
    let text = drop c.args.pos c.args.text.now in
    let u = IsUtf8-drop c.args.text.now c.args.pos c.utf8.text c.requires in
    let e = rest_is c.args.text.now c.as_bytes.result.now c.args.pos c.as_bytes.ensures.value in
    rw c.lexeme.ensures (whitespace_there c.args.flags.now text (1 + c.whitespace_len.result) u (filled text _ _ e c.is_empty.ensures c.if-is_empty.false)
    (subst (λ x. is_whitespace x ≡ true) (reads text _ c.byte_at.result e c.byte_at.ensures) c.in-Whitespace.ensures) (ap (λ x. 1 + x) (c.whitespace_len.ensures ∙ ap (prefix_len is_whitespace) (tail_is text _ e))))

pub returns-in-CloseParen : goal.returns-in-CloseParen
returns-in-CloseParen c =
    let text = drop c.args.pos c.args.text.now in
    let u = IsUtf8-drop c.args.text.now c.args.pos c.utf8.text c.requires in
    let e = rest_is c.args.text.now c.as_bytes.result.now c.args.pos c.as_bytes.ensures.value in
    rw c.lexeme-in-CloseParen.ensures (found_close c.args.flags.now text u (filled text _ _ e c.is_empty.ensures c.if-is_empty.false)
    (subst (λ x. x ≡ 41) (reads text _ c.byte_at.result e c.byte_at.ensures) c.in-CloseParen.ensures))

pub returns-in-Punctuation : goal.returns-in-Punctuation
returns-in-Punctuation c =
    let text = drop c.args.pos c.args.text.now in
    let u = IsUtf8-drop c.args.text.now c.args.pos c.utf8.text c.requires in
    let e = rest_is c.args.text.now c.as_bytes.result.now c.args.pos c.as_bytes.ensures.value in
    rw c.lexeme-in-Punctuation.ensures (found_punctuation c.args.flags.now text u (filled text _ _ e c.is_empty.ensures c.if-is_empty.false)
    (subst (λ x. is_punctuation x ≡ true) (reads text _ c.byte_at.result e c.byte_at.ensures) c.in-Punctuation.ensures))

pub returns-in-Other : goal.returns-in-Other
returns-in-Other c =
    let text = drop c.args.pos c.args.text.now in
    let u = IsUtf8-drop c.args.text.now c.args.pos c.utf8.text c.requires in
    let e = rest_is c.args.text.now c.as_bytes.result.now c.args.pos c.as_bytes.ensures.value in
    refused_there c.args.flags.now text u (filled text _ _ e c.is_empty.ensures c.if-is_empty.false)
    (subst (λ x. begins_word x ≡ false) (reads text _ c.byte_at.result e c.byte_at.ensures) c.in-Other.ensures)

pub scan_run-requires-clause-run : goal.scan_run-requires-clause-run
scan_run-requires-clause-run c =
    let text = drop c.args.pos c.args.text.now in
    let e = rest_is c.args.text.now c.as_bytes.result.now c.args.pos c.as_bytes.ensures.value in
    let d = c.in_default in
    subst (λ x. is_run_char x ≡ true) (reads text _ c.byte_at.result e c.byte_at.ensures)
    (begins_run c.byte_at.result c.start_of-start.result c.start_of-start.ensures d.not-Whitespace d.not-OpenParen d.not-CloseParen d.not-Semicolon d.not-Punctuation d.not-Other)

pub scan_run-requires-clause-start : goal.scan_run-requires-clause-start
scan_run-requires-clause-start c =
    let text = drop c.args.pos c.args.text.now in
    let e = rest_is c.args.text.now c.as_bytes.result.now c.args.pos c.as_bytes.ensures.value in
    subst (λ x. Begun x c.start_of-start.result) (reads text _ c.byte_at.result e c.byte_at.ensures) c.start_of-start.ensures
