use Rattle.std.proofs.Common.{sym, ap, ◌∙◌, ◌≡◌, ◌≤◌, ◌+◌, ◌++◌, ℕ, List, length, take, drop, length-append, arith}
use Rattle.std.proofs.lemmas.List.{append_assoc, take-append-drop, take-take, take_at, length-take-le}
use Rattle.wat_lex.proofs.lexer.read.strings.append_prefix.Goals as goal

-- a prefix of what was appended is kept
cut_after : (done text : List ℕ) (n m : ℕ) → n ≤ m → m ≤ length text → take (length done + n) (done ++ take m text) ≡ done ++ take n text
cut_after done text n m l r =
    let head = take n (take m text) in
    let split : done ++ take m text ≡ (done ++ head) ++ drop n (take m text) = ap (λ x. done ++ x) (sym (take-append-drop n (take m text))) ∙ sym (append_assoc done head (drop n (take m text))) in
    let size : length (done ++ head) ≡ length done + n = omega (arith, length-append done head, length-take-le m text r, length-take-le n (take m text) (omega (arith, length-take-le m text r))) in
    ap (λ x. take (length done + n) x) split ∙ take_at (done ++ head) (drop n (take m text)) (length done + n) size ∙ ap (λ x. done ++ x) (take-take n m text l)

pub returns : goal.returns
returns c =
    let done = c.args.value.now.items in
    let before : c.len-before.result ≡ length done = omega (arith, c.len-before.ensures, c.args.value.now.ok.0) in
    c.truncate.ensures.items ∙ ap (λ x. take (c.len-before.result + c.args.len) x) c.in_ok-extend_from_slice.ensures.items
    ∙ ap (λ k. take (k + c.args.len) (done ++ take 16 c.args.text.now)) before
    ∙ cut_after done c.args.text.now c.args.len 16 (omega arith) (omega arith)
