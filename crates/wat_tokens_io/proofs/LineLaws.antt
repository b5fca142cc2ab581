-- Lemmas about a line and its chunks.
use Rattle.std.proofs.Common.{◌≡◌, ◌+◌, ◌-◌, ◌/◌, ◌%◌, ◌^◌, ◌<◌, ◌≤◌, ℕ, List, ◌++◌, length, length-append, length-drop, take, drop, ap, ap₂, sym, ◌∙◌, append_assoc, arith}
use Rattle.std.proofs.Math.Seq.{drop_at, drop-append-add, drop-append-le, drop-drop, take-add, take-append-add, take-append_seam}
use Rattle.std.proofs.lemmas.List.{take-take, take-append-le, length-take-le}
use Rattle.std.specs.Prelude.{codes}
use Rattle.std.specs.Fmt.{decimal}
use Rattle.wat_lex.specs.declared.lexer.kinds.Token.{Token}
use Rattle.wat_tokens_io.specs.Lines.{kind_name, line}
use Rattle.wat_tokens_io.proofs.Decimals.{decimal_from_100, pair}

-- The first bytes of a copied chunk, after the bytes before it.
pub over_piece : (at count : ℕ) (room ys piece post : List ℕ) → at ≤ length room → count ≤ length piece → ys ≡ piece → take (at + count) (take at room ++ (ys ++ post)) ≡ take at room ++ take count piece
over_piece at count room ys piece post h k e =
    ap (λ n. take (n + count) (take at room ++ (ys ++ post))) (sym (length-take-le at room h)) ∙ take-append-add (take at room) (ys ++ post) count
    ∙ ap (λ x. take at room ++ take count (x ++ post)) e ∙ ap (λ x. take at room ++ x) (take-append-le count piece post k)

-- The digits of an integer, and the padding of their chunk.
abbrev pub padded : ℕ → List ℕ
padded n = decimal n ++ codes "..00000000000000"

digits_in : (n count : ℕ) (piece : List ℕ) → piece ≡ take 16 (padded n) → count ≡ length (decimal n) → count ≤ 10 → take count piece ≡ decimal n
digits_in n count piece e f h =
    ap (λ x. take count x) e ∙ ap (λ k. take k (take 16 (padded n))) f ∙ take-take (length (decimal n)) 16 (padded n) (omega (arith, f, h)) ∙ take-append_seam (decimal n) (codes "..00000000000000")

dots_in : (n count : ℕ) (piece : List ℕ) → piece ≡ take 16 (padded n) → count ≡ length (decimal n) → count ≤ 10 → take (count + 2) piece ≡ decimal n ++ codes ".."
dots_in n count piece e f h =
    ap (λ x. take (count + 2) x) e ∙ ap (λ k. take (k + 2) (take 16 (padded n))) f ∙ take-take (length (decimal n) + 2) 16 (padded n) (omega (arith, f, h)) ∙ take-append-add (decimal n) (codes "..00000000000000") 2

-- The digits without the padding.
pub digits_alone : (n : ℕ) → take (length (padded n) - 16) (padded n) ≡ decimal n
digits_alone n =
    let few : length (padded n) - 16 ≡ length (decimal n) = omega (arith, length-append (decimal n) (codes "..00000000000000")) in
    ap (λ k. take k (padded n)) few ∙ take-append_seam (decimal n) (codes "..00000000000000")

-- Two bytes overwrite the last two digits.
pub last_put : (start : ℕ) (bytes ys two : List ℕ) → start ≤ 8 → length bytes ≡ 26 → ys ≡ two → drop start (take 8 bytes ++ (ys ++ drop 2 (drop 8 bytes))) ≡ take (length (drop start bytes) - 18) (drop start bytes) ++ two ++ drop (length (drop start bytes) - 16) (drop start bytes)
last_put start bytes ys two h len e =
    let view = drop start bytes in
    let long : length view ≡ 26 - start = length-drop start bytes ∙ ap (λ n. n - start) len in
    let before : length view - 18 ≡ 8 - start = omega (arith, long, h) in
    let after : length view - 16 ≡ 10 - start = omega (arith, long, h) in
    let eight : 8 ≡ start + (8 - start) = omega (arith, h) in
    let ten : 10 ≡ start + (10 - start) = omega (arith, h) in
    let front : drop start (take 8 bytes) ≡ take (length view - 18) view =
    ap (λ n. drop start (take n bytes)) eight ∙ ap (drop start) (take-add start (8 - start) bytes) ∙ drop_at (take start bytes) (take (8 - start) view) start (length-take-le start bytes (omega (arith, h, len))) ∙ ap (λ n. take n view) (sym before) in
    let back : drop 2 (drop 8 bytes) ≡ drop (length view - 16) view = drop-drop 2 8 bytes ∙ ap (λ n. drop n bytes) ten ∙ sym (drop-drop (10 - start) start bytes) ∙ ap (λ n. drop n view) (sym after) in
    drop-append-le start (take 8 bytes) (ys ++ drop 2 (drop 8 bytes)) (omega (arith, h, length-take-le 8 bytes (omega (arith, len)))) ∙ sym (append_assoc (drop start (take 8 bytes)) ys (drop 2 (drop 8 bytes)))
    ∙ ap₂ (λ x y. x ++ ys ++ y) front back ∙ ap (λ x. take (length view - 18) view ++ x ++ drop (length view - 16) view) e

-- An integer of three digits or more has the digits of its hundreds, and two more.
pub long_digits : (p n : ℕ) (old : List ℕ) → old ≡ padded p → 100 ≤ n → n / 100 ≡ p / 100 → p < 2 ^ 64 → 18 ≤ length old
long_digits p n old e h same small =
    let front = decimal (p / 100) in
    let two = pair (p % 100) in
    let dots = codes "..00000000000000" in
    let was = ap length (decimal_from_100 p (omega (arith, h, same)) small) ∙ length-append front two in
    omega (arith, ap length e, length-append (decimal p) dots, was)

-- The last two digits of an integer overwrite those of an integer with the same digits before them.
pub last_two : (p n : ℕ) (old new : List ℕ) → old ≡ padded p → 100 ≤ n → n / 100 ≡ p / 100 → n < 2 ^ 33 → new ≡ take (length old - 18) old ++ pair (n % 100) ++ drop (length old - 16) old → new ≡ padded n
last_two p n old new e h same small g =
    let front = decimal (p / 100) in
    let dots = codes "..00000000000000" in
    let was : old ≡ front ++ (pair (p % 100) ++ dots) = e ∙ ap (λ d. d ++ dots) (decimal_from_100 p (omega (arith, h, same)) (omega (arith, same, small))) ∙ append_assoc front (pair (p % 100)) dots in
    let long = ap length was ∙ length-append front (pair (p % 100) ++ dots) in
    let before : length old - 18 ≡ length front = omega (arith, long) in
    let after : length old - 16 ≡ length front + 2 = omega (arith, long) in
    let first : take (length old - 18) old ≡ front = ap (λ k. take k old) before ∙ ap (λ x. take (length front) x) was ∙ take-append_seam front (pair (p % 100) ++ dots) in
    let last : drop (length old - 16) old ≡ dots = ap (λ k. drop k old) after ∙ ap (λ x. drop (length front + 2) x) was ∙ drop-append-add front (pair (p % 100) ++ dots) 2 in
    g ∙ ap₂ (λ x y. x ++ pair (n % 100) ++ y) first last ∙ ap (λ k. decimal k ++ pair (n % 100) ++ dots) (sym same) ∙ ap (λ d. d ++ dots) (sym (decimal_from_100 n h (omega (arith, small))))

-- Three chunks make a line.
pub line_of : (t : Token) (m n i j k to_dots to_name to_end : ℕ) (room room1 room2 room3 first second third : List ℕ) → m ≡ t.offset → n ≡ t.offset + t.len
    → first ≡ take 16 (padded m) → i ≡ length (decimal m) → i ≤ 10 → second ≡ take 16 (padded n) → j ≡ length (decimal n) → j ≤ 10 → take k third ≡ codes " " ++ kind_name t.kind ++ codes "\n"
    → take to_dots room1 ≡ take 0 room ++ take (i + 2) first → take to_name room2 ≡ take to_dots room1 ++ take j second → take to_end room3 ≡ take to_name room2 ++ take k third → take to_end room3 ≡ line t
line_of t m n i j k to_dots to_name to_end room room1 room2 room3 first second third em en e f h e2 f2 h2 ending g1 g2 g3 =
    let front = decimal t.offset ++ codes ".." in
    let last = decimal (t.offset + t.len) in
    let a : take to_dots room1 ≡ front = g1 ∙ dots_in m i first e f h ∙ ap (λ x. decimal x ++ codes "..") em in
    let b : take to_name room2 ≡ front ++ last = g2 ∙ ap (λ x. x ++ take j second) a ∙ ap (λ x. front ++ x) (digits_in n j second e2 f2 h2 ∙ ap decimal en) in
    g3 ∙ ap (λ x. x ++ take k third) b ∙ ap (λ x. (front ++ last) ++ x) ending ∙ sym (append_assoc (front ++ last) (codes " " ++ kind_name t.kind) (codes "\n"))
    ∙ ap (λ x. x ++ codes "\n") (sym (append_assoc (front ++ last) (codes " ") (kind_name t.kind)))
