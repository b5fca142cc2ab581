-- How many bytes strings have together.
use denote.Ref.{Bor}
use Rattle.std.proofs.Common.{◌≡◌, ◌<◌, ◌≤◌, ◌+◌, ℕ, zero, suc, take, get_or, List, [], ◌∷◌, length, arith}
use Rattle.std.proofs.lemmas.List.{length-append}
use Rattle.wat_module_ast.specs.Views.{text_of, together}

-- a string, and all before it, are no longer than all together
string_within : (strings : List (Bor (List ℕ))) (d : Bor (List ℕ)) (k : ℕ) → k < length strings → length (together (take k strings)) + length (text_of (get_or strings k d)) ≤ length (together strings)
string_within [] d k l = absurd (omega (arith, l))
string_within (s ∷ ss) d zero l = let e = length-append (text_of s) (together ss) in omega (arith, e)
string_within (s ∷ ss) d (suc k) l =
    let before = length-append (text_of s) (together (take k ss)) in
    let all = length-append (text_of s) (together ss) in
    let rest = string_within ss d k (omega (arith, l)) in
    omega (arith, before, all, rest)

-- strings of which some have too many bytes together have too many
pub together_past : (strings : List (Bor (List ℕ))) (d : Bor (List ℕ)) (k len most : ℕ) → k < length strings → len ≡ length (together (take k strings)) → most < len + length (text_of (get_or strings k d)) → most + 1 ≤ length (together strings)
together_past strings d k len most l e h = let within = string_within strings d k l in omega (arith, within, e, h)
