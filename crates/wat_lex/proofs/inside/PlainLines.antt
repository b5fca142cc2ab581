-- A line comment in which no byte begins a confusing character.
use Rattle.std.proofs.Common.{◌≡◌, ◌≢◌, ◌<◌, ◌+◌, ℕ, zero, suc, List, length, take, drop, get_or, refl, arith, ap, sym, ◌∙◌, subst, true, false, not, inl, get_or-drop}
use Rattle.std.specs.List.{prefix_len}
use Rattle.std.specs.Str.{IsUtf8}
use Rattle.std.proofs.lemmas.Bool.{both_ways}
use Rattle.std.proofs.lemmas.Bool.Decides.{nat_tests}
use Rattle.std.proofs.lemmas.List.{get_or-take, length-take}
use Rattle.std.proofs.lemmas.List.Sums.{prefix_len_is, prefix_len_passes, prefix_len_stops, prefix_len-le-length}
use Rattle.std.proofs.lemmas.Str.{IsUtf8-take}
use Rattle.wat_lex.specs.grammar.Classes.{is_line_end}
use Rattle.wat_lex.specs.inside.Blocks.{is_plain_in_line}
use Rattle.wat_lex.specs.inside.ScannedLexemes.{LexemeFound}
use Rattle.wat_lex.specs.tokens.Setting.{allowing}
use Rattle.wat_lex.specs.declared.lexer.settings.Settings.{Settings}
use Rattle.wat_lex.specs.declared.lexer.kinds.TokenKind.TheVariants.{LineComment as line_kind}
use Rattle.wat_lex.proofs.inside.Confusing.{Leadless, clear_text}
use Rattle.wat_lex.proofs.inside.CheckedComments.{boundary_at, found_clear}
use Rattle.wat_lex.proofs.inside.LineComments.{line_found}

plain_ends_no_line : (c : ℕ) → is_plain_in_line c ≡ true → not (is_line_end c) ≡ true
plain_ends_no_line c h = grind (arith, nat_tests)

other_ends_line : (c : ℕ) → is_plain_in_line c ≡ false → c ≢ 0xE2 → not (is_line_end c) ≡ false
other_ends_line c h n = grind (arith, nat_tests)

-- where the plain bytes end at no byte 0xE2, the line ends
line_ends : (bs : List ℕ) (n : ℕ) → n ≡ prefix_len is_plain_in_line bs → (n < length bs → get_or bs n 0 ≢ 0xE2) → n ≡ prefix_len (λ c. not (is_line_end c)) bs
line_ends bs n e h =
    sym (prefix_len_is (λ c. not (is_line_end c)) bs n 0 (omega (arith, e, prefix_len-le-length is_plain_in_line bs))
    (λ k l. plain_ends_no_line (get_or bs k 0) (prefix_len_passes is_plain_in_line bs k 0 (omega (arith, e, l))))
    (λ l. other_ends_line (get_or bs n 0) (ap (λ x. is_plain_in_line (get_or bs x 0)) e ∙ prefix_len_stops is_plain_in_line bs 0 (omega (arith, e, l))) (h l)))

-- up to there no byte is 0xE2
leadless : (text : List ℕ) (n : ℕ) → get_or text 0 0 ≡ 59 → get_or text 1 0 ≡ 59 → n ≡ prefix_len is_plain_in_line (drop 2 text) → (k : ℕ) → k < n + 2 → get_or text k 0 ≢ 0xE2
leadless text n a b e zero l q = omega arith
leadless text n a b e (suc zero) l q = omega arith
leadless text n a b e (suc (suc k)) l q =
    let place : 2 + k ≡ suc (suc k) = omega arith in
    let here : get_or (drop 2 text) k 0 ≡ 0xE2 = get_or-drop 2 text k 0 ∙ ap (λ x. get_or text x 0) place ∙ q in
    let passes = prefix_len_passes is_plain_in_line (drop 2 text) k 0 (omega (arith, e, l)) in
    both_ways (is_plain_in_line 0xE2) refl (subst (λ x. is_plain_in_line x ≡ true) here passes)

pub plain_found : (flags : Settings) (text : List ℕ) (n : ℕ) → IsUtf8 text → get_or text 0 0 ≡ 59 → get_or text 1 0 ≡ 59 → n ≡ prefix_len is_plain_in_line (drop 2 text)
    → (n < length (drop 2 text) → get_or (drop 2 text) n 0 ≢ 0xE2) → LexemeFound flags text (record { kind = line_kind; len = n + 2 })
plain_found flags text n u a b e h =
    let found = line_found flags text n u a b (line_ends (drop 2 text) n e h) in
    let cut = boundary_at (allowing flags) text (record { kind = line_kind; len = n + 2 }) u found in
    let clear : Leadless (take (n + 2) text) = λ k l q. let m : k < n + 2 = omega (arith, l, length-take (n + 2) text) in leadless text n a b e k m (sym (get_or-take (n + 2) text k 0 m) ∙ q) in
    found_clear flags text (record { kind = line_kind; len = n + 2 }) u (inl refl) found (clear_text (take (n + 2) text) (IsUtf8-take text (n + 2) u cut) clear)
