-- A block comment without an inner delimiter and without a byte that begins a confusing character.
use Rattle.std.proofs.Common.{◌≡◌, ◌≢◌, ◌<◌, ◌+◌, ◌-◌, ℕ, zero, suc, List, length, take, drop, get_or, refl, arith, ap, ap₂, sym, false, ◌&&◌, ◌||◌, ◌∙◌, subst, true, inr, length-drop, get_or-drop, inl}
use Rattle.std.specs.Prelude.{◌==◌}
use Rattle.std.specs.List.{prefix_len}
use Rattle.std.specs.Str.{IsUtf8}
use Rattle.std.proofs.lemmas.Bool.{both_ways, cases_eq, ne_eqb}
use Rattle.std.proofs.lemmas.List.{get_or-take, length-take}
use Rattle.std.proofs.lemmas.List.Sums.{prefix_len_passes}
use Rattle.std.proofs.lemmas.Str.{IsUtf8-take}
use Rattle.wat_lex.specs.grammar.Comments.{Closes}
use Rattle.wat_lex.specs.inside.Blocks.{is_plain_in_block}
use Rattle.wat_lex.specs.inside.Nesting.{Reaches, delimits}
use Rattle.wat_lex.specs.inside.ScannedLexemes.{LexemeFound, ClosesPlainly}
use Rattle.wat_lex.specs.tokens.Setting.{allowing}
use Rattle.wat_lex.specs.declared.lexer.settings.Settings.{Settings}
use Rattle.wat_lex.specs.declared.lexer.kinds.TokenKind.TheVariants.{BlockComment as block_kind}
use Rattle.wat_lex.proofs.grammar.Comments.{reaches_start, close_at, all_closed}
use Rattle.wat_lex.proofs.inside.Nesting.{past_stretch}
use Rattle.wat_lex.proofs.inside.BlockComments.{block_found}
use Rattle.wat_lex.proofs.inside.CheckedComments.{boundary_at, found_clear}
use Rattle.wat_lex.proofs.inside.Confusing.{Leadless, clear_text}

plain_is_no_semicolon : (b : ℕ) → is_plain_in_block b ≡ true → b ≢ 59
plain_is_no_semicolon b h e = both_ways (is_plain_in_block 59) refl (subst (λ x. is_plain_in_block x ≡ true) e h)

plain_is_no_paren : (b : ℕ) → is_plain_in_block b ≡ true → b ≢ 40
plain_is_no_paren b h e = both_ways (is_plain_in_block 40) refl (subst (λ x. is_plain_in_block x ≡ true) e h)

plain_is_no_lead : (b : ℕ) → is_plain_in_block b ≡ true → b ≢ 0xE2
plain_is_no_lead b h e = both_ways (is_plain_in_block 0xE2) refl (subst (λ x. is_plain_in_block x ≡ true) e h)

plain_delimits_none : (s : List ℕ) (k : ℕ) → is_plain_in_block (get_or s k 0) ≡ true → delimits s k ≡ false
plain_delimits_none s k h =
    let b = get_or s k 0 in
    ap₂ (λ u v. (u && (get_or s (k + 1) 0 == 59)) || (v && (get_or s (k + 1) 0 == 41))) (ne_eqb b 40 (plain_is_no_paren b h)) (ne_eqb b 59 (plain_is_no_semicolon b h))

-- after plain bytes and `;)` the comment is closed
closes_plainly : (s : List ℕ) (m : ℕ) → m ≡ prefix_len is_plain_in_block s → m + 1 < length s → get_or s m 0 ≡ 59 → get_or s (m + 1) 0 ≡ 41 → Closes s (drop (m + 2) s)
closes_plainly s m e room first second =
    let plain : (k : ℕ) → k < m → is_plain_in_block (get_or s k 0) ≡ true = λ k l. prefix_len_passes is_plain_in_block s k 0 (omega (arith, e, l)) in
    let before : Reaches s 1 (drop m s) = past_stretch s 0 m 1 (omega arith) (omega arith) (omega arith) (λ k a l. plain_delimits_none s k (plain k l)) (reaches_start s) in
    all_closed s (1 - 1) (drop (m + 2) s) (omega arith) (close_at s m 1 room first second (omega arith) before)

leadless : (text : List ℕ) (n : ℕ) → get_or text 0 0 ≡ 40 → get_or text 1 0 ≡ 59 → ClosesPlainly text n → (k : ℕ) → k < n → get_or text k 0 ≢ 0xE2
leadless text n a b h zero l q = omega (arith, a, q)
leadless text n a b h (suc zero) l q = omega (arith, b, q)
leadless text n a b h (suc (suc k)) l q =
    elim (cases_eq (k + 4) n) [
      | inl e ↦
          let place : suc (suc k) ≡ n - 2 = omega arith in
          let first : get_or text (suc (suc k)) 0 ≡ 59 = ap (λ x. get_or text x 0) place ∙ h.first in
          omega (arith, first, q)
      | inr ne ↦ elim (cases_eq (k + 3) n) [
        | inl e ↦
            let place : suc (suc k) ≡ n - 1 = omega arith in
            let second : get_or text (suc (suc k)) 0 ≡ 41 = ap (λ x. get_or text x 0) place ∙ h.second in
            omega (arith, second, q)
        | inr nf ↦
            let place : 2 + k ≡ suc (suc k) = omega arith in
            let here : get_or (drop 2 text) k 0 ≡ 0xE2 = get_or-drop 2 text k 0 ∙ ap (λ x. get_or text x 0) place ∙ q in
            plain_is_no_lead (get_or (drop 2 text) k 0) (prefix_len_passes is_plain_in_block (drop 2 text) k 0 (omega (arith, h.inside, l))) here
      ]
    ]

pub short_found : (flags : Settings) (text : List ℕ) (n : ℕ) → IsUtf8 text → get_or text 0 0 ≡ 40 → get_or text 1 0 ≡ 59 → ClosesPlainly text n → LexemeFound flags text (record { kind = block_kind; len = n })
short_found flags text n u a b h =
    let s = drop 2 text in
    let m = prefix_len is_plain_in_block s in
    let long = length-drop 2 text in
    let place : 2 + m ≡ n - 2 = omega (arith, h.inside) in
    let next : 2 + (m + 1) ≡ n - 1 = omega (arith, h.inside) in
    let first : get_or s m 0 ≡ 59 = get_or-drop 2 text m 0 ∙ ap (λ x. get_or text x 0) place ∙ h.first in
    let second : get_or s (m + 1) 0 ≡ 41 = get_or-drop 2 text (m + 1) 0 ∙ ap (λ x. get_or text x 0) next ∙ h.second in
    let room : m + 1 < length s = omega (arith, long, h.range, h.inside) in
    let closes = closes_plainly s m refl room first second in
    let whole : m + 2 + 2 ≡ n = omega (arith, h.inside) in
    let found : LexemeFound (allowing flags) text (record { kind = block_kind; len = n }) =
    subst (λ x. LexemeFound (allowing flags) text (record { kind = block_kind; len = x })) whole (block_found flags text (m + 2) u a b (omega (arith, room)) closes) in
    let cut = boundary_at (allowing flags) text (record { kind = block_kind; len = n }) u found in
    let clear : Leadless (take n text) = λ k l q. let i : k < n = omega (arith, l, length-take n text) in leadless text n a b h k i (sym (get_or-take n text k 0 i) ∙ q) in
    found_clear flags text (record { kind = block_kind; len = n }) u (inr refl) found (clear_text (take n text) (IsUtf8-take text n u cut) clear)
