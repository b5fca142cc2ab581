use Rattle.std.proofs.Common.{◌≡◌, ◌++◌, sym, ap, ◌∙◌, arith, subst, length, drop, take, [], ◌<◌}
use Rattle.std.specs.List.{prefix_len}
use Rattle.std.specs.Str.{IsCharBoundary, IsUtf8}
use Rattle.std.specs.Prelude.{MatchOption}
use Rattle.std.proofs.lemmas.Str.{IsUtf8-drop, IsUtf8-past_char}
use Rattle.std.specs.Str.Iter.{chars_rest}
use Rattle.std.specs.Char.{len_utf8}
use lib.Utf8.{encode, encodes}
use Rattle.wat_lex.specs.errors.LineBytes.{is_kept}
use Rattle.wat_lex.specs.errors.Rendering.{rendered_char, rendered_line}
use Rattle.wat_lex.proofs.errors.ShownBytes.{tab_bytes}
use Rattle.wat_lex.proofs.errors.Stretches.{kept_boundary, kept_front, shown_nothing, past_first, shorter_after, after_first, first_as, own_bytes, no_bytes}
use Rattle.wat_lex.proofs.error.stretches.split_shown.Goals as goal
use Rattle.wat_lex.proofs.error.stretches.split_shown.Goals.{After-kept_len-kept, then-c-eq9, else-c-eq9+then-is_confusing, else-c-eq9+else-is_confusing}

counted : (c : After-kept_len-kept) → c.kept_len-kept.result ≡ prefix_len is_kept c.args.line.now
counted c = c.kept_len-kept.ensures ∙ ap (prefix_len is_kept) c.as_bytes.ensures.value

pub split_at-requires : goal.split_at-requires
split_at-requires c = kept_boundary c.args.line.now c.kept_len-kept.result (counted ((goal.at.split_at-requires c).After-kept_len-kept))

pub returns-then-kept-gt0 : goal.returns-then-kept-gt0
returns-then-kept-gt0 c =
    let cut = kept_front c.args.line.now c.kept_len-kept.result c.utf8.line (counted ((goal.at.returns-then-kept-gt0 c).After-kept_len-kept)) in (
      cut ∙ ap (λ x. x ++ rendered_line (drop c.kept_len-kept.result c.args.line.now)) (sym c.split_at.ensures.front) ∙ ap (λ x. c.split_at.result.0.now ++ rendered_line x) (sym c.split_at.ensures.back),
      omega (arith, c.split_at.ensures.back_len, c.if-kept-gt0.true),
      subst IsUtf8 (sym c.split_at.ensures.back) (IsUtf8-drop c.args.line.now c.kept_len-kept.result c.utf8.line (kept_boundary c.args.line.now c.kept_len-kept.result (counted ((goal.at.returns-then-kept-gt0 c).After-kept_len-kept)))),
    )

pub returns-in_err-c : goal.returns-in_err-c
returns-in_err-c c =
    let none : rendered_line c.args.line.now ≡ [] = shown_nothing c.args.line.now (ap length (sym c.chars.ensures.rest) ∙ c.in_err-c.ensures.steps.0.0) in
    subst (λ r. MatchOption r (rendered_line c.args.line.now ≡ []) (λ parts. (rendered_line c.args.line.now ≡ parts.0.now ++ rendered_line parts.1.now) × (length parts.1.now < length c.args.line.now) × IsUtf8 parts.1.now)) (sym c.from_residual.ensures) none

pub split_at-requires-2 : goal.split_at-requires-2
split_at-requires-2 c =
    let here : c.args.line.now ≡ encode c.in_ok-c.c ++ chars_rest c.next.new.self = sym c.chars.ensures.rest ∙ c.in_ok-c.ensures.steps.0 in
    subst (IsCharBoundary c.args.line.now) (sym c.len_utf8.ensures.value) (past_first c.args.line.now (chars_rest c.next.new.self) c.in_ok-c.c c.utf8.line here)

pub returns : goal.returns
returns c =
    let line = c.args.line.now in
    let rest = chars_rest c.next.new.self in
    let x = c.in_ok-c.c in
    let here : line ≡ encode x ++ rest = sym c.chars.ensures.rest ∙ c.in_ok-c.ensures.steps.0 in
    let after : c.split_at-2.result.1.now ≡ drop (len_utf8 x) line = c.split_at-2.ensures.back ∙ ap (λ n. drop n line) c.len_utf8.ensures.value in
    let own : c.split_at-2.result.0.now ≡ take (len_utf8 x) line = c.split_at-2.ensures.front ∙ ap (λ n. take n line) c.len_utf8.ensures.value in
    let shown : encodes (rendered_char x) ≡ c.if-c-eq9.shown.now =
    elim c.if-c-eq9.branch [
      | then-c-eq9 w ↦ tab_bytes x w.if-c-eq9.true ∙ ap (λ s. s.now) (sym w.shown-is)
      | else-c-eq9+then-is_confusing w ↦ no_bytes line rest x c.utf8.line here w.if-c-eq9.false (sym w.is_confusing.ensures ∙ w.if-is_confusing.true) ∙ ap (λ s. s.now) (sym w.shown-is)
      | else-c-eq9+else-is_confusing w ↦ own_bytes line rest x c.utf8.line here w.if-c-eq9.false (sym w.is_confusing.ensures ∙ w.if-is_confusing.false) ∙ sym own ∙ ap (λ s. s.now) (sym w.shown-is)
    ] in (
      first_as line rest x c.utf8.line here c.if-c-eq9.shown.now shown ∙ ap (λ s. c.if-c-eq9.shown.now ++ rendered_line s) (sym after),
      subst (λ s. length s < length line) (sym after) (shorter_after line rest x c.utf8.line here),
      subst IsUtf8 (sym (after ∙ after_first line rest x c.utf8.line here)) (IsUtf8-past_char line rest x c.utf8.line here),
    )
