use Rattle.std.proofs.Common.{◌≡◌, ◌<◌, ◌+◌, ℕ, List, length, arith, ap, ◌∙◌, sym, subst, false}
use Rattle.std.specs.List.{count_by}
use Rattle.std.specs.Prelude.{◌==◌}
use Rattle.std.specs.Str.Lines.{lines}
use Rattle.wat_lex.specs.errors.Positions.{is_line_feed}
use Rattle.std.proofs.lemmas.Bool.{eqb-true, eq-eqb, both_ways}
use Rattle.wat_lex.proofs.errors.LineCounts.{no_lines, ended_lines, unended_lines}
use Rattle.wat_lex.proofs.errors.LineFeeds.{feeds_all}
use Rattle.wat_lex.proofs.token.lines.line_count.Goals as goal

pub returns-then-is_empty : goal.returns-then-is_empty
returns-then-is_empty c = no_lines c.args.text.now (ap length (sym c.as_bytes-bytes.ensures.value) ∙ eqb-true (length c.as_bytes-bytes.result.now) 0 (sym c.if-is_empty.ensures))

some : (bytes : List ℕ) → false ≡ (length bytes == 0) → 0 < length bytes
some bytes e =
    let n : length bytes ≡ 0 → ⊥ = λ z. both_ways (length bytes == 0) (sym e) (eq-eqb (length bytes) 0 z) in
    omega (arith, n)

pub returns-then-bytes-eq10 : goal.returns-then-bytes-eq10
returns-then-bytes-eq10 c =
    let bytes = c.as_bytes-bytes.result.now in
    feeds_all c.args.text.now c.args.feeds.now c.requires
    ∙ subst (λ t. count_by is_line_feed t ≡ length (lines t)) c.as_bytes-bytes.ensures.value (ended_lines bytes (some bytes c.if-is_empty.ensures) c.if-bytes-eq10.true)

pub returns : goal.returns
returns c =
    let bytes = c.as_bytes-bytes.result.now in
    ap (λ n. n + 1) (feeds_all c.args.text.now c.args.feeds.now c.requires)
    ∙ subst (λ t. count_by is_line_feed t + 1 ≡ length (lines t)) c.as_bytes-bytes.ensures.value (unended_lines bytes (some bytes c.if-is_empty.ensures) c.if-bytes-eq10.false)
