use Rattle.std.proofs.Common.{sym, ap, ◌∙◌, subst, ◌≡◌, ℕ, [], ◌∷◌, length, arith, ◌^◌, ◌<◌, eq-eqb}
use Rattle.std.specs.Str.Iter.{chars_rest}
use Rattle.std.proofs.lemmas.Bool.{both_ways, ne_eqb}
use Rattle.std.proofs.lemmas.Result.{err_from_is_err_and}
use Rattle.wat_lex.specs.grammar.Classes.{is_hex}
use Rattle.wat_lex.proofs.inside.StringSteps.{Took, took, refused}
use Rattle.wat_lex.proofs.inside.HexRows.{Reading, row_begins, row_underscore, row_doubled, row_digit, row_too_big, row_ends, row_good, row_no_more, row_stops, stops_end, stops_at}
use Rattle.wat_lex.proofs.lexer.scan.strings.number.Goals as goal
use Rattle.wat_lex.proofs.lexer.scan.strings.number.Goals.{In-Some, After-closing_brace, then-is_hex+in_ok-n, else-is_hex+else-c-ne95, else-c-eq95-via-then-c-eq95+then-underscore+else-flags, else-c-eq95-via-then-c-eq95+else-underscore, else-c-eq95-via-else-c-eq95}

first_of : (c : In-Some) → Took (chars_rest c.row.it) c.in-Some.c (chars_rest c.next.new.self)
first_of c = let u = c.row.invariant in took (chars_rest c.row.it) (chars_rest c.next.new.self) c.in-Some.c u.utf8 c.in-Some.ensures.steps.0

was : (d : ℕ) (c : In-Some) → c.in-Some.c ≡ d → Took (chars_rest c.row.it) d (chars_rest c.next.new.self)
was d c e = subst (λ x. Took (chars_rest c.row.it) x (chars_rest c.next.new.self)) e (first_of c)

pub row-init : goal.row-init
row-init c = row_begins c.args.flags c.args.first _ _ _ c.requires.utf8 c.requires.hex c.hex_digit-n.ensures.value

pub returns-in_err-row_value-clause-err : goal.returns-in_err-row_value-clause-err
returns-in_err-row_value-clause-err c =
    let p = err_from_is_err_and c.from_residual.result c.from_residual.ensures.1 in
    rw (p.1, p.2) (row_ends c.args.flags c.args.first _ (chars_rest c.row.it) c.row.n c.row.last c.row.underscore _ c.row.invariant (stops_end _ c.in_default.ensures.steps.0.0) c.in_err-row_value.ensures)

pub returns-in_default-clause-err : goal.returns-in_default-clause-err
returns-in_default-clause-err c =
    let g = row_good c.args.flags c.args.first _ (chars_rest c.row.it) c.row.n c.row.last _ c.row.underscore c.row.invariant c.in_ok-row_value.ensures in
    refused _ _ _ c.string_error_at.ensures (row_no_more c.args.flags c.args.first _ (chars_rest c.row.it) c.row.n c.row.last g.row c.in_default.ensures.steps.0.0 g.is)

pub returns-then-flags-clause-err : goal.returns-then-flags-clause-err
returns-then-flags-clause-err c =
    refused _ _ _ c.string_error_at-then-flags.ensures
    (row_doubled c.args.flags c.args.first _ (chars_rest c.row.it) _ c.row.n c.row.last _ c.row.underscore c.row.invariant c.if-flags.true c.if-underscore.true (was 95 (goal.at.returns-then-flags-clause-err c).In-Some c.if-c-eq95.true) (ap length c.as_str-left.ensures))

pub returns-in_err-n-clause-err : goal.returns-in_err-n-clause-err
returns-in_err-n-clause-err c =
    let p = err_from_is_err_and c.from_residual-in_err-n.result c.from_residual-in_err-n.ensures.1 in
    let e = c.in_err-n.ensures.err in
    rw (p.1, p.2, e.1)
    (row_too_big c.args.flags c.args.first _ (chars_rest c.row.it) _ c.row.n c.row.last _ c.in-Some.c c.row.underscore c.row.invariant (first_of (goal.at.returns-in_err-n-clause-err c).In-Some) (ap length c.as_str-left.ensures) (sym c.is_hex.ensures ∙ c.if-is_hex.true) e.0)

pub returns-in_err-row_value-2-clause-err : goal.returns-in_err-row_value-2-clause-err
returns-in_err-row_value-2-clause-err c =
    let p = err_from_is_err_and c.from_residual-in_err-row_value-2.result c.from_residual-in_err-row_value-2.ensures.1 in
    rw (p.1, p.2)
    (row_ends c.args.flags c.args.first _ (chars_rest c.row.it) c.row.n c.row.last c.row.underscore _ c.row.invariant
    (stops_at _ _ _ (first_of (goal.at.returns-in_err-row_value-2-clause-err c).In-Some) (sym c.is_hex.ensures ∙ c.if-is_hex.false) c.if-c-ne95.true) c.in_err-row_value-2.ensures)

stopped : (c : After-closing_brace) → Reading c.args.flags (92 ∷ 117 ∷ 123 ∷ c.args.first ∷ []) (chars_rest c.args.it.now) (chars_rest c.next.new.self) c.closing_brace.result
stopped c =
    row_stops c.args.flags c.args.first (chars_rest c.args.it.now) (chars_rest c.row.it) (chars_rest c.next.new.self) c.row.n c.row.last _ c.in-Some.c c.row.underscore c.in_ok-row_value-2.field-0 c.closing_brace.result c.row.invariant
    (took (chars_rest c.row.it) (chars_rest c.next.new.self) c.in-Some.c (let u = c.row.invariant in u.utf8) c.in-Some.ensures.steps.0) (ap length c.as_str-left.ensures) (sym c.is_hex.ensures ∙ c.if-is_hex.false) c.if-c-ne95.true c.in_ok-row_value-2.ensures c.closing_brace.ensures

pub returns-then-c-ne95-clause-ok : goal.returns-then-c-ne95-clause-ok
returns-then-c-ne95-clause-ok c = (stopped c).0

pub returns-then-c-ne95-clause-err : goal.returns-then-c-ne95-clause-err
returns-then-c-ne95-clause-err c = (stopped c).1

pub row-preserved : goal.row-preserved
row-preserved c =
    let t = first_of (goal.at.row-preserved c).In-Some in
    elim c.if-is_hex.branch [
      | then-is_hex+in_ok-n w ↦
          let hex = sym c.is_hex.ensures ∙ w.if-is_hex.true in
          let small : w.in_ok-n.n < 2 ^ 32 = omega arith in
          rw (ne_eqb c.in-Some.c 95 (λ k. both_ways (is_hex c.in-Some.c) (ap is_hex k) hex), w.n-is)
          (row_digit c.args.flags c.args.first _ (chars_rest c.row.it) _ c.row.n c.row.last _ _ c.in-Some.c c.row.underscore c.row.invariant t (ap length c.as_str-left.ensures) hex w.in_ok-n.ensures.ok small)
      | else-is_hex+else-c-ne95 w ↦
          let e = w.if-c-ne95.false in
          rw (eq-eqb c.in-Some.c 95 e, w.n-is)
          (row_underscore c.args.flags c.args.first _ (chars_rest c.row.it) _ c.row.n c.row.last _ c.row.underscore c.row.invariant
          (λ s. elim c.else-c-eq95.branch [
            | else-c-eq95-via-then-c-eq95+then-underscore+else-flags v ↦ absurd (both_ways c.args.flags.strict v.if-flags.false s)
            | else-c-eq95-via-then-c-eq95+else-underscore v ↦ v.if-underscore.false
            | else-c-eq95-via-else-c-eq95 v ↦ absurd (v.if-c-eq95.false e)
          ])
          (was 95 (goal.at.row-preserved c).In-Some e) (ap length c.as_str-left.ensures))
    ]
