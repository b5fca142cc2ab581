use Rattle.std.proofs.Common.{sym, ap, ◌∙◌, subst, ◌≡◌, ◌≢◌, ◌<◌, ◌++◌, ℕ, List, length, length-append, arith, Bool, true, false, not}
use Rattle.std.specs.Str.Iter.{chars_rest}
use Rattle.std.proofs.lemmas.Bool.{both_ways}
use Rattle.std.proofs.lemmas.Str.{length-encode, len_utf8_bounds, byte_from_char}
use lib.Utf8.{encode}
use Rattle.wat_lex.proofs.inside.StringSteps.{Took, took, refused}
use Rattle.wat_lex.proofs.inside.StringElements.{element_raw, element_escaped, element_missing, element_control, element_confusing, escape_fits, element_escape}
use Rattle.wat_lex.proofs.lexer.scan.strings.element_len.Goals as goal
use Rattle.wat_lex.proofs.lexer.scan.strings.element_len.Goals.{In-Some, then-c-eq92+in_default-escape, else-c-eq92+else-is_control+else-not-flags, else-not-flags-via-then-not-flags+else-is_confusing, else-not-flags-via-else-not-flags}

spelled : (c : In-Some) → c.args.text.now ≡ encode c.in-Some.c ++ chars_rest c.next.new.self
spelled c = sym c.chars-it.ensures.rest ∙ c.in-Some.ensures.steps.0

first : (c : In-Some) → Took c.args.text.now c.in-Some.c (chars_rest c.next.new.self)
first c = took c.args.text.now (chars_rest c.next.new.self) c.in-Some.c c.utf8.text (spelled c)

was : (c : In-Some) → c.in-Some.c ≡ 92 → Took c.args.text.now 92 (chars_rest c.next.new.self)
was c e = subst (λ x. Took c.args.text.now x (chars_rest c.next.new.self)) e (first c)

nearer : (rest next : List ℕ) (c : ℕ) → rest ≡ encode c ++ next → length next < length rest
nearer rest next c e = omega (arith, ap length e, length-append (encode c) next, length-encode c, (len_utf8_bounds c).0)

denied : (b : Bool) → not b ≡ true → b ≡ false
denied true e = sym e
denied false e = sym (ap not e)

allowed : (b : Bool) → not b ≡ false → b ≡ true
allowed true e = sym (ap not e)
allowed false e = sym e

pub returns-in_default-clause-err : goal.returns-in_default-clause-err
returns-in_default-clause-err c = refused _ _ _ c.fault_at.ensures (element_missing c.args.flags c.args.text.now (ap length (sym c.chars-it.ensures.rest) ∙ c.in_default.ensures.steps.0.0))

pub escape-requires : goal.escape-requires
escape-requires c = let t = first (goal.at.escape-requires c).In-Some in record { utf8 = t.utf8 }

pub overflow_sub-text : goal.overflow_sub-text
overflow_sub-text c = escape_fits c.args.flags c.args.text.now (chars_rest c.next.new.self) c.in-Err.broken (was (goal.at.overflow_sub-text c).In-Some c.if-c-eq92.true) c.in-Err.ensures.err

pub returns-in-Err-clause-err : goal.returns-in-Err-clause-err
returns-in-Err-clause-err c =
    refused _ _ _ c.fault_at-in-Err.ensures
    (element_escape c.args.flags c.args.text.now (chars_rest c.next.new.self) c.in-Err.broken (was (goal.at.returns-in-Err-clause-err c).In-Some c.if-c-eq92.true) c.in-Err.ensures.err)

pub returns-then-is_control-clause-err : goal.returns-then-is_control-clause-err
returns-then-is_control-clause-err c =
    refused _ _ _ c.fault_at-then-is_control.ensures
    (element_control c.args.flags c.args.text.now _ c.in-Some.c (first (goal.at.returns-then-is_control-clause-err c).In-Some) (sym c.is_control.ensures ∙ c.if-is_control.true))

pub returns-then-is_confusing-clause-err : goal.returns-then-is_confusing-clause-err
returns-then-is_confusing-clause-err c =
    refused _ _ _ c.fault_at-then-is_confusing.ensures
    (element_confusing c.args.flags c.args.text.now _ c.in-Some.c (first (goal.at.returns-then-is_confusing-clause-err c).In-Some) (denied _ c.if-not-flags.true) (sym c.is_confusing.ensures ∙ c.if-is_confusing.true))

not_quote : (c : In-Some) → c.in-Some.c ≢ 34
not_quote c e = c.requires.open (byte_from_char c.args.text.now (chars_rest c.next.new.self) c.in-Some.c (spelled c) (omega (arith, e)) ∙ e)

pub returns-clause-ok : goal.returns-clause-ok
returns-clause-ok c =
    let at = (goal.at.returns-clause-ok c).In-Some in
    let text = c.args.text.now in
    let rest = chars_rest c.next.new.self in
    rw c.as_str.ensures
    (elim c.if-c-eq92.branch [
      | then-c-eq92+in_default-escape w ↦ rw w.it-is (element_escaped c.args.flags text rest (chars_rest w.escape.new.it) _ c.utf8.text (was at w.if-c-eq92.true) (nearer _ _ c.in-Some.c (spelled at)) w.in_default-escape.ensures.ok)
      | else-c-eq92+else-is_control+else-not-flags w ↦
          rw w.it-is
          (element_raw c.args.flags text rest c.in-Some.c c.utf8.text (first at) (nearer _ _ c.in-Some.c (spelled at)) (not_quote at) w.if-c-eq92.false (sym w.is_control.ensures ∙ w.if-is_control.false)
          (λ a. elim w.else-not-flags.branch [
            | else-not-flags-via-then-not-flags+else-is_confusing v ↦ sym v.is_confusing.ensures ∙ v.if-is_confusing.false
            | else-not-flags-via-else-not-flags v ↦ absurd (both_ways c.args.flags.allow a (allowed _ v.if-not-flags.false))
          ]))
    ])
