use Rattle.std.proofs.Common.{sym, ap, ◌∙◌, subst, ◌≡◌, ◌≢◌, ◌<◌, ◌++◌, ◌∷◌, ℕ, List, length, length-append, arith}
use Rattle.std.specs.Prelude.{IsTrue}
use Rattle.std.specs.Str.{chars}
use Rattle.std.specs.Str.Iter.{chars_rest}
use Rattle.std.proofs.lemmas.Bool.Decides.{nat_tests}
use Rattle.std.proofs.lemmas.Str.{length-encode, len_utf8_bounds}
use lib.Utf8.{encode}
use Rattle.wat_lex.specs.grammar.Classes.{Begins}
use Rattle.wat_lex.specs.tokens.Recovery.{is_escaped, is_inside}
use Rattle.wat_lex.proofs.inside.Recoveries.{passed_char, passed_escape}
use Rattle.wat_lex.proofs.inside.StringSteps.{Took, took}
use Rattle.wat_lex.proofs.lexer.recover.inside_len.Goals as goal
use Rattle.wat_lex.proofs.lexer.recover.inside_len.Goals.{else-c-eq92-via-then-c-eq92+else-begins_escaped, else-c-eq92-via-else-c-eq92}

nearer : (rest next : List ℕ) (c : ℕ) → rest ≡ encode c ++ next → length next < length rest
nearer rest next c e = omega (arith, ap length e, length-append (encode c) next, length-encode c, (len_utf8_bounds c).0)

is_inside_by : (c : ℕ) → c ≢ 34 → c ≢ 10 → c ≢ 13 → IsTrue (is_inside c)
is_inside_by c a b d = grind (arith, nat_tests)

pub returns-then-begins_escaped-clause-some : goal.returns-then-begins_escaped-clause-some
unfolding encode
returns-then-begins_escaped-clause-some c =
    let text = c.args.text.now in
    let rest = chars_rest c.next.new.self in
    let spelled : text ≡ encode c.in_ok-c.c ++ rest = sym c.chars-it.ensures.rest ∙ c.in_ok-c.ensures.steps.0 in
    let plain : text ≡ 92 ∷ rest = spelled ∙ ap (λ x. encode x ++ rest) c.if-c-eq92.true in
    let here : Took text 92 rest = subst (λ x. Took text x rest) c.if-c-eq92.true (took text rest c.in_ok-c.c c.utf8.text spelled) in
    passed_escape text rest c.utf8.text plain here (subst (λ x. Begins is_escaped (chars x)) c.as_str.ensures c.if-begins_escaped.ensures)

pub returns-clause-some : goal.returns-clause-some
returns-clause-some c =
    let text = c.args.text.now in
    let rest = chars_rest c.next.new.self in
    let spelled : text ≡ encode c.in_ok-c.c ++ rest = sym c.chars-it.ensures.rest ∙ c.in_ok-c.ensures.steps.0 in
    rw c.as_str-2.ensures
    (passed_char text rest c.in_ok-c.c c.utf8.text (took text rest c.in_ok-c.c c.utf8.text spelled) (nearer text rest c.in_ok-c.c spelled)
    (is_inside_by c.in_ok-c.c c.if-c-eq34.false c.if-c-eq10.false c.if-c-eq13.false)
    (λ e b. elim c.else-c-eq92.branch [
      | else-c-eq92-via-then-c-eq92+else-begins_escaped w ↦ w.if-begins_escaped.ensures (subst (λ x. Begins is_escaped (chars x)) (sym w.as_str.ensures) b)
      | else-c-eq92-via-else-c-eq92 w ↦ w.if-c-eq92.false e
    ]))
