use Rattle.std.proofs.Common.{◌+◌, ◌∷◌, arith, take, sym, subst}
use Rattle.std.specs.Str.{IsUtf8}
use Rattle.wat_lex.specs.inside.StringParts.{value_of}
use Rattle.wat_lex.proofs.values.NameParts.{held_more, NoneBelow, still_none, no_character, refused}
use Rattle.wat_lex.proofs.lexer.read.names.past_character.Goals as goal
use Rattle.wat_lex.proofs.lexer.read.names.past_character.Goals.{In-loop-buffer}

bad : (c : In-loop-buffer) → IsUtf8 (take c.loop-buffer.len c.loop-buffer.buffer) → ⊥
bad c = refused c.from_utf8.result _ _ _ (sym c.loop-buffer-test.ensures.value) c.from_utf8.ensures.cases

none : (c : In-loop-buffer) → NoneBelow (c.loop-buffer.len + 1) (c.args.first ∷ value_of c.args.elements.now)
none c =
    let i = c.loop-buffer.invariant in
    still_none (c.args.first ∷ value_of c.args.elements.now) c.loop-buffer.buffer (value_of c.loop-buffer.rest.now) c.loop-buffer.len c.loop-buffer.array_long i.4 i.5 i.6 (bad c)

pub returns-then-len-eq4 : goal.returns-then-len-eq4
returns-then-len-eq4 c =
    no_character c.args.first (value_of c.args.elements.now)
    (subst (λ n. NoneBelow (n + 1) (c.args.first ∷ value_of c.args.elements.now)) c.if-len-eq4.true (none (goal.at.returns-then-len-eq4 c).In-loop-buffer))

pub returns-in_err-byte : goal.returns-in_err-byte
returns-in_err-byte c =
    let i = c.loop-buffer.invariant in
    let b = bad (goal.at.returns-in_err-byte c).In-loop-buffer in
    rw c.from_residual.ensures (λ u. b (c.in_err-byte.ensures (take c.loop-buffer.len c.loop-buffer.buffer) (subst IsUtf8 (sym i.5) u)))

pub loop-buffer-preserved : goal.loop-buffer-preserved
loop-buffer-preserved c =
    let i = c.loop-buffer.invariant in
    let t = c.in_ok-byte.ensures in
    let s = t.shorter in
    let n = none (goal.at.loop-buffer-preserved c).In-loop-buffer in
    (t.utf8, t.quoted, omega arith, omega arith, omega arith, held_more _ c.loop-buffer.buffer c.loop-buffer.rest.now c.in_ok-byte.after.now c.loop-buffer.len c.in_ok-byte.byte c.loop-buffer.array_long (omega arith) i.5 t, n)
