use Rattle.std.proofs.Common.{rules, arith, ◌≡◌, ◌≢◌, ◌<◌, ◌+◌, ◌-◌, ◌∙◌, sym, true, false, Some, None, length}
use Rattle.std.specs.Prelude.{slice_get}
use Rattle.std.proofs.lemmas.Option.{slice_get-get_or}
use Rattle.wat_c_records.specs.Links.{closes, opens}
use Rattle.wat_c_records.proofs.Linking.{linked_none, linked_close, linked_plain, linked_unclosed, closed_inside, linked_open}
use Rattle.wat_c_records.proofs.links.link_of.Goals as goal

pub returns-in_default : goal.returns-in_default
returns-in_default c =
    let past : slice_get c.args.rows.now (c.args.number + 1) ≡ None = sym c.row_at.ensures.value ∙ c.in_default.is in
    linked_none c.args.rows.now c.args.number c.requires.linked past

pub returns-then-closes : goal.returns-then-closes
returns-then-closes c =
    let there : slice_get c.args.rows.now (c.args.number + 1) ≡ Some c.in-Some.next = sym c.row_at.ensures.value ∙ c.in-Some.is in
    let f : closes c.in-Some.next.kind.code ≡ true = sym c.closes.ensures ∙ c.if-closes.true in
    linked_close c.args.rows.now c.args.number c.requires.linked c.in-Some.next there f

pub returns-then-not-opens : goal.returns-then-not-opens
returns-then-not-opens c =
    let there : slice_get c.args.rows.now (c.args.number + 1) ≡ Some c.in-Some.next = sym c.row_at.ensures.value ∙ c.in-Some.is in
    let f : closes c.in-Some.next.kind.code ≡ false = sym c.closes.ensures ∙ c.if-closes.false in
    let o : opens c.in-Some.next.kind.code ≡ false = search (rules, c.opens.ensures, c.if-not-opens.true) in
    linked_plain c.args.rows.now c.args.number c.requires.linked c.in-Some.next there f o

pub returns-then-next-eq0 : goal.returns-then-next-eq0
returns-then-next-eq0 c =
    let there : slice_get c.args.rows.now (c.args.number + 1) ≡ Some c.in-Some.next = sym c.row_at.ensures.value ∙ c.in-Some.is in
    let o : opens c.in-Some.next.kind.code ≡ true = search (rules, c.opens.ensures, c.if-not-opens.false) in
    let z : c.in-Some.next.link ≡ 0 = omega arith in
    linked_unclosed c.args.rows.now c.args.number c.requires.linked c.in-Some.next there o z

pub bounds-rows-next : goal.bounds-rows-next
bounds-rows-next c =
    let there : slice_get c.args.rows.now (c.args.number + 1) ≡ Some c.in-Some.next = sym c.row_at.ensures.value ∙ c.in-Some.is in
    let z : c.in-Some.next.link ≢ 0 = λ e. absurd (omega (arith, e)) in
    omega (arith, z, closed_inside c.args.rows.now c.args.number c.requires.linked c.in-Some.next there z)

pub returns : goal.returns
returns c =
    let there : slice_get c.args.rows.now (c.args.number + 1) ≡ Some c.in-Some.next = sym c.row_at.ensures.value ∙ c.in-Some.is in
    let o : opens c.in-Some.next.kind.code ≡ true = search (rules, c.opens.ensures, c.if-not-opens.false) in
    let z : c.in-Some.next.link ≢ 0 = λ e. absurd (omega (arith, e)) in
    let l : c.in-Some.next.link - 1 < length c.args.rows.now = omega
    (arith, z, closed_inside c.args.rows.now c.args.number c.requires.linked c.in-Some.next there z) in
    linked_open c.args.rows.now c.args.number c.requires.linked c.in-Some.next there _ o z (slice_get-get_or c.args.rows.now
    (c.in-Some.next.link - 1) _ l)
