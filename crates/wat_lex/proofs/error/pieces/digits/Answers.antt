use Rattle.std.proofs.Common.{◌≡◌, ◌-◌, ◌%◌, ℕ, List, false, length, take, drop, slice_set, arith, ap, sym, ◌∙◌, subst}
use Rattle.std.specs.Str.{IsUtf8}
use Rattle.std.specs.Fmt.{digits, digits_onto, digit_glyph}
use Rattle.std.proofs.lemmas.List.{drop_all, take_rest, length-set}
use Rattle.std.proofs.lemmas.Str.{IsUtf8-from_ascii}
use Rattle.wat_lex.proofs.errors.Digits.{low_glyph, high_glyph, written_more, written_all, digits_ascii}
use Rattle.wat_lex.proofs.error.pieces.digits.Goals as goal
use Rattle.wat_lex.proofs.error.pieces.digits.Goals.{Else-rest-eq0, then-digit-lt10, else-digit-lt10}

-- The last 20 - at bytes of a buffer of 20 bytes are those from the index at on.
after : (room : List ℕ) (at : ℕ) → length room ≡ 20 → take (20 - at) (drop at room) ≡ drop at room
after room at e = ap (λ n. take (n - at) (drop at room)) (sym e) ∙ take_rest room at

pub places-init : goal.places-init
unfolding digits
places-init c = record {
  some = omega arith;
  within = omega arith;
  few = omega (arith, c.ranges.number.fits);
  long = c.told-room;
  digits = ap (digits_onto 64 c.args.base false c.args.number) (drop_all 20 c.args.room.now (omega (arith, c.told-room)));
}

glyph : (c : Else-rest-eq0) → c.if-digit-lt10.room ≡ digit_glyph false (c.places.rest % c.args.base)
glyph c =
    elim c.if-digit-lt10.branch [
      | then-digit-lt10 w ↦ w.room-is ∙ sym (low_glyph (c.places.rest % c.args.base) w.if-digit-lt10.true)
      | else-digit-lt10 w ↦ w.room-is ∙ sym (high_glyph (c.places.rest % c.args.base) w.if-digit-lt10.false)
    ]

pub places-preserved : goal.places-preserved
places-preserved c = written_more c.args.base c.args.number c.places.at c.places.rest c.if-digit-lt10.room c.places.room c.requires c.places.invariant (glyph c) c.if-rest-eq0.false

pub returns-in-Ok : goal.returns-in-Ok
returns-in-Ok c =
    let byte : c.if-digit-lt10.room ≡ digit_glyph false (c.places.rest % c.args.base) =
    elim c.if-digit-lt10.branch [
      | then-digit-lt10 w ↦ w.room-is ∙ sym (low_glyph (c.places.rest % c.args.base) w.if-digit-lt10.true)
      | else-digit-lt10 w ↦ w.room-is ∙ sym (high_glyph (c.places.rest % c.args.base) w.if-digit-lt10.false)
    ] in
    c.in-Ok.ensures.cases.0
    ∙ after (slice_set c.places.room (c.places.at - 1) c.if-digit-lt10.room) (c.places.at - 1) (length-set c.places.room (c.places.at - 1) c.if-digit-lt10.room ∙ c.places.invariant.long)
    ∙ written_all c.args.base c.args.number c.places.at c.places.rest c.if-digit-lt10.room c.places.room c.requires c.places.invariant byte c.if-rest-eq0.true

pub returns-in-Err : goal.returns-in-Err
returns-in-Err c =
    let byte : c.if-digit-lt10.room ≡ digit_glyph false (c.places.rest % c.args.base) =
    elim c.if-digit-lt10.branch [
      | then-digit-lt10 w ↦ w.room-is ∙ sym (low_glyph (c.places.rest % c.args.base) w.if-digit-lt10.true)
      | else-digit-lt10 w ↦ w.room-is ∙ sym (high_glyph (c.places.rest % c.args.base) w.if-digit-lt10.false)
    ] in
    let all = after (slice_set c.places.room (c.places.at - 1) c.if-digit-lt10.room) (c.places.at - 1) (length-set c.places.room (c.places.at - 1) c.if-digit-lt10.room ∙ c.places.invariant.long)
    ∙ written_all c.args.base c.args.number c.places.at c.places.rest c.if-digit-lt10.room c.places.room c.requires c.places.invariant byte c.if-rest-eq0.true in
    absurd (c.in-Err.ensures.cases.0 (subst IsUtf8 (sym all) (IsUtf8-from_ascii (digits c.args.base false c.args.number) (digits_ascii c.args.base c.args.number c.requires))))
