use Rattle.std.proofs.Common.{◌≡◌, ◌<◌, ◌∙◌, arith, rules, ap, sym, subst, inl, inr, length, slice_index_or, slice_set}
use Rattle.std.proofs.lemmas.Bool.{cases_eq}
use Rattle.std.proofs.lemmas.List.{get_or-set_same, get_or-set_other}
use Rattle.wat_lexer_parser.specs.declared.parser.text_ref.Row.{Row}
use Rattle.wat_lexer_parser.specs.inside.Next.{IsNext}
use Rattle.wat_lexer_parser.specs.inside.Rows.{IsRow}
use Rattle.wat_lexer_parser.specs.names.RegisteredNames.{Names, no_names}
use Rattle.wat_lexer_parser.proofs.places.Bytes.{boundary}
use Rattle.wat_lexer_parser.proofs.parser.text_ref.TextRef.fill.Goals as goal

pub loop-filled-init : goal.loop-filled-init
loop-filled-init c =
    let s = c.args.self.now in
    let at = boundary s c.args.place c.args.byte c.lemma_read.ensures.utf8 c.lemma_read.ensures.read c.requires in
    record {
      place = c.requires;
      short = omega (arith, at.0, c.lemma_read.ensures.short);
      within = search rules;
      long = search rules;
      rows = λ k none h. absurd (omega (arith, h));
      first = λ none h. absurd (omega (arith, h));
      begun = λ h. search rules;
    }

pub overflow_cast-rows : goal.overflow_cast-rows
overflow_cast-rows c =
    let next : (names : Names) → IsNext c.args.self.now c.loop-filled.i names (c.plain_at-after.result.0, c.plain_at-after.result.1) = c.plain_at-after.ensures (search rules) in
    omega (arith, (next no_names).after.short)

pub overflow_cast-rows-in-loop-filled : goal.overflow_cast-rows-in-loop-filled
overflow_cast-rows-in-loop-filled c = omega (arith, c.loop-filled.invariant.short)

pub overflow_add-pos : goal.overflow_add-pos
overflow_add-pos c =
    let next : (names : Names) → IsNext c.args.self.now c.loop-filled.i names (c.plain_at-after.result.0, c.plain_at-after.result.1) = c.plain_at-after.ensures (search rules) in
    omega (arith, (next no_names).after.short)

pub loop-filled-preserved : goal.loop-filled-preserved
loop-filled-preserved c =
    let s = c.args.self.now in
    let l = c.loop-filled in
    let next : (names : Names) → IsNext s l.i names (c.plain_at-after.result.0, c.plain_at-after.result.1) = c.plain_at-after.ensures (search rules) in
    let row : Row = record { offset = c.plain_at-after.result.0.offset; len = c.plain_at-after.result.0.len; kind = c.plain_at-after.result.0.kind; from = l.pos } in
    let room : l.filled < length l.rows = search rules in
    record {
      place = (next no_names).after.place;
      short = (next no_names).after.short;
      within = search rules;
      long = search rules;
      rows = λ k none h. elim (cases_eq k l.filled) [
        | inl e ↦
            let same : slice_index_or (slice_set l.rows l.filled row) k none ≡ row = ap (λ j. slice_index_or (slice_set l.rows l.filled row) j none) e ∙ get_or-set_same l.rows l.filled row none room in
            subst (IsRow s) (sym same) (record { place = l.i; after = c.plain_at-after.result.1; is_at = l.invariant.place; shown = next })
        | inr e ↦ subst (IsRow s) (sym (get_or-set_other l.rows l.filled k row none e)) (l.invariant.rows k none (omega (arith, h, e)))
      ];
      first = λ none h. elim (cases_eq 0 l.filled) [
        | inl e ↦
            let same : slice_index_or (slice_set l.rows l.filled row) 0 none ≡ row = ap (λ j. slice_index_or (slice_set l.rows l.filled row) j none) e ∙ get_or-set_same l.rows l.filled row none room in
            ap (λ (r : Row). r.from) same ∙ l.invariant.begun (sym e)
        | inr e ↦ ap (λ (r : Row). r.from) (get_or-set_other l.rows l.filled 0 row none e) ∙ l.invariant.first none (omega (arith, e))
      ];
      begun = λ h. absurd (omega (arith, h));
    }
