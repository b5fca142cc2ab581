use Rattle.std.proofs.Common.{◌≡◌, ◌+◌, ◌∙◌, refl, sym, subst, arith, Some, Err}
use Rattle.std.specs.Prelude.{slice_get}
use Rattle.std.specs.Str.{IsUtf8}
use Rattle.std.proofs.lemmas.Str.{IsCharBoundary-start}
use Rattle.wat_lex.specs.tokens.ReadableTokens.{IsTokenOf}
use Rattle.wat_lexer_parser.specs.laws.Counting.{counting}
use Rattle.wat_c_records.specs.Looks.{Looks, names_of}
use Rattle.wat_c_records.specs.inside.Naming.{NameMeans, annotation_of}
use Rattle.wat_c_records.specs.inside.Steps.{Steps}
use Rattle.wat_c_records.specs.declared.answers.NotVisible.{NotVisible}
use Rattle.wat_c_records.specs.declared.looks.Step.{Step}
use Rattle.wat_c_records.proofs.Looking.{answer_past, answer_plain, answer_last, answer_other, steps_by}
use Rattle.wat_c_records.proofs.RawPlaces.{readable}
use Rattle.wat_c_records.proofs.Known.{annotation_known, tells}
use Rattle.wat_c_records.proofs.looks.step_at.Goals as goal

pub returns-in_default-clause-steps : goal.returns-in_default-clause-steps
returns-in_default-clause-steps c = λ s e are.
    let n = names_of c.args.names.now c.args.ends.now in
    let utf8 : IsUtf8 s.setting.text = subst IsUtf8 (sym e) c.utf8.text in
    subst (λ (a : NotVisible). Looks s c.args.number n (Err a)) (sym c.reason_at_end.ensures)
    (answer_past c.shown.ensures.some c.shown.ensures.one c.counting.ensures.same s utf8 c.args.rows.now c.args.why are n c.args.number
    (sym c.row_at.ensures.value ∙ c.in_default.is))

pub returns-then-row-ne16-clause-steps : goal.returns-then-row-ne16-clause-steps
returns-then-row-ne16-clause-steps c = λ s e are.
    let n = names_of c.args.names.now c.args.ends.now in
    let utf8 : IsUtf8 s.setting.text = subst IsUtf8 (sym e) c.utf8.text in
    answer_plain c.shown.ensures.some c.shown.ensures.one c.counting.ensures.same s utf8 c.args.rows.now c.args.why are n c.args.number
    c.in-Some.row (sym c.row_at.ensures.value ∙ c.in-Some.is) c.counting.ensures.plain c.if-row-ne16.true

pub returns-in_default-row_at-clause-steps : goal.returns-in_default-row_at-clause-steps
returns-in_default-row_at-clause-steps c = λ s e are.
    let n = names_of c.args.names.now c.args.ends.now in
    let utf8 : IsUtf8 s.setting.text = subst IsUtf8 (sym e) c.utf8.text in
    let code : c.in-Some.row.kind.code ≡ 16 = omega arith in
    subst (λ (a : NotVisible). Looks s c.args.number n (Err a)) (sym c.reason_at_end-in_default-row_at.ensures)
    (answer_last c.shown.ensures.some c.shown.ensures.one c.counting.ensures.same s utf8 c.args.rows.now c.args.why are n c.args.number
    c.in-Some.row (sym c.row_at.ensures.value ∙ c.in-Some.is) code (sym c.row_at-2.ensures.value ∙ c.in_default-row_at.is))

pub returns-then-word-ne9-clause-steps : goal.returns-then-word-ne9-clause-steps
returns-then-word-ne9-clause-steps c = λ s e are.
    let n = names_of c.args.names.now c.args.ends.now in
    let utf8 : IsUtf8 s.setting.text = subst IsUtf8 (sym e) c.utf8.text in
    let code : c.in-Some.row.kind.code ≡ 16 = omega arith in
    answer_other c.shown.ensures.some c.shown.ensures.one c.counting.ensures.same s utf8 c.args.rows.now c.args.why are n c.args.number
    c.in-Some.row (sym c.row_at.ensures.value ∙ c.in-Some.is) code c.in-Some-row_at.word (sym c.row_at-2.ensures.value ∙ c.in-Some-row_at.is)
    c.if-word-ne9.true

pub meaning_of-meaning-requires-clause-token : goal.meaning_of-meaning-requires-clause-token
meaning_of-meaning-requires-clause-token c =
    let s = c.requires.rows.source in
    let utf8 : IsUtf8 s.setting.text = subst IsUtf8 (sym c.requires.rows.of_text) c.utf8.text in
    let next : slice_get c.args.rows.now (c.args.number + 1) ≡ Some c.in-Some-row_at.word = sym c.row_at-2.ensures.value ∙ c.in-Some-row_at.is in
    let nine : c.in-Some-row_at.word.kind.code ≡ 9 = omega arith in
    let word = tells s.setting.text c.args.rows.now (counting s.tokens) (c.args.number + 1) c.in-Some-row_at.word c.requires.rows.are.known next in
    let same = annotation_known s.setting.text (counting s.tokens) (c.args.number + 1) c.in-Some-row_at.word word nine in
    let read = readable c.tokens.ensures.readable c.tokens.ensures.boundary s.setting 0 c.requires.rows.are.read.to s.tokens
    (c.args.number + 1) word.token utf8 (IsCharBoundary-start s.setting.text utf8) c.requires.rows.are.read.tiling word.there in
    subst (IsTokenOf c.args.text.now) (sym (c.annotation_of.ensures ∙ same)) (subst (λ x. IsTokenOf x word.token) c.requires.rows.of_text read)

pub returns-clause-steps : goal.returns-clause-steps
returns-clause-steps c = λ s e are.
    let n = names_of c.args.names.now c.args.ends.now in
    let utf8 : IsUtf8 s.setting.text = subst IsUtf8 (sym e) c.utf8.text in
    let code : c.in-Some.row.kind.code ≡ 16 = omega arith in
    let nine : c.in-Some-row_at.word.kind.code ≡ 9 = omega arith in
    let m = c.meaning_of-meaning.result in
    let means : NameMeans s.setting.text (annotation_of c.in-Some-row_at.word) n m =
    subst (λ x. NameMeans x (annotation_of c.in-Some-row_at.word) n m) (sym e) (subst (λ t. NameMeans c.args.text.now t n m) c.annotation_of.ensures
    c.meaning_of-meaning.ensures) in
    subst (λ (a : Step). Steps s c.args.number n a) (sym c.step_by.ensures)
    (steps_by c.shown.ensures.some c.shown.ensures.one c.counting.ensures.same s utf8 c.args.rows.now c.args.why are n c.args.number
    c.in-Some.row (sym c.row_at.ensures.value ∙ c.in-Some.is) code c.in-Some-row_at.word (sym c.row_at-2.ensures.value ∙ c.in-Some-row_at.is)
    nine m means m refl)
