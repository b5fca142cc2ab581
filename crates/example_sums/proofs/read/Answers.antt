use Rattle.std.proofs.Common.{◌∙◌, sym, map, refl}
use Rattle.wat_lexer_parser.specs.lemmas.AnswerLaws.{answers_true}
use Rattle.wat_lexer_parser.specs.lemmas.SpellingLaws.{answer_is_spelled, spelled_is_answer}
use Rattle.wat_lexer_parser.specs.readings.Readings.{whole, whole_may_allocate}
use Rattle.example_sums.specs.Spelling.{plain}
use Rattle.example_sums.specs.Sums.{sum}
use Rattle.example_sums.proofs.read.Goals as goal

pub returns-clause-value : goal.returns-clause-value
returns-clause-value c = λ s h e t.
    answers_true (whole_may_allocate sum.reading s) (λ v. map (λ t. t.0) v.terms.items) (whole sum.reading s) c.parse.result
    (c.parse.ensures.value s h (e ∙ sym c.new-buffer.ensures.setting) (t ∙ sym c.new-buffer.ensures.track))

pub returns-clause-spells : goal.returns-clause-spells
returns-clause-spells c =
    let s = c.new-buffer.result in
    answer_is_spelled c.reading_is_spelling.ensures.same s (plain c.args.text.now) (whole_may_allocate sum.reading s) (λ v. map (λ t. t.0) v.terms.items) c.parse.result
    c.new-buffer.ensures.read c.new-buffer.ensures.setting c.utf8.text (c.parse.ensures.value s c.new-buffer.ensures.read refl refl)

pub returns-clause-spelled : goal.returns-clause-spelled
returns-clause-spelled c =
    let s = c.new-buffer.result in
    spelled_is_answer c.reading_is_spelling.ensures.same s (plain c.args.text.now) (whole_may_allocate sum.reading s) (λ v. map (λ t. t.0) v.terms.items) c.parse.result
    c.new-buffer.ensures.read c.new-buffer.ensures.setting (c.parse.ensures.value s c.new-buffer.ensures.read refl refl)
