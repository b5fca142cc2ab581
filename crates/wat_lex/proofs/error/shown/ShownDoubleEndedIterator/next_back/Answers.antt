use Rattle.std.proofs.Common.{Some, None, rules, tests, arith, ap, sym, ◌∙◌, ◌∷◌, ◌++◌, [], length, length-append}
use Rattle.std.specs.Str.Iter.{chars_rest}
use Rattle.wat_lex.specs.lemmas.Lengths.{shown_tab, shown_self}
use Rattle.wat_lex.proofs.errors.ShownLines.{all_shown, found_last, last_between, last_tab, front_space, none_between}
use Rattle.wat_lex.proofs.error.shown.ShownDoubleEndedIterator.next_back.Goals as goal

pub returns-in-Some-clause-steps : goal.returns-in-Some-clause-steps
returns-in-Some-clause-steps c =
    let found = found_last _ (λ x b q k. search (rules, tests)) c.self.inside.chars c.rfind.new.self (Some c.in-Some.c) (search rules) c.in-Some.ensures.ran in
    let itself = shown_self c.in-Some.c c.in-Some.c-test.1 found.0 in
    sym c.self.view_is ∙ last_between c.self.inside.front c.self.inside.back _ _ (c.in-Some.c ∷ []) c.if-self-gt0.false
    (found.1 ∙ ap (λ s. all_shown (chars_rest c.rfind.new.self) ++ s) (sym itself))

pub returns-in-Some-clause-goes : goal.returns-in-Some-clause-goes
returns-in-Some-clause-goes c =
    let shorter = ap length (returns-in-Some-clause-steps c) ∙ length-append _ (_ ∷ []) in
    record { on = λ _. (tt, tt, omega (arith, shorter)); keeps = tt; rests = λ _. tt }

pub returns-in-Some-eq9-clause-steps : goal.returns-in-Some-eq9-clause-steps
returns-in-Some-eq9-clause-steps c =
    let found = found_last _ (λ x b q k. search (rules, tests)) c.self.inside.chars c.rfind.new.self (Some c.in-Some-eq9.field-0) (search rules) c.in-Some-eq9.ensures.ran in
    sym c.self.view_is ∙ last_tab c.self.inside.front c.self.inside.back _ _ c.if-self-gt0.false
    (found.1 ∙ ap (λ s. all_shown (chars_rest c.rfind.new.self) ++ s) (sym (shown_tab _ c.in-Some-eq9.field-0-test)))

pub returns-in-Some-eq9-clause-goes : goal.returns-in-Some-eq9-clause-goes
returns-in-Some-eq9-clause-goes c =
    let shorter = ap length (returns-in-Some-eq9-clause-steps c) ∙ length-append _ (_ ∷ []) in
    record { on = λ _. (tt, tt, omega (arith, shorter)); keeps = tt; rests = λ _. tt }

pub returns-in-None-clause-steps : goal.returns-in-None-clause-steps
returns-in-None-clause-steps c =
    let found = found_last _ (λ x b q k. search (rules, tests)) c.self.inside.chars c.rfind.new.self None (search rules) c.in-None.ensures.ran in
    sym c.self.view_is ∙ front_space c.self.inside.front c.self.inside.back _ _ c.if-self-gt0.false c.if-self-gt0-2.true found.0 found.1

pub returns-in-None-clause-goes : goal.returns-in-None-clause-goes
returns-in-None-clause-goes c =
    let shorter = ap length (returns-in-None-clause-steps c) ∙ length-append _ (_ ∷ []) in
    record { on = λ _. (tt, tt, omega (arith, shorter)); keeps = tt; rests = λ _. tt }

pub returns-in-None-2-clause-steps : goal.returns-in-None-2-clause-steps
returns-in-None-2-clause-steps c =
    let found = found_last _ (λ x b q k. search (rules, tests)) c.self.inside.chars c.rfind.new.self None (search rules) c.in-None.ensures.ran in (
      sym c.self.view_is ∙ none_between c.self.inside.front c.self.inside.back _ c.if-self-gt0-2.false c.if-self-gt0.false found.0,
      none_between c.self.inside.front c.self.inside.back _ c.if-self-gt0-2.false c.if-self-gt0.false found.1,
    )
