use Rattle.std.proofs.Common.{ap, ◌∙◌, sym, ◌≡◌, ◌+◌, ◌<◌, arith, string_bytes, subst}
use Rattle.std.specs.FinMap as map
use Rattle.std.proofs.lemmas.Result.{IfOk-at_ok}
use Rattle.wat_lexer_parser.specs.inside.MapEntries.{names_of}
use Rattle.wat_lexer_parser.specs.names.RegisteredNames.{IsPositive, count, fewer}
use Rattle.wat_lexer_parser.proofs.names.MapsOfTexts.{set-count, positive-insert, undo, counted}
use Rattle.wat_lexer_parser.proofs.parser.names.Names.register.Goals as goal
use Rattle.wat_lexer_parser.proofs.parser.names.Names.register.Goals.{In_ok-insert, After-set}

is_set : (c : After-set) → c.set.new.self ≡ map.insert c.args.self.now c.args.name.now (count c.args.self.now c.args.name.now + 1)
is_set c = c.set.ensures ∙ ap (λ k. map.insert c.args.self.now c.args.name.now (k + 1)) c.count-count.ensures

is_inserted : (c : In_ok-insert) → names_of c.insert.new.self.entries ≡ map.insert c.args.self.now c.args.name.now (count c.args.self.now c.args.name.now + 1)
is_inserted c =
    let key_is_name = IfOk-at_ok (λ s. string_bytes s ≡ c.args.name.now) c.in_ok-key.was c.from_str.ensures.ok in
    set-count c.self.inside.counts c.insert.new.self c.args.self.now (string_bytes c.in_ok-key.key) (c.count-count.result + 1) c.self.view_is (c.in_ok-insert.ensures.updates)
    ∙ ap (λ x. map.insert c.args.self.now x (c.count-count.result + 1)) key_is_name
    ∙ ap (λ k. map.insert c.args.self.now c.args.name.now (k + 1)) c.count-count.ensures

pub returns-in_ok-insert-clause-ok : goal.returns-in_ok-insert-clause-ok
returns-in_ok-insert-clause-ok c = is_inserted (goal.at.returns-in_ok-insert-clause-ok c).In_ok-insert

pub invariant_of-self : goal.invariant_of-self
invariant_of-self c = subst IsPositive (sym (is_inserted (goal.at.invariant_of-self c).In_ok-insert)) (positive-insert c.args.self.now c.args.name.now (count c.args.self.now c.args.name.now + 1) (omega arith) (subst IsPositive c.self.view_is c.self.invariant))

pub returns-in_ok-insert-clause-undo : goal.returns-in_ok-insert-clause-undo
returns-in_ok-insert-clause-undo c = ap (λ n. fewer n c.args.name.now) (is_inserted (goal.at.returns-in_ok-insert-clause-undo c).In_ok-insert) ∙ undo c.args.self.now c.args.name.now (subst IsPositive c.self.view_is c.self.invariant)

pub returns-in_ok-insert-clause-there : goal.returns-in_ok-insert-clause-there
returns-in_ok-insert-clause-there c = subst (λ n. 0 < count n c.args.name.now) (sym (is_inserted (goal.at.returns-in_ok-insert-clause-there c).In_ok-insert)) (counted c.args.self.now c.args.name.now (count c.args.self.now c.args.name.now + 1) (omega arith))

pub returns-then-count-gt0-clause-undo : goal.returns-then-count-gt0-clause-undo
returns-then-count-gt0-clause-undo c = ap (λ n. fewer n c.args.name.now) (is_set (goal.at.returns-then-count-gt0-clause-undo c).After-set) ∙ undo c.args.self.now c.args.name.now (subst IsPositive c.self.view_is c.self.invariant)

pub returns-then-count-gt0-clause-there : goal.returns-then-count-gt0-clause-there
returns-then-count-gt0-clause-there c = subst (λ n. 0 < count n c.args.name.now) (sym (is_set (goal.at.returns-then-count-gt0-clause-there c).After-set)) (counted c.args.self.now c.args.name.now (count c.args.self.now c.args.name.now + 1) (omega arith))
