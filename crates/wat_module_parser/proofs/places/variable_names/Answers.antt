use Rattle.std.proofs.Common.{◌≡◌, ◌∙◌, ◌∷◌, ◌++◌, [], ap, map, sym}
use Rattle.std.proofs.lemmas.List.{map-append}
use Rattle.wat_module_tokens.specs.TokenCursor.{terminals_of}
use Rattle.wat_module_tokens.specs.Terminals.{terminal}
use Rattle.wat_module_parser.specs.Places.{variable_names}
use Rattle.wat_module_parser.proofs.VariableNames.{kept, last, skipped}
use Rattle.wat_module_parser.proofs.places.variable_names.Goals as goal

pub loop-token-preserved-in_ok-push : goal.loop-token-preserved-in_ok-push
loop-token-preserved-in_ok-push c =
    let before = map terminals_of c.loop-token.at.items in
    let pushed : map terminals_of c.push.new.self.items ≡ before ++ terminals_of c.in-Some.rest ∷ [] = ap (map terminals_of) c.in_ok-push.ensures.items ∙ map-append terminals_of c.loop-token.at.items (c.in-Some.rest ∷ []) in
    kept _ before (terminals_of c.loop-token.left) (terminal c.in-Some.token) (terminals_of c.in-Some.rest) c.loop-token.invariant c.in-Some.ensures (sym c.is_variable.ensures ∙ c.if-is_variable.true) ∙ ap (λ xs. xs ++ variable_names (terminals_of c.in-Some.rest)) (sym pushed)

pub loop-token-preserved : goal.loop-token-preserved
loop-token-preserved c =
    skipped _ (map terminals_of c.loop-token.at.items) (terminals_of c.loop-token.left) (terminal c.in-Some.token) (terminals_of c.in-Some.rest) c.loop-token.invariant c.in-Some.ensures (sym c.is_variable.ensures ∙ c.if-is_variable.false)

pub returns : goal.returns
returns c = sym (last _ (map terminals_of c.loop-token.at.items) (terminals_of c.loop-token.left) c.loop-token.invariant c.in_default.ensures)
