use Rattle.std.proofs.Common.{◌≡◌, ◌∙◌, ◌∷◌, ◌++◌, [], ap, arith, length, map, sym}
use Rattle.std.proofs.lemmas.List.{map-append}
use Rattle.wat_module_tokens.specs.TokenCursor.{terminals_of}
use Rattle.wat_module_tokens.specs.Terminals.{past, Open}
use Rattle.wat_module_parser.specs.Reading.{starts, Before}
use Rattle.wat_module_parser.proofs.Starts.{last_start, next_start, past_is_short}
use Rattle.wat_module_parser.proofs.names.starts.Goals as goal

pub loop-inside-smaller : goal.loop-inside-smaller
loop-inside-smaller c =
    let opens : terminals_of c.loop-inside.left ≡ Open ∷ terminals_of c.in-Some.inside = c.in-Some.ensures.0 in
    let after : terminals_of c.in-Some.after ≡ past 0 (terminals_of c.in-Some.inside) = c.in-Some.ensures.1 in
    let short = past_is_short 0 (terminals_of c.in-Some.inside) in
    let shorter = ap length after in
    let longer = ap length opens in
    omega (arith, short, shorter, longer)

pub loop-inside-preserved : goal.loop-inside-preserved
loop-inside-preserved c =
    let before = map terminals_of c.loop-inside.starts.items in
    let pushed : map terminals_of c.push.new.self.items ≡ before ++ terminals_of c.in-Some.inside ∷ [] = ap (map terminals_of) c.in_ok-push.ensures.items ∙ map-append terminals_of c.loop-inside.starts.items (c.in-Some.inside ∷ []) in
    c.loop-inside.invariant ∙ ap (starts Before before) c.in-Some.ensures.0 ∙ next_start before (terminals_of c.in-Some.inside)
    ∙ ap (λ ss. starts Before ss (past 0 (terminals_of c.in-Some.inside))) (sym pushed) ∙ ap (starts Before (map terminals_of c.push.new.self.items)) (sym c.in-Some.ensures.1)

pub returns : goal.returns
returns c = sym (c.loop-inside.invariant ∙ last_start (map terminals_of c.loop-inside.starts.items) (terminals_of c.loop-inside.left) c.in_default.ensures)
