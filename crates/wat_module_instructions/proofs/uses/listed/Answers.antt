use Rattle.std.proofs.Common.{false}
use Rattle.wat_module_tokens.specs.TokenCursor.{terminals_of}
use Rattle.wat_module_ast.specs.Grammar.{listed}
use Rattle.wat_module_instructions.proofs.Listed.{listed_on, listed_end, listed_fault}
use Rattle.wat_module_instructions.proofs.uses.listed.Goals as goal

pub tokens-preserved : goal.tokens-preserved
tokens-preserved c =
    let next = rw (c.in-Ok-Some.field-0-is) at c.in-Ok-Some.ensures.is in
    listed_on (listed c.args.word.now false (terminals_of c.args.cursor)) (listed c.args.word.now c.tokens.place.is_inside (terminals_of c.tokens.place.cursor)) (listed c.args.word.now c.in-Ok-Some.next.is_inside (terminals_of c.in-Ok-Some.next.cursor)) c.tokens.types.items next.types c.next_in_group.new.types.items c.tokens.invariant next.is next.follow

pub returns-in-Ok-None : goal.returns-in-Ok-None
returns-in-Ok-None c =
    let none = rw (c.in-Ok-None.field-0-is) at c.in-Ok-None.ensures.is in
    listed_end (listed c.args.word.now false (terminals_of c.args.cursor)) (listed c.args.word.now c.tokens.place.is_inside (terminals_of c.tokens.place.cursor)) c.tokens.types.items c.next_in_group.new.types.items (terminals_of c.tokens.place.cursor) c.tokens.invariant none.0 none.1

pub returns-in-Err : goal.returns-in-Err
returns-in-Err c =
    listed_fault (listed c.args.word.now false (terminals_of c.args.cursor)) (listed c.args.word.now c.tokens.place.is_inside (terminals_of c.tokens.place.cursor)) c.tokens.types.items c.in-Err.refusal c.tokens.invariant c.in-Err.ensures.is
