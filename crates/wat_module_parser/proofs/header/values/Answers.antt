use Rattle.wat_module_tokens.specs.TokenCursor.{terminals_of}
use Rattle.wat_module_parser.proofs.Listing.{listing_start, listing_smaller, listing_on, listing_end, listing_fault}
use Rattle.wat_module_parser.proofs.header.values.Goals as goal

pub values-init : goal.values-init
values-init c = listing_start c.args.found.now (terminals_of c.args.cursor)

pub values-smaller : goal.values-smaller
values-smaller c =
    let item = rw (c.in-Ok-Some.field-0-is) at c.in-Ok-Some.ensures in
    listing_smaller (terminals_of c.values.left) (terminals_of c.in-Ok-Some.next) c.values.found c.next_value.new.found item

pub values-preserved : goal.values-preserved
values-preserved c =
    let item = rw (c.in-Ok-Some.field-0-is) at c.in-Ok-Some.ensures in
    listing_on c.args.found.now c.values.found c.next_value.new.found (terminals_of c.args.cursor) (terminals_of c.values.left) (terminals_of c.in-Ok-Some.next) c.values.invariant item

pub returns-in-Ok-None : goal.returns-in-Ok-None
returns-in-Ok-None c =
    let none = rw (c.in-Ok-None.field-0-is) at c.in-Ok-None.ensures in
    listing_end c.args.found.now c.values.found c.next_value.new.found (terminals_of c.args.cursor) (terminals_of c.values.left) c.values.invariant none.0 none.1

pub returns-in-Err : goal.returns-in-Err
returns-in-Err c = listing_fault c.args.found.now c.values.found (terminals_of c.args.cursor) (terminals_of c.values.left) c.in-Err.refusal c.values.invariant c.in-Err.ensures
