use Rattle.std.proofs.Common.{◌+◌, ◌-◌, length, arith}
use Rattle.wat_lex.proofs.inside.Leads.{lead_in_block, block_is_leadless, end_is_leadless}
use Rattle.wat_lex.proofs.lexer.scan.comments.first_lead.Goals as goal

pub returns-then-found-ne0 : goal.returns-then-found-ne0
returns-then-found-ne0 c =
    let i = c.loop-i.i in
    lead_in_block c.args.text.now i i _ c.loop-i.invariant.before (omega arith) (omega arith) c.confusing_leads-found.ensures c.if-found-ne0.true

pub loop-i-preserved : goal.loop-i-preserved
loop-i-preserved c =
    let i = c.loop-i.i in
    record {
      range = omega arith;
      before = block_is_leadless c.args.text.now i i _ c.loop-i.invariant.before (omega arith) c.confusing_leads-found.ensures c.if-found-ne0.false;
    }

pub returns-then-found-eq0 : goal.returns-then-found-eq0
returns-then-found-eq0 c =
    let text = c.args.text.now in
    let last = length text - 18 in
    let clear = block_is_leadless text c.loop-i.i last _ c.loop-i.invariant.before (omega arith) c.confusing_leads-found-2.ensures c.if-found-eq0.true in
    end_is_leadless text (last + 16) clear (omega arith)

pub returns : goal.returns
returns c =
    let text = c.args.text.now in
    lead_in_block text c.loop-i.i (length text - 18) _ c.loop-i.invariant.before (omega arith) (omega arith) c.confusing_leads-found-2.ensures c.if-found-eq0.false
