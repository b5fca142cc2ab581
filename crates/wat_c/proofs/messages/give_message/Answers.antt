use Rattle.std.proofs.Common.{[], ap}
use Rattle.wat_lex.specs.errors.Errors.{rendered_fault}
use Rattle.wat_lex.specs.errors.Messages.{message}
use Rattle.wat_lex.specs.errors.Rendering.{excerpt, rendered_location}
use Rattle.wat_c.proofs.MessageBytes.{message_left}
use Rattle.wat_c.proofs.messages.give_message.Goals as goal

pub returns-then-needed-out-clause-left : goal.returns-then-needed-out-clause-left
returns-then-needed-out-clause-left c =
    message_left c.args.out.now c.write_to.new.out (rendered_fault c.new-rendered.result) (message c.args.error) (rendered_location (excerpt [] 0)) c.length.result c.location_length.result
    (ap rendered_fault c.new-rendered.ensures) c.length.ensures c.location_length.ensures c.if-needed-out.true c.write_to.ensures.bytes
