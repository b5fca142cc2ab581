use Rattle.std.proofs.Common.{◌≡◌, string_bytes, take}
use Rattle.wat_tokens_output.specs.Replies.{play_text}
use Rattle.wat_tokens_output.proofs.play.reply_lines.Given as goal

abbrev pub invariant-loop-reply : goal.invariant-loop-reply
invariant-loop-reply l = string_bytes l.lines ≡ play_text (take l.reply-index l.replies)
