use Rattle.std.proofs.Common.{◌≡◌, sym, ap, ◌∙◌, rules}
use Rattle.std.specs.Prelude.{◌&&◌, nat_lt}
use Rattle.wat_tokens_args.specs.Complaints.{modes_in}
use Rattle.wat_tokens_args.specs.Options.{all_args, formats, line_parts}
use Rattle.wat_tokens_args.specs.declared.options.Verb.TheVariants as verb
use Rattle.wat_tokens_args.proofs.ComplaintLaws.{several_modes}
use Rattle.wat_tokens_args.proofs.complaint.has_several_modes.Goals as goal

pub returns-then-eq : goal.returns-then-eq
returns-then-eq c =
    let args = all_args (line_parts c.args.line) in
    let fmt : c.args.line.verb ≡ verb.Fmt = search rules in
    several_modes args c.mode.result c.is_none.result c.mode.ensures.asked c.mode.ensures.refused c.is_none.ensures ∙ sym (ap (λ v. formats v && nat_lt 1 (modes_in args)) fmt)
