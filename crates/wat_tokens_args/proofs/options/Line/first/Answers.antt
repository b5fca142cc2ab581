use Rattle.std.proofs.Common.{ap, sym, ◌∙◌, None, Some}
use Rattle.std.specs.Option.{option_map}
use Rattle.wat_tokens_args.specs.Arguments.{args_of}
use Rattle.wat_tokens_args.proofs.LineLaws.{first_front, first_args}
use Rattle.wat_tokens_args.proofs.options.Line.first.Goals as goal

pub returns-in-Some : goal.returns-in-Some
returns-in-Some c =
    ap Some c.as_str.ensures.value ∙ first_front c.args.kind (args_of c.args.self.now.front.now) (args_of c.args.self.now.args.now) c.in-Some.name.now (sym (ap (option_map (λ b. b.now)) c.in-Some.is) ∙ c.first.ensures)

pub returns-in_default-first : goal.returns-in_default-first
returns-in_default-first c =
    first_args c.args.kind (args_of c.args.self.now.front.now) (args_of c.args.self.now.args.now) None (sym (ap (option_map (λ b. b.now)) c.in_default.is) ∙ c.first.ensures) (sym (ap (option_map (λ b. b.now)) c.in_default-first.is) ∙ c.first-2.ensures)

pub returns : goal.returns
returns c =
    ap Some c.as_str-2.ensures.value ∙ first_args c.args.kind (args_of c.args.self.now.front.now) (args_of c.args.self.now.args.now) (Some c.in-Some-first.name.now) (sym (ap (option_map (λ b. b.now)) c.in_default.is) ∙ c.first.ensures) (sym (ap (option_map (λ b. b.now)) c.in-Some-first.is) ∙ c.first-2.ensures)
