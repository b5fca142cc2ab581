use Rattle.std.proofs.Common.{refl, None}
use Rattle.wat_tokens_output.specs.Replies.{Plays}
use Rattle.wat_tokens_args.specs.Options.{calls_of}
use Rattle.wat_tokens_run.proofs.PrintLaws.{writes_as}
use Rattle.wat_tokens_run.proofs.print.print_of.Goals as goal

pub returns-in-List-clause-printed : goal.returns-in-List-clause-printed
returns-in-List-clause-printed g c = rw c.in-List.is c.print_raw.ensures.printed

pub returns-in-Sig-clause-printed : goal.returns-in-Sig-clause-printed
returns-in-Sig-clause-printed g c = rw c.in-Sig.is c.print_shown.ensures.printed

pub returns-in-JsonList-clause-printed : goal.returns-in-JsonList-clause-printed
returns-in-JsonList-clause-printed g c = rw c.in-JsonList.is c.print_json.ensures.printed

pub returns-in-JsonSig-clause-printed : goal.returns-in-JsonSig-clause-printed
returns-in-JsonSig-clause-printed g c = rw c.in-JsonSig.is c.print_json_shown.ensures.printed

pub returns-in_ok-replies-in-Play-clause-printed :
    goal.returns-in_ok-replies-in-Play-clause-printed
returns-in_ok-replies-in-Play-clause-printed g c =
    let played = rw c.as_slice.ensures at c.in_ok-replies-in-Play.ensures in
    rw c.in-Play.is (writes_as g.W.Sink.held g.W.Sink.failure (Plays c.args.settings (calls_of c.in-Play.calls) c.args.text.now) _ _ c.deref.result.now None c.print_text.result
    (record { utf8 = c.utf8.text; short = c.requires.text; played = rw c.deref.ensures.value played; no_error = refl }) c.print_text.ensures.printed)

pub returns-in-Blank-clause-printed : goal.returns-in-Blank-clause-printed
returns-in-Blank-clause-printed g c = rw c.in-Blank.is c.print_blank.ensures.printed

pub returns-in-Types-clause-printed : goal.returns-in-Types-clause-printed
returns-in-Types-clause-printed g c = rw c.in-Types.is c.print_types.ensures.printed

pub returns-in-Module-clause-printed : goal.returns-in-Module-clause-printed
returns-in-Module-clause-printed g c = rw c.in-Module.is c.print_module.ensures.printed
