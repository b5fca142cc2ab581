use Rattle.std.proofs.Common.{◌≡◌, ◌<◌, ◌+◌, ◌∙◌, sym, arith, rules, get_or, length, true}
use Rattle.std.specs.Prelude.{slice_get}
use Rattle.wat_lex.specs.tokens.Blanks.{is_blank}
use Rattle.wat_lexer_parser.proofs.shown.Looks.{blank_passes, shown_pass}
use Rattle.wat_lexer_parser.proofs.parser.table_ref.TableRef.past_blanks.Goals as goal

pub loop-i-preserved : goal.loop-i-preserved
loop-i-preserved c =
    let t = c.index.result.now in
    let s = c.args.self.now in
    let i = c.loop-i.i in
    let h : i < length s.tokens = search rules in
    let e : t ≡ get_or s.tokens i t = search rules in
    let blank : is_blank t.kind ≡ true = sym c.is_blank.ensures ∙ c.if-is_blank.true in
    record {
      on = omega (arith, c.loop-i.invariant.on);
      same = λ names. c.loop-i.invariant.same names
          ∙ shown_pass s names i t h e (blank_passes s.setting.text names t (slice_get s.tokens (i + 1)) blank);
    }
