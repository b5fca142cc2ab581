use Rattle.std.proofs.Common.{◌∙◌, ap, sym, arith}
use Rattle.std.specs.Prelude.{slice_index}
use Rattle.wat_lexer_parser.proofs.places.Bytes.{boundary}
use Rattle.wat_lexer_parser.proofs.shown.Groups.{inside_ends, inside_opens, inside_closes, inside_last, inside_passes, close_byte, no_paren}
use Rattle.wat_lexer_parser.proofs.parser.text_ref.TextRef.past_close.Goals as goal

pub overflow_add-pos : goal.overflow_add-pos
overflow_add-pos c =
    let at = boundary c.args.self.now c.tokens.i c.tokens.pos c.lemma_read.ensures.utf8 c.lemma_read.ensures.read c.tokens.invariant.place in
    record { fits = omega (arith, at.0, c.lemma_read.ensures.short) }

pub returns-then-depth-eq0-clause-ends : goal.returns-then-depth-eq0-clause-ends
returns-then-depth-eq0-clause-ends c =
    let l = c.tokens in
    let k = c.is_close.ensures.yes c.if-is_close.true in
    (k.after, λ n o. l.invariant.same n o ∙ inside_last c.args.self.now n o l.i l.depth k.paren k.there k.kind c.if-depth-eq0.true)

pub tokens-preserved-then-is_close : goal.tokens-preserved-then-is_close
tokens-preserved-then-is_close c =
    let l = c.tokens in
    let k = c.is_close.ensures.yes c.if-is_close.true in
    record {
      place = k.after;
      on = omega (arith, l.invariant.on);
      deep = omega (arith, l.invariant.deep);
      same = λ n o. l.invariant.same n o ∙ inside_closes c.args.self.now n o l.i l.depth k.paren k.there k.kind (omega (arith, c.if-depth-eq0.false));
    }

pub tokens-preserved-in-LParen : goal.tokens-preserved-in-LParen
tokens-preserved-in-LParen c =
    let l = c.tokens in
    record {
      place = c.in-Some.ensures.next;
      on = omega (arith, l.invariant.on);
      deep = omega (arith, l.invariant.deep);
      same = λ n o. l.invariant.same n o ∙ inside_opens c.args.self.now n o l.i l.depth c.in-Some.token c.in-Some.ensures.token c.in-LParen.is;
    }

pub tokens-preserved : goal.tokens-preserved
tokens-preserved c =
    let s = c.args.self.now in
    let l = c.tokens in
    let t = c.in-Some.token in
    let plain = no_paren t c.in_default-kind.not-LParen (λ e. c.is_close.ensures.no c.if-is_close.false (ap (slice_index s.setting.text) (sym c.in-Some.ensures.at) ∙ close_byte s.setting.text t c.lemma_read.ensures.utf8 c.in-Some.ensures.reader e)) in
    record {
      place = c.in-Some.ensures.next;
      on = omega (arith, l.invariant.on);
      deep = omega (arith, l.invariant.deep);
      same = λ n o. l.invariant.same n o ∙ inside_passes s n o l.i l.depth t c.in-Some.ensures.token plain;
    }

pub returns-in_default-clause-none : goal.returns-in_default-clause-none
returns-in_default-clause-none c = λ n o. c.tokens.invariant.same n o ∙ inside_ends c.args.self.now n o c.tokens.i c.tokens.depth c.in_default.ensures.none
