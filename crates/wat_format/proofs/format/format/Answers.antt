use Rattle.std.proofs.Common.{◌+◌, arith, length, string_bytes, sym, ap}
use Rattle.std.proofs.lemmas.Str.{IsCharBoundary-start}
use Rattle.wat_format.proofs.Formats.{boundary_after, formats_start, formats_more, formatted, refused_at, refused_later}
use Rattle.wat_format.proofs.Laying.{few_start, lays_in}
use Rattle.wat_format.proofs.format.format.Goals as goal

pub tokens-init : goal.tokens-init
tokens-init c = record {
  boundary = rw c.with_settings-lexer.ensures.setting (IsCharBoundary-start c.args.text.now c.utf8.text);
  formats = formats_start c.with_settings-lexer.result _ _ c.new-formatter.ensures c.in_ok-out.ensures.bytes;
  few = few_start _ c.new-formatter.ensures;
  short = let e = ap length c.in_ok-out.ensures.bytes in omega arith;
}

pub tokens-preserved : goal.tokens-preserved
tokens-preserved c =
    let t = rw c.in-Ok-Some.field-0-is at c.in-Ok-Some.ensures.token in
    let same = ap (λ s. s.text) (sym c.with_settings-lexer.ensures.setting) in
    record {
      boundary = boundary_after c.with_settings-lexer.result c.tokens.pos c.in-Ok-Some.token t (rw c.in-Ok-Some.field-0-is at c.in-Ok-Some.ensures.boundary);
      formats = formats_more c.with_settings-lexer.result c.tokens.pos c.tokens.formatter c.take.new.self (string_bytes c.tokens.out) (string_bytes c.take.new.out) c.in-Ok-Some.token c.tokens.invariant.formats t
          (lays_in c.args.text.now c.with_settings-lexer.result.text c.tokens.formatter c.take.new.self c.in-Ok-Some.token (string_bytes c.tokens.out) (string_bytes c.take.new.out) same c.in_ok-take-in-Ok-Some.ensures.written);
      few = c.in_ok-take-in-Ok-Some.ensures.few;
      short = omega arith;
    }

pub returns-then-len-gt-MOST-clause-refused : goal.returns-then-len-gt-MOST-clause-refused
returns-then-len-gt-MOST-clause-refused c =
    let t = rw c.in-Ok-Some.field-0-is at c.in-Ok-Some.ensures.token in
    let same = ap (λ s. s.text) (sym c.with_settings-lexer.ensures.setting) in
    let formats = formats_more c.with_settings-lexer.result c.tokens.pos c.tokens.formatter c.take.new.self (string_bytes c.tokens.out) (string_bytes c.take.new.out) c.in-Ok-Some.token c.tokens.invariant.formats t
    (lays_in c.args.text.now c.with_settings-lexer.result.text c.tokens.formatter c.take.new.self c.in-Ok-Some.token (string_bytes c.tokens.out) (string_bytes c.take.new.out) same c.in_ok-take-in-Ok-Some.ensures.written) in
    rw (sym c.with_settings-lexer.ensures.setting) (refused_later c.with_settings-lexer.result (c.in-Ok-Some.token.offset + c.in-Ok-Some.token.len) c.take.new.self (string_bytes c.take.new.out) c.too_long.result formats (omega arith) c.too_long.ensures)

pub returns-in-Err-clause-refused : goal.returns-in-Err-clause-refused
returns-in-Err-clause-refused c = rw (sym c.with_settings-lexer.ensures.setting) (refused_at c.with_settings-lexer.result c.tokens.pos c.tokens.formatter (string_bytes c.tokens.out) c.in-Err.fault c.tokens.invariant.formats c.in-Err.ensures.fault)

pub returns-then-len-gt-MOST-2-clause-refused : goal.returns-then-len-gt-MOST-2-clause-refused
returns-then-len-gt-MOST-2-clause-refused c =
    let ends = rw c.in-Ok-None.field-0-is at c.in-Ok-None.ensures.end in
    (string_bytes c.finish.new.out, rw (sym c.with_settings-lexer.ensures.setting) (formatted c.with_settings-lexer.result c.tokens.pos c.tokens.formatter (string_bytes c.tokens.out) (string_bytes c.finish.new.out) c.tokens.invariant.formats ends c.in_ok-finish.ensures), omega arith)

pub returns-clause-formatted : goal.returns-clause-formatted
returns-clause-formatted c =
    let ends = rw c.in-Ok-None.field-0-is at c.in-Ok-None.ensures.end in
    rw (sym c.with_settings-lexer.ensures.setting) (formatted c.with_settings-lexer.result c.tokens.pos c.tokens.formatter (string_bytes c.tokens.out) (string_bytes c.finish.new.out) c.tokens.invariant.formats ends c.in_ok-finish.ensures)
