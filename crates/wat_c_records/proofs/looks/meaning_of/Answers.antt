use Rattle.std.proofs.Common.{◌≡◌, ◌∙◌, sym, ap, subst, true, false}
use Rattle.std.specs.Cow.{cow_str_bytes}
use Rattle.wat_lex.specs.tokens.ReadableTokens.{word_of}
use Rattle.wat_lex.specs.values.Names.{NameFault}
use Rattle.wat_lex.specs.values.WordValues.{empty_name}
use Rattle.wat_lexer_parser.specs.names.RegisteredNames.{is_registered}
use Rattle.wat_c_records.specs.Looks.{names_of}
use Rattle.wat_c_records.specs.inside.Naming.{NameMeans.registered, NameMeans.other, NameMeans.misnamed, NameMeans.memory}
use Rattle.wat_c_records.proofs.looks.meaning_of.Goals as goal

pub returns-then-is_registered : goal.returns-then-is_registered
returns-then-is_registered c =
    let name = rw c.in-Ok-Ok.field-0-is at c.in-Ok-Ok.ensures.name in
    let utf8 = rw c.in-Ok-Ok.field-0-is at c.in-Ok-Ok.ensures.utf8 in
    let some = rw c.in-Ok-Ok.field-0-is at c.in-Ok-Ok.ensures.some in
    let bytes : c.as_bytes.result.now ≡ cow_str_bytes c.in-Ok-Ok.name = c.as_bytes.ensures.value ∙ c.as_str.ensures.value in
    let is = sym (ap (is_registered (names_of c.args.names.now c.args.ends.now)) bytes) ∙ sym c.is_registered.ensures ∙ c.if-is_registered.true in
    registered (record { kind = c.requires.kind; name = name; utf8 = utf8; some = some }) is

pub returns-in-Ok-Ok : goal.returns-in-Ok-Ok
returns-in-Ok-Ok c =
    let name = rw c.in-Ok-Ok.field-0-is at c.in-Ok-Ok.ensures.name in
    let utf8 = rw c.in-Ok-Ok.field-0-is at c.in-Ok-Ok.ensures.utf8 in
    let some = rw c.in-Ok-Ok.field-0-is at c.in-Ok-Ok.ensures.some in
    let bytes : c.as_bytes.result.now ≡ cow_str_bytes c.in-Ok-Ok.name = c.as_bytes.ensures.value ∙ c.as_str.ensures.value in
    let is = sym (ap (is_registered (names_of c.args.names.now c.args.ends.now)) bytes) ∙ sym c.is_registered.ensures ∙ c.if-is_registered.false in
    other (record { kind = c.requires.kind; name = name; utf8 = utf8; some = some }) is

pub returns-in-Ok-Err : goal.returns-in-Ok-Err
returns-in-Ok-Err c =
    let fault = rw c.in-Ok-Err.field-0-is at c.in-Ok-Err.ensures.fault in
    misnamed (record {
      kind = c.requires.kind;
      fault = subst (λ e. NameFault e (word_of c.args.text.now c.args.token) c.in-Ok-Err.field-0-0)
          (ap empty_name c.requires.kind) fault;
    })

pub returns : goal.returns
returns c = memory (λ plain. let e : false ≡ true = c.in-Err.ensures.free plain in cc)
