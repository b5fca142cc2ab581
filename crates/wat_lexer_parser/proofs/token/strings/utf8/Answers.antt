use Rattle.std.proofs.Common.{◌≡◌, ◌∙◌, sym, ap}
use Rattle.std.specs.Cow.{cow_slice_items}
use Rattle.std.specs.Str.{is_utf8}
use Rattle.std.proofs.lemmas.Str.{IsUtf8-had}
use Rattle.wat_lexer_parser.proofs.token.Utf8.{is_text, is_no_text}
use Rattle.wat_lexer_parser.proofs.token.strings.utf8.Goals as goal

pub returns-in-Ok : goal.returns-in-Ok
returns-in-Ok c =
    let k = c.in-Ok.ensures.cases in
    let i : cow_slice_items c.args.bytes ≡ c.in-Borrowed.bytes.now = ap (λ b. cow_slice_items b) c.in-Borrowed.is in
    (ap is_utf8 i ∙ is_text c.in-Borrowed.bytes.now k.1, k.0 ∙ sym i)

pub returns-in-Borrowed : goal.returns-in-Borrowed
returns-in-Borrowed c =
    let k = c.in-Err.ensures.cases in
    let i : cow_slice_items c.args.bytes ≡ c.in-Borrowed.bytes.now = ap (λ b. cow_slice_items b) c.in-Borrowed.is in
    ap is_utf8 i ∙ is_no_text c.in-Borrowed.bytes.now k.0

pub returns-in-Ok-from_utf8 : goal.returns-in-Ok-from_utf8
returns-in-Ok-from_utf8 c =
    let text = c.in-Ok-from_utf8.text in
    let j : text.bytes.items ≡ c.in-Owned.bytes.items = ap (λ v. v.items) c.in-Ok-from_utf8.ensures.ok in
    let i : cow_slice_items c.args.bytes ≡ c.in-Owned.bytes.items = ap (λ b. cow_slice_items b) c.in-Owned.is in
    (ap is_utf8 (i ∙ sym j) ∙ is_text text.bytes.items (IsUtf8-had text.bytes.items text.ok), j ∙ sym i)

pub returns : goal.returns
returns c =
    let i : cow_slice_items c.args.bytes ≡ c.in-Owned.bytes.items = ap (λ b. cow_slice_items b) c.in-Owned.is in
    ap is_utf8 i ∙ is_no_text c.in-Owned.bytes.items (λ u. let f = c.in-Err-from_utf8.ensures.succeeds u in cc)
