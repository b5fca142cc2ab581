use Rattle.std.proofs.Common.{◌≡◌, ◌∙◌, ◌≤◌, ◌<◌, ◌^◌, ◌==◌, [], ◌∷◌, ◌++◌, length, true, false, rules, ap, subst}
use Rattle.std.proofs.lemmas.Bool.{eqb-true}
use Rattle.wat_lex.specs.binary.Encoding.{ListFits, list_encoding}
use Rattle.wat_lex.specs.binary.Leb128.{unsigned_leb128}
use Rattle.wat_types.specs.Binary.{FuncFits, func_bytes, header}
use Rattle.wat_types.specs.Signatures.{signature}
use Rattle.wat_types.proofs.Bytes.{content_is, too_many, none_fit, written_is}
use Rattle.wat_types.proofs.binary.module.Goals as goal

pub returns-then-is_empty-clause-fitting : goal.returns-then-is_empty-clause-fitting
returns-then-is_empty-clause-fitting c =
    let none : (length c.args.types.now == 0) ≡ true = search rules in
    none_fit c.args.types.now (eqb-true (length c.args.types.now) 0 none)

pub returns-in_err-encode_slice-clause-too_long : goal.returns-in_err-encode_slice-clause-too_long
returns-in_err-encode_slice-clause-too_long c = λ h.
    let unfit : ¬ ListFits (λ f. FuncFits (signature f)) c.args.types.now = search rules in
    too_many c.args.types.now unfit

pub returns-in_err-encode-clause-too_long : goal.returns-in_err-encode-clause-too_long
returns-in_err-encode-clause-too_long c = λ h.
    let list : c.encode_slice.new.e.items ≡ list_encoding (λ f. func_bytes (signature f)) c.args.types.now = search rules in
    let is = list ∙ content_is c.args.types.now in
    let long : 2 ^ 32 ≤ length c.encode_slice.new.e.items = search rules in
    subst (λ bs. 2 ^ 32 ≤ length bs) is long

pub returns-clause-bytes : goal.returns-clause-bytes
returns-clause-bytes c =
    let some : (length c.args.types.now == 0) ≡ false = search rules in
    let list : c.encode_slice.new.e.items ≡ list_encoding (λ f. func_bytes (signature f)) c.args.types.now = search rules in
    let is = list ∙ content_is c.args.types.now in
    let written : c.extend_from_slice-2.new.self.items ≡ ((header ++ (0x01 ∷ [])) ++ unsigned_leb128 (length c.encode_slice.new.e.items)) ++ c.encode_slice.new.e.items = search rules in
    written_is c.args.types.now c.extend_from_slice-2.new.self.items c.encode_slice.new.e.items (λ e. let k : (length c.args.types.now == 0) ≡ true = ap (λ n. n == 0) e in cc) is written

pub returns-clause-fitting : goal.returns-clause-fitting
returns-clause-fitting c =
    let list : c.encode_slice.new.e.items ≡ list_encoding (λ f. func_bytes (signature f)) c.args.types.now = search rules in
    let is = list ∙ content_is c.args.types.now in
    let few : length c.encode_slice.new.e.items < 2 ^ 32 = search rules in
    subst (λ bs. length bs < 2 ^ 32) is few
