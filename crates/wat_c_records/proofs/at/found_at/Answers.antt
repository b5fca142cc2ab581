use Rattle.std.proofs.Common.{◌∙◌, ap, subst, sym}
use Rattle.std.specs.Prelude.{Some, Ok}
use Rattle.wat_lex.specs.tokens.Setting.{Setting}
use Rattle.wat_c_records.specs.Rows.{FoundAt, found_row}
use Rattle.wat_c_records.specs.inside.OneByte.{token_alone}
use Rattle.wat_c_records.specs.declared.rows.Found.{Found}
use Rattle.wat_c_records.specs.declared.rows.TokenRow.{TokenRow}
use Rattle.wat_c_records.proofs.FoundOnce.{found_once, found_token}
use Rattle.wat_c_records.proofs.at.found_at.Goals as goal

abbrev with_token : TokenRow → Found
with_token r = record { token = r; fault = 0; found = 0; wanted = 0 }

pub returns-in-Some-clause-found : goal.returns-in-Some-clause-found
returns-in-Some-clause-found c =
    let s : Setting = record { text = c.args.text.now; flags = c.args.settings } in
    let alone = c.in-Some.ensures in
    let t = token_alone alone.byte c.args.pos in
    subst (FoundAt s c.args.pos) (ap with_token (sym alone.known)) (found_token s c.args.pos t (alone.is_at.token c.args.settings))

pub returns-in-Some-clause-one : goal.returns-in-Some-clause-one
returns-in-Some-clause-one c = λ row h.
    let s : Setting = record { text = c.args.text.now; flags = c.args.settings } in
    let alone = c.in-Some.ensures in
    let t = token_alone alone.byte c.args.pos in
    found_once c.one_answer.ensures.one s c.args.pos row (found_row c.args.pos (Ok (Some t))) h
    (found_token s c.args.pos t (alone.is_at.token c.args.settings)) ∙ ap with_token (sym alone.known)
