use Rattle.std.proofs.Common.{◌∙◌, ap, sym}
use Rattle.std.specs.Prelude.{Some, Ok}
use Rattle.wat_lex.specs.tokens.Setting.{Setting}
use Rattle.wat_c_records.specs.Rows.{found_row}
use Rattle.wat_c_records.specs.inside.OneByte.{token_alone}
use Rattle.wat_c_records.specs.declared.rows.Found.{Found}
use Rattle.wat_c_records.proofs.FoundOnce.{found_once, found_token}
use Rattle.wat_c_records.proofs.at.token_at.Goals as goal

pub returns-in-Some-clause-found : goal.returns-in-Some-clause-found
returns-in-Some-clause-found c =
    let s : Setting = record { text = c.args.text.now; flags = c.args.settings } in
    let alone = c.in-Some.ensures in
    let t = token_alone alone.byte c.args.pos in
    record { all = found_row c.args.pos (Ok (Some t)); found = found_token s c.args.pos t (alone.is_at.token c.args.settings); token = alone.known }

pub returns-in-Some-clause-one : goal.returns-in-Some-clause-one
returns-in-Some-clause-one c = λ row h.
    let s : Setting = record { text = c.args.text.now; flags = c.args.settings } in
    let alone = c.in-Some.ensures in
    let t = token_alone alone.byte c.args.pos in
    ap (λ (r : Found). r.token) (found_once c.one_answer.ensures.one s c.args.pos row (found_row c.args.pos (Ok (Some t))) h
    (found_token s c.args.pos t (alone.is_at.token c.args.settings))) ∙ sym alone.known
