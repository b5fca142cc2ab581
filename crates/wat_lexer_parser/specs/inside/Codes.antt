-- Encodings of a parser's state and its parts as values of coded types, which the trait `Model` requires.
use Rattle.std.specs.Prelude.{ℕ, Bool, List, refl, Option}
use Rattle.std.specs.Coded.{Coded, code_by, coded×, coded_ℕ, coded_bool, coded_list, coded_option}
use Rattle.std.specs.FinMap as map
use Rattle.wat_lex.specs.declared.lexer.faults.LexFault.{LexFault}
use Rattle.wat_lex.specs.declared.lexer.kinds.Token.{Token}
use Rattle.wat_lex.specs.declared.lexer.settings.Settings.{Settings}
use Rattle.wat_lex.specs.tokens.Setting.{Setting}
use Rattle.wat_lex.specs.contracts.lexer.settings.Settings as flags
use Rattle.wat_lex.specs.contracts.lexer.kinds.Token as token
use Rattle.wat_lex.specs.contracts.lexer.faults.LexFault as fault
use Rattle.wat_lexer_parser.specs.names.RegisteredNames.{Names}
use Rattle.wat_lexer_parser.specs.parser.State.{State}
use Rattle.wat_lexer_parser.specs.places.Source.{Source}

abbrev pub setting_code : Coded Setting
setting_code = code_by (List ℕ × Settings) (coded× (coded_list coded_ℕ) flags.the_row.coded) (λ s. (s.text, s.flags)) (λ p. record { text = p.0; flags = p.1 }) (λ _. refl)

abbrev pub source_code : Coded Source
source_code =
    code_by (Setting × (Bool × (List Token × Option LexFault))) (coded× setting_code (coded× coded_bool (coded× (coded_list token.the_row.coded) (coded_option fault.the_row.coded)))) (λ s. (s.setting, (s.track, (s.tokens, s.ending)))) (λ p. record { setting = p.0; track = p.1.0; tokens = p.1.1.0; ending = p.1.1.1 }) (λ _. refl)

abbrev pub state_code : Coded State
state_code =
    code_by (Source × (ℕ × (Names × ℕ))) (coded× source_code (coded× coded_ℕ (coded× (map.code (coded_list coded_ℕ) coded_ℕ) coded_ℕ))) (λ s. (s.source, (s.place, (s.names, s.depth)))) (λ p. record { source = p.0; place = p.1.0; names = p.1.1.0; depth = p.1.1.1 }) (λ _. refl)
