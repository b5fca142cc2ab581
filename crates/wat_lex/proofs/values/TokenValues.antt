-- That the word of a token reads as something, and as one thing: what each reader's proof cites.
use Rattle.wat_lex.proofs.values.OneValues.{one_value, one_name, one_cut}
use Rattle.wat_lex.proofs.values.SomeValues.{some_value, some_name, some_cut}

-- strings
pub ruleset string_values = (one_value, some_value)

-- identifiers and annotations
pub ruleset name_values = (one_name, some_name)

-- floating-point numbers
pub ruleset float_values = (one_cut, some_cut)
