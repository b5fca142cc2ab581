-- Predicates on sorts.
use Rattle.std.specs.Prelude.{Bool, true, false}
use Rattle.wat_format.specs.declared.sort.Sort.{Sort}
use Rattle.wat_format.specs.declared.sort.Sort.TheVariants.{Open, Close, Comment, Mark, At}

abbrev pub is_open : Sort → Bool
is_open Open = true
is_open y = false

abbrev pub is_close : Sort → Bool
is_close Close = true
is_close y = false

abbrev pub is_comment : Sort → Bool
is_comment Comment = true
is_comment y = false

abbrev pub is_mark : Sort → Bool
is_mark Mark = true
is_mark y = false

-- `keeps_space_after_open sort`: whitespace between a `(` and this token is kept.
abbrev pub keeps_space_after_open : Sort → Bool
keeps_space_after_open Mark = true
keeps_space_after_open At = true
keeps_space_after_open y = false
