-- The grammar of sums, over the visible tokens of a text. Not part of the standard.
use Rattle.std.specs.Prelude.{ℤ, pos, neg_ℤ, List, codes, refl}
use Rattle.wat_lexer_parser.specs.rules.Formats.{Format, and_then, choice, group, many, mapped, nothing_else, one_of}
use Rattle.wat_lexer_parser.specs.rules.FormatTypes.{a_group, an_integer, keyword, u32}

-- The negative of an unsigned 32-bit integer, after `neg`.
unfoldable pub negative : Format ℤ
negative = and_then (keyword (codes "neg")) (λ at. mapped (λ n. neg_ℤ (pos n)) u32)

-- An unsigned 32-bit integer, or a group `(neg ..)`.
unfoldable pub term : Format ℤ
term = one_of (choice an_integer (codes "u32") (mapped pos u32) (choice a_group (codes "left paren") (group negative) nothing_else))

-- A group: `sum` and its terms.
unfoldable pub sum : Format (List ℤ)
unfolding term
sum = group (and_then (keyword (codes "sum")) (λ at. many term refl))
