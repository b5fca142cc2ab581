-- WebAssembly 2.0, 6.2.2 (tokens) and 6.5.2 (control instructions): the sorts of tokens on which the formatted text
-- depends.
use Rattle.std.specs.Prelude.{ℕ, Bool, ◌||◌, ◌==◌, List, [], ◌∷◌, Option, Some, codes, bytes_eq, if◌then◌else◌}
use Rattle.std.specs.Char.{char_set_contains}
use Rattle.wat_lex.specs.grammar.Classes.{at_sign}
use Rattle.wat_lex.specs.declared.lexer.kinds.TokenKind.{TokenKind}
use Rattle.wat_lex.specs.declared.lexer.kinds.TokenKind.TheVariants.{LParen, RParen, LineComment, Keyword}
use Rattle.wat_format.specs.declared.sort.Sort.{Sort}
use Rattle.wat_format.specs.declared.sort.Sort.TheVariants.{Open, Close, Comment, Mark, At, Begins, Ends, Parts, Other}

-- The keywords that begin, end and divide a flat block, i.e. one that is not in parentheses.
abbrev pub begins_block : List ℕ → Bool
begins_block w = bytes_eq w (codes "block") || (bytes_eq w (codes "loop") || (bytes_eq w (codes "if") || (bytes_eq w (codes "try") || bytes_eq w (codes "try_table"))))

abbrev pub ends_block : List ℕ → Bool
ends_block w = bytes_eq w (codes "end") || bytes_eq w (codes "delegate")

abbrev pub parts_block : List ℕ → Bool
parts_block w = bytes_eq w (codes "else") || (bytes_eq w (codes "catch") || bytes_eq w (codes "catch_all"))

-- `sort_of_keyword before w` is the sort of a keyword. Directly after a `(`, a keyword is the head of a group, and not
-- part of a flat block.
abbrev pub sort_of_keyword : Option Sort → List ℕ → Sort
sort_of_keyword (Some Open) w = Other
sort_of_keyword before w = if begins_block w then Begins else if ends_block w then Ends else if parts_block w then Parts else Other

abbrev pub is_mark_byte : ℕ → Bool
is_mark_byte c = char_set_contains (codes ",;[]{}") c

abbrev pub sort_by_first : List ℕ → Sort
sort_by_first [] = Other
sort_by_first (c ∷ w) = if c == at_sign then At else if is_mark_byte c then Mark else Other

-- `sort_of before kind w` is the sort of a token of this kind with the lexeme `w`, after a token of the sort `before`,
-- if there is one.
abbrev pub sort_of : Option Sort → TokenKind → List ℕ → Sort
sort_of before LParen w = Open
sort_of before RParen w = Close
sort_of before LineComment w = Comment
sort_of before Keyword w = sort_of_keyword before w
sort_of before kind w = sort_by_first w
