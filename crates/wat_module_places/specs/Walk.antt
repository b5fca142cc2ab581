-- How the code finds positions: token by token, with a stack of open groups, without parsing. A theorem (`WalkIsGrammar` in
-- `Law`) states that it finds the positions of the grammar, so nothing here has to be trusted for them.
use Rattle.std.specs.Prelude.{ℕ, Bool, true, false, List, [], ◌∷◌, ◌++◌, is_some, Option, Some, None, if◌then◌else◌}
use Rattle.wat_module_ast.specs.Grammar.{is_else, is_end, is_if, is_then, structured}
use Rattle.wat_module_ast.specs.Table.{found, mnemonics}
use Rattle.wat_module_places.specs.declared.keywords.Keyword.{Keyword}
use Rattle.wat_module_places.specs.declared.keywords.Keyword.TheVariants as keyword
use Rattle.wat_module_places.specs.declared.groups.Group as declared
use Rattle.wat_module_places.specs.declared.groups.Group.TheVariants as group
use Rattle.wat_module_tokens.specs.declared.stream.TokenCursor.{TokenCursor}
use Rattle.wat_module_tokens.specs.Terminals.{Terminal, Open, Close, Word}
use Rattle.wat_module_tokens.specs.TokenCursor.{terminals_of}

-- The keyword of a structured instruction, by its opcode.
abbrev pub block_kind : Bool → Keyword
block_kind true = keyword.If
block_kind false = keyword.Block

-- What a keyword begins, by the opcode of a structured instruction.
abbrev pub kind_by : Option ℕ → List ℕ → Keyword
kind_by (Some o) w = block_kind (is_if o)
kind_by None w = if is_then w then keyword.Then else if is_else w then keyword.Else else if is_end w then keyword.End else if is_some (found w mnemonics) then keyword.Plain else keyword.Other

-- What a keyword begins.
unfoldable pub kind : List ℕ → Keyword
kind w = kind_by (structured w) w

-- An open group: a folded plain instruction, by its position; a folded `if` whose `(then` is still to come, by its
-- position; a folded `block` or `loop`, or a folded `if` after its `(then`, whose `)` is an `end`; or any other group.
pub data Group : Type 0 where
  Operands : List Terminal → Group
  Condition : List Terminal → Group
  Ended : Group
  Unplaced : Group

-- An open group of the code.
abbrev pub group_of : declared.Group → Group
group_of (group.Operands p) = Operands (terminals_of p)
group_of (group.Condition p) = Condition (terminals_of p)
group_of group.Ended = Ended
group_of group.Unplaced = Unplaced

-- A position of the code, if there is one.
abbrev pub places_of : Option TokenCursor → List (List Terminal)
places_of (Some p) = terminals_of p ∷ []
places_of None = []

-- The positions that a keyword and its `(` give, and the open groups after them. The tokens `p` begin with the keyword.
abbrev pub opened : Keyword → List Terminal → List Group → List (List Terminal) × List Group
opened keyword.Block p gs = (p ∷ [], Ended ∷ gs)
opened keyword.If p gs = ([], Condition p ∷ gs)
opened keyword.Then p (Condition q ∷ gs) = (q ∷ [], Unplaced ∷ Ended ∷ gs)
opened keyword.Then p gs = ([], Unplaced ∷ gs)
opened keyword.Else p gs = (p ∷ [], Unplaced ∷ gs)
opened keyword.End p gs = ([], Unplaced ∷ gs)
opened keyword.Plain p gs = ([], Operands p ∷ gs)
opened keyword.Other p gs = ([], Unplaced ∷ gs)

-- The positions that a keyword without `(` gives. The tokens `p` begin with the keyword.
abbrev pub worded : Keyword → List Terminal → List (List Terminal)
worded keyword.Then p = []
worded keyword.Other p = []
worded k p = p ∷ []

-- The positions that the `)` of a group gives. The tokens `p` begin with the `)`.
abbrev pub closed : Group → List Terminal → List (List Terminal)
closed (Operands q) p = q ∷ []
closed Ended p = p ∷ []
closed g p = []

-- Returns `true` if the first token is a keyword.
abbrev pub begins_word : List Terminal → Bool
begins_word (Word w ∷ ts) = true
begins_word ts = false

-- The positions of the instructions in these tokens, inside these open groups, up to a `)` that closes none of them.
unfoldable pub walk : List Group → List Terminal → List (List Terminal)
walk gs [] = []
walk gs (Open ∷ Word w ∷ ts) = (opened (kind w) (Word w ∷ ts) gs).0 ++ walk (opened (kind w) (Word w ∷ ts) gs).1 ts
walk gs (Open ∷ ts) = walk (Unplaced ∷ gs) ts
walk [] (Close ∷ ts) = []
walk (g ∷ gs) (Close ∷ ts) = closed g (Close ∷ ts) ++ walk gs ts
walk gs (Word w ∷ ts) = worded (kind w) (Word w ∷ ts) ++ walk gs ts
walk gs (t ∷ ts) = walk gs ts
