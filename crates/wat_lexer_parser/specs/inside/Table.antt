-- The contents of a buffer's table apart from the raw tokens: the name of each annotation that follows a parenthesis,
-- and the end of its group.
use Rattle.std.specs.Prelude.{◌≡◌, ◌<◌, ◌≤◌, ◌^◌, ◌+◌, ◌++◌, ◌*◌, ◌&&◌, ◌==◌, ℕ, Bool, true, false, List, [], ◌∷◌, length, drop, Option, Some, None, Result, MatchOption, slice_get, slice_set as set, get_or, option_map, unwrap_or}
use Rattle.wat_lex.specs.grammar.Classes.{quote}
use Rattle.wat_lex.specs.tokens.ReadableTokens.{IsTokenOf, word_of}
use Rattle.wat_lex.specs.values.WordValues.{name_value}
use Rattle.wat_lex.specs.values.Names.{HasNoEscape}
use Rattle.wat_lex.specs.declared.lexer.faults.LexError.{LexError}
use Rattle.wat_lex.specs.declared.lexer.faults.LexError.TheVariants.{EmptyAnnotation}
use Rattle.wat_lex.specs.declared.lexer.kinds.TokenKind.{TokenKind}
use Rattle.wat_lex.specs.declared.lexer.kinds.TokenKind.TheVariants.{LParen, Annotation}
use Rattle.wat_lex.specs.declared.lexer.kinds.Token.{Token}
use Rattle.wat_lexer_parser.specs.groups.Sorts.{Group, NoGroup, is_open}
use Rattle.wat_lexer_parser.specs.places.Source.{Source, IsRead}

-- The name of an annotation, or the error in it.
abbrev pub NameOrFault : Type 0
NameOrFault = Result (List ℕ) LexError

-- The entry for the word `w` of an annotation: `None` if the name is a substring of the text, otherwise the name or
-- its error.
abbrev pub NotedName : List ℕ → Option NameOrFault → Type 0
NotedName w None = HasNoEscape w
NotedName w (Some x) = x ≡ name_value EmptyAnnotation w

-- `new` is `old` with the entry for one more word `w`.
abbrev pub OneMoreName : List ℕ → List (Option NameOrFault) → List (Option NameOrFault) → Type 0
OneMoreName w old new = (x : Option NameOrFault) × (new ≡ old ++ x ∷ []) × NotedName w x

-- The token at position `i` is a `(`, the next one is an annotation, and `x` is its entry.
pub record HeadAt (text : List ℕ) (ts : List Token) (i : ℕ) (x : Option NameOrFault) : Type 0 where
  pub paren : Token
  pub word : Token
  pub opens : slice_get ts i ≡ Some paren
  pub next : slice_get ts (i + 1) ≡ Some word
  pub is_open : paren.kind ≡ LParen
  pub is_annotation : word.kind ≡ Annotation
  pub name : NotedName (word_of text word) x

-- The positions increase.
abbrev pub Sorted : List ℕ → Type 0
Sorted opens = (g h : ℕ) → g < h → h < length opens → get_or opens g 0 < get_or opens h 0

-- `opens` are the positions of all such parentheses, in order, and `names` are the entries of their annotations.
pub record Headed (text : List ℕ) (ts : List Token) (opens : List ℕ) (names : List (Option NameOrFault)) : Type 0 where
  pub long : length names ≡ length opens
  pub each : (g : ℕ) → g < length opens → HeadAt text ts (get_or opens g 0) (get_or names g None)
  pub all : (i : ℕ) (t u : Token) → slice_get ts i ≡ Some t → slice_get ts (i + 1) ≡ Some u → t.kind ≡ LParen → u.kind ≡ Annotation → (g : ℕ) × (g < length opens) × (get_or opens g 0 ≡ i)
  pub sorted : Sorted opens

abbrev pub annotation_at : ℕ → ℕ → Token
annotation_at offset len = record { offset = offset; len = len; kind = Annotation }

abbrev pub is_annotation : TokenKind → Bool
is_annotation Annotation = true
is_annotation kind = false

-- The second byte of the token is a quotation mark.
abbrev pub is_quoted : List ℕ → Token → Bool
is_quoted text t = unwrap_or (option_map (λ b. b == quote) (slice_get text (t.offset + 1))) false

-- The last token is a `(`, and the next one is an annotation.
abbrev pub is_head : Option Token → Token → Bool
is_head None u = false
is_head (Some t) u = is_open t.kind && is_annotation u.kind

-- The number of tokens in a block.
abbrev pub block : ℕ
block = 64

-- An index of `opens` by blocks: for each block of 64 tokens, `starts` has a number of positions that are before the
-- block, and these are the first ones of `opens`. All positions are in the blocks.
pub record Started (opens starts : List ℕ) : Type 0 where
  pub within : (b : ℕ) → b < length starts → get_or starts b 0 ≤ length opens
  pub before : (b g : ℕ) → b < length starts → g < get_or starts b 0 → get_or opens g 0 < block * b
  pub covers : (g : ℕ) → g < length opens → get_or opens g 0 < block * length starts

-- `new` is `old` with an entry `before` for each further block, up to the block of `place`.
pub record StartedUpTo (old new : List ℕ) (before place : ℕ) : Type 0 where
  pub longer : length old ≤ length new
  pub kept : (b : ℕ) → b < length old → get_or new b 0 ≡ get_or old b 0
  pub begun : (b : ℕ) → length old ≤ b → b < length new → get_or new b 0 ≡ before
  pub reached : place < block * length new

-- `found` is the index of the position `place` in `opens`, or `None` if it is not one of them.
abbrev pub Found : List ℕ → ℕ → Option ℕ → Type 0
Found opens place found = MatchOption found
    ((g : ℕ) → g < length opens → get_or opens g 0 ≡ place → ⊥)
    (λ g. (g < length opens) × (get_or opens g 0 ≡ place))

-- The group of the parenthesis at position `i` ends with the `)` at the given position, or has no end (`None`).
abbrev pub Pair : List Token → ℕ → Option ℕ → Type 0
Pair ts i None = NoGroup (drop (i + 1) ts)
Pair ts i (Some j) = (i < j) × (j < length ts) × Group (drop (i + 1) ts) (drop (j + 1) ts)

-- The token at each of these positions is a `(`.
abbrev pub Opening : List Token → List ℕ → Type 0
Opening ts opens = (g : ℕ) → g < length opens → (t : Token) × (slice_get ts (get_or opens g 0) ≡ Some t) × (t.kind ≡ LParen)

-- None of the positions is at least `i` and less than `j`.
abbrev pub FirstFrom : List ℕ → ℕ → ℕ → Type 0
FirstFrom opens i j = (g : ℕ) → g < length opens → i ≤ get_or opens g 0 → j ≤ get_or opens g 0

-- The first `passed` of the positions are less than `i`, and the others are at least `i`.
pub record Counted (opens : List ℕ) (passed i : ℕ) : Type 0 where
  pub before : (g : ℕ) → g < length opens → g < passed → get_or opens g 0 < i
  pub after : (g : ℕ) → g < length opens → passed ≤ g → i ≤ get_or opens g 0

-- The ends of groups, with `i` as the end of the group with index `g`. They are unchanged for `None`.
abbrev pub closed_at : List (Option ℕ) → Option ℕ → ℕ → List (Option ℕ)
closed_at closes None i = closes
closed_at closes (Some g) i = set closes g (Some i)

-- For each parenthesis of `opens`, `closes` has the position at which its group ends.
pub record HasGroupEnds (ts : List Token) (opens : List ℕ) (closes : List (Option ℕ)) : Type 0 where
  pub long : length closes ≡ length opens
  pub pair : (g : ℕ) → g < length opens → Pair ts (get_or opens g 0) (get_or closes g None)

-- The token at position `i` is a `(`, and the next one is the annotation `u`.
pub record HeadsAnnotation (ts : List Token) (i : ℕ) (u : Token) : Type 0 where
  pub paren : Token
  pub opens : slice_get ts i ≡ Some paren
  pub next : slice_get ts (i + 1) ≡ Some u
  pub is_open : paren.kind ≡ LParen
  pub is_annotation : u.kind ≡ Annotation

-- Each token fits the preconditions of the readers of `wat_lex`: it is a token of the text and ends before byte 2^32.
abbrev pub Readable : List ℕ → List Token → Type 0
Readable text [] = Unit {0}
Readable text (t ∷ ts) = (IsTokenOf text t × (t.offset + t.len < 2 ^ 32)) × Readable text ts

-- The tokens fit the readers, and `opens` and `names` have an entry for each annotation that follows a parenthesis.
pub record HasAnnotations (text : List ℕ) (ts : List Token) (opens : List ℕ) (names : List (Option NameOrFault)) : Type 0 where
  pub readable : Readable text ts
  pub headed : Headed text ts opens names

-- The table of a text: its annotations, the index by blocks, and the ends of groups.
pub record IsTable (s : Source) (opens : List ℕ) (names : List (Option NameOrFault)) (starts : List ℕ) (closes : List (Option ℕ)) : Type 0 where
  pub read : IsRead s
  pub noted : HasAnnotations s.setting.text s.tokens opens names
  pub started : Started opens starts
  pub paired : HasGroupEnds s.tokens opens closes
