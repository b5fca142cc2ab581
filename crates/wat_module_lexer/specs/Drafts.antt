-- The invariant of packed tokens while a text is being packed. Not part of the standard.
use Rattle.std.specs.Prelude.{◌≡◌, ◌⊎◌, ◌≤◌, ◌<◌, ◌+◌, ◌*◌, ◌-◌, ◌^◌, ℕ, suc, List, [], ◌∷◌, ◌++◌, Some, drop, length, map, slice_get}
use Rattle.std.specs.List.{Contains}
use Rattle.wat_module_tokens.specs.declared.stream.PackedU32.{PackedU32}
use Rattle.wat_module_tokens.specs.declared.stream.SideValue.{SideValue}
use Rattle.wat_module_tokens.specs.declared.stream.PackedToken.{PackedToken}
use Rattle.wat_module_tokens.specs.declared.stream.PackedToken.TheVariants as short
use Rattle.wat_module_tokens.specs.Terminals.{past, Terminal, Open, Close}
use Rattle.wat_module_tokens.specs.Tokens.{AreReadable, IsReadable, joined, kept_terminal, number_of, terminal_in, terminals_in}
use Rattle.wat_module_lexer.specs.declared.PackedTokens.{PackedTokens}
use Rattle.wat_module_lexer.specs.declared.Read.{Read}
use Rattle.wat_module_lexer.specs.declared.Read.TheVariants as read

-- `IsAtom x`: the terminal is not a parenthesis.
abbrev pub IsAtom : Terminal → Type 0
IsAtom Open = ⊥
IsAtom Close = ⊥
IsAtom x = Unit {0}

-- `IsReadAs text r x`: the encoded token `r` denotes the terminal `x`. A short token denotes it by the text only,
-- with any side table, and is not a parenthesis.
abbrev pub IsReadAs : List ℕ → Read → Terminal → Type 0
IsReadAs text read.Open x = x ≡ Open
IsReadAs text read.Close x = x ≡ Close
IsReadAs text (read.Short t) x = ((ks : List SideValue) → terminal_in text ks t ≡ x) × IsReadable text 0 t × IsAtom x
IsReadAs text (read.SideValue k) x = kept_terminal k ≡ x

-- The terminals of each packed token.
abbrev pub draft_pieces : List ℕ → PackedTokens → List (List Terminal)
draft_pieces text d = map (terminals_in text d.kept.items) d.tokens.items

-- The terminals of the packed tokens.
abbrev pub draft_terminals : List ℕ → PackedTokens → List Terminal
draft_terminals text d = joined (draft_pieces text d)

-- `IsOpen xss i inner`: the group whose `(` is the packed token of index `i` is open, and `inner` groups are open inside
-- it. Further tokens are in all of them. `xss` are the terminals of each packed token.
pub record IsOpen (xss : List (List Terminal)) (i inner : ℕ) : Type 0 where
  pub begins : slice_get xss i ≡ Some (Open ∷ [])
  pub goes_on : (more : List Terminal) → past 0 (joined (drop (suc i) xss) ++ more) ≡ past inner more

-- `AreOpen xss is`: the groups whose `(` are at the indices `is` are open, the outermost first. Each contains those
-- after it, and no other open group. `AreLinkedBut` states that no other group is open.
abbrev pub AreOpen : List (List Terminal) → List ℕ → Type 0
AreOpen xss [] = Unit {0}
AreOpen xss (i ∷ is) = IsOpen xss i (length is) × AreOpen xss is

-- `HasEnded xss i end`: the group whose `(` is at the index `i` has ended, and the packed tokens from the index `end` on
-- follow it, then any further tokens.
pub record HasEnded (xss : List (List Terminal)) (i end : ℕ) : Type 0 where
  pub within : end ≤ length xss
  pub ended : (more : List Terminal) → past 0 (joined (drop (suc i) xss) ++ more) ≡ joined (drop end xss) ++ more

-- `AreLinkedBut xss ts is`: the link of each `(` leads to the end of its group; or the group is open, its
-- index is in `is`, and its link is `u32::MAX`.
abbrev pub AreLinkedBut : List (List Terminal) → List PackedToken → List ℕ → Type 0
AreLinkedBut xss ts is = (i : ℕ) (e : PackedU32) → slice_get ts i ≡ Some (short.Open e) → (Contains is i × (number_of e ≡ 2 ^ 32 - 1)) ⊎ HasEnded xss i (number_of e)

-- `AreKeywords ts i t`: from the index `i` on, `ts` are a token and two keywords, each of less than 16 bytes, with one byte
-- between them, and no other token. `t` is the group of both.
pub record AreKeywords (ts : List PackedToken) (i : ℕ) (t : PackedToken) : Type 0 where
  pub first : PackedU32
  pub second : PackedU32
  pub n : ℕ
  pub m : ℕ
  pub long : length ts ≡ i + 3
  pub word : slice_get ts (i + 1) ≡ Some (short.Word first n)
  pub other : slice_get ts (i + 2) ≡ Some (short.Word second m)
  pub small : number_of second < 2 ^ 32
  pub few : n < 16
  pub fewer : m < 16
  pub near : number_of second ≡ number_of first + n + 1
  pub are : t ≡ short.KeywordGroup first (n * 16 + m)

-- `IsPacking text d is`: the invariant of the packed tokens `d`, with open groups at the indices `is`.
pub record IsPacking (text : List ℕ) (d : PackedTokens) (is : List ℕ) : Type 0 where
  pub readable : AreReadable text (length d.kept.items) d.tokens.items
  pub groups : AreOpen (draft_pieces text d) is
  pub linked : AreLinkedBut (draft_pieces text d) d.tokens.items is
