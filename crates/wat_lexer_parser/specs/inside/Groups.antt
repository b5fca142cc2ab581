-- What is visible after a group that is skipped, in terms of `ShownIn`. Not part of the standard.
use Rattle.std.specs.Prelude.{◌≡◌, ◌+◌, ℕ, drop, slice_get, Option, Some, None, Result, Ok, Err}
use Rattle.wat_lex.specs.declared.lexer.faults.LexFault.{LexFault}
use Rattle.wat_lex.specs.declared.lexer.kinds.Token.{Token}
use Rattle.wat_lex.specs.declared.lexer.kinds.TokenKind.TheVariants.{Annotation, RParen}
use Rattle.wat_lexer_parser.specs.declared.parser.fault.Step.TheVariants.{Skip}
use Rattle.wat_lexer_parser.specs.inside.Next.{IsPlace}
use Rattle.wat_lexer_parser.specs.inside.ShownIn.{Inside, Showing, shown_in, step_next}
use Rattle.wat_lexer_parser.specs.names.RegisteredNames.{Names}
use Rattle.wat_lexer_parser.specs.places.Source.{Source}
use Rattle.wat_lexer_parser.specs.shown.Shown.{Finding, unclosed_ending}

-- What is visible from a position inside the group opened at `paren`, with `depth` more groups open around the
-- position.
abbrev pub found_inside : Source → ℕ → ℕ → Names → Token → Finding
found_inside s p depth names paren = shown_in s.setting.text s.ending names (Inside paren depth) (drop p s.tokens)

-- `GroupEnds s p end`: `end` is the position, with its byte offset, after the group around the position `p`. It is
-- `None` if the text ends first, or the lexical error that comes first.
abbrev pub GroupEnds : Source → ℕ → Result (Option (ℕ × ℕ)) LexFault → Type 0
GroupEnds s p (Ok (Some v)) = IsPlace s v.0 v.1 × ((names : Names) (paren : Token) → found_inside s p 0 names paren ≡ shown_in s.setting.text s.ending names Showing (drop v.0 s.tokens))
GroupEnds s p (Ok None) = (names : Names) (paren : Token) → found_inside s p 0 names paren ≡ unclosed_ending None paren
GroupEnds s p (Err f) = (names : Names) (paren : Token) → found_inside s p 0 names paren ≡ unclosed_ending (Some f) paren

-- `IsPassedName s p names v`: the token at position `p` is an annotation whose group is skipped under these names, and
-- `v` is the position after that token, with its byte offset.
pub record IsPassedName (s : Source) (p : ℕ) (names : Names) (v : ℕ × ℕ) : Type 0 where
  pub name : Token
  pub there : slice_get s.tokens p ≡ Some name
  pub kind : name.kind ≡ Annotation
  pub skip : step_next s.setting.text names (slice_get s.tokens p) ≡ Skip
  pub next : v.0 ≡ p + 1
  pub place : IsPlace s v.0 v.1

-- The token at position `p`, which has the byte offset `byte`, is `)`.
pub record IsCloseAt (s : Source) (p byte : ℕ) : Type 0 where
  pub paren : Token
  pub there : slice_get s.tokens p ≡ Some paren
  pub kind : paren.kind ≡ RParen
  pub after : IsPlace s (p + 1) (byte + 1)
