-- WebAssembly 2.0, 6.2.2 (tokens: keywords and reserved tokens) and 6.3.5 (identifiers), and the annotations proposal.
-- A run is a sequence of idchars and strings with nothing in between. Its kind is given by the first case of `RunKind`
-- that fits. Unlike in the standard, `$` alone is an identifier and `@` alone an annotation: reading its missing name
-- is an error.
use Rattle.std.specs.Prelude.{◌≡◌, ◌≢◌, ℕ, ◌==◌, ◌⊎◌, List, [], ◌∷◌, IsTrue, Option, Some, None, if◌then◌else◌, nat_le, ◌&&◌}
use Rattle.std.specs.Option.{option_map, MatchOption}
use Rattle.wat_lex.specs.grammar.Classes.{quote, dollar, at_sign, is_idchar}
use Rattle.wat_lex.specs.grammar.Strings.{Quoted as Elements}
use Rattle.wat_lex.specs.grammar.Numbers.{Number}
use Rattle.wat_lex.specs.declared.lexer.settings.Settings.{Settings}
use Rattle.wat_lex.specs.declared.lexer.kinds.TokenKind.{TokenKind}
use Rattle.wat_lex.specs.declared.lexer.kinds.TokenKind.TheVariants.{String, Id, Keyword, Annotation, Reserved}

-- An element of a run: an idchar, or a string with this value.
pub data Piece : Type 0 where
  Idchar : ℕ → Piece
  Quoted : List ℕ → Piece

-- `Run flags s ps r`: `s` is the elements `ps`, joined, and then `r`.
pub data Run : Settings → List ℕ → List Piece → List ℕ → Type 0 where
  none : {flags : Settings} {r : List ℕ} → Run flags r [] r
  idchar : {flags : Settings} {c : ℕ} {t r : List ℕ} {ps : List Piece} → IsTrue (is_idchar c) → Run flags t ps r → Run flags (c ∷ t) (Idchar c ∷ ps) r
  string : {flags : Settings} {t v m r : List ℕ} {ps : List Piece} → Elements flags t v m → Run flags m ps r → Run flags (quote ∷ t) (Quoted v ∷ ps) r

-- The characters of a run that has no string.
abbrev pub idchars : List Piece → Option (List ℕ)
idchars [] = Some []
idchars (Idchar c ∷ ps) = option_map (λ cs. c ∷ cs) (idchars ps)
idchars (Quoted v ∷ ps) = None

-- The kind that the first character gives: an identifier for `$`, an annotation for `@`, and otherwise a reserved
-- token.
abbrev pub named_kind : List ℕ → TokenKind
named_kind [] = Reserved
named_kind (c ∷ cs) = if c == dollar then Id else if c == at_sign then Annotation else Reserved

-- The kind of idchars that are not a number: a keyword if the first is `a` to `z`, and otherwise their `named_kind`.
abbrev pub kind_by_first : List ℕ → TokenKind
kind_by_first [] = Reserved
kind_by_first (c ∷ cs) = if nat_le 97 c && nat_le c 122 then Keyword else named_kind (c ∷ cs)

-- `WordKind w kind`: the kind of the idchars `w`. A numeric literal has the kind of its number, all others that of
-- their first character.
abbrev pub WordKind : List ℕ → TokenKind → Type 0
WordKind w kind = Number w kind ⊎ (((other : TokenKind) → Number w other → ⊥) × (kind ≡ kind_by_first w))

-- `RunKind ps kind`: the kind of a run with the elements `ps`, by the first case that fits. A string alone is a string.
-- One idchar and one string are an identifier after `$`, an annotation after `@`, and otherwise a reserved token.
-- Idchars alone have their `WordKind`. All other runs are reserved tokens.
abbrev pub RunKind : List Piece → TokenKind → Type 0
RunKind (Quoted v ∷ []) kind = kind ≡ String
RunKind (Idchar c ∷ Quoted v ∷ []) kind = kind ≡ named_kind (c ∷ [])
RunKind ps kind = MatchOption (idchars ps) (kind ≡ Reserved) (λ w. WordKind w kind)

-- `RunWord kind w flags`: the lexeme `w` is a run of this kind, which is not empty.
abbrev pub RunWord : TokenKind → List ℕ → Settings → Type 0
RunWord kind w flags = (ps : List Piece) × (ps ≢ []) × Run flags w ps [] × RunKind ps kind
