-- The annotations proposal: the result of `Lexer::annotation` at a byte offset.
use Rattle.std.specs.Prelude.{◌≡◌, ◌≢◌, ◌⊎◌, ◌==◌, ℕ, List, drop, Option, Some, None, Result, Ok, Err}
use Rattle.wat_lex.specs.grammar.Classes.{at_sign, Begins}
use Rattle.wat_lex.specs.errors.Errors.{Report}
use Rattle.wat_lex.specs.tokens.Raw.{ErrorAt}
use Rattle.wat_lex.specs.tokens.Setting.{Setting}
use Rattle.wat_lex.specs.tokens.Tiling.{TokenAt}
use Rattle.wat_lex.specs.declared.lexer.kinds.Token.{Token}
use Rattle.wat_lex.specs.declared.lexer.kinds.TokenKind.TheVariants.{Annotation}

-- The byte at offset `p` is `@`.
abbrev pub HasAtSign : List ℕ → ℕ → Type 0
HasAtSign text p = Begins (λ b. b == at_sign) (drop p text)

-- At byte `p` there is a token of another kind.
abbrev pub IsOther : Setting → ℕ → Type 0
IsOther s p = (t : Token) × TokenAt s p t × (t.kind ≢ Annotation)

-- `AnnotationAt s p r`: if the byte at `p` is `@`, `r` is the annotation there, `None` if the token there has another
-- kind, or the error of lexing it. Otherwise `r` is `None`.
abbrev pub AnnotationAt : Setting → ℕ → Result (Option Token) (Option Report) → Type 0
AnnotationAt s p (Ok (Some t)) = HasAtSign s.text p × TokenAt s p t × (t.kind ≡ Annotation)
AnnotationAt s p (Ok None) = (HasAtSign s.text p → ⊥) ⊎ (HasAtSign s.text p × IsOther s p)
AnnotationAt s p (Err e) = HasAtSign s.text p × ErrorAt s p e
