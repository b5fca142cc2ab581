-- A case analysis on whether a kind is that of an annotation.
use Rattle.std.proofs.Common.{◌≡◌, ◌≢◌, ◌⊎◌, ◌∙◌, ℕ, List, ap, refl, inl, inr, Some, None, Ok}
use Rattle.std.specs.Prelude.{if◌then◌else◌, nat_lt, unwrap_or}
use Rattle.std.specs.FinMap.{get-empty}
use Rattle.std.specs.Cmp.Lexicographic.{slice_cmp}
use Rattle.std.specs.Ordering.{nat_cmp}
use Rattle.wat_lex.specs.tokens.ReadableTokens.{word_of}
use Rattle.wat_lex.specs.values.WordValues.{name_value}
use Rattle.wat_lex.specs.declared.lexer.faults.LexError.TheVariants.{EmptyAnnotation}
use Rattle.wat_lex.specs.declared.lexer.kinds.TokenKind.{TokenKind}
use Rattle.wat_lex.specs.declared.lexer.kinds.TokenKind.TheVariants.{LineComment, BlockComment, Whitespace, LParen, RParen, String, Id, Keyword, Annotation, Reserved, Integer, Float}
use Rattle.wat_lex.specs.declared.lexer.kinds.Token.{Token}
use Rattle.wat_lexer_parser.specs.declared.parser.fault.Step.TheVariants.{Take, Skip}
use Rattle.wat_lexer_parser.specs.inside.ShownIn.{name_at, name_by, step_named}
use Rattle.wat_lexer_parser.specs.names.RegisteredNames.{Names, no_names, is_registered}

pub is_annotation : (k : TokenKind) → (k ≡ Annotation) ⊎ (k ≢ Annotation)
is_annotation Whitespace = inr (λ e. cc)
is_annotation LineComment = inr (λ e. cc)
is_annotation BlockComment = inr (λ e. cc)
is_annotation LParen = inr (λ e. cc)
is_annotation RParen = inr (λ e. cc)
is_annotation String = inr (λ e. cc)
is_annotation Id = inr (λ e. cc)
is_annotation Keyword = inr (λ e. cc)
is_annotation Annotation = inl refl
is_annotation Reserved = inr (λ e. cc)
is_annotation (Integer k) = inr (λ e. cc)
is_annotation (Float k) = inr (λ e. cc)

pub no_name : (x : List ℕ) (u : Token) (k : TokenKind) → k ≢ Annotation → name_by k x u ≡ None
no_name x u Whitespace f = refl
no_name x u LineComment f = refl
no_name x u BlockComment f = refl
no_name x u LParen f = refl
no_name x u RParen f = refl
no_name x u String f = refl
no_name x u Id f = refl
no_name x u Keyword f = refl
no_name x u Annotation f = absurd (f refl)
no_name x u Reserved f = refl
no_name x u (Integer k) f = refl
no_name x u (Float k) f = refl

-- An annotation with a name is skipped if no name is registered.
pub skipped : (x : List ℕ) (names : Names) (u : Token) (name : List ℕ) → names ≡ no_names → u.kind ≡ Annotation → name_value EmptyAnnotation (word_of x u) ≡ Ok name → step_named names u (name_at x u) ≡ Skip
skipped x names u name none e is =
    ap (λ k. step_named names u (name_by k x u)) e ∙ ap (λ r. step_named names u (Some r)) is ∙ ap (λ n. if is_registered n name then Take else Skip) none
    ∙ ap (λ o. if nat_lt 0 (unwrap_or o 0) then Take else Skip) (get-empty (slice_cmp nat_cmp) name)
