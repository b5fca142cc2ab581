-- Groups of annotations that are skipped, as a lexer finds their ends.
use Rattle.std.proofs.Common.{◌≡◌, ◌+◌, ◌∙◌, ℕ, true, false, ap, sym, Option, Some, None, Ok}
use Rattle.std.specs.Prelude.{slice_get, IfSome, if◌then◌else◌}
use Rattle.wat_lex.specs.declared.lexer.kinds.Token.{Token}
use Rattle.wat_lex.specs.declared.lexer.kinds.TokenKind.TheVariants.{LParen}
use Rattle.wat_lex.specs.tokens.Blanks.{is_marked}
use Rattle.wat_lexer_parser.specs.declared.parser.fault.Step.TheVariants.{Skip, Take}
use Rattle.wat_lexer_parser.specs.inside.Groups.{GroupEnds}
use Rattle.wat_lexer_parser.specs.inside.ShownIn.{step_kind, step_next, step_of}
use Rattle.wat_lexer_parser.specs.lemmas.Parts.{is_paren}
use Rattle.wat_lexer_parser.specs.names.RegisteredNames.{Names}
use Rattle.wat_lexer_parser.specs.places.Source.{Source}
use Rattle.wat_lexer_parser.specs.shown.Showing.{placed, shown}
use Rattle.wat_lexer_parser.proofs.shown.Groups.{inside_passes}
use Rattle.wat_lexer_parser.proofs.shown.Looks.{shown_from, shown_group}

-- The group around a position ends at the end of the group around the next one, if the token between them is not a
-- parenthesis.
pub ends_before : (s : Source) (p : ℕ) (t : Token) (found : Option (ℕ × ℕ)) → slice_get s.tokens p ≡ Some t → is_paren t.kind ≡ false → IfSome found (λ v. GroupEnds s (p + 1) (Ok (Some v))) → IfSome found (λ v. GroupEnds s p (Ok (Some v)))
ends_before s p t None there plain h = tt
ends_before s p t (Some v) there plain h = (h.0, λ n o. inside_passes s n o p 0 t there plain ∙ h.1 n o)

marked_skips : (s : Source) (n : Names) (t : Token) (u : Option Token) → t.kind ≡ LParen → is_marked s.setting.text t ≡ true → step_next s.setting.text n u ≡ Skip → step_of s.setting.text n t u ≡ Skip
marked_skips s n t u kind marked skip = ap (λ k. step_kind s.setting.text n t k u) kind ∙ ap (λ b. if b then step_next s.setting.text n u else Take) marked ∙ skip

-- The token visible at a parenthesis whose group is skipped is the one visible after the group.
pub past_marked : (s : Source) (n : Names) (p : ℕ) (t : Token) (found : Option (ℕ × ℕ)) → slice_get s.tokens p ≡ Some t → t.kind ≡ LParen → is_marked s.setting.text t ≡ true → IfSome found (λ v. step_next s.setting.text n (slice_get s.tokens (p + 1)) ≡ Skip) → IfSome found (λ v. GroupEnds s (p + 1) (Ok (Some v))) → IfSome found (λ v. shown s p n ≡ shown s v.0 n)
past_marked s n p t None there kind marked skip h = tt
past_marked s n p t (Some v) there kind marked skip h = shown_group s n p t there (marked_skips s n t (slice_get s.tokens (p + 1)) kind marked skip) ∙ ap (placed s.tokens) (h.1 n t) ∙ sym (shown_from s n v.0)
