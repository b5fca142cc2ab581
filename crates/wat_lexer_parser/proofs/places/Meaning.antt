-- The test for significant tokens, one token at a time.
use Rattle.std.proofs.Common.{◌≡◌, ◌+◌, ◌∙◌, ℕ, Bool, true, false, drop, ap, Some, None}
use Rattle.std.specs.Prelude.{◌||◌, not, is_some, slice_get}
use Rattle.std.specs.List.{list_any}
use Rattle.wat_lex.specs.declared.lexer.faults.LexFault.{LexFault}
use Rattle.wat_lex.specs.declared.lexer.kinds.Token.{Token}
use Rattle.wat_lex.specs.tokens.Blanks.{is_blank}
use Rattle.wat_lexer_parser.specs.inside.Meaning.{is_meaningful_from}
use Rattle.wat_lexer_parser.specs.places.Source.{Source}
use Rattle.wat_lexer_parser.proofs.places.Comments.{drop_some, drop_none}

meaning_by : (s : Source) (i : ℕ) (t : Token) (b : Bool) → slice_get s.tokens i ≡ Some t → is_blank t.kind ≡ b → is_meaningful_from s i ≡ ((not b || list_any (λ t. not (is_blank t.kind)) (drop (i + 1) s.tokens)) || is_some s.ending)
meaning_by s i t b e h =
    ap (λ ts. list_any (λ t. not (is_blank t.kind)) ts || is_some s.ending) (drop_some s.tokens i t e)
    ∙ ap (λ x. (not x || list_any (λ t. not (is_blank t.kind)) (drop (i + 1) s.tokens)) || is_some s.ending) h

pub meaning_passed : (s : Source) (i : ℕ) (t : Token) → slice_get s.tokens i ≡ Some t → is_blank t.kind ≡ true → is_meaningful_from s i ≡ is_meaningful_from s (i + 1)
meaning_passed s i t e h = meaning_by s i t true e h

pub meaning_found : (s : Source) (i : ℕ) (t : Token) → slice_get s.tokens i ≡ Some t → is_blank t.kind ≡ false → is_meaningful_from s i ≡ true
meaning_found s i t e h = meaning_by s i t false e h

meaning_none : (s : Source) (i : ℕ) → slice_get s.tokens i ≡ None → is_meaningful_from s i ≡ is_some s.ending
meaning_none s i e = ap (λ ts. list_any (λ t. not (is_blank t.kind)) ts || is_some s.ending) (drop_none s.tokens i e)

pub meaning_ended : (s : Source) (i : ℕ) → slice_get s.tokens i ≡ None → s.ending ≡ None → is_meaningful_from s i ≡ false
meaning_ended s i e h = meaning_none s i e ∙ ap is_some h

pub meaning_refused : (s : Source) (i : ℕ) (f : LexFault) → slice_get s.tokens i ≡ None → s.ending ≡ Some f → is_meaningful_from s i ≡ true
meaning_refused s i f e h = meaning_none s i e ∙ ap is_some h
