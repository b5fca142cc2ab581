-- Skipping a group, one token at a time.
use lib.Utf8.{encode, encodes}
use Rattle.std.proofs.Common.{◌≡◌, ◌+◌, ◌-◌, ◌<◌, ◌∙◌, ◌++◌, ◌∷◌, [], ℕ, List, suc, zero, drop, get_or, get_or-drop, arith, ap, sym, subst, inl, inr, Some, None, false}
use Rattle.std.specs.Prelude.{slice_get, slice_index}
use Rattle.std.specs.Str.{IsUtf8}
use Rattle.std.proofs.lemmas.Str.{encodes-chars, IsUtf8-drop}
use Rattle.wat_lex.specs.grammar.Words.{Word}
use Rattle.wat_lex.specs.tokens.ReadableTokens.{IsTokenOf}
use Rattle.wat_lex.specs.tokens.Setting.{lenient}
use Rattle.wat_lex.specs.declared.lexer.kinds.Token.{Token}
use Rattle.wat_lex.specs.declared.lexer.kinds.TokenKind.TheVariants.{LParen, RParen}
use Rattle.wat_lexer_parser.specs.inside.Groups.{found_inside}
use Rattle.wat_lexer_parser.specs.inside.ShownIn.{Inside, Showing, shown_in, after}
use Rattle.wat_lexer_parser.specs.lemmas.Parts.{is_paren}
use Rattle.wat_lexer_parser.specs.names.RegisteredNames.{Names}
use Rattle.wat_lexer_parser.specs.places.Source.{Source}
use Rattle.wat_lexer_parser.specs.shown.Shown.{unclosed_ending}
use Rattle.wat_lexer_parser.proofs.groups.Closing.{kind_cases}
use Rattle.wat_lexer_parser.proofs.places.Comments.{drop_some, drop_none}
use Rattle.wat_lexer_parser.proofs.shown.Skipping.{after_plain}

inside_at : (s : Source) (n : Names) (o : Token) (i d : ℕ) (t : Token) → slice_get s.tokens i ≡ Some t → found_inside s i d n o ≡ shown_in s.setting.text s.ending n (after t.kind o d) (drop (i + 1) s.tokens)
unfolding shown_in
inside_at s n o i d t e = ap (shown_in s.setting.text s.ending n (Inside o d)) (drop_some s.tokens i t e)

pub inside_ends : (s : Source) (n : Names) (o : Token) (i d : ℕ) → slice_get s.tokens i ≡ None → found_inside s i d n o ≡ unclosed_ending s.ending o
unfolding shown_in
inside_ends s n o i d e = ap (shown_in s.setting.text s.ending n (Inside o d)) (drop_none s.tokens i e)

-- An opening parenthesis increases the depth.
pub inside_opens : (s : Source) (n : Names) (o : Token) (i d : ℕ) (t : Token) → slice_get s.tokens i ≡ Some t → t.kind ≡ LParen → found_inside s i d n o ≡ found_inside s (i + 1) (d + 1) n o
inside_opens s n o i d t e k =
    let f : suc d ≡ d + 1 = omega arith in
    inside_at s n o i d t e ∙ ap (λ k. shown_in s.setting.text s.ending n (after k o d) (drop (i + 1) s.tokens)) k ∙ ap (λ d. found_inside s (i + 1) d n o) f

-- A closing parenthesis decreases the depth.
pub inside_closes : (s : Source) (n : Names) (o : Token) (i d : ℕ) (t : Token) → slice_get s.tokens i ≡ Some t → t.kind ≡ RParen → 0 < d → found_inside s i d n o ≡ found_inside s (i + 1) (d - 1) n o
inside_closes s n o i zero t e k h = absurd (omega (arith, h))
inside_closes s n o i (suc d) t e k h =
    let f : d ≡ suc d - 1 = omega arith in
    inside_at s n o i (suc d) t e ∙ ap (λ k. shown_in s.setting.text s.ending n (after k o (suc d)) (drop (i + 1) s.tokens)) k ∙ ap (λ d. found_inside s (i + 1) d n o) f

-- The closing parenthesis at depth 0 ends the group.
pub inside_last : (s : Source) (n : Names) (o : Token) (i d : ℕ) (t : Token) → slice_get s.tokens i ≡ Some t → t.kind ≡ RParen → d ≡ 0 → found_inside s i d n o ≡ shown_in s.setting.text s.ending n Showing (drop (i + 1) s.tokens)
inside_last s n o i d t e k h =
    inside_at s n o i d t e ∙ ap (λ k. shown_in s.setting.text s.ending n (after k o d) (drop (i + 1) s.tokens)) k
    ∙ ap (λ d. shown_in s.setting.text s.ending n (after RParen o d) (drop (i + 1) s.tokens)) h

-- Other tokens do not change the depth.
pub inside_passes : (s : Source) (n : Names) (o : Token) (i d : ℕ) (t : Token) → slice_get s.tokens i ≡ Some t → is_paren t.kind ≡ false → found_inside s i d n o ≡ found_inside s (i + 1) d n o
inside_passes s n o i d t e k = inside_at s n o i d t e ∙ ap (λ k. shown_in s.setting.text s.ending n k (drop (i + 1) s.tokens)) (after_plain t.kind o d k)

pub no_paren : (t : Token) → (t.kind ≡ LParen → ⊥) → (t.kind ≡ RParen → ⊥) → is_paren t.kind ≡ false
no_paren t f g = elim (kind_cases t.kind) [
  | inl e ↦ absurd (f e)
  | inr h ↦ elim h [ inl e ↦ absurd (g e) | inr e ↦ e ]
]

-- The byte of a closing parenthesis.
pub close_byte : (text : List ℕ) (t : Token) → IsUtf8 text → IsTokenOf text t → t.kind ≡ RParen → slice_index text t.offset ≡ 41
unfolding encode
close_byte text t u r e =
    let bs = drop t.offset text in
    let w : r.word ≡ 41 ∷ [] = subst (λ k. Word k r.word lenient) e r.is in
    let b : bs ≡ 41 ∷ encodes r.rest = sym (encodes-chars bs (IsUtf8-drop text t.offset u r.boundary)) ∙ ap encodes (r.cut ∙ ap (λ x. x ++ r.rest) w) in
    let plus : t.offset + 0 ≡ t.offset = omega arith in
    sym (get_or-drop t.offset text 0 0 ∙ ap (λ i. get_or text i 0) plus) ∙ ap (λ x. get_or x 0 0) b
