-- A formatted text as pieces: they follow each other. Except for whitespace they are those of the text, and formatting
-- them again returns the same pieces.
use Rattle.std.proofs.Common.{◌≡◌, ◌<◌, ℕ, zero, suc, Bool, true, false, List, [], ◌∷◌, ◌++◌, refl, sym, ap, ◌∙◌, inl, inr, arith, append_assoc}
use Rattle.std.specs.Prelude.{◌⊎◌, Option, Some, None, is_some, if◌then◌else◌}
use Rattle.wat_lex.specs.grammar.Classes.{line_feed}
use Rattle.wat_lex.specs.tokens.ReadableTokens.{token_text}
use Rattle.wat_lex.specs.declared.lexer.kinds.Token.{Token}
use Rattle.wat_lex.specs.declared.lexer.kinds.TokenKind.TheVariants.{Whitespace}
use Rattle.wat_format.specs.Gaps.{gap_of, gap_text}
use Rattle.wat_format.specs.Layout.{State, laid, gap_before, gap_after, line_level, after, is_white}
use Rattle.wat_format.specs.Sorts.{sort_of}
use Rattle.wat_format.specs.declared.gap.Gap.{Gap}
use Rattle.wat_format.specs.declared.gap.Gap.TheVariants.{Touching, Blanks, LineEnd, EmptyLine}
use Rattle.wat_format.specs.declared.sort.Sort.{Sort}
use Rattle.wat_format.proofs.Follows.{settled_again}
use Rattle.wat_format.proofs.Pieces.{Piece, pieces, joined}
use Rattle.wat_format.proofs.WhiteSpace.{Filled, gap_filled, settled_filled, gap_again}

-- Pieces after whitespace, which may be empty.
abbrev pub gapped : List ℕ → List Piece → List Piece
gapped [] ps = ps
gapped (c ∷ w) ps = (Whitespace, c ∷ w) ∷ ps

abbrev pub laid_pieces : State → List Piece → List Piece
laid_pieces s [] = if is_some s.before then (Whitespace, line_feed ∷ []) ∷ [] else []
laid_pieces s (p ∷ ps) =
    let y = sort_of s.before p.0 p.1 in
    let g = gap_before y s in
    let l = line_level y g s in
    if is_white p.0 then laid_pieces (record s { gap = gap_of p.1 }) ps
    else gapped (gap_text g l) (p ∷ laid_pieces (after y l s) ps)

pub bool_cases : (b : Bool) → (b ≡ true) ⊎ (b ≡ false)
bool_cases true = inl refl
bool_cases false = inr refl

pub joined_gapped : (w : List ℕ) (ps : List Piece) → joined (gapped w ps) ≡ w ++ joined ps
joined_gapped [] ps = refl
joined_gapped (c ∷ w) ps = refl

-- The joined pieces are the formatted text.
pub joined_laid : (text : List ℕ) (s : State) (ts : List Token) → joined (laid_pieces s (pieces text ts)) ≡ laid text s ts
joined_laid text s [] = elim (is_some s.before) as (λ b. joined (if b then (Whitespace, line_feed ∷ []) ∷ [] else []) ≡ (if b then line_feed ∷ [] else [])) [ true ↦ refl | false ↦ refl ]
joined_laid text s (t ∷ ts) =
    let w : List ℕ = token_text text t in
    let y : Sort = sort_of s.before t.kind w in
    let g : Gap = gap_before y s in
    let l : ℕ = line_level y g s in
    let a = joined_laid text (record s { gap = gap_of w }) ts in
    let b = joined_laid text (after y l s) ts in
    let c : joined (gapped (gap_text g l) ((t.kind, w) ∷ laid_pieces (after y l s) (pieces text ts))) ≡ (gap_text g l ++ w) ++ laid text (after y l s) ts =
    joined_gapped (gap_text g l) ((t.kind, w) ∷ laid_pieces (after y l s) (pieces text ts)) ∙ ap (λ x. gap_text g l ++ (w ++ x)) b ∙ sym (append_assoc (gap_text g l) w (laid text (after y l s) ts)) in
    elim (is_white t.kind) as (λ b. joined (if b then laid_pieces (record s { gap = gap_of w }) (pieces text ts) else gapped (gap_text g l) ((t.kind, w) ∷ laid_pieces (after y l s) (pieces text ts)))
    ≡ (if b then laid text (record s { gap = gap_of w }) ts else (gap_text g l ++ w) ++ laid text (after y l s) ts)) [ true ↦ a | false ↦ c ]

pub laid_white : (s : State) (p : Piece) (ps : List Piece) → is_white p.0 ≡ true → laid_pieces s (p ∷ ps) ≡ laid_pieces (record s { gap = gap_of p.1 }) ps
laid_white s p ps e = rw e refl

pub laid_word : (s : State) (p : Piece) (ps : List Piece) → is_white p.0 ≡ false → laid_pieces s (p ∷ ps) ≡
    (let y = sort_of s.before p.0 p.1 in let g = gap_before y s in let l = line_level y g s in gapped (gap_text g l) (p ∷ laid_pieces (after y l s) ps))
laid_word s p ps e = rw e refl

-- The pieces that are not whitespace.
abbrev pub no_white : List Piece → List Piece
no_white [] = []
no_white (p ∷ ps) = if is_white p.0 then no_white ps else p ∷ no_white ps

pub no_white_gapped : (w : List ℕ) (ps : List Piece) → no_white (gapped w ps) ≡ no_white ps
no_white_gapped [] ps = refl
no_white_gapped (c ∷ w) ps = refl

no_white_word : (p : Piece) (ps : List Piece) → is_white p.0 ≡ false → no_white (p ∷ ps) ≡ p ∷ no_white ps
no_white_word p ps e = rw e refl

no_white_white : (p : Piece) (ps : List Piece) → is_white p.0 ≡ true → no_white (p ∷ ps) ≡ no_white ps
no_white_white p ps e = rw e refl

pub words_laid : (s : State) (ps : List Piece) → no_white (laid_pieces s ps) ≡ no_white ps
words_laid s [] = elim (is_some s.before) as (λ b. no_white (if b then (Whitespace, line_feed ∷ []) ∷ [] else []) ≡ []) [ true ↦ refl | false ↦ refl ]
words_laid s (p ∷ ps) =
    let y : Sort = sort_of s.before p.0 p.1 in
    let l : ℕ = line_level y (gap_before y s) s in
    let rest : List Piece = laid_pieces (after y l s) ps in
    elim (bool_cases (is_white p.0)) [
      | inl e ↦ ap no_white (laid_white s p ps e) ∙ words_laid (record s { gap = gap_of p.1 }) ps ∙ sym (no_white_white p ps e)
      | inr e ↦ ap no_white (laid_word s p ps e) ∙ no_white_gapped (gap_text (gap_before y s) l) (p ∷ rest) ∙ no_white_word p rest e ∙ ap (λ x. p ∷ x) (words_laid (after y l s) ps) ∙ sym (no_white_word p ps e)
    ]

-- Laid out again.

gap_read : (s : State) (g : Gap) (l : ℕ) (ps : List Piece) → Filled g → laid_pieces (record s { gap = Touching }) (gapped (gap_text g l) ps) ≡ laid_pieces (record s { gap = g }) ps
gap_read s Touching l ps h = refl
gap_read s (Blanks zero) l ps h = absurd (let k : 0 < 0 = h in omega arith)
gap_read s (Blanks (suc n)) l ps h = ap (λ g. laid_pieces (record s { gap = g }) ps) (gap_again (Blanks (suc n)) l h)
gap_read s LineEnd l ps h = ap (λ g. laid_pieces (record s { gap = g }) ps) (gap_again LineEnd l h)
gap_read s EmptyLine l ps h = ap (λ g. laid_pieces (record s { gap = g }) ps) (gap_again EmptyLine l h)

before_filled : (before : Option Sort) (y : Sort) (g : Gap) → Filled g → Filled (gap_after before y g)
before_filled None y g h = tt
before_filled (Some x) y g h = settled_filled x y g h

before_again : (before : Option Sort) (y : Sort) (g : Gap) → gap_after before y (gap_after before y g) ≡ gap_after before y g
before_again None y g = refl
before_again (Some x) y g = settled_again x y g

end_again : (s : State) (b : Bool) → is_some s.before ≡ b → laid_pieces (record s { gap = Touching }) (if b then (Whitespace, line_feed ∷ []) ∷ [] else []) ≡ (if b then (Whitespace, line_feed ∷ []) ∷ [] else [])
end_again s true e = rw e refl
end_again s false e = rw e refl

pub laid_again : (s : State) (ps : List Piece) → Filled s.gap → laid_pieces (record s { gap = Touching }) (laid_pieces s ps) ≡ laid_pieces s ps
laid_again s [] h = end_again s (is_some s.before) refl
laid_again s (p ∷ ps) h =
    let y : Sort = sort_of s.before p.0 p.1 in
    let g : Gap = gap_before y s in
    let l : ℕ = line_level y g s in
    let rest : List Piece = laid_pieces (after y l s) ps in
    let out : List Piece = gapped (gap_text g l) (p ∷ rest) in
    elim (bool_cases (is_white p.0)) [
      | inl e ↦ ap (λ x. laid_pieces (record s { gap = Touching }) x) (laid_white s p ps e) ∙ laid_again (record s { gap = gap_of p.1 }) ps (gap_filled p.1) ∙ sym (laid_white s p ps e)
      | inr e ↦
          let same : gap_before y (record s { gap = g }) ≡ g = before_again s.before y s.gap in
          let step : laid_pieces (record s { gap = g }) (p ∷ rest) ≡ out =
          laid_word (record s { gap = g }) p rest e ∙ ap (λ x. gapped (gap_text x (line_level y x s)) (p ∷ laid_pieces (after y (line_level y x s) s) rest)) same
          ∙ ap (λ x. gapped (gap_text g l) (p ∷ x)) (laid_again (after y l s) ps tt) in
          ap (λ x. laid_pieces (record s { gap = Touching }) x) (laid_word s p ps e) ∙ gap_read s g l (p ∷ rest) (before_filled s.before y s.gap h) ∙ step ∙ sym (laid_word s p ps e)
    ]
