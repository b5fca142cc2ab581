-- The theorems about formatted texts, derived from their pieces.
use Rattle.std.proofs.Common.{◌≡◌, ◌≢◌, ◌*◌, ℕ, zero, suc, Bool, true, false, List, [], ◌∷◌, length, replicate, refl, sym, ap, ◌∙◌, subst, inl, inr, arith}
use Rattle.std.proofs.lemmas.Str.{IsCharBoundary-start}
use Rattle.std.specs.Prelude.{◌⊎◌, Option, Some, None, is_some, if◌then◌else◌}
use Rattle.std.specs.Str.{IsUtf8}
use Rattle.wat_lex.specs.grammar.Classes.{line_feed}
use Rattle.wat_lex.specs.tokens.EverySetting.{TokensEndAtBoundaries, TilingsAreUnique, EachBoundaryHasTiling}
use Rattle.wat_lex.specs.tokens.ReadableTokens.{token_text}
use Rattle.wat_lex.specs.tokens.Setting.{Setting}
use Rattle.wat_lex.specs.tokens.Tiling.{MaximalTiling}
use Rattle.wat_lex.specs.declared.lexer.faults.LexFault.{LexFault}
use Rattle.wat_lex.specs.declared.lexer.kinds.Token.{Token}
use Rattle.wat_lex.specs.declared.lexer.kinds.TokenKind.{TokenKind}
use Rattle.wat_lex.specs.declared.lexer.kinds.TokenKind.TheVariants.{Whitespace}
use Rattle.wat_format.specs.Formatting.{Formatted, Refuses}
use Rattle.wat_format.specs.Gaps.{gap_of, gap_text}
use Rattle.wat_format.specs.Laws.{EachTextIsAnswered, LayoutsAreOne, LayoutsHaveNoFault, words, EndsClean, Written, WhiteIsWritten, over, KeepsTokens, LayoutsKeepTokens, LayoutsAreUtf8, LayoutsStay}
use Rattle.wat_format.specs.Layout.{State, start, layout, is_white, gap_before, line_level, after}
use Rattle.wat_format.specs.Sorts.{sort_of}
use Rattle.wat_format.specs.declared.error.Error.TheVariants.{Fault}
use Rattle.wat_format.specs.declared.gap.Gap.{Gap}
use Rattle.wat_format.specs.declared.gap.Gap.TheVariants.{Touching, Blanks, LineEnd, EmptyLine}
use Rattle.wat_format.specs.declared.sort.Sort.{Sort}
use Rattle.wat_format.proofs.Pieces.{Piece, pieces, joined, AllLegal, utf8_joined, Cut, cut_text, placed, placed_tiling, pieces_placed}
use Rattle.wat_format.proofs.LaidPieces.{gapped, laid_pieces, bool_cases, joined_laid, no_white, words_laid, laid_again, laid_white, laid_word}
use Rattle.wat_format.proofs.LaidIsAt.{begins}
use Rattle.wat_format.proofs.Marks.{marks_laid, marks_of_text, marks_placed}

-- Spaces are not line ends.
no_feed : (n : ℕ) (back : List ℕ) → replicate n 32 ≢ line_feed ∷ back
no_feed zero back e = cc
no_feed (suc n) back e = let h : ◌≡◌ {A = ℕ} 32 line_feed = cc in omega arith

clean_blanks : (n : ℕ) → EndsClean (replicate n 32)
clean_blanks zero [] back e = cc
clean_blanks zero (c ∷ front) back e = cc
clean_blanks (suc n) [] back e = no_feed n back cc
clean_blanks (suc n) (c ∷ front) back e = clean_blanks n front back cc

clean_feed : (w : List ℕ) → EndsClean w → EndsClean (line_feed ∷ w)
clean_feed w h [] back e = let k : ◌≡◌ {A = ℕ} line_feed 32 = cc in omega arith
clean_feed w h (c ∷ front) back e = h front back cc

clean_gap : (g : Gap) (l : ℕ) → EndsClean (gap_text g l)
clean_gap Touching l = clean_blanks 0
clean_gap (Blanks n) l = clean_blanks n
clean_gap LineEnd l = clean_feed (replicate (2 * l) 32) (clean_blanks (2 * l))
clean_gap EmptyLine l = clean_feed (line_feed ∷ replicate (2 * l) 32) (clean_feed (replicate (2 * l) 32) (clean_blanks (2 * l)))

written : (g : Gap) (l : ℕ) (w : List ℕ) → w ≡ gap_text g l → Written w
written g l w e = record { gap = g; level = l; text = e; clean = subst EndsClean (sym e) (clean_gap g l) }

abbrev AllWritten : List Piece → Type 0
AllWritten [] = Unit {0}
AllWritten (p ∷ ps) = (p.0 ≡ Whitespace → Written p.1) × AllWritten ps

written_gapped : (g : Gap) (l : ℕ) (w : List ℕ) (ps : List Piece) → w ≡ gap_text g l → AllWritten ps → AllWritten (gapped w ps)
written_gapped g l [] ps e h = h
written_gapped g l (c ∷ w) ps e h = ((λ k. written g l (c ∷ w) e), h)

word_is_no_white : (kind : TokenKind) → is_white kind ≡ false → kind ≢ Whitespace
word_is_no_white kind e k = let h = subst (λ x. is_white x ≡ false) k e in absurd cc

written_end : (b : Bool) → AllWritten (if b then (Whitespace, line_feed ∷ []) ∷ [] else [])
written_end true = ((λ k. written LineEnd 0 (line_feed ∷ []) refl), tt)
written_end false = tt

written_laid : (s : State) (ps : List Piece) → AllWritten (laid_pieces s ps)
written_laid s [] = written_end (is_some s.before)
written_laid s (p ∷ ps) =
    let y : Sort = sort_of s.before p.0 p.1 in
    let g : Gap = gap_before y s in
    let l : ℕ = line_level y g s in
    let rest : List Piece = laid_pieces (after y l s) ps in
    elim (bool_cases (is_white p.0)) [
      | inl e ↦ subst AllWritten (sym (laid_white s p ps e)) (written_laid (record s { gap = gap_of p.1 }) ps)
      | inr e ↦ subst AllWritten (sym (laid_word s p ps e)) (written_gapped g l (gap_text g l) (p ∷ rest) refl ((λ k. absurd (word_is_no_white p.0 e k)), written_laid (after y l s) ps))
    ]

white_of_pieces : (text : List ℕ) (ts : List Token) → AllWritten (pieces text ts) → WhiteIsWritten text ts
white_of_pieces text [] h = tt
white_of_pieces text (t ∷ ts) h = (h.0, white_of_pieces text ts h.1)

pub words_of_pieces : (text : List ℕ) (ts : List Token) → words text ts ≡ no_white (pieces text ts)
words_of_pieces text [] = refl
words_of_pieces text (t ∷ ts) =
    let w : List ℕ = token_text text t in
    let h = words_of_pieces text ts in
    elim (is_white t.kind) as (λ b. (if b then words text ts else (t.kind, w) ∷ words text ts) ≡ (if b then no_white (pieces text ts) else (t.kind, w) ∷ no_white (pieces text ts))) [ true ↦ h | false ↦ ap (λ x. (t.kind, w) ∷ x) h ]

-- The formatted text of these tokens, as pieces.
module _ (bounds : TokensEndAtBoundaries) (s : Setting) (ts : List Token) (utf8 : IsUtf8 s.text) (m : MaximalTiling s 0 ts None) where
  abbrev answer : List ℕ
  answer = layout s.text ts

  abbrev out : List Piece
  out = laid_pieces start (pieces s.text ts)

  whole : joined out ≡ answer
  whole = joined_laid s.text start ts

  text_cut : Cut s 0 ts
  text_cut = cut_text s utf8 bounds 0 m.to ts (IsCharBoundary-start s.text utf8) m.tiling m.ends

  legal : AllLegal s.flags out
  legal = begins s.flags start (pieces s.text ts) refl text_cut.legal

  pub utf8_answer : IsUtf8 answer
  utf8_answer = subst IsUtf8 whole (utf8_joined s.flags out legal)

  pub tiling : MaximalTiling (over s answer) 0 (placed 0 out) None
  tiling = record { to = length answer; tiling = placed_tiling (over s answer) 0 out legal (sym whole) (let e = ap length whole in omega arith); ends = refl }

  pieces_of : pieces answer (placed 0 out) ≡ out
  pieces_of = pieces_placed (over s answer) 0 out (sym whole)

  pub again : answer ≡ layout answer (placed 0 out)
  again = sym whole ∙ ap joined (sym (laid_again start (pieces s.text ts) tt)) ∙ ap (λ x. joined (laid_pieces start x)) (sym pieces_of) ∙ joined_laid answer start (placed 0 out)

  keeps : KeepsTokens s ts (placed 0 out) None
  keeps = record {
    no_fault = refl;
    same = words_of_pieces answer (placed 0 out) ∙ ap no_white pieces_of ∙ words_laid start (pieces s.text ts) ∙ sym (words_of_pieces s.text ts);
    marked = marks_placed (over s answer) 0 out (sym whole) ∙ marks_laid s.flags start (pieces s.text ts) text_cut.legal
        ∙ sym (marks_of_text s utf8 bounds 0 m.to ts (IsCharBoundary-start s.text utf8) m.tiling m.ends);
    white = white_of_pieces answer (placed 0 out) (subst AllWritten (sym pieces_of) (written_laid start (pieces s.text ts)));
  }

  pub kept : TilingsAreUnique → (us : List Token) (e : Option LexFault) → MaximalTiling (over s answer) 0 us e → KeepsTokens s ts us e
  kept one us e n =
      let k = one (over s answer) 0 (placed 0 out) us None e tiling n in
      subst (λ x. KeepsTokens s ts us x) k.1 (subst (λ x. KeepsTokens s ts x None) k.0 keeps)

pub layouts_keep : TokensEndAtBoundaries → TilingsAreUnique → LayoutsKeepTokens
layouts_keep bounds one s ts us e u m n = kept bounds s ts u m one us e n

pub layouts_utf8 : TokensEndAtBoundaries → LayoutsAreUtf8
layouts_utf8 bounds s a u f = subst IsUtf8 (sym f.laid) (utf8_answer bounds s f.tokens u f.tiling)

pub layouts_stay : TokensEndAtBoundaries → LayoutsStay
layouts_stay bounds s a u f =
    subst (λ x. Formatted (over s x) x) (sym f.laid) (record { tokens = placed 0 (out bounds s f.tokens u f.tiling); tiling = tiling bounds s f.tokens u f.tiling; laid = again bounds s f.tokens u f.tiling })

answered : (s : Setting) (ts : List Token) (e : Option LexFault) → MaximalTiling s 0 ts e → ((a : List ℕ) × Formatted s a) ⊎ ((f : LexFault) × Refuses s (Fault f))
answered s ts None m = inl (layout s.text ts, record { tokens = ts; tiling = m; laid = refl })
answered s ts (Some f) m = inr (f, (ts, m))

pub each_answered : EachBoundaryHasTiling → EachTextIsAnswered
each_answered tiled s u = let h = tiled s 0 u (IsCharBoundary-start s.text u) in answered s h.0 h.1 h.2

pub layouts_one : TilingsAreUnique → LayoutsAreOne
layouts_one one s a b f g = let k = one s 0 f.tokens g.tokens None None f.tiling g.tiling in f.laid ∙ ap (λ ts. layout s.text ts) k.0 ∙ sym g.laid

pub no_fault : TilingsAreUnique → LayoutsHaveNoFault
no_fault one s a f g h = let k = one s 0 g.tokens h.0 None (Some f) g.tiling h.1 in let e = k.1 in absurd cc
