-- The pieces of a formatted text follow each other.
use Rattle.std.proofs.Common.{◌≡◌, ◌≢◌, ◌<◌, ℕ, zero, suc, Bool, true, false, eqb, ◌*◌, List, [], ◌∷◌, ◌++◌, replicate, refl, sym, ap, ◌∙◌, subst, inl, inr, arith}
use Rattle.std.proofs.lemmas.Bool.{false≢true}
use Rattle.std.proofs.lemmas.Bool.Decides.{nat_tests}
use Rattle.std.proofs.lemmas.Str.{encodes-chars, chars-nil, encode_ascii, IsUtf8-append, IsUtf8-nil}
use Rattle.std.specs.Prelude.{IsTrue, Option, Some, None, encode_utf8_all}
use Rattle.std.specs.Str.{IsUtf8, chars}
use Rattle.wat_lex.specs.grammar.Classes.{Begins, Each, is_line_end, is_run_char, is_whitespace, line_feed, semicolon, close_paren}
use Rattle.wat_lex.specs.grammar.Words.{Word, MayFollow}
use Rattle.wat_lex.specs.declared.lexer.kinds.TokenKind.{TokenKind}
use Rattle.wat_lex.specs.declared.lexer.kinds.TokenKind.TheVariants.{LineComment, BlockComment, Whitespace, LParen, RParen, String, Id, Keyword, Annotation, Reserved, Integer, Float}
use Rattle.wat_lex.specs.declared.lexer.settings.Settings.{Settings}
use Rattle.wat_format.specs.Gaps.{gap_of, gap_text, is_break, settled}
use Rattle.wat_format.specs.Layout.{State, gap_before, gap_after, line_level, after, is_white}
use Rattle.wat_format.specs.Sorts.{sort_of, sort_by_first}
use Rattle.wat_format.specs.declared.gap.Gap.{Gap}
use Rattle.wat_format.specs.declared.gap.Gap.TheVariants.{Touching, Blanks, LineEnd, EmptyLine}
use Rattle.wat_format.specs.declared.sort.Sort.{Sort}
use Rattle.wat_format.specs.declared.sort.Sort.TheVariants.{Open, Close, Comment}
use Rattle.wat_format.proofs.FirstCharacters.{IsFirst, First, first_of_word, first_is_no_white}
use Rattle.wat_format.proofs.Follows.{ends_words, feed_ends_words, same_first, NoSemicolon, NoComment, Touches, touches, breaks_after, kind_of_open, kind_of_close}
use Rattle.wat_format.proofs.Pieces.{Piece, joined, IsAt, AllLegal, utf8_joined, chars_append}
use Rattle.wat_format.proofs.WhiteSpace.{white_utf8, white_chars, white_bytes, each_gap, Filled, gap_filled, settled_filled, white_is_apart, breaks, line_end_cases}
use Rattle.wat_format.proofs.LaidPieces.{gapped, laid_pieces, bool_cases, laid_white, laid_word}

run_no_semicolon : (c : ℕ) → IsTrue (is_run_char c) → eqb c semicolon ≡ false
run_no_semicolon c h = elim (bool_cases (eqb c semicolon)) [
  | inl e ↦ absurd (false≢true (subst (λ x. is_run_char x ≡ true) (let k : c ≡ 59 = grind (arith, nat_tests) in k) h))
  | inr e ↦ e
]

of_char : (c d : ℕ) → c ≡ d → eqb d semicolon ≡ false → eqb c semicolon ≡ false
of_char c d e h = subst (λ x. eqb x semicolon ≡ false) (sym e) h

-- a reserved character by which no comment begins
mark_no_semicolon : (bytes : List ℕ) (c : ℕ) → IsUtf8 bytes → chars bytes ≡ c ∷ [] → NoSemicolon (sort_by_first bytes) → eqb c semicolon ≡ false
mark_no_semicolon bytes c u e n = elim (bool_cases (eqb c semicolon)) [
  | inl k ↦
      let i : c ≡ 59 = grind (arith, nat_tests) in
      let b : bytes ≡ 59 ∷ [] = sym (encodes-chars bytes u) ∙ ap encode_utf8_all (e ∙ ap (λ x. x ∷ []) i) ∙ ap (λ x. x ++ []) (encode_ascii 59 (omega arith)) in
      absurd (subst (λ x. NoSemicolon (sort_by_first x)) b n)
  | inr k ↦ k
]

no_semicolon : (before : Option Sort) (kind : TokenKind) (bytes : List ℕ) (c : ℕ) → IsUtf8 bytes → IsFirst kind (chars bytes) c → NoSemicolon (sort_of before kind bytes) → eqb c semicolon ≡ false
no_semicolon before LineComment bytes c u h n = absurd n
no_semicolon before BlockComment bytes c u h n = of_char c 40 h refl
no_semicolon before Whitespace bytes c u h n = absurd h
no_semicolon before LParen bytes c u h n = of_char c 40 h refl
no_semicolon before RParen bytes c u h n = of_char c 41 h.0 refl
no_semicolon before Reserved bytes c u (inl h) n = mark_no_semicolon bytes c u h.0 n
no_semicolon before Reserved bytes c u (inr h) n = run_no_semicolon c h
no_semicolon before String bytes c u h n = run_no_semicolon c h
no_semicolon before Id bytes c u h n = run_no_semicolon c h
no_semicolon before Keyword bytes c u h n = run_no_semicolon c h
no_semicolon before Annotation bytes c u h n = run_no_semicolon c h
no_semicolon before (Integer i) bytes c u h n = run_no_semicolon c h
no_semicolon before (Float f) bytes c u h n = run_no_semicolon c h

-- A token that touches the one before it.
touching_follows : (kind : TokenKind) (w r r' : List ℕ) (c : ℕ) (x y : Sort) (g : Gap) → is_white kind ≡ false → (g ≡ Touching → MayFollow kind w (c ∷ r)) → (x ≡ Open → kind ≡ LParen) → (NoComment x → kind ≢ LineComment) → (NoSemicolon y → eqb c semicolon ≡ false)
    → (y ≡ Close → c ≡ close_paren) → Touches x y g → MayFollow kind w (c ∷ r')
touching_follows kind w r r' c x y g e direct opens comment semi close Touches.stayed = same_first kind w r r' c (direct refl)
touching_follows kind w r r' c x y g e direct opens comment semi close (Touches.opened n) =
    subst (λ k. MayFollow k w (c ∷ r')) (sym (opens refl)) (λ h. false≢true (sym (semi n) ∙ h))
touching_follows kind w r r' c x y g e direct opens comment semi close (Touches.closed n) =
    subst (λ d. MayFollow kind w (d ∷ r')) (sym (close refl)) (ends_words kind w r' close_paren e (comment n) (record { no_run = refl; no_semicolon = refl }))

-- The piece before, which is not whitespace.
pub record After (x : Piece) (s : State) : Type 0 where
  pub before : Option Sort
  pub sort : s.before ≡ Some (sort_of before x.0 x.1)
  pub word : is_white x.0 ≡ false
  pub filled : Filled s.gap

-- The pieces from here may follow it directly, or after whitespace between them.
pub data Prior : Piece → State → List Piece → Type 0 where
  direct : {x : Piece} {s : State} {ps : List Piece} → s.gap ≡ Touching → MayFollow x.0 (chars x.1) (chars (joined ps)) → Prior x s ps
  apart : {x : Piece} {s : State} {ps : List Piece} → (s.gap ≡ Touching → ⊥) → (x.0 ≡ LineComment → is_break s.gap ≡ true) → (Begins is_whitespace (chars (joined ps)) → ⊥) → Prior x s ps

pub white_is_at : (flags : Settings) (c : ℕ) (w rest : List ℕ) → Each is_whitespace (c ∷ w) → (Begins is_whitespace (chars rest) → ⊥) → IsAt flags Whitespace (c ∷ w) rest
white_is_at flags c w rest h n =
    let e = white_chars (c ∷ w) h in
    record {
      utf8 = white_utf8 (c ∷ w) h;
      word = subst (λ x. Word Whitespace x flags) (sym e) ((λ k. cc), h);
      ends = n;
    }

pub gapped_legal : (flags : Settings) (w : List ℕ) (ps : List Piece) → Each is_whitespace w → AllLegal flags ps → (Begins is_whitespace (chars (joined ps)) → ⊥) → AllLegal flags (gapped w ps)
gapped_legal flags [] ps h a n = a
gapped_legal flags (c ∷ w) ps h a n = (white_is_at flags c w (joined ps) h n, a)

nothing_begins : (p : ℕ → Bool) → Begins p (chars []) → ⊥
nothing_begins p h = subst (λ x. Begins p x) chars-nil h

-- the characters after a white one
pub after_white : (c : ℕ) (bs : List ℕ) → IsTrue (is_whitespace c) → IsUtf8 bs → chars (c ∷ bs) ≡ c ∷ chars bs
after_white c bs h u = chars_append (c ∷ []) bs (white_utf8 (c ∷ []) (h, tt)) u ∙ ap (λ x. x ++ chars bs) (white_chars (c ∷ []) (h, tt))

last_is_at : (flags : Settings) → AllLegal flags ((Whitespace, line_feed ∷ []) ∷ [])
last_is_at flags = (white_is_at flags line_feed [] [] (refl, tt) (nothing_begins is_whitespace), tt)

pub laid_end : (s : State) (x : Sort) → s.before ≡ Some x → laid_pieces s [] ≡ (Whitespace, line_feed ∷ []) ∷ []
laid_end s x e = rw e refl

pub line_end_is_white : (c : ℕ) → IsTrue (is_line_end c) → IsTrue (is_whitespace c)
line_end_is_white c h = elim (line_end_cases c h) [ inl e ↦ subst (λ x. is_whitespace x ≡ true) (sym e) refl | inr e ↦ subst (λ x. is_whitespace x ≡ true) (sym e) refl ]

-- The text that is written for a token `p` after the token `x`, if these pieces follow it in the text, and those in the
-- formatted text.
module _ (flags : Settings) (x p : Piece) (ps rest : List Piece) (s : State) (b : After x s) (legal : IsAt flags p.0 p.1 (joined ps)) (word : is_white p.0 ≡ false) (all : AllLegal flags ps) (all' : AllLegal flags rest) (ends : MayFollow p.0 (chars p.1) (chars (joined rest))) where
  abbrev f : First p.0 (chars p.1)
  f = first_of_word p.0 (chars p.1) flags word legal.word

  abbrev sx : Sort
  sx = sort_of b.before x.0 x.1

  abbrev y : Sort
  y = sort_of s.before p.0 p.1

  abbrev all_p : AllLegal flags (p ∷ rest)
  all_p = (record { utf8 = legal.utf8; word = legal.word; ends = ends }, all')

  chars_p : (qs : List Piece) → IsUtf8 (joined qs) → chars (joined (p ∷ qs)) ≡ f.char ∷ (f.others ++ chars (joined qs))
  chars_p qs u = chars_append p.1 (joined qs) legal.utf8 u ∙ ap (λ z. z ++ chars (joined qs)) f.cut

  no_white_p : (qs : List Piece) → IsUtf8 (joined qs) → Begins is_whitespace (chars (joined (p ∷ qs))) → ⊥
  no_white_p qs u h = first_is_no_white p.0 (chars p.1) f.char f.is (subst (λ z. Begins is_whitespace z) (chars_p qs u) h)

  no_end : (MayFollow LineComment (chars x.1) (chars (joined (p ∷ ps)))) → ⊥
  no_end (inl e) = let k = chars_p ps (utf8_joined flags ps all) in cc
  no_end (inr h) = first_is_no_white p.0 (chars p.1) f.char f.is (line_end_is_white f.char (subst (λ z. Begins is_line_end z) (chars_p ps (utf8_joined flags ps all)) h))

  break_after : Prior x s (p ∷ ps) → x.0 ≡ LineComment → is_break s.gap ≡ true
  break_after (Prior.direct e m) k = absurd (no_end (subst (λ z. MayFollow z (chars x.1) (chars (joined (p ∷ ps)))) k m))
  break_after (Prior.apart n c w) k = c k

  touched : Prior x s (p ∷ ps) → s.gap ≡ Touching → MayFollow x.0 (chars x.1) (f.char ∷ (f.others ++ chars (joined ps)))
  touched (Prior.direct e m) k = subst (λ z. MayFollow x.0 (chars x.1) z) (chars_p ps (utf8_joined flags ps all)) m
  touched (Prior.apart n c w) k = absurd (n k)

  no_comment : NoComment sx → x.0 ≢ LineComment
  no_comment n k = subst (λ z. NoComment (sort_of b.before z x.1)) k n

  closes : y ≡ Close → f.char ≡ close_paren
  closes e = let k = subst (λ z. IsFirst z (chars p.1) f.char) (kind_of_close s.before p.0 p.1 e) f.is in k.0

  no_blank : Prior x s (p ∷ ps) → (n : ℕ) → settled sx y s.gap ≡ Blanks n → x.0 ≢ LineComment
  no_blank pr n e k =
      let c : sx ≡ Comment = ap (λ z. sort_of b.before z x.1) k in
      let h : is_break (settled sx y s.gap) ≡ true = subst (λ z. is_break (settled z y s.gap) ≡ true) (sym c) (breaks_after y s.gap (break_after pr k)) in
      false≢true (sym (ap is_break e) ∙ h)

  follows_gap : Prior x s (p ∷ ps) → (l : ℕ) (g : Gap) → settled sx y s.gap ≡ g → MayFollow x.0 (chars x.1) (chars (joined (gapped (gap_text g l) (p ∷ rest))))
  follows_gap pr l Touching e =
      subst (λ z. MayFollow x.0 (chars x.1) z) (sym (chars_p rest (utf8_joined flags rest all')))
      (touching_follows x.0 (chars x.1) (f.others ++ chars (joined ps)) (f.others ++ chars (joined rest)) f.char sx y s.gap b.word (touched pr) (kind_of_open b.before x.0 x.1) no_comment (no_semicolon s.before p.0 p.1 f.char legal.utf8 f.is) closes (touches sx y s.gap e))
  follows_gap pr l (Blanks zero) e = absurd (let k : 0 < 0 = subst Filled e (settled_filled sx y s.gap b.filled) in omega arith)
  follows_gap pr l (Blanks (suc n)) e =
      let u = IsUtf8-append (replicate n 32) (joined (p ∷ rest)) (white_utf8 (replicate n 32) (each_gap (Blanks (suc n)) l).1) (utf8_joined flags (p ∷ rest) all_p) in
      subst (λ z. MayFollow x.0 (chars x.1) z) (sym (after_white 32 (replicate n 32 ++ joined (p ∷ rest)) refl u)) (ends_words x.0 (chars x.1) _ 32 b.word (no_blank pr (suc n) e) (record { no_run = refl; no_semicolon = refl }))
  follows_gap pr l LineEnd e =
      let u = IsUtf8-append (replicate (2 * l) 32) (joined (p ∷ rest)) (white_utf8 (replicate (2 * l) 32) (each_gap LineEnd l).1) (utf8_joined flags (p ∷ rest) all_p) in
      subst (λ z. MayFollow x.0 (chars x.1) z) (sym (after_white 10 (replicate (2 * l) 32 ++ joined (p ∷ rest)) refl u)) (feed_ends_words x.0 (chars x.1) _ b.word)
  follows_gap pr l EmptyLine e =
      let u = IsUtf8-append (line_feed ∷ replicate (2 * l) 32) (joined (p ∷ rest)) (white_utf8 (line_feed ∷ replicate (2 * l) 32) (each_gap EmptyLine l).1) (utf8_joined flags (p ∷ rest) all_p) in
      subst (λ z. MayFollow x.0 (chars x.1) z) (sym (after_white 10 ((line_feed ∷ replicate (2 * l) 32) ++ joined (p ∷ rest)) refl u)) (feed_ends_words x.0 (chars x.1) _ b.word)

  follows_word : Prior x s (p ∷ ps) → (l : ℕ) → AllLegal flags (gapped (gap_text (gap_before y s) l) (p ∷ rest)) × MayFollow x.0 (chars x.1) (chars (joined (gapped (gap_text (gap_before y s) l) (p ∷ rest))))
  follows_word pr l = (
    gapped_legal flags (gap_text (gap_before y s) l) (p ∷ rest) (each_gap (gap_before y s) l) all_p (no_white_p rest (utf8_joined flags rest all')),
    follows_gap pr l (gap_before y s) (sym (ap (λ z. gap_after z y s.gap) b.sort)),
  )

-- Whitespace after a token.
apart_by : (x : Piece) (s : State) (bytes : List ℕ) (ps : List Piece) → IsUtf8 (joined ps) → chars bytes ≢ [] → chars bytes ≡ bytes → Each is_whitespace bytes → (Begins is_whitespace (chars (joined ps)) → ⊥) → Prior x s ((Whitespace, bytes) ∷ ps) → Prior x (record s { gap = gap_of bytes }) ps
apart_by x s [] ps u n e h k pr = absurd (n e)
apart_by x s (c ∷ w) ps u n e h k (Prior.direct g m) =
    let v = after_white c (w ++ joined ps) h.0 (IsUtf8-append w (joined ps) (white_utf8 w h.1) u) in
    let broken = λ (i : x.0 ≡ LineComment). elim (subst (λ z. MayFollow z (chars x.1) (chars (joined ((Whitespace, c ∷ w) ∷ ps)))) i m) as (λ _. is_break (gap_of (c ∷ w)) ≡ true) [
      | inl a ↦ absurd cc
      | inr a ↦ breaks c w (subst (λ z. Begins is_line_end z) v a)
    ] in
    Prior.apart (white_is_apart c w) broken k
apart_by x s (c ∷ w) ps u n e h k (Prior.apart g i m) =
    let v = after_white c (w ++ joined ps) h.0 (IsUtf8-append w (joined ps) (white_utf8 w h.1) u) in
    absurd (m (subst (λ z. Begins is_whitespace z) (sym v) h.0))

pub apart_kind : (x : Piece) (s : State) (kind : TokenKind) (bytes : List ℕ) (ps : List Piece) (flags : Settings) → is_white kind ≡ true → IsAt flags kind bytes (joined ps) → AllLegal flags ps → Prior x s ((kind, bytes) ∷ ps) → Prior x (record s { gap = gap_of bytes }) ps
apart_kind x s Whitespace bytes ps flags e h a pr =
    let i = white_bytes bytes h.utf8 h.word.1 in
    apart_by x s bytes ps (utf8_joined flags ps a) h.word.0 i (subst (λ z. Each is_whitespace z) i h.word.1) h.ends pr
apart_kind x s kind bytes ps flags e h a pr = absurd (false≢true e)

pub follows : (flags : Settings) (x : Piece) (s : State) (ps : List Piece) → After x s → Prior x s ps → AllLegal flags ps → AllLegal flags (laid_pieces s ps) × MayFollow x.0 (chars x.1) (chars (joined (laid_pieces s ps)))
follows flags x s [] b pr h =
    subst (λ q. AllLegal flags q × MayFollow x.0 (chars x.1) (chars (joined q))) (sym (laid_end s (sort_of b.before x.0 x.1) b.sort))
    (last_is_at flags, subst (λ z. MayFollow x.0 (chars x.1) z) (sym (after_white 10 [] refl IsUtf8-nil)) (feed_ends_words x.0 (chars x.1) (chars []) b.word))
follows flags x s (p ∷ ps) b pr h =
    let y : Sort = sort_of s.before p.0 p.1 in
    let l : ℕ = line_level y (gap_before y s) s in
    elim (bool_cases (is_white p.0)) [
      | inl e ↦
          subst (λ q. AllLegal flags q × MayFollow x.0 (chars x.1) (chars (joined q))) (sym (laid_white s p ps e))
          (follows flags x (record s { gap = gap_of p.1 }) ps (record { before = b.before; sort = b.sort; word = b.word; filled = gap_filled p.1 }) (apart_kind x s p.0 p.1 ps flags e h.0 h.1 pr) h.1)
      | inr e ↦
          let ih = follows flags p (after y l s) ps (record { before = s.before; sort = refl; word = e; filled = tt }) (Prior.direct refl h.0.ends) h.1 in
          subst (λ q. AllLegal flags q × MayFollow x.0 (chars x.1) (chars (joined q))) (sym (laid_word s p ps e))
          (follows_word flags x p ps (laid_pieces (after y l s) ps) s b h.0 e h.1 ih.0 ih.1 pr l)
    ]

laid_none : (s : State) → s.before ≡ None → laid_pieces s [] ≡ []
laid_none s e = rw e refl

-- Nothing is written before the first token.
pub begins : (flags : Settings) (s : State) (ps : List Piece) → s.before ≡ None → AllLegal flags ps → AllLegal flags (laid_pieces s ps)
begins flags s [] n h = subst (λ q. AllLegal flags q) (sym (laid_none s n)) tt
begins flags s (p ∷ ps) n h =
    let y : Sort = sort_of s.before p.0 p.1 in
    let l : ℕ = line_level y (gap_before y s) s in
    let rest : List Piece = laid_pieces (after y l s) ps in
    elim (bool_cases (is_white p.0)) [
      | inl e ↦ subst (λ q. AllLegal flags q) (sym (laid_white s p ps e)) (begins flags (record s { gap = gap_of p.1 }) ps n h.1)
      | inr e ↦
          let ih = follows flags p (after y l s) ps (record { before = s.before; sort = refl; word = e; filled = tt }) (Prior.direct refl h.0.ends) h.1 in
          let g : gap_before y s ≡ Touching = ap (λ z. gap_after z y s.gap) n in
          let first : laid_pieces s (p ∷ ps) ≡ p ∷ rest = laid_word s p ps e ∙ ap (λ z. gapped (gap_text z l) (p ∷ rest)) g in
          subst (λ q. AllLegal flags q) (sym first) (record { utf8 = h.0.utf8; word = h.0.word; ends = ih.1 }, ih.0)
    ]
