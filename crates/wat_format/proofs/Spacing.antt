-- Tokens with whitespace between them, as pieces.
use Rattle.std.proofs.Common.{◌≡◌, ◌≢◌, ℕ, true, false, List, [], ◌∷◌, ◌++◌, length, refl, sym, ap, ◌∙◌, subst, inl, inr, arith}
use Rattle.std.proofs.lemmas.Bool.{false≢true}
use Rattle.std.proofs.lemmas.Str.{IsCharBoundary-start, IsUtf8-append, IsUtf8-nil, chars-nil}
use Rattle.std.specs.Prelude.{IsTrue, ◌⊎◌, ◌↔◌, if◌then◌else◌}
use Rattle.std.specs.Str.{IsUtf8, chars}
use Rattle.wat_lex.specs.grammar.Classes.{Begins, Each, is_line_end, is_whitespace}
use Rattle.wat_lex.specs.grammar.Words.{Word, MayFollow}
use Rattle.wat_lex.specs.tokens.EverySetting.{TokensEndAtBoundaries}
use Rattle.wat_lex.specs.tokens.Setting.{Setting}
use Rattle.wat_lex.specs.declared.lexer.kinds.TokenKind.{TokenKind}
use Rattle.wat_lex.specs.declared.lexer.kinds.TokenKind.TheVariants.{LineComment, Whitespace}
use Rattle.wat_lex.specs.declared.lexer.settings.Settings.{Settings}
use Rattle.wat_format.specs.Laws.{begins_at, is_opening, marks}
use Rattle.wat_format.specs.Layout.{is_white}
use Rattle.wat_format.specs.Spaces.{Spaced, spread, words_of, IsSpaced, AreSpaced, AreLegal, ReadsAsWords, GapsAreExact, touches, touch_marks, MarksGoByGaps}
use Rattle.wat_format.proofs.FirstCharacters.{First, first_of_word, first_is_no_white}
use Rattle.wat_format.proofs.KeptTokens.{words_of_pieces}
use Rattle.wat_format.proofs.LaidPieces.{gapped, bool_cases, joined_gapped, no_white, no_white_gapped}
use Rattle.wat_format.proofs.LaidIsAt.{after_white, gapped_legal, white_is_at, line_end_is_white}
use Rattle.wat_format.proofs.Marks.{first_byte, no_characters, mark_list, mark_gapped, marks_of_text, white_is_no_at}
use Rattle.wat_format.proofs.Pieces.{Piece, pieces, joined, IsAt, AllLegal, utf8_joined, chars_append, Cut, cut_text, placed, placed_tiling, pieces_placed}
use Rattle.wat_format.proofs.Touching.{touch_in, touch_out, white_follows, end_follows}
use Rattle.wat_format.proofs.WhiteSpace.{small, white_utf8, white_bytes}

abbrev to_pieces : List Spaced → List Piece
to_pieces [] = []
to_pieces (x ∷ xs) = (x.kind, x.bytes) ∷ gapped x.white (to_pieces xs)

joined_spread : (xs : List Spaced) → joined (to_pieces xs) ≡ spread xs
joined_spread [] = refl
joined_spread (x ∷ xs) = ap (λ v. x.bytes ++ v) (joined_gapped x.white (to_pieces xs) ∙ ap (λ v. x.white ++ v) (joined_spread xs))

no_white_spread : (flags : Settings) (xs : List Spaced) → AreSpaced flags xs → no_white (to_pieces xs) ≡ words_of xs
no_white_spread flags [] h = refl
no_white_spread flags (x ∷ xs) h =
    let rest : List Piece = gapped x.white (to_pieces xs) in
    ap (λ b. if b then no_white rest else (x.kind, x.bytes) ∷ no_white rest) h.0.no_white ∙ ap (λ v. (x.kind, x.bytes) ∷ v) (no_white_gapped x.white (to_pieces xs) ∙ no_white_spread flags xs h.1)

-- The first byte of a lexeme.
pub record FirstByte (bytes : List ℕ) : Type 0 where
  pub byte : ℕ
  pub others : List ℕ
  pub cut : bytes ≡ byte ∷ others
  pub no_white : IsTrue (is_whitespace byte) → ⊥

word_byte : (flags : Settings) (k : TokenKind) (bytes : List ℕ) → is_white k ≡ false → IsUtf8 bytes → Word k (chars bytes) flags → FirstByte bytes
word_byte flags k [] e u w = let f = first_of_word k (chars []) flags e w in absurd (no_characters [] f.char f.others refl f.cut)
word_byte flags k (b ∷ bytes) e u w =
    let f = first_of_word k (chars (b ∷ bytes)) flags e w in
    record {
      byte = b;
      others = bytes;
      cut = refl;
      no_white = λ h. first_is_no_white k (chars (b ∷ bytes)) f.char f.is (subst (λ x. is_whitespace x ≡ true) (sym (first_byte b f.char bytes f.others u f.cut (small b h))) h);
    }

no_white_word : (flags : Settings) (k : TokenKind) (bytes r : List ℕ) → is_white k ≡ false → IsUtf8 bytes → Word k (chars bytes) flags → Begins is_whitespace (bytes ++ r) → ⊥
no_white_word flags k bytes r e u w h =
    let f = word_byte flags k bytes e u w in
    f.no_white (subst (λ x. Begins is_whitespace (x ++ r)) f.cut h)

kind_of_white : (k : TokenKind) → is_white k ≡ true → k ≡ Whitespace
kind_of_white Whitespace e = refl
kind_of_white k e = absurd (false≢true e)

-- A token and the whitespace after it precede these pieces.
put : (flags : Settings) (k : TokenKind) (bytes white : List ℕ) (ps : List Piece) → is_white k ≡ false → IsUtf8 bytes → Word k (chars bytes) flags → Each is_whitespace white → AllLegal flags ps → (Begins is_whitespace (chars (joined ps)) → ⊥)
    → (white ≡ [] → MayFollow k (chars bytes) (chars (joined ps))) → (white ≢ [] → k ≡ LineComment → Begins is_line_end white) → AllLegal flags ((k, bytes) ∷ gapped white ps)
put flags k bytes [] ps e u w h a n direct ended = (record { utf8 = u; word = w; ends = direct refl }, a)
put flags k bytes (c ∷ white) ps e u w h a n direct ended =
    let v = after_white c (white ++ joined ps) h.0 (IsUtf8-append white (joined ps) (white_utf8 white h.1) (utf8_joined flags ps a)) in (
      record { utf8 = u; word = w; ends = subst (λ z. MayFollow k (chars bytes) z) (sym v) (white_follows k (chars bytes) (chars (white ++ joined ps)) c e h.0 (ended (λ i. cc))) },
      (white_is_at flags c white (joined ps) h n, a),
    )

module _ (flags : Settings) (y : Spaced) (ys : List Spaced) (h : IsSpaced flags y) where
  abbrev f : First y.kind (chars y.bytes)
  f = first_of_word y.kind (chars y.bytes) flags h.no_white h.word

  abbrev rest : List Piece
  rest = gapped y.white (to_pieces ys)

  first_char : IsUtf8 (joined rest) → chars (joined (to_pieces (y ∷ ys))) ≡ f.char ∷ (f.others ++ chars (joined rest))
  first_char u = chars_append y.bytes (joined rest) h.utf8 u ∙ ap (λ z. z ++ chars (joined rest)) f.cut

  no_white_first : IsUtf8 (joined rest) → Begins is_whitespace (chars (joined (to_pieces (y ∷ ys)))) → ⊥
  no_white_first u b = first_is_no_white y.kind (chars y.bytes) f.char f.is (subst (Begins is_whitespace) (first_char u) b)

nothing_white : Begins is_whitespace (chars []) → ⊥
nothing_white h = subst (Begins is_whitespace) chars-nil h

tail_is_at : (flags : Settings) (white : List ℕ) (ps : List Piece) → AllLegal flags (gapped white ps) → AllLegal flags ps
tail_is_at flags [] ps a = a
tail_is_at flags (c ∷ w) ps a = a.1

-- Tokens with legal gaps may follow each other.
legal : (flags : Settings) (xs : List Spaced) → AreSpaced flags xs → AreLegal xs → AllLegal flags (to_pieces xs)
legal flags [] h l = tt
legal flags (x ∷ []) h l =
    put flags x.kind x.bytes x.white [] h.0.no_white h.0.utf8 h.0.word h.0.white tt nothing_white (λ e. subst (λ z. MayFollow x.kind (chars x.bytes) z) (sym chars-nil) (end_follows x.kind (chars x.bytes) h.0.no_white))
    (λ n e. elim (l e) [ inl i ↦ absurd (n i) | inr i ↦ i ])
legal flags (x ∷ y ∷ ys) h l =
    let ih = legal flags (y ∷ ys) h.1 l.1 in
    let u = utf8_joined flags (gapped y.white (to_pieces ys)) ih.1 in
    let first = first_char flags y ys h.1.0 u in
    let g = first_of_word y.kind (chars y.bytes) flags h.1.0.no_white h.1.0.word in
    put flags x.kind x.bytes x.white (to_pieces (y ∷ ys)) h.0.no_white h.0.utf8 h.0.word h.0.white ih (no_white_first flags y ys h.1.0 u)
    (λ e. subst (λ z. MayFollow x.kind (chars x.bytes) z) (sym first)
    (touch_in x.kind (chars x.bytes) y.kind (chars y.bytes) g.others (g.others ++ chars (joined (gapped y.white (to_pieces ys)))) g.char h.0.no_white (λ k. subst (Begins is_line_end) e (l.0.ended k)) g.cut g.is (l.0.apart e)))
    (λ n e. l.0.ended e)

-- Tokens whose pieces are legal have legal gaps.
white_ended : (flags : Settings) (v white : List ℕ) (ps : List Piece) → Each is_whitespace white → IsUtf8 (joined ps) → white ≢ [] → MayFollow LineComment v (chars (joined (gapped white ps))) → Begins is_line_end white
white_ended flags v [] ps h u n m = absurd (n refl)
white_ended flags v (c ∷ w) ps h u n m =
    let e = after_white c (w ++ joined ps) h.0 (IsUtf8-append w (joined ps) (white_utf8 w h.1) u) in
    elim (subst (λ z. MayFollow LineComment v z) e m) as (λ _. Begins is_line_end (c ∷ w)) [ inl i ↦ absurd cc | inr i ↦ i ]

empty_or_not : (w : List ℕ) → (w ≡ []) ⊎ (w ≢ [])
empty_or_not [] = inl refl
empty_or_not (c ∷ w) = inr (λ e. cc)

words_legal : (flags : Settings) (xs : List Spaced) → AreSpaced flags xs → AllLegal flags (to_pieces xs) → AreLegal xs
words_legal flags [] h a = tt
words_legal flags (x ∷ []) h a = λ k. elim (empty_or_not x.white) [
  | inl e ↦ inl e
  | inr n ↦ inr (white_ended flags (chars x.bytes) x.white [] h.0.white IsUtf8-nil n (subst (λ z. MayFollow z (chars x.bytes) (chars (joined (gapped x.white [])))) k a.0.ends))
]
words_legal flags (x ∷ y ∷ ys) h a =
    let ps : List Piece = to_pieces (y ∷ ys) in
    let all = tail_is_at flags x.white ps a.1 in
    let u = utf8_joined flags (gapped y.white (to_pieces ys)) all.1 in
    let first = first_char flags y ys h.1.0 u in
    let g = first_of_word y.kind (chars y.bytes) flags h.1.0.no_white h.1.0.word in
    let r : List ℕ = g.others ++ chars (joined (gapped y.white (to_pieces ys))) in
    let direct = λ (e : x.white ≡ []). subst (λ z. MayFollow x.kind (chars x.bytes) z) first (subst (λ z. MayFollow x.kind (chars x.bytes) (chars (joined (gapped z ps)))) e a.0.ends) in (
      record {
        apart = λ e. touch_out x.kind (chars x.bytes) y.kind (chars y.bytes) g.others r g.char g.cut g.is (direct e);
        ended = λ k. elim (empty_or_not x.white) [
          | inl e ↦ absurd (elim (subst (λ z. MayFollow z (chars x.bytes) (g.char ∷ r)) k (direct e)) [ inl i ↦ cc | inr i ↦ first_is_no_white y.kind (chars y.bytes) g.char g.is (line_end_is_white g.char i) ])
          | inr n ↦ white_ended flags (chars x.bytes) x.white ps h.0.white (utf8_joined flags ps all) n (subst (λ z. MayFollow z (chars x.bytes) (chars (joined (gapped x.white ps)))) k a.0.ends)
        ];
      },
      words_legal flags (y ∷ ys) h.1 all,
    )

-- Pieces that join to this text, with these tokens, are those of the tokens.
abbrev first_of : ℕ → List ℕ → ℕ
first_of d [] = d
first_of d (x ∷ xs) = x

abbrev rest_of : List ℕ → List ℕ
rest_of [] = []
rest_of (x ∷ xs) = xs

cancel : (w r q : List ℕ) → w ++ r ≡ w ++ q → r ≡ q
cancel [] r q e = e
cancel (c ∷ w) r q e = cancel w r q (ap rest_of e)

span : (a b r q : List ℕ) → Each is_whitespace a → Each is_whitespace b → (Begins is_whitespace r → ⊥) → (Begins is_whitespace q → ⊥) → a ++ r ≡ b ++ q → (a ≡ b) × (r ≡ q)
span [] [] r q h k n m e = (refl, e)
span [] (d ∷ b) r q h k n m e = absurd (n (subst (Begins is_whitespace) (sym e) k.0))
span (c ∷ a) [] r q h k n m e = absurd (m (subst (Begins is_whitespace) e h.0))
span (c ∷ a) (d ∷ b) r q h k n m e =
    let same = span a b r q h.1 k.1 n m (ap rest_of e) in
    let one : c ≡ d = ap (first_of c) e in
    (ap (λ v. v ∷ a) one ∙ ap (λ v. d ∷ v) same.0, same.1)

spread_no_white : (flags : Settings) (xs : List Spaced) → AreSpaced flags xs → Begins is_whitespace (spread xs) → ⊥
spread_no_white flags [] h b = b
spread_no_white flags (x ∷ xs) h b = no_white_word flags x.kind x.bytes (x.white ++ spread xs) h.0.no_white h.0.utf8 h.0.word b

-- A piece of whitespace.
pub record White (bytes rest : List ℕ) : Type 0 where
  pub some : bytes ≢ []
  pub each : Each is_whitespace bytes
  pub ends : Begins is_whitespace (chars rest) → ⊥

white_by : (bytes : List ℕ) → chars bytes ≢ [] → bytes ≢ []
white_by [] n e = n chars-nil
white_by (c ∷ w) n e = cc

white_of : (flags : Settings) (k : TokenKind) (bytes r : List ℕ) → is_white k ≡ true → IsAt flags k bytes r → White bytes r
white_of flags Whitespace bytes r e h = record { some = white_by bytes h.word.0; each = subst (λ z. Each is_whitespace z) (white_bytes bytes h.utf8 h.word.1) h.word.1; ends = h.ends }
white_of flags k bytes r e h = absurd (false≢true e)

white_begins : (bytes r : List ℕ) → bytes ≢ [] → Each is_whitespace bytes → IsUtf8 r → Begins is_whitespace (chars (bytes ++ r))
white_begins [] r n h u = absurd (n refl)
white_begins (c ∷ w) r n h u = subst (Begins is_whitespace) (sym (after_white c (w ++ r) h.0 (IsUtf8-append w r (white_utf8 w h.1) u))) h.0

pieces_no_white : (flags : Settings) (ps : List Piece) → AllLegal flags ps → (Begins is_whitespace (chars (joined ps)) → ⊥) → Begins is_whitespace (joined ps) → ⊥
pieces_no_white flags [] a n b = b
pieces_no_white flags (p ∷ ps) a n b = elim (bool_cases (is_white p.0)) [
  | inl e ↦ (let w = white_of flags p.0 p.1 (joined ps) e a.0 in n (white_begins p.1 (joined ps) w.some w.each (utf8_joined flags ps a.1)))
  | inr e ↦ no_white_word flags p.0 p.1 (joined ps) e a.0.utf8 a.0.word b
]

no_white_of_white : (p : Piece) (ps : List Piece) → is_white p.0 ≡ true → no_white (p ∷ ps) ≡ no_white ps
no_white_of_white p ps e = ap (λ b. if b then no_white ps else p ∷ no_white ps) e

no_white_of_word : (p : Piece) (ps : List Piece) → is_white p.0 ≡ false → no_white (p ∷ ps) ≡ p ∷ no_white ps
no_white_of_word p ps e = ap (λ b. if b then no_white ps else p ∷ no_white ps) e

abbrev first_piece : Piece → List Piece → Piece
first_piece d [] = d
first_piece d (p ∷ ps) = p

abbrev rest_pieces : List Piece → List Piece
rest_pieces [] = []
rest_pieces (p ∷ ps) = ps

module _ (flags : Settings) where
  -- The first piece of whitespace is the whitespace in front.
  cut_white : (p : Piece) (ps : List Piece) (w : List ℕ) (xs : List Spaced) → is_white p.0 ≡ true → IsAt flags p.0 p.1 (joined ps) → AllLegal flags ps → p.1 ++ joined ps ≡ w ++ spread xs → Each is_whitespace w → AreSpaced flags xs
      → (p.1 ≡ w) × (joined ps ≡ spread xs)
  cut_white p ps w xs e a all j h k =
      let i = white_of flags p.0 p.1 (joined ps) e a in
      span p.1 w (joined ps) (spread xs) i.each h (pieces_no_white flags ps all i.ends) (spread_no_white flags xs k) j

  only : (ps : List Piece) (w : List ℕ) (xs : List Spaced) → AllLegal flags ps → joined ps ≡ w ++ spread xs → no_white ps ≡ words_of xs → Each is_whitespace w → AreSpaced flags xs → ps ≡ gapped w (to_pieces xs)
  only [] [] [] a j n h k = refl
  only [] [] (x ∷ xs) a j n h k = absurd (let e : ◌≡◌ {A = List Piece} [] ((x.kind, x.bytes) ∷ words_of xs) = n in cc)
  only [] (c ∷ w) xs a j n h k = absurd (let e : ◌≡◌ {A = List ℕ} [] (c ∷ (w ++ spread xs)) = j in cc)
  only (p ∷ ps) [] [] a j n h k = elim (bool_cases (is_white p.0)) [
    | inl e ↦ absurd ((white_of flags p.0 p.1 (joined ps) e a.0).some (cut_white p ps [] [] e a.0 a.1 j h k).0)
    | inr e ↦ absurd (let f : ◌≡◌ {A = List Piece} (p ∷ no_white ps) [] = sym (no_white_of_word p ps e) ∙ n in cc)
  ]
  only (p ∷ ps) [] (x ∷ xs) a j n h k = elim (bool_cases (is_white p.0)) [
    | inl e ↦ absurd ((white_of flags p.0 p.1 (joined ps) e a.0).some (cut_white p ps [] (x ∷ xs) e a.0 a.1 j h k).0)
    | inr e ↦
        let f : ◌≡◌ {A = List Piece} (p ∷ no_white ps) ((x.kind, x.bytes) ∷ words_of xs) = sym (no_white_of_word p ps e) ∙ n in
        let one : p ≡ (x.kind, x.bytes) = ap (first_piece p) f in
        let same : x.bytes ++ joined ps ≡ x.bytes ++ (x.white ++ spread xs) = ap (λ (q : Piece). q.1 ++ joined ps) (sym one) ∙ j in
        let ih = only ps x.white xs a.1 (cancel x.bytes (joined ps) (x.white ++ spread xs) same) (ap rest_pieces f) k.0.white k.1 in
        ap (λ q. q ∷ ps) one ∙ ap (λ qs. (x.kind, x.bytes) ∷ qs) ih
  ]
  only (p ∷ ps) (c ∷ w) xs a j n h k = elim (bool_cases (is_white p.0)) [
    | inl e ↦
        let same = cut_white p ps (c ∷ w) xs e a.0 a.1 j h k in
        let ih = only ps [] xs a.1 same.1 (sym (no_white_of_white p ps e) ∙ n) tt k in
        ap (λ z. (z, p.1) ∷ ps) (kind_of_white p.0 e) ∙ ap (λ z. (Whitespace, z) ∷ ps) same.0 ∙ ap (λ qs. (Whitespace, c ∷ w) ∷ qs) ih
    | inr e ↦ absurd (no_white_word flags p.0 p.1 (joined ps) e a.0.utf8 a.0.word (subst (Begins is_whitespace) (sym j) h.0))
  ]

  spread_utf8 : (xs : List Spaced) → AreSpaced flags xs → IsUtf8 (spread xs)
  spread_utf8 [] h = IsUtf8-nil
  spread_utf8 (x ∷ xs) h = IsUtf8-append x.bytes (x.white ++ spread xs) h.0.utf8 (IsUtf8-append x.white (spread xs) (white_utf8 x.white h.0.white) (spread_utf8 xs h.1))

  no_white_in_front : (xs : List Spaced) → AreSpaced flags xs → AllLegal flags (to_pieces xs) → Begins is_whitespace (chars (joined (to_pieces xs))) → ⊥
  no_white_in_front [] h a b = nothing_white b
  no_white_in_front (x ∷ xs) h a b = no_white_first flags x xs h.0 (utf8_joined flags (gapped x.white (to_pieces xs)) a.1) b

  touch_marks_of : (xs : List Spaced) → AreSpaced flags xs → mark_list (to_pieces xs) ≡ touch_marks xs
  touch_marks_of [] h = refl
  touch_marks_of (x ∷ xs) h =
      let ih = mark_gapped x.white (to_pieces xs) ∙ touch_marks_of xs h.1 in
      let at = touched x.white xs h.0.white h.1 in
      elim (is_opening x.kind) as (λ b. (if b then begins_at (joined (gapped x.white (to_pieces xs))) ∷ mark_list (gapped x.white (to_pieces xs)) else mark_list (gapped x.white (to_pieces xs))) ≡ (if b then touches x.white xs ∷ touch_marks xs else touch_marks xs))
      [ true ↦ ap (λ v. v ∷ mark_list (gapped x.white (to_pieces xs))) at ∙ ap (λ v. touches x.white xs ∷ v) ih | false ↦ ih ]
    where
      begins_word : (bytes r : List ℕ) → FirstByte bytes → begins_at (bytes ++ r) ≡ begins_at bytes
      begins_word [] r f = absurd (let e : ◌≡◌ {A = List ℕ} [] (f.byte ∷ f.others) = f.cut in cc)
      begins_word (b ∷ bytes) r f = refl

      touched : (white : List ℕ) (ys : List Spaced) → Each is_whitespace white → AreSpaced flags ys → begins_at (joined (gapped white (to_pieces ys))) ≡ touches white ys
      touched [] [] w h = refl
      touched [] (y ∷ ys) w h = begins_word y.bytes (joined (gapped y.white (to_pieces ys))) (word_byte flags y.kind y.bytes h.0.no_white h.0.utf8 h.0.word)
      touched (c ∷ w) ys w' h = white_is_no_at c w'.0

  module _ (bounds : TokensEndAtBoundaries) (front : List ℕ) (xs : List Spaced) (white : Each is_whitespace front) (h : AreSpaced flags xs) where
    abbrev s : Setting
    s = record { text = front ++ spread xs; flags = flags }

    abbrev out : List Piece
    out = gapped front (to_pieces xs)

    whole : joined out ≡ s.text
    whole = joined_gapped front (to_pieces xs) ∙ ap (λ v. front ++ v) (joined_spread xs)

    utf8 : IsUtf8 s.text
    utf8 = IsUtf8-append front (spread xs) (white_utf8 front white) (spread_utf8 xs h)

    reads : AreLegal xs → ReadsAsWords s xs
    reads l =
        let all = legal flags xs h l in
        let is_at = gapped_legal flags front (to_pieces xs) white all (no_white_in_front xs h all) in
        record {
          tokens = placed 0 out;
          tiling = record { to = length s.text; tiling = placed_tiling s 0 out is_at (sym whole) (let e = ap length whole in omega arith); ends = refl };
          same = words_of_pieces s.text (placed 0 out) ∙ ap no_white (pieces_placed s 0 out (sym whole)) ∙ no_white_gapped front (to_pieces xs) ∙ no_white_spread flags xs h;
        }

    cut : (r : ReadsAsWords s xs) → Cut s 0 r.tokens
    cut r = cut_text s utf8 bounds 0 r.tiling.to r.tokens (IsCharBoundary-start s.text utf8) r.tiling.tiling r.tiling.ends

    same_pieces : (r : ReadsAsWords s xs) → pieces s.text r.tokens ≡ out
    same_pieces r = only (pieces s.text r.tokens) front xs (cut r).legal (cut r).whole (sym (words_of_pieces s.text r.tokens) ∙ r.same) white h

    are_legal : ReadsAsWords s xs → AreLegal xs
    are_legal r = words_legal flags xs h (tail_is_at flags front (to_pieces xs) (subst (AllLegal flags) (same_pieces r) (cut r).legal))

    pub exact : AreLegal xs ↔ ReadsAsWords s xs
    exact = (reads, are_legal)

    pub marked : (r : ReadsAsWords s xs) → marks s.text r.tokens ≡ touch_marks xs
    marked r =
        marks_of_text s utf8 bounds 0 r.tiling.to r.tokens (IsCharBoundary-start s.text utf8) r.tiling.tiling r.tiling.ends ∙ ap mark_list (same_pieces r) ∙ mark_gapped front (to_pieces xs)
        ∙ touch_marks_of xs h

pub gaps_are_exact : TokensEndAtBoundaries → GapsAreExact
gaps_are_exact bounds flags front xs w h = exact flags bounds front xs w h

pub marks_go_by_gaps : TokensEndAtBoundaries → MarksGoByGaps
marks_go_by_gaps bounds flags front xs w h r = marked flags bounds front xs w h r
