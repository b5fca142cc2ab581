-- In a formatted text, a `(` is followed immediately by `@` if and only if it is in the text.
use Rattle.std.proofs.Common.{◌≡◌, ◌≢◌, ◌+◌, ◌<◌, ℕ, zero, suc, Bool, true, false, eqb, List, [], ◌∷◌, ◌++◌, length, drop, refl, sym, ap, ◌∙◌, subst, inl, inr, arith}
use Rattle.std.proofs.lemmas.Bool.{false≢true}
use Rattle.std.proofs.lemmas.Bool.Decides.{nat_tests}
use Rattle.std.proofs.lemmas.Str.{encodes-chars, char_from_byte, chars-nil}
use Rattle.std.specs.Prelude.{IsTrue, Option, Some, None, is_some, MatchOption, option_map, if◌then◌else◌, encode_utf8_all}
use Rattle.std.specs.Str.{IsUtf8, IsCharBoundary, chars}
use Rattle.wat_lex.specs.grammar.Classes.{Each, is_whitespace, at_sign, quote}
use Rattle.wat_lex.specs.grammar.Runs.{Piece as RunPiece, Idchar, Quoted, Run, RunKind, WordKind, idchars}
use Rattle.wat_lex.specs.grammar.Words.{Word}
use Rattle.wat_lex.specs.tokens.EverySetting.{TokensEndAtBoundaries}
use Rattle.wat_lex.specs.tokens.Setting.{Setting}
use Rattle.wat_lex.specs.tokens.Tiling.{Tiling}
use Rattle.wat_lex.specs.declared.lexer.kinds.Token.{Token}
use Rattle.wat_lex.specs.declared.lexer.kinds.TokenKind.{TokenKind}
use Rattle.wat_lex.specs.declared.lexer.kinds.TokenKind.TheVariants.{LineComment, Whitespace, LParen, RParen, Keyword, Reserved}
use Rattle.wat_lex.specs.declared.lexer.settings.Settings.{Settings}
use Rattle.wat_format.specs.Gaps.{gap_of, gap_text, settled}
use Rattle.wat_format.specs.Laws.{begins_at, is_opening, marks}
use Rattle.wat_format.specs.Layout.{State, gap_before, gap_after, line_level, after, is_white}
use Rattle.wat_format.specs.Sorts.{sort_of, sort_by_first}
use Rattle.wat_format.specs.declared.gap.Gap.{Gap}
use Rattle.wat_format.specs.declared.gap.Gap.TheVariants.{Touching, Blanks, LineEnd, EmptyLine}
use Rattle.wat_format.specs.declared.sort.Sort.{Sort}
use Rattle.wat_format.specs.declared.sort.Sort.TheVariants.{Open, At}
use Rattle.wat_format.proofs.FirstCharacters.{first_of_word, white_cases}
use Rattle.wat_format.proofs.Pieces.{Piece, pieces, joined, IsAt, AllLegal, cut_text, placed, drop_piece}
use Rattle.wat_format.proofs.LaidPieces.{gapped, laid_pieces, bool_cases, laid_white, laid_word}
use Rattle.wat_format.proofs.LaidIsAt.{laid_end}
use Rattle.wat_format.proofs.WhiteSpace.{white_bytes, Filled, gap_filled, settled_filled, white_is_apart}

-- no keyword begins with `@`
run_kind_at : (qs : List RunPiece) → RunKind (Idchar at_sign ∷ qs) Keyword → ⊥
run_kind_at [] (inl h) = h
run_kind_at [] (inr h) = let e = h.1 in cc
run_kind_at (Quoted v ∷ []) h = cc
run_kind_at (Quoted v ∷ q ∷ qs) h = cc
run_kind_at (Idchar d ∷ qs) h = at_by (idchars (Idchar d ∷ qs)) h
  where
    at_by : (o : Option (List ℕ)) → MatchOption (option_map (λ cs. at_sign ∷ cs) o) (Keyword ≡ Reserved) (λ w. WordKind w Keyword) → ⊥
    at_by None k = cc
    at_by (Some cs) (inl k) = k
    at_by (Some cs) (inr k) = let e = k.1 in cc

run_at : {flags : Settings} {w r : List ℕ} {ps : List RunPiece} (t : List ℕ) → Run flags w ps r → ps ≢ [] → w ≡ at_sign ∷ t → RunKind ps Keyword → ⊥
run_at t (Run.none) n e h = n refl
run_at t (Run.idchar {c = c} {ps = ps} i k) n e h = let f : c ≡ at_sign = cc in run_kind_at ps (subst (λ x. RunKind (Idchar x ∷ ps) Keyword) f h)
run_at t (Run.string i k) n e h = let f : ◌≡◌ {A = ℕ} quote at_sign = cc in omega arith

-- The first byte of a token that may touch the `(` before it.
pub first_byte : (b c : ℕ) (bytes others : List ℕ) → IsUtf8 (b ∷ bytes) → chars (b ∷ bytes) ≡ c ∷ others → b < 128 → c ≡ b
first_byte b c bytes others u e lt = char_from_byte (b ∷ bytes) (encode_utf8_all others) c (sym (encodes-chars (b ∷ bytes) u) ∙ ap encode_utf8_all e) lt (omega arith)

plain_at : (bytes : List ℕ) → sort_by_first (at_sign ∷ bytes) ≡ At
plain_at bytes = refl

abbrev NotAt : Sort → Type 0
NotAt At = ⊥
NotAt y = Unit {0}

no_at : (before : Option Sort) (kind : TokenKind) (flags : Settings) (bytes : List ℕ) → IsUtf8 (at_sign ∷ bytes) → is_white kind ≡ false → Word kind (chars (at_sign ∷ bytes)) flags → NotAt (sort_of before kind (at_sign ∷ bytes)) → ⊥
no_at before LineComment flags bytes u e w n = let f = first_of_word LineComment (chars (at_sign ∷ bytes)) flags e w in let c = first_byte at_sign f.char bytes f.others u f.cut (omega arith) in let d = f.is in let k : ◌≡◌ {A = ℕ} at_sign 59 = sym c ∙ d in omega arith
no_at before Whitespace flags bytes u e w n = false≢true (sym e)
no_at before LParen flags bytes u e w n = let f = first_of_word LParen (chars (at_sign ∷ bytes)) flags e w in let c = first_byte at_sign f.char bytes f.others u f.cut (omega arith) in let d = f.is in let k : ◌≡◌ {A = ℕ} at_sign 40 = sym c ∙ d in omega arith
no_at before RParen flags bytes u e w n = let f = first_of_word RParen (chars (at_sign ∷ bytes)) flags e w in let c = first_byte at_sign f.char bytes f.others u f.cut (omega arith) in let d = f.is.0 in let k : ◌≡◌ {A = ℕ} at_sign 41 = sym c ∙ d in omega arith
no_at before Keyword flags bytes u e w n =
    let f = first_of_word Keyword (chars (at_sign ∷ bytes)) flags e w in
    let c = first_byte at_sign f.char bytes f.others u f.cut (omega arith) in
    run_at f.others w.2 w.1 (f.cut ∙ ap (λ x. x ∷ f.others) c) w.3
no_at before kind flags bytes u e w n = n

no_at_byte : (b : ℕ) → (b ≡ at_sign → ⊥) → eqb b at_sign ≡ false
no_at_byte b n = elim (bool_cases (eqb b at_sign)) [ inl e ↦ absurd (n (let k : b ≡ at_sign = grind (arith, nat_tests) in k)) | inr e ↦ e ]

pub no_characters : (bytes : List ℕ) (c : ℕ) (others : List ℕ) → bytes ≡ [] → chars bytes ≡ c ∷ others → ⊥
no_characters bytes c others e h = let k : chars [] ≡ c ∷ others = subst (λ x. chars x ≡ c ∷ others) e h in let n = chars-nil in cc

word_no_at : (before : Option Sort) (kind : TokenKind) (flags : Settings) (bytes r : List ℕ) → IsUtf8 bytes → is_white kind ≡ false → Word kind (chars bytes) flags → NotAt (sort_of before kind bytes) → begins_at (bytes ++ r) ≡ false
word_no_at before kind flags [] r u e w n = let f = first_of_word kind (chars []) flags e w in absurd (no_characters [] f.char f.others refl f.cut)
word_no_at before kind flags (b ∷ bytes) r u e w n =
    no_at_byte b (λ k. no_at before kind flags bytes (subst (λ x. IsUtf8 (x ∷ bytes)) k u) e (subst (λ x. Word kind (chars (x ∷ bytes)) flags) k w) (subst (λ x. NotAt (sort_of before kind (x ∷ bytes))) k n))

word_same_at : (kind : TokenKind) (flags : Settings) (bytes r r' : List ℕ) → is_white kind ≡ false → Word kind (chars bytes) flags → begins_at (bytes ++ r) ≡ begins_at (bytes ++ r')
word_same_at kind flags [] r r' e w = let f = first_of_word kind (chars []) flags e w in absurd (no_characters [] f.char f.others refl f.cut)
word_same_at kind flags (b ∷ bytes) r r' e w = refl

pub white_is_no_at : (c : ℕ) → IsTrue (is_whitespace c) → eqb c at_sign ≡ false
white_is_no_at c h = elim (white_cases c h) [
  | inl e ↦ subst (λ x. eqb x at_sign ≡ false) (sym e) refl
  | inr f ↦ elim f [
    | inl e ↦ subst (λ x. eqb x at_sign ≡ false) (sym e) refl
    | inr g ↦ elim g [ inl e ↦ subst (λ x. eqb x at_sign ≡ false) (sym e) refl | inr e ↦ subst (λ x. eqb x at_sign ≡ false) (sym e) refl ]
  ]
]

-- Whitespace is not an empty gap, and does not begin with `@`.
pub record White (bytes : List ℕ) : Type 0 where
  pub apart : gap_of bytes ≡ Touching → ⊥
  pub no_at : (r : List ℕ) → begins_at (bytes ++ r) ≡ false

white_by : (bytes : List ℕ) → chars bytes ≢ [] → chars bytes ≡ bytes → Each is_whitespace bytes → White bytes
white_by [] n e h = absurd (n e)
white_by (c ∷ w) n e h = record { apart = white_is_apart c w; no_at = λ r. white_is_no_at c h.0 }

white_of : (flags : Settings) (kind : TokenKind) (bytes rest : List ℕ) → is_white kind ≡ true → IsAt flags kind bytes rest → White bytes
white_of flags Whitespace bytes rest e h = let i = white_bytes bytes h.utf8 h.word.1 in white_by bytes h.word.0 i (subst (λ z. Each is_whitespace z) i h.word.1)
white_of flags kind bytes rest e h = absurd (false≢true e)

-- what comes after a `(` and touches it though it did not before is no `@`, and so is what it is parted from
closed_up : (y : Sort) (g : Gap) → settled Open y g ≡ Touching → (g ≡ Touching → ⊥) → NotAt y
closed_up At Touching h n = n refl
closed_up At g h n = cc
closed_up y g h n = tt

opened_up : (y : Sort) (g : Gap) → settled Open y Touching ≡ g → (g ≡ Touching → ⊥) → NotAt y
opened_up At g h n = n (sym h)
opened_up y g h n = tt

gap_no_at : (g : Gap) (l : ℕ) (r : List Piece) → Filled g → (g ≡ Touching → ⊥) → begins_at (joined (gapped (gap_text g l) r)) ≡ false
gap_no_at Touching l r h n = absurd (n refl)
gap_no_at (Blanks zero) l r h n = absurd (let k : 0 < 0 = h in omega arith)
gap_no_at (Blanks (suc m)) l r h n = refl
gap_no_at LineEnd l r h n = refl
gap_no_at EmptyLine l r h n = refl

-- The bytes of a formatted text after a `(`.
pub record AfterOpen (s : State) (ps : List Piece) : Type 0 where
  pub touching : s.gap ≡ Touching → begins_at (joined (laid_pieces s ps)) ≡ begins_at (joined ps)
  pub apart : (s.gap ≡ Touching → ⊥) → begins_at (joined (laid_pieces s ps)) ≡ false

module _ (flags : Settings) (s : State) (p : Piece) (ps rest : List Piece) (legal : IsAt flags p.0 p.1 (joined ps)) (word : is_white p.0 ≡ false) (filled : Filled s.gap) (l : ℕ) where
  abbrev y : Sort
  y = sort_of s.before p.0 p.1

  kept_touching : (g : Gap) → settled Open y s.gap ≡ g → s.gap ≡ Touching → begins_at (joined (gapped (gap_text g l) (p ∷ rest))) ≡ begins_at (joined (p ∷ ps))
  kept_touching Touching e k = word_same_at p.0 flags p.1 (joined rest) (joined ps) word legal.word
  kept_touching g e k =
      let n : NotAt y = opened_up y g (ap (λ z. settled Open y z) (sym k) ∙ e) (λ z. cc) in
      gap_no_at g l (p ∷ rest) (subst Filled e (settled_filled Open y s.gap filled)) (λ z. cc) ∙ sym (word_no_at s.before p.0 flags p.1 (joined ps) legal.utf8 word legal.word n)

  kept_apart : (g : Gap) → settled Open y s.gap ≡ g → (s.gap ≡ Touching → ⊥) → begins_at (joined (gapped (gap_text g l) (p ∷ rest))) ≡ false
  kept_apart Touching e n = word_no_at s.before p.0 flags p.1 (joined rest) legal.utf8 word legal.word (closed_up y s.gap e n)
  kept_apart g e n = gap_no_at g l (p ∷ rest) (subst Filled e (settled_filled Open y s.gap filled)) (λ z. cc)

after_open : (flags : Settings) (s : State) (ps : List Piece) → s.before ≡ Some Open → Filled s.gap → AllLegal flags ps → AfterOpen s ps
after_open flags s [] o f h =
    let e : begins_at (joined (laid_pieces s [])) ≡ false = ap (λ q. begins_at (joined q)) (laid_end s Open o) in
    record { touching = λ k. e; apart = λ k. e }
after_open flags s (p ∷ ps) o f h =
    let y : Sort = sort_of s.before p.0 p.1 in
    let l : ℕ = line_level y (gap_before y s) s in
    elim (bool_cases (is_white p.0)) [
      | inl e ↦
          let w = white_of flags p.0 p.1 (joined ps) e h.0 in
          let ih = after_open flags (record s { gap = gap_of p.1 }) ps o (gap_filled p.1) h.1 in
          let k : begins_at (joined (laid_pieces s (p ∷ ps))) ≡ false = ap (λ q. begins_at (joined q)) (laid_white s p ps e) ∙ ih.apart w.apart in
          record { touching = λ _. k ∙ sym (w.no_at (joined ps)); apart = λ _. k }
      | inr e ↦
          let rest : List Piece = laid_pieces (after y l s) ps in
          let g : settled Open y s.gap ≡ gap_before y s = sym (ap (λ z. gap_after z y s.gap) o) in
          let same : begins_at (joined (laid_pieces s (p ∷ ps))) ≡ begins_at (joined (gapped (gap_text (gap_before y s) l) (p ∷ rest))) = ap (λ q. begins_at (joined q)) (laid_word s p ps e) in
          record {
            touching = λ k. same ∙ kept_touching flags s p ps rest h.0 e f l (gap_before y s) g k;
            apart = λ k. same ∙ kept_apart flags s p ps rest h.0 e f l (gap_before y s) g k;
          }
    ]

abbrev pub mark_list : List Piece → List Bool
mark_list [] = []
mark_list (p ∷ ps) = if is_opening p.0 then begins_at (joined ps) ∷ mark_list ps else mark_list ps

pub mark_gapped : (w : List ℕ) (ps : List Piece) → mark_list (gapped w ps) ≡ mark_list ps
mark_gapped [] ps = refl
mark_gapped (c ∷ w) ps = refl

white_opens_nothing : (kind : TokenKind) → is_white kind ≡ true → is_opening kind ≡ false
white_opens_nothing Whitespace e = refl
white_opens_nothing kind e = absurd (false≢true e)

opening_sort : (before : Option Sort) (kind : TokenKind) (bytes : List ℕ) → is_opening kind ≡ true → sort_of before kind bytes ≡ Open
opening_sort before LParen bytes e = refl
opening_sort before kind bytes e = absurd (false≢true e)

mark_other : (p : Piece) (ps : List Piece) → is_opening p.0 ≡ false → mark_list (p ∷ ps) ≡ mark_list ps
mark_other p ps e = rw e refl

mark_opening : (p : Piece) (ps : List Piece) → is_opening p.0 ≡ true → mark_list (p ∷ ps) ≡ begins_at (joined ps) ∷ mark_list ps
mark_opening p ps e = rw e refl

pub marks_laid : (flags : Settings) (s : State) (ps : List Piece) → AllLegal flags ps → mark_list (laid_pieces s ps) ≡ mark_list ps
marks_laid flags s [] h = elim (is_some s.before) as (λ b. mark_list (if b then (Whitespace, 10 ∷ []) ∷ [] else []) ≡ []) [ true ↦ refl | false ↦ refl ]
marks_laid flags s (p ∷ ps) h =
    let y : Sort = sort_of s.before p.0 p.1 in
    let l : ℕ = line_level y (gap_before y s) s in
    let rest : List Piece = laid_pieces (after y l s) ps in
    let ih = marks_laid flags (after y l s) ps h.1 in
    elim (bool_cases (is_white p.0)) [
      | inl e ↦ ap mark_list (laid_white s p ps e) ∙ marks_laid flags (record s { gap = gap_of p.1 }) ps h.1 ∙ sym (mark_other p ps (white_opens_nothing p.0 e))
      | inr e ↦
          let first : mark_list (laid_pieces s (p ∷ ps)) ≡ mark_list (p ∷ rest) = ap mark_list (laid_word s p ps e) ∙ mark_gapped (gap_text (gap_before y s) l) (p ∷ rest) in
          elim (bool_cases (is_opening p.0)) [
            | inl o ↦
                let b = after_open flags (after y l s) ps (ap (λ x. Some x) (opening_sort s.before p.0 p.1 o)) tt h.1 in
                first ∙ mark_opening p rest o ∙ ap (λ x. x ∷ mark_list rest) (b.touching refl) ∙ ap (λ x. begins_at (joined ps) ∷ x) ih ∙ sym (mark_opening p ps o)
            | inr o ↦ first ∙ mark_other p rest o ∙ ih ∙ sym (mark_other p ps o)
          ]
    ]

-- The parentheses of a text that are followed immediately by `@`, and those of its pieces, are the same.
pub marks_of_text : (s : Setting) → IsUtf8 s.text → TokensEndAtBoundaries → (p to : ℕ) (ts : List Token) → IsCharBoundary s.text p → Tiling s p to ts → to ≡ length s.text → marks s.text ts ≡ mark_list (pieces s.text ts)
marks_of_text s u bounds p to [] b h e = refl
marks_of_text s u bounds p to (t ∷ ts) b h e =
    let end = bounds s p t u b h.0 in
    let ih = marks_of_text s u bounds (t.offset + t.len) to ts end h.1 e in
    let same : begins_at (drop (t.offset + t.len) s.text) ≡ begins_at (joined (pieces s.text ts)) = ap begins_at (sym (cut_text s u bounds (t.offset + t.len) to ts end h.1 e).whole) in
    elim (is_opening t.kind) as (λ k. (if k then begins_at (drop (t.offset + t.len) s.text) ∷ marks s.text ts else marks s.text ts) ≡ (if k then begins_at (joined (pieces s.text ts)) ∷ mark_list (pieces s.text ts) else mark_list (pieces s.text ts)))
    [ true ↦ ap (λ x. x ∷ marks s.text ts) same ∙ ap (λ x. begins_at (joined (pieces s.text ts)) ∷ x) ih | false ↦ ih ]

pub marks_placed : (s : Setting) (p : ℕ) (qs : List Piece) → drop p s.text ≡ joined qs → marks s.text (placed p qs) ≡ mark_list qs
marks_placed s p [] e = refl
marks_placed s p (q ∷ qs) e =
    let after = drop_piece s p q qs e in
    let ih = marks_placed s (p + length q.1) qs after in
    elim (is_opening q.0) as (λ k. (if k then begins_at (drop (p + length q.1) s.text) ∷ marks s.text (placed (p + length q.1) qs) else marks s.text (placed (p + length q.1) qs)) ≡ (if k then begins_at (joined qs) ∷ mark_list qs else mark_list qs))
    [ true ↦ ap (λ x. x ∷ marks s.text (placed (p + length q.1) qs)) (ap begins_at after) ∙ ap (λ x. begins_at (joined qs) ∷ x) ih | false ↦ ih ]
