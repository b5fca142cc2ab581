-- The kinds of runs.
use Rattle.std.proofs.Common.{◌≡◌, ◌≢◌, ◌≤◌, ◌<◌, ◌⊎◌, ℕ, List, [], ◌∷◌, ◌++◌, length, take, get_or, refl, arith, ap, sym, ◌∙◌, subst, Bool, true, false, cond, inl, inr}
use Rattle.std.specs.Prelude.{Some, None, Option, MatchOption, ◌==◌, ◌&&◌, nat_le}
use Rattle.std.specs.Option.{option_map}
use Rattle.std.proofs.lemmas.List.{append-nil, take_at}
use Rattle.std.proofs.lemmas.Bool.{both_ways}
use Rattle.std.proofs.lemmas.Str.{encode_ascii, encodes-chars}
use Rattle.std.specs.Str.{chars, IsUtf8}
use lib.Utf8.{encode, encodes}
use Rattle.wat_lex.specs.grammar.Classes.{size, Begins, is_idchar, is_run_char}
use Rattle.wat_lex.specs.grammar.Numbers.{Number}
use Rattle.wat_lex.specs.grammar.Runs.{Piece, Idchar, Quoted, Run, none, idchar, string, idchars, RunKind, RunWord, WordKind, named_kind, kind_by_first}
use Rattle.wat_lex.specs.grammar.Words.{Word, MayFollow, EndsRun}
use Rattle.wat_lex.specs.inside.ScannedLexemes.{LexemeFound}
use Rattle.wat_lex.specs.inside.ScannedRuns.{RunFound, IsKindOfRun, idchar_count, string_count}
use Rattle.wat_lex.specs.declared.lexer.scan.runs.Pieces.{Pieces}
use Rattle.wat_lex.specs.declared.lexer.kinds.TokenKind.{TokenKind}
use Rattle.wat_lex.specs.declared.lexer.kinds.TokenKind.TheVariants.{LineComment, BlockComment, Whitespace, LParen, RParen, String, Id, Keyword, Annotation, Reserved, Integer, Float}
use Rattle.wat_lex.proofs.inside.LineComments.{run_char_ascii, idchar_ascii}
use Rattle.wat_lex.proofs.inside.CheckedComments.{halves}
use Rattle.wat_lex.proofs.inside.Confusing.{size-append}
use Rattle.wat_lex.proofs.grammar.AsciiPrefixes.{led}
use Rattle.wat_lex.proofs.grammar.Remainders.{run_taken}
use Rattle.wat_lex.specs.declared.lexer.settings.Settings.{Settings}

-- a run with no strings is its characters, and its bytes
pub record Plain (w : List ℕ) (ps : List Piece) : Type 0 where
  pub same : idchars ps ≡ Some w
  pub bytes : encodes w ≡ w

pub no_strings : (flags : Settings) (w : List ℕ) (ps : List Piece) → Run flags w ps [] → string_count ps ≡ 0 → Plain w ps
no_strings flags w ps none e = record { same = refl; bytes = refl }
no_strings flags w ps (idchar {c = c} {t = t} {ps = qs} h k) e =
    let p = no_strings flags t qs k e in
    record { same = ap (option_map (λ cs. c ∷ cs)) p.same; bytes = ap (λ x. x ++ encodes t) (encode_ascii c (idchar_ascii c h)) ∙ ap (λ x. c ∷ x) p.bytes }
no_strings flags w ps (string {ps = qs} h k) e = absurd (omega (arith, e))

pub some_string : (ps : List Piece) → 0 < string_count ps → idchars ps ≡ None
some_string [] h = absurd (omega (arith, h))
some_string (Idchar c ∷ ps) h = ap (option_map (λ cs. c ∷ cs)) (some_string ps h)
some_string (Quoted v ∷ ps) h = refl

-- no strings: the kind of the word
pub kind_of_word : (w : List ℕ) (ps : List Piece) (kind : TokenKind) → idchars ps ≡ Some w → WordKind w kind → RunKind ps kind
kind_of_word w [] kind e h = subst (λ o. MatchOption o (kind ≡ Reserved) (λ x. WordKind x kind)) (sym e) h
kind_of_word w (Quoted v ∷ ps) kind e h = absurd cc
kind_of_word w (Idchar c ∷ []) kind e h = subst (λ o. MatchOption o (kind ≡ Reserved) (λ x. WordKind x kind)) (sym e) h
kind_of_word w (Idchar c ∷ Idchar d ∷ ps) kind e h = subst (λ o. MatchOption o (kind ≡ Reserved) (λ x. WordKind x kind)) (sym e) h
kind_of_word w (Idchar c ∷ Quoted v ∷ ps) kind e h = absurd cc

-- a string and two other pieces
pub kind_of_many : (ps : List Piece) → 0 < string_count ps → (1 < string_count ps) ⊎ (1 < idchar_count ps) → RunKind ps Reserved
kind_of_many [] h m = absurd (omega (arith, h))
kind_of_many (Quoted v ∷ []) h (inl m) = absurd (omega (arith, m))
kind_of_many (Quoted v ∷ []) h (inr m) = absurd (omega (arith, m))
kind_of_many (Quoted v ∷ p ∷ ps) h m = refl
kind_of_many (Idchar c ∷ []) h m = absurd (omega (arith, h))
kind_of_many (Idchar c ∷ Quoted v ∷ []) h (inl m) = absurd (omega (arith, m))
kind_of_many (Idchar c ∷ Quoted v ∷ []) h (inr m) = absurd (omega (arith, m))
kind_of_many (Idchar c ∷ Quoted v ∷ p ∷ ps) h m = refl
kind_of_many (Idchar c ∷ Idchar d ∷ ps) h m = subst (λ o. MatchOption o (Reserved ≡ Reserved) (λ x. WordKind x Reserved)) (sym (some_string (Idchar c ∷ Idchar d ∷ ps) h)) refl

first_idchar : (flags : Settings) (w : List ℕ) (c : ℕ) (ps : List Piece) → Run flags w (Idchar c ∷ ps) [] → (rest : List ℕ) × (encodes w ≡ c ∷ rest)
first_idchar flags w c ps (idchar {t = t} h k) = (encodes t, ap (λ x. x ++ encodes t) (encode_ascii c (idchar_ascii c h)))

first_quoted : (flags : Settings) (w v : List ℕ) (ps : List Piece) → Run flags w (Quoted v ∷ ps) [] → (rest : List ℕ) × (encodes w ≡ 34 ∷ rest)
unfolding encode
first_quoted flags w v ps (string {t = t} h k) = (encodes t, refl)

-- one string and one idchar
pub kind_of_two : (flags : Settings) (w : List ℕ) (ps : List Piece) → Run flags w ps [] → string_count ps ≡ 1 → idchar_count ps ≡ 1 → RunKind ps (named_kind (encodes w))
kind_of_two flags w [] r h m = absurd (omega (arith, h))
kind_of_two flags w (Quoted v ∷ []) r h m = absurd (omega (arith, m))
kind_of_two flags w (Quoted v ∷ p ∷ ps) r h m = ap named_kind (first_quoted flags w v (p ∷ ps) r).1
kind_of_two flags w (Idchar c ∷ []) r h m = absurd (omega (arith, h))
kind_of_two flags w (Idchar c ∷ Quoted v ∷ []) r h m = ap named_kind (first_idchar flags w c (Quoted v ∷ []) r).1
kind_of_two flags w (Idchar c ∷ Quoted v ∷ Quoted u ∷ ps) r h m = absurd (omega (arith, h))
kind_of_two flags w (Idchar c ∷ Quoted v ∷ Idchar d ∷ ps) r h m = absurd (omega (arith, m))
kind_of_two flags w (Idchar c ∷ Idchar d ∷ ps) r h m = absurd (omega (arith, m))

-- the kinds that runs have
abbrev pub is_run_kind : TokenKind → Bool
is_run_kind LineComment = false
is_run_kind BlockComment = false
is_run_kind Whitespace = false
is_run_kind LParen = false
is_run_kind RParen = false
is_run_kind String = true
is_run_kind Id = true
is_run_kind Keyword = true
is_run_kind Annotation = true
is_run_kind Reserved = true
is_run_kind (Integer k) = true
is_run_kind (Float k) = true

named : (w : List ℕ) → is_run_kind (named_kind w) ≡ true
named [] = refl
named (c ∷ w) = by (c == 36) (c == 64)
  where
    by : (a b : Bool) → is_run_kind (cond a Id (cond b Annotation Reserved)) ≡ true
    by true b = refl
    by false true = refl
    by false false = refl

by_first : (w : List ℕ) → is_run_kind (kind_by_first w) ≡ true
by_first [] = refl
by_first (c ∷ w) = by (nat_le 97 c && nat_le c 122)
  where
    by : (a : Bool) → is_run_kind (cond a Keyword (named_kind (c ∷ w))) ≡ true
    by true = refl
    by false = named (c ∷ w)

of_number : (w : List ℕ) (kind : TokenKind) → Number w kind → is_run_kind kind ≡ true
of_number w (Integer k) h = refl
of_number w (Float k) h = refl
of_number w LineComment h = absurd h
of_number w BlockComment h = absurd h
of_number w Whitespace h = absurd h
of_number w LParen h = absurd h
of_number w RParen h = absurd h
of_number w String h = refl
of_number w Id h = refl
of_number w Keyword h = refl
of_number w Annotation h = refl
of_number w Reserved h = refl

pub of_word : (w : List ℕ) (kind : TokenKind) → WordKind w kind → is_run_kind kind ≡ true
of_word w kind (inl n) = of_number w kind n
of_word w kind (inr h) = ap is_run_kind h.1 ∙ by_first w

of_option : (o : Option (List ℕ)) (kind : TokenKind) → MatchOption o (kind ≡ Reserved) (λ w. WordKind w kind) → is_run_kind kind ≡ true
of_option None kind h = ap is_run_kind h
of_option (Some w) kind h = of_word w kind h

pub kind_of_run : (ps : List Piece) (kind : TokenKind) → RunKind ps kind → is_run_kind kind ≡ true
kind_of_run [] kind h = of_option (idchars []) kind h
kind_of_run (Quoted v ∷ []) kind h = ap is_run_kind h
kind_of_run (Quoted v ∷ p ∷ ps) kind h = of_option None kind h
kind_of_run (Idchar c ∷ []) kind h = of_option (idchars (Idchar c ∷ [])) kind h
kind_of_run (Idchar c ∷ Quoted v ∷ []) kind h = ap is_run_kind h ∙ named (c ∷ [])
kind_of_run (Idchar c ∷ Quoted v ∷ p ∷ ps) kind h = of_option (idchars (Idchar c ∷ Quoted v ∷ p ∷ ps)) kind h
kind_of_run (Idchar c ∷ Idchar d ∷ ps) kind h = of_option (idchars (Idchar c ∷ Idchar d ∷ ps)) kind h

pub word_of_run : (kind : TokenKind) (w : List ℕ) (flags : Settings) → is_run_kind kind ≡ true → RunWord kind w flags → Word kind w flags
word_of_run LineComment w flags e h = absurd cc
word_of_run BlockComment w flags e h = absurd cc
word_of_run Whitespace w flags e h = absurd cc
word_of_run LParen w flags e h = absurd cc
word_of_run RParen w flags e h = absurd cc
word_of_run String w flags e h = h
word_of_run Id w flags e h = h
word_of_run Keyword w flags e h = h
word_of_run Annotation w flags e h = h
word_of_run Reserved w flags e h = inr h
word_of_run (Integer k) w flags e h = h
word_of_run (Float k) w flags e h = h

pub no_semicolon : (flags : Settings) (w : List ℕ) (ps : List Piece) → Run flags w ps [] → w ≡ 59 ∷ [] → ⊥
no_semicolon flags w ps none e = cc
no_semicolon flags w ps (idchar {c = c} h k) e = let g : c ≡ 59 = cc in both_ways (is_idchar c) (ap is_idchar g) h
no_semicolon flags w ps (string {t = t} h k) e = let g : 34 ≡ 59 = ap (λ x. get_or x 0 0) e in omega (arith, g)

pub ends_of_run : (kind : TokenKind) (w rest : List ℕ) → is_run_kind kind ≡ true → (w ≡ 59 ∷ [] → ⊥) → EndsRun rest → MayFollow kind w rest
ends_of_run LineComment w rest e n h = absurd cc
ends_of_run BlockComment w rest e n h = absurd cc
ends_of_run Whitespace w rest e n h = absurd cc
ends_of_run LParen w rest e n h = absurd cc
ends_of_run RParen w rest e n h = absurd cc
ends_of_run String w rest e n h = h
ends_of_run Id w rest e n h = h
ends_of_run Keyword w rest e n h = h
ends_of_run Annotation w rest e n h = h
ends_of_run Reserved w rest e n h = (λ k. absurd (n k), λ k. h)
ends_of_run (Integer k) w rest e n h = h
ends_of_run (Float k) w rest e n h = h

pub some_pieces : (flags : Settings) (s r : List ℕ) (ps : List Piece) → Run flags s ps r → Begins is_run_char s → (Begins is_run_char r → ⊥) → ps ≢ []
some_pieces flags s r ps none b e = absurd (e b)
some_pieces flags s r ps (idchar h k) b e = λ x. cc
some_pieces flags s r ps (string h k) b e = λ x. cc

pub run_fits : (flags : Settings) (text : List ℕ) (found : Pieces) → RunFound flags text found → found.len ≤ length text
run_fits flags text found f = omega (arith, f.place)

-- a run is a word of any kind that its pieces have
pub run_lexeme : (flags : Settings) (text : List ℕ) (found : Pieces) (kind : TokenKind) → IsUtf8 text → 0 < length text → is_run_char (get_or text 0 0) ≡ true
    → (f : RunFound flags text found) → RunKind f.pieces kind → LexemeFound flags text (record { kind = kind; len = found.len })
run_lexeme flags text found kind u l b f kind_is =
    let t = run_taken flags (chars text) f.pieces f.rest f.run in
    let w = t.prefix in
    let r : Run flags w f.pieces [] = subst (λ x. Run flags x f.pieces []) (append-nil w) (t.again []) in
    let is = kind_of_run f.pieces kind kind_is in
    let c = get_or text 0 0 in
    let begins : Begins is_run_char (chars text) = subst (Begins is_run_char) (sym (led text c u l refl (run_char_ascii c b)).chars) b in
    let some : f.pieces ≢ [] = some_pieces flags (chars text) f.rest f.pieces f.run begins f.ends in
    record {
      word = w;
      rest = f.rest;
      is_at = record { cut = t.cut; word = word_of_run kind w flags is (f.pieces, some, r, kind_is); ends = ends_of_run kind w f.rest is (no_semicolon flags w f.pieces r) f.ends };
      len = omega (arith, ap length (encodes-chars text u), ap size t.cut, size-append w f.rest, f.place);
    }

pub found_run : (flags : Settings) (text : List ℕ) (found : Pieces) (kind : TokenKind) → IsUtf8 text → 0 < length text → is_run_char (get_or text 0 0) ≡ true
    → RunFound flags text found → IsKindOfRun (take found.len text) found.idchars found.strings kind → LexemeFound flags text (record { kind = kind; len = found.len })
found_run flags text found kind u l b f k =
    let t = run_taken flags (chars text) f.pieces f.rest f.run in
    let w = t.prefix in
    let r : Run flags w f.pieces [] = subst (λ x. Run flags x f.pieces []) (append-nil w) (t.again []) in
    let m : found.len ≡ size w = omega (arith, ap length (encodes-chars text u), ap size t.cut, size-append w f.rest, f.place) in
    let p = halves text w f.rest u t.cut in
    let bytes : take found.len text ≡ encodes w = ap (take found.len) p.bytes ∙ take_at (encodes w) (encodes f.rest) found.len (sym m) in
    run_lexeme flags text found kind u l b f (k flags w f.pieces bytes r f.first f.second)
