-- The words of number tokens are ASCII.
use Rattle.std.proofs.Common.{◌≡◌, ◌<◌, ℕ, zero, suc, List, [], ◌∷◌, refl, arith, ap, sym, ◌∙◌, subst, Bool, true, false, cond, inl, inr}
use Rattle.std.specs.Prelude.{Option, Some, None, MatchOption, ◌==◌, ◌&&◌, nat_le}
use Rattle.std.proofs.lemmas.Str.{encodes-chars}
use Rattle.std.specs.Str.{chars, IsUtf8, IsAscii}
use Rattle.wat_lex.specs.grammar.Numbers.{Number}
use Rattle.wat_lex.specs.grammar.Runs.{Piece, Idchar, Quoted, Run, none, idchar, string, idchars, RunKind, RunWord, WordKind, named_kind, kind_by_first}
use Rattle.wat_lex.specs.inside.ScannedRuns.{string_count}
use Rattle.wat_lex.specs.tokens.Setting.{lenient}
use Rattle.wat_lex.specs.grammar.Words.{Word}
use Rattle.wat_lex.specs.declared.lexer.settings.Settings.{Settings}
use Rattle.wat_lex.specs.declared.lexer.kinds.IntegerKind.{IntegerKind}
use Rattle.wat_lex.specs.declared.lexer.kinds.FloatKind.{FloatKind}
use Rattle.wat_lex.specs.declared.lexer.kinds.TokenKind.{TokenKind}
use Rattle.wat_lex.specs.declared.lexer.kinds.TokenKind.TheVariants.{Id, Keyword, Annotation, Reserved, Integer, Float}
use Rattle.wat_lex.proofs.inside.LineComments.{idchar_ascii}
use Rattle.wat_lex.proofs.grammar.RunKinds.{no_strings, some_string}

abbrev is_number : TokenKind → Bool
is_number (Integer k) = true
is_number (Float k) = true
is_number kind = false

named : (c : ℕ) (kind : TokenKind) → is_number kind ≡ true → kind ≡ named_kind (c ∷ []) → ⊥
named c kind n e = by (c == 36) (c == 64) (sym n ∙ ap is_number e)
  where
    by : (a b : Bool) → true ≡ is_number (cond a Id (cond b Annotation Reserved)) → ⊥
    by true b h = cc
    by false true h = cc
    by false false h = cc

by_first : (w : List ℕ) → is_number (kind_by_first w) ≡ false
by_first [] = refl
by_first (c ∷ w) = by (nat_le 97 c && nat_le c 122) (c == 36) (c == 64)
  where
    by : (a b d : Bool) → is_number (cond a Keyword (cond b Id (cond d Annotation Reserved))) ≡ false
    by true b d = refl
    by false true d = refl
    by false false true = refl
    by false false false = refl

-- a run of a number's kind is idchars only
pub record NumberRun (ps : List Piece) (kind : TokenKind) : Type 0 where
  pub word : List ℕ
  pub same : idchars ps ≡ Some word
  pub is : Number word kind

of_option : (ps : List Piece) (o : Option (List ℕ)) (kind : TokenKind) → idchars ps ≡ o → is_number kind ≡ true → MatchOption o (kind ≡ Reserved) (λ w. WordKind w kind) → NumberRun ps kind
of_option ps None kind e n h = let k = sym n ∙ ap is_number h in absurd cc
of_option ps (Some w) kind e n (inl h) = record { word = w; same = e; is = h }
of_option ps (Some w) kind e n (inr h) = let k = sym n ∙ ap is_number h.1 ∙ by_first w in absurd cc

number_run : (ps : List Piece) (kind : TokenKind) → is_number kind ≡ true → RunKind ps kind → NumberRun ps kind
number_run [] kind n h = of_option [] (idchars []) kind refl n h
number_run (Quoted v ∷ []) kind n h = let k = sym n ∙ ap is_number h in absurd cc
number_run (Quoted v ∷ p ∷ ps) kind n h = of_option (Quoted v ∷ p ∷ ps) (idchars (Quoted v ∷ p ∷ ps)) kind refl n h
number_run (Idchar c ∷ []) kind n h = of_option (Idchar c ∷ []) (idchars (Idchar c ∷ [])) kind refl n h
number_run (Idchar c ∷ Quoted v ∷ []) kind n h = absurd (named c kind n h)
number_run (Idchar c ∷ Quoted v ∷ p ∷ ps) kind n h = of_option (Idchar c ∷ Quoted v ∷ p ∷ ps) (idchars (Idchar c ∷ Quoted v ∷ p ∷ ps)) kind refl n h
number_run (Idchar c ∷ Idchar d ∷ ps) kind n h = of_option (Idchar c ∷ Idchar d ∷ ps) (idchars (Idchar c ∷ Idchar d ∷ ps)) kind refl n h

ascii_more : (c : ℕ) (s : List ℕ) → c < 128 → IsAscii s → IsAscii (c ∷ s)
ascii_more c s h k zero = h
ascii_more c s h k (suc i) = k i

ascii_none : IsAscii []
ascii_none i = omega arith

ascii_run : (flags : Settings) (w : List ℕ) (ps : List Piece) → Run flags w ps [] → string_count ps ≡ 0 → IsAscii w
ascii_run flags w ps none e = ascii_none
ascii_run flags w ps (idchar {c = c} {t = t} {ps = qs} h k) e = ascii_more c t (idchar_ascii c h) (ascii_run flags t qs k e)
ascii_run flags w ps (string {ps = qs} h k) e = absurd (omega (arith, e))

strings_none : (ps : List Piece) (w : List ℕ) → idchars ps ≡ Some w → string_count ps ≡ 0
strings_none ps w e = by (string_count ps) refl
  where
    by : (n : ℕ) → string_count ps ≡ n → string_count ps ≡ 0
    by zero h = h
    by (suc n) h = let k : Some w ≡ None = sym e ∙ some_string ps (omega (arith, h)) in absurd cc

-- The bytes of a number are its characters.
pub record NumberText (text : List ℕ) (kind : TokenKind) : Type 0 where
  pub ascii : IsAscii text
  pub same : chars text ≡ text
  pub is : Number text kind

number_text : (text : List ℕ) (kind : TokenKind) → IsUtf8 text → is_number kind ≡ true → RunWord kind (chars text) lenient → NumberText text kind
number_text text kind u n h =
    let ps = h.0 in
    let r = number_run ps kind n h.3 in
    let z = strings_none ps r.word r.same in
    let p = no_strings lenient (chars text) ps h.2 z in
    let s : chars text ≡ text = sym p.bytes ∙ encodes-chars text u in
    let w : r.word ≡ chars text = let k : Some r.word ≡ Some (chars text) = sym r.same ∙ p.same in cc in
    record {
      ascii = subst IsAscii s (ascii_run lenient (chars text) ps h.2 z);
      same = s;
      is = subst (λ x. Number x kind) (w ∙ s) r.is;
    }

pub integer_word : (text : List ℕ) (kind : TokenKind) (k : IntegerKind) → IsUtf8 text → kind ≡ Integer k → Word kind (chars text) lenient → NumberText text (Integer k)
integer_word text kind k u e h = number_text text (Integer k) u refl (subst (λ x. Word x (chars text) lenient) e h)

pub float_word : (text : List ℕ) (kind : TokenKind) (k : FloatKind) → IsUtf8 text → kind ≡ Float k → Word kind (chars text) lenient → NumberText text (Float k)
float_word text kind k u e h = number_text text (Float k) u refl (subst (λ x. Word x (chars text) lenient) e h)
