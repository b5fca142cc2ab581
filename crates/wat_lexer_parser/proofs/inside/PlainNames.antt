-- The name of an annotation that is not a string: it has no escape, and it is not empty if the word is longer than its
-- `@`.
use lib.Utf8.{encode, encodes, scalar}
use Rattle.std.proofs.Common.{◌≡◌, ◌≢◌, ◌⊎◌, ◌+◌, ◌<◌, ℕ, zero, suc, Bool, true, false, List, [], ◌∷◌, ◌++◌, drop, length, length-append, refl, sym, ap, ◌∙◌, subst, inl, inr, arith, add-one, Some, None, Ok}
use Rattle.std.specs.Prelude.{◌==◌, ◌&&◌, nat_le, Option, slice_get, option_map, unwrap_or, if◌then◌else◌}
use Rattle.std.specs.Option.{MatchOption}
use Rattle.std.specs.Str.{all_scalars, chars, IsUtf8}
use Rattle.std.proofs.lemmas.Bool.{and_parts, both_ways, cases_Bool, eqb-true}
use Rattle.std.proofs.lemmas.Str.{encodes-chars, IsUtf8-drop, encode_ascii, length-encode, len_utf8_bounds, scalars-chars}
use Rattle.wat_lex.specs.grammar.Classes.{at_sign, dollar, quote, is_idchar, size, Each}
use Rattle.wat_lex.specs.grammar.Runs.{Piece, Idchar, Quoted, Run, none, idchar, string, idchars, named_kind, kind_by_first, RunKind, WordKind}
use Rattle.wat_lex.specs.grammar.Words.{Word}
use Rattle.wat_lex.specs.tokens.EverySetting.{NamesAreValues, WordsOfTokens}
use Rattle.wat_lex.specs.tokens.ReadableTokens.{IsTokenOf, word_of}
use Rattle.wat_lex.specs.tokens.Setting.{lenient}
use Rattle.wat_lex.specs.values.Names.{HasNone, HasNoEscape, bare}
use Rattle.wat_lex.specs.values.WordValues.{name_value}
use Rattle.wat_lex.specs.declared.lexer.faults.LexError.TheVariants.{EmptyAnnotation}
use Rattle.wat_lex.specs.declared.lexer.kinds.Token.{Token}
use Rattle.wat_lex.specs.declared.lexer.kinds.TokenKind.{TokenKind}
use Rattle.wat_lex.specs.declared.lexer.kinds.TokenKind.TheVariants.{Id, Keyword, Annotation, Reserved}
use Rattle.wat_lexer_parser.specs.inside.Table.{is_quoted}

-- `@` and idchars, or `@` and a string.
abbrev Parts : List ℕ → Type 0
Parts w = (t : List ℕ) × (w ≡ at_sign ∷ t) × (Each is_idchar t ⊎ ((u : List ℕ) × (t ≡ quote ∷ u)))

pub no_quote : (c : ℕ) → is_idchar c ≡ true → (c == quote) ≡ false
no_quote c h = elim (cases_Bool (c == quote)) [
  | inl e ↦ let k : false ≡ true = ap is_idchar (sym (eqb-true c quote e)) ∙ h in cc
  | inr e ↦ e
]

no_quotes : (t : List ℕ) → Each is_idchar t → HasNone quote t
no_quotes [] h = tt
no_quotes (c ∷ t) h = (no_quote c h.0, no_quotes t h.1)

rest_some : (c : ℕ) (o : Option (List ℕ)) (cs : List ℕ) → option_map (λ ds. c ∷ ds) o ≡ Some cs → (ds : List ℕ) × (o ≡ Some ds) × (c ∷ ds ≡ cs)
rest_some c None cs e = cc
rest_some c (Some ds) cs e = (ds, refl, cc)

-- Without a string, the elements of the run are the word.
idchars_are : (w : List ℕ) (ps : List Piece) (cs : List ℕ) → Run lenient w ps [] → idchars ps ≡ Some cs → (w ≡ cs) × Each is_idchar w
idchars_are w ps cs none e = (cc, tt)
idchars_are w ps cs (idchar {c = c} {t = t} {ps = qs} i h) e =
    let r = rest_some c (idchars qs) cs e in
    let k = idchars_are t qs r.0 h r.1 in
    (ap (λ x. c ∷ x) k.0 ∙ r.2, (i, k.1))
idchars_are w ps cs (string q h) e = cc

some_idchars : (o : Option (List ℕ)) → MatchOption o (Annotation ≡ Reserved) (λ w. WordKind w Annotation) → (cs : List ℕ) × (o ≡ Some cs) × WordKind cs Annotation
some_idchars None h = cc
some_idchars (Some cs) h = (cs, refl, h)

at_first : (c : ℕ) (t : List ℕ) → Annotation ≡ named_kind (c ∷ t) → c ≡ at_sign
at_first c t e = elim (cases_Bool (c == at_sign)) [
  | inl h ↦ eqb-true c at_sign h
  | inr h ↦ absurd (other (c == dollar) (e ∙ ap (λ b. if c == dollar then Id else if b then Annotation else Reserved) h))
]
  where
    other : (b : Bool) → Annotation ≡ (if b then Id else if false then Annotation else Reserved) → ⊥
    other true f = cc
    other false f = cc

no_keyword : (b : Bool) (k : TokenKind) → Annotation ≡ (if b then Keyword else k) → Annotation ≡ k
no_keyword true k e = cc
no_keyword false k e = e

by_first : (w : List ℕ) → Annotation ≡ kind_by_first w → Each is_idchar w → Parts w
by_first [] e h = cc
by_first (c ∷ t) e h = (t, ap (λ d. d ∷ t) (at_first c t (no_keyword (nat_le 97 c && nat_le c 122) (named_kind (c ∷ t)) e)), inl h.1)

by_idchars : (w : List ℕ) (ps : List Piece) → Run lenient w ps [] → MatchOption (idchars ps) (Annotation ≡ Reserved) (λ v. WordKind v Annotation) → Parts w
by_idchars w ps h k =
    let r = some_idchars (idchars ps) k in
    let s = idchars_are w ps r.0 h r.1 in
    elim (subst (λ v. WordKind v Annotation) (sym s.0) r.2) [
      | inl n ↦ absurd n
      | inr n ↦ by_first w n.1 s.1
    ]

parts : (w : List ℕ) (ps : List Piece) → Run lenient w ps [] → RunKind ps Annotation → Parts w
parts w [] h k = by_idchars w [] h k
parts w (Quoted v ∷ []) h k = cc
parts w (Quoted v ∷ p ∷ ps) h k = by_idchars w (Quoted v ∷ p ∷ ps) h k
parts w (Idchar c ∷ []) h k = by_idchars w (Idchar c ∷ []) h k
parts w (Idchar c ∷ Quoted v ∷ []) (idchar i (string {t = t} q h)) k = (quote ∷ t, ap (λ d. d ∷ quote ∷ t) (at_first c [] k), inr (t, refl))
parts w (Idchar c ∷ Quoted v ∷ p ∷ ps) h k = by_idchars w (Idchar c ∷ Quoted v ∷ p ∷ ps) h k
parts w (Idchar c ∷ Idchar d ∷ ps) h k = by_idchars w (Idchar c ∷ Idchar d ∷ ps) h k

second_from : (xs : List ℕ) (i c : ℕ) → slice_get (drop i xs) 1 ≡ Some c → slice_get xs (suc i) ≡ Some c
second_from [] zero c e = e
second_from [] (suc i) c e = cc
second_from (x ∷ xs) zero c e = e
second_from (x ∷ xs) (suc i) c e = second_from xs i c e

quoted_bytes : (bs rest : List ℕ) → IsUtf8 bs → chars bs ≡ at_sign ∷ quote ∷ rest → slice_get bs 1 ≡ Some quote
quoted_bytes bs rest u e =
    let f : bs ≡ encode at_sign ++ (encode quote ++ encodes rest) = sym (encodes-chars bs u) ∙ ap encodes e in
    let g : encode at_sign ++ (encode quote ++ encodes rest) ≡ at_sign ∷ quote ∷ encodes rest = ap (λ x. x ++ (encode quote ++ encodes rest)) (encode_ascii at_sign (omega arith)) ∙ ap (λ x. at_sign ∷ (x ++ encodes rest)) (encode_ascii quote (omega arith)) in
    ap (λ x. slice_get x 1) (f ∙ g)

is_quoted_where : (text : List ℕ) (t : Token) → slice_get text (t.offset + 1) ≡ Some quote → is_quoted text t ≡ true
is_quoted_where text t e = ap (λ o. unwrap_or (option_map (λ b. b == quote) o) false) e

-- The word of an annotation whose name is not a string.
record Plain (text : List ℕ) (t : Token) : Type 0 where
  name : List ℕ
  word : word_of text t ≡ at_sign ∷ name
  idchars : Each is_idchar name
  scalars : all_scalars name ≡ true
  len : t.len ≡ size (at_sign ∷ name)

scalars_front : (t rest : List ℕ) → all_scalars (t ++ rest) ≡ true → all_scalars t ≡ true
scalars_front [] rest h = refl
scalars_front (c ∷ t) rest h =
    let p = and_parts (scalar c) (all_scalars (t ++ rest)) h in ap (λ b. b && all_scalars t) p.0 ∙ scalars_front t rest p.1

plain : WordsOfTokens → (text : List ℕ) (t : Token) → IsUtf8 text → IsTokenOf text t → t.kind ≡ Annotation → is_quoted text t ≡ false → Plain text t
plain words text t u r e n =
    let w = subst (λ k. Word k r.word lenient) e r.is in
    let p = parts r.word w.0 w.2 w.3 in
    let v = IsUtf8-drop text t.offset u r.boundary in
    let cut : chars (drop t.offset text) ≡ at_sign ∷ (p.0 ++ r.rest) = r.cut ∙ ap (λ x. x ++ r.rest) p.1 in
    elim p.2 [
      | inl k ↦ record {
        name = p.0;
        word = words text t u r ∙ p.1;
        idchars = k;
        scalars = scalars_front p.0 r.rest (ap all_scalars (sym cut) ∙ scalars-chars (drop t.offset text) v);
        len = r.len ∙ ap size p.1;
      }
      | inr k ↦
          let there : slice_get text (t.offset + 1) ≡ Some quote =
          ap (slice_get text) (add-one t.offset) ∙ second_from text t.offset quote (quoted_bytes (drop t.offset text) (k.0 ++ r.rest) v (cut ∙ ap (λ x. at_sign ∷ (x ++ r.rest)) k.1)) in
          absurd (both_ways (is_quoted text t) n (is_quoted_where text t there))
    ]

pub plain_name : WordsOfTokens → (text : List ℕ) (t : Token) → IsUtf8 text → IsTokenOf text t → t.kind ≡ Annotation → is_quoted text t ≡ false → HasNoEscape (word_of text t)
plain_name words text t u r e n = let p = plain words text t u r e n in inl (subst (HasNone quote) (sym p.word) (refl, no_quotes p.name p.idchars))

some_bytes : (t : List ℕ) → 1 < size (at_sign ∷ t) → encodes t ≢ []
unfolding encode
some_bytes [] h = absurd (omega (arith, h))
some_bytes (c ∷ t) h = λ e. absurd (omega (arith, ap length e, length-append (encode c) (encodes t), length-encode c, (len_utf8_bounds c).0))

-- Such a word that is longer than its `@` has a name.
pub plain_value : WordsOfTokens → NamesAreValues → (text : List ℕ) (t : Token) → IsUtf8 text → IsTokenOf text t → t.kind ≡ Annotation → is_quoted text t ≡ false → 1 < t.len → (x : List ℕ) × (name_value EmptyAnnotation (word_of text t) ≡ Ok x)
plain_value words values text t u r e n l =
    let p = plain words text t u r e n in
    (encodes p.name, ap (name_value EmptyAnnotation) p.word ∙ values.good EmptyAnnotation (at_sign ∷ p.name) (encodes p.name) (bare p.idchars) (p.name, (p.scalars, refl)) (some_bytes p.name (subst (λ n. 1 < n) p.len l)))
