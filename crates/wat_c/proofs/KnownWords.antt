-- The range that is reported for a string literal or a name, and that it is unique.
use Rattle.std.proofs.Common.{◌≡◌, ◌≢◌, ◌<◌, ◌≤◌, ◌+◌, ◌-◌, ℕ, zero, suc, List, [], ◌∷◌, length, take, drop, refl, ap, sym, ◌∙◌, subst, arith, inl, inr, Bool, true, false, length-append}
use Rattle.std.specs.Prelude.{if◌then◌else◌, Result, Ok, Err}
use Rattle.std.specs.Str.{chars, IsUtf8}
use Rattle.std.proofs.lemmas.List.{drop-take, take-take, drop-drop, nil_from_length}
use Rattle.wat_lex.specs.grammar.Strings.{StringWord}
use Rattle.wat_lex.specs.grammar.Words.{Word as Spells}
use Rattle.wat_lex.specs.tokens.EverySetting.{NamesExist, IsNameWord}
use Rattle.wat_lex.specs.tokens.Setting.{lenient}
use Rattle.wat_lex.specs.values.Names.{Name, no_name, HasNone, HasNoEscape}
use Rattle.wat_lex.specs.values.WordValues.{empty_name}
use Rattle.wat_lex.specs.declared.lexer.faults.LexError.TheVariants.{EmptyId}
use Rattle.wat_lex.specs.declared.lexer.kinds.Token.{Token}
use Rattle.wat_lex.specs.declared.lexer.kinds.TokenKind.{TokenKind}
use Rattle.wat_lex.specs.declared.lexer.kinds.TokenKind.TheVariants.{String}
use Rattle.wat_lexer_parser.specs.parser.Takers.{contains}
use Rattle.wat_c_records.specs.Rows.{fault_code}
use Rattle.wat_c.specs.Readings.{IsNamed, ReadsName}
use Rattle.wat_c.specs.Words.{ReadsValue, IsPlain, before, after, no_word, TellsWord, given, escaped, nameless}
use Rattle.wat_c.specs.declared.answers.Refusal.{Refusal}
use Rattle.wat_c.specs.declared.answers.Refusal.TheVariants.{Fault}
use Rattle.wat_c.specs.declared.words.Word.{Word}
use Rattle.wat_c.proofs.WordPlaces.{between, StringBytes, NameBytes, NameAt, name_bytes}

-- a part of a token's text, in the text
pub slice_in : (text : List ℕ) (o l i n : ℕ) → i + n ≤ l → take n (drop i (take l (drop o text))) ≡ take n (drop (o + i) text)
slice_in text o l i n h =
    let e : l ≡ i + (l - i) = omega arith in
    ap (λ x. take n (drop i (take x (drop o text)))) e ∙ ap (take n) (drop-take i (l - i) (drop o text)) ∙ take-take n (l - i) (drop i (drop o text)) (omega arith)
    ∙ ap (take n) (drop-drop i o text)

abbrev token : ℕ → ℕ → TokenKind → Token
token o l k = record { offset = o; len = l; kind = k }

-- ---- strings

string_by : (text : List ℕ) (o l : ℕ) (b : List ℕ) (word : Word) → b ≡ take l (drop o text) → length b ≡ l → StringBytes b → HasNone 92 (chars b)
    → word.start ≡ o + 1 → word.len ≡ l - 2 → word.status ≡ 0 → TellsWord text (token o l String) word
string_by text o l b word eb el sb free s n z =
    let whole : 2 + length sb.value ≡ l = omega (arith, ap length sb.cut, length-append sb.value (34 ∷ []), el) in
    let len : length sb.value ≡ word.len = omega (arith, whole, n) in
    let there : sb.value ≡ take word.len (drop word.start text) =
    sym (between b (34 ∷ []) sb.value (34 ∷ []) word.len sb.cut len) ∙ ap (λ x. take word.len (drop 1 x)) eb ∙ slice_in text o l 1 word.len (omega (arith, whole, len))
    ∙ ap (λ x. take word.len (drop x text)) (sym s) in
    given z (record {
      kind = inl refl;
      plain = subst (λ x. HasNone 92 (chars x)) eb free;
      begins = s;
      ends = omega (arith, s, n, whole);
      reads = subst (StringWord lenient (chars (take l (drop o text)))) there (subst (λ x. StringWord lenient (chars x) sb.value) eb sb.is);
    })

pub string_given : (text : List ℕ) (o l : ℕ) (k : TokenKind) (b : List ℕ) (word : Word) → k ≡ String → b ≡ take l (drop o text) → length b ≡ l → StringBytes b → HasNone 92 (chars b)
    → word.start ≡ o + 1 → word.len ≡ l - 2 → word.status ≡ 0 → TellsWord text (token o l k) word
string_given text o l k b word e eb el sb free s n z = subst (λ x. TellsWord text (token o l x) word) (sym e) (string_by text o l b word eb el sb free s n z)

pub string_escaped : (text : List ℕ) (o l : ℕ) (k : TokenKind) (b : List ℕ) (word : Word) → k ≡ String → b ≡ take l (drop o text) → (HasNone 92 (chars b) → ⊥)
    → word ≡ no_word 4 → TellsWord text (token o l k) word
string_escaped text o l k b word e eb esc w =
    let at : TellsWord text (token o l String) word = escaped w (inl refl) (λ h. esc (subst (λ x. HasNone 92 (chars x)) (sym eb) h)) in
    subst (λ x. TellsWord text (token o l x) word) (sym e) at

-- ---- names

plain_named : (k : TokenKind) (w : List ℕ) → IsNamed k → HasNoEscape w → IsPlain k w
plain_named k w (inl e) h = subst (λ x. IsPlain x w) (sym e) h
plain_named k w (inr e) h = subst (λ x. IsPlain x w) (sym e) h

named_plain : (k : TokenKind) (w : List ℕ) → IsNamed k → IsPlain k w → HasNoEscape w
named_plain k w (inl e) h = subst (λ x. IsPlain x w) e h
named_plain k w (inr e) h = subst (λ x. IsPlain x w) e h

before_named : (k : TokenKind) (w : List ℕ) (q : Bool) → IsNamed k → contains 34 w ≡ q → before k w ≡ (if q then 2 else 1)
before_named k w q (inl e) h = ap (λ x. before x w) e ∙ ap (λ b. if b then 2 else 1) h
before_named k w q (inr e) h = ap (λ x. before x w) e ∙ ap (λ b. if b then 2 else 1) h

after_named : (k : TokenKind) (w : List ℕ) (q : Bool) → IsNamed k → contains 34 w ≡ q → after k w ≡ (if q then 1 else 0)
after_named k w q (inl e) h = ap (λ x. after x w) e ∙ ap (λ b. if b then 1 else 0) h
after_named k w q (inr e) h = ap (λ x. after x w) e ∙ ap (λ b. if b then 1 else 0) h

reads_named : (k : TokenKind) (text : List ℕ) (t : Token) (f : Result (List ℕ) Refusal) → IsNamed k → ReadsName text t f → ReadsValue k text t f
reads_named k text t f (inl e) h = subst (λ x. ReadsValue x text t f) (sym e) h
reads_named k text t f (inr e) h = subst (λ x. ReadsValue x text t f) (sym e) h

-- A name after the first `front` and before the last `back` bytes of its lexeme.
module _ (text : List ℕ) (o l : ℕ) (k : TokenKind) (b : List ℕ) (word : Word) (front back : ℕ) (named : IsNamed k) (eb : b ≡ take l (drop o text)) (el : length b ≡ l)
    (at : NameAt b front back) where
  name_given : before k (chars b) ≡ front → after k (chars b) ≡ back → 0 < length at.value → word ≡ record { start = o + front; len = l - front - back; status = 0 }
      → TellsWord text (token o l k) word
  name_given f r some w =
      let s : word.start ≡ o + front = ap (λ x. x.start) w in
      let n : word.len ≡ l - front - back = ap (λ x. x.len) w in
      let fits = at.fits in
      let len : length at.value ≡ word.len = omega (arith, n, fits, el) in
      let there : at.value ≡ take word.len (drop word.start text) =
      sym at.there ∙ ap (λ m. take m (drop front b)) len ∙ ap (λ x. take word.len (drop front x)) eb ∙ slice_in text o l front word.len (omega (arith, fits, el, len))
      ∙ ap (λ x. take word.len (drop x text)) (sym s) in
      let value : Name (chars (take l (drop o text))) (take word.len (drop word.start text)) =
      subst (Name (chars (take l (drop o text)))) there (subst (λ x. Name (chars x) at.value) eb at.named) in
      let full : take word.len (drop word.start text) ≢ [] = λ e. (let z = ap length (there ∙ e) in absurd (omega (arith, z, some))) in
      given (ap (λ x. x.status) w) (record {
        kind = inr named;
        plain = plain_named k (chars (take l (drop o text))) named (subst (λ x. HasNoEscape (chars x)) eb at.plain);
        begins = s ∙ ap (λ x. o + x) (sym f ∙ ap (λ x. before k (chars x)) eb);
        ends = omega (arith, s, n, fits, el, r, ap (λ x. after k (chars x)) eb);
        reads = reads_named k text (token o l k) (Ok (take word.len (drop word.start text))) named (value, subst IsUtf8 there at.utf8, full);
      })

  name_empty : length at.value ≡ 0 → word ≡ no_word (fault_code (empty_name k)) → TellsWord text (token o l k) word
  name_empty z w =
      let none : at.value ≡ [] = nil_from_length at.value z in
      let value : Name (chars (take l (drop o text))) [] = subst (λ x. Name (chars x) []) eb (subst (Name (chars b)) none at.named) in
      nameless w (inr named) (plain_named k (chars (take l (drop o text))) named (subst (λ x. HasNoEscape (chars x)) eb at.plain))
      (reads_named k text (token o l k) (Err (Fault (empty_name k))) named (no_name value))

  pub name_known : before k (chars b) ≡ front → after k (chars b) ≡ back → (l ≡ front + back → word ≡ no_word (fault_code (empty_name k)))
      → (front + back < l → word ≡ record { start = o + front; len = l - front - back; status = 0 }) → TellsWord text (token o l k) word
  name_known f r empty some = by (length at.value) refl
    where
      by : (n : ℕ) → length at.value ≡ n → TellsWord text (token o l k) word
      by zero e = let fits = at.fits in name_empty e (empty (omega (arith, fits, el, e)))
      by (suc n) e = let fits = at.fits in name_given f r (omega (arith, e)) (some (omega (arith, fits, el, e)))

pub name_escaped : (text : List ℕ) (o l : ℕ) (k : TokenKind) (b : List ℕ) (word : Word) → IsNamed k → b ≡ take l (drop o text) → (HasNoEscape (chars b) → ⊥)
    → word ≡ no_word 4 → TellsWord text (token o l k) word
name_escaped text o l k b word named eb esc w =
    escaped w (inr named) (λ h. esc (subst (λ x. HasNoEscape (chars x)) (sym eb) (named_plain k (chars (take l (drop o text))) named h)))

pub bare_known : (k : TokenKind) (w : List ℕ) → IsNamed k → contains 34 w ≡ false → (before k w ≡ 1) × (after k w ≡ 0)
bare_known k w n h = (before_named k w false n h, after_named k w false n h)

pub quoted_known : (k : TokenKind) (w : List ℕ) → IsNamed k → contains 34 w ≡ true → (before k w ≡ 2) × (after k w ≡ 1)
quoted_known k w n h = (before_named k w true n h, after_named k w true n h)

pub named_word : NamesExist → (b : List ℕ) (k : TokenKind) → IsUtf8 b → IsNamed k → Spells k (chars b) lenient → NameBytes b
named_word there b k u named word = name_bytes EmptyId b k u named word (there EmptyId (chars b) (is named))
  where
    is : IsNamed k → IsNameWord (chars b)
    is (inl e) = inl (subst (λ x. Spells x (chars b) lenient) e word)
    is (inr e) = inr (subst (λ x. Spells x (chars b) lenient) e word)

pub at_kind : (text : List ℕ) (o l : ℕ) (k x : TokenKind) (word : Word) → k ≡ x → TellsWord text (token o l x) word → TellsWord text (token o l k) word
at_kind text o l k x word e h = subst (λ y. TellsWord text (token o l y) word) (sym e) h
