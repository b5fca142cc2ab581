-- The words of strings and names.
use Rattle.std.proofs.Common.{◌≡◌, ◌≢◌, ◌<◌, ◌≤◌, length, ◌++◌, ◌⊎◌, drop, arith, ℕ, List, [], ◌∷◌, refl, ap, sym, ◌∙◌, subst, Bool, true, false, cond, inl, inr}
use Rattle.std.specs.Prelude.{Some, None, Option, MatchOption, IsTrue, ◌==◌, ◌&&◌, nat_le}
use Rattle.std.specs.Option.{option_map}
use Rattle.std.proofs.lemmas.Bool.{both_ways, ne_eqb, false≢true}
use Rattle.std.proofs.lemmas.List.{nil_from_length}
use Rattle.std.proofs.lemmas.Str.{chars_past_char, encode_ascii, encodes-chars}
use Rattle.std.specs.Str.{chars, IsUtf8, IsCharBoundary}
use lib.Utf8.{encodes}
use Rattle.wat_lex.specs.grammar.Classes.{Each, is_idchar}
use Rattle.wat_lex.specs.values.Names.{Name, Named, bare, quoted as named_string, HasNone, HasNoEscape, IsNamed, IsQuoted, NameFault, no_name, not_utf8}
use Rattle.wat_lex.specs.grammar.Numbers.{Number}
use Rattle.wat_lex.specs.grammar.Runs.{Piece, Idchar, Quoted, Run, none, idchar, string, idchars, RunKind, RunWord, WordKind, named_kind, kind_by_first}
use Rattle.wat_lex.specs.tokens.Setting.{lenient}
use Rattle.wat_lex.specs.grammar.Strings.{Quoted as Elements, StringWord, quoted}
use Rattle.wat_lex.specs.grammar.Words.{Word}
use Rattle.wat_lex.specs.declared.lexer.faults.LexError.{LexError}
use Rattle.wat_lex.specs.declared.lexer.faults.LexError.TheVariants.{InvalidUtf8Id}
use Rattle.wat_lex.specs.declared.lexer.kinds.TokenKind.{TokenKind}
use Rattle.wat_lex.specs.declared.lexer.kinds.TokenKind.TheVariants.{LineComment, BlockComment, Whitespace, LParen, RParen, String, Id, Keyword, Annotation, Reserved, Integer, Float}
use Rattle.wat_lex.proofs.inside.LineComments.{idchar_ascii}
use Rattle.wat_lex.proofs.values.StringValues.{seam_one}

abbrev is_string : TokenKind → Bool
is_string LineComment = false
is_string BlockComment = false
is_string Whitespace = false
is_string LParen = false
is_string RParen = false
is_string String = true
is_string Id = false
is_string Keyword = false
is_string Annotation = false
is_string Reserved = false
is_string (Integer k) = false
is_string (Float k) = false

named_other : (w : List ℕ) → is_string (named_kind w) ≡ false
named_other [] = refl
named_other (c ∷ w) = by (c == 36) (c == 64)
  where
    by : (a b : Bool) → is_string (cond a Id (cond b Annotation Reserved)) ≡ false
    by true b = refl
    by false true = refl
    by false false = refl

first_other : (w : List ℕ) → is_string (kind_by_first w) ≡ false
first_other [] = refl
first_other (c ∷ w) = by (nat_le 97 c && nat_le c 122)
  where
    by : (a : Bool) → is_string (cond a Keyword (named_kind (c ∷ w))) ≡ false
    by true = refl
    by false = named_other (c ∷ w)

not_string : (kind : TokenKind) → String ≡ kind → is_string kind ≡ false → ⊥
not_string kind e f = both_ways (is_string kind) f (sym (ap is_string e))

no_word : (o : Option (List ℕ)) → MatchOption o (String ≡ Reserved) (λ x. WordKind x String) → ⊥
no_word None e = not_string Reserved e refl
no_word (Some x) (inl e) = e
no_word (Some x) (inr e) = not_string (kind_by_first x) e.1 (first_other x)

-- where the word ends after a string, the string's rest is nothing
elements_end : (t v m : List ℕ) → Elements lenient t v m → Run lenient m [] [] → Elements lenient t v []
elements_end t v m h none = h

record Opened (w v : List ℕ) : Type 0 where
  elements : List ℕ
  cut : w ≡ 34 ∷ elements
  is : Elements lenient elements v []

opened : (w v : List ℕ) → Run lenient w (Quoted v ∷ []) [] → Opened w v
opened w v (string {t = t} {m = m} e r) = record { elements = t; cut = refl; is = elements_end t v m e r }

string_of : (w : List ℕ) (ps : List Piece) → Run lenient w ps [] → RunKind ps String → (v : List ℕ) × Opened w v
string_of w [] r k = absurd (no_word (idchars []) k)
string_of w (Quoted v ∷ []) r k = (v, opened w v r)
string_of w (Quoted v ∷ p ∷ ps) r k = absurd (no_word None k)
string_of w (Idchar c ∷ []) r k = absurd (no_word (idchars (Idchar c ∷ [])) k)
string_of w (Idchar c ∷ Quoted v ∷ []) r k = absurd (not_string (named_kind (c ∷ [])) k (named_other (c ∷ [])))
string_of w (Idchar c ∷ Quoted v ∷ p ∷ ps) r k = absurd (no_word None k)
string_of w (Idchar c ∷ Idchar d ∷ ps) r k = absurd (no_word (idchars (Idchar c ∷ Idchar d ∷ ps)) k)

-- a string's elements come after its first character, a quote
pub string_word : (kind : TokenKind) (w : List ℕ) → kind ≡ String → Word kind w lenient → (t : List ℕ) × (w ≡ 34 ∷ t) × IsQuoted t
string_word kind w e h =
    let r : RunWord String w lenient = subst (λ k. Word k w lenient) e h in
    let o = string_of w r.0 r.2 r.3 in
    (o.1.elements, o.1.cut, (o.0, o.1.is))

some_head : (c : ℕ) (o : Option (List ℕ)) (x : List ℕ) → option_map (λ cs. c ∷ cs) o ≡ Some x → (cs : List ℕ) × (o ≡ Some cs)
some_head c None x e = cc
some_head c (Some cs) x e = (cs, refl)

all_idchars : (w : List ℕ) (ps : List Piece) (x : List ℕ) → Run lenient w ps [] → idchars ps ≡ Some x → Each is_idchar w
all_idchars w ps x none e = tt
all_idchars w ps x (idchar {c = c} {t = t} {ps = qs} h r) e = let s = some_head c (idchars qs) x e in (h, all_idchars t qs s.0 r s.1)
all_idchars w ps x (string h r) e = cc

-- not the reserved kind, so idchars only
idchars_of : (kind : TokenKind) (o : Option (List ℕ)) → (kind ≡ Reserved → ⊥) → MatchOption o (kind ≡ Reserved) (λ x. WordKind x kind) → (x : List ℕ) × (o ≡ Some x) × WordKind x kind
idchars_of kind None n k = absurd (n k)
idchars_of kind (Some x) n k = (x, refl, k)

-- a name after a first character that is neither a quote nor a backslash
pub record Led (w : List ℕ) : Type 0 where
  pub first : ℕ
  pub rest : List ℕ
  pub cut : w ≡ first ∷ rest
  pub ascii : first < 128
  pub no_quote : (first == 34) ≡ false
  pub no_backslash : (first == 92) ≡ false
  pub named : IsNamed rest

led_by : (w : List ℕ) (c : ℕ) (t : List ℕ) → w ≡ c ∷ t → IsTrue (is_idchar c) → (c ≡ 92 → ⊥) → IsNamed t → Led w
led_by w c t e h n k = record {
  first = c;
  rest = t;
  cut = e;
  ascii = idchar_ascii c h;
  no_quote = ne_eqb c 34 (λ q. both_ways (is_idchar c) (ap is_idchar q) h);
  no_backslash = ne_eqb c 92 n;
  named = k;
}

some_tail : (c : ℕ) (cs x : List ℕ) → Some (c ∷ cs) ≡ Some x → x ≡ c ∷ cs
some_tail c cs x e = cc

word_kind_first : (kind : TokenKind) (c : ℕ) (x : List ℕ) → (kind ≡ Reserved → ⊥) → (Number (c ∷ x) kind → ⊥) → WordKind (c ∷ x) kind → c ≡ 92 → ⊥
word_kind_first kind c x n m (inl k) e = m k
word_kind_first kind c x n m (inr k) e = n (k.1 ∙ ap (λ y. kind_by_first (y ∷ x)) e)

bare_word : (kind : TokenKind) (w : List ℕ) (c : ℕ) (ps : List Piece) (x : List ℕ) → (kind ≡ Reserved → ⊥) → ((y : List ℕ) → Number y kind → ⊥) → Run lenient w (Idchar c ∷ ps) [] → idchars (Idchar c ∷ ps) ≡ Some x → WordKind x kind → Led w
bare_word kind w c ps x n m (idchar {t = t} h r) e k =
    let s = some_head c (idchars ps) x e in
    let is : x ≡ c ∷ s.0 = some_tail c s.0 x (ap (option_map (λ cs. c ∷ cs)) (sym s.1) ∙ e) in
    led_by (c ∷ t) c t refl h (word_kind_first kind c s.0 n (m (c ∷ s.0)) (subst (λ y. WordKind y kind) is k)) (_, bare (all_idchars t ps s.0 r s.1))

quoted_name : (kind : TokenKind) (w : List ℕ) (c : ℕ) (v : List ℕ) → (kind ≡ Reserved → ⊥) → kind ≡ named_kind (c ∷ []) → Run lenient w (Idchar c ∷ Quoted v ∷ []) [] → Led w
quoted_name kind w c v n k (idchar {t = t} h r) =
    let o = opened t v r in
    led_by (c ∷ t) c t refl h (λ e. n (k ∙ ap (λ y. named_kind (y ∷ [])) e)) (v, subst (λ x. Named x v) (sym o.cut) (named_string (quoted o.is)))

name_of : (kind : TokenKind) (w : List ℕ) (ps : List Piece) → (kind ≡ String → ⊥) → (kind ≡ Reserved → ⊥) → ((y : List ℕ) → Number y kind → ⊥) → (ps ≡ [] → ⊥) → Run lenient w ps [] → RunKind ps kind → Led w
name_of kind w [] s n m e r k = absurd (e refl)
name_of kind w (Quoted v ∷ []) s n m e r k = absurd (s k)
name_of kind w (Quoted v ∷ p ∷ ps) s n m e r k = absurd (n k)
name_of kind w (Idchar c ∷ []) s n m e r k = let x = idchars_of kind (idchars (Idchar c ∷ [])) n k in bare_word kind w c [] x.0 n m r x.1 x.2
name_of kind w (Idchar c ∷ Quoted v ∷ []) s n m e r k = quoted_name kind w c v n k r
name_of kind w (Idchar c ∷ Quoted v ∷ p ∷ ps) s n m e r k = absurd (n k)
name_of kind w (Idchar c ∷ Idchar d ∷ ps) s n m e r k = let x = idchars_of kind (idchars (Idchar c ∷ Idchar d ∷ ps)) n k in bare_word kind w c (Idchar d ∷ ps) x.0 n m r x.1 x.2

pub name_word : (kind : TokenKind) (w : List ℕ) → (kind ≡ Id) ⊎ (kind ≡ Annotation) → Word kind w lenient → Led w
name_word kind w (inl e) h =
    let r : RunWord Id w lenient = subst (λ k. Word k w lenient) e h in
    name_of Id w r.0 (λ f. cc) (λ f. cc) (λ y n. n) r.1 r.2 r.3
name_word kind w (inr e) h =
    let r : RunWord Annotation w lenient = subst (λ k. Word k w lenient) e h in
    name_of Annotation w r.0 (λ f. cc) (λ f. cc) (λ y n. n) r.1 r.2 r.3

-- what comes after the first character of a string's text
pub record StringTail (text : List ℕ) : Type 0 where
  pub boundary : IsCharBoundary text 1
  pub elements : IsQuoted (chars (drop 1 text))
  pub cut : chars text ≡ 34 ∷ chars (drop 1 text)

pub string_tail : (kind : TokenKind) (text : List ℕ) → IsUtf8 text → kind ≡ String → Word kind (chars text) lenient → StringTail text
string_tail kind text u e h =
    let w = string_word kind (chars text) e h in
    let s = seam_one text w.0 34 u (omega arith) w.1 in
    record { boundary = s.boundary; elements = subst IsQuoted (sym s.after) w.2; cut = w.1 ∙ ap (λ x. 34 ∷ x) (sym s.after) }

pub string_value : (text elements value : List ℕ) → StringTail text → elements ≡ drop 1 text → Elements lenient (chars elements) value [] → StringWord lenient (chars text) value
string_value text elements value t e q = subst (λ x. StringWord lenient x value) (ap (λ x. 34 ∷ chars x) e ∙ sym t.cut) (quoted q)

pub string_none : (text elements : List ℕ) → StringTail text → elements ≡ drop 1 text → HasNone 92 (chars elements) → HasNone 92 (chars text)
string_none text elements t e h = subst (HasNone 92) (ap (λ x. 34 ∷ chars x) e ∙ sym t.cut) (refl, h)

pub string_has : (text elements : List ℕ) → StringTail text → elements ≡ drop 1 text → HasNone 92 (chars text) → HasNone 92 (chars elements)
string_has text elements t e h = (subst (HasNone 92) (sym (ap (λ x. 34 ∷ chars x) e ∙ sym t.cut)) h).1

-- what comes after the first character of a name's text
pub record NameTail (text : List ℕ) : Type 0 where
  pub boundary : IsCharBoundary text 1
  pub first : ℕ
  pub cut : chars text ≡ first ∷ chars (drop 1 text)
  pub named : IsNamed (chars (drop 1 text))
  pub no_quote : (first == 34) ≡ false
  pub no_backslash : (first == 92) ≡ false

pub name_tail : (kind : TokenKind) (text : List ℕ) → IsUtf8 text → (kind ≡ Id) ⊎ (kind ≡ Annotation) → Word kind (chars text) lenient → NameTail text
name_tail kind text u e h =
    let w = name_word kind (chars text) e h in
    let s = seam_one text w.rest w.first u w.ascii w.cut in
    record {
      boundary = s.boundary;
      first = w.first;
      cut = w.cut ∙ ap (λ x. w.first ∷ x) (sym s.after);
      named = subst IsNamed (sym s.after) w.named;
      no_quote = w.no_quote;
      no_backslash = w.no_backslash;
    }

pub name_value : (text rest bytes : List ℕ) → NameTail text → rest ≡ drop 1 text → Named (chars rest) bytes → Name (chars text) bytes
name_value text rest bytes t e h = subst (λ x. Name x bytes) (sym t.cut) (subst (λ x. Named (chars x) bytes) e h)

-- escapes come after the first character
no_escape_on : (c : ℕ) (r : List ℕ) → (c == 34) ≡ false → (c == 92) ≡ false → HasNoEscape r → HasNoEscape (c ∷ r)
no_escape_on c r q b (inl h) = inl (q, h)
no_escape_on c r q b (inr h) = inr (b, h)

no_escape_off : (c : ℕ) (r : List ℕ) → HasNoEscape (c ∷ r) → HasNoEscape r
no_escape_off c r (inl h) = inl h.1
no_escape_off c r (inr h) = inr h.1

pub name_free : (text rest : List ℕ) → NameTail text → rest ≡ drop 1 text → HasNoEscape (chars rest) → HasNoEscape (chars text)
name_free text rest t e h = subst HasNoEscape (sym t.cut) (no_escape_on t.first (chars (drop 1 text)) t.no_quote t.no_backslash (subst (λ x. HasNoEscape (chars x)) e h))

pub free_name : (text rest : List ℕ) → NameTail text → rest ≡ drop 1 text → HasNoEscape (chars text) → HasNoEscape (chars rest)
free_name text rest t e h = subst (λ x. HasNoEscape (chars x)) (sym e) (no_escape_off t.first (chars (drop 1 text)) (subst HasNoEscape t.cut h))

-- a text that begins with a quote, by bytes
pub quote_cut : (text elements : List ℕ) → IsUtf8 text → text ≡ 34 ∷ elements → chars text ≡ 34 ∷ chars elements
quote_cut text elements u e = chars_past_char text elements 34 u (e ∙ ap (λ x. x ++ elements) (sym (encode_ascii 34 (omega arith))))

named_elements : (cs t bytes : List ℕ) → Named cs bytes → cs ≡ 34 ∷ t → IsQuoted t
named_elements cs t bytes (bare h) e = absurd (false≢true (subst (Each is_idchar) e h).0)
named_elements cs t bytes (named_string (quoted {t = s} {v = v} q)) e = (v, subst (λ x. Elements lenient x v []) (same_tail s t e) q)
  where
    same_tail : (x y : List ℕ) → 34 ∷ x ≡ 34 ∷ y → x ≡ y
    same_tail x y e = cc

pub name_elements : (text elements : List ℕ) → IsUtf8 text → text ≡ 34 ∷ elements → IsNamed (chars text) → IsQuoted (chars elements)
name_elements text elements u e h = named_elements (chars text) (chars elements) h.0 h.1 (quote_cut text elements u e)

pub quoted_named : (text elements value : List ℕ) → IsUtf8 text → text ≡ 34 ∷ elements → Elements lenient (chars elements) value [] → Named (chars text) value
quoted_named text elements value u e q = subst (λ x. Named x value) (sym (quote_cut text elements u e)) (named_string (quoted q))

pub quoted_free : (text elements : List ℕ) → IsUtf8 text → text ≡ 34 ∷ elements → HasNone 92 (chars elements) → HasNoEscape (chars text)
quoted_free text elements u e h = subst HasNoEscape (sym (quote_cut text elements u e)) (inr (refl, h))

free_elements : (r : List ℕ) → HasNoEscape (34 ∷ r) → HasNone 92 r
free_elements r (inl h) = absurd (false≢true (sym h.0))
free_elements r (inr h) = h.1

pub free_quoted : (text elements : List ℕ) → IsUtf8 text → text ≡ 34 ∷ elements → HasNoEscape (chars text) → HasNone 92 (chars elements)
free_quoted text elements u e h = free_elements (chars elements) (subst HasNoEscape (quote_cut text elements u e) h)

-- a name that begins with no quote is idchars
bare_chars : (text cs bytes : List ℕ) → text ≡ encodes cs → ((rest : List ℕ) → text ≢ 34 ∷ rest) → Named cs bytes → Each is_idchar cs
bare_chars text cs bytes e n (bare h) = h
bare_chars text cs bytes e n (named_string (quoted {t = t} q)) = absurd (n (encodes t) (e ∙ ap (λ x. x ++ encodes t) (encode_ascii 34 (omega arith))))

pub bare_idchars : (text : List ℕ) → IsUtf8 text → ((rest : List ℕ) → text ≢ 34 ∷ rest) → IsNamed (chars text) → Each is_idchar (chars text)
bare_idchars text u n h = bare_chars text (chars text) h.0 (sym (encodes-chars text u)) n h.1

pub bare_named : (text : List ℕ) → IsUtf8 text → Each is_idchar (chars text) → Named (chars text) text
bare_named text u h = subst (Named (chars text)) (encodes-chars text u) (bare h)

no_quotes : (cs : List ℕ) → Each is_idchar cs → HasNone 34 cs
no_quotes [] h = tt
no_quotes (c ∷ cs) h = (ne_eqb c 34 (λ e. both_ways (is_idchar c) (ap is_idchar e) h.0), no_quotes cs h.1)

pub bare_free : (cs : List ℕ) → Each is_idchar cs → HasNoEscape cs
bare_free cs h = inl (no_quotes cs h)

pub empty_fault : (empty error : LexError) (text rest bytes : List ℕ) → NameTail text → rest ≡ drop 1 text → Named (chars rest) bytes → length bytes ≤ 0 → error ≡ empty → NameFault empty (chars text) error
empty_fault empty error text rest bytes t e h l k =
    subst (NameFault empty (chars text)) (sym k) (no_name (subst (Name (chars text)) (nil_from_length bytes (omega (arith, l))) (name_value text rest bytes t e h)))

pub utf8_fault : (empty error : LexError) (text rest : List ℕ) → NameTail text → rest ≡ drop 1 text → (bytes : List ℕ) × Named (chars rest) bytes × (IsUtf8 bytes → ⊥) → error ≡ InvalidUtf8Id → NameFault empty (chars text) error
utf8_fault empty error text rest t e h k = subst (NameFault empty (chars text)) (sym k) (not_utf8 (name_value text rest h.0 t e h.1) h.2)
