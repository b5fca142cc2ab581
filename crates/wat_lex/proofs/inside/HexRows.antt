-- The number of an escape.
use Rattle.std.proofs.Common.{◌≡◌, ◌≢◌, ◌≤◌, ◌<◌, ◌+◌, ◌*◌, ◌^◌, ℕ, List, [], ◌∷◌, ◌++◌, length, refl, arith, ap, sym, ◌∙◌, subst, Bool, true, false, ◌||◌, cond, lit<, zero-add, append_assoc, inl, inr, eq-eqb}
use Rattle.std.specs.Prelude.{IsTrue, ◌==◌, Result, Ok, Err, IfOk, IfErr, encode_utf8, ◌⊎◌}
use Rattle.std.proofs.lemmas.Bool.{both_ways, or_from, ne_eqb, cases_eq}
use Rattle.std.proofs.lemmas.Bool.Decides.{nat_tests}
use Rattle.std.proofs.lemmas.List.{append-nil, same_from_push}
use Rattle.std.specs.Str.{chars, IsUtf8}
use Rattle.std.specs.Str.Parse.{digits_value, digits_value_after}
use Rattle.std.specs.List.{filter}
use Rattle.std.specs.Char.{digit_value, IsScalar}
use lib.Utf8.{scalar, low_scalar}
use Rattle.wat_lex.specs.grammar.Classes.{size, is_hex, Each, Begins}
use Rattle.wat_lex.specs.grammar.Strings.{Element, unicode, is_hex_or_underscore, hex_value, IsParted, EndsInUnderscore, HexRow}
use Rattle.wat_lex.specs.tokens.StringFaults.{NumberFault, too_big, doubled, lone, no_scalar, no_brace, no_more, number}
use Rattle.wat_lex.specs.inside.ScannedStrings.{Escaped, escape_bytes, Breaks, IsRowValue, Ends}
use Rattle.wat_lex.specs.declared.lexer.scan.strings.Broken.{Broken}
use Rattle.wat_lex.specs.declared.lexer.scan.strings.EscapeValue.{EscapeValue}
use Rattle.wat_lex.specs.declared.lexer.scan.strings.EscapeValue.TheVariants.{Scalar}
use Rattle.wat_lex.specs.declared.lexer.faults.LexError.{LexError}
use Rattle.wat_lex.specs.declared.lexer.faults.LexError.TheVariants.{Expected, UnexpectedEof, NumberTooBig, InvalidUnicodeValue, LoneUnderscore}
use Rattle.wat_lex.specs.declared.lexer.settings.Settings.{Settings}
use Rattle.wat_lex.proofs.inside.StringSteps.{Took, at_end}

-- what the row of digits and underscores ends with, and what is left from there on
pub data RowEnd : List ℕ → List ℕ → Bool → ℕ → Type 0 where
  alone : {rest : List ℕ} {last : ℕ} → RowEnd [] rest false last
  digit : {ds rest : List ℕ} {last : ℕ} (e : ℕ) (prefix : List ℕ) → IsTrue (is_hex e) → ds ≡ prefix ++ e ∷ [] → last ≡ size (e ∷ rest) → RowEnd ds rest false last
  under : {ds rest : List ℕ} {last : ℕ} (prefix : List ℕ) → ds ≡ prefix ++ 95 ∷ [] → last ≡ size (95 ∷ rest) → RowEnd ds rest true last

pub record Row (flags : Settings) (first : ℕ) (start rest : List ℕ) (n : ℕ) (underscore : Bool) (last : ℕ) : Type 0 where
  pub ds : List ℕ
  pub cut : chars start ≡ ds ++ chars rest
  pub row : HexRow flags first ds
  pub value : n ≡ hex_value (first ∷ ds)
  pub utf8 : IsUtf8 rest
  pub shorter : length rest ≤ length start
  pub ends : RowEnd ds (chars rest) underscore last

digits_push : (n : ℕ) (xs : List ℕ) (c : ℕ) → digits_value_after 16 n (xs ++ c ∷ []) ≡ digits_value_after 16 n xs * 16 + digit_value c
digits_push n [] c = refl
digits_push n (x ∷ xs) c = digits_push (n * 16 + digit_value x) xs c

filter_hex : (xs : List ℕ) (c : ℕ) → is_hex c ≡ true → filter is_hex (xs ++ c ∷ []) ≡ filter is_hex xs ++ c ∷ []
filter_hex [] c h = ap (λ b. cond b (c ∷ []) []) h
filter_hex (x ∷ xs) c h =
    elim (is_hex x) as (λ b. cond b (x ∷ filter is_hex (xs ++ c ∷ [])) (filter is_hex (xs ++ c ∷ [])) ≡ cond b (x ∷ filter is_hex xs) (filter is_hex xs) ++ c ∷ []) [
      | true ↦ ap (λ y. x ∷ y) (filter_hex xs c h)
      | false ↦ filter_hex xs c h
    ]

filter_other : (xs : List ℕ) (c : ℕ) → is_hex c ≡ false → filter is_hex (xs ++ c ∷ []) ≡ filter is_hex xs
filter_other [] c h = ap (λ b. cond b (c ∷ []) []) h
filter_other (x ∷ xs) c h =
    elim (is_hex x) as (λ b. cond b (x ∷ filter is_hex (xs ++ c ∷ [])) (filter is_hex (xs ++ c ∷ [])) ≡ cond b (x ∷ filter is_hex xs) (filter is_hex xs)) [
      | true ↦ ap (λ y. x ∷ y) (filter_other xs c h)
      | false ↦ filter_other xs c h
    ]

pub hex_push : (xs : List ℕ) (c : ℕ) → is_hex c ≡ true → hex_value (xs ++ c ∷ []) ≡ hex_value xs * 16 + digit_value c
hex_push xs c h = ap (digits_value 16) (filter_hex xs c h) ∙ digits_push 0 (filter is_hex xs) c

pub hex_skip : (xs : List ℕ) (c : ℕ) → is_hex c ≡ false → hex_value (xs ++ c ∷ []) ≡ hex_value xs
hex_skip xs c h = ap (digits_value 16) (filter_other xs c h)

pub hex_one : (c : ℕ) → is_hex c ≡ true → hex_value (c ∷ []) ≡ digit_value c
hex_one c h = ap (λ x. digits_value 16 x) (filter_hex [] c h) ∙ zero-add (digit_value c)

pub hex_small : (c : ℕ) → is_hex c ≡ true → digit_value c < 16
hex_small c h = grind (arith, nat_tests)

pub Each_push : (p : ℕ → Bool) (xs : List ℕ) (c : ℕ) → Each p xs → p c ≡ true → Each p (xs ++ c ∷ [])
Each_push p [] c h e = (e, tt)
Each_push p (x ∷ xs) c h e = (h.0, Each_push p xs c h.1 e)

-- a list that is not empty has a last item
record Last (xs : List ℕ) : Type 0 where
  prefix : List ℕ
  last : ℕ
  is : xs ≡ prefix ++ last ∷ []

last_of : (x : ℕ) (xs : List ℕ) → Last (x ∷ xs)
last_of x [] = record { prefix = []; last = x; is = refl }
last_of x (y ∷ ys) = let l = last_of y ys in record { prefix = x ∷ l.prefix; last = l.last; is = ap (λ z. x ∷ z) l.is }

pub parted_none : IsParted []
parted_none [] back e = cc
parted_none (x ∷ prefix) back e = cc

pub parted_push : (ds : List ℕ) (c : ℕ) → IsParted ds → (c ≡ 95 → EndsInUnderscore ds → ⊥) → IsParted (ds ++ c ∷ [])
parted_push ds c p n prefix [] e =
    let k = same_from_push ds (prefix ++ 95 ∷ []) c 95 (e ∙ sym (append_assoc prefix (95 ∷ []) (95 ∷ []))) in
    n k.1 (prefix, k.0)
parted_push ds c p n prefix (b ∷ back) e =
    let l = last_of b back in
    let k = same_from_push ds (prefix ++ 95 ∷ 95 ∷ l.prefix) c l.last (e ∙ ap (λ x. prefix ++ 95 ∷ 95 ∷ x) l.is ∙ sym (append_assoc prefix (95 ∷ 95 ∷ l.prefix) (l.last ∷ []))) in
    p prefix l.prefix k.0

parted_prefix : (ds es : List ℕ) → IsParted (ds ++ es) → IsParted ds
parted_prefix ds es p prefix back e = p prefix (back ++ es) (ap (λ x. x ++ es) e ∙ append_assoc prefix (95 ∷ 95 ∷ back) es)

pub row_begins : (flags : Settings) (first : ℕ) (start : List ℕ) (n last : ℕ) → IsUtf8 start → is_hex first ≡ true → n ≡ digit_value first → Row flags first start start n false last
row_begins flags first start n last u h e = record {
  ds = [];
  cut = refl;
  row = record { first = h; others = tt; small = let a = hex_one first h in let b = hex_small first h in omega (arith, pow32); parted = λ s. parted_none };
  value = e ∙ sym (hex_one first h);
  utf8 = u;
  shorter = omega arith;
  ends = alone;
}
  where
    pow32 : 16 < 2 ^ 32
    pow32 = lit< tt

not_under : (ds rest : List ℕ) (last : ℕ) → RowEnd ds rest false last → EndsInUnderscore ds → ⊥
not_under ds rest last r h = by ds rest last r h.0 h.1
  where
    by : (ds rest : List ℕ) (last : ℕ) → RowEnd ds rest false last → (prefix : List ℕ) → ds ≢ prefix ++ 95 ∷ []
    by ds rest last alone [] e = cc
    by ds rest last alone (x ∷ xs) e = cc
    by ds rest last (digit d before h f l) prefix e =
        let k = same_from_push before prefix d 95 (sym f ∙ e) in
        both_ways (is_hex d) (ap is_hex k.1) h

is_under : (ds rest : List ℕ) (last : ℕ) → RowEnd ds rest true last → EndsInUnderscore ds
is_under ds rest last (under prefix e l) = (prefix, e)

pub row_underscore : (flags : Settings) (first : ℕ) (start rest next : List ℕ) (n last left : ℕ) (b : Bool) → Row flags first start rest n b last → (flags.strict ≡ true → b ≡ false) → Took rest 95 next → left ≡ length rest → Row flags first start next n true left
row_underscore flags first start rest next n last left b r s t l =
    let v : hex_value (first ∷ r.ds ++ 95 ∷ []) ≡ hex_value (first ∷ r.ds) = hex_skip (first ∷ r.ds) 95 refl in
    record {
      ds = r.ds ++ 95 ∷ [];
      cut = r.cut ∙ ap (λ x. r.ds ++ x) t.spelled ∙ sym (append_assoc r.ds (95 ∷ []) (chars next));
      row = let k = r.row in record {
        first = k.first;
        others = Each_push is_hex_or_underscore r.ds 95 k.others refl;
        small = subst (λ x. x < 2 ^ 32) (sym v) k.small;
        parted = λ q. parted_push r.ds 95 (k.parted q) (λ _. not_under r.ds (chars rest) last (subst (λ x. RowEnd r.ds (chars rest) x last) (s q) r.ends));
      };
      value = r.value ∙ sym v;
      utf8 = t.utf8;
      shorter = let a = r.shorter in let c = t.shorter in omega arith;
      ends = under r.ds refl (l ∙ t.size_is ∙ ap size t.spelled);
    }

pub row_digit : (flags : Settings) (first : ℕ) (start rest next : List ℕ) (n last left m c : ℕ) (b : Bool) → Row flags first start rest n b last → Took rest c next → left ≡ length rest → is_hex c ≡ true → m ≡ n * 16 + digit_value c → m < 2 ^ 32 → Row flags first start next m false left
row_digit flags first start rest next n last left m c b r t l h e s =
    let v : m ≡ hex_value (first ∷ r.ds ++ c ∷ []) = e ∙ ap (λ x. x * 16 + digit_value c) r.value ∙ sym (hex_push (first ∷ r.ds) c h) in
    record {
      ds = r.ds ++ c ∷ [];
      cut = r.cut ∙ ap (λ x. r.ds ++ x) t.spelled ∙ sym (append_assoc r.ds (c ∷ []) (chars next));
      row = let k = r.row in record {
        first = k.first;
        others = Each_push is_hex_or_underscore r.ds c k.others (ap (λ x. x || c == 95) h);
        small = subst (λ x. x < 2 ^ 32) v s;
        parted = λ q. parted_push r.ds c (k.parted q) (λ g _. both_ways (is_hex c) (ap is_hex g) h);
      };
      value = v;
      utf8 = t.utf8;
      shorter = let a = r.shorter in let d = t.shorter in omega arith;
      ends = digit c r.ds h refl (l ∙ t.size_is ∙ ap size t.spelled);
    }

number_breaks : (flags : Settings) (first : ℕ) (start : List ℕ) (left : ℕ) (e : LexError) (at : List ℕ) → is_hex first ≡ true → left ≡ size at → NumberFault flags first (chars start) e at → Breaks flags (92 ∷ 117 ∷ 123 ∷ first ∷ []) start (record { left = left; error = e })
number_breaks flags first start left e at h l f = record { at = at; fault = number h f; place = l }

Each_prefix : (p : ℕ → Bool) (xs ys : List ℕ) → Each p (xs ++ ys) → Each p xs
Each_prefix p [] ys h = tt
Each_prefix p (x ∷ xs) ys h = (h.0, Each_prefix p xs ys h.1)

pub row_doubled : (flags : Settings) (first : ℕ) (start rest next : List ℕ) (n last left : ℕ) (b : Bool) → Row flags first start rest n b last → flags.strict ≡ true → b ≡ true → Took rest 95 next → left ≡ length rest → Breaks flags (92 ∷ 117 ∷ 123 ∷ first ∷ []) start (record { left = left; error = LoneUnderscore })
row_doubled flags first start rest next n last left b r s e t l =
    let k = r.row in
    number_breaks flags first start left LoneUnderscore (95 ∷ chars next) k.first (l ∙ t.size_is ∙ ap size t.spelled)
    (doubled r.ds (r.cut ∙ ap (λ x. r.ds ++ x) t.spelled) r.row s (is_under r.ds (chars rest) last (subst (λ x. RowEnd r.ds (chars rest) x last) e r.ends)))

lone_by : (flags : Settings) (first : ℕ) (start ds rest : List ℕ) (last : ℕ) → HexRow flags first ds → chars start ≡ ds ++ rest → RowEnd ds rest true last → (Begins is_hex_or_underscore rest → ⊥) → Breaks flags (92 ∷ 117 ∷ 123 ∷ first ∷ []) start (record { left = last; error = LoneUnderscore })
lone_by flags first start ds rest last row cut (under prefix e l) stop =
    let r : HexRow flags first (prefix ++ 95 ∷ []) = subst (HexRow flags first) e row in
    let v : hex_value (first ∷ prefix ++ 95 ∷ []) ≡ hex_value (first ∷ prefix) = hex_skip (first ∷ prefix) 95 refl in
    number_breaks flags first start last LoneUnderscore (95 ∷ rest) r.first l
    (lone prefix (cut ∙ ap (λ x. x ++ rest) e ∙ append_assoc prefix (95 ∷ []) rest) (record {
      first = r.first;
      others = Each_prefix is_hex_or_underscore prefix (95 ∷ []) r.others;
      small = subst (λ x. x < 2 ^ 32) v r.small;
      parted = λ q. parted_prefix prefix (95 ∷ []) (r.parted q);
    }) stop)

pub row_lone : (flags : Settings) (first : ℕ) (start rest : List ℕ) (n last : ℕ) → Row flags first start rest n true last → (Begins is_hex_or_underscore (chars rest) → ⊥) → Breaks flags (92 ∷ 117 ∷ 123 ∷ first ∷ []) start (record { left = last; error = LoneUnderscore })
row_lone flags first start rest n last r stop = lone_by flags first start r.ds (chars rest) last r.row r.cut r.ends stop

no_scalar_by : (flags : Settings) (first : ℕ) (start ds rest : List ℕ) (last : ℕ) → HexRow flags first ds → chars start ≡ ds ++ rest → RowEnd ds rest false last → (Begins is_hex_or_underscore rest → ⊥) → scalar (hex_value (first ∷ ds)) ≡ false → Breaks flags (92 ∷ 117 ∷ 123 ∷ first ∷ []) start (record { left = last; error = InvalidUnicodeValue (hex_value (first ∷ ds)) })
no_scalar_by flags first start ds rest last row cut alone stop s =
    let a = hex_one first row.first in
    let b = hex_small first row.first in
    let c : hex_value (first ∷ []) < 55296 = omega arith in
    absurd (both_ways (scalar (hex_value (first ∷ []))) s (low_scalar (hex_value (first ∷ [])) c))
no_scalar_by flags first start ds rest last row cut (digit e prefix h f l) stop s =
    let r : HexRow flags first (prefix ++ e ∷ []) = subst (HexRow flags first) f row in
    let t : scalar (hex_value (first ∷ prefix ++ e ∷ [])) ≡ false = subst (λ x. scalar (hex_value (first ∷ x)) ≡ false) f s in
    subst (λ x. Breaks flags (92 ∷ 117 ∷ 123 ∷ first ∷ []) start (record { left = last; error = InvalidUnicodeValue (hex_value (first ∷ x)) })) (sym f)
    (number_breaks flags first start last (InvalidUnicodeValue (hex_value (first ∷ prefix ++ e ∷ []))) (e ∷ rest) r.first l
    (no_scalar prefix (cut ∙ ap (λ x. x ++ rest) f ∙ append_assoc prefix (e ∷ []) rest) r h stop (λ k. both_ways (scalar (hex_value (first ∷ prefix ++ e ∷ []))) t k)))

pub row_no_scalar : (flags : Settings) (first : ℕ) (start rest : List ℕ) (n last : ℕ) → Row flags first start rest n false last → (Begins is_hex_or_underscore (chars rest) → ⊥) → scalar n ≡ false → Breaks flags (92 ∷ 117 ∷ 123 ∷ first ∷ []) start (record { left = last; error = InvalidUnicodeValue n })
row_no_scalar flags first start rest n last r stop s =
    subst (λ x. Breaks flags (92 ∷ 117 ∷ 123 ∷ first ∷ []) start (record { left = last; error = InvalidUnicodeValue x })) (sym r.value)
    (no_scalar_by flags first start r.ds (chars rest) last r.row r.cut r.ends stop (subst (λ x. scalar x ≡ false) r.value s))

pub row_too_big : (flags : Settings) (first : ℕ) (start rest next : List ℕ) (n last left c : ℕ) (b : Bool) → Row flags first start rest n b last → Took rest c next → left ≡ length rest → is_hex c ≡ true → 2 ^ 32 ≤ n * 16 + digit_value c → Breaks flags (92 ∷ 117 ∷ 123 ∷ first ∷ []) start (record { left = left; error = NumberTooBig })
row_too_big flags first start rest next n last left c b r t l h s =
    let k = r.row in
    let v : n * 16 + digit_value c ≡ hex_value (first ∷ r.ds ++ c ∷ []) = ap (λ x. x * 16 + digit_value c) r.value ∙ sym (hex_push (first ∷ r.ds) c h) in
    number_breaks flags first start left NumberTooBig (c ∷ chars next) k.first (l ∙ t.size_is ∙ ap size t.spelled) (too_big r.ds (r.cut ∙ ap (λ x. r.ds ++ x) t.spelled) r.row h (subst (λ x. 2 ^ 32 ≤ x) v s))

pub row_no_brace : (flags : Settings) (first : ℕ) (start rest next : List ℕ) (n last left c : ℕ) → Row flags first start rest n false last → Took rest c next → left ≡ length rest → scalar n ≡ true → is_hex c ≡ false → c ≢ 95 → c ≢ 125 → Breaks flags (92 ∷ 117 ∷ 123 ∷ first ∷ []) start (record { left = left; error = Expected 125 c })
row_no_brace flags first start rest next n last left c r t l s h a b =
    let k = r.row in
    number_breaks flags first start left (Expected 125 c) (c ∷ chars next) k.first (l ∙ t.size_is ∙ ap size t.spelled)
    (no_brace r.ds (r.cut ∙ ap (λ x. r.ds ++ x) t.spelled) r.row (not_under r.ds (chars rest) last r.ends) (subst IsScalar r.value s) (λ x. both_ways (is_hex_or_underscore c) (or_from (is_hex c) (c == 95) h (ne_eqb c 95 a)) x) b)

pub row_no_more : (flags : Settings) (first : ℕ) (start rest : List ℕ) (n last : ℕ) → Row flags first start rest n false last → length rest ≡ 0 → scalar n ≡ true → Breaks flags (92 ∷ 117 ∷ 123 ∷ first ∷ []) start (record { left = 0; error = UnexpectedEof })
row_no_more flags first start rest n last r l s =
    let k = r.row in
    let e : chars start ≡ r.ds = r.cut ∙ ap (λ x. r.ds ++ x) (at_end rest l) ∙ append-nil r.ds in
    number_breaks flags first start 0 UnexpectedEof [] k.first refl
    (subst (λ x. NumberFault flags first x UnexpectedEof []) (sym e) (no_more r.row (not_under r.ds (chars rest) last r.ends) (subst IsScalar r.value s)))

pub row_read : (flags : Settings) (first : ℕ) (start rest next : List ℕ) (n last : ℕ) → Row flags first start rest n false last → Took rest 125 next → scalar n ≡ true → Escaped flags (92 ∷ 117 ∷ 123 ∷ first ∷ []) start next (encode_utf8 n)
row_read flags first start rest next n last r t s = record {
  element = subst (λ x. Element flags (92 ∷ 117 ∷ 123 ∷ first ∷ chars start) (encode_utf8 x) (chars next)) (sym r.value)
      (unicode r.ds (r.cut ∙ ap (λ x. r.ds ++ x) t.spelled) r.row (not_under r.ds (chars rest) last r.ends) (subst IsScalar r.value s));
  utf8 = t.utf8;
  shorter = let a = r.shorter in let b = t.shorter in omega arith;
}

pub stops_at : (rest next : List ℕ) (c : ℕ) → Took rest c next → is_hex c ≡ false → c ≢ 95 → Begins is_hex_or_underscore (chars rest) → ⊥
stops_at rest next c t h a g = both_ways (is_hex_or_underscore c) (or_from (is_hex c) (c == 95) h (ne_eqb c 95 a)) (subst (Begins is_hex_or_underscore) t.spelled g)

pub stops_end : (rest : List ℕ) → length rest ≡ 0 → Begins is_hex_or_underscore (chars rest) → ⊥
stops_end rest l g = subst (Begins is_hex_or_underscore) (at_end rest l) g

abbrev fault_or : Broken → Result ℕ Broken → Broken
fault_or other (Err fault) = fault
fault_or other (Ok c) = other

-- the row that ends here, by what is wrong with it
pub row_ends : (flags : Settings) (first : ℕ) (start rest : List ℕ) (n last : ℕ) (b : Bool) (fault : Broken) → Row flags first start rest n b last → (Begins is_hex_or_underscore (chars rest) → ⊥) → IsRowValue n b last (Err fault) → Breaks flags (92 ∷ 117 ∷ 123 ∷ first ∷ []) start fault
row_ends flags first start rest n last true fault r stop f = subst (Breaks flags (92 ∷ 117 ∷ 123 ∷ first ∷ []) start) (sym (ap (fault_or fault) f)) (row_lone flags first start rest n last r stop)
row_ends flags first start rest n last false fault r stop f = subst (Breaks flags (92 ∷ 117 ∷ 123 ∷ first ∷ []) start) (sym f.1) (row_no_scalar flags first start rest n last r stop f.0)

-- a row with nothing wrong
pub record Good (flags : Settings) (first : ℕ) (start rest : List ℕ) (n last value : ℕ) : Type 0 where
  pub row : Row flags first start rest n false last
  pub is : scalar n ≡ true
  pub value_is : value ≡ n

pub row_good : (flags : Settings) (first : ℕ) (start rest : List ℕ) (n last value : ℕ) (b : Bool) → Row flags first start rest n b last → IsRowValue n b last (Ok value) → Good flags first start rest n last value
row_good flags first start rest n last value true r f = absurd cc
row_good flags first start rest n last value false r f = record { row = r; is = f.0; value_is = f.1 }

-- The result of a reader of an escape: the escape's value, or its error.
abbrev pub Reading : Settings → List ℕ → List ℕ → List ℕ → Result EscapeValue Broken → Type 0
Reading flags prefix old new result = IfOk result (λ e. Escaped flags prefix old new (escape_bytes e)) × IfErr result (Breaks flags prefix old)

-- a character that is neither digit nor underscore ends the row
pub row_stops : (flags : Settings) (first : ℕ) (start rest next : List ℕ) (n last left c : ℕ) (b : Bool) (value : ℕ) (result : Result EscapeValue Broken)
    → Row flags first start rest n b last → Took rest c next → left ≡ length rest → is_hex c ≡ false → c ≢ 95 → IsRowValue n b last (Ok value) → Ends c left value result
    → Reading flags (92 ∷ 117 ∷ 123 ∷ first ∷ []) start next result
row_stops flags first start rest next n last left c b value result r t l h a f e =
    subst (Reading flags (92 ∷ 117 ∷ 123 ∷ first ∷ []) start next) (sym e) (by (cases_eq c 125) (row_good flags first start rest n last value b r f))
  where
    prefix : List ℕ
    prefix = 92 ∷ 117 ∷ 123 ∷ first ∷ []

    by : (c ≡ 125) ⊎ (c ≢ 125) → Good flags first start rest n last value → Reading flags prefix start next (cond (c == 125) (Ok (Scalar value)) (Err (record { left = left; error = Expected 125 c })))
    by (inl k) g =
        subst (λ x. Reading flags prefix start next (cond x (Ok (Scalar value)) (Err (record { left = left; error = Expected 125 c })))) (sym (eq-eqb c 125 k))
        (subst (λ x. Escaped flags prefix start next (encode_utf8 x)) (sym g.value_is) (row_read flags first start rest next n last g.row (subst (λ x. Took rest x next) k t) g.is), tt)
    by (inr k) g =
        subst (λ x. Reading flags prefix start next (cond x (Ok (Scalar value)) (Err (record { left = left; error = Expected 125 c })))) (sym (ne_eqb c 125 k))
        (tt, row_no_brace flags first start rest next n last left c g.row t l g.is h a k)
