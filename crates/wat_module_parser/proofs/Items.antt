-- Parser and grammar agree on each item.
use Rattle.std.proofs.Common.{◌≡◌, ◌<◌, ℕ, suc, Bool, true, false, List, [], ◌∷◌, length, map, Option, Some, None, Result, Ok, Err, refl, sym, ap, subst, ◌∙◌, arith}
use Rattle.std.specs.Prelude.{if◌then◌else◌, bytes_eq, codes}
use Rattle.std.specs.Str.{is_utf8}
use Rattle.std.proofs.lemmas.Slice.Eq.{bytes_eq-Decides}
use Rattle.wat_module_ast.specs.declared.error.Expected.{Expected}
use Rattle.wat_module_ast.specs.declared.error.Expected.TheVariants as expected
use Rattle.wat_module_ast.specs.declared.error.FaultKind.TheVariants.{Unexpected, NotUtf8}
use Rattle.wat_module_ast.specs.declared.instruction.ValueType.{ValueType}
use Rattle.wat_module_ast.specs.Grammar.{Fault, value_type}
use Rattle.wat_module_instructions.specs.Law.{past}
use Rattle.wat_module_tokens.specs.Terminals.{Terminal, Open, Close, Word, Id, Integer, Text, Float, Other}
use Rattle.wat_module_ast.specs.Fields.{Many, by_none, by_more, ValueTypeIs, by_word, Group, by_named, by_listed, InlineExport, by_inline_export, Variable, variable, unnamed}
use Rattle.wat_module_parser.specs.Reading.{Read, and_then, all, closed, closing, after, after_word, begun, utf8_text, export, export_item, typed, value_item, listed, named_type, named_group, group, group_item, closed_or, after_values}
use Rattle.wat_module_parser.proofs.Manies.{Gives, gives_of, and_then_inv, Brings, Reads, all_sound, all_complete, many_takes, many_past}

-- the word that is compared
pub word_is : (v word : List ℕ) → bytes_eq v word ≡ true → v ≡ word
word_is v word e = (bytes_eq-Decides v word).0 e

pub is_word : (v word : List ℕ) → v ≡ word → bytes_eq v word ≡ true
is_word v word e = (bytes_eq-Decides v word).1 e

-- ValueTypeIs types.

value_sound : (ts : List Terminal) (vs : List ValueType) (us : List Terminal) → Brings (value_item ts) vs us → ValueTypeIs ts vs us
unfolding value_item
value_sound (Word w ∷ ts) vs us h = by (value_type w) refl h
  where
    by : (o : Option ValueType) → value_type w ≡ o → Gives (typed o (Word w ∷ ts) ts) vs us → ValueTypeIs (Word w ∷ ts) vs us
    by (Some t) e (a, b) = subst (λ x. ValueTypeIs (Word w ∷ ts) x us) a (subst (λ x. ValueTypeIs (Word w ∷ ts) (t ∷ []) x) b (by_word e))
    by None e g = absurd g
value_sound [] vs us h = absurd h
value_sound (Open ∷ ts) vs us h = absurd h
value_sound (Close ∷ ts) vs us h = absurd h
value_sound (Id x ∷ ts) vs us h = absurd h
value_sound (Integer s n ∷ ts) vs us h = absurd h
value_sound (Text v ∷ ts) vs us h = absurd h
value_sound (Float narrow wide ∷ ts) vs us h = absurd h
value_sound (Other ∷ ts) vs us h = absurd h

value_complete : (ts : List Terminal) (vs : List ValueType) (us : List Terminal) → ValueTypeIs ts vs us → Brings (value_item ts) vs us
unfolding value_item
value_complete _ _ us (by_word {w = w} {t = t} e) = gives_of _ (t ∷ []) us (ap (λ o. typed o (Word w ∷ us) us) e)

value_takes : (ts : List Terminal) (vs : List ValueType) (us : List Terminal) → ValueTypeIs ts vs us → length us < length ts
value_takes _ _ us (by_word e) = omega arith

pub values_read : Reads value_item ValueTypeIs
values_read = record { sound = value_sound; complete = value_complete; takes = value_takes }

value_past : (d : ℕ) (ts : List Terminal) (vs : List ValueType) (us : List Terminal) → ValueTypeIs ts vs us → past d ts ≡ past d us
value_past d _ _ us (by_word e) = refl

-- `)`

abbrev pub GivesAll : Result (List Terminal) Fault → List Terminal → Type 0
GivesAll (Ok ts) r = ts ≡ r
GivesAll (Err f) r = ⊥

pub closing_inv : {V : Type 0} (v w : V) (q : Result (List Terminal) Fault) (r : List Terminal) → Gives (closing v q) w r → (v ≡ w) × GivesAll q r
closing_inv v w (Ok ts) r h = h
closing_inv v w (Err f) r h = absurd h

pub closed_or_is : (e : Expected) (ts r : List Terminal) → GivesAll (closed_or e ts) r → ts ≡ Close ∷ r
closed_or_is e (Close ∷ ts) r h = ap (λ x. Close ∷ x) h
closed_or_is e [] r h = absurd h
closed_or_is e (Open ∷ ts) r h = absurd h
closed_or_is e (Word w ∷ ts) r h = absurd h
closed_or_is e (Id x ∷ ts) r h = absurd h
closed_or_is e (Integer s n ∷ ts) r h = absurd h
closed_or_is e (Text v ∷ ts) r h = absurd h
closed_or_is e (Float narrow wide ∷ ts) r h = absurd h
closed_or_is e (Other ∷ ts) r h = absurd h

pub closed_is : (ts r : List Terminal) → GivesAll (closed ts) r → ts ≡ Close ∷ r
closed_is ts r h = closed_or_is expected.Close ts r h

-- `(` and a word

abbrev pub Finds : Option (List Terminal) → List Terminal → Type 0
Finds (Some ts) r = ts ≡ r
Finds None r = ⊥

pub record Begins (word : List ℕ) (ts us : List Terminal) : Type 0 where
  pub spelled : List ℕ
  pub is : ts ≡ Open ∷ Word spelled ∷ us
  pub same : spelled ≡ word

begins_by : (word w : List ℕ) (ts us : List Terminal) (b : Bool) → bytes_eq w word ≡ b → Finds (if b then Some ts else None) us → Begins word (Open ∷ Word w ∷ ts) us
begins_by word w ts us true e h = record { spelled = w; is = ap (λ x. Open ∷ Word w ∷ x) h; same = word_is w word e }
begins_by word w ts us false e h = absurd h

begins_word : (word : List ℕ) (ts us : List Terminal) → Finds (after_word word ts) us → Begins word (Open ∷ ts) us
begins_word word (Word w ∷ ts) us h = begins_by word w ts us (bytes_eq w word) refl h
begins_word word [] us h = absurd h
begins_word word (Open ∷ ts) us h = absurd h
begins_word word (Close ∷ ts) us h = absurd h
begins_word word (Id x ∷ ts) us h = absurd h
begins_word word (Integer s n ∷ ts) us h = absurd h
begins_word word (Text v ∷ ts) us h = absurd h
begins_word word (Float narrow wide ∷ ts) us h = absurd h
begins_word word (Other ∷ ts) us h = absurd h

pub begins : (word : List ℕ) (ts us : List Terminal) → Finds (after word ts) us → Begins word ts us
begins word (Open ∷ ts) us h = begins_word word ts us h
begins word [] us h = absurd h
begins word (Close ∷ ts) us h = absurd h
begins word (Word w ∷ ts) us h = absurd h
begins word (Id x ∷ ts) us h = absurd h
begins word (Integer s n ∷ ts) us h = absurd h
begins word (Text v ∷ ts) us h = absurd h
begins word (Float narrow wide ∷ ts) us h = absurd h
begins word (Other ∷ ts) us h = absurd h

pub begun_inv : {V : Type 0} (rest : List Terminal → Read (List V)) (o : Option (List Terminal)) (vs : List V) (r : List Terminal) → Brings (begun rest o) vs r → (us : List Terminal) × Finds o us × Gives (rest us) vs r
begun_inv rest (Some us) vs r h = (us, refl, h)
begun_inv rest None vs r h = absurd h

pub after_is : (word v : List ℕ) (us : List Terminal) → v ≡ word → after word (Open ∷ Word v ∷ us) ≡ Some us
after_is word v us e = ap (λ b. if b then Some us else None) (is_word v word e)

begun_is : {V : Type 0} (rest : List Terminal → Read (List V)) (word v : List ℕ) (us : List Terminal) (vs : List V) (r : List Terminal) → v ≡ word → Gives (rest us) vs r → Brings (begun rest (after word (Open ∷ Word v ∷ us))) vs r
begun_is {V} rest word v us vs r e h = subst (λ o. Brings (begun rest o) vs r) (sym (after_is word v us e)) h

-- Exports.

pub utf8_inv : (ts : List Terminal) (n : List ℕ) (us : List Terminal) → Gives (utf8_text ts) n us → (ts ≡ Text n ∷ us) × (is_utf8 n ≡ true)
utf8_inv (Text m ∷ ts) n us h = by (is_utf8 m) refl h
  where
    by : (b : Bool) → is_utf8 m ≡ b → Gives (if b then Ok (m, ts) else Err (NotUtf8, Text m ∷ ts)) n us → (Text m ∷ ts ≡ Text n ∷ us) × (is_utf8 n ≡ true)
    by true e (a, b) = (ap (λ x. Text x ∷ ts) a ∙ ap (λ x. Text n ∷ x) b, subst (λ x. is_utf8 x ≡ true) a e)
    by false e g = absurd g
utf8_inv [] n us h = absurd h
utf8_inv (Open ∷ ts) n us h = absurd h
utf8_inv (Close ∷ ts) n us h = absurd h
utf8_inv (Word w ∷ ts) n us h = absurd h
utf8_inv (Id x ∷ ts) n us h = absurd h
utf8_inv (Integer s m ∷ ts) n us h = absurd h
utf8_inv (Float narrow wide ∷ ts) n us h = absurd h
utf8_inv (Other ∷ ts) n us h = absurd h

export_sound : (ts : List Terminal) (vs : List (List ℕ)) (us : List Terminal) → Brings (export_item ts) vs us → InlineExport ts vs us
unfolding export_item export
export_sound ts vs us h =
    let (hs, found, given) = begun_inv export (after (codes "export") ts) vs us h in
    let b = begins (codes "export") ts hs found in
    let (n, bs, read, end) = and_then_inv (utf8_text hs) (λ n us. closing (n ∷ []) (closed us)) vs us given in
    let (same, shut) = closing_inv (n ∷ []) vs (closed bs) us end in
    let (text, good) = utf8_inv hs n bs (gives_of (utf8_text hs) n bs read) in
    subst (λ x. InlineExport x vs us) (sym (b.is ∙ ap (λ x. Open ∷ Word b.spelled ∷ x) (text ∙ ap (λ x. Text n ∷ x) (closed_is bs us shut)))) (subst (λ x. InlineExport (Open ∷ Word b.spelled ∷ Text n ∷ Close ∷ us) x us) same (by_inline_export b.same good))

export_complete : (ts : List Terminal) (vs : List (List ℕ)) (us : List Terminal) → InlineExport ts vs us → Brings (export_item ts) vs us
unfolding export_item export
export_complete _ _ us (by_inline_export {v = v} {n = n} e g) =
    begun_is export (codes "export") v (Text n ∷ Close ∷ us) (n ∷ []) us e
    (gives_of (export (Text n ∷ Close ∷ us)) (n ∷ []) us (ap (λ (b : Bool). and_then (if b then Ok (n, Close ∷ us) else Err (NotUtf8, Text n ∷ Close ∷ us)) (λ n us. closing (n ∷ []) (closed us))) g))

export_takes : (ts : List Terminal) (vs : List (List ℕ)) (us : List Terminal) → InlineExport ts vs us → length us < length ts
export_takes _ _ us (by_inline_export e g) = omega arith

pub exports_read : Reads export_item InlineExport
exports_read = record { sound = export_sound; complete = export_complete; takes = export_takes }

pub export_past : (d : ℕ) (ts : List Terminal) (vs : List (List ℕ)) (us : List Terminal) → InlineExport ts vs us → past d ts ≡ past d us
export_past d _ _ us (by_inline_export e g) = refl

-- Groups of variables.

listed_sound : (may : Bool) (ts : List Terminal) (vs : List Variable) (us : List Terminal) → Gives (listed may ts) vs us → (types : List ValueType) × (map unnamed types ≡ vs) × Many ValueTypeIs ts types (Close ∷ us)
unfolding listed
listed_sound may ts vs us h =
    let (types, bs, read, end) = and_then_inv (all value_item ts) (λ types us. closing (map unnamed types) (closed_or (after_values may ts) us)) vs us h in
    let (same, shut) = closing_inv (map unnamed types) vs (closed_or (after_values may ts) bs) us end in
    (types, same, subst (λ x. Many ValueTypeIs ts types x) (closed_or_is (after_values may ts) bs us shut) (all_sound value_item ValueTypeIs values_read types ts bs read).0)

listed_complete : (may : Bool) (ts : List Terminal) (types : List ValueType) (us : List Terminal) → Many ValueTypeIs ts types (Close ∷ us) → listed may ts ≡ Ok (map unnamed types, us)
unfolding listed value_item
listed_complete may ts types us m = ap (λ q. and_then q (λ types us. closing (map unnamed types) (closed_or (after_values may ts) us))) (all_complete value_item ValueTypeIs values_read types ts (Close ∷ us) m refl)

named_type_sound : (x w : List ℕ) (o : Option ValueType) (all ts : List Terminal) (vs : List Variable) (us : List Terminal) → value_type w ≡ o → Gives (named_type x o all ts) vs us → (t : ValueType) × (value_type w ≡ Some t) × (variable (Some x) t ∷ [] ≡ vs) × (ts ≡ Close ∷ us)
named_type_sound x w (Some t) all ts vs us e h = let (same, shut) = closing_inv (variable (Some x) t ∷ []) vs (closed ts) us h in (t, e, same, closed_is ts us shut)
named_type_sound x w None all ts vs us e h = absurd h

abbrev Spells : List ℕ → Bool → List Terminal → List Variable → List Terminal → Type 0
Spells word may ts vs us = (v : List ℕ) → v ≡ word → Group word may (Open ∷ Word v ∷ ts) vs us

named_one_sound : (word : List ℕ) (may : Bool) (x : List ℕ) (ts : List Terminal) (vs : List Variable) (us : List Terminal) → may ≡ true → Gives (named_group x ts) vs us → Spells word may (Id x ∷ ts) vs us
named_one_sound word may x (Word w ∷ ts) vs us m h v e =
    let (t, type, same, shut) = named_type_sound x w (value_type w) (Word w ∷ ts) ts vs us refl h in
    subst (λ y. Group word may (Open ∷ Word v ∷ Id x ∷ Word w ∷ y) vs us) (sym shut) (subst (λ y. Group word may (Open ∷ Word v ∷ Id x ∷ Word w ∷ Close ∷ us) y us) same (by_named m e type))
named_one_sound word may x [] vs us m h v e = absurd h
named_one_sound word may x (Open ∷ ts) vs us m h v e = absurd h
named_one_sound word may x (Close ∷ ts) vs us m h v e = absurd h
named_one_sound word may x (Id y ∷ ts) vs us m h v e = absurd h
named_one_sound word may x (Integer s n ∷ ts) vs us m h v e = absurd h
named_one_sound word may x (Text y ∷ ts) vs us m h v e = absurd h
named_one_sound word may x (Float narrow wide ∷ ts) vs us m h v e = absurd h
named_one_sound word may x (Other ∷ ts) vs us m h v e = absurd h

group_listed : (word : List ℕ) (may : Bool) (ts : List Terminal) (vs : List Variable) (us : List Terminal) → Gives (listed may ts) vs us → Spells word may ts vs us
group_listed word may ts vs us h v e = let (types, same, m) = listed_sound may ts vs us h in subst (λ x. Group word may (Open ∷ Word v ∷ ts) x us) same (by_listed e m)

group_id : (word : List ℕ) (may : Bool) (x : List ℕ) (ts : List Terminal) (vs : List Variable) (us : List Terminal) (b : Bool) → may ≡ b → Gives (if b then named_group x ts else Err (Unexpected expected.ValueTypeOrClose, Id x ∷ ts)) vs us → Spells word may (Id x ∷ ts) vs us
group_id word may x ts vs us true m h = named_one_sound word may x ts vs us m h
group_id word may x ts vs us false m h = λ v e. absurd h

group_sound : (word : List ℕ) (may : Bool) (ts : List Terminal) (vs : List Variable) (us : List Terminal) → Gives (group may ts) vs us → Spells word may ts vs us
unfolding group
group_sound word may (Id x ∷ ts) vs us h = group_id word may x ts vs us may refl h
group_sound word may [] vs us h = group_listed word may [] vs us h
group_sound word may (Open ∷ ts) vs us h = group_listed word may (Open ∷ ts) vs us h
group_sound word may (Close ∷ ts) vs us h = group_listed word may (Close ∷ ts) vs us h
group_sound word may (Word w ∷ ts) vs us h = group_listed word may (Word w ∷ ts) vs us h
group_sound word may (Integer s n ∷ ts) vs us h = group_listed word may (Integer s n ∷ ts) vs us h
group_sound word may (Text v ∷ ts) vs us h = group_listed word may (Text v ∷ ts) vs us h
group_sound word may (Float narrow wide ∷ ts) vs us h = group_listed word may (Float narrow wide ∷ ts) vs us h
group_sound word may (Other ∷ ts) vs us h = group_listed word may (Other ∷ ts) vs us h

group_item_sound : (word : List ℕ) (may : Bool) (ts : List Terminal) (vs : List Variable) (us : List Terminal) → Brings (group_item word may ts) vs us → Group word may ts vs us
unfolding group_item
group_item_sound word may ts vs us h =
    let (hs, found, given) = begun_inv (group may) (after word ts) vs us h in
    let b = begins word ts hs found in
    subst (λ x. Group word may x vs us) (sym b.is) (group_sound word may hs vs us given b.spelled b.same)

-- value types do not begin with an identifier
no_name : (may : Bool) (ts : List Terminal) (types : List ValueType) (us : List Terminal) → Many ValueTypeIs ts types (Close ∷ us) → group may ts ≡ listed may ts
unfolding group
no_name may _ _ us by_none = refl
no_name may _ _ us (by_more (by_word e) rest) = refl

group_complete : (word : List ℕ) (may : Bool) (ts : List Terminal) (vs : List Variable) (us : List Terminal) → Group word may ts vs us → Brings (group_item word may ts) vs us
unfolding group_item group
group_complete word may _ _ us (by_named {v = v} {x = x} {w = w} {t = t} m e type) =
    begun_is (group may) word v (Id x ∷ Word w ∷ Close ∷ us) (variable (Some x) t ∷ []) us e
    (gives_of _ (variable (Some x) t ∷ []) us (ap (λ (b : Bool). if b then named_group x (Word w ∷ Close ∷ us) else Err (Unexpected expected.ValueTypeOrClose, Id x ∷ Word w ∷ Close ∷ us)) m ∙ ap (λ o. named_type x o (Word w ∷ Close ∷ us) (Close ∷ us)) type))
group_complete word may _ _ us (by_listed {ts = ts} {v = v} {types = types} e m) = begun_is (group may) word v ts (map unnamed types) us e (gives_of _ (map unnamed types) us (no_name may ts types us m ∙ listed_complete may ts types us m))

pub group_takes : (word : List ℕ) (may : Bool) (ts : List Terminal) (vs : List Variable) (us : List Terminal) → Group word may ts vs us → length us < length ts
group_takes word may _ _ us (by_named m e type) = omega arith
group_takes word may _ _ us (by_listed {ts = ts} {types = types} e m) = let l = many_takes ValueTypeIs value_takes ts types (Close ∷ us) m in omega arith

pub groups_read : (word : List ℕ) (may : Bool) → Reads (group_item word may) (Group word may)
groups_read word may = record { sound = group_item_sound word may; complete = group_complete word may; takes = group_takes word may }

pub group_past : (word : List ℕ) (may : Bool) (d : ℕ) (ts : List Terminal) (vs : List Variable) (us : List Terminal) → Group word may ts vs us → past d ts ≡ past d us
group_past word may d _ _ us (by_named m e type) = refl
group_past word may d _ _ us (by_listed {ts = ts} {types = types} e m) = many_past ValueTypeIs (suc d) (value_past (suc d)) ts types (Close ∷ us) m
