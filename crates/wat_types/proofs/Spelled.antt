-- The rules of the formats of function types are those of the grammar.
use Rattle.std.proofs.Common.{◌≡◌, ◌∙◌, inl, inr, ℕ, List, [], ◌∷◌, Bool, true, false, refl, sym, ap, subst, Some, None, Ok, Err}
use Rattle.std.specs.Prelude.{Option, Result, codes, bytes_eq, is_some, not, if◌then◌else◌}
use Rattle.std.specs.List.{flat_map}
use Rattle.std.proofs.lemmas.Slice.Eq.{bytes_eq-Decides}
use Rattle.wat_lex.specs.errors.Errors.{Report}
use Rattle.wat_lex.specs.tokens.ReadableTokens.{token_text, word_of}
use Rattle.wat_lex.specs.values.WordValues.{name_value}
use Rattle.wat_lex.specs.declared.lexer.faults.LexError.{LexError}
use Rattle.wat_lex.specs.declared.lexer.faults.LexError.TheVariants.{EmptyId}
use Rattle.wat_lex.specs.declared.lexer.kinds.Token.{Token}
use Rattle.wat_lex.specs.declared.lexer.kinds.TokenKind.{TokenKind}
use Rattle.wat_lex.specs.declared.lexer.kinds.TokenKind.TheVariants.{Keyword, Id}
use Rattle.wat_lexer_parser.specs.groups.Sorts.{is_close}
use Rattle.wat_lexer_parser.specs.parser.Takers.{as_id, as_keyword, name_or_report, name_is_decoded}
use Rattle.wat_lexer_parser.specs.readings.Types.{Spelled, spelling, as_owned_id, named_by}
use Rattle.wat_lexer_parser.specs.rules.Rules.{Ground, Rule, Telling, One, one, InGroup, While, known_word, tells_kind, tells_second, tells_more}
use Rattle.wat_lexer_parser.specs.rules.Rules as rules
use Rattle.wat_types.proofs.Formats.{val, vals, name, named_or_all, param, returns, func, definition, module_types}
use Rattle.wat_types.specs.Signatures.{Signature}
use Rattle.wat_types.specs.declared.types.ValType.{ValType}
use Rattle.wat_types.specs.declared.types.ValType.TheVariants.{I32, I64, F32, F64}
use Rattle.wat_lexer_parser.specs.rules.FormatTypes.{keyword, a_keyword}
use Rattle.wat_types.specs.Grammar.{IsOpen, IsClose, IsWord, IsName, Star, Val, i32, i64, f32, f64, Param, Returns, returns as returned, Func, signature_of, Definition, Module}
use Rattle.wat_types.specs.Grammar as grammar

abbrev spells_by : Bool → Option (Result (Unit {0}) Report)
spells_by b = if b then Some (Ok tt) else None

same_word : (a w : List ℕ) (b : Bool) (v : Unit {0}) → bytes_eq a w ≡ b → spells_by b ≡ Some (Ok v) → a ≡ w
same_word a w true v e h = (bytes_eq-Decides a w).0 e
same_word a w false v e h = cc

spelled_word : (x w : List ℕ) (t : Token) (k : TokenKind) (v : Unit {0}) → spelling as_keyword w x t k ≡ Some (Ok v) → (k ≡ Keyword) × (token_text x t ≡ w)
spelled_word x w t Keyword v e = (refl, same_word (token_text x t) w (bytes_eq (token_text x t) w) v refl e)
spelled_word x w t k v e = cc

word_read : (x w u : List ℕ) (t : Token) → IsWord x u t → spelling as_keyword w x t t.kind ≡ spells_by (bytes_eq u w)
word_read x w u t h = ap (spelling as_keyword w x t) h.kind ∙ ap (λ a. spells_by (bytes_eq a w)) h.spells

-- Keywords.

one_word : (g : Ground) (w : List ℕ) (ts : List Token) (v : Unit {0}) (r : List Token) → One (spelling as_keyword w) g ts v r → (t : Token) × (t ∷ r ≡ ts) × IsWord g.text w t
one_word g w _ v r (one {t = t} e) = let k = spelled_word g.text w t t.kind v e in (t, refl, record { kind = k.0; spells = k.1 })

word_of_rule : (g : Ground) (w : List ℕ) (ts : List Token) (n : ℕ) (r : List Token) → (keyword w).rule g ts n r → (t : Token) × (t ∷ r ≡ ts) × IsWord g.text w t
word_of_rule g w ts n r h = one_word g w ts h.1.0 r h.1.1

rule_of_word : (g : Ground) (w : List ℕ) (t : Token) (r : List Token) → IsWord g.text w t → (keyword w).rule g (t ∷ r) t.offset r
rule_of_word g w t r h = ((tt, t.offset), (tt, one (word_read g.text w w t h ∙ ap spells_by ((bytes_eq-Decides w w).1 refl)), refl), refl)

seen_by : (b : Bool) → known_word (spells_by b) ≡ Ok b
seen_by true = refl
seen_by false = refl

sees_other : (g : Ground) (w u : List ℕ) (b : Bool) (t : Token) (r : List Token) → bytes_eq u w ≡ b → IsWord g.text u t → (a_keyword w).look g (t ∷ r) ≡ Ok b
sees_other g w u b t r e h = ap known_word (word_read g.text w u t h) ∙ seen_by (bytes_eq u w) ∙ ap Ok e

-- Number types.

val_is : (g : Ground) (ts : List Token) (v : ValType) (r : List Token) → val.rule g ts v r → Val g.text ts v r
unfolding val
val_is g ts v r h = elim h [
  | inl k ↦ let w = word_of_rule g (codes "i32") ts k.1.0 r k.1.1 in subst (λ v. Val g.text ts v r) k.1.2 (subst (λ ts. Val g.text ts I32 r) w.1 (i32 w.2))
  | inr h ↦ elim h.1 [
    | inl k ↦ let w = word_of_rule g (codes "i64") ts k.1.0 r k.1.1 in subst (λ v. Val g.text ts v r) k.1.2 (subst (λ ts. Val g.text ts I64 r) w.1 (i64 w.2))
    | inr h ↦ elim h.1 [
      | inl k ↦ let w = word_of_rule g (codes "f32") ts k.1.0 r k.1.1 in subst (λ v. Val g.text ts v r) k.1.2 (subst (λ ts. Val g.text ts F32 r) w.1 (f32 w.2))
      | inr h ↦ elim h.1 [
        | inl k ↦ let w = word_of_rule g (codes "f64") ts k.1.0 r k.1.1 in subst (λ v. Val g.text ts v r) k.1.2 (subst (λ ts. Val g.text ts F64 r) w.1 (f64 w.2))
        | inr h ↦ absurd h.1
      ]
    ]
  ]
]

is_val : (g : Ground) (ts : List Token) (v : ValType) (r : List Token) → Val g.text ts v r → val.rule g ts v r
unfolding val
is_val g _ _ r (i32 {t = t} h) = inl (sees_other g (codes "i32") (codes "i32") true t r refl h, (t.offset, rule_of_word g (codes "i32") t r h, refl))
is_val g _ _ r (i64 {t = t} h) =
    inr (sees_other g (codes "i32") (codes "i64") false t r refl h, inl (sees_other g (codes "i64") (codes "i64") true t r refl h, (t.offset, rule_of_word g (codes "i64") t r h, refl)))
is_val g _ _ r (f32 {t = t} h) =
    inr (sees_other g (codes "i32") (codes "f32") false t r refl h, inr (sees_other g (codes "i64") (codes "f32") false t r refl h, inl (sees_other g (codes "f32") (codes "f32") true t r refl h, (t.offset, rule_of_word g (codes "f32") t r h, refl))))
is_val g _ _ r (f64 {t = t} h) =
    inr (
      sees_other g (codes "i32") (codes "f64") false t r refl h,
      inr (
        sees_other g (codes "i64") (codes "f64") false t r refl h,
        inr (
          sees_other g (codes "f32") (codes "f64") false t r refl h,
          inl (sees_other g (codes "f64") (codes "f64") true t r refl h, (t.offset, rule_of_word g (codes "f64") t r h, refl)),
        ),
      ),
    )

-- Lists: one lemma in each direction, for any rule.

star_of : {V : Type 0} (g : Ground) (look : Telling) (R : Rule V) (One : List Token → V → List Token → Type 0) → ((ts : List Token) (v : V) (r : List Token) → R g ts v r → One ts v r)
    → (ts : List Token) (vs : List V) (r : List Token) → While look R g ts vs r → Star One ts vs r
star_of g look R One f ts _ _ (rules.none e) = grammar.none
star_of g look R One f ts _ r (rules.more {r = us} {v = v} {vs = vs} e h w) = grammar.more (f ts v us h) (star_of g look R One f us vs r w)

while_of : {V : Type 0} (g : Ground) (look : Telling) (R : Rule V) (One : List Token → V → List Token → Type 0) → ((ts : List Token) (v : V) (r : List Token) → One ts v r → R g ts v r × (look g ts ≡ Ok true))
    → (ts : List Token) (vs : List V) (r : List Token) → look g r ≡ Ok false → Star One ts vs r → While look R g ts vs r
while_of g look R One f ts _ _ e grammar.none = rules.none e
while_of g look R One f ts _ r e (grammar.more {r = us} {v = v} {vs = vs} h w) = let k = f ts v us h in rules.more k.1 k.0 (while_of g look R One f us vs r e w)

vals_is : (g : Ground) (ts : List Token) (vs : List ValType) (r : List Token) → vals.rule g ts vs r → Star (Val g.text) ts vs r
vals_is g ts vs r w = star_of g tells_more val.rule (Val g.text) (val_is g) ts vs r w

-- `(result val*)`.
returns_is : (g : Ground) (ts : List Token) (vs : List ValType) (r : List Token) → InGroup returns.rule g ts vs r → Returns g.text ts vs r
unfolding returns
returns_is g _ vs r (rules.group {o = o} {c = c} {ts = ts} opens h closes) =
    let w = word_of_rule g (codes "result") ts h.0 h.1 h.2 in
    subst (λ ts. Returns g.text (o ∷ ts) vs r) w.1 (returned opens w.2 (vals_is g h.1 vs (c ∷ r) h.3) closes)

is_returns : (g : Ground) (ts : List Token) (vs : List ValType) (r : List Token) → Returns g.text ts vs r → InGroup returns.rule g ts vs r × (tells_more g ts ≡ Ok true)
unfolding returns
is_returns g _ vs r (returned {w = w} {c = c} {ts = ts} opens h vals closes) =
    (rules.group opens (w.offset, ts, rule_of_word g (codes "result") w ts h, while_of g tells_more val.rule (Val g.text) (λ ts v r k. (is_val g ts v r k, val_more g ts v r k)) ts vs (c ∷ r) (ap (λ k. Ok (not (is_close k))) closes) vals) closes, ap (λ k. Ok (not (is_close k))) opens)
  where
    val_more : (g : Ground) (ts : List Token) (v : ValType) (r : List Token) → Val g.text ts v r → tells_more g ts ≡ Ok true
    val_more g _ _ r (i32 h) = ap (λ k. Ok (not (is_close k))) h.kind
    val_more g _ _ r (i64 h) = ap (λ k. Ok (not (is_close k))) h.kind
    val_more g _ _ r (f32 h) = ap (λ k. Ok (not (is_close k))) h.kind
    val_more g _ _ r (f64 h) = ap (λ k. Ok (not (is_close k))) h.kind

-- Identifiers.

name_good : (x : List ℕ) (t : Token) (a : Result (List ℕ) LexError) (v : List ℕ) → ◌≡◌ {A = Option (Result (List ℕ) Report)} (Some (name_or_report x t a)) (Some (Ok v)) → a ≡ Ok v
name_good x t (Ok n) v e = let k : n ≡ v = cc in ap Ok k
name_good x t (Err f) v e = cc

named_id : (x : List ℕ) (t : Token) (k : TokenKind) (v : List ℕ) → as_id x t k ≡ Some (Ok v) → (k ≡ Id) × (name_value EmptyId (word_of x t) ≡ Ok v)
named_id x t Id v e = (refl, name_good x t (name_value EmptyId (word_of x t)) v e)
named_id x t k v e = cc

named_got : (b : Bool) (o : Option (Result (List ℕ) Report)) (v : List ℕ × Bool) → named_by b o ≡ Some (Ok v) → o ≡ Some (Ok v.0)
named_got b None v e = cc
named_got b (Some (Ok n)) v e = let k : ◌≡◌ {A = List ℕ × Bool} (n, b) v = cc in ap (λ v. Some (Ok v.0)) k
named_got b (Some (Err f)) v e = cc

one_name : (g : Ground) (ts : List Token) (v : List ℕ × Bool) (r : List Token) → One as_owned_id g ts v r → (t : Token) × (t ∷ r ≡ ts) × IsName g.text t
one_name g _ v r (one {t = t} e) =
    let k = named_id g.text t t.kind v.0 (named_got (name_is_decoded g.text t) (as_id g.text t t.kind) v e) in
    (t, refl, record { kind = k.0; name = v.0; named = k.1 })

-- `(param id val)` or `(param val*)`.
param_by : (g : Ground) (o w c : Token) (ts us : List Token) (n : Option Spelled) (vs : List ValType) (r : List Token) → IsOpen o → IsWord g.text (codes "param") w → IsClose c → name.rule g ts n us → (named_or_all n).rule g us vs (c ∷ r) → Param g.text (o ∷ w ∷ ts) vs r
param_by g o w c ts us (Some n) vs r opens word closes h k = elim h [
  | inl h ↦
      let i = one_name g ts h.1.1.1.0 us h.1.1.1.1 in
      subst (λ vs. Param g.text (o ∷ w ∷ ts) vs r) k.2 (subst (λ ts. Param g.text (o ∷ w ∷ ts) (k.0 ∷ []) r) i.1 (grammar.named opens word i.2 (val_is g us k.0 (c ∷ r) k.1) closes))
  | inr h ↦ let e = h.1.0 in cc
]
param_by g o w c ts us None vs r opens word closes h k = elim h [
  | inl h ↦ let e = h.1.2 in cc
  | inr h ↦ grammar.listed opens word (subst (λ ts. Star (Val g.text) ts vs (c ∷ r)) (sym h.1.1) (vals_is g us vs (c ∷ r) k)) closes
]

param_is : (g : Ground) (ts : List Token) (vs : List ValType) (r : List Token) → InGroup param.rule g ts vs r → Param g.text ts vs r
unfolding param
param_is g _ vs r (rules.group {o = o} {c = c} {ts = ts} opens h closes) =
    let w = word_of_rule g (codes "param") ts h.0 h.1 h.2 in
    subst (λ ts. Param g.text (o ∷ ts) vs r) w.1 (param_by g o w.0 c h.1 h.3.1 h.3.0 vs r opens w.2 closes h.3.2 h.3.3)

-- `(func param* result*)`.
func_is : (g : Ground) (ts : List Token) (f : Signature) (r : List Token) → InGroup func.rule g ts f r → Func g.text ts f r
unfolding func
func_is g _ f r (rules.group {o = o} {c = c} {ts = ts} opens h closes) =
    let w = word_of_rule g (codes "func") ts h.0 h.1 h.2 in
    let ps = h.3.2 in
    let rs = h.3.3 in
    let is : f ≡ signature_of ps.0 rs.1.0 =
    sym rs.2 ∙ ap (λ x. record { params = x; results = rs.0 }) (sym ps.2) ∙ ap (λ x. record { params = flat_map (λ vs. vs) ps.0; results = x }) (sym rs.1.2) in
    subst (λ ts. Func g.text (o ∷ ts) f r) w.1
    (grammar.func opens w.2 (star_of g _ (InGroup param.rule) (Param g.text) (param_is g) h.1 ps.0 h.3.1 ps.1) (star_of g tells_more (InGroup returns.rule) (Returns g.text) (returns_is g) h.3.1 rs.1.0 (c ∷ r) rs.1.1) closes is)

definition_is : (g : Ground) (ts : List Token) (f : Signature) (r : List Token) → InGroup definition.rule g ts f r → Definition g.text ts f r
unfolding definition
definition_is g _ f r (rules.group {o = o} {c = c} {ts = ts} opens h closes) =
    let w = word_of_rule g (codes "type") ts h.0 h.1 h.2 in
    subst (λ ts. Definition g.text (o ∷ ts) f r) w.1 (elim h.3.2 [
      | inl k ↦ let i = one_name g h.1 k.1.1.1.0 h.3.1 k.1.1.1.1 in subst (λ ts. Definition g.text (o ∷ w.0 ∷ ts) f r) i.1 (grammar.identified opens w.2 i.2 (func_is g h.3.1 f (c ∷ r) h.3.3) closes)
      | inr k ↦ grammar.plain opens w.2 (subst (λ ts. Func g.text ts f (c ∷ r)) (sym k.1.1) (func_is g h.3.1 f (c ∷ r) h.3.3)) closes
    ])

pub module_is : (g : Ground) (ts : List Token) (fs : List Signature) → module_types.rule g ts fs [] → Module g.text ts fs
module_is g _ fs (rules.group {o = o} {c = c} {ts = ts} opens h closes) =
    let w = word_of_rule g (codes "module") ts h.0 h.1 h.2 in
    subst (λ ts. Module g.text (o ∷ ts) fs) w.1 (grammar.definitions opens w.2 (star_of g tells_more (InGroup definition.rule) (Definition g.text) (definition_is g) h.1 fs (c ∷ []) h.3) closes)

-- The other direction: from the grammar to the rules.

val_first : (g : Ground) (ts : List Token) (v : ValType) (r : List Token) → Val g.text ts v r → (t : Token) × (us : List Token) × (t ∷ us ≡ ts) × (t.kind ≡ Keyword)
val_first g _ _ r (i32 {t = t} h) = (t, r, refl, h.kind)
val_first g _ _ r (i64 {t = t} h) = (t, r, refl, h.kind)
val_first g _ _ r (f32 {t = t} h) = (t, r, refl, h.kind)
val_first g _ _ r (f64 {t = t} h) = (t, r, refl, h.kind)

val_more : (g : Ground) (ts : List Token) (v : ValType) (r : List Token) → Val g.text ts v r → tells_more g ts ≡ Ok true
val_more g ts v r h = let k = val_first g ts v r h in subst (λ ts. tells_more g ts ≡ Ok true) k.2 (ap (λ k. Ok (not (is_close k))) k.3)

is_vals : (g : Ground) (ts : List Token) (vs : List ValType) (c : Token) (r : List Token) → IsClose c → Star (Val g.text) ts vs (c ∷ r) → vals.rule g ts vs (c ∷ r)
is_vals g ts vs c r closes w = while_of g tells_more val.rule (Val g.text) (λ ts v r k. (is_val g ts v r k, val_more g ts v r k)) ts vs (c ∷ r) (ap (λ k. Ok (not (is_close k))) closes) w

abbrev no_name_by : Ground → Token → TokenKind → Result Bool Report
no_name_by g t k = Ok (is_some (as_id g.text t k))

vals_no_name : (g : Ground) (ts : List Token) (vs : List ValType) (c : Token) (r : List Token) → IsClose c → Star (Val g.text) ts vs (c ∷ r) → tells_kind as_id g ts ≡ Ok false
vals_no_name g _ _ c r closes grammar.none = ap (no_name_by g c) closes
vals_no_name g ts _ c r closes (grammar.more {r = us} {v = v} h w) = let k = val_first g ts v us h in subst (λ ts. tells_kind as_id g ts ≡ Ok false) k.2 (ap (no_name_by g k.0) k.3)

abbrev identified_by : Ground → List ℕ → Token → Spelled
identified_by g n t = record { name = n; owned = name_is_decoded g.text t; generation = 0; span = t.offset }

rule_of_name : (g : Ground) (t : Token) (r : List Token) → (h : IsName g.text t) → name.rule g (t ∷ r) (Some (identified_by g h.name t)) r
rule_of_name g t r h =
    let owned = name_is_decoded g.text t in
    let is = ap (as_id g.text t) h.kind ∙ ap (λ a. Some (name_or_report g.text t a)) h.named in
    let read = one (ap (named_by owned) is) in
    inl (ap (no_name_by g t) h.kind, (identified_by g h.name t, (((h.name, owned), t.offset), ((h.name, owned), read, refl), refl), refl))

abbrev after_open : Telling
after_open = tells_second (a_keyword (codes "param")).look

is_param : (g : Ground) (ts : List Token) (vs : List ValType) (r : List Token) → Param g.text ts vs r → InGroup param.rule g ts vs r × (after_open g ts ≡ Ok true)
unfolding param
is_param g _ _ r (grammar.named {w = w} {n = n} {c = c} {ts = ts} {v = v} opens h i k closes) =
    (rules.group opens (w.offset, n ∷ ts, rule_of_word g (codes "param") w (n ∷ ts) h, (Some (identified_by g i.name n), ts, rule_of_name g n ts i, (v, is_val g ts v (c ∷ r) k, refl))) closes, sees_other g (codes "param") (codes "param") true w (n ∷ ts) refl h)
is_param g _ vs r (grammar.listed {w = w} {c = c} {ts = ts} opens h k closes) =
    (rules.group opens (w.offset, ts, rule_of_word g (codes "param") w ts h, (None, ts, inr (vals_no_name g ts vs c r closes k, (refl, refl)), is_vals g ts vs c r closes k)) closes, sees_other g (codes "param") (codes "param") true w ts refl h)

-- No `param` follows a `result` or the end of the `func`.
returns_no_param : (g : Ground) (ts : List Token) (rs : List (List ValType)) (c : Token) (r : List Token) → (a_keyword (codes "param")).look g r ≡ Ok false → Star (Returns g.text) ts rs (c ∷ r) → after_open g ts ≡ Ok false
returns_no_param g _ _ c r e grammar.none = e
returns_no_param g _ _ c r e (grammar.more (returned {w = w} {ts = ts} opens h listed closes) others) = sees_other g (codes "param") (codes "result") false w ts refl h

is_func : (g : Ground) (ts : List Token) (f : Signature) (r : List Token) → (a_keyword (codes "param")).look g r ≡ Ok false → Func g.text ts f r → InGroup func.rule g ts f r
unfolding func
is_func g _ f r e (grammar.func {w = w} {c = c} {ts = ts} {us = us} {ps = ps} {rs = rs} opens h params results closes is) =
    let first = while_of g after_open (InGroup param.rule) (Param g.text) (is_param g) ts ps us (returns_no_param g us rs c r e results) params in
    let others = while_of g tells_more (InGroup returns.rule) (Returns g.text) (is_returns g) us rs (c ∷ r) (ap (λ k. Ok (not (is_close k))) closes) results in
    rules.group opens (w.offset, ts, rule_of_word g (codes "func") w ts h, (flat_map (λ vs. vs) ps, us, (ps, first, refl), (flat_map (λ vs. vs) rs, (rs, others, refl), sym is))) closes

no_word_at : (g : Ground) (c : Token) (r : List Token) → IsClose c → (a_keyword (codes "param")).look g (c ∷ r) ≡ Ok false
no_word_at g c r closes = ap (λ k. known_word (spelling as_keyword (codes "param") g.text c k)) closes

func_no_name : (g : Ground) (ts : List Token) (f : Signature) (r : List Token) → Func g.text ts f r → tells_kind as_id g ts ≡ Ok false
func_no_name g _ f r (grammar.func {o = o} opens h params results closes is) = ap (no_name_by g o) opens

is_definition : (g : Ground) (ts : List Token) (f : Signature) (r : List Token) → Definition g.text ts f r → InGroup definition.rule g ts f r × (tells_more g ts ≡ Ok true)
unfolding definition
is_definition g _ f r (grammar.identified {w = w} {n = n} {c = c} {ts = ts} opens h i k closes) =
    (rules.group opens (w.offset, n ∷ ts, rule_of_word g (codes "type") w (n ∷ ts) h, (Some (identified_by g i.name n), ts, rule_of_name g n ts i, is_func g ts f (c ∷ r) (no_word_at g c r closes) k)) closes, ap (λ k. Ok (not (is_close k))) opens)
is_definition g _ f r (grammar.plain {w = w} {c = c} {ts = ts} opens h k closes) =
    (rules.group opens (w.offset, ts, rule_of_word g (codes "type") w ts h, (None, ts, inr (func_no_name g ts f (c ∷ r) k, (refl, refl)), is_func g ts f (c ∷ r) (no_word_at g c r closes) k)) closes, ap (λ k. Ok (not (is_close k))) opens)

pub is_module : (g : Ground) (ts : List Token) (fs : List Signature) → Module g.text ts fs → module_types.rule g ts fs []
is_module g _ fs (grammar.definitions {w = w} {c = c} {ts = ts} opens h types closes) =
    rules.group opens (w.offset, ts, rule_of_word g (codes "module") w ts h, while_of g tells_more (InGroup definition.rule) (Definition g.text) (is_definition g) ts fs (c ∷ []) (ap (λ k. Ok (not (is_close k))) closes) types) closes
