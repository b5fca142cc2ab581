-- The number of an escape goes wrong in one way.
use Rattle.std.proofs.Common.{◌≡◌, ◌⊎◌, ◌≤◌, ◌<◌, ◌^◌, ℕ, List, [], ◌∷◌, ◌++◌, refl, arith, ap, sym, ◌∙◌, subst, inl, inr, append_assoc, ◌||◌}
use Rattle.std.specs.Prelude.{IsTrue, ◌==◌}
use Rattle.std.proofs.lemmas.List.{append-nil}
use Rattle.std.proofs.lemmas.Bool.{both_ways}
use Rattle.std.specs.Char.{IsScalar}
use Rattle.wat_lex.specs.grammar.Classes.{Each, Begins, is_hex, underscore, close_brace}
use Rattle.wat_lex.specs.grammar.Strings.{is_hex_or_underscore, hex_value, HexRow, EndsInUnderscore}
use Rattle.wat_lex.specs.tokens.StringFaults.{NumberFault, too_big, doubled, lone, no_scalar, no_brace, no_more}
use Rattle.wat_lex.specs.declared.lexer.faults.LexError.{LexError}
use Rattle.wat_lex.specs.declared.lexer.faults.LexError.TheVariants.{Expected, UnexpectedEof, NumberTooBig, InvalidUnicodeValue, LoneUnderscore}
use Rattle.wat_lex.specs.declared.lexer.settings.Settings.{Settings}
use Rattle.wat_lex.proofs.grammar.OneString.{value_prefix, each_prefix, each_after, begins_stop}

-- the error of a row of digits at the character after it
data Reported (d : ℕ) (ds : List ℕ) (x : ℕ) : LexError → Type 0 where
  big : IsTrue (is_hex x) → 2 ^ 32 ≤ hex_value (d ∷ ds ++ x ∷ []) → Reported d ds x NumberTooBig
  bad : IsTrue (is_hex x) → hex_value (d ∷ ds ++ x ∷ []) < 2 ^ 32 → Reported d ds x (InvalidUnicodeValue (hex_value (d ∷ ds ++ x ∷ [])))
  bar : x ≡ underscore → Reported d ds x LoneUnderscore
  other : (IsTrue (is_hex_or_underscore x) → ⊥) → Reported d ds x (Expected close_brace x)

hex_row : (x : ℕ) → IsTrue (is_hex x) → IsTrue (is_hex_or_underscore x)
hex_row x h = ap (λ b. b || x == underscore) h

bar_row : (x : ℕ) → x ≡ underscore → IsTrue (is_hex_or_underscore x)
bar_row x e = ap is_hex_or_underscore e

bar_no_hex : (x : ℕ) → x ≡ underscore → IsTrue (is_hex x) → ⊥
bar_no_hex x e h = both_ways (is_hex x) (ap is_hex e) h

reported_one : (d : ℕ) (ds : List ℕ) (x : ℕ) (e f : LexError) → Reported d ds x e → Reported d ds x f → e ≡ f
reported_one d ds x e f (big a b) (big c g) = refl
reported_one d ds x e f (big a b) (bad c g) = absurd (omega arith)
reported_one d ds x e f (big a b) (bar c) = absurd (bar_no_hex x c a)
reported_one d ds x e f (big a b) (other c) = absurd (c (hex_row x a))
reported_one d ds x e f (bad a b) (big c g) = absurd (omega arith)
reported_one d ds x e f (bad a b) (bad c g) = refl
reported_one d ds x e f (bad a b) (bar c) = absurd (bar_no_hex x c a)
reported_one d ds x e f (bad a b) (other c) = absurd (c (hex_row x a))
reported_one d ds x e f (bar a) (big c g) = absurd (bar_no_hex x a c)
reported_one d ds x e f (bar a) (bad c g) = absurd (bar_no_hex x a c)
reported_one d ds x e f (bar a) (bar c) = refl
reported_one d ds x e f (bar a) (other c) = absurd (c (bar_row x a))
reported_one d ds x e f (other a) (big c g) = absurd (a (hex_row x c))
reported_one d ds x e f (other a) (bad c g) = absurd (a (hex_row x c))
reported_one d ds x e f (other a) (bar c) = absurd (a (bar_row x c))
reported_one d ds x e f (other a) (other c) = refl

-- after the row u goes on with it, or the row is well written
Goes : ℕ → List ℕ → List ℕ → Type 0
Goes d ds u = Begins is_hex_or_underscore u ⊎ ((EndsInUnderscore ds → ⊥) × IsScalar (hex_value (d ∷ ds)))

-- the fault is at a character, and none after it
record Stopped (flags : Settings) (d : ℕ) (s : List ℕ) (e : LexError) (at : List ℕ) : Type 0 where
  ds : List ℕ
  x : ℕ
  t : List ℕ
  cut : s ≡ ds ++ x ∷ t
  reported : Reported d ds x e
  place : at ≡ x ∷ t
  row : HexRow flags d ds
  goes : Goes d ds (x ∷ t)
  ends : (more u : List ℕ) → t ≡ more ++ u → HexRow flags d (ds ++ x ∷ more) → Goes d (ds ++ x ∷ more) u → ⊥

-- the fault is at the end
record Ended (flags : Settings) (d : ℕ) (s : List ℕ) (e : LexError) (at : List ℕ) : Type 0 where
  reported : e ≡ UnexpectedEof
  place : at ≡ []
  row : HexRow flags d s
  goes : Goes d s []

pub row_prefix : (flags : Settings) (d : ℕ) (ds more : List ℕ) → HexRow flags d (ds ++ more) → HexRow flags d ds
row_prefix flags d ds more h = record {
  first = h.first;
  others = each_prefix ds more h.others;
  small = let v = value_prefix (d ∷ ds) more in let w = h.small in omega arith;
  parted = λ s f b e. h.parted s f (b ++ more) (ap (λ x. x ++ more) e ∙ append_assoc f (underscore ∷ underscore ∷ b) more);
}

one_more : (ds : List ℕ) (x : ℕ) (more : List ℕ) → (ds ++ x ∷ []) ++ more ≡ ds ++ x ∷ more
one_more ds x more = append_assoc ds (x ∷ []) more

-- the row that goes past the last character of digits and underscores is that character alone
last_alone : (ds more t u : List ℕ) (x : ℕ) → Each is_hex_or_underscore (ds ++ x ∷ more) → t ≡ more ++ u → (Begins is_hex_or_underscore t → ⊥) → more ≡ []
last_alone ds more t u x h e stop = begins_stop more u t (each_after is_hex_or_underscore ds x more h) e stop

past_last : (d : ℕ) (ds more t u : List ℕ) (x : ℕ) → Each is_hex_or_underscore (ds ++ x ∷ more) → t ≡ more ++ u → (Begins is_hex_or_underscore t → ⊥)
    → ((EndsInUnderscore (ds ++ x ∷ []) → ⊥) → IsScalar (hex_value (d ∷ ds ++ x ∷ [])) → ⊥) → Goes d (ds ++ x ∷ more) u → ⊥
unfolding Goes
past_last d ds more t u x h e stop not_good (inl b) =
    let k = last_alone ds more t u x h e stop in
    stop (subst (Begins is_hex_or_underscore) (sym (e ∙ ap (λ y. y ++ u) k)) b)
past_last d ds more t u x h e stop not_good (inr g) =
    let k = last_alone ds more t u x h e stop in
    not_good (subst (λ y. EndsInUnderscore (ds ++ x ∷ y) → ⊥) k g.0) (subst (λ y. IsScalar (hex_value (d ∷ ds ++ x ∷ y))) k g.1)

-- An error in the number of `\u{..}` is reported at a character, or at the end of the text.
stopped : (flags : Settings) (d : ℕ) (s : List ℕ) (e : LexError) (at : List ℕ) → NumberFault flags d s e at → Stopped flags d s e at ⊎ Ended flags d s e at
unfolding Goes
stopped flags d s e at (too_big {e = x} {t = t} ds k h i big_value) = inl (record {
  ds = ds;
  x = x;
  t = t;
  cut = k;
  reported = big i big_value;
  place = refl;
  row = h;
  goes = inl (hex_row x i);
  ends = λ more u _ row _.
      let v : hex_value (d ∷ ds ++ x ∷ []) ≤ hex_value (d ∷ ds ++ x ∷ more) = subst (λ y. hex_value (d ∷ ds ++ x ∷ []) ≤ hex_value (d ∷ y)) (one_more ds x more) (value_prefix (d ∷ ds ++ x ∷ []) more) in
      let w = row.small in
      omega arith;
})
stopped flags d s e at (doubled {t = t} ds k h strict a) = inl (record {
  ds = ds;
  x = underscore;
  t = t;
  cut = k;
  reported = bar refl;
  place = refl;
  row = h;
  goes = inl refl;
  ends = λ more u _ row _. row.parted strict a.0 more (ap (λ y. y ++ underscore ∷ more) a.1 ∙ append_assoc a.0 (underscore ∷ []) (underscore ∷ more));
})
stopped flags d s e at (lone {t = t} ds k h n) = inl (record {
  ds = ds;
  x = underscore;
  t = t;
  cut = k;
  reported = bar refl;
  place = refl;
  row = h;
  goes = inl refl;
  ends = λ more u q row g. past_last d ds more t u underscore row.others q n (λ f _. f (ds, refl)) g;
})
stopped flags d s e at (no_scalar {e = x} {t = t} ds k h i n m) = inl (record {
  ds = ds;
  x = x;
  t = t;
  cut = k;
  reported = bad i h.small;
  place = refl;
  row = row_prefix flags d ds (x ∷ []) h;
  goes = inl (hex_row x i);
  ends = λ more u q row g. past_last d ds more t u x row.others q n (λ _ f. m f) g;
})
stopped flags d s e at (no_brace {c = x} {t = t} ds k h n i m l) = inl (record {
  ds = ds;
  x = x;
  t = t;
  cut = k;
  reported = other m;
  place = refl;
  row = h;
  goes = inr (n, i);
  ends = λ more u _ row _. m (each_at ds x more row.others);
})
  where
    each_at : (xs : List ℕ) (x : ℕ) (ys : List ℕ) → Each is_hex_or_underscore (xs ++ x ∷ ys) → IsTrue (is_hex_or_underscore x)
    each_at [] x ys h = h.0
    each_at (z ∷ xs) x ys h = each_at xs x ys h.1
stopped flags d s e at (no_more h n i) = inr (record { reported = refl; place = refl; row = h; goes = inr (n, i) })

-- es is ds and then more
Longer : List ℕ → ℕ → List ℕ → List ℕ → List ℕ → Type 0
Longer ds x t es u = (more : List ℕ) × (es ≡ ds ++ x ∷ more) × (t ≡ more ++ u)

record Same (ds : List ℕ) (x : ℕ) (t es : List ℕ) (y : ℕ) (u : List ℕ) : Type 0 where
  row : ds ≡ es
  char : x ≡ y
  rest : t ≡ u

-- two cuts of one list
two_cuts : (ds es t u : List ℕ) (x y : ℕ) → ds ++ x ∷ t ≡ es ++ y ∷ u → Same ds x t es y u ⊎ (Longer ds x t es (y ∷ u) ⊎ Longer es y u ds (x ∷ t))
unfolding Longer
two_cuts [] [] t u x y e = inl (record { row = refl; char = let k : x ≡ y = cc in k; rest = let k : t ≡ u = cc in k })
two_cuts [] (z ∷ es) t u x y e = let k : x ≡ z = cc in let l : t ≡ es ++ y ∷ u = cc in inr (inl (es, ap (λ w. w ∷ es) (sym k), l))
two_cuts (z ∷ ds) [] t u x y e = let k : y ≡ z = cc in let l : u ≡ ds ++ x ∷ t = cc in inr (inr (ds, ap (λ w. w ∷ ds) (sym k), l))
two_cuts (z ∷ ds) (w ∷ es) t u x y e =
    let k : z ≡ w = cc in
    let l : ds ++ x ∷ t ≡ es ++ y ∷ u = cc in
    elim (two_cuts ds es t u x y l) [
      | inl s ↦ let r = s.row in let q : z ∷ ds ≡ w ∷ es = cc in inl (record { row = q; char = s.char; rest = s.rest })
      | inr (inl m) ↦ let r = m.1 in let q : w ∷ es ≡ z ∷ ds ++ x ∷ m.0 = cc in inr (inl (m.0, q, m.2))
      | inr (inr m) ↦ let r = m.1 in let q : z ∷ ds ≡ w ∷ es ++ y ∷ m.0 = cc in inr (inr (m.0, q, m.2))
    ]

no_longer : (flags : Settings) (d : ℕ) (s : List ℕ) (e f : LexError) (a b : List ℕ) (h : Stopped flags d s e a) (g : Stopped flags d s f b) → Longer h.ds h.x h.t g.ds (g.x ∷ g.t) → ⊥
unfolding Longer
no_longer flags d s e f a b h g m = h.ends m.0 (g.x ∷ g.t) m.2 (subst (HexRow flags d) m.1 g.row) (subst (λ y. Goes d y (g.x ∷ g.t)) m.1 g.goes)

not_ended : (flags : Settings) (d : ℕ) (s : List ℕ) (e f : LexError) (a b : List ℕ) → Stopped flags d s e a → Ended flags d s f b → ⊥
not_ended flags d s e f a b h g = h.ends h.t [] (sym (append-nil h.t)) (subst (HexRow flags d) h.cut g.row) (subst (λ y. Goes d y []) h.cut g.goes)

same_stop : (flags : Settings) (d : ℕ) (s : List ℕ) (e f : LexError) (a b : List ℕ) (h : Stopped flags d s e a) (g : Stopped flags d s f b) → Same h.ds h.x h.t g.ds g.x g.t → (e ≡ f) × (a ≡ b)
same_stop flags d s e f a b h g m =
    let r = m.row in
    let c = m.char in
    let t = m.rest in
    let p = h.place in
    let q = g.place in
    let place : a ≡ b = cc in
    (reported_one d h.ds h.x e f h.reported (subst (λ y. Reported d y h.x f) (sym r) (subst (λ y. Reported d g.ds y f) (sym c) g.reported)), place)

pub number_fault_unique : (flags : Settings) (d : ℕ) (s : List ℕ) (e f : LexError) (a b : List ℕ) → NumberFault flags d s e a → NumberFault flags d s f b → (e ≡ f) × (a ≡ b)
number_fault_unique flags d s e f a b h g =
    elim (stopped flags d s e a h) [
      | inl h' ↦ elim (stopped flags d s f b g) [
        | inl g' ↦ elim (two_cuts h'.ds g'.ds h'.t g'.t h'.x g'.x (sym h'.cut ∙ g'.cut)) [
          | inl m ↦ same_stop flags d s e f a b h' g' m
          | inr (inl m) ↦ absurd (no_longer flags d s e f a b h' g' m)
          | inr (inr m) ↦ absurd (no_longer flags d s f e b a g' h' m)
        ]
        | inr g' ↦ absurd (not_ended flags d s e f a b h' g')
      ]
      | inr h' ↦ elim (stopped flags d s f b g) [
        | inl g' ↦ absurd (not_ended flags d s f e b a g' h')
        | inr g' ↦ (h'.reported ∙ sym g'.reported, h'.place ∙ sym g'.place)
      ]
    ]
