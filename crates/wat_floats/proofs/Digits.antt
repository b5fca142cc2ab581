-- The value of digits, one digit after another.
use Rattle.std.proofs.Common.{◌≡◌, ℕ, zero, suc, ◌+◌, ◌-◌, ◌*◌, ◌^◌, ◌<◌, ◌≤◌, Bool, true, false, not, nat_eq, List, [], ◌∷◌, ◌++◌, length, get_or, take, refl, sym, ap, ◌∙◌, inl, inr, arith, true≢false, pow-add, take-suc, add-one, eqb-true, le-ltb, lt-ltb}
use Rattle.std.specs.Char.{digit_value, is_ascii_digit}
use Rattle.std.specs.Str.Parse.{digits_value, digits_value_after}
use native.Mathlib.Nat.{eq-zero-or-pos}
use Rattle.core.proofs.dec2flt.DigitsLemmas.{digit_range}
use Rattle.wat_floats.specs.Rounding.{IsLeading, IsCapped}

module _ (n c : ℕ) (more : Bool) (d : ℕ) (digit : d < 16) where
  -- The next digit is kept, as the count has capacity for it.
  first : IsLeading n c 0 more → IsLeading (n * 16 + d) (c * 16 + d) 0 more
  first is =
      let f : c * 1 ≤ n = is.from in
      let b : n < (c + 1) * 1 = is.below in
      record {
        from = let g : (c * 16 + d) * 1 ≤ n * 16 + d = omega arith in g;
        below = let g : n * 16 + d < (c * 16 + d + 1) * 1 = omega arith in g;
        exact = λ m. let g : (c * 16 + d) * 1 ≡ n * 16 + d = omega arith in g;
        strict = λ m. let g : c * 1 < n = is.strict m in absurd (omega arith);
        full = λ z. absurd (omega arith);
      }

  pub kept : (dropped : ℕ) → IsLeading n c dropped more → c < 2 ^ 60 → IsLeading (n * 16 + d) (c * 16 + d) dropped more
  kept zero is h = first is
  kept (suc k) is h = absurd (omega (arith, is.full (omega arith)))

  -- The next digit is dropped.
  module _ (dropped : ℕ) (is : IsLeading n c dropped more) (full : 2 ^ 60 ≤ c) where
    abbrev p : ℕ
    p = 16 ^ dropped

    next : (a : ℕ) → a * 16 ^ (dropped + 1) ≡ a * p * 16
    next a = let e : 16 ^ (dropped + 1) ≡ p * 16 = pow-add 16 dropped 1 in ap (λ x. a * x) e ∙ grind arith

    from : c * 16 ^ (dropped + 1) ≤ n * 16 + d
    from = rw (next c) (let f : c * p ≤ n = is.from in omega arith)

    below : n * 16 + d < (c + 1) * 16 ^ (dropped + 1)
    below = rw (next (c + 1)) (let b : n < (c + 1) * p = is.below in omega arith)

    pub more_digit : more ≡ true → IsLeading (n * 16 + d) c (dropped + 1) more
    more_digit m = record {
      from = from;
      below = below;
      exact = λ e. absurd (true≢false (sym m ∙ e));
      strict = λ e. rw (next c) (let s : c * p < n = is.strict m in omega arith);
      full = λ _. full;
    }

    pub first_more : more ≡ false → IsLeading (n * 16 + d) c (dropped + 1) (not (nat_eq d 0))
    first_more m =
        let e : c * p ≡ n = is.exact m in
        elim (eq-zero-or-pos d) [
          | inl z ↦ rw z (record { from = rw z at from; below = rw z at below; exact = λ _. next c ∙ omega arith; strict = λ t. absurd (true≢false (sym t)); full = λ _. full })
          | inr l ↦ record {
            from = from;
            below = below;
            exact = λ t. absurd (omega (arith, eqb-true d 0 (not_false (nat_eq d 0) t)));
            strict = λ t. rw (next c) (omega arith);
            full = λ _. full;
          }
        ]
      where
        not_false : (b : Bool) → not b ≡ false → b ≡ true
        not_false true e = refl
        not_false false e = absurd (true≢false e)

pub none_yet : IsLeading 0 0 0 false
none_yet = record { from = omega arith; below = omega arith; exact = λ _. refl; strict = λ m. absurd (true≢false (sym m)); full = λ z. absurd (omega arith) }

-- The value of digits after one digit or several are appended.
pub push : (radix n : ℕ) (ds : List ℕ) (c : ℕ) → digits_value_after radix n (ds ++ (c ∷ [])) ≡ digits_value_after radix n ds * radix + digit_value c
push radix n [] c = refl
push radix n (d ∷ ds) c = push radix (n * radix + digit_value d) ds c

pub appended : (radix n : ℕ) (ds es : List ℕ) → digits_value_after radix n (ds ++ es) ≡ digits_value_after radix (digits_value_after radix n ds) es
appended radix n [] es = refl
appended radix n (d ∷ ds) es = appended radix (n * radix + digit_value d) ds es

pub one_more : (radix n : ℕ) (cs : List ℕ) (i : ℕ) → i < length cs → digits_value_after radix n (take (i + 1) cs) ≡ digits_value_after radix n (take i cs) * radix + digit_value (get_or cs i 0)
one_more radix n cs i h = rw (add-one, take-suc cs i 0 h) (push radix n (take i cs) (get_or cs i 0))

digit_is : (c : ℕ) → is_ascii_digit c ≡ true → digit_value c ≡ c - 48
digit_is c e =
    let r = digit_range c e in
    rw (le-ltb c 48 (omega arith)) (rw (lt-ltb c 58 (omega arith)) refl)

-- The next decimal digit, after a value that is capped or large enough without it.
module _ (text : List ℕ) (i n : ℕ) (within : i < length text) (digit : is_ascii_digit (get_or text i 0) ≡ true) (is : IsCapped (digits_value 10 (take i text)) n) where
  value : digits_value 10 (take (i + 1) text) ≡ digits_value 10 (take i text) * 10 + (get_or text i 0 - 48)
  value = one_more 10 0 text i within ∙ ap (λ x. digits_value 10 (take i text) * 10 + x) (digit_is (get_or text i 0) digit)

  pub capped_more : (m : ℕ) → m ≡ n * 10 + (get_or text i 0 - 48) → n < 2 ^ 100 → IsCapped (digits_value 10 (take (i + 1) text)) m
  capped_more m e h = let v = value in let s = is.same h in record { most = omega arith; same = λ _. omega arith }

  pub capped_same : (m : ℕ) → m ≡ n → 2 ^ 100 ≤ n → IsCapped (digits_value 10 (take (i + 1) text)) m
  capped_same m e h = let v = value in record { most = omega (arith, is.most); same = λ l. absurd (omega arith) }
