-- The ranges of the parts of a floating-point number.
use Rattle.std.proofs.Common.{◌≡◌, ◌<◌, ◌≤◌, ◌+◌, ◌-◌, ℕ, List, [], ◌∷◌, length, drop, refl, ap, sym, ◌∙◌, subst, arith, inl, inr, Bool, true, false, cond, length-append}
use Rattle.std.specs.Prelude.{◌==◌, ◌||◌, Option, Some, None}
use Rattle.std.proofs.lemmas.Bool.{cases_Bool}
use Rattle.wat_lex.specs.grammar.Numbers.{Digits, last, next, parted, Payload, payload, unsigned, is_negative}
use Rattle.wat_lex.specs.tokens.EverySetting.{CutsAreOne}
use Rattle.wat_lex.specs.tokens.ReadableTokens.{word_of}
use Rattle.wat_lex.specs.values.NumberValues.{after_prefix, Point, no_point, bare, filled, Power, no_power, present}
use Rattle.wat_lex.specs.declared.lexer.kinds.FloatKind.{FloatKind}
use Rattle.wat_lex.specs.declared.lexer.kinds.FloatKind.TheVariants.{Inf, Nan, NanVal, Normal}
use Rattle.wat_lex.specs.declared.lexer.kinds.Token.{Token}
use Rattle.wat_lex.specs.declared.lexer.kinds.TokenKind.{TokenKind}
use Rattle.wat_lex.specs.declared.lexer.kinds.TokenKind.TheVariants.{Float}
use Rattle.wat_c.specs.FloatSpans.{nowhere, before, optional_before, fraction_len, without_plus, exponent_digits, AreParts, only_payload, TellsParts, decimals, payload as payload_is, bare as bare_is, other, OneParts}
use Rattle.wat_c.specs.inside.SplitFloats.{SplitsFraction}
use Rattle.wat_c.specs.declared.float_parts.Parts.{Parts}
use Rattle.wat_c.specs.declared.float_parts.Span.{Span}
use Rattle.wat_c.proofs.FloatSplits.{Split}

-- `Ranges end n span`: the range of the `n` bytes before byte `end`, or no range.
pub record Ranges (end n : ℕ) (span : Span) : Type 0 where
  pub none : n ≡ 0 → span ≡ nowhere
  pub some : 0 < n → span ≡ record { start = end - n; len = n }

pub ranged : (e f n m : ℕ) (span : Span) → e ≡ f → n ≡ m → Ranges e n span → Ranges f m span
ranged e f n m span x y h = subst (λ z. Ranges z m span) x (subst (λ z. Ranges e z span) y h)

digits_some : (hex : Bool) (s r : List ℕ) → Digits hex s r → 0 < length s
digits_some hex s r (last h) = omega arith
digits_some hex s r (next h k) = omega arith
digits_some hex s r (parted h k) = omega arith

-- A range of the digits `d` that end before byte `end`.
range_of : (end e n : ℕ) (d : List ℕ) (span : Span) → Ranges e n span → e ≡ end → n ≡ length d → 0 < length d → span ≡ before end d
range_of end e n d span h x y z =
    let s : span ≡ record { start = e - n; len = n } = h.some (omega (arith, y, z)) in
    s ∙ (λ i. record { start = x i - y i; len = y i })

power_digits : (t : List ℕ) → Digits false (unsigned t) [] → 0 < length (without_plus t)
power_digits [] h = elim h [ ]
power_digits (c ∷ t) h = elim (cases_Bool (c == 43)) [
  | inl e ↦
      let k : Digits false t [] = subst (λ b. Digits false (cond (b || c == 45) t (c ∷ t)) []) e h in
      subst (λ b. 0 < length (cond b t (c ∷ t))) (sym e) (digits_some false t [] k)
  | inr e ↦ subst (λ b. 0 < length (cond b t (c ∷ t))) (sym e) (omega arith)
]

exponent_range : (hex : Bool) (end : ℕ) (r : List ℕ) (x : Option (List ℕ)) (span : Span) → Power hex r x → Ranges end (length (without_plus (drop 1 r))) span → span ≡ optional_before end (exponent_digits x)
exponent_range hex end r None span no_power h = h.none refl
exponent_range hex end r (Some t) span (present {c = c} a k) h = range_of end end (length (without_plus t)) (without_plus t) span h refl refl (power_digits t k)

fraction_range : (hex : Bool) (start end n : ℕ) (s r : List ℕ) (f : Option (List ℕ)) (span : Span) → Point hex s f r → n ≡ fraction_len f → end ≡ start + length s → Ranges (end - length r) n span
    → span ≡ optional_before (start + 1 + fraction_len f) f
fraction_range hex start end n s r None span no_point e g h = h.none e
fraction_range hex start end n s r None span bare e g h = h.none e
fraction_range hex start end n s r (Some d) span (filled {t = t} c k) e g h =
    range_of (start + 1 + length d) (end - length r) n d span h (omega (arith, g, ap length c, length-append d r)) e (digits_some hex d [] k)

-- The ranges of a decimal or hexadecimal number's lexeme, from its splits.
pub parts_known : (hex : Bool) (w : List ℕ) (end n m : ℕ) (r : List ℕ) (parts : Parts) (split : Split hex w n) → SplitsFraction hex split.tail m r → length w ≤ end
    → Ranges (end - length split.tail) n parts.integral → Ranges (end - length r) m parts.fractional → Ranges end (length (without_plus (drop 1 r))) parts.exponent
    → parts.payload ≡ nowhere → parts.negative ≡ is_negative w → parts.status ≡ 0 → AreParts hex w (end - length w) parts
parts_known hex w end n m r parts split cut fits a b c absent negative status =
    let lengths : length w ≡ length split.leading + length split.tail = ap length split.cut ∙ length-append split.leading split.tail in
    let whole : end - length w + length w ≡ end = omega (arith, fits) in
    let len = split.len in
    let some = split.some in
    record {
      leading = split.leading;
      fraction = cut.fraction;
      power = cut.exponent;
      cut = record { tail = split.tail; rest = r; cut = split.cut; first = split.integral; point = cut.point; power = cut.rest };
      integral =
          range_of (end - length w + length split.leading) (end - length split.tail) n (after_prefix hex (unsigned split.leading)) parts.integral a (omega (arith, lengths, fits)) len
          (omega (arith, len, some));
      fractional =
          fraction_range hex (end - length w + length split.leading) end m split.tail r cut.fraction parts.fractional cut.point cut.count (omega (arith, lengths, fits)) b;
      exponent =
          exponent_range hex end r cut.exponent parts.exponent cut.rest c ∙ ap (λ x. optional_before x (exponent_digits cut.exponent)) (sym whole);
      payload = absent;
      negative = negative;
      status = status;
    }

-- The range of a payload.
pub payload_known : (w : List ℕ) (end n : ℕ) (span : Span) → Payload (unsigned w) → n ≡ length (unsigned w) - 6 → Ranges end n span → span ≡ before end (drop 6 (unsigned w))
payload_known w end n span h e r = by (unsigned w) h e
  where
    by : (s : List ℕ) → Payload s → n ≡ length s - 6 → span ≡ before end (drop 6 s)
    by s (payload {t = t} c k) e =
        let long : length s ≡ 6 + length t = omega (arith, ap length c) in
        let same : drop 6 s ≡ t = ap (drop 6) c in
        range_of end end n t span r refl (omega (arith, e, long)) (digits_some true t [] k) ∙ ap (before end) (sym same)

pub payload_long : (w : List ℕ) → Payload (unsigned w) → 6 ≤ length (unsigned w)
payload_long w h = by (unsigned w) h
  where
    by : (s : List ℕ) → Payload s → 6 ≤ length s
    by s (payload {t = t} c k) = omega (arith, ap length c)

-- ---- uniqueness

module _ (one : CutsAreOne) (text : List ℕ) (t : Token) where
  abbrev w : List ℕ
  w = word_of text t

  same_parts : (hex : Bool) (a b : Parts) → AreParts hex w t.offset a → AreParts hex w t.offset b → a ≡ b
  same_parts hex a b h k =
      let same = (one w).parts hex h.leading k.leading h.fraction k.fraction h.power k.power h.cut k.cut in
      let leading = same.0 in
      let fraction = same.1 in
      let power = same.2 in
      let integral : a.integral ≡ b.integral = h.integral ∙ (λ i. before (t.offset + length (leading i)) (after_prefix hex (unsigned (leading i)))) ∙ sym k.integral in
      let fractional : a.fractional ≡ b.fractional =
      h.fractional ∙ (λ i. optional_before (t.offset + length (leading i) + 1 + fraction_len (fraction i)) (fraction i)) ∙ sym k.fractional in
      let exponent : a.exponent ≡ b.exponent = h.exponent ∙ (λ i. optional_before (t.offset + length w) (exponent_digits (power i))) ∙ sym k.exponent in
      let payload : a.payload ≡ b.payload = h.payload ∙ sym k.payload in
      let negative : a.negative ≡ b.negative = h.negative ∙ sym k.negative in
      let status : a.status ≡ b.status = h.status ∙ sym k.status in
      λ i. record { integral = integral i; fractional = fractional i; exponent = exponent i; payload = payload i; status = status i; negative = negative i }

  abbrev of_float : FloatKind → TokenKind → FloatKind
  of_float d (Float k) = k
  of_float d k = d

  same_kind : (f g : FloatKind) → t.kind ≡ Float f → t.kind ≡ Float g → f ≡ g
  same_kind f g h k = ap (of_float f) (sym h ∙ k)

  by : (a b : Parts) → TellsParts text t a → TellsParts text t b → a ≡ b
  by a b (decimals u x e h b0) (decimals v y f k b1) =
      let same : Normal u x ≡ Normal v y = same_kind _ _ e f in
      let hex : x ≡ y = cc in
      same_parts y a b (subst (λ z. AreParts z w t.offset a) hex h) k
  by a b (decimals u x e h b0) (payload_is n v f k b1) = let same : Normal u x ≡ NanVal n v = same_kind _ _ e f in absurd cc
  by a b (decimals u x e h b0) (bare_is n (inl f) k) = let same : Normal u x ≡ Inf n = same_kind _ _ e f in absurd cc
  by a b (decimals u x e h b0) (bare_is n (inr f) k) = let same : Normal u x ≡ Nan n = same_kind _ _ e f in absurd cc
  by a b (decimals u x e h b0) (other f k) = absurd (f (Normal u x, e))
  by a b (payload_is m u e h b0) (decimals v y f k b1) = let same : NanVal m u ≡ Normal v y = same_kind _ _ e f in absurd cc
  by a b (payload_is m u e h b0) (payload_is n v f k b1) =
      let same : NanVal m u ≡ NanVal n v = same_kind _ _ e f in
      let negative : m ≡ n = cc in
      h ∙ ap (λ x. only_payload (before (t.offset + t.len) (drop 6 (unsigned w))) x 0) negative ∙ sym k
  by a b (payload_is m u e h b0) (bare_is n (inl f) k) = let same : NanVal m u ≡ Inf n = same_kind _ _ e f in absurd cc
  by a b (payload_is m u e h b0) (bare_is n (inr f) k) = let same : NanVal m u ≡ Nan n = same_kind _ _ e f in absurd cc
  by a b (payload_is m u e h b0) (other f k) = absurd (f (NanVal m u, e))
  by a b (bare_is m (inl e) h) (decimals v y f k b1) = let same : Inf m ≡ Normal v y = same_kind _ _ e f in absurd cc
  by a b (bare_is m (inr e) h) (decimals v y f k b1) = let same : Nan m ≡ Normal v y = same_kind _ _ e f in absurd cc
  by a b (bare_is m (inl e) h) (payload_is n v f k b1) = let same : Inf m ≡ NanVal n v = same_kind _ _ e f in absurd cc
  by a b (bare_is m (inr e) h) (payload_is n v f k b1) = let same : Nan m ≡ NanVal n v = same_kind _ _ e f in absurd cc
  by a b (bare_is m (inl e) h) (bare_is n (inl f) k) =
      let same : Inf m ≡ Inf n = same_kind _ _ e f in
      let negative : m ≡ n = cc in
      h ∙ ap (λ x. only_payload nowhere x 0) negative ∙ sym k
  by a b (bare_is m (inr e) h) (bare_is n (inr f) k) =
      let same : Nan m ≡ Nan n = same_kind _ _ e f in
      let negative : m ≡ n = cc in
      h ∙ ap (λ x. only_payload nowhere x 0) negative ∙ sym k
  by a b (bare_is m (inl e) h) (bare_is n (inr f) k) = let same : Inf m ≡ Nan n = same_kind _ _ e f in absurd cc
  by a b (bare_is m (inr e) h) (bare_is n (inl f) k) = let same : Nan m ≡ Inf n = same_kind _ _ e f in absurd cc
  by a b (bare_is m (inl e) h) (other f k) = absurd (f (Inf m, e))
  by a b (bare_is m (inr e) h) (other f k) = absurd (f (Nan m, e))
  by a b (other e h) (decimals v y f k b1) = absurd (e (Normal v y, f))
  by a b (other e h) (payload_is n v f k b1) = absurd (e (NanVal n v, f))
  by a b (other e h) (bare_is n (inl f) k) = absurd (e (Inf n, f))
  by a b (other e h) (bare_is n (inr f) k) = absurd (e (Nan n, f))
  by a b (other e h) (other f k) = h ∙ sym k

  pub one_parts : OneParts text t
  unfolding OneParts
  one_parts = by
