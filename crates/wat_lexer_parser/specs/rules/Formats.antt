-- Formats: a format pairs a reading with its grammar rule and the proofs that relate them. Each combinator of readings
-- is defined here for formats, so the author of a format writes one term, which yields the reading, the rule, and the
-- proof that they agree. Not part of the standard.
use Rattle.std.proofs.Common.{◌≡◌, ◌<◌, ◌≤◌, ◌⊎◌, inl, inr, ℕ, arith, List, [], ◌∷◌, ◌++◌, Bool, true, false, refl, ap, subst, length, Some, None, Ok, Err}
use Rattle.std.specs.Prelude.{◌&&◌, ◌||◌, Option, Result, nat_le}
use Rattle.std.specs.List.{flat_map}
use Rattle.wat_lex.specs.errors.Errors.{Report}
use Rattle.wat_lex.specs.declared.lexer.kinds.Token.{Token}
use Rattle.wat_lexer_parser.specs.parser.Takers.{Reader, as_annotation}
use Rattle.wat_lexer_parser.specs.readings.Attempts.{attempts_held}
use Rattle.wat_lexer_parser.specs.readings.Choices as choices
use Rattle.wat_lexer_parser.specs.readings.Readings.{Reading, also_taking, on}
use Rattle.wat_lexer_parser.specs.readings.Readings as words
use Rattle.wat_lexer_parser.specs.readings.Reads.{Advances}
use Rattle.wat_lexer_parser.specs.lemmas.RuleLaws.{Follows, Agrees, follows_give, follows_refuse, follows_refuse_after, follows_none, follows_token, follows_and_then, follows_mapped, follows_spanned, follows_checked, follows_also, follows_where_seen, follows_while, follows_group, agrees_kind, agrees_word, agrees_annotation, agrees_second, agrees_after_open, agrees_more, advances_token, shrinks_one, known_as_got, checked_got, seen_got, group_passed, then_got}
use Rattle.wat_lexer_parser.specs.rules.Rules.{Ground, Rule, Telling, Keeps, Shrinks, While, none, more, One, InGroup, Then, Known, Spanned, Checked, WhereSeen, Nothing, Never, tells_kind, tells_word, tells_second, tells_after_open, tells_more}
use Rattle.wat_lexer_parser.specs.rules.Rules as rules
use Rattle.wat_lexer_parser.specs.parser.Sights.{Sight}
use Rattle.wat_lexer_parser.specs.parser.Sights as sights
use Rattle.wat_lexer_parser.specs.readings.Types as types

-- A format. `takes_token` states that each value consumes at least one token.
pub record Format (V : Type 0) : Type 1 where
  pub reading : Reading V
  pub rule : Rule V
  pub takes_token : Bool
  pub law : Follows reading rule
  pub keeps : Keeps rule
  pub shrinks : takes_token ≡ true → Shrinks rule
  pub advances : takes_token ≡ true → Advances reading

-- A peek of a parser, the same peek over visible tokens, and the proof that they agree.
pub record Lookout : Type 0 where
  pub sight : Sight
  pub look : Telling
  pub agrees : Agrees sight look

pub never_takes : {A : Type 0} → false ≡ true → A
never_takes e = cc

pub never_reads : {V A : Type 0} (f : Report) (v : V) → ◌≡◌ {A = Result V Report} (Err f) (Ok v) → A
never_reads f v e = cc

-- A peek for a token of a kind.
abbrev pub a_token : {V : Type 0} → Reader V → Lookout
a_token read = record { sight = sights.sight_of read; look = tells_kind read; agrees = agrees_kind read }

-- A peek for a token of a kind with this word.
abbrev pub a_word : Reader (List ℕ) → List ℕ → Lookout
a_word read w = record { sight = types.sees_word read w; look = tells_word (types.spelling read w); agrees = agrees_word read w }

-- A peek for an annotation of this name.
abbrev pub a_named : List ℕ → Lookout
a_named w = record { sight = types.sees_annotation w; look = tells_word (types.spelling as_annotation w); agrees = agrees_annotation w }

abbrev pub second : Lookout → Lookout
second l = record { sight = sights.second l.sight; look = tells_second l.look; agrees = agrees_second l.sight l.look l.agrees }

abbrev pub after_open : Lookout → Lookout
after_open l = record { sight = types.after_open l.sight; look = tells_after_open l.look; agrees = agrees_after_open l.sight l.look l.agrees }

abbrev pub more_comes : Lookout
more_comes = record { sight = words.more_comes; look = tells_more; agrees = agrees_more }

abbrev pub give : {V : Type 0} → V → Format V
give v = record {
  reading = words.give v;
  rule = Nothing v;
  takes_token = false;
  law = follows_give v;
  keeps = λ g ts w r h. omega (arith, ap length h.1);
  shrinks = never_takes;
  advances = never_takes;
}

abbrev pub refuse : {V : Type 0} → List ℕ → Format V
refuse {V} message = record {
  reading = words.refuse message;
  rule = Never;
  takes_token = true;
  law = follows_refuse V message;
  keeps = λ g ts w r h. absurd h;
  shrinks = λ e g ts w r h. absurd h;
  advances = λ e a v h. never_reads _ v h;
}

abbrev pub refuse_after : {V : Type 0} → List ℕ → Format V
refuse_after {V} message = record {
  reading = words.refuse_after message;
  rule = Never;
  takes_token = true;
  law = follows_refuse_after V message;
  keeps = λ g ts w r h. absurd h;
  shrinks = λ e g ts w r h. absurd h;
  advances = λ e a v h. never_reads _ v h;
}

-- The format, with an equal reading instead of its own.
abbrev pub as_read : {V : Type 0} → (m : Format V) (n : Reading V) → m.reading ≡ n → Format V
as_read m n e = record {
  reading = n;
  rule = m.rule;
  takes_token = m.takes_token;
  law = subst (λ n. Follows n m.rule) e m.law;
  keeps = m.keeps;
  shrinks = m.shrinks;
  advances = λ k. subst (λ n. Advances n) e (m.advances k);
}

abbrev pub token : {V : Type 0} → Reader V → List ℕ → Format V
token read message = record {
  reading = words.token read message;
  rule = One read;
  takes_token = true;
  law = follows_token read message;
  keeps = λ g ts v r h. omega (arith, shrinks_one read g ts v r h);
  shrinks = λ e. shrinks_one read;
  advances = λ e. advances_token read message;
}

abbrev pub mapped : {V W : Type 0} → (V → W) → Format V → Format W
mapped f m = record {
  reading = words.mapped f m.reading;
  rule = Known f m.rule;
  takes_token = m.takes_token;
  law = follows_mapped f m.reading m.rule m.law;
  keeps = λ g ts w r h. m.keeps g ts h.0 r h.1;
  shrinks = λ e g ts w r h. m.shrinks e g ts h.0 r h.1;
  advances = λ e a w h. let k = known_as_got f (m.reading a).answer w h in m.advances e a k.0 k.1;
}

abbrev pub spanned : {V : Type 0} → Format V → Format (V × ℕ)
spanned {V} m = record {
  reading = words.spanned m.reading;
  rule = Spanned m.rule;
  takes_token = m.takes_token;
  law = follows_spanned m.reading m.rule m.law;
  keeps = λ g ts w r h. m.keeps g ts h.0 r h.1;
  shrinks = λ e g ts w r h. m.shrinks e g ts h.0 r h.1;
  advances = λ e a w h. let k = known_as_got {W = V × ℕ} _ (m.reading a).answer w h in m.advances e a k.0 k.1;
}

abbrev pub checked : {V W : Type 0} → (V → Option W) → List ℕ → Format V → Format W
checked check message m = record {
  reading = words.checked check message m.reading;
  rule = Checked check m.rule;
  takes_token = m.takes_token;
  law = follows_checked check message m.reading m.rule m.law;
  keeps = λ g ts w r h. m.keeps g ts h.0 r h.1;
  shrinks = λ e g ts w r h. m.shrinks e g ts h.0 r h.1;
  advances = λ e a w h.
      let k = checked_got (m.reading a).answer (m.reading a) check _ w h in
      omega (arith, m.advances e a k.0 k.1, k.3);
}

-- The format of the same value, for which the reading may allocate if `takes` is true.
abbrev pub also : {V : Type 0} → Bool → Format V → Format V
also takes m = record {
  reading = λ a. also_taking takes (m.reading a);
  rule = m.rule;
  takes_token = m.takes_token;
  law = follows_also takes m.reading m.rule m.law;
  keeps = m.keeps;
  shrinks = m.shrinks;
  advances = m.advances;
}

abbrev pub allocated : {V : Type 0} → Format V → Format V
allocated m = also true m

abbrev pub and_then : {V W : Type 0} → Format V → (V → Format W) → Format W
and_then m next = record {
  reading = words.and_then m.reading (λ v. (next v).reading);
  rule = Then m.rule (λ v. (next v).rule);
  takes_token = m.takes_token;
  law = follows_and_then m.reading (λ v. (next v).reading) m.rule (λ v. (next v).rule) m.law (λ v. (next v).law);
  keeps = λ g ts w r h. omega (arith, m.keeps g ts h.0 h.1 h.2, (next h.0).keeps g h.1 w r h.3);
  shrinks = λ e g ts w r h. omega (arith, m.shrinks e g ts h.0 h.1 h.2, (next h.0).keeps g h.1 w r h.3);
  advances = λ e a w h.
      let k = then_got (m.reading a).answer (m.reading a).passed (m.reading a).takes_memory (λ v. (next v).reading) a w h in
      omega (arith, m.advances e a k.0 k.1, k.2);
}

pub one_true : (a b : Bool) → (a || b) ≡ true → (a ≡ true) ⊎ (b ≡ true)
one_true true b e = inl refl
one_true false b e = inr e

-- A format followed by another, which does not depend on the first value. It consumes a token if one of the two does.
abbrev pub followed_by : {V W : Type 0} → Format V → Format W → Format W
followed_by {V} {W} m n = record {
  reading = words.and_then m.reading (λ v. n.reading);
  rule = Then m.rule (λ v. n.rule);
  takes_token = m.takes_token || n.takes_token;
  law = follows_and_then m.reading (λ v. n.reading) m.rule (λ v. n.rule) m.law (λ v. n.law);
  keeps = λ g ts w r h. omega (arith, m.keeps g ts h.0 h.1 h.2, n.keeps g h.1 w r h.3);
  shrinks = λ e g ts w r h. elim (one_true m.takes_token n.takes_token e) [
    | inl k ↦ omega (arith, m.shrinks k g ts h.0 h.1 h.2, n.keeps g h.1 w r h.3)
    | inr k ↦ omega (arith, m.keeps g ts h.0 h.1 h.2, n.shrinks k g h.1 w r h.3)
  ];
  advances = λ e a w h.
      let k = then_got {W = W} (m.reading a).answer (m.reading a).passed (m.reading a).takes_memory (λ v. n.reading) a w h in
      elim (one_true m.takes_token n.takes_token e) [
        | inl j ↦ omega (arith, m.advances j a k.0 k.1, k.2)
        | inr j ↦ omega (arith, n.advances j (on a (m.reading a).passed) w k.3, k.2)
      ];
}

pub both_true : (a b : Bool) → (a && b) ≡ true → (a ≡ true) × (b ≡ true)
both_true true b e = (refl, e)
both_true false b e = cc

abbrev pub where_seen : {V : Type 0} → Lookout → Format V → Format V → Format V
where_seen l m n = record {
  reading = words.where_seen l.sight m.reading n.reading;
  rule = WhereSeen l.look m.rule n.rule;
  takes_token = m.takes_token && n.takes_token;
  law = follows_where_seen l.sight l.look m.reading n.reading m.rule n.rule l.agrees m.law n.law;
  keeps = λ g ts v r h. elim h [
    | inl k ↦ m.keeps g ts v r k.1
    | inr k ↦ n.keeps g ts v r k.1
  ];
  shrinks = λ e g ts v r h. elim h [
    | inl k ↦ m.shrinks (both_true m.takes_token n.takes_token e).0 g ts v r k.1
    | inr k ↦ n.shrinks (both_true m.takes_token n.takes_token e).1 g ts v r k.1
  ];
  advances = λ e a v h. elim (seen_got (l.sight a).known (l.sight a).takes (m.reading a) (n.reading a) v h) [
    | inl k ↦ omega (arith, k.2, m.advances (both_true m.takes_token n.takes_token e).0 a v k.1)
    | inr k ↦ omega (arith, k.2, n.advances (both_true m.takes_token n.takes_token e).1 a v k.1)
  ];
}

abbrev pub optional : {V : Type 0} → Lookout → Format V → Format (Option V)
optional l m = where_seen l (mapped (λ v. Some v) m) (give None)

pub while_keeps : {V : Type 0} (look : Telling) (R : Rule V) → Keeps R → (g : Ground) (ts : List Token) (vs : List V) (r : List Token) → While look R g ts vs r → length r ≤ length ts
while_keeps look R k g ts _ _ (none e) = omega arith
while_keeps look R k g ts _ r (more {r = us} {v = v} {vs = vs} e h w) = omega (arith, k g ts v us h, while_keeps look R k g us vs r w)

-- A repetition of a format as long as the peek yields `true`. The format must consume a token.
abbrev pub while_seen : {V : Type 0} → Lookout → (m : Format V) → m.takes_token ≡ true → Format (List V)
while_seen l m e = record {
  reading = words.while_seen l.sight m.reading;
  rule = While l.look m.rule;
  takes_token = false;
  law = follows_while l.sight l.look m.reading m.rule (m.shrinks e) l.agrees m.law;
  keeps = while_keeps l.look m.rule m.keeps;
  shrinks = never_takes;
  advances = never_takes;
}

-- A repetition of a format up to `)` or the end of the text.
abbrev pub many : {V : Type 0} → (m : Format V) → m.takes_token ≡ true → Format (List V)
many m e = while_seen more_comes m e

-- A repetition of a format of lists, whose values are concatenated.
abbrev pub joined_while : {V : Type 0} → Lookout → (m : Format (List V)) → m.takes_token ≡ true → Format (List V)
joined_while l m e = mapped (λ vss. flat_map (λ vs. vs) vss) (while_seen l m e)

pub group_shrinks : {V : Type 0} (R : Rule V) → Keeps R → (g : Ground) (ts : List Token) (v : V) (r : List Token) → InGroup R g ts v r → length r < length ts
group_shrinks R k g _ v r (rules.group {c = c} {ts = ts} o h e) = omega (arith, k g ts v (c ∷ r) h)

abbrev pub group : {V : Type 0} → Format V → Format V
group m = record {
  reading = words.group m.reading;
  rule = InGroup m.rule;
  takes_token = true;
  law = follows_group m.reading m.rule m.law;
  keeps = λ g ts v r h. omega (arith, group_shrinks m.rule m.keeps g ts v r h);
  shrinks = λ e. group_shrinks m.rule m.keeps;
  advances = λ e a v h. group_passed m.reading a v h;
}

-- Alternatives, each with its peek, its description in messages, and its format. If no peek yields `true`, the error
-- is that one of them was expected.

pub data Choices (V : Type 0) : Type 1 where
  nothing_else : Choices V
  choice : Lookout → List ℕ → Format V → Choices V → Choices V

abbrev pub one_after : {V : Type 0} → List (List ℕ) → Choices V → Format V
one_after {V} missed nothing_else = record {
  reading = choices.one_after missed [];
  rule = Never;
  takes_token = true;
  law = follows_none V missed;
  keeps = λ g ts w r h. absurd h;
  shrinks = λ e g ts w r h. absurd h;
  advances = λ e a v h. never_reads _ v h;
}
one_after missed (choice l x m c) = where_seen l m (also (nat_le attempts_held (length missed)) (one_after (missed ++ (x ∷ [])) c))

abbrev pub one_of : {V : Type 0} → Choices V → Format V
one_of c = one_after [] c
