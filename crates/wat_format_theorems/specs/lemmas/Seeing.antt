-- The results of peeks of a parser, and of a parser with the same visible tokens at other offsets. These are proofs,
-- which a reader may skip.
use Rattle.std.proofs.Common.{◌≡◌, ◌∙◌, ◌<◌, ◌≤◌, ◌+◌, ◌-◌, ℕ, arith, List, Bool, true, false, refl, sym, ap, subst, length, drop, Some, None, Ok, Err}
use Rattle.std.specs.Prelude.{◌&&◌, Option, Result, bytes_eq, codes, if◌then◌else◌, is_some, not}
use Rattle.std.specs.Str.{IsUtf8, chars}
use Rattle.wat_lex.specs.errors.Errors.{Report, lexical}
use Rattle.wat_lex.specs.grammar.Classes.{backslash, quote}
use Rattle.wat_lex.specs.grammar.Numbers.{sign_token}
use Rattle.wat_lex.specs.values.NumberValues.{integer_value}
use Rattle.wat_lex.specs.values.WordValues.{name_value, string_value}
use Rattle.wat_lex.specs.tokens.ReadableTokens.{token_text, word_of}
use Rattle.wat_lex.specs.declared.lexer.kinds.Token.{Token}
use Rattle.wat_lex.specs.declared.lexer.kinds.TokenKind.{TokenKind}
use Rattle.wat_lex.specs.declared.lexer.kinds.TokenKind.TheVariants.{LParen, RParen, String, Id, Keyword, Annotation, Reserved, Integer, Float}
use Rattle.wat_lex.specs.declared.lexer.faults.LexError.{LexError}
use Rattle.wat_lex.specs.declared.lexer.faults.LexError.TheVariants.{EmptyId, EmptyAnnotation}
use Rattle.wat_lexer_parser.specs.declared.parser.fault.Fault.{Fault}
use Rattle.wat_lexer_parser.specs.declared.parser.fault.FaultKind.{FaultKind}
use Rattle.wat_lexer_parser.specs.declared.parser.fault.FaultKind.TheVariants.{Lex, Unclosed}
use Rattle.wat_lexer_parser.specs.groups.Sorts.{is_close}
use Rattle.wat_lexer_parser.specs.lemmas.After.{AfterPlace, after_in, after_place, forward_in, same_token, shown_is_taken}
use Rattle.wat_lexer_parser.specs.parser.Closures.{opened, closed}
use Rattle.wat_lexer_parser.specs.parser.Sights.{Sight, second, seen_after, sight_of}
use Rattle.wat_lexer_parser.specs.parser.State.{State, Seen, at_place, report_here, report_of, seen, peek_at, known}
use Rattle.wat_lexer_parser.specs.parser.Takers.{Reader, as_open, as_close, as_keyword, as_reserved, as_string, as_integer, as_float, as_id, as_annotation, contains, is_minus, name_or_report, name_is_decoded, taken, token_value_at, token_value_by}
use Rattle.wat_lexer_parser.specs.lemmas.Parts.{sees, taken_or}
use Rattle.wat_lexer_parser.specs.places.Places.{current_span, empty_of}
use Rattle.wat_lexer_parser.specs.lemmas.Parts as parts
use Rattle.wat_lexer_parser.specs.places.Source.{Source, IsRead}
use Rattle.wat_lexer_parser.specs.readings.Readings.{Reading, more_comes}
use Rattle.wat_lexer_parser.specs.readings.Types.{after_open, is_taken, sees_annotation, sees_word, spelling, spelling_by, as_owned_id, named_by}
use Rattle.wat_lexer_parser.specs.laws.Counting.{CountingShowsTheSame, counting, counting_after}
use Rattle.wat_lexer_parser.specs.shown.Shown.{Finding}
use Rattle.wat_lexer_parser.specs.inside.ShownIn.{Showing, shown_in}
use Rattle.wat_lexer_parser.specs.shown.Showing.{OneThingShown, SomethingShown, placed, shown}
use Rattle.wat_format_theorems.specs.Moved.{fault_moved, error_offset_moved, token_moved}
use Rattle.wat_format_theorems.specs.Reads.{MovesReader, MovesSight, ReadMoved, KnownMoved}
use Rattle.wat_format_theorems.specs.Sides.{Sides, Alike, AllSame, Among, IsInBoth, RefusalMoved, Same, SameRefusal, Correspond, after_token, at_end, at_token, at_places}
use Rattle.wat_format_theorems.specs.lemmas.Among.{FaultIn, FoundIn, among_counting, found_in, paren_of}
use Rattle.wat_format_theorems.specs.lemmas.Found.{Found, found}

-- The theorems of the parser that the lemmas use.
pub record ShownLaws : Type 0 where
  pub one : OneThingShown
  pub some : SomethingShown
  pub counting : CountingShowsTheSame

-- The result of a peek at a position, over all raw tokens.

finding : State → Finding
finding a = shown_in a.source.setting.text a.source.ending a.names Showing (drop a.place a.source.tokens)

seen_is : (a : State) → peek_at a ≡ known a.source.setting.text (placed a.source.tokens (finding a))
unfolding seen shown finding
seen_is a = refl

shown_is : (a : State) → shown a.source a.place a.names ≡ placed a.source.tokens (finding a)
unfolding shown finding
shown_is a = refl

span_is : (a : State) → current_span a.source a.place a.names ≡ parts.span_of a.source a.place (placed a.source.tokens (finding a))
unfolding current_span shown finding
span_is a = refl

counted : ShownLaws → (a : State) → IsUtf8 a.source.setting.text → IsRead a.source → a.source.ending ≡ None → counting_after (finding a) ≡ shown_in a.source.setting.text None a.names Showing (counting (drop a.place a.source.tokens))
unfolding finding
counted laws a u r e =
    let x = a.source.setting.text in
    let ts = counting (drop a.place a.source.tokens) in
    let some = laws.counting a.source a.names a.place (finding a) u r (laws.some a.source a.names a.place u r) in
    laws.one x a.source.ending a.names ts (counting_after (finding a)) some ∙ ap (λ e. shown_in x e a.names Showing ts) e

after_finding : (a : State) (t : Token) (r : List Token) → finding a ≡ Ok (Some (t, r)) → AfterPlace t a.source.tokens a.place r
unfolding finding
after_finding a t r e = after_place t a.source.tokens a.place r (after_in a.source.setting.text a.source.ending a.names Showing (drop a.place a.source.tokens) t r e)

module _ (laws : ShownLaws) (s : Sides) where
  abbrev x : List ℕ
  x = s.here.source.setting.text

  abbrev y : List ℕ
  y = s.there.source.setting.text

  found_here : (ts : List Token) → Alike s ts → counting_after (finding s.here) ≡ shown_in x None s.here.names Showing ts
  found_here ts h = counted laws s.here h.texts.utf8.0 h.texts.read.0 h.texts.ending.0 ∙ ap (shown_in x None s.here.names Showing) h.here

  found_there : (ts : List Token) → Alike s ts → counting_after (finding s.there) ≡ shown_in y None s.here.names Showing (counting (drop s.there.place s.there.source.tokens))
  found_there ts h = counted laws s.there h.texts.utf8.1 h.texts.read.1 h.texts.ending.1 ∙ ap (λ n. shown_in y None n Showing (counting (drop s.there.place s.there.source.tokens))) h.names

  found_both : (ts : List Token) → Alike s ts → Found x y s.move (counting_after (finding s.here)) (counting_after (finding s.there))
  found_both ts h =
      let us = counting (drop s.there.place s.there.source.tokens) in
      subst (λ a. Found x y s.move a (counting_after (finding s.there))) (sym (found_here ts h)) (subst (λ b. Found x y s.move (shown_in x None s.here.names Showing ts) b) (sym (found_there ts h)) (found x y s.move s.here.names ts us h.there Showing))

  -- A token that is found is significant, and an error is at a significant token.
  seen_in : (ts : List Token) → Alike s ts → FoundIn (counting s.here.source.tokens) (counting_after (finding s.here))
  seen_in ts h =
      let all = counting s.here.source.tokens in
      let among : (t : Token) → Among ts t → Among all t = λ t k. among_counting s.here.source.tokens s.here.place t (subst (λ l. Among l t) (sym h.here) k) in
      subst (FoundIn all) (sym (found_here ts h)) (found_in x s.here.names all ts among Showing tt)

-- Spans, and errors at them.

refusal_by : (move : ℕ → ℕ) (s r : Source) → IsRead s → (p : ℕ) (kind : FaultKind) → FaultIn (counting s.tokens) kind p → RefusalMoved move s r (report_of s.setting.text (record { offset = p; kind = kind })) (report_of r.setting.text (record { offset = error_offset_moved move kind p; kind = kind }))
unfolding report_of
refusal_by move s r read p (Lex e) h = record { cause = refl; offset = at_token h.0 h.1 h.2 (ap move h.2); excerpt = refl }
refusal_by move s r read p Unclosed h =
    let len = paren_of s read h.0 h.1 h.2 in
    let at : p - 1 ≡ h.0.offset = omega (arith, h.3) in
    record { cause = refl; offset = after_token h.0 h.1 (h.3 ∙ ap (λ n. h.0.offset + n) (sym len)) (ap (λ q. move q + 1) at ∙ ap (λ n. move h.0.offset + n) (sym len)); excerpt = refl }

refusal_of : (move : ℕ → ℕ) (s r : Source) → IsRead s → (f : Fault) → FaultIn (counting s.tokens) f.kind f.offset → RefusalMoved move s r (report_of s.setting.text f) (report_of r.setting.text (fault_moved move f))
unfolding report_of
refusal_of move s r read f h = refusal_by move s r read f.offset f.kind h

span_by : (s : Sides) (ts : List Token) (f g : Finding) → Alike s ts → FoundIn (counting s.here.source.tokens) (counting_after f) → Found s.here.source.setting.text s.there.source.setting.text s.move (counting_after f) (counting_after g)
    → Correspond s (parts.span_of s.here.source s.here.place (placed s.here.source.tokens f)) (parts.span_of s.there.source s.there.place (placed s.there.source.tokens g))
span_by s ts (Ok None) (Ok None) h i k = at_end refl refl
span_by s ts (Ok None) (Ok (Some (u, q))) h i k = cc
span_by s ts (Ok None) (Err g) h i k = cc
span_by s ts (Ok (Some (t, r))) (Ok None) h i k = let e = k.2 in cc
span_by s ts (Ok (Some (t, r))) (Ok (Some (u, q))) h i k = at_token t i refl (ap (λ (v : Token). v.offset) ((same_token {F = Fault} u k.0 (counting q) k.1 k.2).0 ∙ k.3.is))
span_by s ts (Ok (Some (t, r))) (Err g) h i k = let e = k.2 in cc
span_by s ts (Err f) (Ok None) h i k = cc
span_by s ts (Err f) (Ok (Some (u, q))) h i k = cc
span_by s ts (Err f) (Err g) h i k = h.place

pub span_is_at : ShownLaws → (s : Sides) (ts : List Token) → Alike s ts → Correspond s (current_span s.here.source s.here.place s.here.names) (current_span s.there.source s.there.place s.there.names)
span_is_at laws s ts h =
    let there = parts.span_of s.there.source s.there.place (placed s.there.source.tokens (finding s.there)) in
    subst (λ p. Correspond s p (current_span s.there.source s.there.place s.there.names)) (sym (span_is s.here)) (subst (λ q. Correspond s (parts.span_of s.here.source s.here.place (placed s.here.source.tokens (finding s.here))) q) (sym (span_is s.there)) (span_by s ts (finding s.here) (finding s.there) h (seen_in laws s ts h) (found_both laws s ts h)))

pub report_moves : ShownLaws → (s : Sides) (ts : List Token) (message : List ℕ) → Alike s ts → SameRefusal s (report_here s.here.source s.here.place s.here.names message) (report_here s.there.source s.there.place s.there.names message)
report_moves laws s ts message h = record { cause = refl; offset = span_is_at laws s ts h; excerpt = refl }

-- `NeedsToken m`: the reading has a value only if a token is visible.
abbrev pub NeedsToken : {V : Type 0} → Reading V → Type 0
NeedsToken {V} m = (a : State) (v : V) → (m a).answer ≡ Ok v → (t : Token) × (q : ℕ) × (shown a.source a.place a.names ≡ Ok (Some (t, q)))

span_of_token : (s : Sides) (ts : List Token) (f g : Finding) (t : Token) (q : ℕ) → Found s.here.source.setting.text s.there.source.setting.text s.move (counting_after f) (counting_after g) → placed s.here.source.tokens f ≡ Ok (Some (t, q))
    → parts.span_of s.there.source s.there.place (placed s.there.source.tokens g) ≡ s.move (parts.span_of s.here.source s.here.place (placed s.here.source.tokens f))
span_of_token s ts (Ok None) g t q k e = cc
span_of_token s ts (Ok (Some (v, r))) (Ok None) t q k e = let d = k.2 in cc
span_of_token s ts (Ok (Some (v, r))) (Ok (Some (u, p))) t q k e = ap (λ (w : Token). w.offset) ((same_token {F = Fault} u k.0 (counting p) k.1 k.2).0 ∙ k.3.is)
span_of_token s ts (Ok (Some (v, r))) (Err g) t q k e = let d = k.2 in cc
span_of_token s ts (Err f) g t q k e = cc

-- If a token is visible, its span is mapped.
pub span_moves : ShownLaws → (s : Sides) (ts : List Token) (t : Token) (q : ℕ) → shown s.here.source s.here.place s.here.names ≡ Ok (Some (t, q)) → Alike s ts
    → current_span s.there.source s.there.place s.there.names ≡ s.move (current_span s.here.source s.here.place s.here.names)
span_moves laws s ts t q e h =
    span_is s.there ∙ span_of_token s ts (finding s.here) (finding s.there) t q (found_both laws s ts h) (sym (shown_is s.here) ∙ e) ∙ sym (ap s.move (span_is s.here))

-- Peeks.

pub alike_at : (s : Sides) (p p' q q' : ℕ) (ts : List Token) → p ≡ p' → q ≡ q' → Alike (at_places s p q) ts → Alike (at_places s p' q') ts
alike_at s p p' q q' ts d e h = subst (λ q. Alike (at_places s p' q) ts) e (subst (λ p. Alike (at_places s p q) ts) d h)

-- `ConsumedInBoth s ts p q`: the positions after a token that is consumed on both sides.
pub record ConsumedInBoth (s : Sides) (ts : List Token) (p q : ℕ) : Type 0 where
  pub rest : List Token
  pub alike : Alike (at_places s p q) rest
  pub fewer : length rest + 1 ≤ length ts
  pub here : s.here.place < p
  pub there : s.there.place < q

abbrev pub SeenMoved : Sides → List Token → Seen → Seen → Type 0
SeenMoved s ts (Ok None) b = b ≡ Ok None
SeenMoved s ts (Ok (Some (t, p))) b = (q : ℕ) × (b ≡ Ok (Some (token_moved s.move t, q))) × IsInBoth s t × ConsumedInBoth s ts p q
SeenMoved s ts (Err f) b = (g : Report) × (b ≡ Err g) × SameRefusal s f g

onward : ShownLaws → (s : Sides) (ts : List Token) (t u v : Token) (r q z : List Token) → Alike s ts → finding s.here ≡ Ok (Some (t, r)) → finding s.there ≡ Ok (Some (u, q)) → u ≡ v → counting q ≡ z → Same s.here.source.setting.text s.there.source.setting.text s.move t v
    → AllSame s.here.source.setting.text s.there.source.setting.text s.move (counting r) z → Among (counting s.here.source.tokens) t → ConsumedInBoth s ts (length s.here.source.tokens - length r) (length s.there.source.tokens - length q)
onward laws s ts t u v r q z h e d w c same rest among =
    let x = s.here.source.setting.text in
    let y = s.there.source.setting.text in
    let b = after_finding s.here t r e in
    let f = after_finding s.there u q d in
    let p = length s.here.source.tokens - length r in
    let o = length s.there.source.tokens - length q in
    let taken = shown_is_taken s.here.source s.here.place s.here.names t p (shown_is s.here ∙ ap (placed s.here.source.tokens) e) in
    let other = shown_is_taken s.there.source s.there.place s.there.names u o (shown_is s.there ∙ ap (placed s.there.source.tokens) d) in
    let counts : shown_in x None s.here.names Showing ts ≡ Ok (Some (t, counting r)) = sym (found_here laws s ts h) ∙ ap counting_after e in
    record {
      rest = counting r;
      alike = record {
        texts = h.texts;
        names = h.names;
        here = ap counting (sym b.tail);
        there = subst (AllSame x y s.move (counting r)) (sym c ∙ ap counting f.tail) rest;
        place = after_token t among taken.3 (other.3 ∙ ap (λ (k : Token). k.offset + k.len) (w ∙ same.is));
      };
      fewer = omega (arith, forward_in x None s.here.names Showing ts t (counting r) counts);
      here = b.forward;
      there = f.forward;
    }

seen_by : ShownLaws → (s : Sides) (ts : List Token) (f g : Finding) → Alike s ts → finding s.here ≡ f → finding s.there ≡ g → Found s.here.source.setting.text s.there.source.setting.text s.move (counting_after f) (counting_after g)
    → SeenMoved s ts (known s.here.source.setting.text (placed s.here.source.tokens f)) (known s.there.source.setting.text (placed s.there.source.tokens g))
seen_by laws s ts (Ok None) (Ok None) h e d k = refl
seen_by laws s ts (Ok None) (Ok (Some (u, q))) h e d k = cc
seen_by laws s ts (Ok None) (Err g) h e d k = cc
seen_by laws s ts (Ok (Some (t, r))) (Ok None) h e d k = let c = k.2 in cc
seen_by laws s ts (Ok (Some (t, r))) (Ok (Some (u, q))) h e d k =
    let c = same_token {F = Fault} u k.0 (counting q) k.1 k.2 in
    let among : Among (counting s.here.source.tokens) t = subst (λ f. FoundIn (counting s.here.source.tokens) (counting_after f)) e (seen_in laws s ts h) in
    let at = length s.there.source.tokens - length q in (
      at,
      ap (λ v. Ok (Some (v, at))) (c.0 ∙ k.3.is),
      record { among = among; text = subst (λ v. token_text s.there.source.setting.text v ≡ token_text s.here.source.setting.text t) k.3.is k.3.text },
      onward laws s ts t u k.0 r q k.1 h e d c.0 c.1 k.3 k.4 among,
    )
seen_by laws s ts (Ok (Some (t, r))) (Err g) h e d k = let c = k.2 in cc
seen_by laws s ts (Err f) (Ok None) h e d k = cc
seen_by laws s ts (Err f) (Ok (Some (u, q))) h e d k = cc
seen_by laws s ts (Err f) (Err g) h e d k =
    let c : g ≡ fault_moved s.move f = cc in
    let at : FaultIn (counting s.here.source.tokens) f.kind f.offset = subst (λ f. FoundIn (counting s.here.source.tokens) (counting_after f)) e (seen_in laws s ts h) in
    (report_of s.there.source.setting.text (fault_moved s.move f), ap (λ g. Err (report_of s.there.source.setting.text g)) c, refusal_of s.move s.here.source s.there.source h.texts.read.0 f at)

pub seen_moves : ShownLaws → (s : Sides) (ts : List Token) → Alike s ts → SeenMoved s ts (peek_at s.here) (peek_at s.there)
seen_moves laws s ts h =
    subst (λ a. SeenMoved s ts a (peek_at s.there)) (sym (seen_is s.here))
    (subst (λ b. SeenMoved s ts (known s.here.source.setting.text (placed s.here.source.tokens (finding s.here))) b) (sym (seen_is s.there)) (seen_by laws s ts (finding s.here) (finding s.there) h refl refl (found_both laws s ts h)))

-- Consumed tokens.

abbrev pub TakenMoved : {V : Type 0} → (V → V) → Sides → List Token → Result (Option (V × ℕ)) Report → Result (Option (V × ℕ)) Report → Type 0
TakenMoved moved s ts (Ok None) b = b ≡ Ok None
TakenMoved moved s ts (Ok (Some (v, p))) b = (q : ℕ) × (b ≡ Ok (Some (moved v, q))) × ConsumedInBoth s ts p q
TakenMoved moved s ts (Err f) b = (g : Report) × (b ≡ Err g) × SameRefusal s f g

taken_by_moves : {V : Type 0} (moved : V → V) (s : Sides) (ts : List Token) (p q : ℕ) (a b : Option (Result V Report)) → ConsumedInBoth s ts p q → ReadMoved moved s a b → TakenMoved moved s ts (token_value_by p a) (token_value_by q b)
taken_by_moves moved s ts p q None b on h = ap (token_value_by q) h
taken_by_moves moved s ts p q (Some (Ok v)) b on h = (q, ap (token_value_by q) h, on)
taken_by_moves moved s ts p q (Some (Err f)) b on h = (h.0, ap (token_value_by q) h.1, h.2)

taken_of_seen : {V : Type 0} (moved : (ℕ → ℕ) → V → V) (read : Reader V) → MovesReader moved read → (s : Sides) (ts : List Token) (a b : Seen) → SeenMoved s ts a b
    → TakenMoved (moved s.move) s ts (taken read s.here.source.setting.text a) (taken read s.there.source.setting.text b)
taken_of_seen moved read r s ts (Ok None) b h = ap (taken read s.there.source.setting.text) h
taken_of_seen moved read r s ts (Ok (Some (t, p))) b h =
    subst (λ w. TakenMoved (moved s.move) s ts (token_value_by p (read s.here.source.setting.text t t.kind)) w) (sym (ap (taken read s.there.source.setting.text) h.1))
    (taken_by_moves (moved s.move) s ts p h.0 (read s.here.source.setting.text t t.kind) _ h.3 (r s t h.2))
taken_of_seen moved read r s ts (Err f) b h = (h.0, ap (taken read s.there.source.setting.text) h.1, h.2)

pub taken_moves : ShownLaws → {V : Type 0} (moved : (ℕ → ℕ) → V → V) (read : Reader V) → MovesReader moved read → (s : Sides) (ts : List Token) → Alike s ts → TakenMoved (moved s.move) s ts (token_value_at read s.here) (token_value_at read s.there)
taken_moves laws moved read r s ts h = taken_of_seen moved read r s ts (peek_at s.here) (peek_at s.there) (seen_moves laws s ts h)

-- Readers of single tokens.

pub moves_open : MovesReader (λ move v. v) as_open
moves_open s t e = by_kind t.kind
  where
    by_kind : (k : TokenKind) → ReadMoved (λ v. v) s (as_open s.here.source.setting.text t k) (as_open s.there.source.setting.text (token_moved s.move t) k)
    by_kind LParen = refl
    by_kind k = refl

pub moves_close : MovesReader (λ move v. v) as_close
moves_close s t e = by_kind t.kind
  where
    by_kind : (k : TokenKind) → ReadMoved (λ v. v) s (as_close s.here.source.setting.text t k) (as_close s.there.source.setting.text (token_moved s.move t) k)
    by_kind RParen = refl
    by_kind k = refl

pub moves_keyword : MovesReader (λ move v. v) as_keyword
moves_keyword s t e = by_kind t.kind
  where
    by_kind : (k : TokenKind) → ReadMoved (λ v. v) s (as_keyword s.here.source.setting.text t k) (as_keyword s.there.source.setting.text (token_moved s.move t) k)
    by_kind Keyword = ap (λ w. Some (Ok w)) e.text
    by_kind k = refl

pub moves_reserved : MovesReader (λ move v. v) as_reserved
moves_reserved s t e = by_kind t.kind
  where
    by_kind : (k : TokenKind) → ReadMoved (λ v. v) s (as_reserved s.here.source.setting.text t k) (as_reserved s.there.source.setting.text (token_moved s.move t) k)
    by_kind Reserved = ap (λ w. Some (Ok w)) e.text
    by_kind k = refl

pub moves_string : MovesReader (λ move v. v) as_string
moves_string s t e = by_kind t.kind
  where
    by_kind : (k : TokenKind) → ReadMoved (λ v. v) s (as_string s.here.source.setting.text t k) (as_string s.there.source.setting.text (token_moved s.move t) k)
    by_kind String = ap (λ w. Some (Ok (string_value (chars w)))) e.text
    by_kind k = refl

pub moves_integer : MovesReader (λ move v. v) as_integer
moves_integer s t e = by_kind t.kind
  where
    by_kind : (k : TokenKind) → ReadMoved (λ v. v) s (as_integer s.here.source.setting.text t k) (as_integer s.there.source.setting.text (token_moved s.move t) k)
    by_kind (Integer i) = ap (λ w. Some (Ok (is_minus (sign_token i.sign), integer_value i.hex (chars w)))) e.text
    by_kind k = refl

pub moves_float : MovesReader (λ move v. v) as_float
moves_float s t e = by_kind t.kind
  where
    by_kind : (k : TokenKind) → ReadMoved (λ v. v) s (as_float s.here.source.setting.text t k) (as_float s.there.source.setting.text (token_moved s.move t) k)
    by_kind (Float f) = refl
    by_kind k = refl

-- A name, or the error in it at its token.
name_moves : (s : Sides) (t : Token) → Among (counting s.here.source.tokens) t → (a : Result (List ℕ) LexError) → ReadMoved (λ v. v) s (Some (name_or_report s.here.source.setting.text t a)) (Some (name_or_report s.there.source.setting.text (token_moved s.move t) a))
name_moves s t among (Ok name) = refl
name_moves s t among (Err e) = (lexical s.there.source.setting.text (record { offset = s.move t.offset; error = e }), refl, record { cause = refl; offset = at_token t among refl refl; excerpt = refl })

named_moves : (empty : LexError) (s : Sides) (t : Token) → IsInBoth s t
    → ReadMoved (λ v. v) s (Some (name_or_report s.here.source.setting.text t (name_value empty (word_of s.here.source.setting.text t))))
    (Some (name_or_report s.there.source.setting.text (token_moved s.move t) (name_value empty (word_of s.there.source.setting.text (token_moved s.move t)))))
named_moves empty s t e =
    let x = s.here.source.setting.text in
    let y = s.there.source.setting.text in
    subst (λ w. ReadMoved (λ v. v) s (Some (name_or_report x t (name_value empty (word_of x t)))) (Some (name_or_report y (token_moved s.move t) (name_value empty (chars w))))) (sym e.text) (name_moves s t e.among (name_value empty (word_of x t)))

pub moves_id : MovesReader (λ move v. v) as_id
moves_id s t e = by_kind t.kind
  where
    by_kind : (k : TokenKind) → ReadMoved (λ v. v) s (as_id s.here.source.setting.text t k) (as_id s.there.source.setting.text (token_moved s.move t) k)
    by_kind Id = named_moves EmptyId s t e
    by_kind k = refl

pub moves_annotation : MovesReader (λ move v. v) as_annotation
moves_annotation s t e = by_kind t.kind
  where
    by_kind : (k : TokenKind) → ReadMoved (λ v. v) s (as_annotation s.here.source.setting.text t k) (as_annotation s.there.source.setting.text (token_moved s.move t) k)
    by_kind Annotation = named_moves EmptyAnnotation s t e
    by_kind k = refl

owned_moves : (s : Sides) (owned : Bool) (a b : Option (Result (List ℕ) Report)) → ReadMoved (λ v. v) s a b → ReadMoved (λ v. v) s (named_by owned a) (named_by owned b)
owned_moves s owned None b h = ap (named_by owned) h
owned_moves s owned (Some (Ok v)) b h = ap (named_by owned) h
owned_moves s owned (Some (Err f)) b h = (h.0, ap (named_by owned) h.1, h.2)

pub moves_owned_id : MovesReader (λ move v. v) as_owned_id
moves_owned_id s t e =
    let x = s.here.source.setting.text in
    let y = s.there.source.setting.text in
    let u = token_moved s.move t in
    let same : name_is_decoded y u ≡ name_is_decoded x t = ap (λ w. contains quote (chars w) && contains backslash (chars w)) e.text in
    subst (λ owned. ReadMoved (λ v. v) s (as_owned_id x t t.kind) (named_by owned (as_id y u t.kind))) (sym same) (owned_moves s (name_is_decoded x t) (as_id x t t.kind) (as_id y u t.kind) (moves_id s t e))

spelled_if : (s : Sides) (b : Bool) → ReadMoved {V = Unit {0}} (λ v. v) s (if b then Some (Ok tt) else None) (if b then Some (Ok tt) else None)
spelled_if s true = refl
spelled_if s false = refl

spelling_moves : (s : Sides) (w : List ℕ) (a b : Option (Result (List ℕ) Report)) → ReadMoved (λ v. v) s a b → ReadMoved (λ v. v) s (spelling_by w a) (spelling_by w b)
spelling_moves s w None b h = ap (spelling_by w) h
spelling_moves s w (Some (Ok v)) b h = subst (λ c. ReadMoved (λ v. v) s (spelling_by w (Some (Ok v))) c) (sym (ap (spelling_by w) h)) (spelled_if s (bytes_eq v w))
spelling_moves s w (Some (Err f)) b h = (h.0, ap (spelling_by w) h.1, h.2)

pub moves_spelling : (read : Reader (List ℕ)) (w : List ℕ) → MovesReader (λ move v. v) read → MovesReader (λ move v. v) (spelling read w)
moves_spelling read w r s t e = spelling_moves s w (read s.here.source.setting.text t t.kind) (read s.there.source.setting.text (token_moved s.move t) t.kind) (r s t e)

-- Parentheses.

-- `PlaceMoved s ts a b`: the positions after a parenthesis that is consumed on both sides, or the same error.
abbrev pub PlaceMoved : Sides → List Token → Result ℕ Report → Result ℕ Report → Type 0
PlaceMoved s ts (Ok p) b = (q : ℕ) × (b ≡ Ok q) × ConsumedInBoth s ts p q
PlaceMoved s ts (Err f) b = (g : Report) × (b ≡ Err g) × SameRefusal s f g

taken_or_moves : (s : Sides) (ts : List Token) (e f : Report) (a b : Result (Option (Unit {0} × ℕ)) Report) → SameRefusal s e f → TakenMoved (λ v. v) s ts a b → PlaceMoved s ts (taken_or e a) (taken_or f b)
taken_or_moves s ts e f (Ok None) b r h = (f, ap (taken_or f) h, r)
taken_or_moves s ts e f (Ok (Some (v, p))) b r h = (h.0, ap (taken_or f) h.1, h.2)
taken_or_moves s ts e f (Err g) b r h = (h.0, ap (taken_or f) h.1, h.2)

pub opened_moves : ShownLaws → (s : Sides) (ts : List Token) → Alike s ts → PlaceMoved s ts (opened s.here.source s.here.place s.here.names) (opened s.there.source s.there.place s.there.names)
unfolding opened
opened_moves laws s ts h = taken_or_moves s ts _ _ (token_value_at as_open s.here) (token_value_at as_open s.there) (report_moves laws s ts (codes "expected `(`") h) (taken_moves laws (λ move v. v) as_open moves_open s ts h)

pub closed_moves : ShownLaws → (s : Sides) (ts : List Token) → Alike s ts → PlaceMoved s ts (closed s.here.source s.here.place s.here.names) (closed s.there.source s.there.place s.there.names)
unfolding closed
closed_moves laws s ts h = taken_or_moves s ts _ _ (token_value_at as_close s.here) (token_value_at as_close s.there) (report_moves laws s ts (codes "expected `)`") h) (taken_moves laws (λ move v. v) as_close moves_close s ts h)

-- Sights: tests of the next tokens.

some_moves : {V : Type 0} (moved : V → V) (s : Sides) (a b : Option (Result V Report)) → ReadMoved moved s a b → is_some b ≡ is_some a
some_moves moved s None b h = ap is_some h
some_moves moved s (Some (Ok v)) b h = ap is_some h
some_moves moved s (Some (Err f)) b h = ap is_some h.1

sees_of_seen : {V : Type 0} (moved : (ℕ → ℕ) → V → V) (read : Reader V) → MovesReader moved read → (s : Sides) (ts : List Token) (a b : Seen) → SeenMoved s ts a b
    → KnownMoved s (sees read s.here.source.setting.text a) (sees read s.there.source.setting.text b)
sees_of_seen moved read r s ts (Ok None) b h = ap (sees read s.there.source.setting.text) h
sees_of_seen moved read r s ts (Ok (Some (t, p))) b h = ap (sees read s.there.source.setting.text) h.1 ∙ ap Ok (some_moves (moved s.move) s (read s.here.source.setting.text t t.kind) _ (r s t h.2))
sees_of_seen moved read r s ts (Err f) b h = (h.0, ap (sees read s.there.source.setting.text) h.1, h.2)

pub moves_sight_of : ShownLaws → {V : Type 0} (moved : (ℕ → ℕ) → V → V) (read : Reader V) → MovesReader moved read → MovesSight (sight_of read)
moves_sight_of laws moved read r s ts h = sees_of_seen moved read r s ts (peek_at s.here) (peek_at s.there) (seen_moves laws s ts h)

empty_by : (s : Sides) (f g : Finding) → Found s.here.source.setting.text s.there.source.setting.text s.move (counting_after f) (counting_after g) → empty_of (placed s.there.source.tokens g) ≡ empty_of (placed s.here.source.tokens f)
empty_by s (Ok None) (Ok None) k = refl
empty_by s (Ok None) (Ok (Some (u, q))) k = cc
empty_by s (Ok None) (Err g) k = cc
empty_by s (Ok (Some (t, r))) (Ok None) k = let c = k.2 in cc
empty_by s (Ok (Some (t, r))) (Ok (Some (u, q))) k = ap (λ (v : Token). is_close v.kind) ((same_token {F = Fault} u k.0 (counting q) k.1 k.2).0 ∙ k.3.is)
empty_by s (Ok (Some (t, r))) (Err g) k = let c = k.2 in cc
empty_by s (Err f) (Ok None) k = cc
empty_by s (Err f) (Ok (Some (u, q))) k = cc
empty_by s (Err f) (Err g) k = refl

-- A test if the end or a `)` is visible.
pub empty_moves : ShownLaws → (s : Sides) (ts : List Token) → Alike s ts → empty_of (shown s.there.source s.there.place s.there.names) ≡ empty_of (shown s.here.source s.here.place s.here.names)
empty_moves laws s ts h = ap empty_of (shown_is s.there) ∙ empty_by s (finding s.here) (finding s.there) (found_both laws s ts h) ∙ sym (ap empty_of (shown_is s.here))

pub moves_more : ShownLaws → MovesSight more_comes
moves_more laws s ts h = ap (λ empty. Ok (not empty)) (empty_moves laws s ts h)

second_moves : (sight : Sight) → MovesSight sight → (s : Sides) (ts : List Token) (a b : Seen) → SeenMoved s ts a b → KnownMoved s (seen_after sight s.here a).known (seen_after sight s.there b).known
second_moves sight m s ts (Ok None) b h = ap (λ b. (seen_after sight s.there b).known) h
second_moves sight m s ts (Ok (Some (t, p))) b h =
    subst (λ b. KnownMoved s (sight (at_place s.here p)).known (seen_after sight s.there b).known) (sym h.1) (m (at_places s p h.0) h.3.rest h.3.alike)
second_moves sight m s ts (Err f) b h = (h.0, ap (λ b. (seen_after sight s.there b).known) h.1, h.2)

pub moves_second : ShownLaws → (sight : Sight) → MovesSight sight → MovesSight (second sight)
moves_second laws sight m s ts h = second_moves sight m s ts (peek_at s.here) (peek_at s.there) (seen_moves laws s ts h)

open_moves : (sight : Sight) → MovesSight sight → (s : Sides) (ts : List Token) (a b : Result (Option (Unit {0} × ℕ)) Report) → TakenMoved (λ v. v) s ts a b → KnownMoved s (seen_after sight s.here a).known (seen_after sight s.there b).known
open_moves sight m s ts (Ok None) b h = ap (λ b. (seen_after sight s.there b).known) h
open_moves sight m s ts (Ok (Some (u, p))) b h =
    subst (λ b. KnownMoved s (sight (at_place s.here p)).known (seen_after sight s.there b).known) (sym h.1) (m (at_places s p h.0) h.2.rest h.2.alike)
open_moves sight m s ts (Err f) b h = (h.0, ap (λ b. (seen_after sight s.there b).known) h.1, h.2)

pub moves_after_open : ShownLaws → (sight : Sight) → MovesSight sight → MovesSight (after_open sight)
moves_after_open laws sight m s ts h = open_moves sight m s ts (token_value_at as_open s.here) (token_value_at as_open s.there) (taken_moves laws (λ move v. v) as_open moves_open s ts h)

word_moves : (s : Sides) (ts : List Token) (a b : Result (Option (Unit {0} × ℕ)) Report) → TakenMoved (λ v. v) s ts a b → KnownMoved s (is_taken a) (is_taken b)
word_moves s ts (Ok None) b h = ap is_taken h
word_moves s ts (Ok (Some (u, p))) b h = ap is_taken h.1
word_moves s ts (Err f) b h = (h.0, ap is_taken h.1, h.2)

pub moves_word : ShownLaws → (read : Reader (List ℕ)) (w : List ℕ) → MovesReader (λ move v. v) read → MovesSight (sees_word read w)
moves_word laws read w r s ts h = word_moves s ts (token_value_at (spelling read w) s.here) (token_value_at (spelling read w) s.there) (taken_moves laws (λ move v. v) (spelling read w) (moves_spelling read w r) s ts h)

pub moves_named : ShownLaws → (w : List ℕ) → MovesSight (sees_annotation w)
moves_named laws w s ts h = moves_word laws as_annotation w moves_annotation s ts h
