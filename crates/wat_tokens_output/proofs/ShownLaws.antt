-- Lemmas about the visible tokens from one position of a parser to another.
use Rattle.std.proofs.Common.{◌≡◌, ◌≤◌, ◌<◌, ◌+◌, ◌-◌, ◌^◌, ◌∙◌, ℕ, List, [], ◌∷◌, ◌++◌, length, take, drop, get_or, sym, ap, subst, refl, arith, append_assoc, length-append, length-drop, Bool, true, false, inl, inr}
use Rattle.std.specs.Prelude.{flat_map, Option, Some, None, Result, Ok, Err, OnOk, OnErr, IfErr, IfSome, IsNone, IsTrue, is_err, ◌||◌, String, string_bytes}
use Rattle.std.specs.Io.KnownBytes.{Appends}
use Rattle.std.specs.Str.{IsUtf8}
use Rattle.std.specs.declared.alloc.Global.{Global}
use Rattle.std.proofs.lemmas.List.{append-nil, nil_from_length, take_more}
use Rattle.std.proofs.lemmas.List.Concat.{flat_map-append}
use Rattle.std.proofs.lemmas.Str.{encodes-append, encodes-chars, IsUtf8-drop}
use lib.Utf8.{encodes}
use Rattle.wat_lex.specs.errors.Errors.{Report}
use Rattle.wat_lex.specs.tokens.ReadableTokens.{IsTokenOf}
use Rattle.wat_lex.specs.declared.lexer.kinds.Token.{Token}
use Rattle.wat_lexer_parser.specs.declared.parser.fault.Fault.{Fault}
use Rattle.wat_lexer_parser.specs.names.RegisteredNames.{Names}
use Rattle.wat_lexer_parser.specs.parser.State.{State, Answers, report_of, known, seen, at_place, peek_at}
use Rattle.wat_lexer_parser.specs.places.Source.{Source, IsRead}
use Rattle.wat_lexer_parser.specs.laws.AllShown.{AllShown}
use Rattle.wat_lexer_parser.specs.shown.Showing.{Look, shown}
use Rattle.wat_lexer_parser.specs.laws.ShownLaws.{AllShownIsOne, LooksAreAllShown, SomethingIsAllShown}
use Rattle.wat_tokens_io.specs.Blocks.{Puts}
use Rattle.wat_tokens_io.specs.Streams.{AppendsPrefix}
use Rattle.wat_tokens_io.specs.lemmas.BlockLaws.{cut_after, cut_longer, cut_more, puts_more, puts_none}
use Rattle.wat_tokens_io.specs.lemmas.KnownBytes.{appends_more}
use Rattle.wat_tokens_output.specs.Shows.{with_name, with_names, IsInside, ShownEnds, AppendsShown, AppendsShownCut, ShowsFault, TakesNext}

-- The visible tokens from the position `from` to the position `to`.
pub record ShownSoFar (s : Source) (names : Names) (from to : ℕ) : Type 0 where
  pub tokens : List Token
  pub after : (us : List Token) (f : Option Fault) → AllShown s.setting.text s.ending names (drop to s.tokens) us f → AllShown s.setting.text s.ending names (drop from s.tokens) (tokens ++ us) f

abbrev none_so_far : (s : Source) (names : Names) (p : ℕ) → ShownSoFar s names p p
none_so_far s names p = record { tokens = []; after = λ us f k. k }

abbrev one_more : LooksAreAllShown → (s : Source) (names : Names) (from to next : ℕ) (t : Token) → IsUtf8 s.setting.text → IsRead s → ShownSoFar s names from to → shown s to names ≡ Ok (Some (t, next)) → ShownSoFar s names from next
one_more looks s names from to next t u r h e = record {
  tokens = h.tokens ++ t ∷ [];
  after = λ us f k. subst (λ ts. AllShown s.setting.text s.ending names (drop from s.tokens) ts f) (sym (append_assoc h.tokens (t ∷ []) us)) (h.after (t ∷ us) f (looks.token s names to next t us f u r e k));
}

-- The visible tokens up to the end of the text, or to an error.
ended : (s : Source) (names : Names) (from to : ℕ) (f : Option Fault) → (h : ShownSoFar s names from to) → AllShown s.setting.text s.ending names (drop to s.tokens) [] f → AllShown s.setting.text s.ending names (drop from s.tokens) h.tokens f
ended s names from to f h k = subst (λ ts. AllShown s.setting.text s.ending names (drop from s.tokens) ts f) (append-nil h.tokens) (h.after [] f k)

-- The number of visible tokens from the position `from` to the position `to`.
pub record Counted (s : Source) (names : Names) (from to count : ℕ) : Type 0 where
  pub so_far : ShownSoFar s names from to
  pub many : count ≡ length so_far.tokens

pub none_counted : (s : Source) (names : Names) (p : ℕ) → Counted s names p p 0
none_counted s names p = record { so_far = none_so_far s names p; many = refl }

pub one_counted : LooksAreAllShown → (s : Source) (names : Names) (from to next count : ℕ) (t : Token) → IsUtf8 s.setting.text → IsRead s → Counted s names from to count → shown s to names ≡ Ok (Some (t, next)) → Counted s names from next (count + 1)
one_counted looks s names from to next count t u r h e = record {
  so_far = one_more looks s names from to next t u r h.so_far e;
  many = ap (λ n. n + 1) h.many ∙ sym (length-append h.so_far.tokens (t ∷ []));
}

pub counted_end : LooksAreAllShown → (s : Source) (names : Names) (from to count : ℕ) → IsUtf8 s.setting.text → IsRead s → Counted s names from to count → shown s to names ≡ Ok None → ShownEnds s names from count None
counted_end looks s names from to count u r h e = record {
  tokens = h.so_far.tokens;
  fault = None;
  shown = ended s names from to None h.so_far (looks.end s names to u r e);
  many = h.many;
  reported = refl;
}

counted_fault : LooksAreAllShown → (s : Source) (names : Names) (from to count : ℕ) (f : Fault) → IsUtf8 s.setting.text → IsRead s → Counted s names from to count → shown s to names ≡ Err f → ShownEnds s names from count (Some (Some (report_of s.setting.text f)))
counted_fault looks s names from to count f u r h e = record {
  tokens = h.so_far.tokens;
  fault = Some f;
  shown = ended s names from to (Some f) h.so_far (looks.fault s names to f u r e);
  many = h.many;
  reported = refl;
}

known_fault : (text : List ℕ) (a : Look) (e : Report) → known text a ≡ Err e → (f : Fault) × (a ≡ Err f) × (e ≡ report_of text f)
known_fault text (Ok found) e h = cc
known_fault text (Err f) e h = let k : report_of text f ≡ e = cc in (f, refl, sym k)

-- If a peek returns a report, an error is the next result.
counted_refused : LooksAreAllShown → (s : Source) (names : Names) (from to count : ℕ) (e : Report) → IsUtf8 s.setting.text → IsRead s → Counted s names from to count → seen s to names ≡ Err e → ShownEnds s names from count (Some (Some e))
unfolding seen
counted_refused looks s names from to count e u r h k =
    let f = known_fault s.setting.text (shown s to names) e k in
    subst (λ x. ShownEnds s names from count (Some (Some x))) (sym f.2) (counted_fault looks s names from to count f.0 u r h f.1)

reported : {T : Type 0} → LooksAreAllShown → (s : Source) (names : Names) (from to count : ℕ) (f : T → Option (Token × ℕ)) (error : Option Report) (is_memory : Bool) → IsUtf8 s.setting.text → IsRead s → Counted s names from to count → Answers false f (seen s to names) (Err error) → is_memory ≡ false → (IsNone error → IsTrue is_memory) → ShownEnds s names from count (Some error)
reported looks s names from to count f None is_memory u r h a e k = let d : false ≡ true = sym e ∙ k refl in cc
reported looks s names from to count f (Some e) is_memory u r h a d k = counted_refused looks s names from to count e u r h a

-- An error other than an allocation failure is the report of an error of the text.
pub counted_reported : {T : Type 0} → LooksAreAllShown → (a b : State) (from to count : ℕ) (f : T → Option (Token × ℕ)) (result : Result T (Option Report)) (error : Option Report) (is_memory : Bool) → IsUtf8 b.source.setting.text → IsRead b.source → Counted b.source b.names from to count → Answers false f (peek_at (at_place a to)) result → result ≡ Err error → a ≡ b → is_memory ≡ false → (IsNone error → IsTrue is_memory) → ShownEnds b.source b.names from count (Some error)
counted_reported looks a b from to count f result error is_memory u r h m i e n k =
    let answered = subst (λ (x : State). Answers false f (peek_at (at_place x to)) result) e m in
    reported looks b.source b.names from to count f error is_memory u r h (subst (λ x. Answers false f (peek_at (at_place b to)) x) i answered) n k

refused_at : (text : List ℕ) (a : Look) → IsTrue (false || is_err (known text a)) → (f : Fault) × (a ≡ Err f)
refused_at text (Ok found) h = let d : false ≡ true = h in cc
refused_at text (Err f) h = (f, refl)

-- Every error of a peek, allocation failures included, means that the text has an error there.
pub fault_shown : {T : Type 0} (s : Source) (names : Names) (p : ℕ) (f : T → Option (Token × ℕ)) (error : Option Report) → Answers false f (seen s p names) (Err error) → ShowsFault s names p
unfolding seen
fault_shown s names p f None h = refused_at s.setting.text (shown s p names) h
fault_shown s names p f (Some e) h = let k = known_fault s.setting.text (shown s p names) e h in (k.0, k.1)

pub if_err : {T E P : Type 0} (r : Result T E) → P → IfErr r (λ _. P)
if_err (Ok t) p = tt
if_err (Err e) p = p

-- The bytes of the visible tokens from `from` to `to` were appended to an empty block, and `left` of the `count` tokens
-- remain.
pub record PuttingShown (each : Token → List ℕ) (s : Source) (names : Names) (from to left count : ℕ) (old new : Option (List ℕ)) (block : List ℕ) : Type 0 where
  pub so_far : ShownSoFar s names from to
  pub many : left + length so_far.tokens ≡ count
  pub puts : Puts old new [] block (flat_map each so_far.tokens)

pub none_put : (each : Token → List ℕ) (s : Source) (names : Names) (p count : ℕ) (a : Option (List ℕ)) (block : List ℕ) → block ≡ [] → PuttingShown each s names p p count count a a block
none_put each s names p count a block e = subst (λ b. PuttingShown each s names p p count count a a b) (sym e) (record { so_far = none_so_far s names p; many = omega arith; puts = puts_none a [] [] refl })

written_more : (each : Token → List ℕ) (ts : List Token) (t : Token) → flat_map each (ts ++ t ∷ []) ≡ flat_map each ts ++ each t
written_more each ts t = flat_map-append each ts (t ∷ []) ∙ ap (λ x. flat_map each ts ++ x) (append-nil (each t))

pub one_put : LooksAreAllShown → (each : Token → List ℕ) (s : Source) (names : Names) (from to next left count : ℕ) (a b c : Option (List ℕ)) (block block' : List ℕ) (t : Token) → IsUtf8 s.setting.text → IsRead s → PuttingShown each s names from to left count a b block → TakesNext s names to left (Some t) next → Puts b c block block' (each t)
    → PuttingShown each s names from next (left - 1) count a c block'
one_put looks each s names from to next left count a b c block block' t u r h k p = record {
  so_far = one_more looks s names from to next t u r h.so_far k.1.0;
  many = let few = k.0 in let before = h.many in let more = length-append h.so_far.tokens (t ∷ []) in omega (arith, few, before, more);
  puts = puts_more a b c [] block block' (flat_map each h.so_far.tokens) (each t) (flat_map each (h.so_far.tokens ++ t ∷ [])) h.puts p (written_more each h.so_far.tokens t);
}

-- If a write fails at a token, a prefix of the output was written.
pub put_cut : LooksAreAllShown → SomethingIsAllShown → (each : Token → List ℕ) (last : List ℕ) (s : Source) (names : Names) (from to next left count : ℕ) (a b c : Option (List ℕ)) (block : List ℕ) (t : Token) → IsUtf8 s.setting.text → IsRead s → PuttingShown each s names from to left count a b block → TakesNext s names to left (Some t) next → AppendsPrefix b c (block ++ each t)
    → AppendsShownCut each last s names from a c
put_cut looks some each last s names from to next left count a b c block t u r h k p =
    let so_far = one_more looks s names from to next t u r h.so_far k.1.0 in
    let rest = some s names next u r in
    record {
      tokens = so_far.tokens ++ rest.0;
      fault = rest.1;
      shown = so_far.after rest.0 rest.1 rest.2;
      appended = cut_longer a c (flat_map each so_far.tokens) (flat_map each rest.0 ++ last) (flat_map each (so_far.tokens ++ rest.0) ++ last)
          (cut_more a b c [] block (flat_map each h.so_far.tokens) (each t) (flat_map each so_far.tokens) h.puts p (written_more each h.so_far.tokens t))
          (ap (λ x. x ++ last) (flat_map-append each so_far.tokens rest.0) ∙ append_assoc (flat_map each so_far.tokens) (flat_map each rest.0) last);
    }

-- If no tokens remain, the visible tokens found are all visible tokens.
none_left : AllShownIsOne → SomethingIsAllShown → (s : Source) (names : Names) (from to count : ℕ) (error : Option (Option Report)) → IsUtf8 s.setting.text → IsRead s → (h : ShownSoFar s names from to) → length h.tokens ≡ count → (e : ShownEnds s names from count error) → AllShown s.setting.text s.ending names (drop from s.tokens) h.tokens e.fault
none_left one some s names from to count error u r h m e =
    let rest = some s names to u r in
    let same = (one s.setting.text s.ending names (drop from s.tokens) (h.tokens ++ rest.0) e.tokens rest.1 e.fault (h.after rest.0 rest.1 rest.2) e.shown).0 in
    let all = e.many in
    let none : length rest.0 ≡ 0 = omega (arith, m, all, ap length same, length-append h.tokens rest.0) in
    let whole = sym (append-nil h.tokens) ∙ ap (λ x. h.tokens ++ x) (sym (nil_from_length rest.0 none)) ∙ same in
    subst (λ ts. AllShown s.setting.text s.ending names (drop from s.tokens) ts e.fault) (sym whole) e.shown

-- If no token is returned, the bytes of all tokens were appended.
all_put : LooksAreAllShown → AllShownIsOne → SomethingIsAllShown → (each : Token → List ℕ) (s : Source) (names : Names) (from to next left count : ℕ) (error : Option (Option Report)) (a b : Option (List ℕ)) (block : List ℕ) → IsUtf8 s.setting.text → IsRead s → (h : PuttingShown each s names from to left count a b block) → ShownEnds s names from count error → TakesNext s names to left None next
    → (f : Option Fault) × AllShown s.setting.text s.ending names (drop from s.tokens) h.so_far.tokens f
all_put looks one some each s names from to next left count error a b block u r h e k = elim k [
  | inl zero ↦ (let before = h.many in let many : length h.so_far.tokens ≡ count = omega (arith, zero, before) in (e.fault, none_left one some s names from to count error u r h.so_far many e))
  | inr other ↦ elim other [
    | inl end ↦ (None, ended s names from to None h.so_far (looks.end s names to u r end))
    | inr fault ↦ (Some fault.0, ended s names from to (Some fault.0) h.so_far (looks.fault s names to fault.0 u r fault.1))
  ]
]

pub put_end : {T E : Type 0} → LooksAreAllShown → AllShownIsOne → SomethingIsAllShown → (each : Token → List ℕ) (last : List ℕ) (s : Source) (names : Names) (from to next left count : ℕ) (error : Option (Option Report)) (a b c : Option (List ℕ)) (block : List ℕ) (r : Result T E) → IsUtf8 s.setting.text → IsRead s → PuttingShown each s names from to left count a b block → ShownEnds s names from count error → TakesNext s names to left None next
    → OnOk r (Appends b c (block ++ last)) → OnOk r (AppendsShown each last s names from a c)
put_end looks one some each last s names from to next left count error a b c block (Ok t) u r h e k p =
    let all = all_put looks one some each s names from to next left count error a b block u r h e k in
    record {
      tokens = h.so_far.tokens;
      fault = all.0;
      shown = all.1;
      appended = appends_more a b c h.puts.written (block ++ last) (flat_map each h.so_far.tokens ++ last) h.puts.appended p (ap (λ x. x ++ last) (sym h.puts.all) ∙ append_assoc h.puts.written block last);
    }
put_end looks one some each last s names from to next left count error a b c block (Err x) u r h e k p = tt

pub put_end_cut : {T E : Type 0} → LooksAreAllShown → AllShownIsOne → SomethingIsAllShown → (each : Token → List ℕ) (last : List ℕ) (s : Source) (names : Names) (from to next left count : ℕ) (error : Option (Option Report)) (a b c : Option (List ℕ)) (block : List ℕ) (r : Result T E) → IsUtf8 s.setting.text → IsRead s → PuttingShown each s names from to left count a b block → ShownEnds s names from count error → TakesNext s names to left None next
    → OnErr r (AppendsPrefix b c (block ++ last)) → OnErr r (AppendsShownCut each last s names from a c)
put_end_cut looks one some each last s names from to next left count error a b c block (Ok t) u r h e k p = tt
put_end_cut looks one some each last s names from to next left count error a b c block (Err x) u r h e k p =
    let all = all_put looks one some each s names from to next left count error a b block u r h e k in
    record {
      tokens = h.so_far.tokens;
      fault = all.0;
      shown = all.1;
      appended = cut_after a b c h.puts.written (block ++ last) (flat_map each h.so_far.tokens ++ last) h.puts.appended p (ap (λ x. x ++ last) (sym h.puts.all) ∙ append_assoc h.puts.written block last);
    }

known_found : (text : List ℕ) (a : Look) (found : Option (Token × ℕ)) → known text a ≡ Ok found → a ≡ Ok found
known_found text (Ok x) found h = let k : x ≡ found = cc in ap Ok k
known_found text (Err f) found h = cc

pub seen_found : (s : Source) (names : Names) (p : ℕ) (found : Option (Token × ℕ)) → seen s p names ≡ Ok found → shown s p names ≡ Ok found
unfolding seen
seen_found s names p found h = known_found s.setting.text (shown s p names) found h

-- A token ends within its text.
pub readable_end : (text : List ℕ) (t : Token) → IsUtf8 text → IsTokenOf text t → t.offset + t.len ≤ length text
readable_end text t u h =
    let rest = IsUtf8-drop text t.offset u h.boundary in
    let cut : length (drop t.offset text) ≡ length (encodes h.word) + length (encodes h.rest) =
    ap length (sym (encodes-chars (drop t.offset text) rest)) ∙ ap (λ cs. length (encodes cs)) h.cut ∙ ap length (encodes-append h.word h.rest) ∙ length-append (encodes h.word) (encodes h.rest) in
    let inside : t.offset ≤ length text = h.boundary.0 in
    omega (arith, cut, h.len, inside, length-drop t.offset text)

pub readable_short : (text : List ℕ) (t : Token) → IsUtf8 text → length text < 2 ^ 32 → IsTokenOf text t → t.offset + t.len < 2 ^ 32
readable_short text t u l h = let end = readable_end text t u h in omega (arith, end, l)

-- A token belongs to the text that a format requires, if it requires one.
pub inside_where_known : (known form : Option (List ℕ)) (text : List ℕ) (t : Token) → IsUtf8 text → IsTokenOf text t → IfSome known (λ k. k ≡ text) → form ≡ known → IfSome form (λ k. IsInside k t)
inside_where_known None form text t u h k e = rw e tt
inside_where_known (Some x) form text t u h k e = rw (e, k) (h.boundary, readable_end text t u h)

-- Names that are registered one after another.
with_last : (names : Names) (xs : List (String Global)) (x : String Global) → with_names names (xs ++ x ∷ []) ≡ with_name (with_names names xs) (string_bytes x)
with_last names [] x = refl
with_last names (y ∷ xs) x = with_last (with_name names (string_bytes y)) xs x

pub with_next : (names : Names) (words : List (String Global)) (i : ℕ) (x : String Global) → i < length words → x ≡ get_or words i x → with_names names (take (i + 1) words) ≡ with_name (with_names names (take i words)) (string_bytes x)
with_next names words i x l e = ap (with_names names) (take_more words i x l ∙ ap (λ w. take i words ++ w ∷ []) (sym e)) ∙ with_last names (take i words) x
