-- The visible tokens from a position on, so far.
use Rattle.std.proofs.Common.{◌≡◌, ◌∙◌, ℕ, List, [], ◌∷◌, ◌++◌, drop, sym, ap, subst, refl, arith, append_assoc, Bool, true, false}
use Rattle.std.specs.Prelude.{Option, Some, None, Result, Ok, Err, IsNone, IsTrue}
use Rattle.std.specs.Str.{IsUtf8}
use Rattle.wat_lex.specs.errors.Errors.{Report}
use Rattle.wat_lex.specs.declared.lexer.kinds.Token.{Token}
use Rattle.wat_lexer_parser.specs.declared.parser.fault.Fault.{Fault}
use Rattle.wat_lexer_parser.specs.names.RegisteredNames.{Names}
use Rattle.wat_lexer_parser.specs.parser.State.{State, Answers, report_of, known, seen, at_place, peek_at}
use Rattle.wat_lexer_parser.specs.places.Source.{Source, IsRead}
use Rattle.wat_lexer_parser.specs.laws.AllShown.{AllShown}
use Rattle.wat_lexer_parser.specs.shown.Showing.{Look, shown}
use Rattle.wat_lexer_parser.specs.laws.ShownLaws.{LooksAreAllShown}
use Rattle.std.specs.List.{All}
use Rattle.std.proofs.lemmas.List.Elements.{All-push}
use Rattle.wat_lex.specs.tokens.ReadableTokens.{IsTokenOf}
use Rattle.std.proofs.lemmas.List.{append-nil}
use Rattle.wat_module_lexer.specs.Shown.{ShownFrom}

-- `text` are the visible tokens from one position to another.
pub record ShownSoFar (s : Source) (names : Names) (from to : ℕ) (text : List Token) : Type 0 where
  pub tokens : List Token
  pub after : (us : List Token) (f : Option Fault) → AllShown s.setting.text s.ending names (drop to s.tokens) us f → AllShown s.setting.text s.ending names (drop from s.tokens) (tokens ++ us) f
  pub lines : text ≡ tokens
  pub readable : All (IsTokenOf s.setting.text) text

none_of : (P : Token → Type 0) → All P []
none_of P k d h = absurd (omega arith)

pub shown_start : (s : Source) (names : Names) (from : ℕ) (text : List Token) → text ≡ [] → ShownSoFar s names from from text
shown_start s names from text e = record { tokens = []; after = λ us f h. h; lines = e; readable = subst (All (IsTokenOf s.setting.text)) (sym e) (none_of (IsTokenOf s.setting.text)) }

pub shown_more : LooksAreAllShown → (s : Source) (names : Names) (from to next : ℕ) (text more : List Token) (t : Token) → IsUtf8 s.setting.text → IsRead s → ShownSoFar s names from to text → shown s to names ≡ Ok (Some (t, next)) → more ≡ text ++ t ∷ [] → IsTokenOf s.setting.text t → ShownSoFar s names from next more
shown_more looks s names from to next text more t u r h e l k = record {
  tokens = h.tokens ++ t ∷ [];
  after = λ us f k. subst (λ ts. AllShown s.setting.text s.ending names (drop from s.tokens) ts f) (sym (append_assoc h.tokens (t ∷ []) us)) (h.after (t ∷ us) f (looks.token s names to next t us f u r e k));
  lines = l ∙ ap (λ x. x ++ t ∷ []) h.lines;
  readable = subst (All (IsTokenOf s.setting.text)) (sym l) (All-push (IsTokenOf s.setting.text) text t h.readable k);
}

pub shown_end : LooksAreAllShown → (s : Source) (names : Names) (from to : ℕ) (text : List Token) → IsUtf8 s.setting.text → IsRead s → ShownSoFar s names from to text → shown s to names ≡ Ok None → ShownFrom s names from text None
shown_end looks s names from to text u r h e = record {
  tokens = h.tokens;
  fault = None;
  shown = subst (λ ts. AllShown s.setting.text s.ending names (drop from s.tokens) ts None) (append-nil h.tokens) (h.after [] None (looks.end s names to u r e));
  lines = h.lines;
  readable = h.readable;
  reported = refl;
}

shown_fault : LooksAreAllShown → (s : Source) (names : Names) (from to : ℕ) (text : List Token) (f : Fault) → IsUtf8 s.setting.text → IsRead s → ShownSoFar s names from to text → shown s to names ≡ Err f → ShownFrom s names from text (Some (Some (report_of s.setting.text f)))
shown_fault looks s names from to text f u r h e = record {
  tokens = h.tokens;
  fault = Some f;
  shown = subst (λ ts. AllShown s.setting.text s.ending names (drop from s.tokens) ts (Some f)) (append-nil h.tokens) (h.after [] (Some f) (looks.fault s names to f u r e));
  lines = h.lines;
  readable = h.readable;
  reported = refl;
}

known_fault : (text : List ℕ) (a : Look) (e : Report) → known text a ≡ Err e → (f : Fault) × (a ≡ Err f) × (e ≡ report_of text f)
known_fault text (Ok found) e h = cc
known_fault text (Err f) e h = let k : report_of text f ≡ e = cc in (f, refl, sym k)

-- A peek that returns a report has reached an error.
pub shown_refused : LooksAreAllShown → (s : Source) (names : Names) (from to : ℕ) (text : List Token) (e : Report) → IsUtf8 s.setting.text → IsRead s → ShownSoFar s names from to text → seen s to names ≡ Err e → ShownFrom s names from text (Some (Some e))
unfolding seen
shown_refused looks s names from to text e u r h k =
    let f = known_fault s.setting.text (shown s to names) e k in
    subst (λ x. ShownFrom s names from text (Some (Some x))) (sym f.2) (shown_fault looks s names from to text f.0 u r h f.1)

reported : {T : Type 0} → LooksAreAllShown → (s : Source) (names : Names) (from to : ℕ) (text : List Token) (f : T → Option (Token × ℕ)) (error : Option Report) (is_memory : Bool) → IsUtf8 s.setting.text → IsRead s → ShownSoFar s names from to text → Answers false f (seen s to names) (Err error) → is_memory ≡ false → (IsNone error → IsTrue is_memory) → ShownFrom s names from text (Some error)
reported looks s names from to text f None is_memory u r h a e k = let d : false ≡ true = sym e ∙ k refl in cc
reported looks s names from to text f (Some e) is_memory u r h a d k = shown_refused looks s names from to text e u r h a

-- An error that is not an allocation failure is the report of an error of the text.
pub shown_reported : {T : Type 0} → LooksAreAllShown → (a b : State) (from to : ℕ) (text : List Token) (f : T → Option (Token × ℕ)) (result : Result T (Option Report)) (error : Option Report) (is_memory : Bool) → IsUtf8 b.source.setting.text → IsRead b.source → ShownSoFar b.source b.names from to text → Answers false f (peek_at (at_place a to)) result → result ≡ Err error → a ≡ b → is_memory ≡ false → (IsNone error → IsTrue is_memory) → ShownFrom b.source b.names from text (Some error)
shown_reported looks a b from to text f result error is_memory u r h m i e n k =
    let answered = subst (λ (x : State). Answers false f (peek_at (at_place x to)) result) e m in
    reported looks b.source b.names from to text f error is_memory u r h (subst (λ x. Answers false f (peek_at (at_place b to)) x) i answered) n k

known_found : (text : List ℕ) (a : Look) (found : Option (Token × ℕ)) → known text a ≡ Ok found → a ≡ Ok found
known_found text (Ok x) found h = let k : x ≡ found = cc in ap Ok k
known_found text (Err f) found h = cc

pub seen_found : (s : Source) (names : Names) (p : ℕ) (found : Option (Token × ℕ)) → seen s p names ≡ Ok found → shown s p names ≡ Ok found
unfolding seen
seen_found s names p found h = known_found s.setting.text (shown s p names) found h
