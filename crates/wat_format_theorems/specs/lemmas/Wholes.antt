-- The reading of a whole text, and of another text with the same tokens. These are proofs, which a reader may skip.
use Rattle.std.proofs.Common.{◌≡◌, ℕ, List, refl, sym, ap, subst, Some, None, Ok, Err}
use Rattle.std.specs.Prelude.{Result, codes}
use Rattle.wat_lex.specs.errors.Errors.{Report}
use Rattle.wat_lex.specs.declared.lexer.kinds.Token.{Token}
use Rattle.wat_lexer_parser.specs.parser.State.{Seen, message_at, peek_at}
use Rattle.wat_lexer_parser.specs.places.Source.{Source}
use Rattle.wat_lexer_parser.specs.readings.Readings.{Outcome, Reading, at_end, on, start, whole_by}
use Rattle.wat_lexer_parser.specs.laws.Counting.{counting}
use Rattle.wat_format_theorems.specs.Reads.{AnswerMoved, LayoutsAreSameTexts, LayoutsReadTheSame, MovesReading, TextsReadTheSame, WholeMoved}
use Rattle.wat_format_theorems.specs.Sides.{Sides, Alike, at_start, at_token, passed}
use Rattle.wat_format_theorems.specs.lemmas.Seeing.{SeenMoved, ShownLaws, seen_moves}

module _ (laws : ShownLaws) {V : Type 0} (moved : V → V) (n : ℕ) (s r : Source) (move : ℕ → ℕ) (ts : List Token) where
  abbrev both : Sides
  both = record { move = move; here = start s; there = start r }

  end_moves : (k l : ℕ) (us : List Token) (v : V) (a b : Seen) → SeenMoved (passed both k l) us a b → WholeMoved moved move s r (at_end a v s) (at_end b (moved v) r)
  end_moves k l us v (Ok None) b h = ap (λ b. at_end b (moved v) r) h
  end_moves k l us v (Ok (Some (t, p))) b h =
      (message_at r (move t.offset) (codes "extra tokens remaining after parse"), ap (λ b. at_end b (moved v) r) h.1, record { cause = refl; offset = at_token t h.2.among refl refl; excerpt = refl })
  end_moves k l us v (Err f) b h = (h.0, ap (λ b. at_end b (moved v) r) h.1, h.2)

  whole_moves : (o q : Outcome V) (x : Result V Report) → AnswerMoved moved n both ts x o.passed q → WholeMoved moved move s r (whole_by x o.passed s) (whole_by q.answer q.passed r)
  whole_moves o q (Ok v) h =
      let is : whole_by q.answer q.passed r ≡ at_end (peek_at (on (start r) q.passed)) (moved v) r = ap (λ x. whole_by x q.passed r) h.0 in
      subst (λ w. WholeMoved moved move s r (at_end (peek_at (on (start s) o.passed)) v s) w) (sym is)
      (end_moves o.passed q.passed h.1 v (peek_at (on (start s) o.passed)) (peek_at (on (start r) q.passed)) (seen_moves laws (passed both o.passed q.passed) h.1 h.2))
  whole_moves o q (Err f) h = (h.0, ap (λ x. whole_by x q.passed r) h.1, h.2)

pub texts_read_the_same : ShownLaws → {V : Type 0} (n : ℕ) (moved : (ℕ → ℕ) → V → V) (m : Reading V) → MovesReading n moved m → TextsReadTheSame moved m
texts_read_the_same laws n moved m law s r move same =
    let ts = counting s.tokens in
    let z : Sides = record { move = move; here = start s; there = start r } in
    let alike : Alike z ts = record { texts = same; names = refl; here = refl; there = same.tokens; place = at_start refl refl } in
    whole_moves laws (moved move) n s r move ts (m (start s)) (m (start r)) (m (start s)).answer (law z ts alike)

pub layouts_read_the_same : {V : Type 0} → LayoutsAreSameTexts → (moved : (ℕ → ℕ) → V → V) (m : Reading V) → TextsReadTheSame moved m → LayoutsReadTheSame moved m
layouts_read_the_same same moved m law s r utf8 read ending other e =
    let k = same s r utf8 read ending other e in
    (k.0, k.1, k.2, law s r k.0 k.2)
