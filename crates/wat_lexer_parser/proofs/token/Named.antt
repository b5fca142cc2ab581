-- The value of an identifier that is consumed, of which callers see its name and if the name is owned.
use Rattle.std.proofs.Common.{◌≡◌, ◌∙◌, ℕ, Bool, false, List, ap, sym, refl, Some, None, Ok, Err}
use Rattle.std.specs.Prelude.{◌&&◌, Option, Result, is_some, IfOk, IfSome}
use Rattle.std.specs.Option.{option_map}
use Rattle.wat_lex.specs.errors.Errors.{Report}
use Rattle.wat_lex.specs.declared.lexer.kinds.Token.{Token}
use Rattle.wat_lexer_parser.specs.lemmas.After.{same_token}
use Rattle.wat_lexer_parser.specs.parser.State.{Answers, Seen}
use Rattle.wat_lexer_parser.specs.parser.Takers.{as_id, name_is_decoded, taken, token_value_by, word_allocates}
use Rattle.wat_lexer_parser.specs.lemmas.Parts.{may_take}
use Rattle.wat_lexer_parser.specs.readings.Types.{as_owned_id, named_by}

module _ {T : Type 0} (bytes : T → List ℕ) (owned : T → Bool) (at : T → ℕ) where
  abbrev plain : Option T → Option (List ℕ × ℕ)
  plain = option_map (λ v. (bytes v, at v))

  abbrev named : Option T → Option ((List ℕ × Bool) × ℕ)
  named = option_map (λ v. ((bytes v, owned v), at v))

  none_named : (r : Result (Option T) (Option Report)) → Answers false plain (Ok None) r → Answers false named (Ok None) r
  none_named (Ok None) h = refl
  none_named (Ok (Some v)) h = cc
  none_named (Err None) h = h
  none_named (Err (Some e)) h = cc

  refused_named : (takes : Bool) (f : Report) (r : Result (Option T) (Option Report)) → Answers takes plain (Err f) r → Answers takes named (Err f) r
  refused_named takes f (Ok found) h = cc
  refused_named takes f (Err None) h = h
  refused_named takes f (Err (Some e)) h = let k : f ≡ e = cc in ap Err k

  found_named : (takes b : Bool) (n : List ℕ) (q : ℕ) (r : Result (Option T) (Option Report)) → Answers takes plain (Ok (Some (n, q))) r → IfOk r (λ found. IfSome found (λ v. owned v ≡ b)) → Answers takes named (Ok (Some ((n, b), q))) r
  found_named takes b n q (Ok None) h k = cc
  found_named takes b n q (Ok (Some v)) h k =
      let same = same_token n (bytes v) q (at v) h in
      ap (λ n. Ok (Some ((n, b), q))) same.0 ∙ ap (λ b. Ok (Some ((bytes v, b), q))) (sym k) ∙ ap (λ q. Ok (Some ((bytes v, owned v), q))) same.1
  found_named takes b n q (Err None) h k = h
  found_named takes b n q (Err (Some e)) h k = cc

  by_reader : (o : Option (Result (List ℕ) Report)) (takes b : Bool) (q : ℕ) (r : Result (Option T) (Option Report)) → Answers (is_some o && takes) plain (token_value_by q o) r → IfOk r (λ found. IfSome found (λ v. owned v ≡ b))
      → Answers (is_some (named_by b o) && takes) named (token_value_by q (named_by b o)) r
  by_reader None takes b q r h k = none_named r h
  by_reader (Some (Ok n)) takes b q r h k = found_named takes b n q r h k
  by_reader (Some (Err f)) takes b q r h k = refused_named takes f r h

  pub named_answers : (x : List ℕ) (a : Seen) (r : Result (Option T) (Option Report)) → Answers (may_take as_id x a) plain (taken as_id x a) r
      → ((t : Token) (q : ℕ) → a ≡ Ok (Some (t, q)) → IfOk r (λ found. IfSome found (λ v. owned v ≡ name_is_decoded x t))) → Answers (may_take as_owned_id x a) named (taken as_owned_id x a) r
  named_answers x (Ok None) r h k = none_named r h
  named_answers x (Ok (Some (t, q))) r h k = by_reader (as_id x t t.kind) (word_allocates x t t.kind) (name_is_decoded x t) q r h (k t q refl)
  named_answers x (Err f) r h k = refused_named false f r h
