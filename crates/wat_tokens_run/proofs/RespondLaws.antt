-- Iterations over the input files, for tasks and for `fmt`.
use Rattle.std.proofs.Common.{◌≡◌, ◌≢◌, ◌⊎◌, inl, inr, ◌+◌, ◌≤◌, ℕ, Bool, true, false, Bor, List, [], ◌∷◌, ◌++◌, length, length-append, take, refl, sym, ap, ◌∙◌, subst, arith, append_assoc}
use Rattle.std.proofs.Math.Nat.{max_comm, max-le, le-max_left, le-max_right}
use Rattle.std.proofs.Math.Seq.{take-append_seam}
use Rattle.std.proofs.lemmas.Bool.{eqb-true}
use Rattle.std.proofs.lemmas.List.{append-nil, nil_from_length}
use Rattle.std.specs.Option.{option_map}
use Rattle.std.specs.Prelude.{◌||◌, max, nat_eq, string_bytes, Option, Some, None, IsSome, IfSome, is_some}
use Rattle.wat_tokens_io.specs.declared.failed.Failed.{Failed}
use Rattle.wat_tokens_args.specs.Arguments.{Word}
use Rattle.wat_tokens_args.specs.OptionSteps.{IsNext}
use Rattle.wat_tokens_run.specs.Outcomes.{status}
use Rattle.wat_tokens_run.specs.Responses.{Layer, FormatsEach, Runner, RanEach, RanFiles, begun, was_opened, worst}
use Rattle.wat_tokens_run.specs.Responses.FormatsEach.{no_file, one_more}
use Rattle.wat_tokens_run.specs.Responses.RanEach.{none, more}
use Rattle.wat_tokens_run.specs.declared.outcome.Outcome.{Outcome}

-- Loop invariant: the files before `left` were run, with these outcomes.
pub record RanSoFar {I T : Type 0} (run : Bool → Runner I T) (failure : T → Option Failed) (files left : List Word) (inputs inputs' : I) (output output' : T) (opened : Bool) (exit : ℕ) : Type 0 where
  pub done : List Word
  pub outcomes : List Outcome
  pub ran : RanEach run failure done outcomes inputs inputs' output output'
  pub all : files ≡ done ++ left
  pub count : length outcomes ≡ length done
  pub greatest : exit ≡ worst outcomes
  pub first : opened ≡ begun outcomes

max_assoc : (a b c : ℕ) → max a (max b c) ≡ max (max a b) c
max_assoc a b c =
    let left : max a (max b c) ≤ max (max a b) c = max-le (omega (arith, le-max_left a b, le-max_left (max a b) c)) (max-le (omega (arith, le-max_right a b, le-max_left (max a b) c)) (le-max_right (max a b) c)) in
    let right : max (max a b) c ≤ max a (max b c) = max-le (max-le (le-max_left a (max b c)) (omega (arith, le-max_left b c, le-max_right a (max b c)))) (omega (arith, le-max_right b c, le-max_right a (max b c))) in
    omega (arith, left, right)

worst_more : (before : List Outcome) (outcome : Outcome) → worst (before ++ outcome ∷ []) ≡ max (worst before) (status true outcome)
worst_more [] outcome = max_comm (status true outcome) 0
worst_more (other ∷ before) outcome = ap (max (status true other)) (worst_more before outcome) ∙ max_assoc (status true other) (worst before) (status true outcome)

begun_more : (before : List Outcome) (outcome : Outcome) → begun (before ++ outcome ∷ []) ≡ begun before || was_opened outcome
begun_more [] outcome = or_false (was_opened outcome)
  where
    or_false : (b : Bool) → b || false ≡ b
    or_false true = refl
    or_false false = refl
begun_more (other ∷ before) outcome = more (was_opened other) (begun (before ++ outcome ∷ [])) (begun before) (was_opened outcome) (begun_more before outcome)
  where
    more : (b all left right : Bool) → all ≡ left || right → b || all ≡ (b || left) || right
    more true all left right e = refl
    more false all left right e = e

pub none_ran : {I T : Type 0} (run : Bool → Runner I T) (failure : T → Option Failed) (files : List Word) (inputs : I) (output : T) → RanSoFar run failure files files inputs inputs output output false 0
none_ran run failure files inputs output = record { done = []; outcomes = []; ran = none inputs output; all = refl; count = refl; greatest = refl; first = refl }

next_done : (files done left left' : List Word) (word : Word) → files ≡ done ++ left → left ≡ word ∷ left' → files ≡ (done ++ word ∷ []) ++ left'
next_done files done left left' word e f = e ∙ ap (λ x. done ++ x) f ∙ sym (append_assoc done (word ∷ []) left')

-- Step of the loop: one more file is run.
pub one_more_ran : {I T : Type 0} (run : Bool → Runner I T) (failure : T → Option Failed) (files left left' : List Word) (name : List ℕ) (inputs between inputs' : I) (output within output' : T) (outcome : Outcome) (opened opened' : Bool) (greatest greatest' exit : ℕ) → IsNext left name left' → RanSoFar run failure files left inputs between output within opened greatest → failure within ≡ None
    → run opened name between inputs' within output' outcome → opened' ≡ opened || was_opened outcome → exit ≡ status true outcome → greatest' ≡ max greatest exit → RanSoFar run failure files left' inputs inputs' output output' opened' greatest'
one_more_ran run failure files left left' name inputs between inputs' output within output' outcome opened opened' greatest greatest' exit next h f r b x e = record {
  done = h.done ++ next.word ∷ [];
  outcomes = h.outcomes ++ outcome ∷ [];
  ran = more h.done (h.done ++ next.word ∷ []) next.word h.outcomes (h.outcomes ++ outcome ∷ []) outcome inputs between inputs' output within output' refl refl h.ran f
      (subst (λ o. run o (string_bytes next.word) between inputs' within output' outcome) h.first (subst (λ n. run opened n between inputs' within output' outcome) (sym next.text) r));
  all = next_done files h.done left left' next.word h.all next.all;
  count = length-append h.outcomes (outcome ∷ []) ∙ ap (λ m. m + 1) h.count ∙ sym (length-append h.done (next.word ∷ []));
  greatest = e ∙ ap (max greatest) x ∙ ap (λ m. max m (status true outcome)) h.greatest ∙ sym (worst_more h.outcomes outcome);
  first = b ∙ ap (λ o. o || was_opened outcome) h.first ∙ sym (begun_more h.outcomes outcome);
}

pub all_ran : {I T : Type 0} (run : Bool → Runner I T) (failure : T → Option Failed) (files left : List Word) (inputs inputs' : I) (output output' : T) (opened : Bool) (greatest : ℕ) → RanSoFar run failure files left inputs inputs' output output' opened greatest → (left ≡ []) ⊎ IsSome (failure output') → RanFiles run failure files inputs inputs' output output' greatest
all_ran run failure files left inputs inputs' output output' opened greatest h whole = record {
  outcomes = h.outcomes;
  ran = subst (λ fs. RanEach run failure fs h.outcomes inputs inputs' output output') (sym (ap (λ n. take n files) h.count ∙ ap (take (length h.done)) h.all ∙ take-append_seam h.done left)) h.ran;
  whole = elim whole [ inl e ↦ inl (h.count ∙ sym (ap length (h.all ∙ ap (λ x. h.done ++ x) e ∙ append-nil h.done))) | inr f ↦ inr f ];
  greatest = h.greatest;
}

-- Loop invariant: `fmt` has processed the files before `left`.
pub record FormatsSoFar {I : Type 0} (lay : Layer I) (files left : List Word) (inputs inputs' : I) (exit : ℕ) : Type 0 where
  pub done : List Word
  pub laid : FormatsEach lay done inputs inputs' exit
  pub all : files ≡ done ++ left

pub none_laid : {I : Type 0} (lay : Layer I) (files : List Word) (inputs : I) → FormatsSoFar lay files files inputs inputs 0
none_laid lay files inputs = record { done = []; laid = no_file inputs; all = refl }

pub one_more_laid : {I : Type 0} (lay : Layer I) (files left left' : List Word) (name : List ℕ) (inputs between inputs' : I) (worst worst' status : ℕ) → IsNext left name left' → FormatsSoFar lay files left inputs between worst → lay name between inputs' status
    → worst' ≡ max worst status → FormatsSoFar lay files left' inputs inputs' worst'
one_more_laid lay files left left' name inputs between inputs' worst worst' status next h l e = record {
  done = h.done ++ next.word ∷ [];
  laid = subst (λ m. FormatsEach lay (h.done ++ next.word ∷ []) inputs inputs' m) (sym e) (one_more h.done (h.done ++ next.word ∷ []) next.word inputs between inputs' worst status refl h.laid (subst (λ n. lay n between inputs' status) (sym next.text) l));
  all = next_done files h.done left left' next.word h.all next.all;
}

pub all_laid : {I : Type 0} (lay : Layer I) (files left : List Word) (inputs inputs' : I) (exit : ℕ) → FormatsSoFar lay files left inputs inputs' exit → left ≡ [] → FormatsEach lay files inputs inputs' exit
all_laid lay files left inputs inputs' exit h e = subst (λ fs. FormatsEach lay fs inputs inputs' exit) (sym (h.all ∙ ap (λ x. h.done ++ x) e ∙ append-nil h.done)) h.laid

-- The list of names is empty, or it is not.
pub none_named : (names : List Word) → nat_eq (length names) 0 ≡ true → names ≡ []
none_named names e = nil_from_length names (eqb-true (length names) 0 e)

pub some_named : (names : List Word) → nat_eq (length names) 0 ≡ false → names ≢ []
some_named names e h = let d : true ≡ false = ap (λ ns. nat_eq (length ns) 0) (sym h) ∙ e in cc

-- The word of `file_in_question`.
pub in_question : (there : List ℕ → Option Bool) (o : Option Word) (b : Bor (List ℕ)) (r : Bool) → Some b.now ≡ option_map string_bytes o → IfSome (there b.now) (λ known. r ≡ known) → (r ≡ true) ⊎ ((w : Word) × (o ≡ Some w) × IfSome (there (string_bytes w)) (λ known. known ≡ false))
in_question there None b r e h = cc
in_question there (Some w) b true e h = inl refl
in_question there (Some w) b false e h =
    let same : b.now ≡ string_bytes w = cc in
    inr (w, refl, subst (λ t. IfSome (there t) (λ known. known ≡ false)) same (flipped (there b.now) h))
  where
    flipped : (o : Option Bool) → IfSome o (λ known. false ≡ known) → IfSome o (λ known. known ≡ false)
    flipped None h = tt
    flipped (Some k) h = sym h

pub not_failed : (o : Option Failed) → is_some o ≡ false → o ≡ None
not_failed None e = refl
not_failed (Some f) e = cc
