-- The bytes of lanes, lane by lane.
use Rattle.std.proofs.Common.{◌≡◌, ◌<◌, ℕ, zero, suc, List, [], ◌∷◌, ◌++◌, Result, Ok, Err, refl, sym, ap, ◌∙◌, arith, append_assoc, append-nil}
use Rattle.wat_module_ast.specs.declared.error.ParseFailure.{ParseFailure}
use Rattle.wat_module_ast.specs.declared.error.ParseFailure.TheVariants as refusal
use Rattle.wat_module_ast.specs.Grammar.{Fault, Lane, and_indices, and_lanes, before_bytes, lane_bytes, lane_index, lane_indices, lane_of, lanes_from}
use Rattle.wat_module_instructions.specs.Parts.{Faults, fault_of}
use Rattle.wat_module_tokens.specs.Terminals.{Terminal}

nothing_before : (q : Result (List ℕ × List Terminal) Fault) → q ≡ before_bytes [] q
nothing_before (Ok (cs, ts)) = refl
nothing_before (Err f) = refl

pub before_nothing : (bs : List ℕ) (q : Result (List ℕ × List Terminal) Fault) → bs ≡ [] → q ≡ before_bytes bs q
before_nothing bs q e = nothing_before q ∙ ap (λ x. before_bytes x q) (sym e)

before_more : (bs cs : List ℕ) (q : Result (List ℕ × List Terminal) Fault) → before_bytes bs (before_bytes cs q) ≡ before_bytes (bs ++ cs) q
before_more bs cs (Ok (ds, ts)) = ap (λ x. Ok (x, ts)) (sym (append_assoc bs cs ds))
before_more bs cs (Err f) = refl

one_more : (k : Lane) (m n : ℕ) (ts us : List Terminal) → lane_of k ts ≡ Ok (n, us) → lanes_from k (suc m) ts ≡ before_bytes (lane_bytes k n) (lanes_from k m us)
unfolding lanes_from
one_more k m n ts us e = ap (λ q. and_lanes k q (lanes_from k m)) e

-- The loop over lanes: the bytes of all are those that were read before those of the lanes that are left.

pub lanes_on : (all : Result (List ℕ × List Terminal) Fault) (k : Lane) (left m n : ℕ) (ts us : List Terminal) (before after : List ℕ)
    → all ≡ before_bytes before (lanes_from k left ts) → left ≡ suc m → lane_of k ts ≡ Ok (n, us) → after ≡ before ++ lane_bytes k n → all ≡ before_bytes after (lanes_from k m us)
lanes_on all k left m n ts us before after e h is f =
    e ∙ ap (λ j. before_bytes before (lanes_from k j ts)) h ∙ ap (before_bytes before) (one_more k m n ts us is) ∙ before_more before (lane_bytes k n) (lanes_from k m us) ∙ ap (λ x. before_bytes x (lanes_from k m us)) (sym f)

none_left : (k : Lane) (ts : List Terminal) (bytes : List ℕ) → before_bytes bytes (lanes_from k zero ts) ≡ Ok (bytes, ts)
unfolding lanes_from
none_left k ts bytes = ap (λ x. Ok (x, ts)) (append-nil bytes)

pub lanes_end : (all : Result (List ℕ × List Terminal) Fault) (k : Lane) (left : ℕ) (ts : List Terminal) (before after : List ℕ) → all ≡ before_bytes before (lanes_from k left ts) → left ≡ 0 → after ≡ before → all ≡ Ok (after, ts)
lanes_end all k left ts before after e h f = e ∙ ap (λ j. before_bytes before (lanes_from k j ts)) h ∙ none_left k ts before ∙ ap (λ x. Ok (x, ts)) (sym f)

fault_first : (k : Lane) (left : ℕ) (ts : List Terminal) (f : Fault) → 0 < left → lane_of k ts ≡ Err f → lanes_from k left ts ≡ Err f
unfolding lanes_from
fault_first k zero ts f h e = absurd (omega arith)
fault_first k (suc m) ts f h e = ap (λ q. and_lanes k q (lanes_from k m)) e

pub lanes_fault : (all : Result (List ℕ × List Terminal) Fault) (k : Lane) (left : ℕ) (ts : List Terminal) (bytes : List ℕ) (e : ParseFailure) → all ≡ before_bytes bytes (lanes_from k left ts) → 0 < left → Faults (lane_of k ts) e → Faults all e
lanes_fault all k left ts bytes (refusal.Text f) e h is = e ∙ ap (before_bytes bytes) (fault_first k left ts (fault_of f) h is)
lanes_fault all k left ts bytes (refusal.Memory a) e h is = tt

-- The loop over indices of lanes, likewise.

more_index : (m n : ℕ) (ts us : List Terminal) → lane_index ts ≡ Ok (n, us) → lane_indices (suc m) ts ≡ before_bytes (n ∷ []) (lane_indices m us)
unfolding lane_indices
more_index m n ts us e = ap (λ q. and_indices q (lane_indices m)) e

pub indices_on : (all : Result (List ℕ × List Terminal) Fault) (left m n : ℕ) (ts us : List Terminal) (before after : List ℕ)
    → all ≡ before_bytes before (lane_indices left ts) → left ≡ suc m → lane_index ts ≡ Ok (n, us) → after ≡ before ++ n ∷ [] → all ≡ before_bytes after (lane_indices m us)
indices_on all left m n ts us before after e h is f =
    e ∙ ap (λ j. before_bytes before (lane_indices j ts)) h ∙ ap (before_bytes before) (more_index m n ts us is) ∙ before_more before (n ∷ []) (lane_indices m us) ∙ ap (λ x. before_bytes x (lane_indices m us)) (sym f)

no_index : (ts : List Terminal) (bytes : List ℕ) → before_bytes bytes (lane_indices zero ts) ≡ Ok (bytes, ts)
unfolding lane_indices
no_index ts bytes = ap (λ x. Ok (x, ts)) (append-nil bytes)

pub indices_end : (all : Result (List ℕ × List Terminal) Fault) (left : ℕ) (ts : List Terminal) (before after : List ℕ) → all ≡ before_bytes before (lane_indices left ts) → left ≡ 0 → after ≡ before → all ≡ Ok (after, ts)
indices_end all left ts before after e h f = e ∙ ap (λ j. before_bytes before (lane_indices j ts)) h ∙ no_index ts before ∙ ap (λ x. Ok (x, ts)) (sym f)

fault_index : (left : ℕ) (ts : List Terminal) (f : Fault) → 0 < left → lane_index ts ≡ Err f → lane_indices left ts ≡ Err f
unfolding lane_indices
fault_index zero ts f h e = absurd (omega arith)
fault_index (suc m) ts f h e = ap (λ q. and_indices q (lane_indices m)) e

pub indices_fault : (all : Result (List ℕ × List Terminal) Fault) (left : ℕ) (ts : List Terminal) (bytes : List ℕ) (e : ParseFailure) → all ≡ before_bytes bytes (lane_indices left ts) → 0 < left → Faults (lane_index ts) e → Faults all e
indices_fault all left ts bytes (refusal.Text f) e h is = e ∙ ap (before_bytes bytes) (fault_index left ts (fault_of f) h is)
indices_fault all left ts bytes (refusal.Memory a) e h is = tt
