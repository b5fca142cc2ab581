-- The scope and the errors of the parser's code as values of the definitions, and what its calls return. Not part of the standard.
use Rattle.std.specs.Prelude.{Bool, ◌≡◌, ◌<◌, ℕ, length, List, [], ◌∷◌, ◌++◌, map, Result, Ok, Err, MatchResult}
use Rattle.wat_module_ast.specs.declared.error.Fault as declared
use Rattle.wat_module_tokens.specs.declared.stream.TokenCursor.{TokenCursor}
use Rattle.wat_module_ast.specs.declared.instruction.Instruction.{Instruction}
use Rattle.wat_module_ast.specs.declared.error.ParseFailure.{ParseFailure}
use Rattle.wat_module_ast.specs.declared.error.ParseFailure.TheVariants.{Text, Memory}
use Rattle.wat_module_ast.specs.declared.instruction.ValueType.{ValueType}
use Rattle.wat_module_instructions.specs.declared.reading.Identifiers.{Identifiers}
use Rattle.wat_module_instructions.specs.declared.reading.Identifiers.TheVariants as identifiers
use Rattle.wat_module_instructions.specs.declared.reading.Scope.{Scope}
use Rattle.wat_module_ast.specs.TypeViews.{type_of}
use Rattle.wat_module_ast.specs.Grammar.{Context, Fault, Lane, before_labels, before_type, labels_from, lane_bytes, lane_index, lane_of, listed}
use Rattle.wat_module_ast.specs.Branches.{branches}
use Rattle.wat_module_instructions.specs.Machine.{Part, Step, fault_in, labels_in, run}
use Rattle.wat_module_tokens.specs.TokenCursor.{terminals_of}
use Rattle.wat_module_tokens.specs.Terminals.{Terminal, Label}

-- The context that the code parses with.
abbrev pub scope_of : Scope → Context
scope_of s = record {
  types = record { names = s.type_names.now; types = map type_of s.types.now; are_known = s.are_types_known };
  locals = s.locals.now;
  funcs = s.funcs.now;
  tables = s.tables.now;
  memories = s.memories.now;
  globals = s.globals.now;
  elems = s.elems.now;
  datas = s.datas.now;
}

-- A syntax error of the code.
abbrev pub fault_of : declared.Fault → Fault
fault_of f = (f.kind, terminals_of f.left)

-- `Faults q e`: if `e` is a syntax error, `q` fails with it; if `e` is an allocation failure, nothing is ensured.
abbrev pub Faults : {A : Type 0} → Result A Fault → ParseFailure → Type 0
Faults q (Text f) = q ≡ Err (fault_of f)
Faults q (Memory e) = Unit {0}

-- The identifiers among which an index is looked up, in the order of their indices.
abbrev pub identifiers_of : Identifiers → List Label
identifiers_of (identifiers.Items names) = names.now
identifiers_of (identifiers.Labels frames) = labels_in frames.now

-- `ReadsAs view expected result`: `expected` is what the definition parses: a value and the remaining tokens, or an
-- error. A call returns a value whose `view` is that value, and the same remaining tokens. Otherwise it fails with
-- that error, or with an allocation failure.
abbrev pub ReadsAs : {V W : Type 0} → (V → W) → Result (W × List Terminal) Fault → Result (V × TokenCursor) ParseFailure → Type 0
ReadsAs view expected result = MatchResult result (λ r. expected ≡ Ok (view r.0, terminals_of r.1)) (λ e. Faults expected e)

-- `ReadsExactly view expected result`: the same without an allocation failure.
abbrev pub ReadsExactly : {V W : Type 0} → (V → W) → Result (W × List Terminal) Fault → Result (V × TokenCursor) declared.Fault → Type 0
ReadsExactly view expected result = MatchResult result (λ r. expected ≡ Ok (view r.0, terminals_of r.1)) (λ f. expected ≡ Err (fault_of f))

-- `SkipsExactly expected result`: a call returns the remaining tokens of the definition, or fails with its error. There
-- is no allocation failure.
abbrev pub SkipsExactly : Result (List Terminal) Fault → Result TokenCursor declared.Fault → Type 0
SkipsExactly expected result = MatchResult result (λ r. expected ≡ Ok (terminals_of r)) (λ f. expected ≡ Err (fault_of f))

-- `SkipsAs expected result`: a call returns the remaining tokens of the definition. Otherwise it fails with its error, or
-- with an allocation failure.
abbrev pub SkipsAs : Result (List Terminal) Fault → Result TokenCursor ParseFailure → Type 0
SkipsAs expected result = MatchResult result (λ r. expected ≡ Ok (terminals_of r)) (λ e. Faults expected e)

-- `IsMemory e`: the error `e` is an allocation failure.
abbrev pub IsMemory : ParseFailure → Type 0
IsMemory (Text f) = ⊥
IsMemory (Memory e) = Unit {0}

-- `FailsIn ps before after`: if a plain instruction fails with `before`, it fails with `after` in the innermost of the parts `ps`.
abbrev pub FailsIn : List Part → ParseFailure → ParseFailure → Type 0
FailsIn ps (Text f) (Text g) = fault_of g ≡ fault_in ps (fault_of f)
FailsIn ps (Memory d) (Memory e) = d ≡ e
FailsIn ps before after = ⊥

-- `NoLabel ls n ts before after`: no label follows `n` at `ts`, and `after` is `before`.
abbrev pub NoLabel : List Label → ℕ → List Terminal → List ℕ → List ℕ → Type 0
NoLabel ls n ts before after = (labels_from ls n ts ≡ Ok (branches [] n, ts)) × (after ≡ before)

-- `IsLabel ls n ts before after m us`: the label `m` follows `n` at `ts`, `us` comes after it,
-- and `after` is `before` with `n` appended.
abbrev pub IsLabel : List Label → ℕ → List Terminal → List ℕ → List ℕ → ℕ → List Terminal → Type 0
IsLabel ls n ts before after m us = (labels_from ls n ts ≡ before_labels n (labels_from ls m us)) × (after ≡ before ++ n ∷ [])

-- A result with these types before its own.
abbrev pub before_all : List ValueType → Result (List ValueType × List Terminal) Fault → Result (List ValueType × List Terminal) Fault
before_all [] q = q
before_all (u ∷ us) q = before_type u (before_all us q)

-- `NotListed word inside ts before after`: no group begins at `ts`, so nothing is consumed, and `after` is `before`.
abbrev pub NotListed : List ℕ → Bool → List Terminal → List ValueType → List ValueType → Type 0
NotListed word inside ts before after = (listed word inside ts ≡ Ok ([], ts)) × (after ≡ before)

-- `IsListed word inside ts before after still left`: tokens up to `left` are consumed, and their types are appended to
-- `before`, which gives `after`; `still` is true if `left` is inside a group.
pub record IsListed (word : List ℕ) (inside : Bool) (ts : List Terminal) (before after : List ValueType) (still : Bool) (left : List Terminal) : Type 0 where
  pub types : List ValueType
  pub is : listed word inside ts ≡ before_all types (listed word still left)
  pub follow : after ≡ before ++ types

-- `IsIndex ts before after left`: a lane index is parsed, up to `left`, and appended to `before`, which gives `after`.
pub record IsIndex (ts : List Terminal) (before after : List ℕ) (left : List Terminal) : Type 0 where
  pub number : ℕ
  pub is : lane_index ts ≡ Ok (number, left)
  pub follow : after ≡ before ++ number ∷ []

-- `IsLane k ts before after left`: a lane of the kind `k` is parsed, up to `left`, and its bytes are
-- appended to `before`, which gives `after`.
pub record IsLane (k : Lane) (ts : List Terminal) (before after : List ℕ) (left : List Terminal) : Type 0 where
  pub number : ℕ
  pub is : lane_of k ts ≡ Ok (number, left)
  pub follow : after ≡ before ++ lane_bytes k number

-- `Stepped q before after frames left`: the step `q` is without an error. Its instructions are appended to `before`,
-- which gives `after`; `frames` is its stack, and `left` the remaining tokens.
pub record Stepped (q : Result Step Fault) (before after : List Instruction) (frames : List Part) (left : List Terminal) : Type 0 where
  pub output : List Instruction
  pub is : q ≡ Ok (record { output = output; stack = frames; left = left })
  pub follows : after ≡ before ++ output

-- `StepsAs expected before after frames result`: a call makes the step of the definition: it appends the step's
-- instructions to `before`, which gives `after`, leaves the stack `frames`, and returns the remaining tokens. Otherwise
-- it fails with the error of the definition, or with an allocation failure.
abbrev pub StepsAs : Result Step Fault → List Instruction → List Instruction → List Part → Result TokenCursor ParseFailure → Type 0
StepsAs expected before after frames result = MatchResult result (λ r. Stepped expected before after frames (terminals_of r)) (λ e. Faults expected e)

-- `StepsFrom expected stack before after frames result`: the call makes the step of `expected` for the innermost part of
-- `stack` and those outside it. If `stack` is empty, nothing is stated.
abbrev pub StepsFrom : (Part → List Part → Result Step Fault) → List Part → List Instruction → List Instruction → List Part → Result TokenCursor ParseFailure → Type 0
StepsFrom expected stack before after frames result = (p : Part) (ps : List Part) → stack ≡ p ∷ ps → StepsAs (expected p ps) before after frames result

-- `RunsTo context ps ts before after left`: a run that may take more steps than there are tokens ends at `left`, and
-- its instructions, appended to `before`, give `after`.
abbrev pub RunsTo : Context → List Part → List Terminal → List Instruction → List Instruction → List Terminal → Type 0
RunsTo context ps ts before after left = (n : ℕ) → length ts < n → (is : List Instruction) × (run context n ps ts ≡ Ok (is, left)) × (after ≡ before ++ is)

-- `RunsInto context ps ts e`: a run that may take more steps than there are tokens fails with the error `e`, or `e` is
-- an allocation failure.
abbrev pub RunsInto : Context → List Part → List Terminal → ParseFailure → Type 0
RunsInto context ps ts e = (n : ℕ) → length ts < n → Faults (run context n ps ts) e
