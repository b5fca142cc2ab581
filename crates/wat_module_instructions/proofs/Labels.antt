-- The labels of br_table, one after another.
use Rattle.std.proofs.Common.{◌≡◌, ℕ, Bool, true, false, List, [], ◌∷◌, ◌++◌, Option, Some, None, Result, Ok, Err, refl, sym, ap, ◌∙◌}
use Rattle.wat_module_tokens.specs.TokenCursor.{terminals_of}
use Rattle.std.specs.Prelude.{if◌then◌else◌, nat_lt, ◌^◌, MatchResult}
use Rattle.wat_module_ast.specs.declared.instruction.Argument.{Argument}
use Rattle.wat_module_tokens.specs.declared.stream.TokenCursor.{TokenCursor}
use Rattle.wat_module_ast.specs.declared.error.ParseFailure.{ParseFailure}
use Rattle.wat_module_ast.specs.declared.error.ParseFailure.TheVariants as refusal
use Rattle.wat_module_ast.specs.declared.error.Space.TheVariants as space
use Rattle.wat_module_ast.specs.declared.error.Range.TheVariants as range
use Rattle.wat_module_ast.specs.declared.error.FaultKind.TheVariants.{OutOfRange}
use Rattle.wat_module_tokens.specs.declared.token.Sign.{Sign}
use Rattle.wat_module_tokens.specs.declared.token.Sign.TheVariants as sign
use Rattle.wat_module_ast.specs.Branches.{Branches, branches}
use Rattle.wat_module_ast.specs.Grammar.{Fault, and_labels, before_labels, index, labels_by, labels_from, named, position, small, with_labels}
use Rattle.wat_module_instructions.specs.Parts.{Faults, IsMemory, fault_of}
use Rattle.wat_module_tokens.specs.Terminals.{Terminal, Open, Close, Word, Id, Integer, Text, Float, Other, Label}

-- labels before others
abbrev pub put_before : List ℕ → Result (Branches × List Terminal) Fault → Result (Branches × List Terminal) Fault
put_before [] q = q
put_before (n ∷ ns) q = before_labels n (put_before ns q)

pub put_more : (ns : List ℕ) (n : ℕ) (q : Result (Branches × List Terminal) Fault) → put_before ns (before_labels n q) ≡ put_before (ns ++ n ∷ []) q
put_more [] n q = refl
put_more (m ∷ ns) n q = ap (before_labels m) (put_more ns n q)

pub put_all : (ns : List ℕ) (n : ℕ) (ts : List Terminal) → put_before ns (Ok (branches [] n, ts)) ≡ Ok (branches ns n, ts)
put_all [] n ts = refl
put_all (m ∷ ns) n ts = ap (before_labels m) (put_all ns n ts)

pub put_fault : (ns : List ℕ) (f : Fault) → put_before ns (Err f) ≡ Err f
put_fault [] f = refl
put_fault (m ∷ ns) f = ap (before_labels m) (put_fault ns f)

-- what is left, or these
abbrev left_or : List Terminal → Result (ℕ × List Terminal) Fault → List Terminal
left_or us (Ok (n, ts)) = ts
left_or us (Err f) = us

small_left : (s : Sign) (n : ℕ) (all ts : List Terminal) → left_or ts (small s n all ts) ≡ ts
small_left sign.Absent n all ts = by (nat_lt n (2 ^ 32))
  where
    by : (b : Bool) → left_or ts (if b then Ok (n, ts) else Err (OutOfRange (range.Unsigned (2 ^ 31)), all)) ≡ ts
    by true = refl
    by false = refl
small_left sign.Plus n all ts = refl
small_left sign.Minus n all ts = refl

named_left : (o : Option ℕ) (all ts : List Terminal) → left_or ts (named space.Label o all ts) ≡ ts
named_left (Some n) all ts = refl
named_left None all ts = refl

one_more : (ls : List Label) (n m : ℕ) (ts us : List Terminal) (q : Result (ℕ × List Terminal) Fault) → left_or ts q ≡ ts → q ≡ Ok (m, us) → and_labels n q (λ k. labels_from ls k ts) ≡ before_labels n (labels_from ls m us)
one_more ls n m ts us q l e = ap (λ x. and_labels n x (λ k. labels_from ls k ts)) e ∙ ap (λ x. before_labels n (labels_from ls m x)) (sym l ∙ ap (left_or ts) e)

-- an index after a label is a label more
pub label_more : (ls : List Label) (n m : ℕ) (ts us : List Terminal) → index space.Label ls ts ≡ Ok (m, us) → labels_from ls n ts ≡ before_labels n (labels_from ls m us)
unfolding labels_from
label_more ls n m (Integer s k ∷ ts) us e = one_more ls n m ts us (small s k (Integer s k ∷ ts) ts) (small_left s k (Integer s k ∷ ts) ts) e
label_more ls n m (Id x ∷ ts) us e = one_more ls n m ts us (named space.Label (position 0 x ls) (Id x ∷ ts) ts) (named_left (position 0 x ls) (Id x ∷ ts) ts) e
label_more ls n m [] us e = cc
label_more ls n m (Open ∷ ts) us e = cc
label_more ls n m (Close ∷ ts) us e = cc
label_more ls n m (Word w ∷ ts) us e = cc
label_more ls n m (Text v ∷ ts) us e = cc
label_more ls n m (Float narrow wide ∷ ts) us e = cc
label_more ls n m (Other ∷ ts) us e = cc

pub integer_fault : (ls : List Label) (n k : ℕ) (s : Sign) (ts : List Terminal) (f : Fault) → index space.Label ls (Integer s k ∷ ts) ≡ Err f → labels_from ls n (Integer s k ∷ ts) ≡ Err f
unfolding labels_from
integer_fault ls n k s ts f e = ap (λ x. and_labels n x (λ k. labels_from ls k ts)) e

pub name_fault : (ls : List Label) (n : ℕ) (x : List ℕ) (ts : List Terminal) (f : Fault) → index space.Label ls (Id x ∷ ts) ≡ Err f → labels_from ls n (Id x ∷ ts) ≡ Err f
unfolding labels_from
name_fault ls n x ts f e = ap (λ x. and_labels n x (λ k. labels_from ls k ts)) e

-- The loop over labels: what all come to is what were found before what comes of those that are left.

pub labels_on : (all left next : Result (Branches × List Terminal) Fault) (found after : List ℕ) (n : ℕ) → all ≡ put_before found left → left ≡ before_labels n next → after ≡ found ++ n ∷ [] → all ≡ put_before after next
labels_on all left next found after n h k f = h ∙ ap (put_before found) k ∙ put_more found n next ∙ ap (λ x. put_before x next) (sym f)

pub labels_end : (all left : Result (Branches × List Terminal) Fault) (found after : List ℕ) (n : ℕ) (ts : List Terminal) → all ≡ put_before found left → left ≡ Ok (branches [] n, ts) → after ≡ found → all ≡ Ok (branches after n, ts)
labels_end all left found after n ts h k f = h ∙ ap (put_before found) k ∙ put_all found n ts ∙ ap (λ x. Ok (branches x n, ts)) (sym f)

pub labels_fault : (ls : List Label) (all us : List Terminal) (n : ℕ) (found : List ℕ) (left : Result (Branches × List Terminal) Fault) (e : ParseFailure) → index space.Label ls all ≡ Ok (n, us) → labels_from ls n us ≡ put_before found left → Faults left e → Faults (labels_by ls (index space.Label ls all)) e
labels_fault ls all us n found left (refusal.Text f) i h k = ap (labels_by ls) i ∙ ap with_labels (h ∙ ap (put_before found) k ∙ put_fault found (fault_of f))
labels_fault ls all us n found left (refusal.Memory a) i h k = tt

pub table_is : (r : Result (Argument × TokenCursor) ParseFailure) (q p : Result (Argument × List Terminal) Fault) → q ≡ p → MatchResult r (λ a. p ≡ Ok (a.0, terminals_of a.1)) IsMemory → MatchResult r (λ a. q ≡ Ok (a.0, terminals_of a.1)) (λ e. Faults q e)
table_is (Ok a) q p e h = e ∙ h
table_is (Err (refusal.Text f)) q p e h = absurd h
table_is (Err (refusal.Memory a)) q p e h = tt
