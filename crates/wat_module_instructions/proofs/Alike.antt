-- Tokens that match the grammar with the types of a context also match it with other types, and add the same types.
use Rattle.std.proofs.Common.{◌≡◌, ℕ, zero, suc, Bool, true, false, List, [], ◌∷◌, ◌++◌, Option, Some, None, Result, Ok, Err, refl, sym, ap, subst, ◌∙◌, ◌⊎◌, inl, inr}
use Rattle.std.specs.Prelude.{if◌then◌else◌, codes, slice_get, ◌||◌}
use Rattle.std.proofs.lemmas.Grind.{flat_map-append}
use Rattle.wat_module_ast.specs.declared.instruction.Argument.{Argument}
use Rattle.wat_module_ast.specs.declared.instruction.Argument.TheVariants as argument
use Rattle.wat_module_ast.specs.declared.instruction.Instruction.{Instruction}
use Rattle.wat_module_ast.specs.declared.instruction.Opcode.{Opcode}
use Rattle.wat_module_ast.specs.declared.error.Space.TheVariants as space
use Rattle.wat_module_ast.specs.declared.error.FaultKind.TheVariants.{OtherType}
use Rattle.wat_module_ast.specs.declared.table.Immediate.{Immediate}
use Rattle.wat_module_ast.specs.declared.table.Immediate.TheVariants as immediate
use Rattle.wat_module_ast.specs.Grammar.{Context, Fault, Instructions, plain, position, label_of, end, otherwise, instruction, block_type}
use Rattle.wat_module_ast.specs.Grammar as grammar
use Rattle.wat_module_ast.specs.Table.{Mnemonic, found, mnemonics}
use Rattle.wat_module_tokens.specs.Terminals.{Terminal, Open, Close, Word, Id, Integer, Text, Float, Other, Label}
use Rattle.wat_module_ast.specs.Types.{FunctionType, Types, TypeUse, Indexed, added_types, indirect_call, same_type}
use Rattle.wat_module_ast.specs.Uses.{MoreTypesKeep, UnknownTypesBring, with_more_types, argument_types, expression_types, instruction_types, unknown, retyped}

-- If the first result has a value, the second has one with the same rest, and the values are related.
abbrev Follows : {A : Type 0} → (A → A → Type 0) → Result (A × List Terminal) Fault → Result (A × List Terminal) Fault → Type 0
Follows {A = A} Like (Ok (a, us)) q = (b : A) × (q ≡ Ok (b, us)) × Like a b
Follows Like (Err f) q = Unit {0}

follows : {A : Type 0} (Like : A → A → Type 0) → ((a : A) → Like a a) → (q : Result (A × List Terminal) Fault) → Follows Like q q
follows Like like (Ok (a, us)) = (a, refl, like a)
follows Like like (Err f) = tt

-- Type uses: equal, or, if `same` is false, both with an index.
abbrev LikeUse : Bool → TypeUse → TypeUse → Type 0
LikeUse same u v = (u ≡ v) ⊎ ((same ≡ false) × (i : ℕ) × (j : ℕ) × (u ≡ Indexed i) × (v ≡ Indexed j))

-- Immediates that are equal if `same` is true, and that add the same types.
abbrev LikeArgument : Bool → Argument → Argument → Type 0
LikeArgument same a b = (same ≡ true → a ≡ b) × (argument_types a ≡ argument_types b)

abbrev LikeInstruction : Bool → Instruction → Instruction → Type 0
LikeInstruction same i j = (same ≡ true → i ≡ j) × (instruction_types i ≡ instruction_types j)

abbrev LikeAll : Bool → List Instruction → List Instruction → Type 0
LikeAll same is js = (same ≡ true → is ≡ js) × (expression_types is ≡ expression_types js)

abbrev LikeNames : Bool → List Label → List Label → Type 0
LikeNames same ls ms = (x : List ℕ) (n : ℕ) → position 0 x ls ≡ Some n → (m : ℕ) × (position 0 x ms ≡ Some m) × (same ≡ true → n ≡ m)

abbrev LikeTypes : Bool → Types → Types → Type 0
LikeTypes same types others = (ts : List Terminal) → Follows (LikeUse same) (grammar.use_of types ts) (grammar.use_of others ts)

same_use : (same : Bool) (u : TypeUse) → LikeUse same u u
same_use same u = inl refl

same_argument : (same : Bool) (a : Argument) → LikeArgument same a a
same_argument same a = (λ k. refl, refl)

never : {A : Type 0} (same : Bool) → same ≡ false → same ≡ true → A
never true e k = cc
never false e k = cc

-- Type uses, with more types.

get_more : (ts more : List FunctionType) (i : ℕ) (t : FunctionType) → slice_get ts i ≡ Some t → slice_get (ts ++ more) i ≡ Some t
get_more [] more i t e = cc
get_more (u ∷ us) more zero t e = e
get_more (u ∷ us) more (suc i) t e = get_more us more i t e

indexed_more : (i : ℕ) (o p : Option FunctionType) (all ts : List Terminal) → ((t : FunctionType) → o ≡ Some t → p ≡ Some t) → Follows (LikeUse true) (grammar.indexed_by i o all ts) (grammar.indexed_by i p all ts)
indexed_more i None p all ts h = tt
indexed_more i (Some t) p all ts h =
    subst (λ x. Follows (LikeUse true) (grammar.indexed_by i (Some t) all ts) (grammar.indexed_by i x all ts)) (sym (h t refl)) (follows (LikeUse true) (same_use true) (grammar.indexed_by i (Some t) all ts))

known_more : (known : Bool) (i : ℕ) (types more : List FunctionType) (all ts : List Terminal)
    → Follows (LikeUse true) (if known then grammar.indexed_by i (slice_get types i) all ts else grammar.assumed (grammar.lists_of ts)) (if known then grammar.indexed_by i (slice_get (types ++ more) i) all ts else grammar.assumed (grammar.lists_of ts))
known_more true i types more all ts = indexed_more i (slice_get types i) (slice_get (types ++ more) i) all ts (λ t. get_more types more i t)
known_more false i types more all ts = follows (LikeUse true) (same_use true) (grammar.assumed (grammar.lists_of ts))

closed_more : (types : Types) (more : List FunctionType) (i : ℕ) (all ts : List Terminal) → Follows (LikeUse true) (grammar.closed_index types i all ts) (grammar.closed_index (with_more_types more types) i all ts)
closed_more types more i all (Close ∷ ts) = known_more types.are_known i types.types more all ts
closed_more types more i all [] = tt
closed_more types more i all (Open ∷ ts) = tt
closed_more types more i all (Word w ∷ ts) = tt
closed_more types more i all (Id x ∷ ts) = tt
closed_more types more i all (Integer s n ∷ ts) = tt
closed_more types more i all (Text v ∷ ts) = tt
closed_more types more i all (Float narrow wide ∷ ts) = tt
closed_more types more i all (Other ∷ ts) = tt

indexed_use_more : (types : Types) (more : List FunctionType) (all : List Terminal) (q : Result (ℕ × List Terminal) Fault) → Follows (LikeUse true) (grammar.indexed_use types all q) (grammar.indexed_use (with_more_types more types) all q)
indexed_use_more types more all (Ok (i, ts)) = closed_more types more i all ts
indexed_use_more types more all (Err f) = tt

use_by_more : (types : Types) (more : List FunctionType) (o : Option (List Terminal)) (all : List Terminal) → Follows (LikeUse true) (grammar.use_by types o all) (grammar.use_by (with_more_types more types) o all)
use_by_more types more None all = follows (LikeUse true) (same_use true) (grammar.listed_use (grammar.lists_of all))
use_by_more types more (Some ts) all = indexed_use_more types more ts (grammar.index space.Type types.names ts)

uses_more : (types : Types) (more : List FunctionType) → LikeTypes true types (with_more_types more types)
unfolding grammar.use_of
uses_more types more ts = use_by_more types more (grammar.after (codes "type") ts) ts

-- Type uses, without the types.

agreed_unknown : (b : Bool) (i : ℕ) (all ts : List Terminal) → Follows (LikeUse false) (if b then Ok (Indexed i, ts) else Err (OtherType, all)) (Ok (Indexed 0, ts))
agreed_unknown true i all ts = (Indexed 0, refl, inr (refl, i, 0, refl, refl))
agreed_unknown false i all ts = tt

lists_unknown : (i : ℕ) (t : FunctionType) (all : List Terminal) (q : Result (FunctionType × List Terminal) Fault) → Follows (LikeUse false) (grammar.agreed i t all q) (grammar.assumed q)
lists_unknown i t all (Ok (u, ts)) = agreed_unknown (grammar.list_nothing u.params u.results || same_type u t) i all ts
lists_unknown i t all (Err f) = tt

indexed_unknown : (i : ℕ) (o : Option FunctionType) (all ts : List Terminal) → Follows (LikeUse false) (grammar.indexed_by i o all ts) (grammar.assumed (grammar.lists_of ts))
indexed_unknown i None all ts = tt
indexed_unknown i (Some t) all ts = lists_unknown i t all (grammar.lists_of ts)

known_unknown : (known : Bool) (i : ℕ) (o : Option FunctionType) (all ts : List Terminal) → Follows (LikeUse false) (if known then grammar.indexed_by i o all ts else grammar.assumed (grammar.lists_of ts)) (grammar.assumed (grammar.lists_of ts))
known_unknown true i o all ts = indexed_unknown i o all ts
known_unknown false i o all ts = follows (LikeUse false) (same_use false) (grammar.assumed (grammar.lists_of ts))

closed_unknown : (types : Types) (i : ℕ) (all ts : List Terminal) → Follows (LikeUse false) (grammar.closed_index types i all ts) (grammar.closed_index (unknown types) i all ts)
closed_unknown types i all (Close ∷ ts) = known_unknown types.are_known i (slice_get types.types i) all ts
closed_unknown types i all [] = tt
closed_unknown types i all (Open ∷ ts) = tt
closed_unknown types i all (Word w ∷ ts) = tt
closed_unknown types i all (Id x ∷ ts) = tt
closed_unknown types i all (Integer s n ∷ ts) = tt
closed_unknown types i all (Text v ∷ ts) = tt
closed_unknown types i all (Float narrow wide ∷ ts) = tt
closed_unknown types i all (Other ∷ ts) = tt

indexed_use_unknown : (types : Types) (all : List Terminal) (q : Result (ℕ × List Terminal) Fault) → Follows (LikeUse false) (grammar.indexed_use types all q) (grammar.indexed_use (unknown types) all q)
indexed_use_unknown types all (Ok (i, ts)) = closed_unknown types i all ts
indexed_use_unknown types all (Err f) = tt

use_by_unknown : (types : Types) (o : Option (List Terminal)) (all : List Terminal) → Follows (LikeUse false) (grammar.use_by types o all) (grammar.use_by (unknown types) o all)
use_by_unknown types None all = follows (LikeUse false) (same_use false) (grammar.listed_use (grammar.lists_of all))
use_by_unknown types (Some ts) all = indexed_use_unknown types ts (grammar.index space.Type types.names ts)

uses_unknown : (types : Types) → LikeTypes false types (unknown types)
unfolding grammar.use_of
uses_unknown types ts = use_by_unknown types (grammar.after (codes "type") ts) ts

-- Immediates.

like_equal : (same : Bool) (a b : Argument) → a ≡ b → LikeArgument same a b
like_equal same a b e = (λ k. e, ap argument_types e)

indirect_brings : (n : ℕ) (u : TypeUse) (i : ℕ) → u ≡ Indexed i → argument_types (argument.Indirect (indirect_call n u)) ≡ []
indirect_brings n u i e = ap added_types e

like_indirect : (same : Bool) (n : ℕ) (u v : TypeUse) → LikeUse same u v → LikeArgument same (argument.Indirect (indirect_call n u)) (argument.Indirect (indirect_call n v))
like_indirect same n u v (inl e) = like_equal same _ _ (ap (λ x. argument.Indirect (indirect_call n x)) e)
like_indirect same n u v (inr (f, i, j, a, b)) = (λ k. never same f k, indirect_brings n u i a ∙ sym (indirect_brings n v j b))

with_use_alike : (same : Bool) (n : ℕ) (q p : Result (TypeUse × List Terminal) Fault) → Follows (LikeUse same) q p → Follows (LikeArgument same) (grammar.with_use n q) (grammar.with_use n p)
with_use_alike same n (Ok (u, ts)) p (v, e, l) = (argument.Indirect (indirect_call n v), ap (grammar.with_use n) e, like_indirect same n u v l)
with_use_alike same n (Err f) p h = tt

indirect_alike : (same : Bool) (types others : Types) → LikeTypes same types others → (q : Result (ℕ × List Terminal) Fault) → Follows (LikeArgument same) (grammar.indirect_by types q) (grammar.indirect_by others q)
indirect_alike same types others h (Ok (n, ts)) = with_use_alike same n (grammar.use_of types ts) (grammar.use_of others ts) (h ts)
indirect_alike same types others h (Err f) = tt

named_alike : (same : Bool) (ls ms : List Label) → LikeNames same ls ms → (x : List ℕ) (all ts : List Terminal) (o : Option ℕ) → position 0 x ls ≡ o → Follows (LikeArgument same) (grammar.with_index (grammar.named space.Local o all ts)) (grammar.with_index (grammar.named space.Local (position 0 x ms) all ts))
named_alike same ls ms h x all ts (Some n) e = let m = h x n e in (argument.Index m.0, ap (λ p. grammar.with_index (grammar.named space.Local p all ts)) m.1, (λ k. ap argument.Index (m.2 k), refl))
named_alike same ls ms h x all ts None e = tt

local_alike : (same : Bool) (ls ms : List Label) → LikeNames same ls ms → (ts : List Terminal) → Follows (LikeArgument same) (grammar.with_index (grammar.index space.Local ls ts)) (grammar.with_index (grammar.index space.Local ms ts))
local_alike same ls ms h (Id x ∷ ts) = named_alike same ls ms h x (Id x ∷ ts) ts (position 0 x ls) refl
local_alike same ls ms h (Integer s n ∷ ts) = follows (LikeArgument same) (same_argument same) (grammar.with_index (grammar.small s n (Integer s n ∷ ts) ts))
local_alike same ls ms h [] = tt
local_alike same ls ms h (Open ∷ ts) = tt
local_alike same ls ms h (Close ∷ ts) = tt
local_alike same ls ms h (Word w ∷ ts) = tt
local_alike same ls ms h (Text v ∷ ts) = tt
local_alike same ls ms h (Float narrow wide ∷ ts) = tt
local_alike same ls ms h (Other ∷ ts) = tt

-- A context, and types and locals that are related to its own.
pub record Contexts (same : Bool) (context : Context) (types : Types) (locals : List Label) : Type 0 where
  pub uses : LikeTypes same context.types types
  pub names : LikeNames same context.locals locals

abbrev SideValue : Bool → Result (Argument × List Terminal) Fault → Type 0
SideValue same q = Follows (LikeArgument same) q q

kept : (same : Bool) (q : Result (Argument × List Terminal) Fault) → SideValue same q
kept same q = follows (LikeArgument same) (same_argument same) q

immediate_alike : (same : Bool) (context : Context) (types : Types) (locals ls : List Label) → Contexts same context types locals → (k : Immediate) (ts : List Terminal)
    → Follows (LikeArgument same) (grammar.immediate_of context ls k ts) (grammar.immediate_of (retyped types locals context) ls k ts)
immediate_alike same context types locals ls c immediate.Local ts = local_alike same context.locals locals c.names ts
immediate_alike same context types locals ls c immediate.Indirect ts = indirect_alike same context.types types c.uses (grammar.table_of context.tables ts)
immediate_alike same context types locals ls c immediate.No ts = kept same (grammar.immediate_of context ls immediate.No ts)
immediate_alike same context types locals ls c immediate.Label ts = kept same (grammar.immediate_of context ls immediate.Label ts)
immediate_alike same context types locals ls c immediate.Labels ts = kept same (grammar.immediate_of context ls immediate.Labels ts)
immediate_alike same context types locals ls c immediate.Func ts = kept same (grammar.immediate_of context ls immediate.Func ts)
immediate_alike same context types locals ls c immediate.Global ts = kept same (grammar.immediate_of context ls immediate.Global ts)
immediate_alike same context types locals ls c immediate.I32 ts = kept same (grammar.immediate_of context ls immediate.I32 ts)
immediate_alike same context types locals ls c immediate.I64 ts = kept same (grammar.immediate_of context ls immediate.I64 ts)
immediate_alike same context types locals ls c immediate.F32 ts = kept same (grammar.immediate_of context ls immediate.F32 ts)
immediate_alike same context types locals ls c immediate.F64 ts = kept same (grammar.immediate_of context ls immediate.F64 ts)
immediate_alike same context types locals ls c (immediate.Memory n) ts = kept same (grammar.immediate_of context ls (immediate.Memory n) ts)
immediate_alike same context types locals ls c immediate.Zero ts = kept same (grammar.immediate_of context ls immediate.Zero ts)
immediate_alike same context types locals ls c immediate.HeapType ts = kept same (grammar.immediate_of context ls immediate.HeapType ts)
immediate_alike same context types locals ls c immediate.Select ts = kept same (grammar.immediate_of context ls immediate.Select ts)
immediate_alike same context types locals ls c immediate.Zeros ts = kept same (grammar.immediate_of context ls immediate.Zeros ts)
immediate_alike same context types locals ls c immediate.Data ts = kept same (grammar.immediate_of context ls immediate.Data ts)
immediate_alike same context types locals ls c immediate.MemoryInit ts = kept same (grammar.immediate_of context ls immediate.MemoryInit ts)
immediate_alike same context types locals ls c immediate.Elem ts = kept same (grammar.immediate_of context ls immediate.Elem ts)
immediate_alike same context types locals ls c immediate.Table ts = kept same (grammar.immediate_of context ls immediate.Table ts)
immediate_alike same context types locals ls c immediate.TableCopy ts = kept same (grammar.immediate_of context ls immediate.TableCopy ts)
immediate_alike same context types locals ls c immediate.TableInit ts = kept same (grammar.immediate_of context ls immediate.TableInit ts)
immediate_alike same context types locals ls c immediate.Lane ts = kept same (grammar.immediate_of context ls immediate.Lane ts)
immediate_alike same context types locals ls c (immediate.MemoryLane n) ts = kept same (grammar.immediate_of context ls (immediate.MemoryLane n) ts)
immediate_alike same context types locals ls c immediate.Shuffle ts = kept same (grammar.immediate_of context ls immediate.Shuffle ts)
immediate_alike same context types locals ls c immediate.Vector ts = kept same (grammar.immediate_of context ls immediate.Vector ts)

abbrev with : Opcode → Argument → Instruction
with o a = record { opcode = grammar.opcode_of o a; argument = a }

with_opcode_alike : (same : Bool) (o : Opcode) (q p : Result (Argument × List Terminal) Fault) → Follows (LikeArgument same) q p → Follows (LikeInstruction same) (grammar.with_opcode o q) (grammar.with_opcode o p)
with_opcode_alike same o (Ok (a, ts)) p (b, e, l) = (with o b, ap (grammar.with_opcode o) e, (λ k. ap (with o) (l.0 k), l.1))
with_opcode_alike same o (Err f) p h = tt

plain_by_alike : (same : Bool) (context : Context) (types : Types) (locals ls : List Label) → Contexts same context types locals → (m : Option Mnemonic) (all ts : List Terminal)
    → Follows (LikeInstruction same) (grammar.plain_by context ls m all ts) (grammar.plain_by (retyped types locals context) ls m all ts)
plain_by_alike same context types locals ls c None all ts = tt
plain_by_alike same context types locals ls c (Some m) all ts = with_opcode_alike same m.opcode (grammar.immediate_of context ls m.immediate ts) (grammar.immediate_of (retyped types locals context) ls m.immediate ts) (immediate_alike same context types locals ls c m.immediate ts)

plain_alike : (same : Bool) (context : Context) (types : Types) (locals ls : List Label) → Contexts same context types locals → (w : List ℕ) (ts : List Terminal)
    → Follows (LikeInstruction same) (plain context ls (Word w ∷ ts)) (plain (retyped types locals context) ls (Word w ∷ ts))
unfolding plain
plain_alike same context types locals ls c w ts = plain_by_alike same context types locals ls c (found w mnemonics) (Word w ∷ ts) ts

-- Blocks.

block_brings : (u : TypeUse) (i : ℕ) → u ≡ Indexed i → argument_types (grammar.block_of u) ≡ []
block_brings u i e = ap (λ x. argument_types (grammar.block_of x)) e

like_block : (same : Bool) (u v : TypeUse) → LikeUse same u v → LikeArgument same (grammar.block_of u) (grammar.block_of v)
like_block same u v (inl e) = like_equal same _ _ (ap grammar.block_of e)
like_block same u v (inr (f, i, j, a, b)) = (λ k. never same f k, block_brings u i a ∙ sym (block_brings v j b))

block_by_alike : (same : Bool) (q p : Result (TypeUse × List Terminal) Fault) → Follows (LikeUse same) q p → Follows (LikeArgument same) (grammar.block_by q) (grammar.block_by p)
block_by_alike same (Ok (u, ts)) p (v, e, l) = (grammar.block_of v, ap grammar.block_by e, like_block same u v l)
block_by_alike same (Err f) p h = tt

block_alike : (same : Bool) (types others : Types) → LikeTypes same types others → (ts : List Terminal) → Follows (LikeArgument same) (block_type types ts) (block_type others ts)
block_alike same types others h ts = block_by_alike same (grammar.use_of types ts) (grammar.use_of others ts) (h ts)

-- Lists.

like_cons : (same : Bool) (i j : Instruction) (is js : List Instruction) → LikeInstruction same i j → LikeAll same is js → LikeAll same (i ∷ is) (j ∷ js)
like_cons same i j is js a b = (λ k. ap (λ x. x ∷ is) (a.0 k) ∙ ap (λ x. j ∷ x) (b.0 k), ap (λ x. x ++ expression_types is) a.1 ∙ ap (λ x. instruction_types j ++ x) b.1)

like_on : (same : Bool) (i : Instruction) (is js : List Instruction) → LikeAll same is js → LikeAll same (i ∷ is) (i ∷ js)
like_on same i is js b = like_cons same i i is js (λ k. refl, refl) b

like_append : (same : Bool) (is js ks ls : List Instruction) → LikeAll same is js → LikeAll same ks ls → LikeAll same (is ++ ks) (js ++ ls)
like_append same is js ks ls a b =
    (λ k. ap (λ x. x ++ ks) (a.0 k) ∙ ap (λ x. js ++ x) (b.0 k), flat_map-append instruction_types is ks ∙ ap (λ x. x ++ expression_types ks) a.1 ∙ ap (λ x. expression_types js ++ x) b.1 ∙ sym (flat_map-append instruction_types js ls))

like_start : (same : Bool) (o : ℕ) (a b : Argument) → LikeArgument same a b → LikeInstruction same (instruction o a) (instruction o b)
like_start same o a b l = (λ k. ap (instruction o) (l.0 k), l.1)

-- Tokens that match the grammar.

record Found (same : Bool) (context : Context) (ls : List Label) (folded : Bool) (ts : List Terminal) (is : List Instruction) (r : List Terminal) : Type 0 where
  js : List Instruction
  spelled : Instructions context ls folded ts js r
  like : LikeAll same is js

abbrev Given : {A : Type 0} → (A → A → Type 0) → Result (A × List Terminal) Fault → A → List Terminal → Type 0
Given {A = A} Like q a us = (b : A) × (q ≡ Ok (b, us)) × Like a b

given : {A : Type 0} (Like : A → A → Type 0) (p q : Result (A × List Terminal) Fault) (a : A) (us : List Terminal) → Follows Like p q → p ≡ Ok (a, us) → Given Like q a us
given {A = A} Like p q a us f e = let K : Result (A × List Terminal) Fault → Type 0 = λ x. Follows Like x q in subst K e f

all_alike : (same : Bool) (context : Context) (types : Types) (locals : List Label) → Contexts same context types locals → (ls : List Label) (folded : Bool) (ts : List Terminal) (is : List Instruction) (r : List Terminal) → Instructions context ls folded ts is r
    → Found same (retyped types locals context) ls folded ts is r
all_alike same context types locals c _ _ _ _ r grammar.by_none = record { js = []; spelled = grammar.by_none; like = (λ k. refl, refl) }
all_alike same context types locals c _ _ _ _ r (grammar.by_plain {ls = ls} {w = w} {ts = ts} {us = us} {i = i} {is = is} s h more) =
    let (j, e, l) = given (LikeInstruction same) _ _ i us (plain_alike same context types locals ls c w ts) h in
    let m = all_alike same context types locals c ls false us is r more in record { js = j ∷ m.js; spelled = grammar.by_plain s e m.spelled; like = like_cons same i j is m.js l m.like }
all_alike same context types locals c _ _ _ _ r (grammar.by_block {ls = ls} {w = w} {v = v} {o = o} {a = a} {ts = ts} {bs = bs} {us = us} {vs = vs} {body = body} {is = is} s n h e l more) =
    let (b, f, k) = given (LikeArgument same) _ _ a bs (block_alike same context.types types c.uses (label_of ts).1) n in
    let x = all_alike same context types locals c ((label_of ts).0 ∷ ls) false bs body (Word v ∷ us) h in
    let m = all_alike same context types locals c ls false vs is r more in record {
      js = instruction o b ∷ (x.js ++ (end ∷ m.js));
      spelled = grammar.by_block s f x.spelled e l m.spelled;
      like = like_cons same (instruction o a) (instruction o b) (body ++ (end ∷ is)) (x.js ++ (end ∷ m.js)) (like_start same o a b k) (like_append same body x.js (end ∷ is) (end ∷ m.js) x.like (like_on same end is m.js m.like));
    }
all_alike same context types locals c _ _ _ _ r (grammar.by_if_else {ls = ls} {w = w} {v = v} {x = x} {o = o} {a = a} {ts = ts} {bs = bs} {us = us} {xs = xs} {ys = ys} {vs = vs} {body = body} {other = other} {is = is} s i n h e l k f m more) =
    let (b, g, d) = given (LikeArgument same) _ _ a bs (block_alike same context.types types c.uses (label_of ts).1) n in
    let p = all_alike same context types locals c ((label_of ts).0 ∷ ls) false bs body (Word v ∷ us) h in
    let q = all_alike same context types locals c ((label_of ts).0 ∷ ls) false xs other (Word x ∷ ys) k in
    let z = all_alike same context types locals c ls false vs is r more in record {
      js = instruction o b ∷ (p.js ++ (otherwise ∷ (q.js ++ (end ∷ z.js))));
      spelled = grammar.by_if_else s i g p.spelled e l q.spelled f m z.spelled;
      like = like_cons same (instruction o a) (instruction o b) _ _ (like_start same o a b d) (like_append same body p.js _ _ p.like (like_on same otherwise _ _ (like_append same other q.js _ _ q.like (like_on same end is z.js z.like))));
    }
all_alike same context types locals c _ _ _ _ r (grammar.by_folded {ls = ls} {folded = folded} {w = w} {ts = ts} {us = us} {vs = vs} {i = i} {operands = operands} {is = is} s h inner more) =
    let (j, e, l) = given (LikeInstruction same) _ _ i us (plain_alike same context types locals ls c w ts) h in
    let x = all_alike same context types locals c ls true us operands (Close ∷ vs) inner in
    let m = all_alike same context types locals c ls folded vs is r more in record { js = x.js ++ (j ∷ m.js); spelled = grammar.by_folded s e x.spelled m.spelled; like = like_append same operands x.js _ _ x.like (like_cons same i j is m.js l m.like) }
all_alike same context types locals c _ _ _ _ r (grammar.by_folded_block {ls = ls} {folded = folded} {w = w} {o = o} {a = a} {ts = ts} {bs = bs} {vs = vs} {body = body} {is = is} s i n inner more) =
    let (b, f, k) = given (LikeArgument same) _ _ a bs (block_alike same context.types types c.uses (label_of ts).1) n in
    let x = all_alike same context types locals c ((label_of ts).0 ∷ ls) false bs body (Close ∷ vs) inner in
    let m = all_alike same context types locals c ls folded vs is r more in record {
      js = instruction o b ∷ (x.js ++ (end ∷ m.js));
      spelled = grammar.by_folded_block s i f x.spelled m.spelled;
      like = like_cons same (instruction o a) (instruction o b) _ _ (like_start same o a b k) (like_append same body x.js _ _ x.like (like_on same end is m.js m.like));
    }
all_alike same context types locals c _ _ _ _ r (grammar.by_folded_if {ls = ls} {folded = folded} {w = w} {t = t} {o = o} {a = a} {ts = ts} {bs = bs} {cs = cs} {vs = vs} {condition = condition} {body = body} {is = is} s i n inner k g more) =
    let (b, f, d) = given (LikeArgument same) _ _ a bs (block_alike same context.types types c.uses (label_of ts).1) n in
    let x = all_alike same context types locals c ls true bs condition (Open ∷ Word t ∷ cs) inner in
    let y = all_alike same context types locals c ((label_of ts).0 ∷ ls) false cs body (Close ∷ Close ∷ vs) g in
    let m = all_alike same context types locals c ls folded vs is r more in record {
      js = x.js ++ (instruction o b ∷ (y.js ++ (end ∷ m.js)));
      spelled = grammar.by_folded_if s i f x.spelled k y.spelled m.spelled;
      like = like_append same condition x.js _ _ x.like (like_cons same (instruction o a) (instruction o b) _ _ (like_start same o a b d) (like_append same body y.js _ _ y.like (like_on same end is m.js m.like)));
    }
all_alike same context types locals c _ _ _ _ r (grammar.by_folded_if_else {ls = ls} {folded = folded} {w = w} {t = t} {e = e} {o = o} {a = a} {ts = ts} {bs = bs} {cs = cs} {es = es} {vs = vs} {condition = condition} {body = body} {other = other} {is = is} s i n inner k g f q more) =
    let (b, p, d) = given (LikeArgument same) _ _ a bs (block_alike same context.types types c.uses (label_of ts).1) n in
    let x = all_alike same context types locals c ls true bs condition (Open ∷ Word t ∷ cs) inner in
    let y = all_alike same context types locals c ((label_of ts).0 ∷ ls) false cs body (Close ∷ Open ∷ Word e ∷ es) g in
    let z = all_alike same context types locals c ((label_of ts).0 ∷ ls) false es other (Close ∷ Close ∷ vs) q in
    let m = all_alike same context types locals c ls folded vs is r more in record {
      js = x.js ++ (instruction o b ∷ (y.js ++ (otherwise ∷ (z.js ++ (end ∷ m.js)))));
      spelled = grammar.by_folded_if_else s i p x.spelled k y.spelled f z.spelled m.spelled;
      like = like_append same condition x.js _ _ x.like (like_cons same (instruction o a) (instruction o b) _ _ (like_start same o a b d) (like_append same body y.js _ _ y.like (like_on same otherwise _ _ (like_append same other z.js _ _ z.like (like_on same end is m.js m.like)))));
    }

pub more_types_keep : MoreTypesKeep
more_types_keep context more ls folded ts is r h =
    let c : Contexts true context (with_more_types more context.types) context.locals = record { uses = uses_more context.types more; names = λ x n e. (n, e, λ k. refl) } in
    let f = all_alike true context (with_more_types more context.types) context.locals c ls folded ts is r h in
    subst (λ x. Instructions (retyped (with_more_types more context.types) context.locals context) ls folded ts x r) (sym (f.like.0 refl)) f.spelled

pub unknown_types_bring : UnknownTypesBring
unknown_types_bring context locals ls folded ts is r among h =
    let c : Contexts false context (unknown context.types) locals = record { uses = uses_unknown context.types; names = λ x n e. let m = among x n e in (m.0, m.1, λ k. never false refl k) } in
    let f = all_alike false context (unknown context.types) locals c ls folded ts is r h in record { others = f.js; spelled = f.spelled; brings = f.like.1 }
