-- Machine and grammar agree: a stack stands for what the remaining tokens still have to match.
use Rattle.std.proofs.Common.{◌≡◌, ◌<◌, ◌≤◌, ℕ, zero, suc, Bool, true, false, List, [], ◌∷◌, ◌++◌, length, Option, Some, None, Result, Ok, Err, refl, sym, ap, subst, ◌∙◌, arith, append_assoc, append-nil}
use Rattle.std.specs.Prelude.{if◌then◌else◌, ◌&&◌, codes}
use Rattle.std.proofs.lemmas.Slice.Eq.{bytes_eq-Decides}
use Rattle.wat_module_ast.specs.declared.instruction.Argument.{Argument}
use Rattle.wat_module_ast.specs.Table.{mnemonics, low, high, prefixed, low_vectors, high_vectors}
use Rattle.wat_module_ast.specs.declared.instruction.Instruction.{Instruction}
use Rattle.wat_module_ast.specs.declared.error.Expected.TheVariants as expected
use Rattle.wat_module_ast.specs.declared.error.FaultKind.TheVariants.{Unexpected, UnknownWord}
use Rattle.wat_module_tokens.specs.Terminals.{Terminal, Open, Close, Word, Id, Integer, Text, Float, Other, Label}
use Rattle.wat_module_ast.specs.Grammar.{Context, Fault, Instructions, plain, label_of, end_label, structured, is_end, is_else, is_then, is_if, block_type, instruction, end, otherwise}
use Rattle.wat_module_ast.specs.Grammar as grammar
use Rattle.wat_module_instructions.specs.Machine.{Part, Body, Block, Group, Operands, Condition, Then, Else, Step, only_folded, bound, labels_in, step, run, run_by, output_before, word_by, open_by, open_block, folded_by, word_step, open_step, at_plain, at_operands, at_block, at_group, at_condition, step_at_else, ended}
use Rattle.wat_module_instructions.specs.Machine as machine
use Rattle.wat_module_instructions.specs.Law.{MachineIsGrammar}
use Rattle.wat_module_instructions.proofs.Passing.{Keeps, KeepsAll, end_keeps, end_passes, head_keeps, head_passes, plain_takes, plain_short, Takes}

-- The tokens that close a part, the instructions that they yield, and the remaining tokens.
pub data Closed (context : Context) (ls : List Label) : Part → List Terminal → List Instruction → List Terminal → Type 0 where
  by_body : {vs : List Terminal} → Closed context ls Body (Close ∷ vs) [] vs
  by_group : {l : Label} {vs : List Terminal} → Closed context ls (Group l) (Close ∷ vs) (end ∷ []) vs
  by_operands : {i : Instruction} {vs : List Terminal} → Closed context ls (Operands i) (Close ∷ vs) (i ∷ []) vs
  by_block : {b : Bool} {l : Label} {v : List ℕ} {us vs : List Terminal} → is_end v ≡ true → end_label l us ≡ Ok vs → Closed context ls (Block b l) (Word v ∷ us) (end ∷ []) vs
  by_else : {l : Label} {v x : List ℕ} {us xs ys vs : List Terminal} {other : List Instruction} → is_else v ≡ true → end_label l us ≡ Ok xs → Instructions context ls false xs other (Word x ∷ ys) → is_end x ≡ true → end_label l ys ≡ Ok vs
      → Closed context ls (Block true l) (Word v ∷ us) (otherwise ∷ (other ++ (end ∷ []))) vs
  by_then : {l : Label} {vs : List Terminal} → Closed context ls (Then l) (Close ∷ Close ∷ vs) (end ∷ []) vs
  by_other : {l : Label} {e : List ℕ} {es vs : List Terminal} {other : List Instruction} → is_else e ≡ true → Instructions context ls false es other (Close ∷ Close ∷ vs) → Closed context ls (Then l) (Close ∷ Open ∷ Word e ∷ es) (otherwise ∷ (other ++ (end ∷ []))) vs
  by_otherwise : {l : Label} {vs : List Terminal} → Closed context ls (Else l) (Close ∷ Close ∷ vs) (end ∷ []) vs
  by_condition : {i : Instruction} {l : Label} {t : List ℕ} {cs vs : List Terminal} {body : List Instruction} → is_then t ≡ true → Instructions context (l ∷ ls) false cs body (Close ∷ Close ∷ vs) → Closed context ls (Condition i l) (Open ∷ Word t ∷ cs) (i ∷ (body ++ (end ∷ []))) vs
  by_condition_else : {i : Instruction} {l : Label} {t e : List ℕ} {cs es vs : List Terminal} {body other : List Instruction} → is_then t ≡ true → Instructions context (l ∷ ls) false cs body (Close ∷ Open ∷ Word e ∷ es) → is_else e ≡ true → Instructions context (l ∷ ls) false es other (Close ∷ Close ∷ vs)
      → Closed context ls (Condition i l) (Open ∷ Word t ∷ cs) (i ∷ (body ++ (otherwise ∷ (other ++ (end ∷ []))))) vs

-- the tokens end all that is open: each part has its instructions, then what closes it, and then the next
abbrev pub Completes : Context → List Part → List Terminal → List Instruction → List Terminal → Type 0
Completes context [] ts is r = (ts ≡ r) × (is ≡ [])
Completes context (p ∷ ps) ts is r =
    (body : List Instruction) × (us : List Terminal) × (es : List Instruction) × (vs : List Terminal) × (js : List Instruction) × Instructions context (labels_in (p ∷ ps)) (only_folded p) ts body us × Closed context (labels_in (p ∷ ps)) p us es vs × Completes context ps vs js r × (is ≡ body ++ (es ++ js))

abbrev pub Lands : Context → Result Step Fault → List Instruction → List Terminal → Type 0
Lands context (Ok s) is r = Completes context s.stack s.left is r
Lands context (Err f) is r = ⊥

abbrev pub output_of : Result Step Fault → List Instruction
output_of (Ok s) = s.output
output_of (Err f) = []

abbrev pub left_of : Result Step Fault → List Terminal
left_of (Ok s) = s.left
left_of (Err f) = []

-- From a step back.

abbrev Back : Context → Part → List Part → List Terminal → Result Step Fault → Type 0
Back context p ps ts q = (is : List Instruction) (r : List Terminal) → Lands context q is r → Completes context (p ∷ ps) ts (output_of q ++ is) r

closed_back : (context : Context) (p : Part) (ps : List Part) (us : List Terminal) (es : List Instruction) (vs : List Terminal) → Closed context (labels_in (p ∷ ps)) p us es vs → Back context p ps us (machine.on_to es ps vs)
closed_back context p ps us es vs c is r h = ([], us, es, vs, is, grammar.by_none, c, h, refl)

ended_back : (context : Context) (b : Bool) (l : Label) (ps : List Part) (v : List ℕ) (us : List Terminal) → is_end v ≡ true → (q : Result (List Terminal) Fault) → end_label l us ≡ q → Back context (Block b l) ps (Word v ∷ us) (ended q ps)
ended_back context b l ps v us e (Ok vs) k = closed_back context (Block b l) ps (Word v ∷ us) (end ∷ []) vs (by_block e k)
ended_back context b l ps v us e (Err f) k = λ is r h. absurd h

else_back : (context : Context) (l : Label) (ps : List Part) (v : List ℕ) (us xs : List Terminal) → is_else v ≡ true → end_label l us ≡ Ok xs → (is : List Instruction) (r : List Terminal) (b : List Instruction) (zs : List Terminal) (es : List Instruction) (vs : List Terminal) (js : List Instruction)
    → Instructions context (l ∷ labels_in ps) false xs b zs → Closed context (l ∷ labels_in ps) (Block false l) zs es vs → Completes context ps vs js r → is ≡ b ++ (es ++ js)
    → Completes context (Block true l ∷ ps) (Word v ∷ us) (otherwise ∷ is) r
else_back context l ps v us xs e k is r b _ _ vs js h (by_block {v = x} {us = ys} f g) rest t =
    ([], Word v ∷ us, otherwise ∷ (b ++ (end ∷ [])), vs, js, grammar.by_none, by_else e k h f g, rest, ap (λ x. otherwise ∷ x) (t ∙ sym (append_assoc b (end ∷ []) js)))

turned_back : (context : Context) (l : Label) (ps : List Part) (v : List ℕ) (us : List Terminal) → is_else v ≡ true → (q : Result (List Terminal) Fault) → end_label l us ≡ q → Back context (Block true l) ps (Word v ∷ us) (step_at_else l q ps)
turned_back context l ps v us e (Ok xs) k is r (b, zs, es, vs, js, h, c, rest, t) = else_back context l ps v us xs e k is r b zs es vs js h c rest t
turned_back context l ps v us e (Err f) k is r h = absurd h

plain_back : (context : Context) (p : Part) (ps : List Part) (w : List ℕ) (ts : List Terminal) → only_folded p ≡ false → structured w ≡ None → (q : Result (Instruction × List Terminal) Fault) → plain context (labels_in (p ∷ ps)) (Word w ∷ ts) ≡ q → Back context p ps (Word w ∷ ts) (at_plain q (p ∷ ps))
plain_back context p ps w ts k s (Err f) e is r h = absurd h
plain_back context p ps w ts k s (Ok (i, us)) e is r (b, zs, es, vs, js, h, c, rest, t) =
    (i ∷ b, zs, es, vs, js, subst (λ f. Instructions context (labels_in (p ∷ ps)) f (Word w ∷ ts) (i ∷ b) zs) (sym k) (grammar.by_plain s e (subst (λ f. Instructions context (labels_in (p ∷ ps)) f us b zs) k h)), c, rest, ap (λ x. i ∷ x) t)

joined : (b c d : List Instruction) (i : Instruction) (is js : List Instruction) → is ≡ b ++ (i ∷ js) → js ≡ c ++ d → is ≡ (b ++ (i ∷ c)) ++ d
joined b c d i is js e f = e ∙ ap (λ x. b ++ (i ∷ x)) f ∙ sym (append_assoc b (i ∷ c) d)

block_back : (context : Context) (p : Part) (ps : List Part) (w : List ℕ) (ts bs : List Terminal) → only_folded p ≡ false → (o : ℕ) (a : Argument) (f : Bool) → structured w ≡ Some o → is_if o ≡ f → block_type context.types (label_of ts).1 ≡ Ok (a, bs) → (is : List Instruction) (r : List Terminal) (b : List Instruction) (us : List Terminal) (es : List Instruction) (vs : List Terminal) (js : List Instruction)
    → Instructions context ((label_of ts).0 ∷ labels_in (p ∷ ps)) false bs b us → Closed context ((label_of ts).0 ∷ labels_in (p ∷ ps)) (Block f (label_of ts).0) us es vs → Completes context (p ∷ ps) vs js r → is ≡ b ++ (es ++ js)
    → Completes context (p ∷ ps) (Word w ∷ ts) (instruction o a ∷ is) r
block_back context p ps w ts bs k o a f s i n is r b _ _ vs js h (by_block {us = us} e l) (b', us', es', vs', js', h', c', rest, t') t = (
  instruction o a ∷ (b ++ (end ∷ b')),
  us',
  es',
  vs',
  js',
  subst (λ f. Instructions context (labels_in (p ∷ ps)) f (Word w ∷ ts) (instruction o a ∷ (b ++ (end ∷ b'))) us') (sym k) (grammar.by_block s n h e l (subst (λ f. Instructions context (labels_in (p ∷ ps)) f vs b' us') k h')),
  c',
  rest,
  ap (λ x. instruction o a ∷ x) (joined b b' (es' ++ js') end is js t t'),
)
block_back context p ps w ts bs k o a f s i n is r b _ _ vs js h (by_else {us = us} {other = other} e l g m q) (b', us', es', vs', js', h', c', rest, t') t = (
  instruction o a ∷ (b ++ (otherwise ∷ (other ++ (end ∷ b')))),
  us',
  es',
  vs',
  js',
  subst (λ f. Instructions context (labels_in (p ∷ ps)) f (Word w ∷ ts) (instruction o a ∷ (b ++ (otherwise ∷ (other ++ (end ∷ b'))))) us') (sym k) (grammar.by_if_else s i n h e l g m q (subst (λ f. Instructions context (labels_in (p ∷ ps)) f vs b' us') k h')),
  c',
  rest,
  ap (λ x. instruction o a ∷ x) (t ∙ ap (λ x. b ++ (otherwise ∷ x)) (append_assoc other (end ∷ []) js ∙ ap (λ x. other ++ (end ∷ x)) t' ∙ sym (append_assoc other (end ∷ b') (es' ++ js'))) ∙ sym (append_assoc b (otherwise ∷ (other ++ (end ∷ b'))) (es' ++ js'))),
)

at_block_back : (context : Context) (p : Part) (ps : List Part) (w : List ℕ) (ts : List Terminal) → only_folded p ≡ false → (o : ℕ) → structured w ≡ Some o → (q : Result (Argument × List Terminal) Fault) → block_type context.types (label_of ts).1 ≡ q → Back context p ps (Word w ∷ ts) (at_block o (label_of ts).0 q (p ∷ ps))
at_block_back context p ps w ts k o e (Err f) n is r h = absurd h
at_block_back context p ps w ts k o e (Ok (a, bs)) n is r (b, us, es, vs, js, h, c, rest, t) = block_back context p ps w ts bs k o a (is_if o) e refl n is r b us es vs js h c rest t

word_back : (context : Context) (p : Part) (ps : List Part) (w : List ℕ) (ts : List Terminal) → only_folded p ≡ false → (o : Option ℕ) → structured w ≡ o → Back context p ps (Word w ∷ ts) (word_by context o (Word w ∷ ts) ts (p ∷ ps))
word_back context p ps w ts k (Some o) e is r h = at_block_back context p ps w ts k o e (block_type context.types (label_of ts).1) refl is r h
word_back context p ps w ts k None e is r h = plain_back context p ps w ts k e (plain context (labels_in (p ∷ ps)) (Word w ∷ ts)) refl is r h

else_word_back : (context : Context) (b : Bool) (l : Label) (ps : List Part) (w : List ℕ) (ts : List Terminal) (e : Bool) → is_else w ≡ e → Back context (Block b l) ps (Word w ∷ ts) (if b && e then step_at_else l (end_label l ts) ps else word_by context (structured w) (Word w ∷ ts) ts (Block b l ∷ ps))
else_word_back context true l ps w ts true e = turned_back context l ps w ts e (end_label l ts) refl
else_word_back context true l ps w ts false e = word_back context (Block true l) ps w ts refl (structured w) refl
else_word_back context false l ps w ts true e = word_back context (Block false l) ps w ts refl (structured w) refl
else_word_back context false l ps w ts false e = word_back context (Block false l) ps w ts refl (structured w) refl

block_word_back : (context : Context) (b : Bool) (l : Label) (ps : List Part) (w : List ℕ) (ts : List Terminal) (d : Bool) → is_end w ≡ d → Back context (Block b l) ps (Word w ∷ ts) (if d then ended (end_label l ts) ps else if b && is_else w then step_at_else l (end_label l ts) ps else word_by context (structured w) (Word w ∷ ts) ts (Block b l ∷ ps))
block_word_back context b l ps w ts true e = ended_back context b l ps w ts e (end_label l ts) refl
block_word_back context b l ps w ts false e = else_word_back context b l ps w ts (is_else w) refl

operands_back : (context : Context) (p : Part) (ps : List Part) (w : List ℕ) (ts us : List Terminal) (i : Instruction) → structured w ≡ None → plain context (labels_in (p ∷ ps)) (Word w ∷ ts) ≡ Ok (i, us) → (is : List Instruction) (r : List Terminal) (b : List Instruction) (zs : List Terminal) (es : List Instruction) (vs : List Terminal) (js : List Instruction)
    → Instructions context (labels_in (p ∷ ps)) true us b zs → Closed context (labels_in (p ∷ ps)) (Operands i) zs es vs → Completes context (p ∷ ps) vs js r → is ≡ b ++ (es ++ js)
    → Completes context (p ∷ ps) (Open ∷ Word w ∷ ts) is r
operands_back context p ps w ts us i s e is r b _ _ vs js h by_operands (b', us', es', vs', js', h', c', rest, t') t =
    (b ++ (i ∷ b'), us', es', vs', js', grammar.by_folded s e h h', c', rest, joined b b' (es' ++ js') i is js t t')

folded_plain_back : (context : Context) (p : Part) (ps : List Part) (w : List ℕ) (ts : List Terminal) → structured w ≡ None → (q : Result (Instruction × List Terminal) Fault) → plain context (labels_in (p ∷ ps)) (Word w ∷ ts) ≡ q → Back context p ps (Open ∷ Word w ∷ ts) (at_operands q (p ∷ ps))
folded_plain_back context p ps w ts s (Err f) e is r h = absurd h
folded_plain_back context p ps w ts s (Ok (i, us)) e is r (b, zs, es, vs, js, h, c, rest, t) = operands_back context p ps w ts us i s e is r b zs es vs js h c rest t

group_back : (context : Context) (p : Part) (ps : List Part) (w : List ℕ) (ts bs : List Terminal) (o : ℕ) (a : Argument) → structured w ≡ Some o → is_if o ≡ false → block_type context.types (label_of ts).1 ≡ Ok (a, bs) → (is : List Instruction) (r : List Terminal) (b : List Instruction) (us : List Terminal) (es : List Instruction) (vs : List Terminal) (js : List Instruction)
    → Instructions context ((label_of ts).0 ∷ labels_in (p ∷ ps)) false bs b us → Closed context ((label_of ts).0 ∷ labels_in (p ∷ ps)) (Group (label_of ts).0) us es vs → Completes context (p ∷ ps) vs js r → is ≡ b ++ (es ++ js)
    → Completes context (p ∷ ps) (Open ∷ Word w ∷ ts) (instruction o a ∷ is) r
group_back context p ps w ts bs o a s i n is r b _ _ vs js h by_group (b', us', es', vs', js', h', c', rest, t') t =
    (instruction o a ∷ (b ++ (end ∷ b')), us', es', vs', js', grammar.by_folded_block s i n h h', c', rest, ap (λ x. instruction o a ∷ x) (joined b b' (es' ++ js') end is js t t'))

at_group_back : (context : Context) (p : Part) (ps : List Part) (w : List ℕ) (ts : List Terminal) (o : ℕ) → structured w ≡ Some o → is_if o ≡ false → (q : Result (Argument × List Terminal) Fault) → block_type context.types (label_of ts).1 ≡ q → Back context p ps (Open ∷ Word w ∷ ts) (at_group o (label_of ts).0 q (p ∷ ps))
at_group_back context p ps w ts o e i (Err f) n is r h = absurd h
at_group_back context p ps w ts o e i (Ok (a, bs)) n is r (b, us, es, vs, js, h, c, rest, t) = group_back context p ps w ts bs o a e i n is r b us es vs js h c rest t

condition_back : (context : Context) (p : Part) (ps : List Part) (w : List ℕ) (ts bs : List Terminal) (o : ℕ) (a : Argument) → structured w ≡ Some o → is_if o ≡ true → block_type context.types (label_of ts).1 ≡ Ok (a, bs) → (is : List Instruction) (r : List Terminal) (b : List Instruction) (us : List Terminal) (es : List Instruction) (vs : List Terminal) (js : List Instruction)
    → Instructions context (labels_in (p ∷ ps)) true bs b us → Closed context (labels_in (p ∷ ps)) (Condition (instruction o a) (label_of ts).0) us es vs → Completes context (p ∷ ps) vs js r → is ≡ b ++ (es ++ js)
    → Completes context (p ∷ ps) (Open ∷ Word w ∷ ts) is r
condition_back context p ps w ts bs o a s d n is r b _ _ vs js h (by_condition {body = body} k g) (b', us', es', vs', js', h', c', rest, t') t = (
  b ++ (instruction o a ∷ (body ++ (end ∷ b'))),
  us',
  es',
  vs',
  js',
  grammar.by_folded_if s d n h k g h',
  c',
  rest,
  t ∙ ap (λ x. b ++ (instruction o a ∷ x)) (append_assoc body (end ∷ []) js ∙ ap (λ x. body ++ (end ∷ x)) t' ∙ sym (append_assoc body (end ∷ b') (es' ++ js'))) ∙ sym (append_assoc b (instruction o a ∷ (body ++ (end ∷ b'))) (es' ++ js')),
)
condition_back context p ps w ts bs o a s d n is r b _ _ vs js h (by_condition_else {body = body} {other = other} k g f q) (b', us', es', vs', js', h', c', rest, t') t = (
  b ++ (instruction o a ∷ (body ++ (otherwise ∷ (other ++ (end ∷ b'))))),
  us',
  es',
  vs',
  js',
  grammar.by_folded_if_else s d n h k g f q h',
  c',
  rest,
  t
      ∙ ap (λ x. b ++ (instruction o a ∷ x)) (
      append_assoc body (otherwise ∷ (other ++ (end ∷ []))) js
      ∙ ap (λ x. body ++ (otherwise ∷ x)) (append_assoc other (end ∷ []) js ∙ ap (λ x. other ++ (end ∷ x)) t' ∙ sym (append_assoc other (end ∷ b') (es' ++ js')))
      ∙ sym (append_assoc body (otherwise ∷ (other ++ (end ∷ b'))) (es' ++ js'))
      )
      ∙ sym (append_assoc b (instruction o a ∷ (body ++ (otherwise ∷ (other ++ (end ∷ b'))))) (es' ++ js')),
)

at_condition_back : (context : Context) (p : Part) (ps : List Part) (w : List ℕ) (ts : List Terminal) (o : ℕ) → structured w ≡ Some o → is_if o ≡ true → (q : Result (Argument × List Terminal) Fault) → block_type context.types (label_of ts).1 ≡ q → Back context p ps (Open ∷ Word w ∷ ts) (at_condition o (label_of ts).0 q (p ∷ ps))
at_condition_back context p ps w ts o e i (Err f) n is r h = absurd h
at_condition_back context p ps w ts o e i (Ok (a, bs)) n is r (b, us, es, vs, js, h, c, rest, t) = condition_back context p ps w ts bs o a e i n is r b us es vs js h c rest t

open_block_back : (context : Context) (p : Part) (ps : List Part) (w : List ℕ) (ts : List Terminal) (o : ℕ) → structured w ≡ Some o → (f : Bool) → is_if o ≡ f
    → Back context p ps (Open ∷ Word w ∷ ts) (if f then at_condition o (label_of ts).0 (block_type context.types (label_of ts).1) (p ∷ ps) else at_group o (label_of ts).0 (block_type context.types (label_of ts).1) (p ∷ ps))
open_block_back context p ps w ts o e true i is r h = at_condition_back context p ps w ts o e i (block_type context.types (label_of ts).1) refl is r h
open_block_back context p ps w ts o e false i is r h = at_group_back context p ps w ts o e i (block_type context.types (label_of ts).1) refl is r h

open_word_back : (context : Context) (p : Part) (ps : List Part) (w : List ℕ) (ts : List Terminal) (o : Option ℕ) → structured w ≡ o → Back context p ps (Open ∷ Word w ∷ ts) (open_by context o (Word w ∷ ts) ts (p ∷ ps))
open_word_back context p ps w ts (Some o) e is r h = open_block_back context p ps w ts o e (is_if o) refl is r h
open_word_back context p ps w ts None e is r h = folded_plain_back context p ps w ts e (plain context (labels_in (p ∷ ps)) (Word w ∷ ts)) refl is r h

-- `then` after a condition
then_back : (context : Context) (i : Instruction) (l : Label) (ps : List Part) (t : List ℕ) (cs : List Terminal) → is_then t ≡ true → (is : List Instruction) (r : List Terminal) (b : List Instruction) (zs : List Terminal) (es : List Instruction) (vs : List Terminal) (js : List Instruction)
    → Instructions context (l ∷ labels_in ps) false cs b zs → Closed context (l ∷ labels_in ps) (Then l) zs es vs → Completes context ps vs js r → is ≡ b ++ (es ++ js)
    → Completes context (Condition i l ∷ ps) (Open ∷ Word t ∷ cs) (i ∷ is) r
then_back context i l ps t cs e is r b _ _ vs js h by_then rest q =
    ([], Open ∷ Word t ∷ cs, i ∷ (b ++ (end ∷ [])), vs, js, grammar.by_none, by_condition e h, rest, ap (λ x. i ∷ x) (q ∙ sym (append_assoc b (end ∷ []) js)))
then_back context i l ps t cs e is r b _ _ vs js h (by_other {other = other} f g) rest q =
    ([], Open ∷ Word t ∷ cs, i ∷ (b ++ (otherwise ∷ (other ++ (end ∷ [])))), vs, js, grammar.by_none, by_condition_else e h f g, rest, ap (λ x. i ∷ x) (q ∙ sym (append_assoc b (otherwise ∷ (other ++ (end ∷ []))) js)))

then_word_back : (context : Context) (i : Instruction) (l : Label) (ps : List Part) (w : List ℕ) (ts : List Terminal) (d : Bool) → is_then w ≡ d
    → Back context (Condition i l) ps (Open ∷ Word w ∷ ts) (if d then machine.on_to (i ∷ []) (Then l ∷ ps) ts else open_by context (structured w) (Word w ∷ ts) ts (Condition i l ∷ ps))
then_word_back context i l ps w ts true e is r (b, zs, es, vs, js, h, c, rest, t) = then_back context i l ps w ts e is r b zs es vs js h c rest t
then_word_back context i l ps w ts false e is r h = open_word_back context (Condition i l) ps w ts (structured w) refl is r h

folded_back : (context : Context) (p : Part) (ps : List Part) (w : List ℕ) (ts : List Terminal) → Back context p ps (Open ∷ Word w ∷ ts) (folded_by context p w (Word w ∷ ts) ts ps)
folded_back context (Condition i l) ps w ts is r h = then_word_back context i l ps w ts (is_then w) refl is r h
folded_back context Body ps w ts is r h = open_word_back context Body ps w ts (structured w) refl is r h
folded_back context (Block b l) ps w ts is r h = open_word_back context (Block b l) ps w ts (structured w) refl is r h
folded_back context (Group l) ps w ts is r h = open_word_back context (Group l) ps w ts (structured w) refl is r h
folded_back context (Operands i) ps w ts is r h = open_word_back context (Operands i) ps w ts (structured w) refl is r h
folded_back context (Then l) ps w ts is r h = open_word_back context (Then l) ps w ts (structured w) refl is r h
folded_back context (Else l) ps w ts is r h = open_word_back context (Else l) ps w ts (structured w) refl is r h

open_back : (context : Context) (p : Part) (ps : List Part) (ts : List Terminal) → Back context p ps (Open ∷ ts) (open_step context p ts ps)
open_back context p ps (Word w ∷ ts) is r h = folded_back context p ps w ts is r h
open_back context p ps [] is r h = absurd h
open_back context p ps (Open ∷ ts) is r h = absurd h
open_back context p ps (Close ∷ ts) is r h = absurd h
open_back context p ps (Id x ∷ ts) is r h = absurd h
open_back context p ps (Integer s n ∷ ts) is r h = absurd h
open_back context p ps (Text v ∷ ts) is r h = absurd h
open_back context p ps (Float narrow wide ∷ ts) is r h = absurd h
open_back context p ps (Other ∷ ts) is r h = absurd h

-- `else` after `then`
other_back : (context : Context) (l : Label) (ps : List Part) (e : List ℕ) (xs : List Terminal) → is_else e ≡ true → (is : List Instruction) (r : List Terminal) (b : List Instruction) (zs : List Terminal) (es : List Instruction) (vs : List Terminal) (js : List Instruction)
    → Instructions context (l ∷ labels_in ps) false xs b zs → Closed context (l ∷ labels_in ps) (Else l) zs es vs → Completes context ps vs js r → is ≡ b ++ (es ++ js)
    → Completes context (Then l ∷ ps) (Close ∷ Open ∷ Word e ∷ xs) (otherwise ∷ is) r
other_back context l ps e xs k is r b _ _ vs js h by_otherwise rest q =
    ([], Close ∷ Open ∷ Word e ∷ xs, otherwise ∷ (b ++ (end ∷ [])), vs, js, grammar.by_none, by_other k h, rest, ap (λ x. otherwise ∷ x) (q ∙ sym (append_assoc b (end ∷ []) js)))

other_word_back : (context : Context) (l : Label) (ps : List Part) (w : List ℕ) (ts : List Terminal) (d : Bool) → is_else w ≡ d
    → Back context (Then l) ps (Close ∷ Open ∷ Word w ∷ ts) (if d then machine.other_part l ts ps else Err (Unexpected expected.Else, Word w ∷ ts))
other_word_back context l ps w ts true e is r (b, zs, es, vs, js, h, c, rest, t) = other_back context l ps w ts e is r b zs es vs js h c rest t
other_word_back context l ps w ts false e is r h = absurd h

other_step_back : (context : Context) (l : Label) (ps : List Part) (ts : List Terminal) → Back context (Then l) ps (Close ∷ Open ∷ ts) (machine.other_step l ts ps)
other_step_back context l ps (Word w ∷ ts) is r h = other_word_back context l ps w ts (is_else w) refl is r h
other_step_back context l ps [] is r h = absurd h
other_step_back context l ps (Open ∷ ts) is r h = absurd h
other_step_back context l ps (Close ∷ ts) is r h = absurd h
other_step_back context l ps (Id x ∷ ts) is r h = absurd h
other_step_back context l ps (Integer s n ∷ ts) is r h = absurd h
other_step_back context l ps (Text v ∷ ts) is r h = absurd h
other_step_back context l ps (Float narrow wide ∷ ts) is r h = absurd h
other_step_back context l ps (Other ∷ ts) is r h = absurd h

then_step_back : (context : Context) (l : Label) (ps : List Part) (ts : List Terminal) → Back context (Then l) ps (Close ∷ ts) (machine.then_step l ts ps)
then_step_back context l ps (Close ∷ ts) is r h = closed_back context (Then l) ps (Close ∷ Close ∷ ts) (end ∷ []) ts by_then is r h
then_step_back context l ps (Open ∷ ts) is r h = other_step_back context l ps ts is r h
then_step_back context l ps [] is r h = absurd h
then_step_back context l ps (Word w ∷ ts) is r h = absurd h
then_step_back context l ps (Id x ∷ ts) is r h = absurd h
then_step_back context l ps (Integer s n ∷ ts) is r h = absurd h
then_step_back context l ps (Text v ∷ ts) is r h = absurd h
then_step_back context l ps (Float narrow wide ∷ ts) is r h = absurd h
then_step_back context l ps (Other ∷ ts) is r h = absurd h

else_step_back : (context : Context) (l : Label) (ps : List Part) (ts : List Terminal) → Back context (Else l) ps (Close ∷ ts) (machine.else_step ts ps)
else_step_back context l ps (Close ∷ ts) is r h = closed_back context (Else l) ps (Close ∷ Close ∷ ts) (end ∷ []) ts by_otherwise is r h
else_step_back context l ps [] is r h = absurd h
else_step_back context l ps (Open ∷ ts) is r h = absurd h
else_step_back context l ps (Word w ∷ ts) is r h = absurd h
else_step_back context l ps (Id x ∷ ts) is r h = absurd h
else_step_back context l ps (Integer s n ∷ ts) is r h = absurd h
else_step_back context l ps (Text v ∷ ts) is r h = absurd h
else_step_back context l ps (Float narrow wide ∷ ts) is r h = absurd h
else_step_back context l ps (Other ∷ ts) is r h = absurd h

close_back : (context : Context) (p : Part) (ps : List Part) (ts : List Terminal) → Back context p ps (Close ∷ ts) (machine.close_step p (Close ∷ ts) ts ps)
close_back context Body ps ts is r h = closed_back context Body ps (Close ∷ ts) [] ts by_body is r h
close_back context (Group l) ps ts is r h = closed_back context (Group l) ps (Close ∷ ts) (end ∷ []) ts by_group is r h
close_back context (Operands i) ps ts is r h = closed_back context (Operands i) ps (Close ∷ ts) (i ∷ []) ts by_operands is r h
close_back context (Then l) ps ts is r h = then_step_back context l ps ts is r h
close_back context (Else l) ps ts is r h = else_step_back context l ps ts is r h
close_back context (Block b l) ps ts is r h = absurd h
close_back context (Condition i l) ps ts is r h = absurd h

any_word_back : (context : Context) (p : Part) (ps : List Part) (w : List ℕ) (ts : List Terminal) → Back context p ps (Word w ∷ ts) (word_step context p w (Word w ∷ ts) ts ps)
any_word_back context Body ps w ts is r h = word_back context Body ps w ts refl (structured w) refl is r h
any_word_back context (Group l) ps w ts is r h = word_back context (Group l) ps w ts refl (structured w) refl is r h
any_word_back context (Block b l) ps w ts is r h = block_word_back context b l ps w ts (is_end w) refl is r h
any_word_back context (Then l) ps w ts is r h = word_back context (Then l) ps w ts refl (structured w) refl is r h
any_word_back context (Else l) ps w ts is r h = word_back context (Else l) ps w ts refl (structured w) refl is r h
any_word_back context (Operands i) ps w ts is r h = absurd h
any_word_back context (Condition i l) ps w ts is r h = absurd h

back : (context : Context) (p : Part) (ps : List Part) (ts : List Terminal) → Back context p ps ts (step context p ps ts)
unfolding step
back context p ps [] is r h = absurd h
back context p ps (Open ∷ ts) is r h = open_back context p ps ts is r h
back context p ps (Close ∷ ts) is r h = close_back context p ps ts is r h
back context p ps (Word w ∷ ts) is r h = any_word_back context p ps w ts is r h
back context p ps (Id x ∷ ts) is r h = absurd h
back context p ps (Integer s n ∷ ts) is r h = absurd h
back context p ps (Text v ∷ ts) is r h = absurd h
back context p ps (Float narrow wide ∷ ts) is r h = absurd h
back context p ps (Other ∷ ts) is r h = absurd h

-- The other way.

-- Each step takes a token.

abbrev pub Left : Result Step Fault → ℕ → Type 0
Left (Ok s) n = length s.left < n
Left (Err f) n = Unit {0}

ended_takes : (q : Result (List Terminal) Fault) (ps : List Part) (ts : List Terminal) → KeepsAll q ts → Left (ended q ps) (suc (length ts))
ended_takes (Ok us) ps ts h = omega (arith, h.short)
ended_takes (Err f) ps ts h = tt

at_plain_takes : (q : Result (Instruction × List Terminal) Fault) (ps : List Part) (ts : List Terminal) → Takes q ts → Left (at_plain q ps) (length ts)
at_plain_takes (Ok (i, us)) ps ts h = h
at_plain_takes (Err f) ps ts h = tt

at_operands_takes : (q : Result (Instruction × List Terminal) Fault) (ps : List Part) (ts : List Terminal) → Takes q ts → Left (at_operands q ps) (suc (length ts))
at_operands_takes (Ok (i, us)) ps ts h = omega (arith, h)
at_operands_takes (Err f) ps ts h = tt

at_block_takes : (o : ℕ) (l : Label) (q : Result (Argument × List Terminal) Fault) (ps : List Part) (ts : List Terminal) → Keeps q ts → Left (at_block o l q ps) (suc (length ts))
at_block_takes o l (Ok (a, us)) ps ts h = omega (arith, h.short)
at_block_takes o l (Err f) ps ts h = tt

at_group_takes : (o : ℕ) (l : Label) (q : Result (Argument × List Terminal) Fault) (ps : List Part) (ts : List Terminal) → Keeps q ts → Left (at_group o l q ps) (suc (suc (length ts)))
at_group_takes o l (Ok (a, us)) ps ts h = omega (arith, h.short)
at_group_takes o l (Err f) ps ts h = tt

at_condition_takes : (o : ℕ) (l : Label) (q : Result (Argument × List Terminal) Fault) (ps : List Part) (ts : List Terminal) → Keeps q ts → Left (at_condition o l q ps) (suc (suc (length ts)))
at_condition_takes o l (Ok (a, us)) ps ts h = omega (arith, h.short)
at_condition_takes o l (Err f) ps ts h = tt

turned_takes : (l : Label) (q : Result (List Terminal) Fault) (ps : List Part) (ts : List Terminal) → KeepsAll q ts → Left (step_at_else l q ps) (suc (length ts))
turned_takes l (Ok us) ps ts h = omega (arith, h.short)
turned_takes l (Err f) ps ts h = tt

word_takes : (context : Context) (o : Option ℕ) (w : List ℕ) (ts : List Terminal) (ps : List Part) → Left (word_by context o (Word w ∷ ts) ts ps) (suc (length ts))
word_takes context (Some o) w ts ps = at_block_takes o (label_of ts).0 (block_type context.types (label_of ts).1) ps ts (head_keeps context.types ts)
word_takes context None w ts ps = at_plain_takes (plain context (labels_in ps) (Word w ∷ ts)) ps (Word w ∷ ts) (plain_takes context (labels_in ps) w ts)

else_word_takes : (context : Context) (b : Bool) (l : Label) (w : List ℕ) (ts : List Terminal) (ps : List Part) (e : Bool) → Left (if e then step_at_else l (end_label l ts) ps else word_by context (structured w) (Word w ∷ ts) ts (Block b l ∷ ps)) (suc (length ts))
else_word_takes context b l w ts ps true = turned_takes l (end_label l ts) ps ts (end_keeps l ts)
else_word_takes context b l w ts ps false = word_takes context (structured w) w ts (Block b l ∷ ps)

block_word_takes : (context : Context) (b : Bool) (l : Label) (w : List ℕ) (ts : List Terminal) (ps : List Part) (d : Bool)
    → Left (if d then ended (end_label l ts) ps else if b && is_else w then step_at_else l (end_label l ts) ps else word_by context (structured w) (Word w ∷ ts) ts (Block b l ∷ ps)) (suc (length ts))
block_word_takes context b l w ts ps true = ended_takes (end_label l ts) ps ts (end_keeps l ts)
block_word_takes context b l w ts ps false = else_word_takes context b l w ts ps (b && is_else w)

any_word_takes : (context : Context) (p : Part) (w : List ℕ) (ts : List Terminal) (ps : List Part) → Left (word_step context p w (Word w ∷ ts) ts ps) (suc (length ts))
any_word_takes context Body w ts ps = word_takes context (structured w) w ts (Body ∷ ps)
any_word_takes context (Group l) w ts ps = word_takes context (structured w) w ts (Group l ∷ ps)
any_word_takes context (Then l) w ts ps = word_takes context (structured w) w ts (Then l ∷ ps)
any_word_takes context (Else l) w ts ps = word_takes context (structured w) w ts (Else l ∷ ps)
any_word_takes context (Block b l) w ts ps = block_word_takes context b l w ts ps (is_end w)
any_word_takes context (Operands i) w ts ps = tt
any_word_takes context (Condition i l) w ts ps = tt

open_block_takes : (context : Context) (f : Bool) (o : ℕ) (ts : List Terminal) (ps : List Part) → Left (if f then at_condition o (label_of ts).0 (block_type context.types (label_of ts).1) ps else at_group o (label_of ts).0 (block_type context.types (label_of ts).1) ps) (suc (suc (length ts)))
open_block_takes context true o ts ps = at_condition_takes o (label_of ts).0 (block_type context.types (label_of ts).1) ps ts (head_keeps context.types ts)
open_block_takes context false o ts ps = at_group_takes o (label_of ts).0 (block_type context.types (label_of ts).1) ps ts (head_keeps context.types ts)

pub open_by_takes : (context : Context) (o : Option ℕ) (w : List ℕ) (ts : List Terminal) (ps : List Part) → Left (open_by context o (Word w ∷ ts) ts ps) (suc (suc (length ts)))
open_by_takes context (Some o) w ts ps = open_block_takes context (is_if o) o ts ps
open_by_takes context None w ts ps = at_operands_takes (plain context (labels_in ps) (Word w ∷ ts)) ps (Word w ∷ ts) (plain_takes context (labels_in ps) w ts)

then_takes : (context : Context) (d : Bool) (i : Instruction) (l : Label) (w : List ℕ) (ts : List Terminal) (ps : List Part)
    → Left (if d then machine.on_to (i ∷ []) (Then l ∷ ps) ts else open_by context (structured w) (Word w ∷ ts) ts (Condition i l ∷ ps)) (suc (suc (length ts)))
then_takes context true i l w ts ps = omega arith
then_takes context false i l w ts ps = open_by_takes context (structured w) w ts (Condition i l ∷ ps)

folded_takes : (context : Context) (p : Part) (w : List ℕ) (ts : List Terminal) (ps : List Part) → Left (folded_by context p w (Word w ∷ ts) ts ps) (suc (suc (length ts)))
folded_takes context (Condition i l) w ts ps = then_takes context (is_then w) i l w ts ps
folded_takes context Body w ts ps = open_by_takes context (structured w) w ts (Body ∷ ps)
folded_takes context (Block b l) w ts ps = open_by_takes context (structured w) w ts (Block b l ∷ ps)
folded_takes context (Group l) w ts ps = open_by_takes context (structured w) w ts (Group l ∷ ps)
folded_takes context (Operands i) w ts ps = open_by_takes context (structured w) w ts (Operands i ∷ ps)
folded_takes context (Then l) w ts ps = open_by_takes context (structured w) w ts (Then l ∷ ps)
folded_takes context (Else l) w ts ps = open_by_takes context (structured w) w ts (Else l ∷ ps)

open_takes : (context : Context) (p : Part) (ts : List Terminal) (ps : List Part) → Left (open_step context p ts ps) (suc (length ts))
open_takes context p (Word w ∷ ts) ps = folded_takes context p w ts ps
open_takes context p [] ps = tt
open_takes context p (Open ∷ ts) ps = tt
open_takes context p (Close ∷ ts) ps = tt
open_takes context p (Id x ∷ ts) ps = tt
open_takes context p (Integer s n ∷ ts) ps = tt
open_takes context p (Text v ∷ ts) ps = tt
open_takes context p (Float narrow wide ∷ ts) ps = tt
open_takes context p (Other ∷ ts) ps = tt

other_by_takes : (d : Bool) (l : Label) (w : List ℕ) (ts : List Terminal) (ps : List Part) → Left (if d then machine.other_part l ts ps else Err (Unexpected expected.Else, Word w ∷ ts)) (suc (suc (suc (length ts))))
other_by_takes true l w ts ps = omega arith
other_by_takes false l w ts ps = tt

other_takes : (l : Label) (ts : List Terminal) (ps : List Part) → Left (machine.other_step l ts ps) (suc (suc (length ts)))
other_takes l (Word w ∷ ts) ps = other_by_takes (is_else w) l w ts ps
other_takes l [] ps = tt
other_takes l (Open ∷ ts) ps = tt
other_takes l (Close ∷ ts) ps = tt
other_takes l (Id x ∷ ts) ps = tt
other_takes l (Integer s n ∷ ts) ps = tt
other_takes l (Text v ∷ ts) ps = tt
other_takes l (Float narrow wide ∷ ts) ps = tt
other_takes l (Other ∷ ts) ps = tt

then_step_takes : (l : Label) (ts : List Terminal) (ps : List Part) → Left (machine.then_step l ts ps) (suc (length ts))
then_step_takes l (Close ∷ ts) ps = omega arith
then_step_takes l (Open ∷ ts) ps = other_takes l ts ps
then_step_takes l [] ps = tt
then_step_takes l (Word w ∷ ts) ps = tt
then_step_takes l (Id x ∷ ts) ps = tt
then_step_takes l (Integer s n ∷ ts) ps = tt
then_step_takes l (Text v ∷ ts) ps = tt
then_step_takes l (Float narrow wide ∷ ts) ps = tt
then_step_takes l (Other ∷ ts) ps = tt

else_step_takes : (ts : List Terminal) (ps : List Part) → Left (machine.else_step ts ps) (suc (length ts))
else_step_takes (Close ∷ ts) ps = omega arith
else_step_takes [] ps = tt
else_step_takes (Open ∷ ts) ps = tt
else_step_takes (Word w ∷ ts) ps = tt
else_step_takes (Id x ∷ ts) ps = tt
else_step_takes (Integer s n ∷ ts) ps = tt
else_step_takes (Text v ∷ ts) ps = tt
else_step_takes (Float narrow wide ∷ ts) ps = tt
else_step_takes (Other ∷ ts) ps = tt

close_takes : (p : Part) (ts : List Terminal) (ps : List Part) → Left (machine.close_step p (Close ∷ ts) ts ps) (suc (length ts))
close_takes Body ts ps = omega arith
close_takes (Group l) ts ps = omega arith
close_takes (Operands i) ts ps = omega arith
close_takes (Then l) ts ps = then_step_takes l ts ps
close_takes (Else l) ts ps = else_step_takes ts ps
close_takes (Block b l) ts ps = tt
close_takes (Condition i l) ts ps = tt

takes : (context : Context) (p : Part) (ps : List Part) (ts : List Terminal) → Left (step context p ps ts) (length ts)
unfolding step
takes context p ps [] = tt
takes context p ps (Open ∷ ts) = open_takes context p ts ps
takes context p ps (Close ∷ ts) = close_takes p ts ps
takes context p ps (Word w ∷ ts) = any_word_takes context p w ts ps
takes context p ps (Id x ∷ ts) = tt
takes context p ps (Integer s n ∷ ts) = tt
takes context p ps (Text v ∷ ts) = tt
takes context p ps (Float narrow wide ∷ ts) = tt
takes context p ps (Other ∷ ts) = tt

pub step_takes : (context : Context) (p : Part) (ps : List Part) (ts : List Terminal) (s : Step) → step context p ps ts ≡ Ok s → length s.left < length ts
step_takes context p ps ts s e = let K : Result Step Fault → Type 0 = λ q. Left q (length ts) in subst K e (takes context p ps ts)

abbrev pub Goes : Context → Result Step Fault → List Instruction → List Terminal → ℕ → Type 0
Goes context q is r n = (js : List Instruction) × (is ≡ output_of q ++ js) × Lands context q js r × (length (left_of q) < n)

end_is : (w : List ℕ) → is_end w ≡ true → w ≡ codes "end"
end_is w e = (bytes_eq-Decides w (codes "end")).0 e

no_end_else : (v : List ℕ) → is_else v ≡ true → (b : Bool) → is_end v ≡ b → b ≡ false
no_end_else v e true k = let f : is_else v ≡ false = subst (λ u. is_else u ≡ false) (sym (end_is v k)) refl in cc
no_end_else v e false k = refl

else_is : (w : List ℕ) → is_else w ≡ true → w ≡ codes "else"
else_is w e = (bytes_eq-Decides w (codes "else")).0 e

-- what closes a part closes it in one step
closes : (context : Context) (p : Part) (ps : List Part) (us : List Terminal) (es : List Instruction) (vs : List Terminal) (js : List Instruction) (r : List Terminal) → Closed context (labels_in (p ∷ ps)) p us es vs → Completes context ps vs js r → Goes context (step context p ps us) (es ++ js) r (length us)
unfolding step
closes context _ ps _ _ vs js r by_body h = (js, refl, h, omega arith)
closes context _ ps _ _ vs js r by_group h = (js, refl, h, omega arith)
closes context _ ps _ _ vs js r by_operands h = (js, refl, h, omega arith)
closes context _ ps _ _ vs js r (by_block {b = b} {l = l} {v = v} {us = us} e k) h =
    subst (λ d. Goes context (if d then ended (end_label l us) ps else if b && is_else v then step_at_else l (end_label l us) ps else word_by context (structured v) (Word v ∷ us) us (Block b l ∷ ps)) (end ∷ js) r (suc (length us))) (sym e)
    (subst (λ q. Goes context (ended q ps) (end ∷ js) r (suc (length us))) (sym k)
    (js, refl, h, omega (arith, (end_passes l us vs k).short)))
closes context _ ps _ _ vs js r (by_else {l = l} {v = v} {x = x} {us = us} {xs = xs} {ys = ys} {other = other} e k g m q) h =
    subst (λ d. Goes context (if d then ended (end_label l us) ps else if is_else v then step_at_else l (end_label l us) ps else word_by context (structured v) (Word v ∷ us) us (Block true l ∷ ps)) (otherwise ∷ ((other ++ (end ∷ [])) ++ js)) r (suc (length us))) (sym (no_end_else v e (is_end v) refl))
    (subst (λ d. Goes context (if d then step_at_else l (end_label l us) ps else word_by context (structured v) (Word v ∷ us) us (Block true l ∷ ps)) (otherwise ∷ ((other ++ (end ∷ [])) ++ js)) r (suc (length us))) (sym e)
    (subst (λ z. Goes context (step_at_else l z ps) (otherwise ∷ ((other ++ (end ∷ [])) ++ js)) r (suc (length us))) (sym k) (
      other ++ (end ∷ js),
      ap (λ z. otherwise ∷ z) (append_assoc other (end ∷ []) js),
      (other, Word x ∷ ys, end ∷ [], vs, js, g, by_block m q, h, refl),
      omega (arith, (end_passes l us xs k).short),
    )))
closes context _ ps _ _ vs js r by_then h = (js, refl, h, omega arith)
closes context _ ps _ _ vs js r by_otherwise h = (js, refl, h, omega arith)
closes context _ ps _ _ vs js r (by_other {l = l} {e = e} {es = es} {other = other} k g) h =
    subst (λ d. Goes context (if d then machine.other_part l es ps else Err (Unexpected expected.Else, Word e ∷ es)) (otherwise ∷ ((other ++ (end ∷ [])) ++ js)) r (suc (suc (suc (length es))))) (sym k)
    (other ++ (end ∷ js), ap (λ z. otherwise ∷ z) (append_assoc other (end ∷ []) js), (other, Close ∷ Close ∷ vs, end ∷ [], vs, js, g, by_otherwise, h, refl), omega arith)
closes context _ ps _ _ vs js r (by_condition {i = i} {l = l} {t = t} {cs = cs} {body = body} k g) h =
    subst (λ d. Goes context (if d then machine.on_to (i ∷ []) (Then l ∷ ps) cs else open_by context (structured t) (Word t ∷ cs) cs (Condition i l ∷ ps)) (i ∷ ((body ++ (end ∷ [])) ++ js)) r (suc (suc (length cs)))) (sym k)
    (body ++ (end ∷ js), ap (λ z. i ∷ z) (append_assoc body (end ∷ []) js), (body, Close ∷ Close ∷ vs, end ∷ [], vs, js, g, by_then, h, refl), omega arith)
closes context _ ps _ _ vs js r (by_condition_else {i = i} {l = l} {t = t} {e = e} {cs = cs} {es = es} {body = body} {other = other} k g f q) h =
    let els = otherwise ∷ (other ++ (end ∷ [])) in
    subst (λ d. Goes context (if d then machine.on_to (i ∷ []) (Then l ∷ ps) cs else open_by context (structured t) (Word t ∷ cs) cs (Condition i l ∷ ps)) (i ∷ ((body ++ els) ++ js)) r (suc (suc (length cs)))) (sym k)
    (body ++ (els ++ js), ap (λ z. i ∷ z) (append_assoc body els js), (body, Close ∷ Open ∷ Word e ∷ es, els, vs, js, g, by_other f q, h, refl), omega arith)

then_is : (w : List ℕ) → is_then w ≡ true → w ≡ codes "then"
then_is w e = (bytes_eq-Decides w (codes "then")).0 e

end_is_no_plain : (context : Context) (ls : List Label) (ts : List Terminal) → plain context ls (Word (codes "end") ∷ ts) ≡ Err (UnknownWord expected.Instruction, Word (codes "end") ∷ ts)
unfolding plain mnemonics low high prefixed low_vectors high_vectors
end_is_no_plain context ls ts = refl

no_end_plain : (context : Context) (ls : List Label) (w : List ℕ) (ts : List Terminal) (x : Instruction × List Terminal) → plain context ls (Word w ∷ ts) ≡ Ok x → (b : Bool) → is_end w ≡ b → b ≡ false
no_end_plain context ls w ts x e true k =
    let f : plain context ls (Word w ∷ ts) ≡ Err (UnknownWord expected.Instruction, Word w ∷ ts) = subst (λ v. plain context ls (Word v ∷ ts) ≡ Err (UnknownWord expected.Instruction, Word v ∷ ts)) (sym (end_is w k)) (end_is_no_plain context ls ts) in cc
no_end_plain context ls w ts x e false k = refl

no_end_structured : (w : List ℕ) (o : ℕ) → structured w ≡ Some o → (b : Bool) → is_end w ≡ b → b ≡ false
no_end_structured w o e true k = let f : structured w ≡ None = subst (λ v. structured v ≡ None) (sym (end_is w k)) refl in cc
no_end_structured w o e false k = refl

else_is_no_plain : (context : Context) (ls : List Label) (ts : List Terminal) → plain context ls (Word (codes "else") ∷ ts) ≡ Err (UnknownWord expected.Instruction, Word (codes "else") ∷ ts)
unfolding plain mnemonics low high prefixed low_vectors high_vectors
else_is_no_plain context ls ts = refl

no_else_plain : (context : Context) (ls : List Label) (w : List ℕ) (ts : List Terminal) (x : Instruction × List Terminal) → plain context ls (Word w ∷ ts) ≡ Ok x → (b : Bool) → is_else w ≡ b → b ≡ false
no_else_plain context ls w ts x e true k =
    let f : plain context ls (Word w ∷ ts) ≡ Err (UnknownWord expected.Instruction, Word w ∷ ts) = subst (λ v. plain context ls (Word v ∷ ts) ≡ Err (UnknownWord expected.Instruction, Word v ∷ ts)) (sym (else_is w k)) (else_is_no_plain context ls ts) in cc
no_else_plain context ls w ts x e false k = refl

no_else_structured : (w : List ℕ) (o : ℕ) → structured w ≡ Some o → (b : Bool) → is_else w ≡ b → b ≡ false
no_else_structured w o e true k = let f : structured w ≡ None = subst (λ v. structured v ≡ None) (sym (else_is w k)) refl in cc
no_else_structured w o e false k = refl

then_is_no_plain : (context : Context) (ls : List Label) (ts : List Terminal) → plain context ls (Word (codes "then") ∷ ts) ≡ Err (UnknownWord expected.Instruction, Word (codes "then") ∷ ts)
unfolding plain mnemonics low high prefixed low_vectors high_vectors
then_is_no_plain context ls ts = refl

no_then_plain : (context : Context) (ls : List Label) (w : List ℕ) (ts : List Terminal) (x : Instruction × List Terminal) → plain context ls (Word w ∷ ts) ≡ Ok x → (b : Bool) → is_then w ≡ b → b ≡ false
no_then_plain context ls w ts x e true k =
    let f : plain context ls (Word w ∷ ts) ≡ Err (UnknownWord expected.Instruction, Word w ∷ ts) = subst (λ v. plain context ls (Word v ∷ ts) ≡ Err (UnknownWord expected.Instruction, Word v ∷ ts)) (sym (then_is w k)) (then_is_no_plain context ls ts) in cc
no_then_plain context ls w ts x e false k = refl

no_then_structured : (w : List ℕ) (o : ℕ) → structured w ≡ Some o → (b : Bool) → is_then w ≡ b → b ≡ false
no_then_structured w o e true k = let f : structured w ≡ None = subst (λ v. structured v ≡ None) (sym (then_is w k)) refl in cc
no_then_structured w o e false k = refl

goes_on : (b : Bool) (w : List ℕ) (x y z : Result Step Fault) → is_end w ≡ false → is_else w ≡ false → (if is_end w then x else if b && is_else w then y else z) ≡ z
goes_on b w x y z e f = ap (λ d. if d then x else if b && is_else w then y else z) e ∙ ap (λ d. if b && d then y else z) f ∙ neither b
  where
    neither : (b : Bool) → (if b && false then y else z) ≡ z
    neither true = refl
    neither false = refl

word_step_is : (context : Context) (p : Part) (ps : List Part) (w : List ℕ) (ts : List Terminal) → only_folded p ≡ false → is_end w ≡ false → is_else w ≡ false → word_step context p w (Word w ∷ ts) ts ps ≡ word_by context (structured w) (Word w ∷ ts) ts (p ∷ ps)
word_step_is context Body ps w ts k e f = refl
word_step_is context (Group l) ps w ts k e f = refl
word_step_is context (Block b l) ps w ts k e f = goes_on b w (ended (end_label l ts) ps) (step_at_else l (end_label l ts) ps) (word_by context (structured w) (Word w ∷ ts) ts (Block b l ∷ ps)) e f
word_step_is context (Then l) ps w ts k e f = refl
word_step_is context (Else l) ps w ts k e f = refl
word_step_is context (Operands i) ps w ts k e f = cc
word_step_is context (Condition i l) ps w ts k e f = cc

folded_by_is : (context : Context) (p : Part) (ps : List Part) (w : List ℕ) (ts : List Terminal) → is_then w ≡ false → folded_by context p w (Word w ∷ ts) ts ps ≡ open_by context (structured w) (Word w ∷ ts) ts (p ∷ ps)
folded_by_is context (Condition i l) ps w ts e = ap (λ d. if d then machine.on_to (i ∷ []) (Then l ∷ ps) ts else open_by context (structured w) (Word w ∷ ts) ts (Condition i l ∷ ps)) e
folded_by_is context Body ps w ts e = refl
folded_by_is context (Block b l) ps w ts e = refl
folded_by_is context (Group l) ps w ts e = refl
folded_by_is context (Operands i) ps w ts e = refl
folded_by_is context (Then l) ps w ts e = refl
folded_by_is context (Else l) ps w ts e = refl

abbrev Goal : Context → Part → List Part → List Terminal → List Instruction → List Terminal → Type 0
Goal context p ps ts is r = Goes context (step context p ps ts) is r (length ts)

-- a step at a word that is not `end` goes by what the word is
at_word : (context : Context) (p : Part) (ps : List Part) (w : List ℕ) (ts : List Terminal) (is : List Instruction) (r : List Terminal) → only_folded p ≡ false → is_end w ≡ false → is_else w ≡ false → Goes context (word_by context (structured w) (Word w ∷ ts) ts (p ∷ ps)) is r (suc (length ts)) → Goal context p ps (Word w ∷ ts) is r
unfolding step
at_word context p ps w ts is r k e f h = subst (λ q. Goes context q is r (suc (length ts))) (sym (word_step_is context p ps w ts k e f)) h

-- a step at a folded word that is not `then` goes by what the word is
at_folded : (context : Context) (p : Part) (ps : List Part) (w : List ℕ) (ts : List Terminal) (is : List Instruction) (r : List Terminal) → is_then w ≡ false → Goes context (open_by context (structured w) (Word w ∷ ts) ts (p ∷ ps)) is r (suc (suc (length ts))) → Goal context p ps (Open ∷ Word w ∷ ts) is r
unfolding step
at_folded context p ps w ts is r e h = subst (λ q. Goes context q is r (suc (suc (length ts)))) (sym (folded_by_is context p ps w ts e)) h

plain_forth : (context : Context) (p : Part) (ps : List Part) (w : List ℕ) (ts us : List Terminal) (i : Instruction) (js : List Instruction) (r : List Terminal) → only_folded p ≡ false → structured w ≡ None → plain context (labels_in (p ∷ ps)) (Word w ∷ ts) ≡ Ok (i, us) → Completes context (p ∷ ps) us js r → Goal context p ps (Word w ∷ ts) (i ∷ js) r
plain_forth context p ps w ts us i js r k s e h =
    at_word context p ps w ts (i ∷ js) r k (no_end_plain context (labels_in (p ∷ ps)) w ts (i, us) e (is_end w) refl) (no_else_plain context (labels_in (p ∷ ps)) w ts (i, us) e (is_else w) refl)
    (subst (λ o. Goes context (word_by context o (Word w ∷ ts) ts (p ∷ ps)) (i ∷ js) r (suc (length ts))) (sym s)
    (subst (λ q. Goes context (at_plain q (p ∷ ps)) (i ∷ js) r (suc (length ts))) (sym e)
    (js, refl, h, omega (arith, plain_short context (labels_in (p ∷ ps)) w ts i us e))))

block_forth : (context : Context) (p : Part) (ps : List Part) (w : List ℕ) (ts bs : List Terminal) (o : ℕ) (a : Argument) (js : List Instruction) (r : List Terminal) → only_folded p ≡ false → structured w ≡ Some o → block_type context.types (label_of ts).1 ≡ Ok (a, bs) → Completes context (Block (is_if o) (label_of ts).0 ∷ p ∷ ps) bs js r → Goal context p ps (Word w ∷ ts) (instruction o a ∷ js) r
block_forth context p ps w ts bs o a js r k s n h =
    at_word context p ps w ts (instruction o a ∷ js) r k (no_end_structured w o s (is_end w) refl) (no_else_structured w o s (is_else w) refl)
    (subst (λ q. Goes context (word_by context q (Word w ∷ ts) ts (p ∷ ps)) (instruction o a ∷ js) r (suc (length ts))) (sym s)
    (subst (λ q. Goes context (at_block o (label_of ts).0 q (p ∷ ps)) (instruction o a ∷ js) r (suc (length ts))) (sym n)
    (js, refl, h, omega (arith, (head_passes context.types ts bs a n).short))))

operands_forth : (context : Context) (p : Part) (ps : List Part) (w : List ℕ) (ts us : List Terminal) (i : Instruction) (js : List Instruction) (r : List Terminal) → structured w ≡ None → plain context (labels_in (p ∷ ps)) (Word w ∷ ts) ≡ Ok (i, us) → Completes context (Operands i ∷ p ∷ ps) us js r → Goal context p ps (Open ∷ Word w ∷ ts) js r
operands_forth context p ps w ts us i js r s e h =
    at_folded context p ps w ts js r (no_then_plain context (labels_in (p ∷ ps)) w ts (i, us) e (is_then w) refl)
    (subst (λ o. Goes context (open_by context o (Word w ∷ ts) ts (p ∷ ps)) js r (suc (suc (length ts)))) (sym s)
    (subst (λ q. Goes context (at_operands q (p ∷ ps)) js r (suc (suc (length ts)))) (sym e)
    (js, refl, h, omega (arith, plain_short context (labels_in (p ∷ ps)) w ts i us e))))

group_forth : (context : Context) (p : Part) (ps : List Part) (w : List ℕ) (ts bs : List Terminal) (o : ℕ) (a : Argument) (js : List Instruction) (r : List Terminal) → structured w ≡ Some o → is_if o ≡ false → block_type context.types (label_of ts).1 ≡ Ok (a, bs) → Completes context (Group (label_of ts).0 ∷ p ∷ ps) bs js r → Goal context p ps (Open ∷ Word w ∷ ts) (instruction o a ∷ js) r
group_forth context p ps w ts bs o a js r s i n h =
    at_folded context p ps w ts (instruction o a ∷ js) r (no_then_structured w o s (is_then w) refl)
    (subst (λ q. Goes context (open_by context q (Word w ∷ ts) ts (p ∷ ps)) (instruction o a ∷ js) r (suc (suc (length ts)))) (sym s)
    (subst (λ f. Goes context (if f then at_condition o (label_of ts).0 (block_type context.types (label_of ts).1) (p ∷ ps) else at_group o (label_of ts).0 (block_type context.types (label_of ts).1) (p ∷ ps)) (instruction o a ∷ js) r (suc (suc (length ts)))) (sym i)
    (subst (λ q. Goes context (at_group o (label_of ts).0 q (p ∷ ps)) (instruction o a ∷ js) r (suc (suc (length ts)))) (sym n)
    (js, refl, h, omega (arith, (head_passes context.types ts bs a n).short)))))

condition_forth : (context : Context) (p : Part) (ps : List Part) (w : List ℕ) (ts bs : List Terminal) (o : ℕ) (a : Argument) (js : List Instruction) (r : List Terminal) → structured w ≡ Some o → is_if o ≡ true → block_type context.types (label_of ts).1 ≡ Ok (a, bs) → Completes context (Condition (instruction o a) (label_of ts).0 ∷ p ∷ ps) bs js r → Goal context p ps (Open ∷ Word w ∷ ts) js r
condition_forth context p ps w ts bs o a js r s i n h =
    at_folded context p ps w ts js r (no_then_structured w o s (is_then w) refl)
    (subst (λ q. Goes context (open_by context q (Word w ∷ ts) ts (p ∷ ps)) js r (suc (suc (length ts)))) (sym s)
    (subst (λ f. Goes context (if f then at_condition o (label_of ts).0 (block_type context.types (label_of ts).1) (p ∷ ps) else at_group o (label_of ts).0 (block_type context.types (label_of ts).1) (p ∷ ps)) js r (suc (suc (length ts)))) (sym i)
    (subst (λ q. Goes context (at_condition o (label_of ts).0 q (p ∷ ps)) js r (suc (suc (length ts)))) (sym n)
    (js, refl, h, omega (arith, (head_passes context.types ts bs a n).short)))))

parted : (b c d : List Instruction) (i : Instruction) (is : List Instruction) → is ≡ (b ++ (i ∷ c)) ++ d → is ≡ b ++ (i ∷ (c ++ d))
parted b c d i is e = e ∙ append_assoc b (i ∷ c) d

at_stack : (context : Context) (p : Part) (ps : List Part) (ls : List Label) (w : List ℕ) (ts : List Terminal) (x : Instruction × List Terminal) → ls ≡ labels_in (p ∷ ps) → plain context ls (Word w ∷ ts) ≡ Ok x → plain context (labels_in (p ∷ ps)) (Word w ∷ ts) ≡ Ok x
at_stack context p ps ls w ts x e h = subst (λ l. plain context l (Word w ∷ ts) ≡ Ok x) e h

resumed : (context : Context) (p : Part) (ps : List Part) (ls : List Label) (k : Bool) (ts : List Terminal) (b : List Instruction) (us : List Terminal) (es : List Instruction) (vs : List Terminal) (js : List Instruction) (r : List Terminal) → ls ≡ labels_in (p ∷ ps) → only_folded p ≡ k → Instructions context ls k ts b us → Closed context (labels_in (p ∷ ps)) p us es vs → Completes context ps vs js r → Completes context (p ∷ ps) ts (b ++ (es ++ js)) r
resumed context p ps ls k ts b us es vs js r e f h c rest =
    (b, us, es, vs, js, subst (λ l. Instructions context l (only_folded p) ts b us) e (subst (λ f. Instructions context ls f ts b us) (sym f) h), c, rest, refl)

output_eq : (context : Context) (p : Part) (ps : List Part) (ts : List Terminal) (is js : List Instruction) (r : List Terminal) → is ≡ js → Goal context p ps ts js r → Goal context p ps ts is r
output_eq context p ps ts is js r e h = subst (λ x. Goal context p ps ts x r) (sym e) h

forth_by : (context : Context) (p : Part) (ps : List Part) (ls : List Label) (k : Bool) (ts : List Terminal) (b : List Instruction) (us : List Terminal) (es : List Instruction) (vs : List Terminal) (js is : List Instruction) (r : List Terminal) → Instructions context ls k ts b us → ls ≡ labels_in (p ∷ ps) → only_folded p ≡ k → Closed context (labels_in (p ∷ ps)) p us es vs → Completes context ps vs js r → is ≡ b ++ (es ++ js) → Goal context p ps ts is r
forth_by context p ps _ _ _ _ us es vs js is r grammar.by_none e f c rest t = output_eq context p ps us is (es ++ js) r t (closes context p ps us es vs js r c rest)
forth_by context p ps _ _ _ _ us es vs js is r (grammar.by_plain {ls = ls} {w = w} {ts = ts} {us = xs} {i = i} {is = b} s h more) e f c rest t =
    output_eq context p ps (Word w ∷ ts) is (i ∷ (b ++ (es ++ js))) r t
    (plain_forth context p ps w ts xs i (b ++ (es ++ js)) r f s (at_stack context p ps ls w ts (i, xs) e h) (resumed context p ps ls false xs b us es vs js r e f more c rest))
forth_by context p ps _ _ _ _ us es vs js is r (grammar.by_block {ls = ls} {w = w} {v = v} {o = o} {a = a} {ts = ts} {bs = bs} {us = xs} {vs = zs} {body = body} {is = b} s n h g l more) e f c rest t =
    let i = instruction o a in
    output_eq context p ps (Word w ∷ ts) is (i ∷ (body ++ (end ∷ (b ++ (es ++ js))))) r (t ∙ ap (λ x. i ∷ x) (append_assoc body (end ∷ b) (es ++ js)))
    (block_forth context p ps w ts bs o a (body ++ (end ∷ (b ++ (es ++ js)))) r f s n
    (body, Word v ∷ xs, end ∷ [], zs, b ++ (es ++ js), subst (λ x. Instructions context ((label_of ts).0 ∷ x) false bs body (Word v ∷ xs)) e h, by_block g l, resumed context p ps ls false zs b us es vs js r e f more c rest, refl))
forth_by context p ps _ _ _ _ us es vs js is r (grammar.by_if_else {ls = ls} {w = w} {v = v} {x = x} {o = o} {a = a} {ts = ts} {bs = bs} {us = xs} {xs = qs} {ys = ys} {vs = zs} {body = body} {other = other} {is = b} s d n h g l m k q more) e f c rest t =
    let i = instruction o a in
    output_eq context p ps (Word w ∷ ts) is (i ∷ (body ++ (otherwise ∷ ((other ++ (end ∷ [])) ++ (b ++ (es ++ js)))))) r
    (t ∙ ap (λ y. i ∷ y) (append_assoc body (otherwise ∷ (other ++ (end ∷ b))) (es ++ js) ∙ ap (λ y. body ++ (otherwise ∷ y)) (append_assoc other (end ∷ b) (es ++ js) ∙ sym (append_assoc other (end ∷ []) (b ++ (es ++ js))))))
    (block_forth context p ps w ts bs o a (body ++ (otherwise ∷ ((other ++ (end ∷ [])) ++ (b ++ (es ++ js))))) r f s n
    (subst (λ y. Completes context (Block y (label_of ts).0 ∷ p ∷ ps) bs (body ++ (otherwise ∷ ((other ++ (end ∷ [])) ++ (b ++ (es ++ js))))) r) (sym d) (
      body,
      Word v ∷ xs,
      otherwise ∷ (other ++ (end ∷ [])),
      zs,
      b ++ (es ++ js),
      subst (λ y. Instructions context ((label_of ts).0 ∷ y) false bs body (Word v ∷ xs)) e h,
      by_else g l (subst (λ y. Instructions context ((label_of ts).0 ∷ y) false qs other (Word x ∷ ys)) e m) k q,
      resumed context p ps ls false zs b us es vs js r e f more c rest,
      refl,
    )))
forth_by context p ps _ _ _ _ us es vs js is r (grammar.by_folded {ls = ls} {folded = k} {w = w} {ts = ts} {us = xs} {vs = zs} {i = i} {operands = ops} {is = b} s h inner more) e f c rest t =
    output_eq context p ps (Open ∷ Word w ∷ ts) is (ops ++ (i ∷ (b ++ (es ++ js)))) r (parted ops b (es ++ js) i is t)
    (operands_forth context p ps w ts xs i (ops ++ (i ∷ (b ++ (es ++ js)))) r s (at_stack context p ps ls w ts (i, xs) e h)
    (ops, Close ∷ zs, i ∷ [], zs, b ++ (es ++ js), subst (λ x. Instructions context x true xs ops (Close ∷ zs)) e inner, by_operands, resumed context p ps ls k zs b us es vs js r e f more c rest, refl))
forth_by context p ps _ _ _ _ us es vs js is r (grammar.by_folded_block {ls = ls} {folded = k} {w = w} {o = o} {a = a} {ts = ts} {bs = bs} {vs = zs} {body = body} {is = b} s d n inner more) e f c rest t =
    let i = instruction o a in
    output_eq context p ps (Open ∷ Word w ∷ ts) is (i ∷ (body ++ (end ∷ (b ++ (es ++ js))))) r (t ∙ ap (λ x. i ∷ x) (append_assoc body (end ∷ b) (es ++ js)))
    (group_forth context p ps w ts bs o a (body ++ (end ∷ (b ++ (es ++ js)))) r s d n
    (body, Close ∷ zs, end ∷ [], zs, b ++ (es ++ js), subst (λ x. Instructions context ((label_of ts).0 ∷ x) false bs body (Close ∷ zs)) e inner, by_group, resumed context p ps ls k zs b us es vs js r e f more c rest, refl))
forth_by context p ps _ _ _ _ us es vs js is r (grammar.by_folded_if {ls = ls} {folded = k} {w = w} {t = tw} {o = o} {a = a} {ts = ts} {bs = bs} {cs = cs} {vs = zs} {condition = condition} {body = body} {is = b} s d n inner g q more) e f c rest t =
    let i = instruction o a in
    output_eq context p ps (Open ∷ Word w ∷ ts) is (condition ++ ((i ∷ (body ++ (end ∷ []))) ++ (b ++ (es ++ js)))) r
    (t ∙ append_assoc condition (i ∷ (body ++ (end ∷ b))) (es ++ js) ∙ ap (λ x. condition ++ (i ∷ x)) (append_assoc body (end ∷ b) (es ++ js) ∙ sym (append_assoc body (end ∷ []) (b ++ (es ++ js)))))
    (condition_forth context p ps w ts bs o a (condition ++ ((i ∷ (body ++ (end ∷ []))) ++ (b ++ (es ++ js)))) r s d n (
      condition,
      Open ∷ Word tw ∷ cs,
      i ∷ (body ++ (end ∷ [])),
      zs,
      b ++ (es ++ js),
      subst (λ x. Instructions context x true bs condition (Open ∷ Word tw ∷ cs)) e inner,
      by_condition g (subst (λ x. Instructions context ((label_of ts).0 ∷ x) false cs body (Close ∷ Close ∷ zs)) e q),
      resumed context p ps ls k zs b us es vs js r e f more c rest,
      refl,
    ))
forth_by context p ps _ _ _ _ us es vs js is r (grammar.by_folded_if_else {ls = ls} {folded = k} {w = w} {t = tw} {e = ew} {o = o} {a = a} {ts = ts} {bs = bs} {cs = cs} {es = xs} {vs = zs} {condition = condition} {body = body} {other = other} {is = b} s d n inner g q m z more) e f c rest t =
    let i = instruction o a in
    let els = otherwise ∷ (other ++ (end ∷ [])) in
    output_eq context p ps (Open ∷ Word w ∷ ts) is (condition ++ ((i ∷ (body ++ els)) ++ (b ++ (es ++ js)))) r
    (
    t
    ∙ append_assoc condition (i ∷ (body ++ (otherwise ∷ (other ++ (end ∷ b))))) (es ++ js)
    ∙ ap (λ x. condition ++ (i ∷ x)) (
    append_assoc body (otherwise ∷ (other ++ (end ∷ b))) (es ++ js)
    ∙ ap (λ x. body ++ (otherwise ∷ x)) (append_assoc other (end ∷ b) (es ++ js) ∙ sym (append_assoc other (end ∷ []) (b ++ (es ++ js))))
    ∙ sym (append_assoc body els (b ++ (es ++ js)))
    )
    )
    (condition_forth context p ps w ts bs o a (condition ++ ((i ∷ (body ++ els)) ++ (b ++ (es ++ js)))) r s d n (
      condition,
      Open ∷ Word tw ∷ cs,
      i ∷ (body ++ els),
      zs,
      b ++ (es ++ js),
      subst (λ x. Instructions context x true bs condition (Open ∷ Word tw ∷ cs)) e inner,
      by_condition_else g (subst (λ x. Instructions context ((label_of ts).0 ∷ x) false cs body (Close ∷ Open ∷ Word ew ∷ xs)) e q) m (subst (λ x. Instructions context ((label_of ts).0 ∷ x) false xs other (Close ∷ Close ∷ zs)) e z),
      resumed context p ps ls k zs b us es vs js r e f more c rest,
      refl,
    ))

forth : (context : Context) (p : Part) (ps : List Part) (ts : List Terminal) (is : List Instruction) (r : List Terminal) → Completes context (p ∷ ps) ts is r → Goal context p ps ts is r
forth context p ps ts is r (b, us, es, vs, js, h, c, rest, t) = forth_by context p ps (labels_in (p ∷ ps)) (only_folded p) ts b us es vs js is r h refl refl c rest t

-- Whole runs.

abbrev pub Gives : Result (List Instruction × List Terminal) Fault → List Instruction → List Terminal → Type 0
Gives (Ok (js, ts)) is r = (is ≡ js) × (ts ≡ r)
Gives (Err f) is r = ⊥

before : (output : List Instruction) (q : Result (List Instruction × List Terminal) Fault) (is : List Instruction) (r : List Terminal) → Gives (output_before output q) is r → (js : List Instruction) × (is ≡ output ++ js) × Gives q js r
before output (Ok (js, ts)) is r h = (js, h.0, (refl, h.1))
before output (Err f) is r h = absurd h

after : (output : List Instruction) (q : Result (List Instruction × List Terminal) Fault) (is js : List Instruction) (r : List Terminal) → is ≡ output ++ js → Gives q js r → Gives (output_before output q) is r
after output (Ok (ks, ts)) is js r e h = (e ∙ ap (λ x. output ++ x) h.0, h.1)
after output (Err f) is js r e h = absurd h

abbrev pub Sound : Context → ℕ → Type 0
Sound context n = (ps : List Part) (ts : List Terminal) (is : List Instruction) (r : List Terminal) → Gives (run context n ps ts) is r → Completes context ps ts is r

abbrev pub Complete : Context → ℕ → Type 0
Complete context n = (ps : List Part) (ts : List Terminal) (is : List Instruction) (r : List Terminal) → Completes context ps ts is r → length ts < n → Gives (run context n ps ts) is r

pub sound_by : (context : Context) (n : ℕ) → Sound context n → (q : Result Step Fault) (is : List Instruction) (r : List Terminal) → Gives (run_by (run context n) q) is r → (js : List Instruction) × (is ≡ output_of q ++ js) × Lands context q js r
sound_by context n k (Ok s) is r h = let x = before s.output (run context n s.stack s.left) is r h in (x.0, x.1, k s.stack s.left x.0 r x.2)
sound_by context n k (Err f) is r h = absurd h

pub sound : (context : Context) (n : ℕ) → Sound context n
unfolding run
sound context zero [] ts is r h = (h.1, h.0)
sound context zero (p ∷ ps) ts is r h = absurd h
sound context (suc n) [] ts is r h = (h.1, h.0)
sound context (suc n) (p ∷ ps) ts is r h =
    let x = sound_by context n (sound context n) (step context p ps ts) is r h in
    subst (λ y. Completes context (p ∷ ps) ts y r) (sym x.1) (back context p ps ts x.0 r x.2)

pub complete_by : (context : Context) (n m : ℕ) → Complete context n → (q : Result Step Fault) (is : List Instruction) (r : List Terminal) → Goes context q is r m → m ≤ n → Gives (run_by (run context n) q) is r
complete_by context n m k (Ok s) is r (js, e, h, l) g = after s.output (run context n s.stack s.left) is js r e (k s.stack s.left js r h (omega arith))
complete_by context n m k (Err f) is r (js, e, h, l) g = absurd h

pub complete : (context : Context) (n : ℕ) → Complete context n
unfolding run
complete context zero [] ts is r h l = (h.1, h.0)
complete context zero (p ∷ ps) ts is r h l = absurd (omega arith)
complete context (suc n) [] ts is r h l = (h.1, h.0)
complete context (suc n) (p ∷ ps) ts is r h l = complete_by context n (length ts) (complete context n) (step context p ps ts) is r (forth context p ps ts is r h) (omega arith)

pub gives_of : (q : Result (List Instruction × List Terminal) Fault) (is : List Instruction) (r : List Terminal) → q ≡ Ok (is, r) → Gives q is r
gives_of q is r e = let G : Result (List Instruction × List Terminal) Fault → Type 0 = λ q. Gives q is r in subst G (sym e) (refl, refl)

pub of_gives : (q : Result (List Instruction × List Terminal) Fault) (is : List Instruction) (r : List Terminal) → Gives q is r → q ≡ Ok (is, r)
of_gives (Ok (js, ts)) is r h = ap (λ x. Ok (x, ts)) (sym h.0) ∙ ap (λ x. Ok (is, x)) h.1
of_gives (Err f) is r h = absurd h

-- the body alone: its instructions, and then its `)`
whole_of : (context : Context) (ts : List Terminal) (is : List Instruction) (r : List Terminal) (b : List Instruction) (us : List Terminal) (es : List Instruction) (vs : List Terminal) (js : List Instruction) → Instructions context (None ∷ []) false ts b us → Closed context (None ∷ []) Body us es vs → vs ≡ r → js ≡ [] → is ≡ b ++ (es ++ js) → grammar.Body context ts is r
whole_of context ts is r b _ _ vs js h by_body e f t =
    subst (λ x. grammar.Body context ts x r) (sym (t ∙ ap (λ x. b ++ x) f ∙ append-nil b)) (subst (λ x. Instructions context (None ∷ []) false ts b (Close ∷ x)) e h)

pub law : MachineIsGrammar
law context ts is r = (
  λ e. let (b, us, es, vs, js, h, c, rest, t) = sound context (suc (length ts)) (Body ∷ []) ts is r (gives_of _ is r e) in whole_of context ts is r b us es vs js h c rest.0 rest.1 t,
  λ h. of_gives _ is r (complete context (suc (length ts)) (Body ∷ []) ts is r (is, Close ∷ r, [], r, [], h, by_body, (refl, refl), sym (append-nil is)) (omega arith)),
)
