-- Machine and grammar agree on one folded instruction.
use Rattle.std.proofs.Common.{◌≡◌, ◌<◌, ◌≤◌, ℕ, zero, suc, Bool, true, false, List, [], ◌∷◌, ◌++◌, length, Option, Some, None, Result, Ok, Err, refl, sym, ap, subst, ◌∙◌, arith, append-nil}
use Rattle.std.specs.Prelude.{if◌then◌else◌}
use Rattle.wat_module_ast.specs.declared.instruction.Argument.{Argument}
use Rattle.wat_module_ast.specs.declared.instruction.Instruction.{Instruction}
use Rattle.wat_module_ast.specs.declared.error.ParseFailure.{ParseFailure}
use Rattle.wat_module_ast.specs.declared.error.ParseFailure.TheVariants as refusal
use Rattle.wat_module_instructions.specs.Parts.{Faults, RunsInto, RunsTo, Stepped}
use Rattle.wat_module_tokens.specs.Terminals.{Terminal, Open, Close, Word, Id, Integer, Text, Float, Other, Label}
use Rattle.wat_module_ast.specs.Grammar.{Context, Fault, Folded, Instructions, past, plain, label_of, structured, is_else, is_then, is_if, block_type, instruction, end, otherwise}
use Rattle.wat_module_ast.specs.Grammar as grammar
use Rattle.wat_module_instructions.specs.Machine.{Part, Group, Operands, Condition, Step, run, run_by, output_before, folded, first_step, open_by, at_operands, at_group, at_condition}
use Rattle.wat_module_instructions.specs.Law.{FoldedIsGrammar}
use Rattle.wat_module_instructions.proofs.Passing.{balanced, taken, head_passes, end_passes, plain_passes, plain_short}
use Rattle.wat_module_instructions.proofs.Runs.{Closed, by_operands, by_group, by_condition, by_condition_else, Lands, Goes, Left, open_by_takes, output_of, sound, sound_by, complete, complete_by, gives_of, of_gives}

-- a folded instruction after its `(`
data One (context : Context) : List Terminal → List Instruction → List Terminal → Type 0 where
  of_operands : {w : List ℕ} {ts us r : List Terminal} {i : Instruction} {operands : List Instruction} → structured w ≡ None → plain context [] (Word w ∷ ts) ≡ Ok (i, us) → Instructions context [] true us operands (Close ∷ r) → One context (Word w ∷ ts) (operands ++ (i ∷ [])) r
  of_group : {w : List ℕ} {ts bs r : List Terminal} {o : ℕ} {a : Argument} {body : List Instruction} → structured w ≡ Some o → is_if o ≡ false → block_type context.types (label_of ts).1 ≡ Ok (a, bs) → Instructions context ((label_of ts).0 ∷ []) false bs body (Close ∷ r) → One context (Word w ∷ ts) (instruction o a ∷ (body ++ (end ∷ []))) r
  of_if : {w t : List ℕ} {ts bs cs r : List Terminal} {o : ℕ} {a : Argument} {condition body : List Instruction} → structured w ≡ Some o → is_if o ≡ true → block_type context.types (label_of ts).1 ≡ Ok (a, bs) → Instructions context [] true bs condition (Open ∷ Word t ∷ cs) → is_then t ≡ true
      → Instructions context ((label_of ts).0 ∷ []) false cs body (Close ∷ Close ∷ r) → One context (Word w ∷ ts) (condition ++ (instruction o a ∷ (body ++ (end ∷ [])))) r
  of_if_else : {w t e : List ℕ} {ts bs cs es r : List Terminal} {o : ℕ} {a : Argument} {condition body other : List Instruction} → structured w ≡ Some o → is_if o ≡ true → block_type context.types (label_of ts).1 ≡ Ok (a, bs) → Instructions context [] true bs condition (Open ∷ Word t ∷ cs) → is_then t ≡ true
      → Instructions context ((label_of ts).0 ∷ []) false cs body (Close ∷ Open ∷ Word e ∷ es) → is_else e ≡ true → Instructions context ((label_of ts).0 ∷ []) false es other (Close ∷ Close ∷ r) → One context (Word w ∷ ts) (condition ++ (instruction o a ∷ (body ++ (otherwise ∷ (other ++ (end ∷ [])))))) r

-- From the first step.

operands_end : (context : Context) (w : List ℕ) (ts us : List Terminal) (i : Instruction) → structured w ≡ None → plain context [] (Word w ∷ ts) ≡ Ok (i, us) → (is : List Instruction) (r : List Terminal) (b : List Instruction) (zs : List Terminal) (es : List Instruction) (vs : List Terminal) (js : List Instruction)
    → Instructions context [] true us b zs → Closed context [] (Operands i) zs es vs → vs ≡ r → js ≡ [] → is ≡ b ++ (es ++ js) → One context (Word w ∷ ts) is r
operands_end context w ts us i s p is r b _ _ vs js h by_operands e f t =
    subst (λ x. One context (Word w ∷ ts) x r) (sym (t ∙ ap (λ x. b ++ (i ∷ x)) f)) (of_operands s p (subst (λ x. Instructions context [] true us b (Close ∷ x)) e h))

group_end : (context : Context) (w : List ℕ) (ts bs : List Terminal) (o : ℕ) (a : Argument) → structured w ≡ Some o → is_if o ≡ false → block_type context.types (label_of ts).1 ≡ Ok (a, bs) → (is : List Instruction) (r : List Terminal) (b : List Instruction) (zs : List Terminal) (es : List Instruction) (vs : List Terminal) (js : List Instruction)
    → Instructions context ((label_of ts).0 ∷ []) false bs b zs → Closed context ((label_of ts).0 ∷ []) (Group (label_of ts).0) zs es vs → vs ≡ r → js ≡ [] → is ≡ b ++ (es ++ js) → One context (Word w ∷ ts) (instruction o a ∷ is) r
group_end context w ts bs o a s n k is r b _ _ vs js h by_group e f t =
    subst (λ x. One context (Word w ∷ ts) (instruction o a ∷ x) r) (sym (t ∙ ap (λ x. b ++ (end ∷ x)) f)) (of_group s n k (subst (λ x. Instructions context ((label_of ts).0 ∷ []) false bs b (Close ∷ x)) e h))

condition_end : (context : Context) (w : List ℕ) (ts bs : List Terminal) (o : ℕ) (a : Argument) → structured w ≡ Some o → is_if o ≡ true → block_type context.types (label_of ts).1 ≡ Ok (a, bs) → (is : List Instruction) (r : List Terminal) (b : List Instruction) (zs : List Terminal) (es : List Instruction) (vs : List Terminal) (js : List Instruction)
    → Instructions context [] true bs b zs → Closed context [] (Condition (instruction o a) (label_of ts).0) zs es vs → vs ≡ r → js ≡ [] → is ≡ b ++ (es ++ js) → One context (Word w ∷ ts) is r
condition_end context w ts bs o a s n k is r b _ _ vs js h (by_condition {cs = cs} {body = body} d g) e f t =
    subst (λ x. One context (Word w ∷ ts) x r) (sym (t ∙ ap (λ x. b ++ ((instruction o a ∷ (body ++ (end ∷ []))) ++ x)) f ∙ ap (λ x. b ++ x) (append-nil (instruction o a ∷ (body ++ (end ∷ []))))))
    (of_if s n k h d (subst (λ x. Instructions context ((label_of ts).0 ∷ []) false cs body (Close ∷ Close ∷ x)) e g))
condition_end context w ts bs o a s n k is r b _ _ vs js h (by_condition_else {es = xs} {body = body} {other = other} d g m q) e f t =
    subst (λ x. One context (Word w ∷ ts) x r) (sym (t ∙ ap (λ x. b ++ ((instruction o a ∷ (body ++ (otherwise ∷ (other ++ (end ∷ []))))) ++ x)) f ∙ ap (λ x. b ++ x) (append-nil (instruction o a ∷ (body ++ (otherwise ∷ (other ++ (end ∷ []))))))))
    (of_if_else s n k h d g m (subst (λ x. Instructions context ((label_of ts).0 ∷ []) false xs other (Close ∷ Close ∷ x)) e q))

at_operands_end : (context : Context) (w : List ℕ) (ts : List Terminal) → structured w ≡ None → (q : Result (Instruction × List Terminal) Fault) → plain context [] (Word w ∷ ts) ≡ q → (is : List Instruction) (r : List Terminal) → Lands context (at_operands q []) is r → One context (Word w ∷ ts) (output_of (at_operands q []) ++ is) r
at_operands_end context w ts s (Ok (i, us)) k is r (b, zs, es, vs, js, h, c, rest, t) = operands_end context w ts us i s k is r b zs es vs js h c rest.0 rest.1 t
at_operands_end context w ts s (Err f) k is r h = absurd h

at_group_end : (context : Context) (w : List ℕ) (ts : List Terminal) (o : ℕ) → structured w ≡ Some o → is_if o ≡ false → (q : Result (Argument × List Terminal) Fault) → block_type context.types (label_of ts).1 ≡ q → (is : List Instruction) (r : List Terminal) → Lands context (at_group o (label_of ts).0 q []) is r → One context (Word w ∷ ts) (output_of (at_group o (label_of ts).0 q []) ++ is) r
at_group_end context w ts o s n (Ok (a, bs)) k is r (b, zs, es, vs, js, h, c, rest, t) = group_end context w ts bs o a s n k is r b zs es vs js h c rest.0 rest.1 t
at_group_end context w ts o s n (Err f) k is r h = absurd h

at_condition_end : (context : Context) (w : List ℕ) (ts : List Terminal) (o : ℕ) → structured w ≡ Some o → is_if o ≡ true → (q : Result (Argument × List Terminal) Fault) → block_type context.types (label_of ts).1 ≡ q → (is : List Instruction) (r : List Terminal) → Lands context (at_condition o (label_of ts).0 q []) is r → One context (Word w ∷ ts) (output_of (at_condition o (label_of ts).0 q []) ++ is) r
at_condition_end context w ts o s n (Ok (a, bs)) k is r (b, zs, es, vs, js, h, c, rest, t) = condition_end context w ts bs o a s n k is r b zs es vs js h c rest.0 rest.1 t
at_condition_end context w ts o s n (Err f) k is r h = absurd h

abbrev open_at : Context → ℕ → Bool → List Terminal → Result Step Fault
open_at context o f ts = if f then at_condition o (label_of ts).0 (block_type context.types (label_of ts).1) [] else at_group o (label_of ts).0 (block_type context.types (label_of ts).1) []

block_end : (context : Context) (w : List ℕ) (ts : List Terminal) (o : ℕ) → structured w ≡ Some o → (f : Bool) → is_if o ≡ f → (is : List Instruction) (r : List Terminal) → Lands context (open_at context o f ts) is r → One context (Word w ∷ ts) (output_of (open_at context o f ts) ++ is) r
block_end context w ts o s true n is r h = at_condition_end context w ts o s n (block_type context.types (label_of ts).1) refl is r h
block_end context w ts o s false n is r h = at_group_end context w ts o s n (block_type context.types (label_of ts).1) refl is r h

word_end : (context : Context) (w : List ℕ) (ts : List Terminal) (o : Option ℕ) → structured w ≡ o → (is : List Instruction) (r : List Terminal) → Lands context (open_by context o (Word w ∷ ts) ts []) is r → One context (Word w ∷ ts) (output_of (open_by context o (Word w ∷ ts) ts []) ++ is) r
word_end context w ts (Some o) s is r h = block_end context w ts o s (is_if o) refl is r h
word_end context w ts None s is r h = at_operands_end context w ts s (plain context [] (Word w ∷ ts)) refl is r h

first_end : (context : Context) (ts : List Terminal) (is : List Instruction) (r : List Terminal) → Lands context (first_step context ts) is r → One context ts (output_of (first_step context ts) ++ is) r
first_end context (Word w ∷ ts) is r h = word_end context w ts (structured w) refl is r h
first_end context [] is r h = absurd h
first_end context (Open ∷ ts) is r h = absurd h
first_end context (Close ∷ ts) is r h = absurd h
first_end context (Id x ∷ ts) is r h = absurd h
first_end context (Integer s n ∷ ts) is r h = absurd h
first_end context (Text v ∷ ts) is r h = absurd h
first_end context (Float narrow wide ∷ ts) is r h = absurd h
first_end context (Other ∷ ts) is r h = absurd h

-- To the first step.

first_goes : (context : Context) (ts : List Terminal) (is : List Instruction) (r : List Terminal) → One context ts is r → Goes context (first_step context ts) is r (suc (length ts))
first_goes context _ _ r (of_operands {w = w} {ts = ts} {us = us} {i = i} {operands = operands} s p h) =
    subst (λ o. Goes context (open_by context o (Word w ∷ ts) ts []) (operands ++ (i ∷ [])) r (suc (suc (length ts)))) (sym s)
    (subst (λ q. Goes context (at_operands q []) (operands ++ (i ∷ [])) r (suc (suc (length ts)))) (sym p)
    (operands ++ (i ∷ []), refl, (operands, Close ∷ r, i ∷ [], r, [], h, by_operands, (refl, refl), refl), omega (arith, plain_short context [] w ts i us p)))
first_goes context _ _ r (of_group {w = w} {ts = ts} {bs = bs} {o = o} {a = a} {body = body} s n k h) =
    subst (λ x. Goes context (open_by context x (Word w ∷ ts) ts []) (instruction o a ∷ (body ++ (end ∷ []))) r (suc (suc (length ts)))) (sym s)
    (subst (λ f. Goes context (open_at context o f ts) (instruction o a ∷ (body ++ (end ∷ []))) r (suc (suc (length ts)))) (sym n)
    (subst (λ q. Goes context (at_group o (label_of ts).0 q []) (instruction o a ∷ (body ++ (end ∷ []))) r (suc (suc (length ts)))) (sym k)
    (body ++ (end ∷ []), refl, (body, Close ∷ r, end ∷ [], r, [], h, by_group, (refl, refl), refl), omega (arith, (head_passes context.types ts bs a k).short))))
first_goes context _ _ r (of_if {w = w} {t = t} {ts = ts} {bs = bs} {cs = cs} {o = o} {a = a} {condition = condition} {body = body} s n k h d g) =
    let i = instruction o a in
    let es = i ∷ (body ++ (end ∷ [])) in
    subst (λ x. Goes context (open_by context x (Word w ∷ ts) ts []) (condition ++ es) r (suc (suc (length ts)))) (sym s)
    (subst (λ f. Goes context (open_at context o f ts) (condition ++ es) r (suc (suc (length ts)))) (sym n)
    (subst (λ q. Goes context (at_condition o (label_of ts).0 q []) (condition ++ es) r (suc (suc (length ts)))) (sym k)
    (condition ++ es, refl, (condition, Open ∷ Word t ∷ cs, es, r, [], h, by_condition d g, (refl, refl), ap (λ x. condition ++ x) (sym (append-nil es))), omega (arith, (head_passes context.types ts bs a k).short))))
first_goes context _ _ r (of_if_else {w = w} {t = t} {e = e} {ts = ts} {bs = bs} {cs = cs} {es = xs} {o = o} {a = a} {condition = condition} {body = body} {other = other} s n k h d g m q) =
    let i = instruction o a in
    let es = i ∷ (body ++ (otherwise ∷ (other ++ (end ∷ [])))) in
    subst (λ x. Goes context (open_by context x (Word w ∷ ts) ts []) (condition ++ es) r (suc (suc (length ts)))) (sym s)
    (subst (λ f. Goes context (open_at context o f ts) (condition ++ es) r (suc (suc (length ts)))) (sym n)
    (subst (λ z. Goes context (at_condition o (label_of ts).0 z []) (condition ++ es) r (suc (suc (length ts)))) (sym k)
    (condition ++ es, refl, (condition, Open ∷ Word t ∷ cs, es, r, [], h, by_condition_else d g m q, (refl, refl), ap (λ x. condition ++ x) (sym (append-nil es))), omega (arith, (head_passes context.types ts bs a k).short))))

-- One folded instruction is folded instructions up to the `)` of its `(`.

to_grammar : (context : Context) (ts : List Terminal) (is : List Instruction) (r : List Terminal) → One context ts is r → Folded context (Open ∷ ts) is r
to_grammar context _ _ r (of_operands {w = w} {ts = ts} {us = us} {i = i} {operands = operands} s p h) = grammar.by_group (grammar.by_folded s p h grammar.by_none) (sym ((plain_passes context [] w ts i us p).same 0 ∙ balanced context [] true us operands (Close ∷ r) h 0))
to_grammar context _ _ r (of_group {w = w} {ts = ts} {bs = bs} {a = a} {body = body} s n k h) =
    grammar.by_group (grammar.by_folded_block s n k h grammar.by_none) (sym ((head_passes context.types ts bs a k).same 0 ∙ balanced context ((label_of ts).0 ∷ []) false bs body (Close ∷ r) h 0))
to_grammar context _ _ r (of_if {w = w} {t = t} {ts = ts} {bs = bs} {cs = cs} {a = a} {condition = condition} {body = body} s n k h d g) =
    grammar.by_group (grammar.by_folded_if s n k h d g grammar.by_none)
    (sym ((head_passes context.types ts bs a k).same 0 ∙ balanced context [] true bs condition (Open ∷ Word t ∷ cs) h 0 ∙ balanced context ((label_of ts).0 ∷ []) false cs body (Close ∷ Close ∷ r) g 1))
to_grammar context _ _ r (of_if_else {w = w} {t = t} {e = e} {ts = ts} {bs = bs} {cs = cs} {es = es} {a = a} {condition = condition} {body = body} {other = other} s n k h d g m q) =
    grammar.by_group (grammar.by_folded_if_else s n k h d g m q grammar.by_none)
    (
    sym ((head_passes context.types ts bs a k).same 0 ∙ balanced context [] true bs condition (Open ∷ Word t ∷ cs) h 0 ∙ balanced context ((label_of ts).0 ∷ []) false cs body (Close ∷ Open ∷ Word e ∷ es) g 1 ∙ balanced context ((label_of ts).0 ∷ []) false es other (Close ∷ Close ∷ r) q 1)
    )

past_short : (d : ℕ) (ts : List Terminal) → length (past d ts) ≤ length ts
past_short d [] = omega arith
past_short d (Open ∷ ts) = omega (arith, past_short (suc d) ts)
past_short zero (Close ∷ ts) = omega arith
past_short (suc d) (Close ∷ ts) = omega (arith, past_short d ts)
past_short zero (Word w ∷ ts) = omega (arith, past_short zero ts)
past_short (suc d) (Word w ∷ ts) = omega (arith, past_short (suc d) ts)
past_short zero (Id x ∷ ts) = omega (arith, past_short zero ts)
past_short (suc d) (Id x ∷ ts) = omega (arith, past_short (suc d) ts)
past_short zero (Integer s n ∷ ts) = omega (arith, past_short zero ts)
past_short (suc d) (Integer s n ∷ ts) = omega (arith, past_short (suc d) ts)
past_short zero (Text v ∷ ts) = omega (arith, past_short zero ts)
past_short (suc d) (Text v ∷ ts) = omega (arith, past_short (suc d) ts)
past_short zero (Float narrow wide ∷ ts) = omega (arith, past_short zero ts)
past_short (suc d) (Float narrow wide ∷ ts) = omega (arith, past_short (suc d) ts)
past_short zero (Other ∷ ts) = omega (arith, past_short zero ts)
past_short (suc d) (Other ∷ ts) = omega (arith, past_short (suc d) ts)

-- instructions that take no tokens are none
nothing : (context : Context) (ls : List Label) (k : Bool) (ts : List Terminal) (is : List Instruction) (r : List Terminal) → Instructions context ls k ts is r → length r ≡ length ts → is ≡ []
nothing context _ _ _ _ r grammar.by_none e = refl
nothing context _ _ _ _ r (grammar.by_plain {ls = ls} {w = w} {ts = ts} {us = us} {i = i} {is = is} s h more) e = let a = plain_short context ls w ts i us h in let z = taken context ls false us is r more in absurd (omega arith)
nothing context _ _ _ _ r (grammar.by_block {ls = ls} {w = w} {v = v} {a = a} {ts = ts} {bs = bs} {us = us} {vs = vs} {body = body} {is = is} s n h q l more) e =
    let a' = (head_passes context.types ts bs a n).short in let b = taken context ((label_of ts).0 ∷ ls) false bs body (Word v ∷ us) h in let c = (end_passes (label_of ts).0 us vs l).short in let z = taken context ls false vs is r more in absurd (omega arith)
nothing context _ _ _ _ r (grammar.by_if_else {ls = ls} {w = w} {v = v} {x = x} {a = a} {ts = ts} {bs = bs} {us = us} {xs = xs} {ys = ys} {vs = vs} {body = body} {other = other} {is = is} s i n h q l k f m more) e =
    let a' = (head_passes context.types ts bs a n).short in
    let b = taken context ((label_of ts).0 ∷ ls) false bs body (Word v ∷ us) h in
    let c = (end_passes (label_of ts).0 us xs l).short in
    let d = taken context ((label_of ts).0 ∷ ls) false xs other (Word x ∷ ys) k in
    let g = (end_passes (label_of ts).0 ys vs m).short in let z = taken context ls false vs is r more in absurd (omega arith)
nothing context _ _ _ _ r (grammar.by_folded {ls = ls} {folded = k} {w = w} {ts = ts} {us = us} {vs = vs} {i = i} {operands = operands} {is = is} s h inner more) e =
    let a = plain_short context ls w ts i us h in let b = taken context ls true us operands (Close ∷ vs) inner in let z = taken context ls k vs is r more in absurd (omega arith)
nothing context _ _ _ _ r (grammar.by_folded_block {ls = ls} {folded = k} {w = w} {a = a} {ts = ts} {bs = bs} {vs = vs} {body = body} {is = is} s i n inner more) e =
    let a' = (head_passes context.types ts bs a n).short in let b = taken context ((label_of ts).0 ∷ ls) false bs body (Close ∷ vs) inner in let z = taken context ls k vs is r more in absurd (omega arith)
nothing context _ _ _ _ r (grammar.by_folded_if {ls = ls} {folded = x} {w = w} {t = t} {a = a} {ts = ts} {bs = bs} {cs = cs} {vs = vs} {condition = condition} {body = body} {is = is} s i n inner k g more) e =
    let a' = (head_passes context.types ts bs a n).short in
    let b = taken context ls true bs condition (Open ∷ Word t ∷ cs) inner in let c = taken context ((label_of ts).0 ∷ ls) false cs body (Close ∷ Close ∷ vs) g in let z = taken context ls x vs is r more in absurd (omega arith)
nothing context _ _ _ _ r (grammar.by_folded_if_else {ls = ls} {folded = x} {w = w} {t = t} {e = v} {a = a} {ts = ts} {bs = bs} {cs = cs} {es = es} {vs = vs} {condition = condition} {body = body} {other = other} {is = is} s i n inner k g f o more) e =
    let a' = (head_passes context.types ts bs a n).short in
    let b = taken context ls true bs condition (Open ∷ Word t ∷ cs) inner in
    let c = taken context ((label_of ts).0 ∷ ls) false cs body (Close ∷ Open ∷ Word v ∷ es) g in
    let d = taken context ((label_of ts).0 ∷ ls) false es other (Close ∷ Close ∷ vs) o in let z = taken context ls x vs is r more in absurd (omega arith)

-- the tokens after the first group, where it is one instruction and there are more
more_none : (context : Context) (ls : List Label) (k : Bool) (vs : List Terminal) (is : List Instruction) (r : List Terminal) → Instructions context ls k vs is r → r ≡ vs → is ≡ []
more_none context ls k vs is r h e = nothing context ls k vs is r h (ap length e)

abbrev tail_of : List Terminal → List Terminal
tail_of [] = []
tail_of (t ∷ ts) = ts

of_tokens : (context : Context) (ls : List Label) (k : Bool) (xs : List Terminal) (is : List Instruction) (r ts : List Terminal) → Instructions context ls k xs is r → ls ≡ [] → k ≡ true → xs ≡ Open ∷ ts → r ≡ past 0 ts → One context ts is r
of_tokens context _ _ _ _ r ts grammar.by_none a b e p = let l = past_short 0 ts in let x : length r ≡ suc (length ts) = ap length e in let y : length r ≡ length (past 0 ts) = ap length p in absurd (omega arith)
of_tokens context _ _ _ _ r ts (grammar.by_plain s h more) a b e p = cc
of_tokens context _ _ _ _ r ts (grammar.by_block s n h q l more) a b e p = cc
of_tokens context _ _ _ _ r ts (grammar.by_if_else s i n h q l k f m more) a b e p = cc
of_tokens context _ _ _ _ r ts (grammar.by_folded {ls = ls} {folded = k} {w = w} {ts = us} {us = xs} {vs = vs} {i = i} {operands = operands} {is = is} s h inner more) a b e p =
    let t : Word w ∷ us ≡ ts = ap tail_of e in
    let v : past 0 ts ≡ vs = ap (past 0) (sym t) ∙ (plain_passes context ls w us i xs h).same 0 ∙ balanced context ls true xs operands (Close ∷ vs) inner 0 in
    let n = more_none context ls k vs is r more (p ∙ v) in
    subst (λ x. One context x (operands ++ (i ∷ is)) r) t
    (subst (λ x. One context (Word w ∷ us) (operands ++ (i ∷ x)) r) (sym n)
    (of_operands s (subst (λ x. plain context x (Word w ∷ us) ≡ Ok (i, xs)) a h) (subst (λ x. Instructions context x true xs operands (Close ∷ r)) a (subst (λ x. Instructions context ls true xs operands (Close ∷ x)) (sym (p ∙ v)) inner))))
of_tokens context _ _ _ _ r ts (grammar.by_folded_block {ls = ls} {folded = k} {w = w} {o = o} {a = arg} {ts = us} {bs = bs} {vs = vs} {body = body} {is = is} s f n inner more) a b e p =
    let t : Word w ∷ us ≡ ts = ap tail_of e in
    let l = (label_of us).0 in
    let v : past 0 ts ≡ vs = ap (past 0) (sym t) ∙ (head_passes context.types us bs arg n).same 0 ∙ balanced context (l ∷ ls) false bs body (Close ∷ vs) inner 0 in
    let m = more_none context ls k vs is r more (p ∙ v) in
    subst (λ x. One context x (instruction o arg ∷ (body ++ (end ∷ is))) r) t
    (subst (λ x. One context (Word w ∷ us) (instruction o arg ∷ (body ++ (end ∷ x))) r) (sym m)
    (of_group s f n (subst (λ x. Instructions context (l ∷ x) false bs body (Close ∷ r)) a (subst (λ x. Instructions context (l ∷ ls) false bs body (Close ∷ x)) (sym (p ∙ v)) inner))))
of_tokens context _ _ _ _ r ts (grammar.by_folded_if {ls = ls} {folded = k} {w = w} {t = tw} {o = o} {a = arg} {ts = us} {bs = bs} {cs = cs} {vs = vs} {condition = condition} {body = body} {is = is} s f n inner d g more) a b e p =
    let t : Word w ∷ us ≡ ts = ap tail_of e in
    let l = (label_of us).0 in
    let v : past 0 ts ≡ vs = ap (past 0) (sym t) ∙ (head_passes context.types us bs arg n).same 0 ∙ balanced context ls true bs condition (Open ∷ Word tw ∷ cs) inner 0 ∙ balanced context (l ∷ ls) false cs body (Close ∷ Close ∷ vs) g 1 in
    let m = more_none context ls k vs is r more (p ∙ v) in
    subst (λ x. One context x (condition ++ (instruction o arg ∷ (body ++ (end ∷ is)))) r) t
    (subst (λ x. One context (Word w ∷ us) (condition ++ (instruction o arg ∷ (body ++ (end ∷ x)))) r) (sym m)
    (of_if s f n (subst (λ x. Instructions context x true bs condition (Open ∷ Word tw ∷ cs)) a inner) d (subst (λ x. Instructions context (l ∷ x) false cs body (Close ∷ Close ∷ r)) a (subst (λ x. Instructions context (l ∷ ls) false cs body (Close ∷ Close ∷ x)) (sym (p ∙ v)) g))))
of_tokens context _ _ _ _ r ts (grammar.by_folded_if_else {ls = ls} {folded = k} {w = w} {t = tw} {e = ew} {o = o} {a = arg} {ts = us} {bs = bs} {cs = cs} {es = es} {vs = vs} {condition = condition} {body = body} {other = other} {is = is} s f n inner d g q z more) a b e p =
    let t : Word w ∷ us ≡ ts = ap tail_of e in
    let l = (label_of us).0 in
    let v : past 0 ts ≡ vs =
    ap (past 0) (sym t) ∙ (head_passes context.types us bs arg n).same 0 ∙ balanced context ls true bs condition (Open ∷ Word tw ∷ cs) inner 0 ∙ balanced context (l ∷ ls) false cs body (Close ∷ Open ∷ Word ew ∷ es) g 1 ∙ balanced context (l ∷ ls) false es other (Close ∷ Close ∷ vs) z 1 in
    let m = more_none context ls k vs is r more (p ∙ v) in
    subst (λ x. One context x (condition ++ (instruction o arg ∷ (body ++ (otherwise ∷ (other ++ (end ∷ is)))))) r) t
    (subst (λ x. One context (Word w ∷ us) (condition ++ (instruction o arg ∷ (body ++ (otherwise ∷ (other ++ (end ∷ x)))))) r) (sym m)
    (of_if_else s f n (subst (λ x. Instructions context x true bs condition (Open ∷ Word tw ∷ cs)) a inner) d (subst (λ x. Instructions context (l ∷ x) false cs body (Close ∷ Open ∷ Word ew ∷ es)) a g) q (subst (λ x. Instructions context (l ∷ x) false es other (Close ∷ Close ∷ r)) a (subst (λ x. Instructions context (l ∷ ls) false es other (Close ∷ Close ∷ x)) (sym (p ∙ v)) z))))

of_grammar : (context : Context) (xs : List Terminal) (is : List Instruction) (r ts : List Terminal) → Folded context xs is r → xs ≡ Open ∷ ts → One context ts is r
of_grammar context _ is r us (grammar.by_group {ts = ts} h p) e = of_tokens context [] true (Open ∷ ts) is r us h refl refl e (p ∙ ap (past 0) (ap tail_of e))

-- Whole runs.

pub law : FoldedIsGrammar
law context ts is r = (
  λ e. let x = sound_by context (suc (length ts)) (sound context (suc (length ts))) (first_step context ts) is r (gives_of _ is r e) in to_grammar context ts is r (subst (λ y. One context ts y r) (sym x.1) (first_end context ts x.0 r x.2)),
  λ h. of_gives _ is r (complete_by context (suc (length ts)) (suc (length ts)) (complete context (suc (length ts))) (first_step context ts) is r (first_goes context ts is r (of_grammar context (Open ∷ ts) is r ts h refl)) (omega arith)),
)

-- The code.

first_takes : (context : Context) (ts : List Terminal) → Left (first_step context ts) (suc (length ts))
first_takes context (Word w ∷ ts) = open_by_takes context (structured w) w ts []
first_takes context [] = tt
first_takes context (Open ∷ ts) = tt
first_takes context (Close ∷ ts) = tt
first_takes context (Id x ∷ ts) = tt
first_takes context (Integer s n ∷ ts) = tt
first_takes context (Text v ∷ ts) = tt
first_takes context (Float narrow wide ∷ ts) = tt
first_takes context (Other ∷ ts) = tt

first_short : (context : Context) (ts : List Terminal) (s : Step) → first_step context ts ≡ Ok s → length s.left < suc (length ts)
first_short context ts s e = let K : Result Step Fault → Type 0 = λ q. Left q (suc (length ts)) in subst K e (first_takes context ts)

-- a whole run, from nothing output
pub begun_folded : (context : Context) (qs : List Part) (ts us left : List Terminal) (before mid after : List Instruction) → before ≡ [] → Stepped (first_step context ts) before mid qs us → RunsTo context qs us mid after left → folded context ts ≡ Ok (after, left)
begun_folded context qs ts us left before mid after b s k =
    let x = k (suc (length ts)) (first_short context ts _ s.is) in
    ap (run_by (run context (suc (length ts)))) s.is ∙ ap (output_before s.output) x.1 ∙ ap (λ y. Ok (y, left)) (sym (x.2 ∙ ap (λ y. y ++ x.0) (s.follows ∙ ap (λ y. y ++ s.output) b)))

pub begun_folded_into : (context : Context) (qs : List Part) (ts us : List Terminal) (before mid : List Instruction) (r : ParseFailure) → Stepped (first_step context ts) before mid qs us → RunsInto context qs us r → Faults (folded context ts) r
begun_folded_into context qs ts us before mid (refusal.Text f) s k = ap (run_by (run context (suc (length ts)))) s.is ∙ ap (output_before s.output) (k (suc (length ts)) (first_short context ts _ s.is))
begun_folded_into context qs ts us before mid (refusal.Memory m) s k = tt
