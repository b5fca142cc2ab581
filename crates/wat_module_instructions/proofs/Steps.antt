-- What the code's steps come to together.
use Rattle.std.proofs.Common.{◌≡◌, ◌<◌, ℕ, zero, suc, List, [], ◌∷◌, ◌++◌, length, Ok, refl, sym, ap, subst, ◌∙◌, arith, append_assoc, append-nil}
use Rattle.wat_module_ast.specs.declared.instruction.Instruction.{Instruction}
use Rattle.wat_module_ast.specs.declared.error.ParseFailure.{ParseFailure}
use Rattle.wat_module_ast.specs.declared.error.ParseFailure.TheVariants.{Text, Memory}
use Rattle.wat_module_tokens.specs.Terminals.{Terminal}
use Rattle.wat_module_ast.specs.Grammar.{Context}
use Rattle.wat_module_instructions.specs.Machine.{Part, Body, step, run, run_by, output_before}
use Rattle.wat_module_instructions.specs.Parts.{Faults, RunsInto, RunsTo, Stepped}
use Rattle.wat_module_instructions.proofs.Runs.{step_takes}

pub none_open : (context : Context) (ts : List Terminal) (out : List Instruction) → RunsTo context [] ts out out ts
unfolding run
none_open context ts out zero h = absurd (omega arith)
none_open context ts out (suc n) h = ([], refl, sym (append-nil out))

pub step_on : (context : Context) (p : Part) (ps qs : List Part) (ts us left : List Terminal) (before mid after : List Instruction) → Stepped (step context p ps ts) before mid qs us → RunsTo context qs us mid after left → RunsTo context (p ∷ ps) ts before after left
unfolding run
step_on context p ps qs ts us left before mid after s k zero h = absurd (omega arith)
step_on context p ps qs ts us left before mid after s k (suc n) h =
    let x = k n (omega (arith, step_takes context p ps ts _ s.is)) in
    (s.output ++ x.0, ap (run_by (run context n)) s.is ∙ ap (output_before s.output) x.1, x.2 ∙ ap (λ a. a ++ x.0) s.follows ∙ append_assoc before s.output x.0)

pub step_into : (context : Context) (p : Part) (ps : List Part) (ts : List Terminal) (e : ParseFailure) → Faults (step context p ps ts) e → RunsInto context (p ∷ ps) ts e
unfolding run
step_into context p ps ts e s zero h = absurd (omega arith)
step_into context p ps ts (Text f) s (suc n) h = ap (run_by (run context n)) s
step_into context p ps ts (Memory a) s (suc n) h = tt

pub step_on_into : (context : Context) (p : Part) (ps qs : List Part) (ts us : List Terminal) (before mid : List Instruction) (e : ParseFailure) → Stepped (step context p ps ts) before mid qs us → RunsInto context qs us e → RunsInto context (p ∷ ps) ts e
unfolding run
step_on_into context p ps qs ts us before mid e s k zero h = absurd (omega arith)
step_on_into context p ps qs ts us before mid (Text f) s k (suc n) h =
    ap (run_by (run context n)) s.is ∙ ap (output_before s.output) (k n (omega (arith, step_takes context p ps ts _ s.is)))
step_on_into context p ps qs ts us before mid (Memory a) s k (suc n) h = tt

pub takes_one : (context : Context) (p : Part) (ps qs : List Part) (before after : List Instruction) (ts us : List Terminal) → Stepped (step context p ps ts) before after qs us → length us < length ts
takes_one context p ps qs before after ts us s = step_takes context p ps ts _ s.is

pub onto : (context : Context) (p : Part) (os ps qs : List Part) (ts us left : List Terminal) (before mid after : List Instruction) → os ≡ p ∷ ps → Stepped (step context p ps ts) before mid qs us → RunsTo context qs us mid after left → RunsTo context os ts before after left
onto context p os ps qs ts us left before mid after e s k = subst (λ o. RunsTo context o ts before after left) (sym e) (step_on context p ps qs ts us left before mid after s k)

pub into : (context : Context) (p : Part) (os ps : List Part) (ts : List Terminal) (r : ParseFailure) → os ≡ p ∷ ps → Faults (step context p ps ts) r → RunsInto context os ts r
into context p os ps ts r e s = subst (λ o. RunsInto context o ts r) (sym e) (step_into context p ps ts r s)

pub onto_into : (context : Context) (p : Part) (os ps qs : List Part) (ts us : List Terminal) (before mid : List Instruction) (r : ParseFailure) → os ≡ p ∷ ps → Stepped (step context p ps ts) before mid qs us → RunsInto context qs us r → RunsInto context os ts r
onto_into context p os ps qs ts us before mid r e s k = subst (λ o. RunsInto context o ts r) (sym e) (step_on_into context p ps qs ts us before mid r s k)

pub over : (context : Context) (os : List Part) (ts : List Terminal) (out : List Instruction) → os ≡ [] → RunsTo context os ts out out ts
over context os ts out e = subst (λ o. RunsTo context o ts out out ts) (sym e) (none_open context ts out)

-- a whole run of a body, from nothing output
pub begun : (context : Context) (os : List Part) (m : ℕ) (ts left : List Terminal) (before after : List Instruction) → os ≡ Body ∷ [] → before ≡ [] → length ts < m → RunsTo context os ts before after left → run context m (Body ∷ []) ts ≡ Ok (after, left)
begun context os m ts left before after e b h k =
    let x = k m h in ap (λ o. run context m o ts) (sym e) ∙ x.1 ∙ ap (λ y. Ok (y, left)) (sym (x.2 ∙ ap (λ y. y ++ x.0) b))

pub begun_into : (context : Context) (os : List Part) (m : ℕ) (ts : List Terminal) (r : ParseFailure) → os ≡ Body ∷ [] → length ts < m → RunsInto context os ts r → Faults (run context m (Body ∷ []) ts) r
begun_into context os m ts r e h k = subst (λ o. Faults (run context m o ts) r) e (k m h)

pub enough : (ts : List Terminal) → length ts < suc (length ts)
enough ts = omega arith
