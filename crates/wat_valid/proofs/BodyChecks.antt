-- The body of a function in its context.
use Rattle.std.proofs.Common.{◌≡◌, ◌∙◌, ℕ, List, [], ◌∷◌, Option, Some, None, sym, subst}
use Rattle.wat_module_ast.specs.declared.instruction.ValueType.{ValueType}
use Rattle.wat_module_ast.specs.Fields.{Function}
use Rattle.wat_module_ast.specs.Types.{FunctionType}
use Rattle.wat_valid.specs.declared.body.BodyContext.{BodyContext}
use Rattle.wat_valid.specs.declared.code.Cause.TheVariants as cause
use Rattle.wat_valid.specs.ContextViews.{BodyOf, body_context}
use Rattle.wat_valid.specs.Contexts.{Context, use_type}
use Rattle.wat_valid.specs.FirstErrors.{BodyFails, ErrorAt}
use Rattle.wat_valid.specs.Instructions.{Expression}
use Rattle.wat_valid.specs.Modules.{function_context}

same_type : (o : Option FunctionType) (t u : FunctionType) → o ≡ Some t → o ≡ Some u → t ≡ u
same_type o t u e f = let k = sym e ∙ f in cc

-- the body is valid for each type that the function has
abbrev pub IsValidBody : Context → Function → Type 0
IsValidBody C f = (t : FunctionType) → use_type C.types f.uses ≡ Some t → Expression (function_context C t f.locals) (t.results ∷ []) f.body t.results

pub without_type : (C : Context) (f : Function) → use_type C.types f.uses ≡ None → IsValidBody C f
without_type C f e t u = let k = sym e ∙ u in cc

pub valid_body : (C : Context) (f : Function) (b : BodyContext) → BodyOf C f b → Expression (body_context b) (b.results.now ∷ []) f.body b.results.now → IsValidBody C f
valid_body C f b k e t u =
    subst (λ (x : FunctionType). Expression (function_context C x f.locals) (x.results ∷ []) f.body x.results) (same_type (use_type C.types f.uses) k.type t k.uses u)
    (subst (λ (r : List ValueType). Expression (function_context C k.type f.locals) (r ∷ []) f.body r) k.results
    (subst (λ (D : Context). Expression D (b.results.now ∷ []) f.body b.results.now) k.context e))

pub failing_body : (C : Context) (f : Function) (b : BodyContext) (i : ℕ) → BodyOf C f b → ErrorAt (body_context b) f.body b.results.now i → BodyFails C f (cause.Body i)
failing_body C f b i k e = (
  k.type,
  k.uses,
  subst (λ (r : List ValueType). ErrorAt (function_context C k.type f.locals) f.body r i) k.results (subst (λ (D : Context). ErrorAt D f.body b.results.now i) k.context e),
)
