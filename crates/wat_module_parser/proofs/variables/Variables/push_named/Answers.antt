use Rattle.std.proofs.Common.{◌≡◌, ◌∙◌, ◌-◌, ◌∷◌, ◌++◌, [], Some, ap, arith, length, length-append, None, replicate}
use Rattle.std.proofs.lemmas.List.{length-replicate}
use Rattle.wat_module_ast.specs.Fields.{variable}
use Rattle.wat_module_instructions.specs.Indices.{labels_of}
use Rattle.wat_module_instructions.specs.declared.names.NameRun.TheVariants.{Given}
use Rattle.wat_module_tokens.specs.Terminals.{Label}
use Rattle.wat_module_parser.specs.NamedTypes.{variables_of}
use Rattle.wat_module_parser.proofs.VariableLists as lists
use Rattle.wat_module_parser.proofs.variables.Variables.push_named.Goals as goal

pub returns : goal.returns
returns c =
    let runs = c.self.inside.names.items in
    let types = c.self.inside.types.items in
    let n = c.len-count.result - c.self.inside.named in
    let few = c.self.invariant in
    let ok = c.self.inside.types.ok in
    let is = c.len-count.ensures in
    let padded = c.in_ok-push_unnamed.ensures.appended in
    let all : length (labels_of c.push_unnamed.new.names.items) ≡ length types =
    let k = ap length padded ∙ length-append (labels_of runs) (replicate n None) in
    let m = length-replicate {A = Label} n None in
    omega (arith, few.0, few.1, ok, is, k, m) in
    ap (λ xs. variables_of (labels_of xs) c.push.new.self.items) c.in_ok-push-2.ensures.items
    ∙ ap (λ ls. variables_of ls c.push.new.self.items) (lists.pushed c.push_unnamed.new.names.items (Given c.args.name))
    ∙ ap (λ ts. variables_of (labels_of c.push_unnamed.new.names.items ++ Some c.args.name.now ∷ []) ts) c.in_ok-push.ensures.items
    ∙ lists.push_label (labels_of c.push_unnamed.new.names.items) types (Some c.args.name.now) c.args.of all
    ∙ ap (λ vs. vs ++ variable (Some c.args.name.now) c.args.of ∷ []) (ap (λ ls. variables_of ls types) padded ∙ lists.padded (labels_of runs) n types ∙ c.self.view_is)
