use Rattle.std.proofs.Common.{◌≡◌, ◌≤◌, ◌++◌, drop, map, None, replicate}
use Rattle.wat_module_instructions.specs.Indices.{labels_of}
use Rattle.wat_module_tokens.specs.Terminals.{label}
use Rattle.wat_module_instructions.proofs.names.runs_of.Given as goal

abbrev pub invariant-loop-name : goal.invariant-loop-name
invariant-loop-name l = record {
  are : map label l.names ≡ labels_of l.runs.items ++ (replicate l.unnamed None ++ map label (drop l.name-index l.names));
  few : l.unnamed ≤ l.name-index;
}
