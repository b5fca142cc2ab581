use Rattle.std.proofs.Common.{ℕ, List, inl, inr, drop}
use Rattle.std.specs.Prelude.{codes, Result, Ok, Err, OnErr}
use Rattle.std.specs.Str.Pattern.{FindsTextPrefix, StripsPrefix}
use Rattle.wat_tokens_output.specs.Calls.{HasName}
use Rattle.wat_tokens_output.proofs.calls.read_call.Goals as goal

registers : {T E : Type 0} (word name : List ℕ) (r : Result T E) → StripsPrefix (FindsTextPrefix (codes "reg=")) word name → OnErr r (HasName word)
registers word name (Ok x) h = tt
registers word name (Err e) h = (drop h.0 word, inl h.1.1)

unregisters : {T E : Type 0} (word name : List ℕ) (r : Result T E) → StripsPrefix (FindsTextPrefix (codes "unreg=")) word name → OnErr r (HasName word)
unregisters word name (Ok x) h = tt
unregisters word name (Err e) h = (drop h.0 word, inr h.1.1)

pub returns-in_err-from_str-clause-refused : goal.returns-in_err-from_str-clause-refused
returns-in_err-from_str-clause-refused c = registers c.args.word.now c.in-Some.name.now _ c.in-Some.ensures.cases

pub returns-in_err-from_str-2-clause-refused : goal.returns-in_err-from_str-2-clause-refused
returns-in_err-from_str-2-clause-refused c = unregisters c.args.word.now c.in-Some-strip_prefix.name.now _ c.in-Some-strip_prefix.ensures.cases
