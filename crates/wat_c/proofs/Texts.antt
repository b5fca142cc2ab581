-- The bytes of a number's digits, whether or not they were rewritten.
use Rattle.std.proofs.Common.{◌≡◌, ℕ, List}
use Rattle.std.specs.Prelude.{Bool, true, false}
use Rattle.std.specs.Cow.{cow_str_bytes}
use Rattle.std.specs.declared.borrow.CowStr.{CowStr}
use Rattle.wat_lex.specs.values.NumberValues.{IsText}

pub bytes_of_text : {Z : Type 0} (again : Bool) (digits : List ℕ) (text : CowStr Z) → IsText again digits text → cow_str_bytes text ≡ digits
bytes_of_text true digits text h = h.0
bytes_of_text false digits text h = h.0
