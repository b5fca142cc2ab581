-- Digits from the first on, by whether a digit is right before.
use Rattle.std.proofs.Common.{◌≡◌, ℕ, Bool, true, false, List, [], ◌∷◌, refl, ◌∙◌}
use Rattle.std.specs.Prelude.{if◌then◌else◌, ◌&&◌, ◌==◌}
use Rattle.wat_lex.specs.grammar.Classes.{underscore}
use Rattle.wat_lex.specs.grammar.Numbers.{is_digit}
use Rattle.wat_module_ast.specs.Memory.{are_digits}

abbrev pub digits_from : Bool → Bool → List ℕ → Bool
digits_from hex after [] = after
digits_from hex after (c ∷ cs) = if after && c == underscore then digits_from hex false cs else if is_digit hex c then digits_from hex true cs else false

both : (b x y : Bool) → x ≡ y → (if b then x else false) ≡ (b && y)
both true x y e = e
both false x y e = refl

split : (b x y z w : Bool) → x ≡ z → y ≡ w → (if b then x else y) ≡ (if b then z else w)
split true x y z w e f = e
split false x y z w e f = f

pub from_first : (hex : Bool) (cs : List ℕ) → digits_from hex false cs ≡ are_digits hex cs
from_first hex [] = refl
from_first hex (c ∷ []) = both (is_digit hex c) true true refl ∙ and_true (is_digit hex c)
  where
    and_true : (b : Bool) → (b && true) ≡ b
    and_true true = refl
    and_true false = refl
from_first hex (c ∷ d ∷ cs) =
    both (is_digit hex c) (digits_from hex true (d ∷ cs)) (if d == underscore then are_digits hex cs else are_digits hex (d ∷ cs))
    (split (d == underscore) (digits_from hex false cs) (digits_from hex false (d ∷ cs)) (are_digits hex cs) (are_digits hex (d ∷ cs)) (from_first hex cs) (from_first hex (d ∷ cs)))
