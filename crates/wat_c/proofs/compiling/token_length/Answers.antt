use Rattle.std.proofs.Common.{◌≡◌, ◌∙◌, false, refl, sym, true}
use Rattle.wat_c.specs.Compiling.{LengthAt.inside, LengthAt.lexed}
use Rattle.wat_c.proofs.compiling.token_length.Goals as goal

pub returns-then-not-is_char_boundary : goal.returns-then-not-is_char_boundary
returns-then-not-is_char_boundary c = inside (λ b. let d : false ≡ true = sym c.if-not-is_char_boundary.true ∙ c.is_char_boundary.ensures.test.1 b in cc) refl

pub returns : goal.returns
returns c = lexed c.token_at.result (c.is_char_boundary.ensures.test.0 c.if-not-is_char_boundary.false) c.token_at.ensures.found refl
