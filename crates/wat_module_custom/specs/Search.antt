-- WebAssembly 3.0, 6.2.5 (annotations), and custom annotations proposal: an annotation begins with `(@` and its name, which
-- may be a string, without whitespace between these. By their first bytes a text is searched for annotations before it is
-- read for them.
use Rattle.std.specs.Prelude.{ℕ, ◌==◌, ◌||◌, Bool, false, List, [], ◌∷◌, codes}
use Rattle.std.specs.List.{starts_with}
use Rattle.wat_module_custom.specs.declared.search.Sought.{Sought}
use Rattle.wat_module_custom.specs.declared.search.Sought.TheVariants as sought

-- Returns `true` if a text begins with these bytes.
abbrev pub begins_with : List ℕ → List ℕ → Bool
begins_with word text = starts_with (λ a b. a == b) text word

-- Returns `true` if a text begins with `(@` and a name that is sought.
abbrev pub begins_sought : Sought → List ℕ → Bool
begins_sought sought.Customs text = begins_with (codes "(@custom") text
begins_sought sought.Names text = begins_with (codes "(@name") text
begins_sought sought.Either text = begins_with (codes "(@custom") text || begins_with (codes "(@name") text

-- Returns `true` if an annotation that is sought may be at the beginning of a text: it begins with such a name, or with `(@"`.
abbrev pub may_begin : Sought → List ℕ → Bool
may_begin s text = begins_sought s text || begins_with (codes "(@\"") text

-- Returns `true` if an annotation that is sought may begin at a byte of the text.
unfoldable pub may_have : Sought → List ℕ → Bool
may_have s [] = false
may_have s (b ∷ bs) = may_begin s (b ∷ bs) || may_have s bs
