-- The loop over the tokens of parameters and locals.
use Rattle.std.proofs.Common.{◌≡◌, ◌∙◌, Bool, true, false, List, [], ◌∷◌, ◌++◌, append_assoc, append-nil, sym, ap, refl}
use Rattle.std.specs.Prelude.{if◌then◌else◌}
use Rattle.wat_module_parser.specs.Places.{is_variable, variable_names}
use Rattle.wat_module_tokens.specs.Terminals.{Terminal}

none : variable_names [] ≡ []
unfolding variable_names
none = refl

at_token : (t : Terminal) (ts : List Terminal) → variable_names (t ∷ ts) ≡ (if is_variable t then ts ∷ variable_names ts else variable_names ts)
unfolding variable_names
at_token t ts = refl

by_token : (t : Terminal) (ts : List Terminal) (b : Bool) → is_variable t ≡ b → variable_names (t ∷ ts) ≡ (if b then ts ∷ variable_names ts else variable_names ts)
by_token t ts b e = at_token t ts ∙ ap (λ (b : Bool). if b then ts ∷ variable_names ts else variable_names ts) e

pub kept : (all before : List (List Terminal)) (left : List Terminal) (t : Terminal) (rest : List Terminal) → all ≡ before ++ variable_names left → left ≡ t ∷ rest → is_variable t ≡ true → all ≡ (before ++ rest ∷ []) ++ variable_names rest
kept all before left t rest h e v = h ∙ ap (λ ts. before ++ variable_names ts) e ∙ ap (λ xs. before ++ xs) (by_token t rest true v) ∙ sym (append_assoc before (rest ∷ []) (variable_names rest))

pub skipped : (all before : List (List Terminal)) (left : List Terminal) (t : Terminal) (rest : List Terminal) → all ≡ before ++ variable_names left → left ≡ t ∷ rest → is_variable t ≡ false → all ≡ before ++ variable_names rest
skipped all before left t rest h e v = h ∙ ap (λ ts. before ++ variable_names ts) e ∙ ap (λ xs. before ++ xs) (by_token t rest false v)

pub last : (all before : List (List Terminal)) (left : List Terminal) → all ≡ before ++ variable_names left → left ≡ [] → all ≡ before
last all before left h e = h ∙ ap (λ ts. before ++ variable_names ts) e ∙ ap (λ xs. before ++ xs) none ∙ append-nil before
