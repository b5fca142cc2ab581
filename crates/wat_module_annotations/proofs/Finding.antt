-- A token that is read, and the names of annotations by the items of a text.
use Rattle.std.proofs.Common.{◌≡◌, ◌∙◌, ◌<◌, ◌+◌, ◌-◌, ℕ, Bool, List, refl, sym, ap, subst, arith, Option, Some, Result, Ok, Err, true, false}
use Rattle.std.specs.Prelude.{if◌then◌else◌}
use Rattle.wat_lex.specs.errors.Errors.{Report}
use Rattle.wat_lex.specs.declared.lexer.kinds.Token.{Token}
use Rattle.wat_lexer_parser.specs.parser.State.{Answers, State, peek_at}
use Rattle.wat_lexer_parser.specs.parser.Takers.{allocates_at, taken, token_value_at, token_value_by}
use Rattle.wat_lexer_parser.specs.places.Source.{Source}
use Rattle.wat_lexer_parser.specs.readings.Readings.{refuse, token, token_by, whole}
use Rattle.wat_lexer_parser.specs.lemmas.AnswerLaws.{error_answers}
use Rattle.wat_module_annotations.specs.Items.{Item, all_items, as_other}
use Rattle.wat_module_annotations.specs.Names.{ModuleNames, names_in, names_of_items, no_names}
use Rattle.wat_module_annotations.specs.Renaming.{may_have_names, names_of}
use Rattle.wat_module_annotations.specs.declared.reading.Role.{Role}

pub token_read : (message : List ℕ) (a : State) (t : Token) (q : ℕ) (p : Role) → peek_at a ≡ Ok (Some (t, q)) → as_other a.source.setting.text t t.kind ≡ Some (Ok p) → a.place < q
    → ((token as_other message a).answer ≡ Ok p) × (a.place + (token as_other message a).passed ≡ q)
token_read message a t q p h k on =
    let e : token_value_at as_other a ≡ Ok (Some (p, q)) = ap (taken as_other a.source.setting.text) h ∙ ap (token_value_by q) k in
    let o = ap (λ r. token_by r (allocates_at as_other a) (refuse message a) a.place) e in
    let n : (token as_other message a).passed ≡ q - a.place = ap (λ o. o.passed) o in
    (ap (λ o. o.answer) o, omega (arith, n, on))

pub nothing_named : (s : Source) → may_have_names s.setting.text ≡ false → names_of s ≡ Ok no_names
unfolding names_of
nothing_named s e = ap (λ b. if b then names_of_items s.setting.text (whole all_items s) else Ok no_names) e

pub something_named : (s : Source) → may_have_names s.setting.text ≡ true → names_of s ≡ names_of_items s.setting.text (whole all_items s)
unfolding names_of
something_named s e = ap (λ b. if b then names_of_items s.setting.text (whole all_items s) else Ok no_names) e

pub found_fault : {T U : Type 0} (takes : Bool) (f : T → List Item) (g : U → ModuleNames) (s : Source) (e : Option Report) → may_have_names s.setting.text ≡ true → Answers {T = T} takes f (whole all_items s) (Err e) → Answers {T = U} true g (names_of s) (Err e)
found_fault {T} {U} takes f g s e k h = subst (λ m. Answers {T = U} true g m (Err e)) (sym (something_named s k)) (error_answers {T = T} {U = U} takes f g (names_of_items s.setting.text) (whole all_items s) e (λ r. refl) h)

pub found : {U : Type 0} (g : U → ModuleNames) (s : Source) (text : List ℕ) (is : List Item) (r : Result U (Option Report)) → may_have_names s.setting.text ≡ true → s.setting.text ≡ text → whole all_items s ≡ Ok is
    → Answers {T = U} true g (names_in text is) r → Answers {T = U} true g (names_of s) r
found {U} g s text is r k e h a =
    subst (λ m. Answers {T = U} true g m r) (sym (something_named s k ∙ ap (names_of_items s.setting.text) h ∙ ap (λ x. names_in x is) e)) a
