-- A token that is read, and the custom sections by the items of a text.
use Rattle.std.proofs.Common.{◌≡◌, ◌∙◌, ◌<◌, ◌+◌, ◌-◌, ℕ, Bool, List, [], refl, sym, ap, subst, arith, Option, Some, Result, Ok, Err, true, false}
use Rattle.std.specs.Prelude.{if◌then◌else◌}
use Rattle.wat_lex.specs.errors.Errors.{Report}
use Rattle.wat_lex.specs.declared.lexer.kinds.Token.{Token}
use Rattle.wat_lexer_parser.specs.parser.State.{Answers, State, peek_at}
use Rattle.wat_lexer_parser.specs.parser.Takers.{allocates_at, taken, token_value_at, token_value_by}
use Rattle.wat_lexer_parser.specs.places.Source.{Source}
use Rattle.wat_lexer_parser.specs.readings.Readings.{refuse, token, token_by, whole}
use Rattle.wat_lexer_parser.specs.lemmas.AnswerLaws.{error_answers}
use Rattle.wat_module_custom.specs.Customs.{CustomSection, Item, all_items, as_piece, custom_sections, may_have_customs, placed, placed_by, sections_in}
use Rattle.wat_module_custom.specs.declared.reading.Piece.{Piece}

pub piece_read : (message : List ℕ) (a : State) (t : Token) (q : ℕ) (p : Piece) → peek_at a ≡ Ok (Some (t, q)) → as_piece a.source.setting.text t t.kind ≡ Some (Ok p) → a.place < q
    → ((token as_piece message a).answer ≡ Ok p) × (a.place + (token as_piece message a).passed ≡ q)
piece_read message a t q p h k on =
    let e : token_value_at as_piece a ≡ Ok (Some (p, q)) = ap (taken as_piece a.source.setting.text) h ∙ ap (token_value_by q) k in
    let o = ap (λ r. token_by r (allocates_at as_piece a) (refuse message a) a.place) e in
    let n : (token as_piece message a).passed ≡ q - a.place = ap (λ o. o.passed) o in
    (ap (λ o. o.answer) o, omega (arith, n, on))

pub no_customs : (s : Source) → may_have_customs s.setting.text ≡ false → custom_sections s ≡ Ok []
unfolding custom_sections
no_customs s e = ap (λ b. if b then placed s.setting.text (whole all_items s) else Ok []) e

pub some_customs : (s : Source) → may_have_customs s.setting.text ≡ true → custom_sections s ≡ placed s.setting.text (whole all_items s)
unfolding custom_sections
some_customs s e = ap (λ b. if b then placed s.setting.text (whole all_items s) else Ok []) e

pub found_fault : {T U : Type 0} (takes : Bool) (f : T → List Item) (g : U → List CustomSection) (s : Source) (e : Option Report) → may_have_customs s.setting.text ≡ true → Answers {T = T} takes f (whole all_items s) (Err e) → Answers {T = U} true g (custom_sections s) (Err e)
found_fault {T} {U} takes f g s e k h = subst (λ m. Answers {T = U} true g m (Err e)) (sym (some_customs s k)) (error_answers {T = T} {U = U} takes f g (placed s.setting.text) (whole all_items s) e (λ r. refl) h)

pub found : {U : Type 0} (g : U → List CustomSection) (s : Source) (text : List ℕ) (is : List Item) (r : Result U (Option Report)) → may_have_customs s.setting.text ≡ true → s.setting.text ≡ text → whole all_items s ≡ Ok is
    → Answers {T = U} true g (placed_by text (sections_in is)) r → Answers {T = U} true g (custom_sections s) r
found {U} g s text is r k e h a =
    subst (λ m. Answers {T = U} true g m r) (sym (some_customs s k ∙ ap (placed s.setting.text) h ∙ ap (λ x. placed_by x (sections_in is)) e)) a
