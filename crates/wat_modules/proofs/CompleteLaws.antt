-- The module and what its annotations define are unique, and the binary without custom sections and annotations.
use Rattle.std.proofs.Common.{◌≡◌, ◌∙◌, ℕ, List, [], ◌∷◌, ◌++◌, refl, sym, ap, ap₂, subst, append-nil, map, Bool, true, false, Option, Some, None, Result, Ok, Err}
use Rattle.std.specs.Prelude.{◌||◌, codes, if◌then◌else◌}
use Rattle.wat_lex.specs.declared.lexer.kinds.Token.{Token}
use Rattle.wat_lex.specs.errors.Errors.{Report}
use Rattle.wat_lex.specs.tokens.EverySetting.{TilingsAreUnique}
use Rattle.wat_lex.specs.tokens.Tiling.{MaximalTiling}
use Rattle.wat_lexer_parser.specs.laws.ShownLaws.{AllShownIsOne}
use Rattle.wat_lexer_parser.specs.declared.parser.fault.Fault.{Fault}
use Rattle.wat_lexer_parser.specs.parser.State.{Answers}
use Rattle.wat_lexer_parser.specs.places.Source.{Source}
use Rattle.wat_lexer_parser.specs.readings.Readings.{whole}
use Rattle.wat_module_ast.specs.Fields.{Field}
use Rattle.wat_module_annotations.specs.Items.{all_items as annotations_items}
use Rattle.wat_module_annotations.specs.Names.{ModuleNames, names_of_items, no_names}
use Rattle.wat_module_annotations.specs.Renaming.{HasNames, may_have_names, names_of, plain as names_plain, renamed}
use Rattle.wat_module_ast.specs.Grammar as grammar
use Rattle.wat_module_custom.specs.Customs.{CustomSection, all_items, custom_sections, may_have_customs, placed, plain as custom_plain}
use Rattle.wat_module_custom.specs.Search.{begins_with, may_have}
use Rattle.wat_module_custom.specs.declared.search.Sought.TheVariants as sought
use Rattle.wat_module_custom.specs.Customs as custom
use Rattle.wat_module_custom.specs.declared.sections.Place.{Place}
use Rattle.wat_module_custom.specs.declared.sections.Place.TheVariants.{AfterLast, Around, BeforeFirst}
use Rattle.wat_module_custom.specs.declared.sections.Anchor.{Anchor}
use Rattle.wat_module_custom.specs.declared.sections.Anchor.TheVariants as anchor
use Rattle.wat_module_custom.specs.declared.sections.Side.TheVariants.{After, Before}
use Rattle.wat_module_encoder.specs.Binary.{code_section, data_count_section, data_section, element_section, export_section, function_section, global_section, header, import_section, memory_section, module_bytes, start_section, table_section, type_section}
use Rattle.wat_module_encoder.specs.CustomSections.{complete_bytes, customs_at, first_sections, last_sections, middle_sections, with_section}
use Rattle.wat_module_encoder.specs.NameSection.{name_section}
use Rattle.wat_module_lexer.specs.TokenTerminals.{terminal_of}
use Rattle.wat_module_parser.specs.Law.{ReadingIsGrammar}
use Rattle.wat_module_parser.specs.Reading as reading
use Rattle.wat_module_tokens.specs.Terminals.{Label}
use Rattle.wat_modules.proofs.Answering.{one_module, shows_one}
use Rattle.wat_modules.specs.Compiling.{AnnotationsDefine, Complete, CompleteIsNamed, CompleteIsOne, DenotesModule, DenotesNamed, Named, Sections, UnannotatedIsNamed, annotations, both, compiled_by, compiled_complete, compiled_named, compiled_tokens, finished, fitted, module_name, named_fields, named_module}

-- ---- uniqueness

source_is : (s t : Source) → s.setting ≡ t.setting → s.track ≡ t.track → s.tokens ≡ t.tokens → s.ending ≡ t.ending → s ≡ t
source_is s t e f g h = λ i. record { setting = e i; track = f i; tokens = g i; ending = h i }

one_customs : TilingsAreUnique → (text : List ℕ) (r q : Result (List CustomSection) Report) → custom.HasSections text r → custom.HasSections text q → r ≡ q
one_customs tilings text r q h k =
    let s = h.source in
    let t = k.source in
    let first = subst (λ x. MaximalTiling x 0 s.tokens s.ending) h.setting h.read in
    let second = subst (λ x. MaximalTiling x 0 t.tokens t.ending) k.setting k.read in
    let same = tilings (custom_plain text) 0 s.tokens t.tokens s.ending t.ending first second in
    h.are ∙ ap custom_sections (source_is s t (h.setting ∙ sym k.setting) (h.track ∙ sym k.track) same.0 same.1) ∙ sym k.are

one_names : TilingsAreUnique → (text : List ℕ) (r q : Result ModuleNames Report) → HasNames text r → HasNames text q → r ≡ q
one_names tilings text r q h k =
    let s = h.source in
    let t = k.source in
    let first = subst (λ x. MaximalTiling x 0 s.tokens s.ending) h.setting h.read in
    let second = subst (λ x. MaximalTiling x 0 t.tokens t.ending) k.setting k.read in
    let same = tilings (names_plain text) 0 s.tokens t.tokens s.ending t.ending first second in
    h.are ∙ ap names_of (source_is s t (h.setting ∙ sym k.setting) (h.track ∙ sym k.track) same.0 same.1) ∙ sym k.are

pub one_sections : TilingsAreUnique → (text : List ℕ) (r q : Sections) → AnnotationsDefine text r → AnnotationsDefine text q → r ≡ q
one_sections tilings text r q h k =
    let c = one_customs tilings text h.customs k.customs h.has_customs k.has_customs in
    let n = one_names tilings text h.names k.names h.has_names k.has_names in
    h.are ∙ (λ i. both (c i) (n i)) ∙ sym k.are

module_of : (text : List ℕ) (l : Label) (fs : List Field) → DenotesNamed text l fs → DenotesModule text fs
module_of text l fs d = record { terminals = d.terminals; shown = d.shown; spelled = d.spelled }

pub one_named : TilingsAreUnique → AllShownIsOne → ReadingIsGrammar → (text : List ℕ) (l m : Label) (fs gs : List Field) → DenotesNamed text l fs → DenotesNamed text m gs → (l ≡ m) × (fs ≡ gs)
one_named tilings one law text l m fs gs h k =
    let e = shows_one tilings one text h.shown.tokens k.shown.tokens None None h.shown.shown k.shown.shown in
    let t : h.terminals ≡ k.terminals = h.shown.are ∙ ap (map (terminal_of text)) e.0 ∙ sym k.shown.are in
    (sym h.named ∙ ap module_name t ∙ k.named, one_module tilings one law text fs gs (module_of text l fs h) (module_of text m gs k))

abbrev customs_of : List CustomSection → Sections → List CustomSection
customs_of cs (Ok a) = a.customs
customs_of cs (Err r) = cs

abbrev names_in : ModuleNames → Sections → ModuleNames
names_in ns (Ok a) = a.names
names_in ns (Err r) = ns

pub one_complete : TilingsAreUnique → AllShownIsOne → ReadingIsGrammar → CompleteIsOne
one_complete tilings one law text l m fs gs cs ds h k =
    let n = one_named tilings one law text h.identifier k.identifier h.fields k.fields h.denoted k.denoted in
    let e = one_sections tilings text (Ok (annotations cs h.names)) (Ok (annotations ds k.names)) h.sections k.sections in
    let ns = ap (names_in h.names) e in
    (h.named ∙ (λ i. named_module (ns i) (n.0 i)) ∙ sym k.named, h.renamed ∙ (λ i. named_fields (ns i) (n.1 i)) ∙ sym k.renamed, ap (customs_of cs) e)

-- ---- without custom sections

none_at : (p : Place) → customs_at p [] ≡ []
unfolding customs_at
none_at p = refl

-- A section without custom sections around it.
alone : (a : Anchor) (out before bytes : List ℕ) → out ≡ before → with_section [] a out bytes ≡ before ++ bytes
alone a out before bytes e =
    ap (λ x. ((out ++ customs_at (Around Before a) []) ++ bytes) ++ x) (none_at (Around After a)) ∙ append-nil ((out ++ customs_at (Around Before a) []) ++ bytes)
    ∙ ap (λ x. (out ++ x) ++ bytes) (none_at (Around Before a)) ∙ ap (λ x. x ++ bytes) (append-nil out ∙ e)

first_alone : (fs : List Field) → first_sections fs [] ≡ ((((header ++ type_section fs) ++ import_section fs) ++ function_section fs) ++ table_section fs) ++ memory_section fs
unfolding first_sections
first_alone fs =
    alone anchor.Memory _ _ (memory_section fs) (alone anchor.Table _ _ (table_section fs) (alone anchor.Func _ _ (function_section fs) (alone anchor.Import _ _ (import_section fs) (alone anchor.Type _ _ (type_section fs)
    (ap (λ x. header ++ x) (none_at BeforeFirst) ∙ append-nil header)))))

middle_alone : (fs : List Field) (out before : List ℕ) → out ≡ before → middle_sections fs [] out ≡ (((before ++ global_section fs) ++ export_section fs) ++ start_section fs) ++ element_section fs
unfolding middle_sections
middle_alone fs out before e =
    alone anchor.Elem _ _ (element_section fs) (alone anchor.Start _ _ (start_section fs) (alone anchor.Export _ _ (export_section fs) (alone anchor.Global _ _ (global_section fs)
    (ap (λ x. (out ++ customs_at (Around Before anchor.Tag) []) ++ x) (none_at (Around After anchor.Tag)) ∙ append-nil (out ++ customs_at (Around Before anchor.Tag) [])
    ∙ ap (λ x. out ++ x) (none_at (Around Before anchor.Tag)) ∙ append-nil out ∙ e))))

last_alone : (fs : List Field) (out before : List ℕ) → out ≡ before → last_sections fs [] out ≡ ((before ++ data_count_section fs) ++ code_section fs) ++ data_section fs
unfolding last_sections
last_alone fs out before e = alone anchor.Data _ _ (data_section fs) (alone anchor.Code _ _ (code_section fs) (alone anchor.DataCount _ _ (data_count_section fs) e))

pub complete_is_named : CompleteIsNamed
unfolding complete_bytes module_bytes
complete_is_named l fs =
    let all = last_sections fs [] (middle_sections fs [] (first_sections fs [])) in
    ap (λ x. (all ++ name_section l fs) ++ x) (none_at AfterLast) ∙ append-nil (all ++ name_section l fs)
    ∙ ap (λ x. x ++ name_section l fs) (last_alone fs _ _ (middle_alone fs _ _ (first_alone fs)))

-- ---- without annotations

none_of_either : (a b : Bool) → (a || b) ≡ false → (a ≡ false) × (b ≡ false)
none_of_either true b e = cc
none_of_either false b e = (refl, e)

-- A search for either name finds what one for one of them finds.
neither : (text : List ℕ) → may_have sought.Either text ≡ false → (may_have sought.Customs text ≡ false) × (may_have sought.Names text ≡ false)
unfolding may_have
neither [] e = (refl, refl)
neither (b ∷ bs) e =
    let text = b ∷ bs in
    let custom = begins_with (codes "(@custom") text in
    let name = begins_with (codes "(@name") text in
    let quoted = begins_with (codes "(@\"") text in
    let here = none_of_either ((custom || name) || quoted) (may_have sought.Either bs) e in
    let begins = none_of_either (custom || name) quoted here.0 in
    let names = none_of_either custom name begins.0 in
    let rest = neither bs here.1 in
    (ap₂ (λ x y. x || y) (ap₂ (λ x y. x || y) names.0 begins.1) rest.0, ap₂ (λ x y. x || y) (ap₂ (λ x y. x || y) names.1 begins.1) rest.1)

no_customs : (s : Source) → may_have_customs s.setting.text ≡ false → custom_sections s ≡ Ok []
unfolding custom_sections
no_customs s e = ap (λ b. if b then placed s.setting.text (whole all_items s) else Ok []) e

nothing_named : (s : Source) → may_have_names s.setting.text ≡ false → names_of s ≡ Ok no_names
unfolding names_of
nothing_named s e = ap (λ b. if b then names_of_items s.setting.text (whole annotations_items s) else Ok no_names) e

pub nothing_annotated : (text : List ℕ) (r : Sections) → may_have sought.Either text ≡ false → AnnotationsDefine text r → r ≡ Ok (annotations [] no_names)
nothing_annotated text r e h =
    let none = neither text e in
    let c = h.has_customs in
    let n = h.has_names in
    let customs : h.customs ≡ Ok [] = c.are ∙ no_customs c.source (ap (λ x. may_have_customs x.text) c.setting ∙ none.0) in
    let names : h.names ≡ Ok no_names = n.are ∙ nothing_named n.source (ap (λ x. may_have_names x.text) n.setting ∙ none.1) in
    h.are ∙ (λ i. both (customs i) (names i))

-- The result for a module without annotations is that with its name section.
same_finished : (text : List ℕ) (l : Label) (fs : List Field) → finished (Complete (Ok (annotations [] no_names))) text l fs ≡ finished Named text l fs
unfolding renamed
same_finished text l fs = ap (fitted text) (complete_is_named l fs)

same_compiled : (text : List ℕ) (tokens : List Token) (l : Label) (r : Result (List Field) grammar.Fault) → compiled_by (Complete (Ok (annotations [] no_names))) l text tokens r ≡ compiled_by Named l text tokens r
same_compiled text tokens l (Ok fs) = same_finished text l fs
same_compiled text tokens l (Err f) = refl

same_result : (text : List ℕ) (tokens : List Token) (last : Option Fault) → compiled_complete (Ok (annotations [] no_names)) text tokens last ≡ compiled_named text tokens last
unfolding compiled_tokens
same_result text tokens None = same_compiled text tokens (module_name (map (terminal_of text) tokens)) (reading.whole (map (terminal_of text) tokens))
same_result text tokens (Some f) = refl

pub unannotated_is_named : UnannotatedIsNamed
unannotated_is_named = record { sections = nothing_annotated; result = same_result }

-- A result with the name section alone, for a text without annotations.
pub unannotated : {T : Type 0} (f : T → List ℕ) (text : List ℕ) (r : Sections) (l : Label) (fs : List Field) (x : Result T (Option Report)) → may_have sought.Either text ≡ false → AnnotationsDefine text r → Answers {T = T} true f (finished Named text l fs) x → Answers {T = T} true f (finished (Complete r) text l fs) x
unannotated {T = T} f text r l fs x e h a =
    subst (λ m. Answers {T = T} true f m x) (sym (ap (λ s. finished (Complete s) text l fs) (nothing_annotated text r e h) ∙ same_finished text l fs)) a
