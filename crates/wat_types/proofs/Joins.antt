-- Parsing a whole text returns the function types that the grammar derives for it.
use Rattle.std.proofs.Common.{◌≡◌, ℕ, List, [], sym, subst, None, Ok}
use Rattle.std.specs.Str.{IsUtf8}
use Rattle.wat_lex.specs.tokens.EverySetting.{TilingsAreUnique}
use Rattle.wat_lexer_parser.specs.lemmas.SpellingLaws.{reads_as_spelled, spelled_once}
use Rattle.wat_lexer_parser.specs.places.Source.{Source, IsRead}
use Rattle.wat_lexer_parser.specs.readings.Readings.{whole}
use Rattle.wat_lexer_parser.specs.rules.Spelling.{ReadsAsSpelled, ground_of, Spells as SpellsRule}
use Rattle.wat_lexer_parser.specs.laws.ShownLaws.{SomethingIsAllShown}
use Rattle.wat_lexer_parser.specs.shown.Showing.{OneThingShown}
use Rattle.wat_types.specs.Compiling.{SpellsTypes, plain}
use Rattle.wat_types.specs.Meanings as meanings
use Rattle.wat_types.specs.Signatures.{Signature}
use Rattle.wat_types.proofs.Formats as formats
use Rattle.wat_types.proofs.Spelled.{module_is, is_module}

pub reads_module : TilingsAreUnique → SomethingIsAllShown → OneThingShown → ReadsAsSpelled meanings.module_types formats.module_types.rule
reads_module one_tiling some one =
    subst (λ m. ReadsAsSpelled m formats.module_types.rule) formats.module_is (reads_as_spelled one_tiling some one formats.module_types.reading formats.module_types.rule formats.module_types.law)

-- From the rule of the format to the grammar.
to_grammar : (text : List ℕ) (fs : List Signature) → SpellsRule formats.module_types.rule (plain text) fs → SpellsTypes text fs
to_grammar text fs h = record { tokens = h.tokens; shown = h.shown; spelled = module_is (ground_of text h.tokens None) h.tokens fs h.begins }

of_grammar : (text : List ℕ) (fs : List Signature) → SpellsTypes text fs → SpellsRule formats.module_types.rule (plain text) fs
of_grammar text fs h = record { tokens = h.tokens; shown = h.shown; begins = is_module (ground_of text h.tokens None) h.tokens fs h.spelled }

pub reading_spells : ReadsAsSpelled meanings.module_types formats.module_types.rule → (s : Source) (fs : List Signature) → IsUtf8 s.setting.text → IsRead s → s.setting ≡ plain s.setting.text → whole meanings.module_types s ≡ Ok fs → SpellsTypes s.setting.text fs
reading_spells law s fs u r p e = to_grammar s.setting.text fs (subst (λ x. SpellsRule formats.module_types.rule x fs) p (law.read s fs u r e))

pub spelling_reads : ReadsAsSpelled meanings.module_types formats.module_types.rule → (s : Source) (fs : List Signature) → IsRead s → s.setting ≡ plain s.setting.text → SpellsTypes s.setting.text fs → whole meanings.module_types s ≡ Ok fs
spelling_reads law s fs r p h = law.spelled s fs [] None r (subst (λ x. SpellsRule formats.module_types.rule x fs) (sym p) (of_grammar s.setting.text fs h))

pub spelling_is_one : ReadsAsSpelled meanings.module_types formats.module_types.rule → (text : List ℕ) (fs gs : List Signature) → SpellsTypes text fs → SpellsTypes text gs → fs ≡ gs
spelling_is_one law text fs gs h k = spelled_once law (plain text) fs gs (of_grammar text fs h) (of_grammar text gs k)
