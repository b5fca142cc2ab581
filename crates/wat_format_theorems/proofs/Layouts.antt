-- A formatted text has the function types of the text, because a text reads as the function types with which it matches
-- the grammar.
use Rattle.std.proofs.Common.{◌≡◌, ◌∙◌, ℕ, List, false, refl, sym, subst, None, Ok, Err}
use Rattle.std.proofs.lemmas.Str.{IsCharBoundary-start}
use Rattle.std.specs.Prelude.{Result}
use Rattle.std.specs.Str.{IsUtf8}
use Rattle.wat_format.specs.Laws.{LayoutsAreUtf8}
use Rattle.wat_format.specs.Layout.{layout}
use Rattle.wat_format_theorems.specs.FunctionTypes.{LayoutsSpellTheSame}
use Rattle.wat_format_theorems.specs.Reads.{LayoutsReadTheSame, WholeMoved}
use Rattle.wat_format_theorems.specs.lemmas.Types.{stays}
use Rattle.wat_lex.specs.errors.Errors.{Report}
use Rattle.wat_lex.specs.tokens.EverySetting.{EachBoundaryHasTiling}
use Rattle.wat_lexer_parser.specs.places.Source.{Source}
use Rattle.wat_lexer_parser.specs.readings.Readings.{whole}
use Rattle.wat_types.specs.Compiling.{ReadingIsSpelling, plain}
use Rattle.wat_types.specs.Meanings.{module_types}
use Rattle.wat_types.specs.Signatures.{Signature}

-- If the other text reads as these, so does the one.
read_back : (move : ℕ → ℕ) (s r : Source) (fs : List Signature) (a : Result (List Signature) Report) → WholeMoved (stays move) move s r a (whole module_types r) → whole module_types r ≡ Ok fs → a ≡ Ok fs
read_back move s r fs (Ok gs) h e = sym h ∙ e
read_back move s r fs (Err f) h e = let k : ◌≡◌ {A = Result (List Signature) Report} (Err h.0) (Ok fs) = sym h.1 ∙ e in cc

pub layouts_spell_the_same : LayoutsReadTheSame stays module_types → ReadingIsSpelling → EachBoundaryHasTiling → LayoutsAreUtf8 → LayoutsSpellTheSame
layouts_spell_the_same law same some laid text tokens fs utf8 m =
    let y = layout text tokens in
    let utf8_y : IsUtf8 y = laid (plain text) y utf8 (record { tokens = tokens; tiling = m; laid = refl }) in
    let raw = some (plain y) 0 utf8_y (IsCharBoundary-start y utf8_y) in
    let s : Source = record { setting = plain text; track = false; tokens = tokens; ending = None } in
    let r : Source = record { setting = plain y; track = false; tokens = raw.0; ending = raw.1 } in
    let k = law s r utf8 m refl raw.2 refl in (
      λ h. (same r fs utf8_y raw.2 refl).0 (subst (λ a. WholeMoved (stays k.0) k.0 s r a (whole module_types r)) ((same s fs utf8 m refl).1 h) k.3),
      λ h. (same s fs utf8 m refl).0 (read_back k.0 s r fs (whole module_types s) k.3 ((same r fs utf8_y raw.2 refl).1 h)),
    )
