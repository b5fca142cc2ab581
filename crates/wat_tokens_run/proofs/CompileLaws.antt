-- What an error of compiling says of the text.
use Rattle.std.proofs.Common.{◌≡◌, ◌∙◌, ◌^◌, ℕ, true, false, List, [], length, refl, sym, ap}
use Rattle.std.specs.Prelude.{Option, Some, None, Ok, Err, IsNone, IsSome, if◌then◌else◌}
use Rattle.std.specs.Str.{IsUtf8}
use Rattle.std.proofs.lemmas.Str.{IsCharBoundary-start}
use Rattle.std.proofs.lemmas.Bool.Decides.{Decides-ltb}
use Rattle.wat_lex.specs.errors.Errors.{Report}
use Rattle.wat_lex.specs.tokens.EverySetting.{EachBoundaryHasTiling}
use Rattle.wat_lexer_parser.specs.parser.State.{Answers}
use Rattle.wat_lexer_parser.specs.places.Source.{Source, IsRead}
use Rattle.wat_tokens_run.specs.Compiles.{IsTypesError, Rejected}
use Rattle.wat_types.specs.Binary.{Fits, content, module_bytes}
use Rattle.wat_types.specs.Compiling.{SpellsTypes, compiled, compiled_text, plain, too_long}
use Rattle.wat_types.specs.Signatures.{Signature}

compiled_fits : (types : List Signature) → Fits types → compiled types ≡ Ok (module_bytes types)
compiled_fits types h = ap (λ b. if b then Ok (module_bytes types) else Err too_long) ((Decides-ltb (length (content types)) (2 ^ 32)).1 h)

-- An error other than out of memory is the error of the text.
pub refused_text : {T E : Type 0} → EachBoundaryHasTiling → (text : List ℕ) (f : T → List ℕ) (error : Option Report) (memory : Option E) → IsUtf8 text
    → ((types : List Signature) → SpellsTypes text types → Answers {T = T} true f (compiled types) (Err error))
    → ((s : Source) → IsRead s → s.setting ≡ plain text → s.track ≡ false → Answers {T = T} true f (compiled_text s) (Err error))
    → memory ≡ None → (IsNone error → IsSome memory) → Rejected (SpellsTypes text) Fits (IsTypesError text) [] error
refused_text tiled text f None None u spelled refused n some = absurd (let d : false ≡ true = some refl in cc)
refused_text tiled text f None (Some wanting) u spelled refused n some = absurd (let d : Some wanting ≡ None = n in cc)
refused_text tiled text f (Some refusal) memory u spelled refused n some =
    let tiling = tiled (plain text) 0 u (IsCharBoundary-start text u) in
    record {
      unspelled = λ types h fits. let k : Ok (module_bytes types) ≡ Err refusal = sym (compiled_fits types fits) ∙ spelled types h in cc;
      nothing = refl;
      refusal = refusal;
      refused = record {
        tokens = tiling.0;
        ending = tiling.1;
        tiling = tiling.2;
        refused = refused (record { setting = plain text; track = false; tokens = tiling.0; ending = tiling.1 }) tiling.2 refl refl;
      };
      reported = refl;
    }
