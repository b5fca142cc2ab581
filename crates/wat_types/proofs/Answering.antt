-- The result of compiling, from the result of parsing and the length of the contents.
use Rattle.std.proofs.Common.{◌≡◌, ◌∙◌, ◌≤◌, ◌^◌, ℕ, List, arith, inl, inr, sym, ap, subst, length, Ok, Err}
use Rattle.std.specs.Prelude.{Result, nat_lt, if◌then◌else◌}
use Rattle.std.specs.Str.{IsUtf8}
use Rattle.std.proofs.lemmas.Bool.Decides.{Decides-ltb}
use Rattle.std.proofs.lemmas.Bool.{cases_Bool}
use Rattle.wat_lex.specs.errors.Errors.{Report}
use Rattle.wat_lexer_parser.specs.places.Source.{Source, IsRead}
use Rattle.wat_lexer_parser.specs.readings.Readings.{whole}
use Rattle.wat_types.specs.Binary.{Fits, content, module_bytes}
use Rattle.wat_types.specs.Compiling.{ReadingIsSpelling, SpellsTypes, compiled, plain, too_long}
use Rattle.wat_types.specs.Meanings.{module_types}
use Rattle.wat_types.specs.Signatures.{Signature}

pub compiled_fits : (fs : List Signature) (bytes : List ℕ) → Fits fs → bytes ≡ module_bytes fs → compiled fs ≡ Ok bytes
compiled_fits fs bytes h e = ap (λ b. if b then Ok (module_bytes fs) else Err too_long) ((Decides-ltb (length (content fs)) (2 ^ 32)).1 h) ∙ ap Ok (sym e)

pub compiled_too_long : (fs : List Signature) → 2 ^ 32 ≤ length (content fs) → compiled fs ≡ Err too_long
compiled_too_long fs h = elim (cases_Bool (nat_lt (length (content fs)) (2 ^ 32))) [
  | inl t ↦ absurd (omega (arith, h, (Decides-ltb (length (content fs)) (2 ^ 32)).0 t))
  | inr t ↦ ap (λ b. if b then Ok (module_bytes fs) else Err too_long) t
]

-- The theorem for a source with the given text.
pub spelled_is_read : ReadingIsSpelling → (s : Source) (text : List ℕ) (fs : List Signature) → IsUtf8 text → IsRead s → s.setting ≡ plain text → SpellsTypes text fs → whole module_types s ≡ Ok fs
spelled_is_read law s text fs u r p h =
    let e : s.setting.text ≡ text = ap (λ x. x.text) p in
    (law s fs (subst IsUtf8 (sym e) u) r (p ∙ ap plain (sym e))).1 (subst (λ t. SpellsTypes t fs) (sym e) h)

-- The function types that the grammar derives are those that were parsed.
pub same_types : (m : Result (List Signature) Report) (fs gs : List Signature) → m ≡ Ok fs → m ≡ Ok gs → gs ≡ fs
same_types m fs gs e f = let k : Ok gs ≡ Ok fs = sym f ∙ e in cc
