-- The result of `wat_compile`, by that of the compiler.
use Rattle.std.proofs.Common.{◌≡◌, ◌≢◌, ◌<◌, ◌^◌, ◌∙◌, ℕ, List, refl, sym, ap, subst, length, Bool, true, false}
use Rattle.std.specs.Prelude.{Option, Some, None, Result, Ok, Err, IfOk, IsNone, IsSome, Vec, alloc_error, if◌then◌else◌}
use Rattle.std.specs.declared.alloc.Global.{Global}
use Rattle.std.proofs.lemmas.Bool.Decides.{Decides-ltb}
use Rattle.wat_lex.specs.errors.Errors.{Report}
use Rattle.wat_lex.specs.tokens.EverySetting.{TilingsAreUnique}
use Rattle.wat_lex.specs.declared.lexer.kinds.Token.{Token}
use Rattle.wat_lexer_parser.specs.declared.parser.fault.Fault.{Fault}
use Rattle.wat_lexer_parser.specs.laws.AllShown.{AllShown}
use Rattle.wat_lexer_parser.specs.laws.Blanking.{TextShows}
use Rattle.wat_lexer_parser.specs.laws.ShownLaws.{AllShownIsOne}
use Rattle.wat_lexer_parser.specs.names.RegisteredNames.{no_names}
use Rattle.wat_lexer_parser.specs.parser.State as parser
use Rattle.wat_module_ast.specs.Fields.{Field}
use Rattle.wat_module_custom.specs.Customs.{CustomSection}
use Rattle.wat_module_encoder.specs.Binary.{module_bytes}
use Rattle.wat_module_encoder.specs.CustomSections.{complete_bytes}
use Rattle.wat_module_lexer.specs.TokenTerminals.{plain}
use Rattle.wat_module_tokens.specs.Terminals.{Label}
use Rattle.wat_modules.specs.Compiling as modules
use Rattle.wat_c.specs.Answers.{Answers, answer_of, left_of}
use Rattle.wat_c.specs.Compiling.{Compilation, Compiles, CompilesTo, IsBinary, IsCompiled, IsUnlessRefused, binary_of}
use Rattle.wat_c.specs.inside.CompilerErrors.{refusal_of}
use Rattle.wat_c.specs.declared.answers.Answer.{Answer}
use Rattle.wat_c.specs.declared.answers.Refusal.{Refusal}
use Rattle.wat_c.specs.declared.answers.Refusal.TheVariants.{Other, Memory, Absent, Fault as Faulty}
use Rattle.wat_c.proofs.Answering.{given, refused}
use Rattle.wat_c.proofs.OneFinding.{Finding, One}

-- The result of the compiler, and the statement that it is that of a definition.
abbrev pub Outcome : Type 0
Outcome = Result (Vec ℕ Global) (Option Report)

abbrev pub Is : Result (List ℕ) Report → Outcome → Type 0
Is m r = parser.Answers {T = Vec ℕ Global} true (λ bytes. bytes.items) m r

-- ---- with a name section and custom sections, or with neither

fitted_fits : (text bytes : List ℕ) → length bytes < 2 ^ 32 → modules.fitted text bytes ≡ Ok bytes
fitted_fits text bytes h = ap (λ b. if b then Ok bytes else Err (modules.too_long text)) ((Decides-ltb (length bytes) (2 ^ 32)).1 h)

fitted_binary : (text bytes binary : List ℕ) (r : Outcome) → length bytes < 2 ^ 32 → binary ≡ bytes → Is (modules.fitted text bytes) r → Is (Ok binary) r
fitted_binary text bytes binary r short e h = subst (λ b. Is (Ok b) r) (sym e) (subst (λ m. Is m r) (fitted_fits text bytes short) h)

pub complete_bytes_are : (names : Bool) (text : List ℕ) (r : Outcome) → names ≡ true
    → IfOk r (λ bytes. (l : Label) × (fs : List Field) × (cs : List CustomSection) × modules.DenotesComplete text l fs cs × modules.FitsComplete l fs cs × (bytes.items ≡ complete_bytes l fs cs))
    → IfOk r (λ bytes. IsBinary names text bytes.items)
complete_bytes_are names text r e h = subst (λ n. IfOk r (λ bytes. IsBinary n text bytes.items)) (sym e) h

pub unnamed_bytes : (names : Bool) (text : List ℕ) (r : Outcome) → names ≡ false
    → IfOk r (λ bytes. (fs : List Field) × modules.DenotesModule text fs × modules.Fits fs × (bytes.items ≡ module_bytes fs))
    → IfOk r (λ bytes. IsBinary names text bytes.items)
unnamed_bytes names text r e h = subst (λ n. IfOk r (λ bytes. IsBinary n text bytes.items)) (sym e) h

-- Each binary of the text is the result.
abbrev pub HasAll : Bool → List ℕ → Outcome → Type 0
HasAll names text r = (binary : List ℕ) → IsBinary names text binary → Is (Ok binary) r

pub complete_all : (names : Bool) (text : List ℕ) (r : Outcome) → names ≡ true
    → ((l : Label) (fs : List Field) (cs : List CustomSection) → modules.DenotesComplete text l fs cs → Is (modules.fitted text (complete_bytes l fs cs)) r) → HasAll names text r
complete_all names text r e h =
    subst (λ n. HasAll n text r) (sym e) (λ binary b. fitted_binary text (complete_bytes b.0 b.1 b.2) binary r b.4 b.5 (h b.0 b.1 b.2 b.3))

pub unnamed_all : (names : Bool) (text : List ℕ) (r : Outcome) → names ≡ false
    → ((fs : List Field) → modules.DenotesModule text fs → Is (modules.fitted text (module_bytes fs)) r) → HasAll names text r
unnamed_all names text r e h =
    subst (λ n. HasAll n text r) (sym e) (λ binary b. fitted_binary text (module_bytes b.0) binary r b.2 b.3 (h b.0 b.1))

-- The result is that of the text.
abbrev pub IsOfText : Bool → List ℕ → Outcome → Type 0
IsOfText names text r = (wanted : Compilation) → CompilesTo names text wanted → Is wanted r

complete_by : (text : List ℕ) (r : Outcome)
    → ((tokens : List Token) (last : Option Fault) (customs : modules.Sections) → TextShows (plain text) no_names tokens last → modules.AnnotationsDefine text customs → Is (modules.compiled_complete customs text tokens last) r)
    → IsOfText true text r
complete_by text r h wanted k = subst (λ w. Is w r) (sym k.is.2) (h k.tokens k.last k.is.0 k.shown k.is.1)

pub complete_of_text : (names : Bool) (text : List ℕ) (r : Outcome) → names ≡ true
    → ((tokens : List Token) (last : Option Fault) (customs : modules.Sections) → TextShows (plain text) no_names tokens last → modules.AnnotationsDefine text customs → Is (modules.compiled_complete customs text tokens last) r)
    → IsOfText names text r
complete_of_text names text r e h = subst (λ n. IsOfText n text r) (sym e) (complete_by text r h)

unnamed_by : (text : List ℕ) (r : Outcome) → ((tokens : List Token) (last : Option Fault) → TextShows (plain text) no_names tokens last → Is (modules.compiled text tokens last) r) → IsOfText false text r
unnamed_by text r h wanted k = subst (λ w. Is w r) (sym k.is) (h k.tokens k.last k.shown)

pub unnamed_of_text : (names : Bool) (text : List ℕ) (r : Outcome) → names ≡ false
    → ((tokens : List Token) (last : Option Fault) → TextShows (plain text) no_names tokens last → Is (modules.compiled text tokens last) r) → IsOfText names text r
unnamed_of_text names text r e h = subst (λ n. IsOfText n text r) (sym e) (unnamed_by text r h)

-- A text has a result.
abbrev pub HasResult : Bool → List ℕ → Type 0
HasResult names text = (wanted : Compilation) × CompilesTo names text wanted

-- A text has visible tokens, with or without an error after them.
abbrev pub HasTokens : List ℕ → Type 0
HasTokens text = (tokens : List Token) × (last : Option Fault) × TextShows (plain text) no_names tokens last

pub complete_result : (names : Bool) (text : List ℕ) → names ≡ true → HasTokens text → (customs : modules.Sections) × modules.AnnotationsDefine text customs → HasResult names text
complete_result names text e t s =
    subst (λ n. HasResult n text) (sym e) (modules.compiled_complete s.0 text t.0 t.1, record { tokens = t.0; last = t.1; shown = t.2; is = (s.0, s.1, refl) })

pub unnamed_result : (names : Bool) (text : List ℕ) → names ≡ false → HasTokens text → HasResult names text
unnamed_result names text e t = subst (λ n. HasResult n text) (sym e) (modules.compiled text t.0 t.1, record { tokens = t.0; last = t.1; shown = t.2; is = refl })

-- ---- the result for C

-- The compiler's error is an allocation failure if and only if it holds one.
pub is_memory : {T : Type 0} → (memory : Option T) (x : T) (error : Option Report) → memory ≡ Some x → (IsSome memory → IsNone error) → IsNone error
is_memory memory x error e h = h (subst (λ m. IsSome m) (sym e) refl)

pub is_report : {T : Type 0} → (memory : Option T) (error : Option Report) → memory ≡ None → (IsNone error → IsSome memory) → IsNone error → ⊥
is_report memory error e h none = let d : false ≡ true = subst (λ m. IsSome m) e (h none) in cc

pub refusal_memory : (error : Option Report) → IsNone error → refusal_of error ≡ Memory alloc_error
refusal_memory None none = refl
refusal_memory (Some r) none = let d : true ≡ false = none in cc

pub refusal_other : (error : Option Report) → (IsNone error → ⊥) → refusal_of error ≡ Other
refusal_other None some = absurd (some refl)
refusal_other (Some r) some = refl

pub compiled_bytes : (names : Bool) (text : List ℕ) (bytes : Vec ℕ Global) → HasResult names text → IsBinary names text bytes.items → HasAll names text (Ok bytes) → IsOfText names text (Ok bytes) → Compiles names text (Ok bytes.items)
compiled_bytes names text bytes t is all same = record {
  bytes = is;
  all = λ binary b. sym (ap binary_of (all binary b));
  result = t.0;
  compiled = t.1;
  is = sym (ap binary_of (same t.0 t.1));
}

pub compiled_error : (names : Bool) (text : List ℕ) (error : Option Report) → HasResult names text → HasAll names text (Err error) → IsOfText names text (Err error) → Compiles names text (Err (refusal_of error))
compiled_error names text None t all same = record {
  bytes = tt;
  all = λ binary b. tt;
  result = t.0;
  compiled = t.1;
  is = tt;
}
compiled_error names text (Some r) t all same = record {
  bytes = tt;
  all = λ binary b. sym (ap binary_of (all binary b));
  result = t.0;
  compiled = t.1;
  is = sym (ap binary_of (same t.0 t.1));
}

pub answered_bytes : (names : Bool) (text old new items : List ℕ) (bytes : Vec ℕ Global) (answer : Answer) → HasResult names text → IsBinary names text bytes.items → HasAll names text (Ok bytes) → IsOfText names text (Ok bytes)
    → items ≡ bytes.items → answer ≡ answer_of (Ok items) → new ≡ left_of old (Ok items) → Answers (Compiles names text) old new answer
answered_bytes names text old new items bytes answer t is all same e known left =
    given (Compiles names text) old new items bytes.items answer (compiled_bytes names text bytes t is all same) e known left

pub answered_error : (names : Bool) (text old : List ℕ) (error : Option Report) (reason : Refusal) (answer : Answer) → HasResult names text → HasAll names text (Err error) → IsOfText names text (Err error)
    → reason ≡ refusal_of error → answer ≡ answer_of (Err reason) → Answers (Compiles names text) old old answer
answered_error names text old error reason answer t all same e known =
    refused (Compiles names text) old reason answer (subst (λ r. Compiles names text (Err r)) (sym e) (compiled_error names text error t all same)) known

-- ---- the result is unique

-- The visible tokens of a text, and the error after them, are unique.
shows_one : TilingsAreUnique → AllShownIsOne → (text : List ℕ) (us vs : List Token) (f g : Option Fault) → TextShows (plain text) no_names us f → TextShows (plain text) no_names vs g → (us ≡ vs) × (f ≡ g)
shows_one tilings one text us vs f g h k =
    let t = tilings (plain text) 0 h.tokens k.tokens h.ending k.ending h.tiling k.tiling in
    one text k.ending no_names k.tokens us vs f g (subst (λ e. AllShown text e no_names k.tokens us f) t.1 (subst (λ ts. AllShown text h.ending no_names ts us f) t.0 h.all)) k.all

is_one : modules.SectionsAreOne → (names : Bool) (text : List ℕ) (us vs : List Token) (f g : Option Fault) (a b : Compilation) → us ≡ vs → f ≡ g → IsCompiled names text us f a → IsCompiled names text vs g b → a ≡ b
is_one sections false text us vs f g a b e l h k = h ∙ ap (λ ts. modules.compiled text ts f) e ∙ ap (modules.compiled text vs) l ∙ sym k
is_one sections true text us vs f g a b e l h k =
    h.2 ∙ ap (λ r. modules.compiled_complete r text us f) (sections text h.0 k.0 h.1 k.1)
    ∙ ap (λ ts. modules.compiled_complete k.0 text ts f) e ∙ ap (modules.compiled_complete k.0 text vs) l ∙ sym k.2

pub one_result : TilingsAreUnique → AllShownIsOne → modules.SectionsAreOne → (names : Bool) (text : List ℕ) (a b : Compilation) → CompilesTo names text a → CompilesTo names text b → a ≡ b
one_result tilings one sections names text a b h k =
    let e = shows_one tilings one text h.tokens k.tokens h.last k.last h.shown k.shown in
    is_one sections names text h.tokens k.tokens h.last k.last a b e.0 e.1 h.is k.is

unless_refused : (a wanted : Finding) → IsUnlessRefused a wanted → a ≢ Err (Memory alloc_error) → a ≡ wanted
unless_refused (Ok bytes) wanted h n = h
unless_refused (Err Other) wanted h n = h
unless_refused (Err (Memory refused)) wanted h n = absurd (n refl)
unless_refused (Err Absent) wanted h n = h
unless_refused (Err (Faulty e)) wanted h n = h

pub one_binary : TilingsAreUnique → AllShownIsOne → modules.SectionsAreOne → (names : Bool) (text : List ℕ) → One (Compiles names text)
one_binary tilings one sections names text a b h k n m =
    unless_refused a (binary_of h.result) h.is n ∙ ap binary_of (one_result tilings one sections names text h.result k.result h.compiled k.compiled) ∙ sym (unless_refused b (binary_of k.result) k.is m)
