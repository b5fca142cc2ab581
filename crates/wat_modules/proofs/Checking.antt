-- The result of compiling a text whose module is validated, by the results of the passes.
use Rattle.std.proofs.Common.{◌≡◌, ◌∙◌, ℕ, List, refl, sym, ap, subst, length, map, Option, Some, None, Result, Ok, Err, true, false, Bool}
use Rattle.std.specs.Prelude.{◌^◌, nat_lt, if◌then◌else◌, IfErr, IfOk, IfSome, Vec}
use Rattle.std.specs.Result.{IsErrAnd}
use Rattle.std.specs.declared.alloc.Global.{Global}
use Rattle.wat_lex.specs.declared.lexer.kinds.Token.{Token}
use Rattle.wat_lex.specs.errors.Errors.{Report, IsUnlessMemory}
use Rattle.wat_lex.specs.tokens.EverySetting.{TilingsAreUnique}
use Rattle.wat_lexer_parser.specs.declared.parser.fault.Fault.{Fault}
use Rattle.wat_lexer_parser.specs.laws.Blanking.{TextShows}
use Rattle.wat_lexer_parser.specs.laws.ShownLaws.{AllShownIsOne}
use Rattle.wat_lexer_parser.specs.names.RegisteredNames.{no_names}
use Rattle.wat_module_ast.specs.declared.error.FaultKind.{FaultKind}
use Rattle.wat_module_ast.specs.Fields.{Field}
use Rattle.wat_module_ast.specs.Grammar as grammar
use Rattle.wat_module_ast.specs.Modules.{Module}
use Rattle.wat_module_lexer.specs.Shown.{TerminalsShown}
use Rattle.wat_module_lexer.specs.TokenTerminals.{plain, terminal_of}
use Rattle.wat_module_parser.specs.Law.{ReadingIsGrammar}
use Rattle.wat_module_parser.specs.Reading as reading
use Rattle.wat_module_tokens.specs.Terminals.{Label, Terminal}
use Rattle.wat_modules.proofs.Answering.{Answer, HasBytes, Is, IsCompiled, IsRefused, compiled_bytes, compiled_fault, compiled_refused, compiled_spelled, ended, fault_report, fitted_is, not_ended, of_fault, of_fields, shows_one}
use Rattle.wat_module_custom.specs.Customs.{CustomSection}
use Rattle.wat_module_encoder.specs.Binary.{module_bytes}
use Rattle.wat_module_encoder.specs.CustomSections.{complete_bytes}
use Rattle.wat_modules.specs.Compiling.{Bare, Complete, DenotesComplete, DenotesModule, DenotesNamed, Fits, FitsComplete, AnnotationsDefine, Sections, Wanted, annotations, compiled_with, finished, fitted, module_name, named_fields, named_module}
use Rattle.wat_modules.specs.Validity.{Compiles, IsErrorOf, IsInvalid, IsReport, IsValidText, Refuses, RefusesFields, by_invalid, by_memory, by_valid, of_invalid, of_text}
use Rattle.wat_valid.specs.Modules.{ModuleIsValid}

-- Tokens match the grammar of at most one module.
pub module_one : ReadingIsGrammar → (ts : List Terminal) (fs gs : List Field) → Module ts fs → Module ts gs → fs ≡ gs
module_one law ts fs gs m k =
    let is : ◌≡◌ {A = Result (List Field) grammar.Fault} (Ok fs) (Ok gs) = sym ((law ts fs).1 m) ∙ (law ts gs).1 k in cc

-- Tokens with a syntax error match the grammar of no module.
no_module : ReadingIsGrammar → (ts : List Terminal) (f : grammar.Fault) (gs : List Field) → reading.whole ts ≡ Err f → Module ts gs → ⊥
no_module law ts f gs h k =
    let is : ◌≡◌ {A = Result (List Field) grammar.Fault} (Err f) (Ok gs) = sym h ∙ (law ts gs).1 k in cc

-- The result for a module that is valid, or is not validated.
pub of_valid : ReadingIsGrammar → (n : Wanted) (checked : Bool) (text : List ℕ) (us : List Token) (ts : List Terminal) (fs : List Field) (r : Answer) → Module ts fs → (checked ≡ true → ModuleIsValid fs) → Is (finished n text (module_name ts) fs) r → ts ≡ map (terminal_of text) us → Compiles n checked text us r
of_valid law n checked text us ts fs r m v a t =
    by_valid (λ h gs k. subst ModuleIsValid (module_one law (map (terminal_of text) us) fs gs (subst (λ vs. Module vs fs) t m) k) (v h)) (of_fields law n text us ts fs r m a t)

-- The error of a module that is not valid.
pub of_refused : (n : Wanted) (checked : Bool) (text : List ℕ) (us : List Token) (ts : List Terminal) (fs : List Field) (e : Option Report) → Module ts fs → checked ≡ true → RefusesFields text ts fs e → ts ≡ map (terminal_of text) us → Compiles n checked text us (Err e)
of_refused n checked text us ts fs e m h r t =
    by_invalid fs (subst (λ vs. Module vs fs) t m) h (subst (λ vs. RefusesFields text vs fs e) t r)

-- The error of tokens that are no module.
pub of_error : ReadingIsGrammar → (n : Wanted) (checked : Bool) (text : List ℕ) (us : List Token) (ts : List Terminal) (kind : FaultKind) (left : List Terminal) (count : ℕ) (e : Option Report) → reading.whole ts ≡ Err (kind, left) → count ≡ length left → IsUnlessMemory e (fault_report text us kind count) → ts ≡ map (terminal_of text) us → Compiles n checked text us (Err e)
of_error law n checked text us ts kind left count e f l h t =
    by_valid (λ k gs m. absurd (no_module law ts (kind, left) gs f (subst (λ vs. Module vs gs) (sym t) m))) (of_fault n text us ts kind left count e f l h t)

-- The result of a text: that without validation, if its module is valid or not validated; the error of a module that is not
-- valid; or an allocation failure.
pub data Outcome (n : Wanted) (checked : Bool) (text : List ℕ) (x : Answer) : Type 0 where
  parsed : IsCompiled n text x → (checked ≡ true → IsValidText text) → Outcome n checked text x
  invalid : (us : List Token) (fs : List Field) → TextShows (plain text) no_names us None → Module (map (terminal_of text) us) fs → checked ≡ true → IsErrAnd x (RefusesFields text (map (terminal_of text) us) fs) → Outcome n checked text x
  failed : x ≡ Err None → Outcome n checked text x

-- The module that a text denotes, by other tokens of the text.
denoted : TilingsAreUnique → AllShownIsOne → (text : List ℕ) (us : List Token) → TextShows (plain text) no_names us None → (fs : List Field) (m : DenotesModule text fs) → Module (map (terminal_of text) us) fs
denoted tilings one text us h fs m =
    subst (λ ts. Module ts fs) (m.shown.are ∙ ap (map (terminal_of text)) (shows_one tilings one text m.shown.tokens us None None m.shown.shown h).0) m.spelled

-- The result of a text by that of its tokens.
outcome_by : TilingsAreUnique → AllShownIsOne → (n : Wanted) (checked : Bool) (text : List ℕ) (us : List Token) (x : Answer) → TextShows (plain text) no_names us None → Compiles n checked text us x → Outcome n checked text x
outcome_by tilings one n checked text us x h (by_valid v a) =
    parsed (record { tokens = us; fault = None; shows = h; is = a }) (λ e fs m. v e fs (denoted tilings one text us h fs m))
outcome_by tilings one n checked text us x h (by_invalid fs m e r) = invalid us fs h m e r
outcome_by tilings one n checked text us x h (by_memory e) = failed e

pub outcome_end : TilingsAreUnique → AllShownIsOne → (n : Wanted) (checked : Bool) (text : List ℕ) (ts : List Terminal) (x : Answer) → TerminalsShown text ts None
    → ((tokens : List Token) → TextShows (plain text) no_names tokens None → ts ≡ map (terminal_of text) tokens → Compiles n checked text tokens x) → Outcome n checked text x
outcome_end tilings one n checked text ts x h k =
    let s = ended text ts h in outcome_by tilings one n checked text s.tokens x s.shows (k s.tokens s.shows s.are)

-- The result of a text with a lexical error.
pub outcome_fault : TilingsAreUnique → AllShownIsOne → (n : Wanted) (checked : Bool) (text : List ℕ) (ts : List Terminal) (e : Option Report) → TerminalsShown text ts (Some e) → Outcome n checked text (Err e)
outcome_fault tilings one n checked text ts e h = parsed (compiled_fault n text ts e h) (λ k fs m. absurd (not_ended tilings one text ts e h fs m))

-- The bytes, if there are any.
abbrev pub HasValidBytes : Wanted → Bool → List ℕ → Answer → Type 0
HasValidBytes n checked text r = IfOk r (λ bytes. (fs : List Field) × (m : DenotesModule text fs) × (checked ≡ true → ModuleIsValid fs) × (finished n text (module_name m.terminals) fs ≡ Ok bytes.items))

valid_bytes : (n : Wanted) (checked : Bool) (text : List ℕ) (x : Answer) → (checked ≡ true → IsValidText text) → HasBytes n text x → HasValidBytes n checked text x
valid_bytes n checked text (Ok out) v (fs, m, e) = (fs, m, λ h. v h fs m, e)
valid_bytes n checked text (Err e) v h = tt

refused_bytes : (n : Wanted) (checked : Bool) (text : List ℕ) (us : List Token) (fs : List Field) (x : Answer) → IsErrAnd x (RefusesFields text (map (terminal_of text) us) fs) → HasValidBytes n checked text x
refused_bytes n checked text us fs (Ok out) h = absurd h
refused_bytes n checked text us fs (Err e) h = tt

pub outcome_bytes : ReadingIsGrammar → (n : Wanted) (checked : Bool) (text : List ℕ) (x : Answer) → Outcome n checked text x → HasValidBytes n checked text x
outcome_bytes law n checked text x (parsed c v) = valid_bytes n checked text x v (compiled_bytes law n text x c)
outcome_bytes law n checked text x (invalid us fs h m e r) = refused_bytes n checked text us fs x r
outcome_bytes law n checked text x (failed e) = subst (HasValidBytes n checked text) (sym e) tt

-- An error of a valid module is an allocation failure.
refused_valid : (text : List ℕ) (ts : List Terminal) (fs : List Field) (m : Result (List ℕ) Report) (x : Answer) → IsErrAnd x (RefusesFields text ts fs) → ModuleIsValid fs → Is m x
refused_valid text ts fs m (Ok out) h v = absurd h
refused_valid text ts fs m (Err None) h v = refl
refused_valid text ts fs m (Err (Some r)) h v = absurd (h.invalid v)

pub outcome_spelled : TilingsAreUnique → AllShownIsOne → ReadingIsGrammar → (n : Wanted) (checked : Bool) (text : List ℕ) (x : Answer) → Outcome n checked text x
    → (fs : List Field) (m : DenotesModule text fs) → (checked ≡ true → ModuleIsValid fs) → Is (finished n text (module_name m.terminals) fs) x
outcome_spelled tilings one law n checked text x (parsed c v) fs m k = compiled_spelled tilings one law n text x c fs m
outcome_spelled tilings one law n checked text x (invalid us gs h p e r) fs m k =
    let ts = map (terminal_of text) us in
    refused_valid text ts gs (finished n text (module_name m.terminals) fs) x r (subst ModuleIsValid (module_one law ts fs gs (denoted tilings one text us h fs m) p) (k e))
outcome_spelled tilings one law n checked text x (failed e) fs m k = subst (Is (finished n text (module_name m.terminals) fs)) (sym e) refl

pub outcome_refused : TilingsAreUnique → AllShownIsOne → (n : Wanted) (checked : Bool) (text : List ℕ) (x : Answer) → Outcome n checked text x
    → (tokens : List Token) (last : Option Fault) → TextShows (plain text) no_names tokens last → (checked ≡ true → IsValidText text) → Is (compiled_with n text tokens last) x
outcome_refused tilings one n checked text x (parsed c v) tokens last s k = compiled_refused tilings one n text x c tokens last s
outcome_refused tilings one n checked text x (invalid us gs h p e r) tokens last s k =
    let ts = map (terminal_of text) us in
    let m : DenotesModule text gs = record { terminals = ts; shown = record { tokens = us; shown = h; are = refl }; spelled = p } in
    refused_valid text ts gs (compiled_with n text tokens last) x r (k e gs m)
outcome_refused tilings one n checked text x (failed e) tokens last s k = subst (Is (compiled_with n text tokens last)) (sym e) refl

-- The error of a module that is not valid.
abbrev Reports : List ℕ → List Token → List Field → Report → List Terminal → Type 0
Reports text us fs r ts = (m : Module ts fs) → IsReport text us m r

refused_report : TilingsAreUnique → AllShownIsOne → ReadingIsGrammar → (text : List ℕ) (us : List Token) (gs : List Field) (x : Answer) → TextShows (plain text) no_names us None → Module (map (terminal_of text) us) gs → IsErrAnd x (RefusesFields text (map (terminal_of text) us) gs)
    → (fs : List Field) (m : DenotesModule text fs) → IsErrAnd x (IsInvalid text fs m)
refused_report tilings one law text us gs (Ok out) h p r fs m = absurd r
refused_report tilings one law text us gs (Err None) h p r fs m = tt
refused_report tilings one law text us gs (Err (Some e)) h p r fs m =
    let vs = m.shown.tokens in
    let same : map (terminal_of text) us ≡ map (terminal_of text) vs = ap (map (terminal_of text)) (shows_one tilings one text us vs None None h m.shown.shown).0 in
    let told : Reports text vs gs e (map (terminal_of text) us) = r.reported vs m.shown.shown same in
    let here : Reports text vs gs e m.terminals = subst (Reports text vs gs e) (same ∙ sym m.shown.are) told in
    let are : gs ≡ fs = module_one law (map (terminal_of text) us) gs fs p (denoted tilings one text us h fs m) in
    subst (λ hs. Reports text vs hs e m.terminals) are here m.spelled

pub outcome_invalid : TilingsAreUnique → AllShownIsOne → ReadingIsGrammar → (n : Wanted) (checked : Bool) (text : List ℕ) (x : Answer) → Outcome n checked text x
    → checked ≡ true → (fs : List Field) (m : DenotesModule text fs) → (ModuleIsValid fs → ⊥) → IsErrAnd x (IsInvalid text fs m)
outcome_invalid tilings one law n checked text x (parsed c v) e fs m k = absurd (k (v e fs m))
outcome_invalid tilings one law n checked text x (invalid us gs h p e r) q fs m k = refused_report tilings one law text us gs x h p r fs m
outcome_invalid tilings one law n checked text x (failed e) q fs m k = subst (λ y. IsErrAnd y (IsInvalid text fs m)) (sym e) tt

-- The error of a text.
valid_error : (n : Wanted) (text : List ℕ) (x : Answer) → IsValidText text → IsRefused n text x → IfErr x (λ e. IfSome e (IsErrorOf n text))
valid_error n text (Ok out) v h = tt
valid_error n text (Err None) v h = tt
valid_error n text (Err (Some e)) v h = of_text v h

invalid_error : (n : Wanted) (text : List ℕ) (us : List Token) (fs : List Field) (x : Answer) → TextShows (plain text) no_names us None → Module (map (terminal_of text) us) fs → IsErrAnd x (RefusesFields text (map (terminal_of text) us) fs) → IfErr x (λ e. IfSome e (IsErrorOf n text))
invalid_error n text us fs (Ok out) h m r = tt
invalid_error n text us fs (Err None) h m r = tt
invalid_error n text us fs (Err (Some e)) h m r =
    of_invalid fs (record { terminals = map (terminal_of text) us; shown = record { tokens = us; shown = h; are = refl }; spelled = m }) r.invalid (r.reported us h refl m)

pub outcome_errors : TilingsAreUnique → AllShownIsOne → (n : Wanted) (checked : Bool) (text : List ℕ) (x : Answer) → Outcome n checked text x → checked ≡ true → IfErr x (λ e. IfSome e (IsErrorOf n text))
outcome_errors tilings one n checked text x (parsed c v) e = valid_error n text x (v e) (compiled_refused tilings one n text x c)
outcome_errors tilings one n checked text x (invalid us fs h m q r) e = invalid_error n text us fs x h m r
outcome_errors tilings one n checked text x (failed q) e = subst (λ y. IfErr y (λ e. IfSome e (IsErrorOf n text))) (sym q) tt

-- Without validation.
never : {P : Type 0} → ◌≡◌ {A = Bool} false true → P
never e = cc

pub unchecked_bytes : (n : Wanted) (text : List ℕ) (x : Answer) → HasValidBytes n false text x → HasBytes n text x
unchecked_bytes n text (Ok out) (fs, m, v, e) = (fs, m, e)
unchecked_bytes n text (Err e) h = tt

abbrev pub SpelledIf : Wanted → Bool → List ℕ → Answer → Type 0
SpelledIf n checked text x = (fs : List Field) (m : DenotesModule text fs) → (checked ≡ true → ModuleIsValid fs) → Is (finished n text (module_name m.terminals) fs) x

pub unchecked_spelled : (n : Wanted) (text : List ℕ) (x : Answer) → SpelledIf n false text x → (fs : List Field) (m : DenotesModule text fs) → Is (finished n text (module_name m.terminals) fs) x
unchecked_spelled n text x h fs m = h fs m never

abbrev pub RefusedIf : Wanted → Bool → List ℕ → Answer → Type 0
RefusedIf n checked text x = (tokens : List Token) (last : Option Fault) → TextShows (plain text) no_names tokens last → (checked ≡ true → IsValidText text) → Is (compiled_with n text tokens last) x

pub unchecked_refused : (n : Wanted) (text : List ℕ) (x : Answer) → RefusedIf n false text x → IsRefused n text x
unchecked_refused n text x h tokens last s = h tokens last s never

-- With validation.
pub valid_unnamed : (text : List ℕ) (x : Answer) → HasValidBytes Bare true text x → IfOk x (λ bytes. (fs : List Field) × DenotesModule text fs × ModuleIsValid fs × Fits fs × (bytes.items ≡ module_bytes fs))
valid_unnamed text (Ok out) (fs, m, v, e) =
    let f = fitted_is text (module_bytes fs) out.items (nat_lt (length (module_bytes fs)) (2 ^ 32)) refl e in (fs, m, v refl, f.0, f.1)
valid_unnamed text (Err e) h = tt

pub valid_complete : (text : List ℕ) (x : Answer) (r : Sections) → AnnotationsDefine text r → HasValidBytes (Complete r) true text x
    → IfOk x (λ bytes. (l : Label) × (fs : List Field) × (cs : List CustomSection) × (d : DenotesComplete text l fs cs) × ModuleIsValid d.fields × FitsComplete l fs cs × (bytes.items ≡ complete_bytes l fs cs))
valid_complete text (Ok out) (Ok a) h (fs, m, v, e) =
    let l = module_name m.terminals in
    let k = named_module a.names l in
    let gs = named_fields a.names fs in
    let f = fitted_is text (complete_bytes k gs a.customs) out.items (nat_lt (length (complete_bytes k gs a.customs)) (2 ^ 32)) refl e in
    let n : DenotesNamed text l fs = record { terminals = m.terminals; shown = m.shown; spelled = m.spelled; named = refl } in
    (k, gs, a.customs, record { identifier = l; fields = fs; names = a.names; denoted = n; sections = h; named = refl; renamed = refl }, v refl, f.0, f.1)
valid_complete text (Ok out) (Err f) h (fs, m, v, e) = cc
valid_complete text (Err e) r h k = tt

-- The result for a valid module with names of annotations and custom sections, which its text determines.
pub spelled_valid : (text : List ℕ) (x : Answer) → ((r : Sections) → AnnotationsDefine text r → SpelledIf (Complete r) true text x)
    → (l : Label) (fs : List Field) (cs : List CustomSection) (d : DenotesComplete text l fs cs) → ModuleIsValid d.fields → Is (fitted text (complete_bytes l fs cs)) x
spelled_valid text x h l fs cs d v =
    let a = annotations cs d.names in
    let m : DenotesModule text d.fields = record { terminals = d.denoted.terminals; shown = d.denoted.shown; spelled = d.denoted.spelled } in
    let is = h (Ok a) d.sections d.fields m (λ e. v) in
    let named : Is (finished (Complete (Ok a)) text d.identifier d.fields) x = subst (λ k. Is (finished (Complete (Ok a)) text k d.fields) x) d.denoted.named is in
    subst (λ k. Is (fitted text (complete_bytes k fs cs)) x) (sym d.named) (subst (λ gs. Is (fitted text (complete_bytes (named_module d.names d.identifier) gs cs)) x) (sym d.renamed) named)
