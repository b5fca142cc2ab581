-- The result of compiling a text, by the results of the passes.
use Rattle.std.proofs.Common.{◌≡◌, ◌∙◌, ◌<◌, ◌^◌, ℕ, List, refl, sym, ap, subst, length, map, Option, Some, None, Result, Ok, Err, true, false, Bool}
use Rattle.std.specs.Prelude.{nat_lt, if◌then◌else◌, Vec, IfOk}
use Rattle.std.specs.List.{All}
use Rattle.std.specs.declared.alloc.Global.{Global}
use Rattle.std.specs.Option.{option_map}
use Rattle.std.specs.Str.{IsUtf8}
use Rattle.std.proofs.lemmas.Str.{IsCharBoundary-start}
use Rattle.wat_lexer_parser.specs.places.Source.{Source}
use Rattle.std.proofs.lemmas.Bool.Decides.{Decides-ltb}
use Rattle.wat_lex.specs.declared.lexer.kinds.Token.{Token}
use Rattle.wat_lex.specs.errors.Errors.{Report, Custom, IsUnlessMemory, report_in}
use Rattle.wat_lex.specs.tokens.ReadableTokens.{IsTokenOf}
use Rattle.wat_lex.specs.tokens.Tiling.{MaximalTiling}
use Rattle.wat_lex.specs.tokens.EverySetting.{EachBoundaryHasTiling, TilingsAreUnique}
use Rattle.wat_lexer_parser.specs.declared.parser.fault.Fault.{Fault}
use Rattle.wat_lexer_parser.specs.laws.AllShown.{AllShown}
use Rattle.wat_lexer_parser.specs.laws.Blanking.{TextShows}
use Rattle.wat_lexer_parser.specs.laws.ShownLaws.{AllShownIsOne, SomethingIsAllShown}
use Rattle.wat_lexer_parser.specs.names.RegisteredNames.{no_names}
use Rattle.wat_lexer_parser.specs.parser.State.{Answers, report_of}
use Rattle.wat_module_ast.specs.declared.error.FaultKind.{FaultKind}
use Rattle.wat_module_ast.specs.Grammar as grammar
use Rattle.wat_module_tokens.specs.Terminals.{Terminal, Label}
use Rattle.wat_module_ast.specs.Fields.{Field}
use Rattle.wat_module_ast.specs.Modules.{Module}
use Rattle.wat_module_parser.specs.Law.{ReadingIsGrammar}
use Rattle.wat_module_parser.specs.Reading as reading
use Rattle.wat_module_lexer.specs.TokenTerminals.{plain, terminal_of}
use Rattle.wat_module_lexer.specs.Shown.{TerminalsShown, TextShown}
use Rattle.wat_lexer_parser.specs.lemmas.SpellingLaws.{some_source}
use Rattle.wat_module_annotations.specs.Names.{ModuleNames}
use Rattle.wat_module_annotations.specs.Renaming.{HasNames, names_of}
use Rattle.wat_module_custom.specs.Customs.{CustomSection, custom_sections, plain as custom_plain}
use Rattle.wat_module_custom.specs.Customs as custom
use Rattle.wat_module_encoder.specs.Binary.{module_bytes}
use Rattle.wat_module_encoder.specs.CustomSections.{complete_bytes}
use Rattle.wat_modules.specs.Compiling.{DenotesComplete, DenotesModule, DenotesNamed, Fits, FitsComplete, FitsNamed, AnnotationsDefine, Sections, annotations, both, named_fields, named_module, Wanted, Bare, Named, Complete, named_bytes, compiled_with, compiled_by, compiled_tokens, finished, fitted, module_name, too_long}
use Rattle.wat_modules.specs.Messages.{message, place}

-- The visible tokens of a text, and the error after them, are unique.
pub shows_one : TilingsAreUnique → AllShownIsOne → (text : List ℕ) (us vs : List Token) (f g : Option Fault) → TextShows (plain text) no_names us f → TextShows (plain text) no_names vs g → (us ≡ vs) × (f ≡ g)
shows_one tilings one text us vs f g h k =
    let t = tilings (plain text) 0 h.tokens k.tokens h.ending k.ending h.tiling k.tiling in
    one text k.ending no_names k.tokens us vs f g (subst (λ e. AllShown text e no_names k.tokens us f) t.1 (subst (λ ts. AllShown text h.ending no_names ts us f) t.0 h.all)) k.all

-- what was shown
pub record Seen (text : List ℕ) (items : List Token) (error : Option (Option Report)) : Type 0 where
  pub fault : Option Fault
  pub shows : TextShows (plain text) no_names items fault
  pub reported : error ≡ option_map (λ f. Some (report_of text f)) fault
  pub readable : All (IsTokenOf text) items

seen : (text : List ℕ) (items : List Token) (error : Option (Option Report)) → TextShown text items error → Seen text items error
seen text items error h =
    let s = h.source in
    let e = ap (λ x. x.text) h.setting in
    let f = h.shown.fault in record {
      fault = f;
      shows = record {
        tokens = s.tokens;
        ending = s.ending;
        tiling = subst (λ x. MaximalTiling x 0 s.tokens s.ending) h.setting h.read;
        all = subst (λ t. AllShown t s.ending no_names s.tokens items f) e (subst (λ us. AllShown s.setting.text s.ending no_names s.tokens us f) (sym h.shown.lines) h.shown.shown);
      };
      reported = h.shown.reported ∙ ap (λ t. option_map (λ f. Some (report_of t f)) f) e;
      readable = subst (λ t. All (IsTokenOf t) items) e h.shown.readable;
    }

abbrev pub Answer : Type 0
Answer = Result (Vec ℕ Global) (Option Report)

abbrev pub Is : Result (List ℕ) Report → Answer → Type 0
Is m r = Answers {T = Vec ℕ Global} true (λ bytes. bytes.items) m r

-- the result for a module that the tokens are
pub of_fields : ReadingIsGrammar → (n : Wanted) (text : List ℕ) (us : List Token) (ts : List Terminal) (fs : List Field) (r : Answer) → Module ts fs → Is (finished n text (module_name ts) fs) r → ts ≡ map (terminal_of text) us → Is (compiled_tokens n text us) r
unfolding compiled_tokens
of_fields law n text us ts fs r m a t =
    let q : reading.whole (map (terminal_of text) us) ≡ Ok fs = ap reading.whole (sym t) ∙ (law ts fs).1 m in
    subst (λ x. Is (compiled_by n (module_name (map (terminal_of text) us)) text us x) r) (sym q) (subst (λ x. Is (finished n text (module_name x) fs) r) t a)

-- The report of a syntax error at which `left` tokens remain.
pub readable_of : (text : List ℕ) (items : List Token) (error : Option (Option Report)) → TextShown text items error → All (IsTokenOf text) items
readable_of text items error h = (seen text items error h).readable

abbrev pub fault_report : List ℕ → List Token → FaultKind → ℕ → Report
fault_report text us kind left = report_in text (place text us left) (Custom (message text us kind left))

unless_memory : (m : Report) (error : Option Report) → IsUnlessMemory error m → Is (Err m) (Err error)
unless_memory m None h = refl
unless_memory m (Some e) h = ap Err (sym h)

pub of_fault : (names : Wanted) (text : List ℕ) (us : List Token) (ts : List Terminal) (kind : FaultKind) (left : List Terminal) (n : ℕ) (error : Option Report) → reading.whole ts ≡ Err (kind, left) → n ≡ length left → IsUnlessMemory error (fault_report text us kind n) → ts ≡ map (terminal_of text) us → Is (compiled_tokens names text us) (Err error)
unfolding compiled_tokens
of_fault names text us ts kind left n error e l h t =
    let q : reading.whole (map (terminal_of text) us) ≡ Err (kind, left) = ap reading.whole (sym t) ∙ e in
    subst (λ x. Is (compiled_by names (module_name (map (terminal_of text) us)) text us x) (Err error)) (sym q) (unless_memory (fault_report text us kind (length left)) error (subst (λ k. IsUnlessMemory error (fault_report text us kind k)) l h))

-- The tokens of a text without an error are the same if they are computed again.
pub fault_of_tokens : TilingsAreUnique → AllShownIsOne → (text : List ℕ) (items us : List Token) (shown : Option (Option Report)) (kind : FaultKind) (left : ℕ) (error : Option Report) → TextShown text items shown → IsUnlessMemory error (fault_report text items kind left) → TextShows (plain text) no_names us None → IsUnlessMemory error (fault_report text us kind left)
fault_of_tokens tilings one text items us shown kind left error s h k =
    let a = seen text items shown s in
    subst (λ ts. IsUnlessMemory error (fault_report text ts kind left)) (shows_one tilings one text items us a.fault None a.shows k).0 h

pub tokens_again : TilingsAreUnique → AllShownIsOne → (text : List ℕ) (items us : List Token) (shown : Option (Option Report)) → TextShown text items shown → TextShows (plain text) no_names us None → items ≡ us
tokens_again tilings one text items us shown s k =
    let a = seen text items shown s in (shows_one tilings one text items us a.fault None a.shows k).0

-- The result is that of all visible tokens of the text and the error after them.
abbrev pub IsRefused : Wanted → List ℕ → Answer → Type 0
IsRefused n text r = (tokens : List Token) (last : Option Fault) → TextShows (plain text) no_names tokens last → Is (compiled_with n text tokens last) r

refused_by : TilingsAreUnique → AllShownIsOne → (n : Wanted) (text : List ℕ) (us : List Token) (f : Option Fault) (r : Answer) → TextShows (plain text) no_names us f → Is (compiled_with n text us f) r → IsRefused n text r
refused_by tilings one n text us f r h a = λ vs g k.
    let e = shows_one tilings one text us vs f g h k in subst (λ x. Is (compiled_with n text vs x) r) e.1 (subst (λ x. Is (compiled_with n text x f) r) e.0 a)

spelled_by : ReadingIsGrammar → (n : Wanted) (text : List ℕ) (r : Answer) → IsRefused n text r → (fs : List Field) (m : DenotesModule text fs) → Is (finished n text (module_name m.terminals) fs) r
unfolding compiled_tokens
spelled_by law n text r h = λ fs s.
    subst (λ ts. Is (finished n text (module_name ts) fs) r) (sym s.shown.are)
    (subst (λ q. Is (compiled_by n (module_name (map (terminal_of text) s.shown.tokens)) text s.shown.tokens q) r) (ap reading.whole (sym s.shown.are) ∙ (law s.terminals fs).1 s.spelled) (h s.shown.tokens None s.shown.shown))

abbrev pub HasBytes : Wanted → List ℕ → Answer → Type 0
HasBytes n text r = IfOk r (λ bytes. (fs : List Field) × (m : DenotesModule text fs) × (finished n text (module_name m.terminals) fs ≡ Ok bytes.items))

pub fitted_is : (text : List ℕ) (bytes out : List ℕ) (b : Bool) → nat_lt (length bytes) (2 ^ 32) ≡ b → (if b then Ok bytes else Err (too_long text)) ≡ Ok out → (length bytes < 2 ^ 32) × (out ≡ bytes)
fitted_is text bytes out true e h = let k : bytes ≡ out = cc in ((Decides-ltb (length bytes) (2 ^ 32)).0 e, sym k)
fitted_is text bytes out false e h = cc

bytes_of : ReadingIsGrammar → (n : Wanted) (text : List ℕ) (us : List Token) (out : Vec ℕ Global) → TextShows (plain text) no_names us None → (q : Result (List Field) grammar.Fault) → reading.whole (map (terminal_of text) us) ≡ q → compiled_by n (module_name (map (terminal_of text) us)) text us q ≡ Ok out.items
    → (fs : List Field) × (m : DenotesModule text fs) × (finished n text (module_name m.terminals) fs ≡ Ok out.items)
bytes_of law n text us out h (Ok fs) e k =
    (fs, record { terminals = map (terminal_of text) us; shown = record { tokens = us; shown = h; are = refl }; spelled = (law (map (terminal_of text) us) fs).0 e }, k)
bytes_of law n text us out h (Err f) e k = cc

bytes_by : ReadingIsGrammar → (n : Wanted) (text : List ℕ) (us : List Token) (f : Option Fault) (r : Answer) → TextShows (plain text) no_names us f → Is (compiled_with n text us f) r → HasBytes n text r
unfolding compiled_tokens
bytes_by law n text us None (Ok out) h a = bytes_of law n text us out h (reading.whole (map (terminal_of text) us)) refl a
bytes_by law n text us (Some f) (Ok out) h a = cc
bytes_by law n text us f (Err e) h a = tt

-- the fault that was shown
fault_is : (n : Wanted) (text : List ℕ) (us : List Token) (f : Option Fault) (e : Option Report) → Some e ≡ option_map (λ f. Some (report_of text f)) f → Is (compiled_with n text us f) (Err e)
fault_is n text us (Some f) e h = let k : e ≡ Some (report_of text f) = cc in subst (λ x. Is (Err (report_of text f)) (Err x)) (sym k) refl
fault_is n text us None e h = cc

-- none was shown
no_fault : (n : Wanted) (text : List ℕ) (us : List Token) (f : Option Fault) (r : Answer) → None ≡ option_map (λ f. Some (report_of text f)) f → Is (compiled_tokens n text us) r → Is (compiled_with n text us f) r
no_fault n text us None r h a = a
no_fault n text us (Some f) r h a = cc

shows_end : (text : List ℕ) (us : List Token) (f : Option Fault) → None ≡ option_map (λ f. Some (report_of text f)) f → TextShows (plain text) no_names us f → TextShows (plain text) no_names us None
shows_end text us None e h = h
shows_end text us (Some f) e h = cc

-- The result is that of some visible tokens of the text and the error after them.
pub record IsCompiled (n : Wanted) (text : List ℕ) (r : Answer) : Type 0 where
  pub tokens : List Token
  pub fault : Option Fault
  pub shows : TextShows (plain text) no_names tokens fault
  pub is : Is (compiled_with n text tokens fault) r

pub compiled_fault : (n : Wanted) (text : List ℕ) (ts : List Terminal) (e : Option Report) → TerminalsShown text ts (Some e) → IsCompiled n text (Err e)
compiled_fault n text ts e h =
    let s = seen text h.tokens (Some e) h.shown in
    record { tokens = h.tokens; fault = s.fault; shows = s.shows; is = fault_is n text h.tokens s.fault e s.reported }

-- The result is that of all tokens with these terminals.
abbrev pub IsOfTerminals : Wanted → List ℕ → List Terminal → Answer → Type 0
IsOfTerminals n text ts r = (tokens : List Token) → TextShows (plain text) no_names tokens None → ts ≡ map (terminal_of text) tokens → Is (compiled_tokens n text tokens) r

pub compiled_end : (n : Wanted) (text : List ℕ) (ts : List Terminal) (r : Answer) → TerminalsShown text ts None → IsOfTerminals n text ts r → IsCompiled n text r
compiled_end n text ts r h k =
    let s = seen text h.tokens None h.shown in
    record { tokens = h.tokens; fault = s.fault; shows = s.shows; is = no_fault n text h.tokens s.fault r s.reported (k h.tokens (shows_end text h.tokens s.fault s.reported s.shows) h.are) }

-- The tokens of a text without an error.
pub record Ended (text : List ℕ) (ts : List Terminal) : Type 0 where
  pub tokens : List Token
  pub shows : TextShows (plain text) no_names tokens None
  pub are : ts ≡ map (terminal_of text) tokens

pub ended : (text : List ℕ) (ts : List Terminal) → TerminalsShown text ts None → Ended text ts
ended text ts h =
    let s = seen text h.tokens None h.shown in
    record { tokens = h.tokens; shows = shows_end text h.tokens s.fault s.reported s.shows; are = h.are }

-- A text with an error denotes no module.
pub not_ended : TilingsAreUnique → AllShownIsOne → (text : List ℕ) (ts : List Terminal) (e : Option Report) → TerminalsShown text ts (Some e) → (fs : List Field) → DenotesModule text fs → ⊥
not_ended tilings one text ts e h fs m =
    let s = seen text h.tokens (Some e) h.shown in
    let f : s.fault ≡ None = (shows_one tilings one text h.tokens m.shown.tokens s.fault None s.shows m.shown.shown).1 in
    let r : Some e ≡ None = s.reported ∙ ap (λ f. option_map (λ f. Some (report_of text f)) f) f in cc

pub compiled_refused : TilingsAreUnique → AllShownIsOne → (n : Wanted) (text : List ℕ) (r : Answer) → IsCompiled n text r → IsRefused n text r
compiled_refused tilings one n text r h = refused_by tilings one n text h.tokens h.fault r h.shows h.is

pub compiled_spelled : TilingsAreUnique → AllShownIsOne → ReadingIsGrammar → (n : Wanted) (text : List ℕ) (r : Answer) → IsCompiled n text r → (fs : List Field) (m : DenotesModule text fs) → Is (finished n text (module_name m.terminals) fs) r
compiled_spelled tilings one law n text r h = spelled_by law n text r (compiled_refused tilings one n text r h)

pub compiled_bytes : ReadingIsGrammar → (n : Wanted) (text : List ℕ) (r : Answer) → IsCompiled n text r → HasBytes n text r
compiled_bytes law n text r h = bytes_by law n text h.tokens h.fault r h.shows h.is

-- The bytes without a name section.
pub unnamed_by : (text : List ℕ) (x : Answer) → HasBytes Bare text x → IfOk x (λ bytes. (fs : List Field) × DenotesModule text fs × Fits fs × (bytes.items ≡ module_bytes fs))
unnamed_by text (Ok out) (fs, m, e) =
    let f = fitted_is text (module_bytes fs) out.items (nat_lt (length (module_bytes fs)) (2 ^ 32)) refl e in (fs, m, f.0, f.1)
unnamed_by text (Err e) h = tt

-- The bytes with a name section, by the identifier of the module.
pub named_by : (text : List ℕ) (x : Answer) → HasBytes Named text x → IfOk x (λ bytes. (l : Label) × (fs : List Field) × DenotesNamed text l fs × FitsNamed l fs × (bytes.items ≡ named_bytes l fs))
named_by text (Ok out) (fs, m, e) =
    let l = module_name m.terminals in
    let f = fitted_is text (named_bytes l fs) out.items (nat_lt (length (named_bytes l fs)) (2 ^ 32)) refl e in
    (l, fs, record { terminals = m.terminals; shown = m.shown; spelled = m.spelled; named = refl }, f.0, f.1)
named_by text (Err e) h = tt

-- The bytes with a name section and what annotations define.
pub complete_by : (text : List ℕ) (x : Answer) (r : Sections) → AnnotationsDefine text r → HasBytes (Complete r) text x
    → IfOk x (λ bytes. (l : Label) × (fs : List Field) × (cs : List CustomSection) × DenotesComplete text l fs cs × FitsComplete l fs cs × (bytes.items ≡ complete_bytes l fs cs))
complete_by text (Ok out) (Ok a) h (fs, m, e) =
    let l = module_name m.terminals in
    let k = named_module a.names l in
    let gs = named_fields a.names fs in
    let f = fitted_is text (complete_bytes k gs a.customs) out.items (nat_lt (length (complete_bytes k gs a.customs)) (2 ^ 32)) refl e in
    let n : DenotesNamed text l fs = record { terminals = m.terminals; shown = m.shown; spelled = m.spelled; named = refl } in
    (k, gs, a.customs, record { identifier = l; fields = fs; names = a.names; denoted = n; sections = h; named = refl; renamed = refl }, f.0, f.1)
complete_by text (Ok out) (Err f) h (fs, m, e) = cc
complete_by text (Err e) r h k = tt

-- The result for a module with this identifier, which its tokens determine.
pub spelled_named : (w : Wanted) (text : List ℕ) (x : Answer) → ((fs : List Field) (m : DenotesModule text fs) → Is (finished w text (module_name m.terminals) fs) x) → (l : Label) (fs : List Field) → DenotesNamed text l fs → Is (finished w text l fs) x
spelled_named w text x h = λ l fs d. subst (λ k. Is (finished w text k fs) x) d.named (h fs (record { terminals = d.terminals; shown = d.shown; spelled = d.spelled }))

-- The result for a module with names of annotations and custom sections, which its text determines.
pub spelled_complete : (text : List ℕ) (x : Answer) → ((r : Sections) → AnnotationsDefine text r → (fs : List Field) (m : DenotesModule text fs) → Is (finished (Complete r) text (module_name m.terminals) fs) x)
    → (l : Label) (fs : List Field) (cs : List CustomSection) → DenotesComplete text l fs cs → Is (fitted text (complete_bytes l fs cs)) x
spelled_complete text x h l fs cs d =
    let a = annotations cs d.names in
    let is = spelled_named (Complete (Ok a)) text x (h (Ok a) d.sections) d.identifier d.fields d.denoted in
    subst (λ k. Is (fitted text (complete_bytes k fs cs)) x) (sym d.named) (subst (λ gs. Is (fitted text (complete_bytes (named_module d.names d.identifier) gs cs)) x) (sym d.renamed) is)

-- An error in the annotations is the result.
finished_fault : (text : List ℕ) (l : Label) (fs : List Field) (r : Sections) (e : Report) → r ≡ Err e → finished (Complete r) text l fs ≡ Err e
finished_fault text l fs r e h = ap (λ x. finished (Complete x) text l fs) h

pub customs_fault : {T : Type 0} (f : T → List CustomSection) (text : List ℕ) (l : Label) (fs : List Field) (r : Sections) (customs : Result (List CustomSection) Report) (names : Result ModuleNames Report) (e : Option Report) → r ≡ both customs names → Answers {T = T} true f customs (Err e) → Is (finished (Complete r) text l fs) (Err e)
customs_fault f text l fs r customs names None are h = refl
customs_fault f text l fs r customs names (Some e) are h = finished_fault text l fs r e (are ∙ ap (λ c. both c names) h)

pub names_fault : {T : Type 0} (f : T → ModuleNames) (text : List ℕ) (l : Label) (fs : List Field) (r : Sections) (customs : Result (List CustomSection) Report) (names : Result ModuleNames Report) (cs : List CustomSection) (e : Option Report) → r ≡ both customs names → customs ≡ Ok cs → Answers {T = T} true f names (Err e) → Is (finished (Complete r) text l fs) (Err e)
names_fault f text l fs r customs names cs None are are_customs h = refl
names_fault f text l fs r customs names cs (Some e) are are_customs h = finished_fault text l fs r e (are ∙ ap (λ c. both c names) are_customs ∙ ap (both (Ok cs)) h)

-- The bytes of a module with what its annotations define.
pub both_bytes : (text : List ℕ) (l : Label) (fs : List Field) (r : Sections) (customs : Result (List CustomSection) Report) (names : Result ModuleNames Report) (cs : List CustomSection) (ns : ModuleNames) (x : Answer) → r ≡ both customs names → customs ≡ Ok cs → names ≡ Ok ns → Is (fitted text (complete_bytes (named_module ns l) (named_fields ns fs) cs)) x → Is (finished (Complete r) text l fs) x
both_bytes text l fs r customs names cs ns x are are_customs are_names a =
    let e : r ≡ Ok (annotations cs ns) = are ∙ ap (λ c. both c names) are_customs ∙ ap (both (Ok cs)) are_names in
    subst (λ q. Is (finished (Complete q) text l fs) x) (sym e) a

-- The annotations of each text define something, or have an error.
pub some_sections : EachBoundaryHasTiling → (text : List ℕ) → IsUtf8 text → (r : Sections) × AnnotationsDefine text r
some_sections tiled text u =
    let s = some_source tiled (custom_plain text) false u in
    let cs = custom_sections s.0 in
    let ns = names_of s.0 in
    let c : custom.HasSections text cs = record { source = s.0; setting = s.2; track = s.3; read = s.1; are = refl } in
    let n : HasNames text ns = record { source = s.0; setting = s.2; track = s.3; read = s.1; are = refl } in
    (both cs ns, record { customs = cs; names = ns; has_customs = c; has_names = n; are = refl })

-- A text denotes at most one module.
pub one_module : TilingsAreUnique → AllShownIsOne → ReadingIsGrammar → (text : List ℕ) (fs gs : List Field) → DenotesModule text fs → DenotesModule text gs → fs ≡ gs
one_module tilings one law text fs gs h k =
    let e = shows_one tilings one text h.shown.tokens k.shown.tokens None None h.shown.shown k.shown.shown in
    let t : h.terminals ≡ k.terminals = h.shown.are ∙ ap (map (terminal_of text)) e.0 ∙ sym k.shown.are in
    let is : ◌≡◌ {A = Result (List Field) grammar.Fault} (Ok fs) (Ok gs) = sym ((law h.terminals fs).1 h.spelled) ∙ ap reading.whole t ∙ (law k.terminals gs).1 k.spelled in cc

-- Each text has visible tokens and an end or an error after them.
pub shows_some : EachBoundaryHasTiling → SomethingIsAllShown → (text : List ℕ) → IsUtf8 text → (tokens : List Token) × (last : Option Fault) × TextShows (plain text) no_names tokens last
shows_some tiled some text u =
    let t = tiled (plain text) 0 u (IsCharBoundary-start text u) in
    let s : Source = record { setting = plain text; track = true; tokens = t.0; ending = t.1 } in let a = some s no_names 0 u t.2 in (a.0, a.1, record { tokens = t.0; ending = t.1; tiling = t.2; all = a.2 })
