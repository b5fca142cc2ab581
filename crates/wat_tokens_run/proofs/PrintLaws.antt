-- Output of a text that is lexed twice: first for its error, and then for its tokens.
use Rattle.std.proofs.Common.{◌≡◌, ◌<◌, ◌^◌, ℕ, List, [], ◌++◌, length, refl, sym, ap, ◌∙◌, subst, inl}
use Rattle.std.specs.Prelude.{Option, Some, None, Result, Ok, Err, IfOk, OnOk, OnErr, drop, flat_map, String}
use Rattle.std.specs.declared.alloc.Global.{Global}
use Rattle.std.proofs.lemmas.List.{append-nil}
use Rattle.std.specs.Option.{option_map}
use Rattle.std.specs.Io.KnownBytes.{Appends}
use Rattle.std.specs.Str.{IsUtf8}
use Rattle.wat_lex.specs.errors.Errors.{Report, lexical}
use Rattle.wat_lex.specs.tokens.EverySetting.{TilingsAreUnique}
use Rattle.wat_lex.specs.tokens.Setting.{Setting}
use Rattle.wat_lex.specs.tokens.Tiling.{MaximalTiling}
use Rattle.wat_lex.specs.declared.lexer.faults.LexFault.{LexFault}
use Rattle.wat_lex.specs.declared.lexer.kinds.Token.{Token}
use Rattle.wat_lex.specs.declared.lexer.settings.Settings.{Settings}
use Rattle.wat_lexer_parser.specs.laws.AllShown.{AllShown}
use Rattle.wat_lexer_parser.specs.laws.BlankTexts.{blank_text, BlankTextsShowTheSame}
use Rattle.wat_lexer_parser.specs.laws.ShownLaws.{AllShownIsOne}
use Rattle.wat_lexer_parser.specs.names.RegisteredNames.{no_names}
use Rattle.wat_lexer_parser.specs.parser.State.{report_of as shown_report}
use Rattle.wat_lexer_parser.specs.places.Source.{Source, IsRead}
use Rattle.wat_tokens_io.specs.Blocks.{AppendsEach, AppendsEachCut, ReportsEnd}
use Rattle.wat_tokens_io.specs.JsonRows.{json_line, json_lines, json_open}
use Rattle.wat_tokens_io.specs.Lines.{line}
use Rattle.wat_tokens_io.specs.Streams.{AppendsPrefix, failure_after}
use Rattle.wat_tokens_io.specs.declared.failed.Failed.{Failed}
use Rattle.wat_tokens_io.specs.lemmas.BlockLaws.{cut_after, cut_longer}
use Rattle.wat_tokens_io.specs.lemmas.KnownBytes.{appends_more, appends_none}
use Rattle.wat_tokens_output.specs.Blanks.{Blanks}
use Rattle.wat_tokens_output.specs.JsonLists.{JsonLists, JsonShows, json_report}
use Rattle.wat_tokens_output.specs.Lists.{Lists}
use Rattle.wat_tokens_output.specs.Refusals.{answered}
use Rattle.wat_tokens_output.specs.Shows.{with_names, ShownEnds, ShownText, Shows, AppendsShown, AppendsShownCut}
use Rattle.wat_tokens_output.specs.declared.input.RunFailure.{RunFailure}
use Rattle.wat_tokens_run.specs.JsonWrites.{AppendsRows, AppendsRowsCut}
use Rattle.wat_tokens_run.specs.Printed.{AppendsText, AppendsCut}
use Rattle.wat_tokens_run.specs.Writes.{Writes}

abbrev pub setting : Settings → List ℕ → Setting
setting settings text = record { text = text; flags = settings }

-- The error report of the end of a tiling.
abbrev pub report_of : List ℕ → Option LexFault → Option (Option Report)
report_of text ending = option_map (λ f. Some (lexical text f)) ending

-- The end that was found first is the end of the tiling, because tilings are unique.
same_ending : TilingsAreUnique → (s : Setting) (error : Option (Option Report)) (reports : ReportsEnd s error) (each : (ts : List Token) × (f : Option LexFault) × MaximalTiling s 0 ts f) → error ≡ report_of s.text each.1
same_ending one s error reports each =
    let same = one s 0 reports.ends.tokens each.0 reports.ending each.1 reports.ends.tiling each.2 in
    reports.reported ∙ ap (report_of s.text) same.1

pub lists_written : TilingsAreUnique → (settings : Settings) (text : List ℕ) (error : Option (Option Report)) (old new : Option (List ℕ)) → IsUtf8 text → length text < 2 ^ 32 → ReportsEnd (setting settings text) error → AppendsEach line (setting settings text) old new
    → AppendsText (Lists settings text) error old new
lists_written one settings text error old new u l reports each = record {
  text = flat_map line each.tokens;
  printed = record {
    utf8 = u;
    short = l;
    fault = each.ending;
    list = record { tokens = each.tokens; tiling = each.tiling; lines = refl };
    reported = same_ending one (setting settings text) error reports (each.tokens, each.ending, each.tiling);
  };
  appended = each.appended;
}

pub lists_cut : (settings : Settings) (text : List ℕ) (old new : Option (List ℕ)) → IsUtf8 text → length text < 2 ^ 32 → AppendsEachCut line (setting settings text) old new → AppendsCut (Lists settings text) old new
lists_cut settings text old new u l each = record {
  text = flat_map line each.tokens;
  error = report_of text each.ending;
  printed = record {
    utf8 = u;
    short = l;
    fault = each.ending;
    list = record { tokens = each.tokens; tiling = each.tiling; lines = refl };
    reported = refl;
  };
  appended = each.appended;
}

-- The JSON lines of the raw tokens of a text, and of its error.
rows : TilingsAreUnique → (settings : Settings) (file : Option (List ℕ)) (text begin last : List ℕ) (error : Option (Option Report)) → IsUtf8 text → length text < 2 ^ 32 → ReportsEnd (setting settings text) error → begin ≡ json_open file → last ≡ json_report begin text error
    → (tokens : List Token) (ending : Option LexFault) → MaximalTiling (setting settings text) 0 tokens ending → JsonLists settings file text (json_lines begin text tokens ++ last) error
rows one settings file text begin last error u l reports b e tokens ending tiling = record {
  utf8 = u;
  short = l;
  tokens = tokens;
  fault = ending;
  tiling = tiling;
  lines = ap (λ x. json_lines begin text tokens ++ x) e ∙ ap (λ x. json_lines x text tokens ++ json_report x text error) b;
  reported = same_ending one (setting settings text) error reports (tokens, ending, tiling);
}

pub json_written : TilingsAreUnique → (settings : Settings) (file : Option (List ℕ)) (text begin last : List ℕ) (error : Option (Option Report)) (old new : Option (List ℕ)) → IsUtf8 text → length text < 2 ^ 32 → ReportsEnd (setting settings text) error → begin ≡ json_open file → last ≡ json_report begin text error
    → AppendsRows begin last (setting settings text) old new → AppendsText (JsonLists settings file text) error old new
json_written one settings file text begin last error old new u l reports b e h = record {
  text = json_lines begin text h.tokens ++ last;
  printed = rows one settings file text begin last error u l reports b e h.tokens h.ending h.tiling;
  appended = h.appended;
}

pub json_cut : TilingsAreUnique → (settings : Settings) (file : Option (List ℕ)) (text begin last : List ℕ) (error : Option (Option Report)) (old new : Option (List ℕ)) → IsUtf8 text → length text < 2 ^ 32 → ReportsEnd (setting settings text) error → begin ≡ json_open file → last ≡ json_report begin text error
    → AppendsRowsCut begin last (setting settings text) old new → AppendsCut (JsonLists settings file text) old new
json_cut one settings file text begin last error old new u l reports b e h = record {
  text = json_lines begin text h.tokens ++ last;
  error = error;
  printed = rows one settings file text begin last error u l reports b e h.tokens h.ending h.tiling;
  appended = h.appended;
}

-- The JSON lines of the tokens, and then the last line.
pub rows_alone : (begin last : List ℕ) (s : Setting) (old new : Option (List ℕ)) → last ≡ [] → AppendsEach (json_line begin s.text) s old new → AppendsRows begin last s old new
rows_alone begin last s old new e h = record { tokens = h.tokens; ending = h.ending; tiling = h.tiling; appended = subst (λ x. Appends old new x) (sym (ap (λ x. json_lines begin s.text h.tokens ++ x) e ∙ append-nil (json_lines begin s.text h.tokens))) h.appended }

pub rows_and_last : (begin last : List ℕ) (s : Setting) (old mid new : Option (List ℕ)) → AppendsEach (json_line begin s.text) s old mid → Appends mid new last → AppendsRows begin last s old new
rows_and_last begin last s old mid new h k = record { tokens = h.tokens; ending = h.ending; tiling = h.tiling; appended = appends_more old mid new (json_lines begin s.text h.tokens) last (json_lines begin s.text h.tokens ++ last) h.appended k refl }

pub rows_cut : (begin last : List ℕ) (s : Setting) (old new : Option (List ℕ)) → AppendsEachCut (json_line begin s.text) s old new → AppendsRowsCut begin last s old new
rows_cut begin last s old new h = record { tokens = h.tokens; ending = h.ending; tiling = h.tiling; appended = cut_longer old new (json_lines begin s.text h.tokens) last (json_lines begin s.text h.tokens ++ last) h.appended refl }

pub last_cut : (begin last : List ℕ) (s : Setting) (old mid new : Option (List ℕ)) → AppendsEach (json_line begin s.text) s old mid → AppendsPrefix mid new last → AppendsRowsCut begin last s old new
last_cut begin last s old mid new h k = record { tokens = h.tokens; ending = h.ending; tiling = h.tiling; appended = cut_after old mid new (json_lines begin s.text h.tokens) last (json_lines begin s.text h.tokens ++ last) h.appended k refl }

-- The visible tokens that were counted are the ones that are written, because they are unique.
shown_written : AllShownIsOne → (s : Source) (names : List (String Global)) (each : Token → List ℕ) (last : List ℕ) (count : ℕ) (error : Option (Option Report)) (old new : Option (List ℕ)) → IsRead s → ShownEnds s (with_names no_names names) 0 count error → AppendsShown each last s (with_names no_names names) 0 old new
    → (rows : List ℕ) × ShownText each s.setting names rows error × Appends old new (rows ++ last)
shown_written one s names each last count error old new r e h =
    let same = one s.setting.text s.ending (with_names no_names names) (drop 0 s.tokens) h.tokens e.tokens h.fault e.fault h.shown e.shown in (
      flat_map each h.tokens,
      record {
        source = s;
        setting = refl;
        read = r;
        shown = record { tokens = h.tokens; fault = e.fault; shown = subst (AllShown s.setting.text s.ending (with_names no_names names) (drop 0 s.tokens) h.tokens) same.1 h.shown; lines = refl; reported = e.reported };
      },
      h.appended,
    )

shown_cut : (s : Source) (names : List (String Global)) (each : Token → List ℕ) (last : List ℕ) (old new : Option (List ℕ)) → IsRead s → AppendsShownCut each last s (with_names no_names names) 0 old new
    → (rows : List ℕ) × (error : Option (Option Report)) × ShownText each s.setting names rows error × AppendsPrefix old new (rows ++ last)
shown_cut s names each last old new r h = (
  flat_map each h.tokens,
  option_map (λ f. Some (shown_report s.setting.text f)) h.fault,
  record {
    source = s;
    setting = refl;
    read = r;
    shown = record { tokens = h.tokens; fault = h.fault; shown = h.shown; lines = refl; reported = refl };
  },
  h.appended,
)

pub shows_written : AllShownIsOne → (settings : Settings) (s : Source) (names : List (String Global)) (text : List ℕ) (count : ℕ) (error : Option (Option Report)) (old new : Option (List ℕ)) → IsUtf8 text → length text < 2 ^ 32 → s.setting ≡ setting settings text → IsRead s → ShownEnds s (with_names no_names names) 0 count error
    → AppendsShown line [] s (with_names no_names names) 0 old new → AppendsText (Shows settings names text) error old new
shows_written one settings s names text count error old new u l i r e h =
    let all = shown_written one s names line [] count error old new r e h in
    record {
      text = all.0;
      printed = record { utf8 = u; short = l; shown = subst (λ x. ShownText line x names all.0 error) i all.1 };
      appended = subst (Appends old new) (append-nil all.0) all.2;
    }

pub shows_cut : (settings : Settings) (s : Source) (names : List (String Global)) (text : List ℕ) (old new : Option (List ℕ)) → IsUtf8 text → length text < 2 ^ 32 → s.setting ≡ setting settings text → IsRead s → AppendsShownCut line [] s (with_names no_names names) 0 old new → AppendsCut (Shows settings names text) old new
shows_cut settings s names text old new u l i r h =
    let all = shown_cut s names line [] old new r h in
    record {
      text = all.0;
      error = all.1;
      printed = record { utf8 = u; short = l; shown = subst (λ x. ShownText line x names all.0 all.1) i all.2 };
      appended = subst (AppendsPrefix old new) (append-nil all.0) all.3;
    }

pub json_shown_written : AllShownIsOne → (settings : Settings) (file : Option (List ℕ)) (s : Source) (names : List (String Global)) (text begin last : List ℕ) (count : ℕ) (error : Option (Option Report)) (old new : Option (List ℕ)) → IsUtf8 text → length text < 2 ^ 32 → s.setting ≡ setting settings text → IsRead s → begin ≡ json_open file → last ≡ json_report begin text error → ShownEnds s (with_names no_names names) 0 count error
    → AppendsShown (json_line begin text) last s (with_names no_names names) 0 old new → AppendsText (JsonShows settings file names text) error old new
json_shown_written one settings file s names text begin last count error old new u l i r b e ends h =
    let all = shown_written one s names (json_line begin text) last count error old new r ends h in
    record {
      text = all.0 ++ last;
      printed = record {
        utf8 = u;
        short = l;
        shown = record { rows = all.0; shown = subst (λ x. ShownText (json_line x text) (setting settings text) names all.0 error) b (subst (λ x. ShownText (json_line begin text) x names all.0 error) i all.1); lines = ap (λ x. all.0 ++ x) e ∙ ap (λ x. all.0 ++ json_report x text error) b };
      };
      appended = all.2;
    }

-- The error of a list that is cut by a failed write is the one found while counting.
pub json_shown_cut : AllShownIsOne → (settings : Settings) (file : Option (List ℕ)) (s : Source) (names : List (String Global)) (text begin last : List ℕ) (count : ℕ) (error : Option (Option Report)) (old new : Option (List ℕ)) → IsUtf8 text → length text < 2 ^ 32 → s.setting ≡ setting settings text → IsRead s → begin ≡ json_open file → last ≡ json_report begin text error → ShownEnds s (with_names no_names names) 0 count error
    → AppendsShownCut (json_line begin text) last s (with_names no_names names) 0 old new → AppendsCut (JsonShows settings file names text) old new
json_shown_cut one settings file s names text begin last count error old new u l i r b e ends h =
    let same = one s.setting.text s.ending (with_names no_names names) (drop 0 s.tokens) h.tokens ends.tokens h.fault ends.fault h.shown ends.shown in
    let rows = flat_map (json_line begin text) h.tokens in
    let shown : ShownText (json_line begin text) s.setting names rows error = record {
      source = s;
      setting = refl;
      read = r;
      shown = record { tokens = h.tokens; fault = ends.fault; shown = subst (AllShown s.setting.text s.ending (with_names no_names names) (drop 0 s.tokens) h.tokens) same.1 h.shown; lines = refl; reported = ends.reported };
    } in
    record {
      text = rows ++ last;
      error = error;
      printed = record {
        utf8 = u;
        short = l;
        shown = record { rows = rows; shown = subst (λ x. ShownText (json_line x text) (setting settings text) names rows error) b (subst (λ x. ShownText (json_line begin text) x names rows error) i shown); lines = ap (λ x. rows ++ x) e ∙ ap (λ x. rows ++ json_report x text error) b };
      };
      appended = h.appended;
    }

no_ending : (text : List ℕ) (ending : Option LexFault) → None ≡ report_of text ending → ending ≡ None
no_ending text None e = refl
no_ending text (Some f) e = absurd (let d : None ≡ Some (Some (lexical text f)) = e in cc)

blanks : BlankTextsShowTheSame → (settings : Settings) (text : List ℕ) (ts : List Token) → IsUtf8 text → length text < 2 ^ 32 → MaximalTiling (setting settings text) 0 ts None → Blanks settings text (flat_map (blank_text text) ts) None
blanks same settings text ts u l tiling = record {
  utf8 = u;
  short = l;
  fault = None;
  blank = record { tokens = ts; tiling = tiling; written = record { bytes = refl; blanked = same (setting settings text) ts u tiling } };
  reported = refl;
}

-- A text without a lexical error has a tiling up to its end.
tiled_whole : TilingsAreUnique → (s : Setting) (reports : ReportsEnd s None) (ts : List Token) (f : Option LexFault) → MaximalTiling s 0 ts f → MaximalTiling s 0 ts None
tiled_whole one s reports ts f tiling = subst (MaximalTiling s 0 ts) (no_ending s.text f (same_ending one s None reports (ts, f, tiling))) tiling

faulty : (settings : Settings) (text : List ℕ) (ending : Option LexFault) (ts : List Token) (e : Option Report) → IsUtf8 text → length text < 2 ^ 32 → MaximalTiling (setting settings text) 0 ts ending → Some e ≡ report_of text ending → Blanks settings text [] (Some e)
faulty settings text None ts e u l tiling r = absurd (let d : Some e ≡ None = r in cc)
faulty settings text (Some f) ts e u l tiling r = record {
  utf8 = u;
  short = l;
  fault = Some f;
  blank = record { tokens = ts; tiling = tiling; written = refl };
  reported = r;
}

-- A text with a lexical error has no output.
pub blanks_faulty : (settings : Settings) (text : List ℕ) (e : Option Report) (a : Option (List ℕ)) → IsUtf8 text → length text < 2 ^ 32 → ReportsEnd (setting settings text) (Some e) → AppendsText (Blanks settings text) (Some e) a a
blanks_faulty settings text e a u l reports = record {
  text = [];
  printed = faulty settings text reports.ending reports.ends.tokens e u l reports.ends.tiling reports.reported;
  appended = appends_none a;
}

-- A function that returns the result of a write, and an error of the text, satisfies `Writes`.
pub writes : {W : Type 0} (held : W → Option (List ℕ)) (failure : W → Option Failed) (prints : List ℕ → Option (Option Report) → Type 0) (output output' : W) (error : Option (Option Report)) (written : Result (Unit {0}) Failed) (answer : Result (Option (Option Report)) RunFailure)
    → answer ≡ answered written error → OnOk written (AppendsText prints error (held output) (held output')) → OnErr written (AppendsCut prints (held output) (held output'))
    → failure output ≡ None → failure output' ≡ failure_after (failure output) written → Writes held failure prints output output' answer
writes held failure prints output output' error (Ok t) answer is all cut fresh failed = subst (Writes held failure prints output output') (sym is) (record {
  written = all;
  cut = λ f e. cc;
  unwritten = tt;
  write = sym (failed ∙ fresh);
})
writes held failure prints output output' error (Err f) answer is all cut fresh failed = subst (Writes held failure prints output output') (sym is) (record {
  written = tt;
  cut = λ g e. cut;
  unwritten = inl (f, refl);
  write = sym failed;
})

pub writes_ok : {W : Type 0} (held : W → Option (List ℕ)) (failure : W → Option Failed) (prints : List ℕ → Option (Option Report) → Type 0) (output output' : W) (error : Option (Option Report)) → AppendsText prints error (held output) (held output') → failure output' ≡ None
    → Writes held failure prints output output' (Ok error)
writes_ok held failure prints output output' error all fresh = record {
  written = all;
  cut = λ f e. cc;
  unwritten = tt;
  write = sym fresh;
}

-- The output is `text`, and `error` is returned.
abbrev pub Gathered : List ℕ → Option (Option Report) → List ℕ → Option (Option Report) → Type 0
Gathered text error = λ bytes e. (bytes ≡ text) × (e ≡ error)

pub gathered_ok : {T E : Type 0} (text : List ℕ) (error : Option (Option Report)) (old new : Option (List ℕ)) (r : Result T E) → OnOk r (Appends old new text) → OnOk r (AppendsText (Gathered text error) error old new)
gathered_ok text error old new (Ok t) h = record { text = text; printed = (refl, refl); appended = h }
gathered_ok text error old new (Err e) h = tt

pub gathered_cut : {T E : Type 0} (text : List ℕ) (error : Option (Option Report)) (old new : Option (List ℕ)) (r : Result T E) → OnErr r (AppendsPrefix old new text) → OnErr r (AppendsCut (Gathered text error) old new)
gathered_cut text error old new (Ok t) h = tt
gathered_cut text error old new (Err e) h = record { text = text; error = error; printed = (refl, refl); appended = h }

of_gathered : (prints : List ℕ → Option (Option Report) → Type 0) (text : List ℕ) (error : Option (Option Report)) (bytes : List ℕ) (e : Option (Option Report)) → prints text error → Gathered text error bytes e → prints bytes e
of_gathered prints text error bytes e p g = subst (λ b. prints b e) (sym g.0) (subst (λ x. prints text x) (sym g.1) p)

if_written : (prints : List ℕ → Option (Option Report) → Type 0) (text : List ℕ) (error : Option (Option Report)) (old new : Option (List ℕ)) (answer : Result (Option (Option Report)) RunFailure) → prints text error
    → IfOk answer (λ e. AppendsText (Gathered text error) e old new) → IfOk answer (λ e. AppendsText prints e old new)
if_written prints text error old new (Ok e) p h = record { text = h.text; printed = of_gathered prints text error h.text e p h.printed; appended = h.appended }
if_written prints text error old new (Err e) p h = tt

-- If a task prints `text` and `error`, writing `text` satisfies `Writes` for that task.
pub writes_as : {W : Type 0} (held : W → Option (List ℕ)) (write_failed : W → Option Failed) (prints : List ℕ → Option (Option Report) → Type 0) (output output' : W) (text : List ℕ) (error : Option (Option Report)) (answer : Result (Option (Option Report)) RunFailure)
    → prints text error → Writes held write_failed (Gathered text error) output output' answer → Writes held write_failed prints output output' answer
writes_as held write_failed prints output output' text error answer p h = record {
  written = if_written prints text error (held output) (held output') answer p h.written;
  cut = λ f d. let k = h.cut f d in record { text = k.text; error = k.error; printed = of_gathered prints text error k.text k.error p k.printed; appended = k.appended };
  unwritten = h.unwritten;
  write = h.write;
}
