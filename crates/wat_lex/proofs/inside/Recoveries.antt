-- Steps of the functions that skip what a lexical error covers.
use Rattle.std.proofs.Common.{◌≡◌, ◌≢◌, ◌≤◌, ◌<◌, ◌+◌, ◌-◌, ◌⊎◌, ℕ, Bool, true, false, List, [], ◌∷◌, ◌++◌, length, drop, get_or, not, ◌&&◌, refl, arith, ap, sym, ◌∙◌, subst, length-append, length-drop, inl, inr}
use Rattle.std.specs.Prelude.{IsTrue, ◌==◌}
use Rattle.std.specs.Str.{chars, IsUtf8, IsCharBoundary}
use Rattle.std.proofs.lemmas.Bool.{both_ways, cases_lt, or_cases, ne_eqb, eqb-true, false≢true}
use Rattle.std.proofs.lemmas.List.{drop-drop, drop_more, get_or_past}
use Rattle.std.proofs.lemmas.Str.{encodes-chars, chars-nil, byte_from_char, IsCharBoundary-at_seam, IsCharBoundary-from_rest, IsUtf8-drop}
use lib.Utf8.{encode, encodes}
use Rattle.wat_lex.specs.grammar.Classes.{quote, size, is_run_char, is_line_end, Begins}
use Rattle.wat_lex.specs.grammar.Runs.{Piece, Run, none}
use Rattle.wat_lex.specs.grammar.Words.{WordIsAt}
use Rattle.wat_lex.specs.inside.Outlines.{BeginsWithFault}
use Rattle.wat_lex.specs.inside.Recovered.{PassedIn, PassedTo, BeginsFault, BeginsComment, Covered, SomeCovered}
use Rattle.wat_lex.specs.inside.ScannedLexemes.{LexemeFound}
use Rattle.wat_lex.specs.inside.ScannedStrings.{StringFaultFound}
use Rattle.wat_lex.specs.tokens.Faults.{Fault, FaultAt, IsComment, unexpected, dangling, confusing, in_string}
use Rattle.wat_lex.specs.tokens.Recovery.{is_inside, is_escaped, SkipsString, closed, line_end, text_end, escape, inside, Covers, character, opening, comment, run, ResumesAt}
use Rattle.wat_lex.specs.tokens.Setting.{Setting, allowing}
use Rattle.wat_lex.specs.declared.lexer.settings.Settings.{Settings}
use Rattle.wat_lex.specs.declared.lexer.kinds.TokenKind.{TokenKind}
use Rattle.wat_lex.specs.declared.lexer.faults.LexError.{LexError}
use Rattle.wat_lex.specs.declared.lexer.faults.LexError.TheVariants.{DanglingBlockComment, Unexpected, ConfusingUnicode}
use Rattle.wat_lex.specs.declared.lexer.faults.LexFault.{LexFault}
use Rattle.wat_lex.proofs.grammar.AsciiPrefixes.{led}
use Rattle.wat_lex.proofs.inside.CheckedComments.{halves}
use Rattle.wat_lex.proofs.inside.Confusing.{size-append}
use Rattle.wat_lex.proofs.inside.LineComments.{run_char_ascii}
use Rattle.wat_lex.proofs.inside.Outlines.{run_no_fault, refused_some}
use Rattle.wat_lex.proofs.inside.RunSteps.{Joined, joined_end, past_quote}
use Rattle.wat_lex.proofs.inside.StringElements.{left_of}
use Rattle.wat_lex.proofs.inside.StringSteps.{Took}
use Rattle.wat_lex.proofs.tokens.MovedTexts.{fault_fits}
use Rattle.wat_lex.proofs.tokens.OneFault.{CommentStart, block, line, comment_start, run_begins, fault_unique, no_word_at_fault}
use Rattle.wat_lex.proofs.tokens.OneRecovery.{covers_start, no_start, covers_cut}
use Rattle.wat_lex.proofs.tokens.ReportedFaults.{reported_within}
use Rattle.wat_lex.proofs.tokens.Scans.{some_size}

-- ---- a string at fault

-- the first byte is the first character, where that is one byte
first_byte : (text t : List ℕ) (c : ℕ) → IsUtf8 text → chars text ≡ c ∷ t → c < 128 → (0 < length text) × (get_or text 0 0 ≡ c)
first_byte text t c u e l =
    let bytes : text ≡ encode c ++ encodes t = sym (encodes-chars text u) ∙ ap encodes e in
    let b = byte_from_char text (encodes t) c bytes l in
    (some text e, b)
  where
    some : (x : List ℕ) → chars x ≡ c ∷ t → 0 < length x
    some [] k = let n : [] ≡ c ∷ t = sym chars-nil ∙ k in cc
    some (y ∷ ys) k = omega arith

escaped_ascii : (c : ℕ) → IsTrue (is_escaped c) → c < 128
escaped_ascii c h = elim (or_cases (c == 34) (c == 92) h) [ inl t ↦ omega (arith, eqb-true c 34 t) | inr t ↦ omega (arith, eqb-true c 92 t) ]

pub passed_char : (text rest : List ℕ) (c : ℕ) → IsUtf8 text → Took text c rest → length rest < length text → IsTrue (is_inside c) → (c ≡ 92 → Begins is_escaped (chars rest) → ⊥) → PassedIn text (length text - length rest)
passed_char text rest c u t l i n =
    let b = left_of text rest (c ∷ []) u t.utf8 t.spelled in
    record {
      utf8 = subst IsUtf8 (sym b.1) t.utf8;
      some = omega arith;
      range = omega arith;
      passes = λ r p. subst (λ x. SkipsString x r) (sym t.spelled) (inside i n (subst (λ x. SkipsString (chars x) r) b.1 p));
    }

pub passed_escape : (text rest : List ℕ) → IsUtf8 text → text ≡ 92 ∷ rest → Took text 92 rest → Begins is_escaped (chars rest) → PassedIn text 2
passed_escape text rest u e t b = by (chars rest) refl b
  where
    by : (cs : List ℕ) → chars rest ≡ cs → Begins is_escaped cs → PassedIn text 2
    by [] k g = absurd g
    by (d ∷ ds) k g =
        let s = first_byte rest ds d t.utf8 k (escaped_ascii d g) in
        let next = led rest d t.utf8 s.0 s.1 (escaped_ascii d g) in
        let two : drop 2 text ≡ drop 1 rest = ap (drop 2) e in
        record {
          utf8 = subst IsUtf8 (sym two) next.utf8;
          some = omega arith;
          range = let m = s.0 in omega (arith, ap length e, m);
          passes = λ r p.
              subst (λ x. SkipsString x r) (sym (t.spelled ∙ ap (λ x. 92 ∷ x) next.chars))
              (escape g (subst (λ x. SkipsString (chars x) r) two p));
        }

-- The bytes before the offset at belong to a string with an error, whatever follows.
pub record Passing (text : List ℕ) (at : ℕ) : Type 0 where
  pub utf8 : IsUtf8 (drop at text)
  pub range : at ≤ length text
  pub passes : (r : List ℕ) → SkipsString (chars (drop at text)) r → SkipsString (chars text) r

pub passing_start : (text : List ℕ) → IsUtf8 text → Passing text 0
passing_start text u = record { utf8 = u; range = omega arith; passes = λ r p. p }

pub passing_more : (text : List ℕ) (at n : ℕ) → Passing text at → PassedIn (drop at text) n → Passing text (at + n)
passing_more text at n h k =
    let past = drop-drop n at text in
    record {
      utf8 = subst IsUtf8 past k.utf8;
      range = let a = h.range in let b = k.range in omega (arith, a, b, length-drop at text);
      passes = λ r p. h.passes r (k.passes r (subst (λ x. SkipsString (chars x) r) (sym past) p));
    }

rest_size : (text : List ℕ) (at : ℕ) → at ≤ length text → IsUtf8 (drop at text) → at + size (chars (drop at text)) ≡ length text
rest_size text at l u = omega (arith, l, ap length (encodes-chars (drop at text) u), length-drop at text)

pub passed_quote : (text : List ℕ) (at : ℕ) → Passing text at → get_or text at 0 ≡ 34 → PassedTo text (at + 1)
passed_quote text at h e =
    elim (cases_lt at (length text)) [
      | inr past ↦ absurd (omega (arith, sym e ∙ get_or_past text at 0 past))
      | inl l ↦
          let k = led (drop at text) 34 h.utf8 (omega (arith, l, length-drop at text)) (ap (λ x. get_or x 0 0) (drop_more text at 0 l) ∙ e) (omega arith) in
          let past = drop-drop 1 at text in
          let u = subst IsUtf8 past k.utf8 in
          record {
            rest = chars (drop (at + 1) text);
            passes = h.passes _ (subst (λ x. SkipsString x (chars (drop (at + 1) text))) (sym (k.chars ∙ ap (λ x. 34 ∷ chars x) past)) closed);
            place = rest_size text (at + 1) (omega (arith, l)) u;
          }
    ]

pub passed_line : (text : List ℕ) (at : ℕ) → Passing text at → (Begins is_inside (chars (drop at text)) → ⊥) → get_or text at 0 ≢ 34 → PassedTo text at
passed_line text at h n q = by (chars (drop at text)) refl n
  where
    not_quote : (c : ℕ) (t : List ℕ) → chars (drop at text) ≡ c ∷ t → c ≢ 34
    not_quote c t e k =
        let b = first_byte (drop at text) t c h.utf8 e (omega (arith, k)) in
        let m = b.0 in
        let l : at < length text = omega (arith, m, length-drop at text) in
        q (sym (ap (λ x. get_or x 0 0) (drop_more text at 0 l)) ∙ b.1 ∙ k)

    ends : (c : ℕ) (a b : Bool) → a ≡ false → ((not a && not b) ≡ true → ⊥) → b ≡ true
    ends c true b e k = absurd (false≢true (sym e))
    ends c false true e k = refl
    ends c false false e k = absurd (k refl)

    by : (cs : List ℕ) → chars (drop at text) ≡ cs → (Begins is_inside cs → ⊥) → PassedTo text at
    by [] e m = record {
      rest = [];
      passes = h.passes [] (subst (λ x. SkipsString x []) (sym e) text_end);
      place = ap (λ x. at + size x) (sym e) ∙ rest_size text at h.range h.utf8;
    }
    by (c ∷ t) e m = record {
      rest = c ∷ t;
      passes = h.passes (c ∷ t) (subst (λ x. SkipsString x (c ∷ t)) (sym e) (line_end (ends c (c == quote) (is_line_end c) (ne_eqb c quote (not_quote c t e)) m)));
      place = ap (λ x. at + size x) (sym e) ∙ rest_size text at h.range h.utf8;
    }

-- ---- a run

pub run_covered : (flags : Settings) (text : List ℕ) (len ids strs : ℕ) (f : LexFault) (n : ℕ) → Joined flags text len ids strs → len < length text → get_or text len 0 ≡ 34
    → StringFaultFound flags (drop (len + 1) text) f → PassedTo (drop (len + 1) text) n → SomeCovered flags text (len + 1 + n)
run_covered flags text len ids strs f n j l e w p =
    let inner = drop (len + 1) text in
    let run_to : Run flags (chars text) _ (34 ∷ chars inner) = j.run [] (34 ∷ chars inner) (subst (λ x. Run flags x [] (34 ∷ chars inner)) (sym (past_quote flags text len ids strs j l e)) none) in
    record {
      error = f.error;
      begins = (w.at, in_string run_to w.fault);
      covered = record {
        rest = p.rest;
        covers = run run_to w.fault p.passes;
        place = let q = p.place in omega (arith, q, length-drop (len + 1) text, l);
      };
    }

pub run_goes_wrong : (flags : Settings) (text : List ℕ) (len ids strs : ℕ) → IsUtf8 text → BeginsWithFault flags text → is_run_char (get_or text 0 0) ≡ true → Joined flags text len ids strs → (len < length text → get_or text len 0 ≢ 34) → ⊥
run_goes_wrong flags text len ids strs u h r j q = run_no_fault flags text _ u (refused_some flags text h) r (joined_end flags text len ids strs j q) h

pub refused_by : (flags : Settings) (text : List ℕ) (e : LexError) → IsUtf8 text → BeginsFault flags text e → BeginsWithFault flags text
refused_by flags text e u h =
    let fits = fault_fits flags (chars text) e h.0 h.1 in
    (record { offset = length text - size h.0; error = e }, record { at = h.0; fault = h.1; place = omega (arith, fits, ap length (encodes-chars text u)) })

pub covered_by : (flags : Settings) (text : List ℕ) (e : LexError) (n : ℕ) → BeginsFault flags text e → SomeCovered flags text n → Covered flags text e n
covered_by flags text e n h k =
    subst (λ x. Covered flags text x n) (fault_unique flags (chars text) k.error e k.begins.0 h.0 k.begins.1 h.1).0 k.covered

-- ---- a character, the start of a comment, a comment

unexpected_cut : (flags : Settings) (s : List ℕ) (e : LexError) (at : List ℕ) (c : ℕ) → Fault flags s e at → e ≡ Unexpected c → (t : List ℕ) × (s ≡ c ∷ t)
unfolding covers_start
unexpected_cut flags s e at c (unexpected {c = d} {t = t} n) k = (t, let a : Unexpected d ≡ Unexpected c = k in cc)
unexpected_cut flags s e at c (dangling n) k = let a : DanglingBlockComment ≡ Unexpected c = k in cc
unexpected_cut flags s e at c (confusing {c = d} prefix off kind_is there cut clear is lt) k = let a : ConfusingUnicode d ≡ Unexpected c = k in cc
unexpected_cut flags s e at c (in_string {t = t} r g) k = absurd (no_start flags t e (Unexpected c) at g k refl)

pub character_covered : (flags : Settings) (text : List ℕ) (c : ℕ) → IsUtf8 text → BeginsFault flags text (Unexpected c) → Covered flags text (Unexpected c) (length (encode c))
character_covered flags text c u h =
    let k = unexpected_cut flags (chars text) (Unexpected c) h.0 c h.1 refl in
    record {
      rest = k.0;
      covers = subst (λ x. Covers flags x (Unexpected c) k.0) (sym k.1) character;
      place = sym (length-append (encode c) (encodes k.0)) ∙ ap size (sym k.1) ∙ ap length (encodes-chars text u);
    }

dangling_cut : (flags : Settings) (s : List ℕ) (e : LexError) (at : List ℕ) → Fault flags s e at → e ≡ DanglingBlockComment → (t : List ℕ) × (s ≡ 40 ∷ 59 ∷ t)
unfolding covers_start
dangling_cut flags s e at (unexpected {c = d} n) k = let a : Unexpected d ≡ DanglingBlockComment = k in cc
dangling_cut flags s e at (dangling {t = t} n) k = (t, refl)
dangling_cut flags s e at (confusing {c = d} prefix off kind_is there cut clear is lt) k = let a : ConfusingUnicode d ≡ DanglingBlockComment = k in cc
dangling_cut flags s e at (in_string {t = t} r g) k = absurd (no_start flags t e DanglingBlockComment at g k refl)

pub opening_covered : (flags : Settings) (text : List ℕ) → IsUtf8 text → BeginsFault flags text DanglingBlockComment → Covered flags text DanglingBlockComment 2
unfolding encode
opening_covered flags text u h =
    let k = dangling_cut flags (chars text) DanglingBlockComment h.0 h.1 refl in
    record {
      rest = k.0;
      covers = subst (λ x. Covers flags x DanglingBlockComment k.0) (sym k.1) opening;
      place = sym (size-append (40 ∷ 59 ∷ []) k.0) ∙ ap size (sym k.1) ∙ ap length (encodes-chars text u);
    }

-- the first two bytes of a comment
comment_bytes : (text s : List ℕ) → IsUtf8 text → chars text ≡ s → CommentStart s → ((get_or text 0 0 ≡ 40) ⊎ (get_or text 0 0 ≡ 59)) × (get_or text 1 0 ≡ 59)
unfolding encode
comment_bytes text s u e (block {t = t} h) =
    let bytes : text ≡ 40 ∷ 59 ∷ encodes t = sym (encodes-chars text u) ∙ ap encodes e in
    (inl (ap (λ x. get_or x 0 0) bytes), ap (λ x. get_or x 1 0) bytes)
comment_bytes text s u e (line {t = t}) =
    let bytes : text ≡ 59 ∷ 59 ∷ encodes t = sym (encodes-chars text u) ∙ ap encodes e in
    (inr (ap (λ x. get_or x 0 0) bytes), ap (λ x. get_or x 1 0) bytes)

pub comment_begun : (flags : Settings) (text : List ℕ) → IsUtf8 text → BeginsComment flags text → ((get_or text 0 0 ≡ 40) ⊎ (get_or text 0 0 ≡ 59)) × (get_or text 1 0 ≡ 59)
comment_begun flags text u h = comment_bytes text (chars text) u refl (comment_start (allowing flags) (chars text) h.kind h.word h.rest h.is_comment h.is_at)

-- a fault that is neither in a run nor of the text's first characters is in a comment
run_bytes : (flags : Settings) (text t : List ℕ) (ps : List Piece) → IsUtf8 text → Run flags (chars text) ps (quote ∷ t) → is_run_char (get_or text 0 0) ≡ true
run_bytes flags text t ps u g = by (chars text) refl (run_begins flags (chars text) (quote ∷ t) ps t refl g)
  where
    by : (cs : List ℕ) → chars text ≡ cs → Begins is_run_char cs → is_run_char (get_or text 0 0) ≡ true
    by [] e b = absurd b
    by (c ∷ cs) e b = ap is_run_char (first_byte text cs c u e (run_char_ascii c b)).1 ∙ b

pub in_comment : (flags : Settings) (text : List ℕ) (e : LexError) → IsUtf8 text → BeginsFault flags text e → is_run_char (get_or text 0 0) ≡ false → ((c : ℕ) → e ≡ Unexpected c → ⊥) → e ≢ DanglingBlockComment
    → BeginsComment flags text × ((c : ℕ) × (e ≡ ConfusingUnicode c))
in_comment flags text e u h r n m = by (chars text) e h.0 refl h.1 n m
  where
    by : (s : List ℕ) (e : LexError) (at : List ℕ) → chars text ≡ s → Fault flags s e at → ((c : ℕ) → e ≡ Unexpected c → ⊥) → e ≢ DanglingBlockComment → BeginsComment flags text × ((c : ℕ) × (e ≡ ConfusingUnicode c))
    by s e at k (unexpected {c = c} i) n m = absurd (n c refl)
    by s e at k (dangling i) n m = absurd (m refl)
    by s e at k (confusing {c = c} {kind = kind} {w = w} {rest = rest} prefix off kind_is there cut clear is lt) n m =
        (record { kind = kind; word = w; rest = rest; is_comment = kind_is; is_at = subst (λ x. WordIsAt (allowing flags) x kind w rest) (sym k) there }, (c, refl))
    by s e at k (in_string {t = t} {ps = ps} g i) n m = absurd (both_ways (is_run_char (get_or text 0 0)) r (run_bytes flags text t ps u (subst (λ x. Run flags x ps (quote ∷ t)) (sym k) g)))

pub comment_covered : (flags : Settings) (text : List ℕ) (kind : TokenKind) (n c : ℕ) → IsUtf8 text → IsComment kind → LexemeFound (allowing flags) text (record { kind = kind; len = n }) → Covered flags text (ConfusingUnicode c) n
comment_covered flags text kind n c u k h = record {
  rest = h.rest;
  covers = comment k h.is_at;
  place = omega (arith, h.len, size-append h.word h.rest, ap size h.is_at.cut, ap length (encodes-chars text u));
}

pub comment_there : (flags : Settings) (text : List ℕ) → BeginsComment flags text → BeginsWithFault (allowing flags) text → ⊥
comment_there flags text h r = no_word_at_fault (allowing flags) (chars text) h.kind h.word h.rest r.0.error r.1.at h.is_at r.1.fault

-- ---- the whole text

pub covered_cut : (flags : Settings) (text : List ℕ) (e : LexError) (n : ℕ) → IsUtf8 text → Covered flags text e n → IsCharBoundary text n × (0 < n)
covered_cut flags text e n u h =
    let k = covers_cut flags (chars text) e h.rest h.covers in
    let p = halves text k.prefix h.rest u k.cut in
    let long : n ≡ size k.prefix = omega (arith, h.place, size-append k.prefix h.rest, ap size k.cut, ap length (encodes-chars text u)) in
    (subst (IsCharBoundary text) (sym long) (IsCharBoundary-at_seam text (encodes k.prefix) (encodes h.rest) p.bytes (h.rest, (p.right, refl))), let s = some_size k.prefix k.some in omega (arith, s, long))

pub resumes : (s : Setting) (p : ℕ) (f : LexFault) (n : ℕ) → p ≤ length s.text → Covered s.flags (drop p s.text) f.error n → ResumesAt s p f (p + n)
resumes s p f n l h = record {
  rest = h.rest;
  covers = h.covers;
  place = let k = h.place in omega (arith, k, l, length-drop p s.text);
}

pub resumes_on : (s : Setting) (p : ℕ) (f : LexFault) (n : ℕ) → IsUtf8 s.text → IsCharBoundary s.text p → Covered s.flags (drop p s.text) f.error n → IsCharBoundary s.text (p + n) × (0 < n)
resumes_on s p f n u b h =
    let k = covered_cut s.flags (drop p s.text) f.error n (IsUtf8-drop s.text p u b) h in
    (IsCharBoundary-from_rest s.text p n b.0 k.0, k.1)

pub reported : (s : Setting) (p : ℕ) (f : LexFault) (n : ℕ) → IsUtf8 s.text → IsCharBoundary s.text p → FaultAt s p f → Covered s.flags (drop p s.text) f.error n → (p ≤ f.offset) × (f.offset ≤ p + n)
reported s p f n u b h k =
    let text = chars (drop p s.text) in
    let whole = ap length (encodes-chars (drop p s.text) (IsUtf8-drop s.text p u b)) in
    let long = length-drop p s.text in
    let left = b.0 in
    let place = h.place in
    let rest = k.place in (
      omega (arith, fault_fits s.flags text f.error h.at h.fault, whole, long, left, place),
      omega (arith, reported_within s.flags text f.error f.error h.at k.rest refl h.fault k.covers, long, left, place, rest),
    )
