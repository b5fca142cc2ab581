-- The result of a peek at a row.
use Rattle.std.proofs.Common.{◌≡◌, ◌≢◌, ◌≤◌, ◌<◌, ◌+◌, ◌-◌, ℕ, zero, suc, List, [], ◌∷◌, false, refl, sym, ap, ◌∙◌, subst, arith, length, drop, inl, inr, true≢false, eq-eqb}
use Rattle.std.proofs.Common.{drop-drop, length-drop, Some, None, Ok, Err}
use Rattle.std.specs.Prelude.{Option, Result, slice_get, IsTrue, IsFalse, ◌==◌, if◌then◌else◌}
use Rattle.std.proofs.lemmas.Bool.{cases_Bool, eqb-true}
use Rattle.std.specs.Str.{IsUtf8}
use Rattle.std.proofs.lemmas.List.{drop_all, drop-map}
use Rattle.std.proofs.lemmas.Option.{slice_get_within}
use Rattle.std.specs.declared.alloc.AllocError.{AllocError}
use Rattle.wat_lex.specs.tokens.ReadableTokens.{word_of}
use Rattle.wat_lex.specs.values.Names.{HasNoEscape}
use Rattle.wat_lex.specs.declared.lexer.faults.LexError.{LexError}
use Rattle.wat_lex.specs.declared.lexer.faults.LexError.TheVariants as lex
use Rattle.wat_lex.specs.declared.lexer.faults.LexFault.{LexFault}
use Rattle.wat_lex.specs.declared.lexer.kinds.Token.{Token}
use Rattle.wat_lexer_parser.specs.declared.parser.fault.FaultKind.TheVariants.{Lex}
use Rattle.wat_lexer_parser.specs.groups.Sorts.{Group, NoGroup}
use Rattle.wat_lexer_parser.specs.names.RegisteredNames.{Names, is_registered}
use Rattle.wat_lexer_parser.specs.places.Source.{Source}
use Rattle.wat_lexer_parser.specs.laws.Counting.{CountingShowsTheSame, PlainTokensAreShown, counting}
use Rattle.wat_lexer_parser.specs.shown.Shown.{Finding, HasName, IsMarked, IsMisnamed, Shown, ended, unclosed_ending, none_left, Shown.none_follows as ends_there, Shown.no_annotation as takes_other, Shown.misnamed as refuses, Shown.registered as takes, Shown.skipped as skips, Shown.unclosed as leaves_open}
use Rattle.wat_lexer_parser.specs.shown.Showing.{OneThingShown, SomethingShown}
use Rattle.wat_c_records.specs.Links.{ClosedWithin, IsLink, codes_of}
use Rattle.wat_c_records.specs.Looks.{Looks, Looks.token, Looks.end, Looks.fault, Looks.unclosed, Looks.misnamed, Looks.memory, shown_after}
use Rattle.wat_c_records.specs.Places.{AreRowsOf, ending_code, raw_position}
use Rattle.wat_c_records.specs.Rows.{fault_code}
use Rattle.wat_c_records.specs.inside.Naming.{NameMeans, annotation_of, reason_in_group, reason_at_end}
use Rattle.wat_c_records.specs.inside.Steps.{Steps, step_by}
use Rattle.wat_c_records.specs.inside.Naming.{NameMeans.registered as means_registered, NameMeans.other as means_other}
use Rattle.wat_c_records.specs.inside.Naming.{NameMeans.misnamed as means_misnamed, NameMeans.memory as means_memory}
use Rattle.wat_c_records.specs.declared.counting.Row.{Row}
use Rattle.wat_c_records.specs.declared.looks.NameMeaning.{NameMeaning}
use Rattle.wat_c_records.specs.declared.looks.NameMeaning.TheVariants as named
use Rattle.wat_c_records.specs.declared.answers.NotVisible.{NotVisible}
use Rattle.wat_c_records.specs.declared.answers.NotVisible.TheVariants as unseen
use Rattle.wat_c_records.specs.declared.looks.Step.TheVariants as step
use Rattle.wat_c_records.proofs.CodedGroups.{codes_closed, tokens_closed}
use Rattle.wat_c_records.proofs.Coding.{code_annotation, code_marked, code_of, codes, marked_kind}
use Rattle.wat_c_records.proofs.Fronts.{front, none_past}
use Rattle.wat_c_records.proofs.Lifting.{lifted, look_in, shown_lifted, shows}
use Rattle.wat_c_records.proofs.Linking.{link_to}
use Rattle.wat_c_records.proofs.RawPlaces.{counts}
use Rattle.wat_c_records.proofs.Known.{Tells, annotation_known, code_known, codes_known, length_known, tells}

-- The fact about the name of an annotation that each classification implies.
pub is_taken : (x : List ℕ) (t : Token) (n : Names) (m : NameMeaning) → NameMeans x t n m → m ≡ named.Registered
    → (bytes : List ℕ) × HasName x t bytes × IsTrue (is_registered n bytes)
is_taken x t n m (means_registered {x = bytes} h i) e = (bytes, h, i)
is_taken x t n m (means_other h i) e = cc
is_taken x t n m (means_misnamed w) e = cc
is_taken x t n m (means_memory w) e = cc

pub is_skipped : (x : List ℕ) (t : Token) (n : Names) (m : NameMeaning) → NameMeans x t n m → m ≡ named.Other
    → (bytes : List ℕ) × HasName x t bytes × IsFalse (is_registered n bytes)
is_skipped x t n m (means_registered h i) e = cc
is_skipped x t n m (means_other {x = bytes} h i) e = (bytes, h, i)
is_skipped x t n m (means_misnamed w) e = cc
is_skipped x t n m (means_memory w) e = cc

pub is_refused : (x : List ℕ) (t : Token) (n : Names) (m : NameMeaning) → NameMeans x t n m → m ≡ named.Misnamed → (f : LexError) × IsMisnamed x t f
is_refused x t n m (means_registered h i) e = cc
is_refused x t n m (means_other h i) e = cc
is_refused x t n m (means_misnamed {e = f} w) e = (f, w)
is_refused x t n m (means_memory w) e = cc

pub is_escaped : (x : List ℕ) (t : Token) (n : Names) (m : NameMeaning) (a : AllocError) → NameMeans x t n m → m ≡ named.Memory a
    → HasNoEscape (word_of x t) → ⊥
is_escaped x t n m a (means_registered h i) e = cc
is_escaped x t n m a (means_other h i) e = cc
is_escaped x t n m a (means_misnamed w) e = cc
is_escaped x t n m a (means_memory w) e = w

-- The code of an error is not 0.
numbered : (e : LexError) → (fault_code e == 0) ≡ false
numbered lex.DanglingBlockComment = refl
numbered (lex.Unexpected c) = refl
numbered (lex.InvalidStringElement c) = refl
numbered (lex.InvalidStringEscape c) = refl
numbered (lex.InvalidHexDigit c) = refl
numbered (lex.InvalidDigit c) = refl
numbered (lex.Expected w f) = refl
numbered lex.UnexpectedEof = refl
numbered lex.NumberTooBig = refl
numbered (lex.InvalidUnicodeValue c) = refl
numbered lex.LoneUnderscore = refl
numbered (lex.ConfusingUnicode c) = refl
numbered lex.InvalidUtf8Id = refl
numbered lex.EmptyId = refl
numbered lex.EmptyAnnotation = refl

linked : (link : ℕ) → (link == 0) ≡ false → link ≢ 0
linked link f z = true≢false (sym (eq-eqb link 0 z) ∙ f)

pub link_forward : (s : Source) (rows : List Row) (why number : ℕ) (row : Row) → AreRowsOf s rows why → slice_get rows number ≡ Some row
    → row.link ≢ 0 → number < row.link
link_forward s rows why number row are there n = (elim row.link as (λ l. IsLink (codes_of rows) number l → l ≢ 0 → number < l) [
  | zero ↦ λ h m. absurd (m refl)
  | suc j ↦ λ h m. omega (arith, (link_to (codes_of rows) number (suc j) h).0)
]) (are.linked number row (omega arith) there) n

module _ (some : SomethingShown) (one : OneThingShown) (same : CountingShowsTheSame) (s : Source) (utf8 : IsUtf8 s.setting.text) (rows : List Row)
    (why : ℕ) (are : AreRowsOf s rows why) (n : Names) (number : ℕ) where
  abbrev cs : List Token
  cs = counting s.tokens

  shown_as : (a : Finding) → look_in s n number ≡ a → shown_after s number n ≡ lifted s.tokens a
  shown_as a e = shown_lifted some one same s utf8 are.read n number ∙ ap (lifted s.tokens) e

  answer_token : (t : Token) → slice_get cs number ≡ Some t → look_in s n number ≡ Ok (Some (t, drop (number + 1) cs)) → Looks s number n (Ok number)
  answer_token t h e =
      let k : length cs - length (drop (number + 1) cs) ≡ number + 1 = omega (arith, slice_get_within cs number t h, length-drop (number + 1) cs) in
      token h (shown_as (Ok (Some (t, drop (number + 1) cs))) e ∙ ap (λ m. Ok (Some (t, raw_position s.tokens m))) k)

  ended_by : (z : Option LexFault) → s.ending ≡ z → why ≡ ending_code z → shown_after s number n ≡ lifted s.tokens (ended z)
      → Looks s number n (Err (reason_at_end why))
  ended_by None e f h = subst (λ w. Looks s number n (Err (reason_at_end w))) (sym f) (end e h)
  ended_by (Some z) e f h =
      subst (λ w. Looks s number n (Err (reason_at_end w))) (sym f)
      (subst (λ b. Looks s number n (Err (if b then unseen.TextEnd else unseen.TextFault))) (sym (numbered z.error)) (fault e h))

  answer_ended : look_in s n number ≡ ended s.ending → Looks s number n (Err (reason_at_end why))
  answer_ended e = ended_by s.ending refl are.ends (shown_as (ended s.ending) e)

  left_by : (z : Option LexFault) (t : Token) → s.ending ≡ z → why ≡ ending_code z → slice_get cs number ≡ Some t → IsMarked s.setting.text t
      → shown_after s number n ≡ lifted s.tokens (unclosed_ending z t) → Looks s number n (Err (reason_in_group why number))
  left_by None t e f k m h = subst (λ w. Looks s number n (Err (reason_in_group w number))) (sym f) (unclosed e k m h)
  left_by (Some z) t e f k m h =
      subst (λ w. Looks s number n (Err (reason_in_group w number))) (sym f)
      (subst (λ b. Looks s number n (Err (if b then unseen.Unclosed number else unseen.TextFault))) (sym (numbered z.error)) (fault e h))

  by_shown : (a : Finding) → Shown s.setting.text s.ending n (drop number cs) a → look_in s n number ≡ a
  by_shown a h = sym (one s.setting.text s.ending n (drop number cs) a h)

  -- There are fewer rows.
  pub answer_past : slice_get rows number ≡ None → Looks s number n (Err (reason_at_end why))
  answer_past e =
      let k = drop_all number cs (omega (arith, none_past rows number e, length_known s.setting.text rows cs are.known)) in
      answer_ended (by_shown (ended s.ending) (subst (λ r. Shown s.setting.text s.ending n r (ended s.ending)) (sym k) none_left))

  module _ (row : Row) (there : slice_get rows number ≡ Some row) where
    abbrev at_row : Tells s.setting.text cs number row
    at_row = tells s.setting.text rows cs number row are.known there

    pub answer_plain : PlainTokensAreShown → row.kind.code ≢ 16 → Looks s number n (Ok number)
    answer_plain plain other =
        let t = at_row.token in
        let unmarked : IsMarked s.setting.text t
        → ⊥ = λ m. other (code_known s.setting.text cs number row at_row ∙ code_marked s.setting.text t m.0 m.1) in
        let h = plain s.setting.text s.ending n t (drop (number + 1) cs) (counts s.tokens number t at_row.there) unmarked in
        answer_token t at_row.there (by_shown (Ok (Some (t, drop (number + 1) cs))) (subst (λ r. Shown s.setting.text s.ending n r (Ok (Some
        (t, drop (number + 1) cs)))) (sym (front cs number t at_row.there)) h))

    module _ (code : row.kind.code ≡ 16) where
      marked : IsMarked s.setting.text at_row.token
      marked = let k = marked_kind s.setting.text at_row.token at_row.token.kind (sym (code_known s.setting.text cs number row at_row)
          ∙ code) in (k.0, k.1)

      pub answer_last : slice_get rows (number + 1) ≡ None → Looks s number n (Err (reason_at_end why))
      answer_last e =
          let t = at_row.token in
          let k = drop_all (number + 1) cs (omega (arith, none_past rows (number + 1) e, length_known s.setting.text rows cs are.known)) in
          let f : drop number cs ≡ t ∷ [] = front cs number t at_row.there ∙ ap (λ r. t ∷ r) k in
          answer_ended (by_shown (ended s.ending) (subst (λ r. Shown s.setting.text s.ending n r (ended s.ending)) (sym f) (ends_there marked)))

      module _ (word : Row) (next : slice_get rows (number + 1) ≡ Some word) where
        abbrev at_word : Tells s.setting.text cs (number + 1) word
        at_word = tells s.setting.text rows cs (number + 1) word are.known next

        two : (a : List Token → Finding) → Shown s.setting.text s.ending n (at_row.token ∷ at_word.token ∷ drop (number + 1 + 1) cs) (a
            (at_word.token ∷ drop (number + 1 + 1) cs)) → look_in s n number ≡ a (drop (number + 1) cs)
        two a h =
            let k = subst (λ r. Shown s.setting.text s.ending n (at_row.token ∷ r) (a r)) (sym (front cs
            (number + 1) at_word.token at_word.there)) h in
            by_shown (a (drop (number + 1) cs)) (subst (λ r. Shown s.setting.text s.ending n r (a (drop (number + 1) cs))) (sym
            (front cs number at_row.token at_row.there)) k)

        pub answer_other : word.kind.code ≢ 9 → Looks s number n (Ok number)
        answer_other other =
            answer_token at_row.token at_row.there (two (λ r. Ok (Some (at_row.token, r))) (takes_other marked (λ e. other
            (code_known s.setting.text cs (number + 1) word at_word ∙ code_annotation s.setting.text at_word.token e))))

        module _ (nine : word.kind.code ≡ 9) (m : NameMeaning) (given : NameMeans s.setting.text (annotation_of word) n m) where
          means : NameMeans s.setting.text at_word.token n m
          means = subst (λ t. NameMeans s.setting.text t n m) (annotation_known s.setting.text cs (number + 1) word at_word nine) given

          pub answer_taken : m ≡ named.Registered → Looks s number n (Ok number)
          answer_taken e =
              let k = is_taken s.setting.text at_word.token n m means e in
              answer_token at_row.token at_row.there (two (λ r. Ok (Some (at_row.token, r))) (takes marked k.1 k.2))

          pub answer_refused : m ≡ named.Misnamed → Looks s number n (Err (unseen.Misnamed (number + 1)))
          answer_refused e =
              let k = is_refused s.setting.text at_word.token n m means e in
              let a = Err (record { offset = at_word.token.offset; kind = Lex k.0 }) in
              misnamed at_word.there k.1 (shown_as a (two (λ r. a) (refuses marked k.1)))

          pub answer_memory : (a : AllocError) → m ≡ named.Memory a → Looks s number n (Err (unseen.Memory a))
          answer_memory a e = memory (record {
            number = number;
            paren = at_row.token;
            word = at_word.token;
            on = omega arith;
            opens = at_row.there;
            marked = marked;
            after = at_word.there;
            annotation = sym (ap (λ (t : Token). t.kind) (annotation_known s.setting.text cs (number + 1) word at_word nine));
            escape = is_escaped s.setting.text at_word.token n m a means e;
            same = refl;
          })

          link : IsLink (codes s.setting.text cs) number row.link
          link = subst (λ c. IsLink c number row.link) (codes_known s.setting.text rows cs are.known) (are.linked number row (omega arith) there)

          dropped : drop (number + 1) (codes s.setting.text cs) ≡ codes s.setting.text (drop (number + 1) cs)
          dropped = drop-map (code_of s.setting.text) (number + 1) cs

          no_group : row.link ≡ 0 → NoGroup (drop (number + 1) cs)
          no_group z r g =
              let none = subst (IsLink (codes s.setting.text cs) number) z link in
              none (length g.within + 1) (subst (λ c. ClosedWithin c (length g.within + 1)) (sym dropped) (codes_closed s.setting.text (drop
              (number + 1) cs) r g))

          group_by : (l : ℕ) → IsLink (codes s.setting.text cs) number l → l ≢ 0 → Group (drop (number + 1) cs) (drop l cs)
          group_by zero h k = absurd (k refl)
          group_by (suc j) h k =
              let g = tokens_closed s.setting.text (drop (number + 1) cs) h.0 (subst (λ c. ClosedWithin c h.0) dropped h.1) in
              subst (Group (drop (number + 1) cs)) (drop-drop h.0 (number + 1) cs ∙ ap (λ i. drop i cs) (sym h.2)) g

          at_front : (r : List Token → Type 0) → r (drop (number + 1) cs) → r (at_word.token ∷ drop (number + 1 + 1) cs)
          at_front r h = subst r (front cs (number + 1) at_word.token at_word.there) h

          pub answer_unclosed : m ≡ named.Other → row.link ≡ 0 → Looks s number n (Err (reason_in_group why number))
          answer_unclosed e z =
              let k = is_skipped s.setting.text at_word.token n m means e in
              let h = leaves_open marked k.1 k.2 (at_front NoGroup (no_group z)) in
              left_by s.ending at_row.token refl are.ends at_row.there marked (shown_as (unclosed_ending s.ending at_row.token) (two
              (λ r. unclosed_ending s.ending at_row.token) h))

          go_on : m ≡ named.Other → row.link ≢ 0 → shown_after s number n ≡ shown_after s row.link n
          go_on e z =
              let k = is_skipped s.setting.text at_word.token n m means e in
              let g = at_front (λ r. Group r (drop row.link cs)) (group_by row.link link z) in
              shown_as (look_in s n row.link) (two (λ r. look_in s n row.link) (skips marked k.1 k.2 g (shows some one same s utf8 are.read n row.link)))
              ∙ sym (shown_lifted some one same s utf8 are.read n row.link)

          pub steps_by : (k : NameMeaning) → m ≡ k → Steps s number n (step_by number row why k)
          steps_by named.Registered e = answer_taken e
          steps_by named.Misnamed e = answer_refused e
          steps_by (named.Memory refused) e = answer_memory refused e
          steps_by named.Other e = elim (cases_Bool (row.link == 0)) [
            | inl z ↦ subst (λ b. Steps s number n (if b then step.Answer (Err (reason_in_group why number)) else step.Skip row.link)) (sym z) (answer_unclosed e (eqb-true row.link 0 z))
            | inr f ↦ subst (λ b. Steps s number n (if b then step.Answer (Err (reason_in_group why number)) else step.Skip row.link)) (sym f) (go_on e (linked row.link f))
          ]

-- A peek has the result of a peek from a later row from which the same token is visible.
pub looks_before : (s : Source) (n : Names) (place number : ℕ) (a : Result ℕ NotVisible) → place ≤ number → shown_after s place n ≡ shown_after s number n
    → Looks s number n a → Looks s place n a
looks_before s n place number a on e (token h k) = token h (e ∙ k)
looks_before s n place number a on e (end h k) = end h (e ∙ k)
looks_before s n place number a on e (fault h k) = fault h (e ∙ k)
looks_before s n place number a on e (unclosed h i m k) = unclosed h i m (e ∙ k)
looks_before s n place number a on e (misnamed h m k) = misnamed h m (e ∙ k)
looks_before s n place number a on e (memory m) = memory (record {
  number = m.number;
  paren = m.paren;
  word = m.word;
  on = omega (arith, on, m.on);
  opens = m.opens;
  marked = m.marked;
  after = m.after;
  annotation = m.annotation;
  escape = m.escape;
  same = e ∙ m.same;
})
