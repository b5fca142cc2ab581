-- Outlines of what is at the start of a text.
use Rattle.std.proofs.Common.{◌≡◌, ◌≢◌, ◌<◌, ◌+◌, ℕ, zero, suc, List, [], ◌∷◌, length, take, drop, get_or, refl, arith, ap, sym, ◌∙◌, subst, Bool, true, false, cond, inl, inr}
use Rattle.std.specs.Prelude.{IsTrue}
use Rattle.std.proofs.lemmas.Bool.{cases_Bool}
use Rattle.std.proofs.lemmas.Str.{encodes-chars, chars-nil}
use Rattle.std.specs.List.{prefix_len}
use Rattle.std.specs.Str.{chars, IsUtf8}
use lib.Utf8.{encode, encodes}
use Rattle.wat_lex.specs.grammar.Classes.{Begins, is_idchar, is_run_char, is_whitespace}
use Rattle.wat_lex.specs.grammar.Runs.{WordKind, RunKind, named_kind}
use Rattle.wat_lex.specs.tokens.Faults.{Fault, begins_word, unexpected, dangling, confusing, in_string}
use Rattle.wat_lex.specs.tokens.Setting.{allowing}
use Rattle.wat_lex.specs.inside.ScannedLexemes.{LexemeFound}
use Rattle.wat_lex.specs.inside.ScannedRuns.{RunFound, IsKindOfRun}
use Rattle.wat_lex.specs.inside.Outlines.{HasKind, BeginsWithFault, Outlined, BeginsWord, IsShapeOfRun}
use Rattle.wat_lex.specs.declared.lexer.settings.Settings.{Settings}
use Rattle.wat_lex.specs.declared.lexer.faults.LexError.{LexError}
use Rattle.wat_lex.specs.declared.lexer.kinds.Shape.{Shape}
use Rattle.wat_lex.specs.declared.lexer.kinds.Shape.TheVariants as shape
use Rattle.wat_lex.specs.declared.lexer.kinds.Lexeme.{Lexeme}
use Rattle.wat_lex.specs.declared.lexer.kinds.TokenKind.{TokenKind}
use Rattle.wat_lex.specs.declared.lexer.kinds.TokenKind.TheVariants as kind
use Rattle.wat_lex.specs.declared.lexer.scan.runs.Pieces.{Pieces}
use Rattle.wat_lex.proofs.grammar.AsciiPrefixes.{led, not_begun}
use Rattle.wat_lex.proofs.grammar.RunKinds.{no_strings, kind_of_word, kind_of_two, found_run, run_lexeme, run_fits}
use Rattle.wat_lex.proofs.grammar.SomeRun.{some_kind}
use Rattle.wat_lex.proofs.inside.LineComments.{found_whitespace, found_unexpected, run_char_ascii, word_ascii}
use Rattle.wat_lex.proofs.inside.RunSteps.{joined_start, joined_end}
use Rattle.wat_lex.proofs.tokens.OneFault.{CommentStart, block, line, comment_start, run_begins, no_word_at_fault, fault_some}

first_passes : (p : ℕ → Bool) (text : List ℕ) → 0 < length text → p (get_or text 0 0) ≡ true → prefix_len p text ≡ 1 + prefix_len p (drop 1 text)
first_passes p [] l e = absurd (omega arith)
first_passes p (b ∷ bs) l e = ap (λ x. cond x (1 + prefix_len p bs) 0) e

pub whitespace_there : (flags : Settings) (text : List ℕ) (n : ℕ) → IsUtf8 text → 0 < length text → is_whitespace (get_or text 0 0) ≡ true → n ≡ 1 + prefix_len is_whitespace (drop 1 text) → LexemeFound flags text (record { kind = kind.Whitespace; len = n })
whitespace_there flags text n u l t e = found_whitespace flags text n u l t (e ∙ sym (first_passes is_whitespace text l t))

pub refused_there : (flags : Settings) (text : List ℕ) → IsUtf8 text → 0 < length text → begins_word (get_or text 0 0) ≡ false → BeginsWithFault flags text
refused_there flags text u l n = by u.0 (sym u.1.1)
  where
    by : (cs : List ℕ) → text ≡ encodes cs → BeginsWithFault flags text
    by [] e = absurd (omega (arith, ap length e))
    by (c ∷ cs) e = (_, found_unexpected flags text (encodes cs) c u e n)

first_of : (text : List ℕ) (n : ℕ) → 0 < n → 0 < length text → (rest : List ℕ) × (take n text ≡ get_or text 0 0 ∷ rest)
first_of [] n p l = absurd (omega arith)
first_of (b ∷ bs) zero p l = absurd (omega arith)
first_of (b ∷ bs) (suc n) p l = (take n bs, refl)

pub some_prefix : (p : ℕ → Bool) (text : List ℕ) → 0 < length text → p (get_or text 0 0) ≡ true → 0 < prefix_len p text
some_prefix p text l e = omega (arith, first_passes p text l e)

-- a word of idchars that no string follows
pub idchars_there : (flags : Settings) (text : List ℕ) (k : TokenKind) (n : ℕ) → IsUtf8 text → 0 < length text → is_run_char (get_or text 0 0) ≡ true → n ≡ prefix_len is_idchar text → get_or text n 0 ≢ 34 → WordKind (take n text) k → LexemeFound flags text (record { kind = k; len = n })
idchars_there flags text k n u l b e q word =
    let found : Pieces = record { len = n; idchars = n; strings = 0 } in
    let run : RunFound flags text found = joined_end flags text n n 0 (joined_start flags text n u e) (λ _. q) in
    let is : IsKindOfRun (take n text) n 0 k = λ fl w ps f r i z. let p = no_strings fl w ps r (sym z) in kind_of_word w ps k p.same (subst (λ x. WordKind x k) (f ∙ p.bytes) word) in
    found_run flags text found k u l b run is

-- the kind of a word whose first byte tells it
pub start_tells : (text : List ℕ) (k : TokenKind) (n : ℕ) → 0 < length text → BeginsWord (get_or text 0 0) k → n ≡ prefix_len is_idchar text → WordKind (take n text) k
start_tells text k n l b e =
    let bytes = first_of text n (omega (arith, e, some_prefix is_idchar text l b.idchar)) l in
    subst (λ x. WordKind x k) (sym bytes.1) (b.kind bytes.0)

pub outlined_run : (flags : Settings) (text : List ℕ) (found : Pieces) (s : Shape) → IsUtf8 text → 0 < length text → is_run_char (get_or text 0 0) ≡ true → RunFound flags text found → IsShapeOfRun (take found.len text) found.idchars found.strings s → Outlined flags text (record { shape = s; len = found.len })
outlined_run flags text found s u l b f h = record {
  fits = run_fits flags text found f;
  word = λ k g. found_run flags text found k u l b f (h.kind k g);
  fault = λ a. absurd (h.is_at a);
}

-- the shape of `$` or `@` and a string
pub named_run : (word : List ℕ) (n m : ℕ) (s : Shape) (k : TokenKind) → s ≢ shape.Fault → ((j : TokenKind) → HasKind s word j → j ≡ k) → named_kind word ≡ k → m ≡ 1 → n ≡ 1 → IsShapeOfRun word n m s
named_run word n m s k is_at only e a b = record {
  is_at = is_at;
  kind = λ j h flags w ps f r i z. subst (RunKind ps) (ap named_kind (sym f) ∙ e ∙ sym (only j h)) (kind_of_two flags w ps r (sym z ∙ a) (sym i ∙ b));
}

pub named_id : (word : List ℕ) → 0 < length word → get_or word 0 0 ≡ 36 → named_kind word ≡ kind.Id
named_id [] l e = absurd (omega arith)
named_id (c ∷ cs) l e = ap (λ x. named_kind (x ∷ cs)) e

pub named_annotation : (word : List ℕ) → 0 < length word → get_or word 0 0 ≡ 64 → named_kind word ≡ kind.Annotation
named_annotation [] l e = absurd (omega arith)
named_annotation (c ∷ cs) l e = ap (λ x. named_kind (x ∷ cs)) e

-- A text that begins with a token does not begin with a lexical error.
pub word_no_fault : (flags : Settings) (text : List ℕ) (lexeme : Lexeme) → LexemeFound flags text lexeme → BeginsWithFault flags text → ⊥
word_no_fault flags text lexeme h r = let f = r.1 in no_word_at_fault flags (chars text) lexeme.kind h.word h.rest r.0.error f.at h.is_at f.fault

pub run_no_fault : (flags : Settings) (text : List ℕ) (found : Pieces) → IsUtf8 text → 0 < length text → is_run_char (get_or text 0 0) ≡ true → RunFound flags text found → BeginsWithFault flags text → ⊥
run_no_fault flags text found u l b f r =
    let k = some_kind f.pieces in
    word_no_fault flags text (record { kind = k.kind; len = found.len }) (run_lexeme flags text found k.kind u l b f k.is) r

-- a text with a fault is not empty
pub refused_some : (flags : Settings) (text : List ℕ) → BeginsWithFault flags text → 0 < length text
refused_some flags [] r = let f = r.1 in absurd (fault_some flags r.0.error f.at (chars []) chars-nil f.fault)
refused_some flags (b ∷ bs) r = omega arith

-- how a text with a fault begins
data FaultStart : List ℕ → Type 0 where
  other : {c : ℕ} {t : List ℕ} → (IsTrue (begins_word c) → ⊥) → FaultStart (c ∷ t)
  comment : {s : List ℕ} → CommentStart s → FaultStart s
  opens : {t : List ℕ} → FaultStart (40 ∷ 59 ∷ t)
  run : {s : List ℕ} → Begins is_run_char s → FaultStart s

fault_start : (flags : Settings) (s : List ℕ) (e : LexError) (at : List ℕ) → Fault flags s e at → FaultStart s
fault_start flags s e at (unexpected n) = other n
fault_start flags s e at (dangling n) = opens
fault_start flags s e at (confusing {kind = k} {w = w} {rest = r} prefix off is there cut clear c lt) = comment (comment_start (allowing flags) s k w r is there)
fault_start flags s e at (in_string {t = t} {ps = ps} h g) = run (run_begins flags s (34 ∷ t) ps t refl h)

-- the first two bytes of a text that begins with two ASCII characters
opens_bytes : (text t : List ℕ) → IsUtf8 text → chars text ≡ 40 ∷ 59 ∷ t → (get_or text 0 0 ≡ 40) × (get_or text 1 0 ≡ 59)
unfolding encode
opens_bytes text t u e = let k = sym (encodes-chars text u) ∙ ap encodes e in (ap (λ x. get_or x 0 0) k, ap (λ x. get_or x 1 0) k)

line_bytes : (text t : List ℕ) → IsUtf8 text → chars text ≡ 59 ∷ 59 ∷ t → (get_or text 0 0 ≡ 59) × (get_or text 1 0 ≡ 59)
unfolding encode
line_bytes text t u e = let k = sym (encodes-chars text u) ∙ ap encodes e in (ap (λ x. get_or x 0 0) k, ap (λ x. get_or x 1 0) k)

-- a text with a fault that begins neither a run nor a comment begins no word
pub refused_other : (flags : Settings) (text : List ℕ) → IsUtf8 text → is_run_char (get_or text 0 0) ≡ false → ((get_or text 0 0 ≡ 40) × (get_or text 1 0 ≡ 59) → ⊥) → ((get_or text 0 0 ≡ 59) × (get_or text 1 0 ≡ 59) → ⊥) → BeginsWithFault flags text → begins_word (get_or text 0 0) ≡ false
refused_other flags text u n b m r = let f = r.1 in by (chars text) refl (fault_start flags (chars text) r.0.error f.at f.fault)
  where
    no_comment : (s : List ℕ) → chars text ≡ s → CommentStart s → ⊥
    no_comment s e (block {t = t} h) = b (opens_bytes text t u e)
    no_comment s e (line {t = t}) = m (line_bytes text t u e)

    by : (s : List ℕ) → chars text ≡ s → FaultStart s → begins_word (get_or text 0 0) ≡ false
    by s e (other {c = c} {t = t} g) =
        elim (cases_Bool (begins_word (get_or text 0 0))) [
          | inl w ↦ let k = led text (get_or text 0 0) u (refused_some flags text r) refl (word_ascii (get_or text 0 0) w) in
              let same : get_or text 0 0 ≡ c = let z = sym k.chars ∙ e in cc in absurd (g (ap begins_word (sym same) ∙ w))
          | inr w ↦ w
        ]
    by s e (comment h) = absurd (no_comment s e h)
    by s e (opens {t = t}) = absurd (b (opens_bytes text t u e))
    by s e (run h) = absurd (not_begun is_run_char text u run_char_ascii (λ _. n) (subst (Begins is_run_char) (sym e) h))
