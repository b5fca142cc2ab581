-- A word of idchars alone is a token, and no parenthesis.
use Rattle.std.proofs.Common.{◌≡◌, ◌≢◌, ◌≤◌, ◌<◌, ◌+◌, ℕ, List, length, take, drop, get_or, refl, arith, ap, sym, ◌∙◌, subst, true, false, inl, inr}
use Rattle.std.specs.Prelude.{◌==◌, ◌||◌, if◌then◌else◌}
use Rattle.std.specs.List.{prefix_len}
use Rattle.std.specs.Str.{IsCharBoundary, IsUtf8}
use Rattle.std.proofs.lemmas.Bool.{cases_Bool, cases_eq, both_ways, eq-eqb}
use Rattle.std.proofs.lemmas.List.Sums.{prefix_len-le-length, prefix_len_passes}
use Rattle.std.proofs.lemmas.Str.{IsUtf8-drop}
use Rattle.wat_lex.specs.declared.lexer.kinds.TokenKind.{TokenKind}
use Rattle.wat_lex.specs.declared.lexer.kinds.TokenKind.TheVariants.{LParen, RParen, Annotation}
use Rattle.wat_lex.specs.declared.lexer.settings.Settings.{Settings}
use Rattle.wat_lex.specs.grammar.Classes.{is_idchar, is_run_char}
use Rattle.wat_lex.specs.inside.ScannedLexemes.{LexemeFound}
use Rattle.wat_lex.specs.tokens.BareWords.{bare_len}
use Rattle.wat_lex.specs.tokens.Setting.{Setting}
use Rattle.wat_lex.proofs.grammar.OneKind.{word_one}
use Rattle.wat_lex.proofs.grammar.RunKinds.{is_run_kind, of_word}
use Rattle.wat_lex.proofs.grammar.SomeRun.{some_word_kind}
use Rattle.wat_lex.proofs.inside.Outlines.{idchars_there, start_tells}
use Rattle.wat_lex.proofs.inside.Starts.{annotation_start}
use Rattle.wat_lex.proofs.tokens.Scans.{part_ends}

-- a word of idchars alone
pub record Bare (flags : Settings) (text : List ℕ) (n : ℕ) : Type 0 where
  pub kind : TokenKind
  pub found : LexemeFound flags text (record { kind = kind; len = n })
  pub not_open : kind ≢ LParen
  pub not_close : kind ≢ RParen
  pub marked : get_or text 0 0 ≡ 64 → kind ≡ Annotation

no_open : (k : TokenKind) → is_run_kind k ≡ true → k ≢ LParen
no_open k h e = let no : true ≡ false = sym h ∙ ap is_run_kind e in cc

no_close : (k : TokenKind) → is_run_kind k ≡ true → k ≢ RParen
no_close k h e = let no : true ≡ false = sym h ∙ ap is_run_kind e in cc

idchar_runs : (b : ℕ) → is_idchar b ≡ true → is_run_char b ≡ true
idchar_runs b h = ap (λ x. x || b == 34) h

-- where the length is not 0, it is that of the idchars, and no string follows them
pub measured : (text : List ℕ) → 0 < bare_len text → (bare_len text ≡ prefix_len is_idchar text) × (get_or text (prefix_len is_idchar text) 0 ≢ 34)
measured text some = elim (cases_Bool (get_or text (prefix_len is_idchar text) 0 == 34)) [
  | inl e ↦ let zero : bare_len text ≡ 0 = ap (λ b. if b then 0 else prefix_len is_idchar text) e in absurd (omega (arith, some, zero))
  | inr e ↦ (ap (λ b. if b then 0 else prefix_len is_idchar text) e, λ q. both_ways (get_or text (prefix_len is_idchar text) 0 == 34) e (eq-eqb _ 34 q))
]

pub bare : (flags : Settings) (text : List ℕ) (n : ℕ) → IsUtf8 text → n ≡ bare_len text → 0 < n → Bare flags text n
bare flags text n u e some =
    let m = measured text (omega (arith, e, some)) in
    let len : n ≡ prefix_len is_idchar text = e ∙ m.0 in
    let long : 0 < length text = omega (arith, some, len, prefix_len-le-length is_idchar text) in
    let first : is_idchar (get_or text 0 0) ≡ true = prefix_len_passes is_idchar text 0 0 (omega (arith, some, len)) in
    let k = some_word_kind (take n text) in
    let run : is_run_kind k.kind ≡ true = of_word (take n text) k.kind k.is in
    record {
      kind = k.kind;
      found = idchars_there flags text k.kind n u long (idchar_runs (get_or text 0 0) first) len (subst (λ i. get_or text i 0 ≢ 34) (sym len) m.1) k.is;
      not_open = no_open k.kind run;
      not_close = no_close k.kind run;
      marked = λ a. word_one (take n text) k.kind Annotation k.is (start_tells text Annotation n long (annotation_start (get_or text 0 0) a) len);
    }

pub ends : (s : Setting) (p n : ℕ) → IsUtf8 s.text → IsCharBoundary s.text p → n ≡ bare_len (drop p s.text) → IsCharBoundary s.text (p + n)
ends s p n u b e = elim (cases_eq n 0) [
  | inl none ↦ let same : p ≡ p + n = omega (arith, none) in subst (IsCharBoundary s.text) same b
  | inr some ↦
      let v = IsUtf8-drop s.text p u b in
      let w = bare s.flags (drop p s.text) n v e (omega (arith, some)) in part_ends s (drop p s.text) p _ b.0 refl v w.found
]

pub bare_fits : (text : List ℕ) → bare_len text ≤ length text
bare_fits text = elim (cases_Bool (get_or text (prefix_len is_idchar text) 0 == 34)) [
  | inl e ↦ let zero : bare_len text ≡ 0 = ap (λ b. if b then 0 else prefix_len is_idchar text) e in omega (arith, zero)
  | inr e ↦ let all : bare_len text ≡ prefix_len is_idchar text = ap (λ b. if b then 0 else prefix_len is_idchar text) e in omega (arith, all, prefix_len-le-length is_idchar text)
]
