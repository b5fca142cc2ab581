-- A text begins with a run, or with one in which a string goes wrong; and a run has a kind.
use Rattle.std.proofs.Common.{◌≡◌, ◌<◌, ℕ, zero, suc, List, [], ◌∷◌, length, refl, arith, sym, subst, true, inl, inr}
use Rattle.std.specs.Prelude.{◌==◌, Option, Some, None, MatchOption}
use Rattle.std.proofs.lemmas.Bool.{both_ways, or_cases, eqb-true, cases_eq, cases_Bool}
use Rattle.wat_lex.specs.grammar.Classes.{is_idchar, quote}
use Rattle.wat_lex.specs.grammar.Runs.{Piece, Idchar, Quoted, Run, none, idchar, string, idchars, named_kind, kind_by_first, WordKind, RunKind}
use Rattle.wat_lex.specs.tokens.StringFaults.{StringFault}
use Rattle.wat_lex.specs.grammar.Words.{EndsRun}
use Rattle.wat_lex.specs.declared.lexer.faults.LexError.{LexError}
use Rattle.wat_lex.specs.declared.lexer.kinds.TokenKind.{TokenKind}
use Rattle.wat_lex.specs.declared.lexer.kinds.TokenKind.TheVariants.{String, Reserved}
use Rattle.wat_lex.specs.declared.lexer.settings.Settings.{Settings}
use Rattle.wat_lex.proofs.grammar.SomeNumber.{SomeNumber, is, some_number}
use Rattle.wat_lex.proofs.grammar.SomeNumber as number
use Rattle.wat_lex.proofs.grammar.SomeString.{SomeString, closed, some_string}
use Rattle.wat_lex.proofs.grammar.SomeString as strings

pub data SomeRun (flags : Settings) (s : List ℕ) : Type 0 where
  run : {ps : List Piece} {r : List ℕ} → Run flags s ps r → EndsRun r → SomeRun flags s
  wrong : {ps : List Piece} {t : List ℕ} {e : LexError} {at : List ℕ} → Run flags s ps (quote ∷ t) → StringFault flags t e at → SomeRun flags s

idchar_on : (flags : Settings) (c : ℕ) (t : List ℕ) → is_idchar c ≡ true → SomeRun flags t → SomeRun flags (c ∷ t)
idchar_on flags c t h (run k e) = run (idchar h k) e
idchar_on flags c t h (wrong k f) = wrong (idchar h k) f

string_on : (flags : Settings) (t : List ℕ) → SomeString flags t → ((r : List ℕ) → length r < length (quote ∷ t) → SomeRun flags r) → SomeRun flags (quote ∷ t)
string_on flags t (closed {v = v} {r = r} q l) ih = by (ih r (omega arith))
  where
    by : SomeRun flags r → SomeRun flags (quote ∷ t)
    by (run k e) = run (string q k) e
    by (wrong k f) = wrong (string q k) f
string_on flags t (strings.wrong f) ih = wrong none f

run_by : (n : ℕ) (flags : Settings) (s : List ℕ) → length s < n → SomeRun flags s
run_by zero flags s l = absurd (omega arith)
run_by (suc n) flags [] l = run none (λ b. b)
run_by (suc n) flags (c ∷ t) l =
    elim (cases_Bool (is_idchar c)) [
      | inl h ↦ idchar_on flags c t h (run_by n flags t (omega arith))
      | inr h ↦ elim (cases_eq c quote) [
        | inl e ↦ subst (λ x. SomeRun flags (x ∷ t)) (sym e) (string_on flags t (some_string flags t) (λ r k. run_by n flags r (omega arith)))
        | inr e ↦ run none (λ b. elim (or_cases (is_idchar c) (c == quote) b) [ inl k ↦ both_ways (is_idchar c) h k | inr k ↦ e (eqb-true c quote k) ])
      ]
    ]

pub some_run : (flags : Settings) (s : List ℕ) → SomeRun flags s
some_run flags s = run_by (suc (length s)) flags s (omega arith)

pub record SomeKind (ps : List Piece) : Type 0 where
  pub kind : TokenKind
  pub is : RunKind ps kind

pub record SomeWordKind (w : List ℕ) : Type 0 where
  pub kind : TokenKind
  pub is : WordKind w kind

pub some_word_kind : (w : List ℕ) → SomeWordKind w
some_word_kind w = by (some_number w)
  where
    by : SomeNumber w → SomeWordKind w
    by (is k h) = record { kind = k; is = inl h }
    by (number.none n) = record { kind = kind_by_first w; is = inr (n, refl) }

record SomeOption (o : Option (List ℕ)) : Type 0 where
  kind : TokenKind
  is : MatchOption o (kind ≡ Reserved) (λ w. WordKind w kind)

some_option : (o : Option (List ℕ)) → SomeOption o
some_option None = record { kind = Reserved; is = refl }
some_option (Some w) = let k = some_word_kind w in record { kind = k.kind; is = k.is }

pub some_kind : (ps : List Piece) → SomeKind ps
some_kind [] = let k = some_option (Some []) in record { kind = k.kind; is = k.is }
some_kind (Quoted v ∷ []) = record { kind = String; is = refl }
some_kind (Quoted v ∷ p ∷ ps) = record { kind = Reserved; is = refl }
some_kind (Idchar c ∷ []) = let k = some_option (Some (c ∷ [])) in record { kind = k.kind; is = k.is }
some_kind (Idchar c ∷ Quoted v ∷ []) = record { kind = named_kind (c ∷ []); is = refl }
some_kind (Idchar c ∷ Quoted v ∷ p ∷ ps) = let k = some_option (idchars (Idchar c ∷ Quoted v ∷ p ∷ ps)) in record { kind = k.kind; is = k.is }
some_kind (Idchar c ∷ Idchar d ∷ ps) = let k = some_option (idchars (Idchar c ∷ Idchar d ∷ ps)) in record { kind = k.kind; is = k.is }
