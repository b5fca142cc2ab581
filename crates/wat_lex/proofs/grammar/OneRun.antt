-- A run is read in one way.
use Rattle.std.proofs.Common.{◌≡◌, ℕ, List, ◌∷◌, refl, ap, sym, subst, ◌||◌}
use Rattle.std.specs.Prelude.{◌==◌, IsTrue}
use Rattle.std.proofs.lemmas.Bool.{false≢true}
use Rattle.wat_lex.specs.grammar.Classes.{is_idchar, is_run_char, quote}
use Rattle.wat_lex.specs.grammar.Runs.{Piece, Idchar, Quoted, Run, none, idchar, string}
use Rattle.wat_lex.specs.tokens.StringFaults.{StringFault}
use Rattle.wat_lex.specs.grammar.Words.{EndsRun}
use Rattle.wat_lex.specs.declared.lexer.faults.LexError.{LexError}
use Rattle.wat_lex.specs.declared.lexer.settings.Settings.{Settings}
use Rattle.wat_lex.proofs.grammar.OneString.{quoted_unique, quoted_sound}
use Rattle.wat_lex.proofs.tokens.OneStringFault.{string_fault_unique}

pub idchar_runs : (c : ℕ) → IsTrue (is_idchar c) → IsTrue (is_run_char c)
idchar_runs c h = ap (λ b. b || c == quote) h

pub run_unique : (flags : Settings) (s r q : List ℕ) (ps qs : List Piece) → Run flags s ps r → EndsRun r → Run flags s qs q → EndsRun q → (ps ≡ qs) × (r ≡ q)
run_unique flags s r q ps qs none f none g = (refl, refl)
run_unique flags s r q ps qs none f (idchar {c = c} h k) g = absurd (f (idchar_runs c h))
run_unique flags s r q ps qs none f (string h k) g = absurd (f refl)
run_unique flags s r q ps qs (idchar {c = c} h k) f none g = absurd (g (idchar_runs c h))
run_unique flags s r q ps qs (idchar {c = c} {t = t} {ps = xs} h k) f (idchar {ps = ys} i j) g =
    let u = run_unique flags t r q xs ys k f j g in
    (ap (λ z. Idchar c ∷ z) u.0, u.1)
run_unique flags s r q ps qs (idchar h k) f (string i j) g = absurd (false≢true h)
run_unique flags s r q ps qs (string h k) f none g = absurd (g refl)
run_unique flags s r q ps qs (string h k) f (idchar i j) g = absurd (false≢true i)
run_unique flags s r q ps qs (string {t = t} {v = v} {m = m} {ps = xs} h k) f (string {v = w} {m = n} {ps = ys} i j) g =
    let a = quoted_unique flags t v w m n h i in
    let u = run_unique flags m r q xs ys k f (subst (λ z. Run flags z ys q) (sym a.1) j) g in
    let x = a.0 in
    let y = u.0 in
    let z : Quoted v ∷ xs ≡ Quoted w ∷ ys = cc in
    (z, u.1)

-- in a run that ends no string goes wrong
pub run_sound : (flags : Settings) (s r t at : List ℕ) (ps qs : List Piece) (e : LexError) → Run flags s ps r → EndsRun r → Run flags s qs (quote ∷ t) → StringFault flags t e at → ⊥
run_sound flags s r t at ps qs e none f none g = f refl
run_sound flags s r t at ps qs e none f (idchar {c = c} h k) g = f (idchar_runs c h)
run_sound flags s r t at ps qs e none f (string h k) g = f refl
run_sound flags s r t at ps qs e (idchar h k) f none g = false≢true h
run_sound flags s r t at ps qs e (idchar {t = m} {ps = xs} h k) f (idchar {ps = ys} i j) g = run_sound flags m r t at xs ys e k f j g
run_sound flags s r t at ps qs e (idchar h k) f (string i j) g = false≢true h
run_sound flags s r t at ps qs e (string {v = v} {m = m} h k) f none g = quoted_sound flags t v m at e h g
run_sound flags s r t at ps qs e (string h k) f (idchar i j) g = false≢true i
run_sound flags s r t at ps qs e (string {t = l} {v = v} {m = m} {ps = xs} h k) f (string {v = w} {m = n} {ps = ys} i j) g =
    run_sound flags m r t at xs ys e k f (subst (λ z. Run flags z ys (quote ∷ t)) (sym (quoted_unique flags l v w m n h i).1) j) g

-- the string that goes wrong in a run, and how
pub run_fault_unique : (flags : Settings) (s t u a b : List ℕ) (ps qs : List Piece) (e f : LexError) → Run flags s ps (quote ∷ t) → StringFault flags t e a → Run flags s qs (quote ∷ u) → StringFault flags u f b → (e ≡ f) × (a ≡ b)
run_fault_unique flags s t u a b ps qs e f none x none y = string_fault_unique flags t e f a b x y
run_fault_unique flags s t u a b ps qs e f none x (idchar i j) y = absurd (false≢true i)
run_fault_unique flags s t u a b ps qs e f none x (string {v = w} {m = n} i j) y = absurd (quoted_sound flags t w n a e i x)
run_fault_unique flags s t u a b ps qs e f (idchar h k) x none y = absurd (false≢true h)
run_fault_unique flags s t u a b ps qs e f (idchar {t = m} {ps = xs} h k) x (idchar {ps = ys} i j) y = run_fault_unique flags m t u a b xs ys e f k x j y
run_fault_unique flags s t u a b ps qs e f (idchar h k) x (string i j) y = absurd (false≢true h)
run_fault_unique flags s t u a b ps qs e f (string {v = v} {m = m} h k) x none y = absurd (quoted_sound flags u v m b f h y)
run_fault_unique flags s t u a b ps qs e f (string h k) x (idchar i j) y = absurd (false≢true i)
run_fault_unique flags s t u a b ps qs e f (string {t = l} {v = v} {m = m} {ps = xs} h k) x (string {v = w} {m = n} {ps = ys} i j) y =
    run_fault_unique flags m t u a b xs ys e f k x (subst (λ z. Run flags z ys (quote ∷ u)) (sym (quoted_unique flags l v w m n h i).1) j) y
