-- A text has one fault, and no word where it has one.
use Rattle.std.proofs.Common.{◌≡◌, ◌<◌, ℕ, List, [], ◌∷◌, ◌++◌, length, refl, arith, ap, sym, ◌∙◌, subst, Bool, true, false, cond, ◌||◌, inl, inr}
use Rattle.std.specs.Prelude.{◌==◌, IsTrue}
use Rattle.std.proofs.lemmas.Bool.{both_ways, false≢true}
use Rattle.std.specs.Str.{NonePass}
use Rattle.wat_lex.specs.grammar.Classes.{Begins, is_run_char, is_whitespace, is_punctuation, is_confusing, IsClear, open_paren, close_paren, semicolon, quote}
use Rattle.wat_lex.specs.grammar.Comments.{BlockComment as Commented, opened, LineComment as CommentedLine, begun}
use Rattle.wat_lex.specs.tokens.Faults.{begins_word, IsComment, Fault, unexpected, dangling, confusing, in_string}
use Rattle.wat_lex.specs.grammar.Runs.{Piece, Run, none, idchar, string}
use Rattle.wat_lex.specs.tokens.Setting.{allowing}
use Rattle.wat_lex.specs.grammar.Words.{Word, WordIsAt}
use Rattle.wat_lex.specs.declared.lexer.settings.Settings.{Settings}
use Rattle.wat_lex.specs.declared.lexer.kinds.TokenKind.{TokenKind}
use Rattle.wat_lex.specs.declared.lexer.kinds.TokenKind.TheVariants.{BlockComment}
use Rattle.wat_lex.specs.declared.lexer.faults.LexError.{LexError}
use Rattle.wat_lex.specs.declared.lexer.faults.LexError.TheVariants.{ConfusingUnicode}
use Rattle.wat_lex.proofs.grammar.Looser.{Looser, is_at_looser}
use Rattle.wat_lex.proofs.grammar.OneRun.{idchar_runs, run_sound, run_fault_unique}
use Rattle.wat_lex.proofs.grammar.OneWord.{Class, class_of, Spaces, Punctuated, Shuts, Other, Joined, Block, Form, begun_class, is_at_form, is_at_unique}

-- the first character that passes
record FirstOf (c d : ℕ) (t u : List ℕ) : Type 0 where
  char : c ≡ d
  rest : t ≡ u

first_unique : (prefix back t u : List ℕ) (c d : ℕ) → NonePass is_confusing prefix → NonePass is_confusing back → IsTrue (is_confusing c) → IsTrue (is_confusing d) → prefix ++ c ∷ t ≡ back ++ d ∷ u → FirstOf c d t u
first_unique [] [] t u c d n m a b e = record { char = let k : c ≡ d = cc in k; rest = let k : t ≡ u = cc in k }
first_unique [] (y ∷ ys) t u c d n m a b e = let k : c ≡ y = cc in absurd (both_ways (is_confusing y) m.0 (sym (ap is_confusing k) ∙ a))
first_unique (x ∷ xs) [] t u c d n m a b e = let k : x ≡ d = cc in absurd (both_ways (is_confusing x) n.0 (ap is_confusing k ∙ b))
first_unique (x ∷ xs) (y ∷ ys) t u c d n m a b e = first_unique xs ys t u c d n.1 m.1 a b (let k : xs ++ c ∷ t ≡ ys ++ d ∷ u = cc in k)

-- a comment that is at the start: the text begins with `(;` or `;;`
pub data CommentStart : List ℕ → Type 0 where
  block : {t r : List ℕ} → Commented (open_paren ∷ semicolon ∷ t) r → CommentStart (open_paren ∷ semicolon ∷ t)
  line : {t : List ℕ} → CommentStart (semicolon ∷ semicolon ∷ t)

line_start : (w r : List ℕ) → CommentedLine w → CommentStart (w ++ r)
line_start w r (begun h) = line

block_start : (s r : List ℕ) → Commented s r → CommentStart s
block_start s r (opened h) = block (opened h)

pub comment_start : (flags : Settings) (s : List ℕ) (k : TokenKind) (w r : List ℕ) → IsComment k → WordIsAt flags s k w r → CommentStart s
unfolding Form
comment_start flags s k w r (inl e) h = let g = subst (λ y. Word y w flags) e h.word in subst CommentStart (sym h.cut) (line_start w r g.0)
comment_start flags s k w r (inr e) h =
    let g = subst (λ y. Word y w flags) e h.word in
    let there : WordIsAt flags s BlockComment w r = record { cut = h.cut; word = g; ends = tt } in
    by s w r h.cut g.0 (is_at_form flags s BlockComment w r there)
  where
    by : (s w r : List ℕ) → s ≡ w ++ r → Commented w [] → Form (class_of s) flags BlockComment w r → CommentStart s
    by s w r e (opened {t = t} h) f =
        let g : Form (class_of (open_paren ∷ semicolon ∷ t ++ r)) flags BlockComment (open_paren ∷ semicolon ∷ t) r = subst (λ y. Form (class_of y) flags BlockComment (open_paren ∷ semicolon ∷ t) r) e f in
        subst CommentStart (sym e) (block_start (open_paren ∷ semicolon ∷ t ++ r) r g.1)

comment_begins : (s : List ℕ) → CommentStart s → Begins begins_word s
comment_begins s (block h) = refl
comment_begins s line = refl

pub run_begins : (flags : Settings) (s r : List ℕ) (ps : List Piece) (t : List ℕ) → r ≡ quote ∷ t → Run flags s ps r → Begins is_run_char s
run_begins flags s r ps t e none = subst (Begins is_run_char) (sym e) refl
run_begins flags s r ps t e (idchar {c = c} h k) = idchar_runs c h
run_begins flags s r ps t e (string h k) = refl

comment_no_run_char : (s : List ℕ) → CommentStart s → Begins is_run_char s → ⊥
comment_no_run_char s (block h) b = false≢true b
comment_no_run_char s line b = false≢true b

pub comment_no_run : (flags : Settings) (s : List ℕ) (ps : List Piece) (t : List ℕ) → CommentStart s → Run flags s ps (quote ∷ t) → ⊥
comment_no_run flags s ps t c h = comment_no_run_char s c (run_begins flags s (quote ∷ t) ps t refl h)

run_begins_word : (s : List ℕ) → Begins is_run_char s → Begins begins_word s
run_begins_word [] h = h
run_begins_word (c ∷ s) h = by (is_whitespace c) (is_run_char c) (is_punctuation c || ((c == open_paren || c == close_paren) || c == semicolon)) h
  where
    by : (a b x : Bool) → b ≡ true → ((a || b) || x) ≡ true
    by true b x e = refl
    by false b x e = ap (λ y. y || x) e

dangling_no_comment : (t : List ℕ) → ((r : List ℕ) → Commented (open_paren ∷ semicolon ∷ t) r → ⊥) → CommentStart (open_paren ∷ semicolon ∷ t) → ⊥
dangling_no_comment t n (block {r = r} h) = n r h

confusing_same : (c d : ℕ) (t u : List ℕ) → FirstOf c d t u → (ConfusingUnicode c ≡ ConfusingUnicode d) × (c ∷ t ≡ d ∷ u)
confusing_same c d t u f = let a = f.char in let b = f.rest in let e : c ∷ t ≡ d ∷ u = cc in (ap ConfusingUnicode a, e)

pub fault_unique : (flags : Settings) (s : List ℕ) (e f : LexError) (a b : List ℕ) → Fault flags s e a → Fault flags s f b → (e ≡ f) × (a ≡ b)
fault_unique flags s e f a b (unexpected n) (unexpected m) = (refl, refl)
fault_unique flags s e f a b (unexpected n) (dangling m) = absurd (n refl)
fault_unique flags s e f a b (unexpected n) (confusing {kind = k} {w = w} {rest = r} back off k_is there cut clear is lt) = absurd (n (comment_begins s (comment_start (allowing flags) s k w r k_is there)))
fault_unique flags s e f a b (unexpected n) (in_string {t = t} {ps = ps} run g) = absurd (n (run_begins_word s (run_begins flags s (quote ∷ t) ps t refl run)))
fault_unique flags s e f a b (dangling n) (unexpected m) = absurd (m refl)
fault_unique flags s e f a b (dangling n) (dangling m) = (refl, refl)
fault_unique flags s e f a b (dangling {t = t} n) (confusing {kind = k} {w = w} {rest = r} back off k_is there cut clear is lt) = absurd (dangling_no_comment t n (comment_start (allowing flags) s k w r k_is there))
fault_unique flags s e f a b (dangling n) (in_string (idchar i k) g) = absurd (false≢true i)
fault_unique flags s e f a b (confusing {kind = k} {w = w} {rest = r} prefix off k_is there cut clear is lt) (unexpected m) = absurd (m (comment_begins s (comment_start (allowing flags) s k w r k_is there)))
fault_unique flags s e f a b (confusing {kind = k} {w = w} {rest = r} prefix off k_is there cut clear is lt) (dangling {t = t} n) = absurd (dangling_no_comment t n (comment_start (allowing flags) s k w r k_is there))
fault_unique flags s e f a b (confusing {t = t} {c = c} prefix off k_is there cut clear is lt) (confusing {t = u} {c = d} back off' l_is there' cut' clear' is' lt') =
    confusing_same c d t u (first_unique prefix back t u c d clear clear' is is' (sym cut ∙ cut'))
fault_unique flags s e f a b (confusing {kind = k} {w = w} {rest = r} prefix off k_is there cut clear is lt) (in_string {t = t} {ps = ps} run g) = absurd (comment_no_run flags s ps t (comment_start (allowing flags) s k w r k_is there) run)
fault_unique flags s e f a b (in_string {t = t} {ps = ps} run g) (unexpected m) = absurd (m (run_begins_word s (run_begins flags s (quote ∷ t) ps t refl run)))
fault_unique flags s e f a b (in_string (idchar i k) g) (dangling m) = absurd (false≢true i)
fault_unique flags s e f a b (in_string {t = t} {ps = ps} run g) (confusing {kind = k} {w = w} {rest = r} back off k_is there cut clear is lt) = absurd (comment_no_run flags s ps t (comment_start (allowing flags) s k w r k_is there) run)
fault_unique flags s e f a b (in_string {t = t} {ps = ps} run g) (in_string {t = u} {ps = qs} run' g') = run_fault_unique flags s t u a b ps qs e f run g run' g'

-- no character begins both
pub fault_some : (flags : Settings) (e : LexError) (a : List ℕ) (s : List ℕ) → s ≡ [] → Fault flags s e a → ⊥
fault_some flags e a s n (unexpected m) = cc
fault_some flags e a s n (dangling m) = cc
fault_some flags e a s n (confusing {kind = k} {w = w} {rest = r} prefix off k_is there cut clear is lt) = subst (Begins begins_word) n (comment_begins s (comment_start (allowing flags) s k w r k_is there))
fault_some flags e a s n (in_string {t = t} {ps = ps} run g) = subst (Begins is_run_char) n (run_begins flags s (quote ∷ t) ps t refl run)

not_in_clear : (w rest prefix t : List ℕ) (c : ℕ) → NonePass is_confusing w → w ++ rest ≡ prefix ++ c ∷ t → IsTrue (is_confusing c) → length prefix < length w → ⊥
not_in_clear [] rest prefix t c n e is lt = omega arith
not_in_clear (x ∷ w) rest [] t c n e is lt = let k : x ≡ c = cc in both_ways (is_confusing x) n.0 (ap is_confusing k ∙ is)
not_in_clear (x ∷ w) rest (y ∷ prefix) t c n e is lt = not_in_clear w rest prefix t c n.1 (let k : w ++ rest ≡ prefix ++ c ∷ t = cc in k) is (omega arith)

is_clear : (allow : Bool) (w : List ℕ) → allow ≡ false → IsClear allow w → NonePass is_confusing w
is_clear true w e h = absurd (let k : true ≡ false = e in cc)
is_clear false w e h = h

comment_clear : (flags : Settings) (k : TokenKind) (w : List ℕ) → flags.allow ≡ false → IsComment k → Word k w flags → NonePass is_confusing w
comment_clear flags k w a (inl e) h = let g = subst (λ y. Word y w flags) e h in is_clear flags.allow w a g.1
comment_clear flags k w a (inr e) h = let g = subst (λ y. Word y w flags) e h in is_clear flags.allow w a g.1

other_class : (c : ℕ) (t : List ℕ) → (IsTrue (begins_word c) → ⊥) → class_of (c ∷ t) ≡ Other
other_class c t n = by (is_whitespace c) (is_run_char c) (is_punctuation c) (c == open_paren) (c == close_paren) (c == semicolon) _ _ n
  where
    by : (a b d e f g : Bool) (x y : Class) → (((a || b) || (d || ((e || f) || g))) ≡ true → ⊥) → cond a Spaces (cond b Joined (cond d Punctuated (cond e x (cond f Shuts (cond g y Other))))) ≡ Other
    by true b d e f g x y n = absurd (n refl)
    by false true d e f g x y n = absurd (n refl)
    by false false true e f g x y n = absurd (n refl)
    by false false false true f g x y n = absurd (n refl)
    by false false false false true g x y n = absurd (n refl)
    by false false false false false true x y n = absurd (n refl)
    by false false false false false false x y n = refl

allowed_looser : (flags : Settings) → Looser flags (allowing flags)
allowed_looser flags = record { allow = λ h. refl; strict = λ h. h }

pub no_word_at_fault : (flags : Settings) (s : List ℕ) (k : TokenKind) (w r : List ℕ) (e : LexError) (a : List ℕ) → WordIsAt flags s k w r → Fault flags s e a → ⊥
unfolding Form
no_word_at_fault flags s k w r e a h (unexpected {c = c} {t = t} n) = subst (λ y. Form y flags k w r) (other_class c t n) (is_at_form flags s k w r h)
no_word_at_fault flags s k w r e a h (dangling {t = t} n) = let f : Form Block flags k w r = is_at_form flags s k w r h in n r (subst (λ y. Commented y r) (sym h.cut) f.1)
no_word_at_fault flags s k w r e a h (confusing {t = t} {c = c} {kind = l} {w = x} {rest = q} prefix off l_is there cut clear is lt) =
    let u = is_at_unique (allowing flags) s k l w x r q (is_at_looser flags (allowing flags) s k w r (allowed_looser flags) h) there in
    let n = comment_clear flags k w off (subst IsComment (sym u.0) l_is) h.word in
    not_in_clear w r prefix t c n (sym h.cut ∙ cut) is (subst (λ y. length prefix < length y) (sym u.1) lt)
no_word_at_fault flags s k w r e a h (in_string {t = t} {ps = ps} run g) =
    let f : Form Joined flags k w r = subst (λ y. Form y flags k w r) (begun_class s (run_begins flags s (quote ∷ t) ps t refl run)) (is_at_form flags s k w r h) in
    run_sound flags s r t a f.pieces ps e (subst (λ y. Run flags y f.pieces r) (sym h.cut) f.run) f.ends run g
