-- At the start of each text is a word or a fault, unless it is empty.
use Rattle.std.proofs.Common.{◌≡◌, ◌≢◌, ◌⊎◌, ◌<◌, ◌+◌, ◌-◌, ℕ, List, [], ◌∷◌, ◌++◌, length, refl, arith, ap, sym, ◌∙◌, subst, Bool, true, false, not, ◌||◌, inl, inr, append_assoc, length-append}
use Rattle.std.specs.Prelude.{IsTrue, ◌==◌}
use Rattle.std.specs.Str.{NonePass}
use Rattle.std.proofs.lemmas.List.{append-nil}
use Rattle.std.proofs.lemmas.Bool.{both_ways, cases_eq, cases_Bool, eqb-true, ne_eqb}
use Rattle.wat_lex.specs.grammar.Classes.{Each, Begins, is_whitespace, is_line_end, is_punctuation, is_run_char, is_confusing, open_paren, close_paren, semicolon}
use Rattle.wat_lex.specs.grammar.Comments.{Closes, BlockComment as Commented, opened, begun}
use Rattle.wat_lex.specs.tokens.Faults.{begins_word, IsComment, Fault, unexpected, dangling, confusing, in_string}
use Rattle.wat_lex.specs.grammar.Runs.{Run}
use Rattle.wat_lex.specs.tokens.Setting.{allowing}
use Rattle.wat_lex.specs.grammar.Words.{Punctuation, WordIsAt}
use Rattle.wat_lex.specs.declared.lexer.settings.Settings.{Settings}
use Rattle.wat_lex.specs.declared.lexer.kinds.TokenKind.{TokenKind}
use Rattle.wat_lex.specs.declared.lexer.kinds.TokenKind.TheVariants.{LineComment, BlockComment, Whitespace, LParen, RParen, Reserved}
use Rattle.wat_lex.specs.declared.lexer.faults.LexError.{LexError}
use Rattle.wat_lex.proofs.inside.BlockComments.{closes_cut}
use Rattle.wat_lex.proofs.inside.CheckedComments.{clear_word}
use Rattle.wat_lex.specs.inside.Nesting.{Reaches}
use Rattle.wat_lex.proofs.grammar.Comments.{reaches_start, step_plain, step_semicolon, step_paren, step_open, step_close, step_last, none_closes, all_closed}
use Rattle.wat_lex.proofs.grammar.Remainders.{run_taken}
use Rattle.wat_lex.proofs.grammar.RunKinds.{kind_of_run, word_of_run, ends_of_run, no_semicolon, some_pieces}
use Rattle.wat_lex.proofs.grammar.SomeRun.{SomeRun, run, some_run, some_kind}
use Rattle.wat_lex.proofs.grammar.SomeRun as runs

pub data SomeAnswer (flags : Settings) (text : List ℕ) : Type 0 where
  nothing : text ≡ [] → SomeAnswer flags text
  word : {k : TokenKind} {w r : List ℕ} → WordIsAt flags text k w r → SomeAnswer flags text
  fault : {e : LexError} {at : List ℕ} → Fault flags text e at → SomeAnswer flags text

-- the longest prefix of characters that pass
pub record Span (p : ℕ → Bool) (text : List ℕ) : Type 0 where
  pub prefix : List ℕ
  pub rest : List ℕ
  pub cut : text ≡ prefix ++ rest
  pub passes : Each p prefix
  pub stops : Begins p rest → ⊥

pub span : (p : ℕ → Bool) (text : List ℕ) → Span p text
span p [] = record { prefix = []; rest = []; cut = refl; passes = tt; stops = λ b. b }
span p (c ∷ t) =
    elim (cases_Bool (p c)) [
      | inl h ↦ let k = span p t in record { prefix = c ∷ k.prefix; rest = k.rest; cut = ap (λ x. c ∷ x) k.cut; passes = (h, k.passes); stops = k.stops }
      | inr h ↦ record { prefix = []; rest = c ∷ t; cut = refl; passes = tt; stops = λ b. both_ways (p c) h b }
    ]

-- a comment's first confusing character
data Confused (w : List ℕ) : Type 0 where
  clear : NonePass is_confusing w → Confused w
  first : (prefix t : List ℕ) (c : ℕ) → w ≡ prefix ++ c ∷ t → NonePass is_confusing prefix → IsTrue (is_confusing c) → Confused w

confused_on : (c : ℕ) (w : List ℕ) → is_confusing c ≡ false → Confused w → Confused (c ∷ w)
confused_on c w h (clear n) = clear (h, n)
confused_on c w h (first prefix t d e n k) = first (c ∷ prefix) t d (ap (λ x. c ∷ x) e) (h, n) k

confused : (w : List ℕ) → Confused w
confused [] = clear tt
confused (c ∷ w) = elim (cases_Bool (is_confusing c)) [ inl h ↦ first [] w c refl tt h | inr h ↦ confused_on c w h (confused w) ]

comment_checked : (flags : Settings) (s : List ℕ) (k : TokenKind) (w r : List ℕ) → flags.allow ≡ false → IsComment k → WordIsAt (allowing flags) s k w r → Confused w → SomeAnswer flags s
comment_checked flags s k w r a i h (clear n) = word (record { cut = h.cut; word = clear_word flags k w i h.word n; ends = h.ends })
comment_checked flags s k w r a i h (first prefix t c e n q) =
    fault (confusing prefix a i h (h.cut ∙ ap (λ x. x ++ r) e ∙ append_assoc prefix (c ∷ t) r) n q (omega (arith, ap length e, length-append prefix (c ∷ t))))

comment_answer : (flags : Settings) (s : List ℕ) (k : TokenKind) (w r : List ℕ) → IsComment k → WordIsAt (allowing flags) s k w r → SomeAnswer flags s
comment_answer flags s k w r i h =
    elim (cases_Bool flags.allow) [
      | inl a ↦ let there : WordIsAt flags s k w r = subst (λ (b : Bool). WordIsAt (record flags { allow = b }) s k w r) (sym a) h in word there
      | inr a ↦ comment_checked flags s k w r a i h (confused w)
    ]

-- what closes the text, if something does
data SomeEnd (s : List ℕ) : Type 0 where
  closes : (r : List ℕ) → Closes s r → SomeEnd s
  never : ((r : List ℕ) → Closes s r → ⊥) → SomeEnd s

closed_or_on : (s t : List ℕ) (m : ℕ) → Reaches s m t → (0 < m → SomeEnd s) → SomeEnd s
closed_or_on s t m h next = elim (cases_eq m 0) [ inl e ↦ closes t (all_closed s m t e h) | inr e ↦ next (omega arith) ]

end_by : (s t : List ℕ) (n : ℕ) → 0 < n → Reaches s n t → SomeEnd s
end_by s [] n p h = never (none_closes s n p h)
end_by s (c ∷ []) n p h = never (none_closes s n p (step_last s c n p h))
end_by s (c ∷ d ∷ t) n p h =
    elim (cases_eq c open_paren) [
      | inl a ↦ elim (cases_eq d semicolon) [
        | inl b ↦ end_by s t (n + 1) (omega arith) (step_open s t n p (subst (λ x. Reaches s n (open_paren ∷ x ∷ t)) b (subst (λ x. Reaches s n (x ∷ d ∷ t)) a h)))
        | inr b ↦ end_by s (d ∷ t) n p (step_paren s t d n p b (subst (λ x. Reaches s n (x ∷ d ∷ t)) a h))
      ]
      | inr a ↦ elim (cases_eq c semicolon) [
        | inl e ↦ elim (cases_eq d close_paren) [
          | inl b ↦
              let k : n ≡ (n - 1) + 1 = omega arith in
              let g : Reaches s (n - 1) t = step_close s t (n - 1) (subst (λ x. Reaches s x (semicolon ∷ close_paren ∷ t)) k (subst (λ x. Reaches s n (semicolon ∷ x ∷ t)) b (subst (λ x. Reaches s n (x ∷ d ∷ t)) e h))) in
              closed_or_on s t (n - 1) g (λ q. end_by s t (n - 1) q g)
          | inr b ↦ end_by s (d ∷ t) n p (step_semicolon s t d n p b (subst (λ x. Reaches s n (x ∷ d ∷ t)) e h))
        ]
        | inr e ↦ end_by s (d ∷ t) n p (step_plain s (d ∷ t) c n p e a h)
      ]
    ]

block_answer : (flags : Settings) (u : List ℕ) → SomeEnd u → SomeAnswer flags (open_paren ∷ semicolon ∷ u)
block_answer flags u (closes r h) =
    let k = closes_cut u r h in
    let is : Commented (open_paren ∷ semicolon ∷ k.prefix) [] = opened (subst (λ x. Closes x []) (append-nil k.prefix) (k.closes [])) in
    comment_answer flags (open_paren ∷ semicolon ∷ u) BlockComment (open_paren ∷ semicolon ∷ k.prefix) r (inr refl)
    (record { cut = ap (λ x. open_paren ∷ semicolon ∷ x) k.cut; word = (is, tt); ends = tt })
block_answer flags u (never n) = fault (dangling (λ r h. by r h))
  where
    by : (r : List ℕ) → Commented (open_paren ∷ semicolon ∷ u) r → ⊥
    by r (opened h) = n r h

line_answer : (flags : Settings) (u : List ℕ) → SomeAnswer flags (semicolon ∷ semicolon ∷ u)
line_answer flags u =
    let k = span (λ c. not (is_line_end c)) u in
    comment_answer flags (semicolon ∷ semicolon ∷ u) LineComment (semicolon ∷ semicolon ∷ k.prefix) k.rest (inl refl)
    (record { cut = ap (λ x. semicolon ∷ semicolon ∷ x) k.cut; word = (begun k.passes, tt); ends = ends k.rest k.stops })
  where
    ends : (r : List ℕ) → (Begins (λ c. not (is_line_end c)) r → ⊥) → (r ≡ []) ⊎ Begins is_line_end r
    ends [] n = inl refl
    ends (c ∷ r) n = inr (elim (cases_Bool (is_line_end c)) [ inl h ↦ h | inr h ↦ absurd (n (ap not h)) ])

whitespace_answer : (flags : Settings) (c : ℕ) (t : List ℕ) → is_whitespace c ≡ true → SomeAnswer flags (c ∷ t)
whitespace_answer flags c t h =
    let k = span is_whitespace t in
    let there : WordIsAt flags (c ∷ t) Whitespace (c ∷ k.prefix) k.rest = record { cut = ap (λ x. c ∷ x) k.cut; word = (λ e. cc, (h, k.passes)); ends = k.stops } in
    word there

run_answer : (flags : Settings) (s : List ℕ) → Begins is_run_char s → SomeRun flags s → SomeAnswer flags s
run_answer flags s b (run {ps = ps} {r = r} h e) =
    let t = run_taken flags s ps r h in
    let w = t.prefix in
    let alone : Run flags w ps [] = subst (λ x. Run flags x ps []) (append-nil w) (t.again []) in
    let k = some_kind ps in
    let is = kind_of_run ps k.kind k.is in
    let there : WordIsAt flags s k.kind w r = record {
      cut = t.cut;
      word = word_of_run k.kind w flags is (ps, some_pieces flags s r ps h b e, alone, k.is);
      ends = ends_of_run k.kind w r is (no_semicolon flags w ps alone) e;
    } in
    word there
run_answer flags s b (runs.wrong h f) = fault (in_string h f)

punctuation_answer : (flags : Settings) (c : ℕ) (t : List ℕ) → is_punctuation c ≡ true → SomeAnswer flags (c ∷ t)
punctuation_answer flags c t h =
    let m : Punctuation (c ∷ []) = (c, refl, ap (λ b. b || c == semicolon) h) in
    let other : c ∷ [] ≡ semicolon ∷ [] → ⊥ = λ e. let k : c ≡ semicolon = cc in both_ways (is_punctuation c) (ap is_punctuation k) h in
    let there : WordIsAt flags (c ∷ t) Reserved (c ∷ []) t = record { cut = refl; word = inl m; ends = (λ e. absurd (other e), λ n. absurd (n m)) } in
    word there

-- whether a semicolon is next
after_open : (flags : Settings) (t : List ℕ) → SomeAnswer flags (open_paren ∷ t)
after_open flags [] = let there : WordIsAt flags (open_paren ∷ []) LParen (open_paren ∷ []) [] = record { cut = refl; word = refl; ends = λ b. b } in word there
after_open flags (d ∷ u) =
    elim (cases_eq d semicolon) [
      | inl e ↦ subst (λ x. SomeAnswer flags (open_paren ∷ x ∷ u)) (sym e) (block_answer flags u (end_by u u 1 (omega arith) (reaches_start u)))
      | inr e ↦ let there : WordIsAt flags (open_paren ∷ d ∷ u) LParen (open_paren ∷ []) (d ∷ u) = record { cut = refl; word = refl; ends = λ b. e (eqb-true d semicolon b) } in word there
    ]

semicolon_is_at : (flags : Settings) (t : List ℕ) → (Begins (λ c. c == semicolon) t → ⊥) → WordIsAt flags (semicolon ∷ t) Reserved (semicolon ∷ []) t
semicolon_is_at flags t n = let m : Punctuation (semicolon ∷ []) = (semicolon, refl, refl) in record { cut = refl; word = inl m; ends = (λ _. n, λ k. absurd (k m)) }

after_semicolon : (flags : Settings) (t : List ℕ) → SomeAnswer flags (semicolon ∷ t)
after_semicolon flags [] = word (semicolon_is_at flags [] (λ b. b))
after_semicolon flags (d ∷ u) =
    elim (cases_eq d semicolon) [
      | inl e ↦ subst (λ x. SomeAnswer flags (semicolon ∷ x ∷ u)) (sym e) (line_answer flags u)
      | inr e ↦ word (semicolon_is_at flags (d ∷ u) (λ b. e (eqb-true d semicolon b)))
    ]

shut_answer : (flags : Settings) (t : List ℕ) → SomeAnswer flags (close_paren ∷ t)
shut_answer flags t = let there : WordIsAt flags (close_paren ∷ t) RParen (close_paren ∷ []) t = record { cut = refl; word = refl; ends = tt } in word there

no_begin : (c : ℕ) → is_whitespace c ≡ false → is_run_char c ≡ false → is_punctuation c ≡ false → c ≢ open_paren → c ≢ close_paren → c ≢ semicolon → begins_word c ≡ false
no_begin c a b d e f g =
    ap (λ x. (x || is_run_char c) || (is_punctuation c || ((c == open_paren || c == close_paren) || c == semicolon))) a
    ∙ ap (λ x. (false || x) || (is_punctuation c || ((c == open_paren || c == close_paren) || c == semicolon))) b
    ∙ ap (λ x. x || ((c == open_paren || c == close_paren) || c == semicolon)) d
    ∙ ap (λ x. (x || c == close_paren) || c == semicolon) (ne_eqb c open_paren e)
    ∙ ap (λ x. x || c == semicolon) (ne_eqb c close_paren f)
    ∙ ne_eqb c semicolon g

by_punctuation : (flags : Settings) (c : ℕ) (t : List ℕ) → is_whitespace c ≡ false → is_run_char c ≡ false → is_punctuation c ≡ false → SomeAnswer flags (c ∷ t)
by_punctuation flags c t a b d =
    elim (cases_eq c open_paren) [
      | inl e ↦ subst (λ x. SomeAnswer flags (x ∷ t)) (sym e) (after_open flags t)
      | inr e ↦ elim (cases_eq c close_paren) [
        | inl f ↦ subst (λ x. SomeAnswer flags (x ∷ t)) (sym f) (shut_answer flags t)
        | inr f ↦ elim (cases_eq c semicolon) [
          | inl g ↦ subst (λ x. SomeAnswer flags (x ∷ t)) (sym g) (after_semicolon flags t)
          | inr g ↦ fault (unexpected (λ k. both_ways (begins_word c) (no_begin c a b d e f g) k))
        ]
      ]
    ]

pub some_answer : (flags : Settings) (text : List ℕ) → SomeAnswer flags text
some_answer flags [] = nothing refl
some_answer flags (c ∷ t) =
    elim (cases_Bool (is_whitespace c)) [
      | inl a ↦ whitespace_answer flags c t a
      | inr a ↦ elim (cases_Bool (is_run_char c)) [
        | inl b ↦ run_answer flags (c ∷ t) b (some_run flags (c ∷ t))
        | inr b ↦ elim (cases_Bool (is_punctuation c)) [ inl d ↦ punctuation_answer flags c t d | inr d ↦ by_punctuation flags c t a b d ]
      ]
    ]
