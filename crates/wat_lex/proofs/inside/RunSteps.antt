-- Steps of the reader of runs.
use Rattle.std.proofs.Common.{◌≡◌, ◌≢◌, ◌≤◌, ◌<◌, ◌+◌, ℕ, List, [], ◌∷◌, ◌++◌, length, take, drop, get_or, refl, arith, ap, sym, ◌∙◌, subst, length-drop, append_assoc, inl, inr, eq-eqb}
use Rattle.std.specs.Prelude.{◌==◌, map}
use Rattle.std.proofs.lemmas.Bool.{or_cases, ne_eqb, eqb-true}
use Rattle.std.proofs.lemmas.List.{append-nil, drop-drop, drop_more, length-take-le}
use Rattle.std.proofs.lemmas.List.Sums.{prefix_len-le-length}
use Rattle.std.proofs.lemmas.Str.{encodes-chars}
use Rattle.std.specs.List.{prefix_len}
use Rattle.std.specs.Str.{chars, IsUtf8}
use Rattle.wat_lex.specs.grammar.Classes.{Each, Begins, is_idchar, is_run_char}
use Rattle.wat_lex.specs.grammar.Runs.{Piece, Idchar, Quoted, Run, none, idchar, string}
use Rattle.wat_lex.specs.tokens.Faults.{in_string}
use Rattle.wat_lex.specs.inside.ScannedStrings.{StringTaken, StringFaultFound}
use Rattle.wat_lex.specs.inside.ScannedLexemes.{Refused}
use Rattle.wat_lex.specs.inside.ScannedRuns.{RunFound, idchar_count, string_count}
use Rattle.wat_lex.specs.declared.lexer.settings.Settings.{Settings}
use Rattle.wat_lex.specs.declared.lexer.faults.LexFault.{LexFault}
use Rattle.wat_lex.proofs.grammar.AsciiPrefixes.{Led, led, not_begun, ascii_prefix}
use Rattle.wat_lex.proofs.inside.LineComments.{idchar_ascii}

-- The first len bytes of a text are pieces of a run. Any run of the rest continues them.
pub record Joined (flags : Settings) (text : List ℕ) (len ids strs : ℕ) : Type 0 where
  pub pieces : List Piece
  pub run : (qs : List Piece) (r : List ℕ) → Run flags (chars (drop len text)) qs r → Run flags (chars text) (pieces ++ qs) r
  pub utf8 : IsUtf8 (drop len text)
  pub first : ids ≡ idchar_count pieces
  pub second : strs ≡ string_count pieces
  pub range : len ≤ length text
  pub bound : ids + strs ≤ len
  pub ends : Begins is_idchar (chars (drop len text)) → ⊥

ids_append : (ps qs : List Piece) → idchar_count (ps ++ qs) ≡ idchar_count ps + idchar_count qs
ids_append [] qs = omega arith
ids_append (Idchar c ∷ ps) qs = let k = ids_append ps qs in omega arith
ids_append (Quoted v ∷ ps) qs = ids_append ps qs

strs_append : (ps qs : List Piece) → string_count (ps ++ qs) ≡ string_count ps + string_count qs
strs_append [] qs = omega arith
strs_append (Idchar c ∷ ps) qs = strs_append ps qs
strs_append (Quoted v ∷ ps) qs = let k = strs_append ps qs in omega arith

ids_map : (w : List ℕ) → idchar_count (map Idchar w) ≡ length w
ids_map [] = refl
ids_map (c ∷ w) = let k = ids_map w in omega arith

strs_map : (w : List ℕ) → string_count (map Idchar w) ≡ 0
strs_map [] = refl
strs_map (c ∷ w) = strs_map w

idchars_run : (flags : Settings) (w t r : List ℕ) (qs : List Piece) → Each is_idchar w → Run flags t qs r → Run flags (w ++ t) (map Idchar w ++ qs) r
idchars_run flags [] t r qs e h = h
idchars_run flags (c ∷ w) t r qs e h = idchar e.0 (idchars_run flags w t r qs e.1 h)

pub joined_start : (flags : Settings) (text : List ℕ) (n : ℕ) → IsUtf8 text → n ≡ prefix_len is_idchar text → Joined flags text n n 0
joined_start flags text n u e =
    let m = prefix_len is_idchar text in
    let f = ascii_prefix is_idchar idchar_ascii text u in
    let l = prefix_len-le-length is_idchar text in
    let k = length-take-le m text l in
    let made : Joined flags text m m 0 = record {
      pieces = map Idchar (take m text);
      run = λ qs r h. subst (λ x. Run flags x (map Idchar (take m text) ++ qs) r) (sym f.cut) (idchars_run flags (take m text) (chars (drop m text)) r qs f.passes h);
      utf8 = f.utf8;
      first = sym (ids_map (take m text) ∙ k);
      second = sym (strs_map (take m text));
      range = l;
      bound = omega arith;
      ends = f.stops;
    } in
    subst (λ x. Joined flags text x x 0) (sym e) made

-- The byte after the first len bytes of a text is c, which is ASCII.
at_byte : (flags : Settings) (text : List ℕ) (len ids strs c : ℕ) → Joined flags text len ids strs → len < length text → get_or text len 0 ≡ c → c < 128 → Led (drop len text) c
at_byte flags text len ids strs c j l e s =
    led (drop len text) c j.utf8 (omega (arith, length-drop len text)) (ap (λ x. get_or x 0 0) (drop_more text len 0 l) ∙ e) s

pub past_quote : (flags : Settings) (text : List ℕ) (len ids strs : ℕ) → (j : Joined flags text len ids strs) → len < length text → get_or text len 0 ≡ 34 → chars (drop len text) ≡ 34 ∷ chars (drop (len + 1) text)
past_quote flags text len ids strs j l e =
    let k = at_byte flags text len ids strs 34 j l e (omega arith) in
    k.chars ∙ ap (λ x. 34 ∷ chars x) (drop-drop 1 len text)

pub after_quote : (flags : Settings) (text : List ℕ) (len ids strs : ℕ) → Joined flags text len ids strs → len < length text → get_or text len 0 ≡ 34 → IsUtf8 (drop (len + 1) text)
after_quote flags text len ids strs j l e = let k = at_byte flags text len ids strs 34 j l e (omega arith) in subst IsUtf8 (drop-drop 1 len text) k.utf8

pub joined_string : (flags : Settings) (text : List ℕ) (len ids strs n more : ℕ) → Joined flags text len ids strs → len < length text → get_or text len 0 ≡ 34 → StringTaken flags (drop (len + 1) text) n
    → more ≡ prefix_len is_idchar (drop (len + (1 + n)) text) → Joined flags text (len + (1 + n) + more) (ids + more) (strs + 1)
joined_string flags text len ids strs n more j l e h m =
    let at = len + (1 + n) in
    let after : drop n (drop (len + 1) text) ≡ drop at text = drop-drop n (len + 1) text ∙ ap (λ x. drop x text) (let k : len + 1 + n ≡ at = omega arith in k) in
    let next = joined_start flags (drop at text) more (subst IsUtf8 after h.utf8) m in
    let past : drop more (drop at text) ≡ drop (at + more) text = drop-drop more at text in
    record {
      pieces = j.pieces ++ Quoted h.value ∷ next.pieces;
      run = λ qs r k.
          let inner : Run flags (chars (drop at text)) (next.pieces ++ qs) r = next.run qs r (subst (λ x. Run flags (chars x) qs r) (sym past) k) in
          let quoted : Run flags (34 ∷ chars (drop (len + 1) text)) (Quoted h.value ∷ (next.pieces ++ qs)) r = string h.quoted (subst (λ x. Run flags (chars x) (next.pieces ++ qs) r) (sym after) inner) in
          subst (λ x. Run flags (chars text) x r) (sym (append_assoc j.pieces (Quoted h.value ∷ next.pieces) qs))
          (j.run (Quoted h.value ∷ (next.pieces ++ qs)) r (subst (λ x. Run flags x (Quoted h.value ∷ (next.pieces ++ qs)) r) (sym (past_quote flags text len ids strs j l e)) quoted));
      utf8 = subst IsUtf8 past next.utf8;
      first = let a = j.first in let b = next.first in let c = ids_append j.pieces (Quoted h.value ∷ next.pieces) in omega arith;
      second = let a = j.second in let b = next.second in let c = strs_append j.pieces (Quoted h.value ∷ next.pieces) in omega arith;
      range = let a = h.range in let b = next.range in omega (arith, length-drop at text, length-drop (len + 1) text);
      bound = let a = j.bound in omega arith;
      ends = λ g. next.ends (subst (λ x. Begins is_idchar (chars x)) (sym past) g);
    }

pub joined_end : (flags : Settings) (text : List ℕ) (len ids strs : ℕ) → Joined flags text len ids strs → (len < length text → get_or text len 0 ≢ 34) → RunFound flags text (record { len = len; idchars = ids; strings = strs })
joined_end flags text len ids strs j e = record {
  pieces = j.pieces;
  rest = chars (drop len text);
  run = subst (λ x. Run flags (chars text) x (chars (drop len text))) (append-nil j.pieces) (j.run [] (chars (drop len text)) none);
  ends = λ g. by (chars (drop len text)) refl g;
  place = let r = j.range in omega (arith, ap length (encodes-chars (drop len text) j.utf8), length-drop len text);
  first = j.first;
  second = j.second;
}
  where
    quote_first : (d : ℕ) (ds : List ℕ) → chars (drop len text) ≡ d ∷ ds → d ≡ 34 → ⊥
    quote_first d ds k q =
        not_begun (λ c. c == 34) (drop len text) j.utf8 (λ c t. let i = eqb-true c 34 t in omega arith)
        (λ l. ne_eqb (get_or (drop len text) 0 0) 34 (λ i. let m : len < length text = omega (arith, length-drop len text) in e m (ap (λ x. get_or x 0 0) (sym (drop_more text len 0 m)) ∙ i)))
        (subst (Begins (λ c. c == 34)) (sym k) (eq-eqb d 34 q))

    by : (cs : List ℕ) → chars (drop len text) ≡ cs → Begins is_run_char cs → ⊥
    by [] k g = g
    by (d ∷ ds) k g =
        elim (or_cases (is_idchar d) (d == 34) g) [
          | inl t ↦ j.ends (subst (Begins is_idchar) (sym k) t)
          | inr t ↦ quote_first d ds k (eqb-true d 34 t)
        ]

pub joined_wrong : (flags : Settings) (text : List ℕ) (len ids strs : ℕ) (f : LexFault) → Joined flags text len ids strs → len < length text → get_or text len 0 ≡ 34 → StringFaultFound flags (drop (len + 1) text) f → Refused flags text (record { offset = len + 1 + f.offset; error = f.error })
joined_wrong flags text len ids strs f j l e w = record {
  at = w.at;
  fault = in_string (j.run [] (34 ∷ chars (drop (len + 1) text)) (subst (λ x. Run flags x [] (34 ∷ chars (drop (len + 1) text))) (sym (past_quote flags text len ids strs j l e)) none)) w.fault;
  place = let p = w.place in omega (arith, p, length-drop (len + 1) text);
}
