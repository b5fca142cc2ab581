-- The tokens from an offset on are those of the text that begins there, with their offsets moved.
use Rattle.std.proofs.Common.{◌≡◌, ◌≤◌, ◌+◌, ◌-◌, ℕ, List, [], ◌∷◌, length, drop, refl, arith, ap, sym, subst, length-drop}
use Rattle.std.specs.Prelude.{Option, Some, None}
use Rattle.std.proofs.lemmas.List.{drop-drop}
use Rattle.std.proofs.lemmas.Str.{encodes-chars, IsUtf8-drop}
use Rattle.std.specs.Str.{chars, IsUtf8, IsCharBoundary}
use Rattle.wat_lex.specs.grammar.Classes.{size, quote}
use Rattle.wat_lex.specs.tokens.Faults.{Fault, FaultAt, unexpected, dangling, confusing, in_string}
use Rattle.wat_lex.specs.tokens.CutsAndMoves.{moved_tokens, moved_ending, Moves}
use Rattle.wat_lex.specs.tokens.Setting.{Setting}
use Rattle.wat_lex.specs.tokens.Tiling.{TokenAt, Tiling, EndsAt}
use Rattle.wat_lex.specs.grammar.Words.{WordIsAt}
use Rattle.wat_lex.specs.declared.lexer.settings.Settings.{Settings}
use Rattle.wat_lex.specs.declared.lexer.kinds.Token.{Token}
use Rattle.wat_lex.specs.declared.lexer.faults.LexError.{LexError}
use Rattle.wat_lex.specs.declared.lexer.faults.LexFault.{LexFault}
use Rattle.wat_lex.proofs.inside.Confusing.{size-append}
use Rattle.wat_lex.proofs.grammar.Remainders.{run_taken, string_fault_fits}
use Rattle.wat_lex.proofs.tokens.RawLaws.{after}

-- a fault is reported inside the text
pub fault_fits : (flags : Settings) (s : List ℕ) (e : LexError) (at : List ℕ) → Fault flags s e at → size at ≤ size s
fault_fits flags s e at (unexpected n) = omega arith
fault_fits flags s e at (dangling n) = omega arith
fault_fits flags s e at (confusing prefix off kind_is there cut clear is lt) = omega (arith, ap size cut, size-append prefix at)
fault_fits flags s e at (in_string {t = t} {ps = ps} run g) =
    let k = run_taken flags s ps (quote ∷ t) run in
    let f = string_fault_fits flags t e at g in
    omega (arith, ap size k.cut, size-append k.prefix (quote ∷ t), size-append (quote ∷ []) t)

-- the text from the byte p on
text_from : Setting → ℕ → Setting
text_from s p = record s { text = drop p s.text }

into_token : (s : Setting) (p q : ℕ) (t : Token) → TokenAt (text_from s p) q t → TokenAt s (p + q) (record t { offset = p + t.offset })
unfolding text_from
into_token s p q t h = record {
  offset = ap (λ x. p + x) h.offset;
  word = h.word;
  rest = h.rest;
  is_at = subst (λ x. WordIsAt s.flags (chars x) t.kind h.word h.rest) (drop-drop q p s.text) h.is_at;
  len = h.len;
}

into_fault : (s : Setting) (p q : ℕ) (f : LexFault) → p ≤ length s.text → FaultAt (text_from s p) q f → FaultAt s (p + q) (record f { offset = p + f.offset })
unfolding text_from
into_fault s p q f l h = record { at = h.at; fault = subst (λ x. Fault s.flags (chars x) f.error h.at) (drop-drop q p s.text) h.fault; place = let k = h.place in omega (arith, k, length-drop p s.text) }

into_tiling : (s : Setting) (p q to : ℕ) (ts : List Token) → Tiling (text_from s p) q to ts → Tiling s (p + q) (p + to) (moved_tokens p ts)
unfolding text_from
into_tiling s p q to [] h = ap (λ x. p + x) h
into_tiling s p q to (t ∷ ts) h =
    let k : p + (t.offset + t.len) ≡ p + t.offset + t.len = omega arith in
    (into_token s p q t h.0, subst (λ x. Tiling s x (p + to) (moved_tokens p ts)) k (into_tiling s p (t.offset + t.len) to ts h.1))

into_ending : (s : Setting) (p q : ℕ) (e : Option LexFault) → p ≤ length s.text → EndsAt (text_from s p) q e → EndsAt s (p + q) (moved_ending p e)
unfolding text_from
into_ending s p q None l h = omega (arith, l, h, length-drop p s.text)
into_ending s p q (Some f) l h = into_fault s p q f l h

from_start : (s : Setting) (p to : ℕ) (ts : List Token) → Tiling s (p + 0) to ts → Tiling s p to ts
from_start s p to ts h = let k : p + 0 ≡ p = omega arith in subst (λ x. Tiling s x to ts) k h

-- A token of a text from the offset p on is a token of the text that begins there.
from_token : (s : Setting) (p q : ℕ) (u : Token) → TokenAt s (p + q) u → TokenAt (text_from s p) q (record u { offset = q })
unfolding text_from
from_token s p q u h = record {
  offset = refl;
  word = h.word;
  rest = h.rest;
  is_at = subst (λ x. WordIsAt s.flags (chars x) u.kind h.word h.rest) (sym (drop-drop q p s.text)) h.is_at;
  len = h.len;
}

moved_back : (u : Token) (p q : ℕ) → u.offset ≡ p + q → u ≡ record u { offset = p + q }
moved_back u p q e = λ i. record { kind = u.kind; offset = e i; len = u.len }

record Unmoved (s : Setting) (p q to : ℕ) (us : List Token) : Type 0 where
  tokens : List Token
  end : ℕ
  place : to ≡ p + end
  is : us ≡ moved_tokens p tokens
  tiling : Tiling (text_from s p) q end tokens

unmoved : (s : Setting) (p q to : ℕ) (us : List Token) → Tiling s (p + q) to us → Unmoved s p q to us
unfolding text_from
unmoved s p q to [] h = record { tokens = []; end = q; place = sym h; is = refl; tiling = refl }
unmoved s p q to (u ∷ us) h =
    let o = h.0.offset in
    let k : u.offset + u.len ≡ p + (q + u.len) = omega arith in
    let r = unmoved s p (q + u.len) to us (subst (λ x. Tiling s x to us) k h.1) in
    let m = moved_back u p q o in
    let l = r.is in
    let is : u ∷ us ≡ record u { offset = p + q } ∷ moved_tokens p r.tokens = cc in
    record { tokens = record u { offset = q } ∷ r.tokens; end = r.end; place = r.place; is = is; tiling = (from_token s p q u h.0, r.tiling) }

-- a tiling ends at a boundary
pub tiling_ends : (s : Setting) (p to : ℕ) (ts : List Token) → IsUtf8 s.text → IsCharBoundary s.text p → Tiling s p to ts → IsCharBoundary s.text to
tiling_ends s p to [] u b h = subst (IsCharBoundary s.text) h b
tiling_ends s p to (t ∷ ts) u b h = tiling_ends s (t.offset + t.len) to ts u (after s p t u b h.0) h.1

-- A lexical error is reported at its offset or after it.
fault_after : (s : Setting) (q : ℕ) (f : LexFault) → IsUtf8 s.text → IsCharBoundary s.text q → FaultAt s q f → q ≤ f.offset
fault_after s q f u b h =
    let rest = drop q s.text in
    let k = fault_fits s.flags (chars rest) f.error h.at h.fault in
    let l : size (chars rest) ≡ length rest = ap length (encodes-chars rest (IsUtf8-drop s.text q u b)) in
    let p = h.place in
    omega (arith, k, l, p, b.0, length-drop q s.text)

record UnmovedEnding (s : Setting) (p q : ℕ) (f : Option LexFault) : Type 0 where
  ending : Option LexFault
  is : f ≡ moved_ending p ending
  ends : EndsAt (text_from s p) q ending

unmoved_ending : (s : Setting) (p q : ℕ) (f : Option LexFault) → IsUtf8 s.text → p ≤ length s.text → IsCharBoundary s.text (p + q) → EndsAt s (p + q) f → UnmovedEnding s p q f
unfolding text_from
unmoved_ending s p q None u l b h = record { ending = None; is = refl; ends = omega (arith, l, h, length-drop p s.text) }
unmoved_ending s p q (Some f) u l b h =
    let k = fault_after s (p + q) f u b h in
    let o : f.offset ≡ p + (f.offset - p) = omega arith in
    let same : f ≡ record f { offset = p + (f.offset - p) } = λ i. record { offset = o i; error = f.error } in
    record {
      ending = Some (record f { offset = f.offset - p });
      is = ap Some same;
      ends = record { at = h.at; fault = subst (λ x. Fault s.flags (chars x) f.error h.at) (sym (drop-drop q p s.text)) h.fault; place = let e = h.place in omega (arith, e, k, l, length-drop p s.text) };
    }

pub moves : (s : Setting) (p : ℕ) → IsUtf8 s.text → IsCharBoundary s.text p → Moves s p
unfolding text_from
moves s p u b = record {
  into = λ ts e h. record { to = p + h.to; tiling = from_start s p (p + h.to) (moved_tokens p ts) (into_tiling s p 0 h.to ts h.tiling); ends = into_ending s p h.to e b.0 h.ends };
  from = λ us f h.
      let k : p ≡ p + 0 = omega arith in
      let m = unmoved s p 0 h.to us (subst (λ x. Tiling s x h.to us) k h.tiling) in
      let at = tiling_ends s p h.to us u b h.tiling in
      let n = unmoved_ending s p m.end f u b.0 (subst (IsCharBoundary s.text) m.place at) (subst (λ x. EndsAt s x f) m.place h.ends) in
      (m.tokens, n.ending, m.is, n.is, record { to = m.end; tiling = m.tiling; ends = n.ends });
}
