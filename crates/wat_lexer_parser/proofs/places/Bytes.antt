-- The byte offsets of positions, and the results of a lexer there.
use Rattle.std.proofs.Common.{◌≡◌, ◌≤◌, ◌+◌, ℕ, zero, suc, List, [], ◌∷◌, length, drop, arith, refl, ap, sym, ◌∙◌, subst, inl, inr, Some, None, Ok, Err}
use Rattle.std.specs.Prelude.{◌⊎◌, IfOk, IfErr, IfSome, IfNone, Option, Result, slice_get}
use Rattle.std.proofs.lemmas.Option.{slice_get_within}
use Rattle.std.proofs.lemmas.Str.{IsCharBoundary-start}
use Rattle.std.specs.Str.{IsUtf8, IsCharBoundary}
use Rattle.wat_lex.specs.tokens.Faults.{FaultAt}
use Rattle.wat_lex.specs.tokens.Setting.{Setting}
use Rattle.wat_lex.specs.tokens.Tiling.{TokenAt, Tiling, MaximalTiling}
use Rattle.wat_lex.specs.tokens.UniqueTilings.{ResultAt, EndsFrom}
use Rattle.wat_lex.specs.declared.lexer.faults.LexFault.{LexFault}
use Rattle.wat_lex.specs.declared.lexer.kinds.Token.{Token}
use Rattle.wat_lex.proofs.lemmas.Tokens.{one_thing_is_at, tiling_ends_at_boundary, token_ends_at_boundary, token_is_not_empty}
use Rattle.wat_lexer_parser.specs.inside.Next.{IsPlace}
use Rattle.wat_lexer_parser.specs.inside.ShownIn.{first}
use Rattle.wat_lexer_parser.specs.places.Places.{offset_at}
use Rattle.wat_lexer_parser.specs.places.Source.{Source, IsRead}
use Rattle.wat_lexer_parser.proofs.places.Tails.{tails_are_raw}
use Rattle.wat_lexer_parser.proofs.shown.Looks.{first-drop}

ends_at : (s : Setting) (from to : ℕ) (t : Token) (ts : List Token) (p : ℕ) → IsUtf8 s.text → IsCharBoundary s.text from → Tiling s from to (t ∷ ts) → p ≤ length ts → IsCharBoundary s.text (offset_at (t ∷ ts) (suc p))
ends_at s from to t ts zero u b h l = token_ends_at_boundary s from t u b h.0
ends_at s from to t [] (suc p) u b h l = absurd (omega arith)
ends_at s from to t (v ∷ ts) (suc p) u b h l = ends_at s (t.offset + t.len) to v ts p u (token_ends_at_boundary s from t u b h.0) h.1 (omega arith)

-- The byte offset of each position is a char boundary.
pub boundary_at : (s : Setting) (ts : List Token) (e : Option LexFault) (p : ℕ) → IsUtf8 s.text → MaximalTiling s 0 ts e → p ≤ length ts → IsCharBoundary s.text (offset_at ts p)
boundary_at s ts e zero u h l = IsCharBoundary-start s.text u
boundary_at s [] e (suc p) u h l = absurd (omega arith)
boundary_at s (t ∷ ts) e (suc p) u h l = ends_at s 0 h.to t ts p u (IsCharBoundary-start s.text u) h.tiling (omega arith)

few : (s : Setting) (from to : ℕ) (ts : List Token) → Tiling s from to ts → from + length ts ≤ to
few s from to [] h = omega (arith, h)
few s from to (t ∷ ts) h =
    let k = few s (t.offset + t.len) to ts h.1 in
    let o = h.0.offset in
    let l = token_is_not_empty s from t h.0 in
    omega (arith, k, o, l)

-- There are at most as many tokens as bytes.
pub few_tokens : (s : Setting) (ts : List Token) (e : Option LexFault) → IsUtf8 s.text → MaximalTiling s 0 ts e → length ts ≤ length s.text
few_tokens s ts e u h =
    let k = few s 0 h.to ts h.tiling in
    let b = (tiling_ends_at_boundary s 0 h.to ts u (IsCharBoundary-start s.text u) h.tiling).0 in
    omega (arith, k, b)

-- The first of some tokens, or their ending if there is none.
abbrev pub answer_of : List Token → Option LexFault → Result (Option Token) LexFault
answer_of [] None = Ok None
answer_of [] (Some f) = Err f
answer_of (t ∷ ts) e = Ok (Some t)

answers : (s : Setting) (p : ℕ) (ts : List Token) (e : Option LexFault) → MaximalTiling s p ts e → ResultAt s p (answer_of ts e)
answers s p [] None h = h.tiling ∙ h.ends
answers s p [] (Some f) h = subst (λ q. FaultAt s q f) (sym h.tiling) h.ends
answers s p (t ∷ ts) e h = h.tiling.0

-- This is the result of a lexer at the byte offset of the position.
pub answer_at : (s : Source) (p byte : ℕ) → IsRead s → IsPlace s p byte → ResultAt s.setting byte (answer_of (drop p s.tokens) s.ending)
answer_at s p byte read h =
    let k = tails_are_raw s.setting s.tokens s.ending p read h.within in
    subst (λ q. ResultAt s.setting q (answer_of (drop p s.tokens) s.ending)) (sym h.byte_at) (answers s.setting (offset_at s.tokens p) (drop p s.tokens) s.ending k)

pub boundary : (s : Source) (p byte : ℕ) → IsUtf8 s.setting.text → IsRead s → IsPlace s p byte → IsCharBoundary s.setting.text byte
boundary s p byte u read h = subst (IsCharBoundary s.setting.text) (sym h.byte_at) (boundary_at s.setting s.tokens s.ending p u read h.within)

first_is : (ts : List Token) (e : Option LexFault) → IfOk (answer_of ts e) (λ found. found ≡ first ts)
first_is [] None = refl
first_is [] (Some f) = tt
first_is (t ∷ ts) e = refl

pub token_is : (s : Source) (p : ℕ) → IfOk (answer_of (drop p s.tokens) s.ending) (λ found. found ≡ slice_get s.tokens p)
token_is s p = subst (λ x. IfOk (answer_of (drop p s.tokens) s.ending) (λ found. found ≡ x)) (first-drop p s.tokens) (first_is (drop p s.tokens) s.ending)

none_ends : (ts : List Token) (e : Option LexFault) → IfOk (answer_of ts e) (λ found. IfNone found (e ≡ None))
none_ends [] None = refl
none_ends [] (Some f) = tt
none_ends (t ∷ ts) e = tt

pub end_is : (s : Source) (p : ℕ) → IfOk (answer_of (drop p s.tokens) s.ending) (λ found. IfNone found (s.ending ≡ None))
end_is s p = none_ends (drop p s.tokens) s.ending

fault_ends : (ts : List Token) (e : Option LexFault) → IfErr (answer_of ts e) (λ f. (first ts ≡ None) × (e ≡ Some f))
fault_ends [] None = tt
fault_ends [] (Some f) = (refl, refl)
fault_ends (t ∷ ts) e = tt

pub fault_is : (s : Source) (p : ℕ) → IfErr (answer_of (drop p s.tokens) s.ending) (λ f. (slice_get s.tokens p ≡ None) × (s.ending ≡ Some f))
fault_is s p = subst (λ x. IfErr (answer_of (drop p s.tokens) s.ending) (λ f. (x ≡ None) × (s.ending ≡ Some f))) (first-drop p s.tokens) (fault_ends (drop p s.tokens) s.ending)

-- The position after a token.
pub next_place : (s : Source) (p : ℕ) (t : Token) → slice_get s.tokens p ≡ Some t → IsPlace s (p + 1) (t.offset + t.len)
next_place s p t h =
    let l = slice_get_within s.tokens p t h in
    let k : p + 1 ≡ suc p = omega arith in
    record { within = omega (arith, l); byte_at = sym (ap (offset_at s.tokens) k ∙ offset_after s.tokens p t h) }
  where
    offset_after : (ts : List Token) (p : ℕ) (t : Token) → slice_get ts p ≡ Some t → offset_at ts (suc p) ≡ t.offset + t.len
    offset_after ts p t h = cc

next_by : (s : Source) (p : ℕ) (found : Option Token) → found ≡ slice_get s.tokens p → IfSome found (λ t. IsPlace s (p + 1) (t.offset + t.len))
next_by s p None h = tt
next_by s p (Some t) h = next_place s p t (sym h)

next_all : (s : Source) (p : ℕ) (r : Result (Option Token) LexFault) → IfOk r (λ found. found ≡ slice_get s.tokens p) → IfOk r (λ found. IfSome found (λ t. IsPlace s (p + 1) (t.offset + t.len)))
next_all s p (Ok found) h = next_by s p found h
next_all s p (Err f) h = tt

pub next_is : (s : Source) (p : ℕ) → IfOk (answer_of (drop p s.tokens) s.ending) (λ found. IfSome found (λ t. IsPlace s (p + 1) (t.offset + t.len)))
next_is s p = next_all s p (answer_of (drop p s.tokens) s.ending) (token_is s p)

-- A token at the byte offset of a position is the raw token at that position.
pub some_is : (s : Source) (p byte : ℕ) (found : Option Token) → IsRead s → IsPlace s p byte → IfSome found (TokenAt s.setting byte) → IfSome found (λ t. slice_get s.tokens p ≡ Some t)
some_is s p byte None read h a = tt
some_is s p byte (Some t) read h a = sym (subst (λ r. IfOk r (λ found. found ≡ slice_get s.tokens p)) (one_thing_is_at s.setting byte (answer_of (drop p s.tokens) s.ending) (Ok (Some t)) (answer_at s p byte read h) a) (token_is s p))

-- If no token is at the byte offset, there is none at the position.
pub none_is : (s : Source) (p byte : ℕ) (found : Option Token) → IsRead s → IsPlace s p byte → IfNone found ((byte ≡ length s.setting.text) ⊎ ((f : LexFault) × FaultAt s.setting byte f)) → IfNone found (slice_get s.tokens p ≡ None)
none_is s p byte (Some t) read h a = tt
none_is s p byte None read h (inl e) = sym (subst (λ r. IfOk r (λ found. found ≡ slice_get s.tokens p)) (one_thing_is_at s.setting byte (answer_of (drop p s.tokens) s.ending) (Ok None) (answer_at s p byte read h) e) (token_is s p))
none_is s p byte None read h (inr f) = (subst (λ r. IfErr r (λ f. (slice_get s.tokens p ≡ None) × (s.ending ≡ Some f))) (one_thing_is_at s.setting byte (answer_of (drop p s.tokens) s.ending) (Err f.0) (answer_at s p byte read h) f.1) (fault_is s p)).0

pub some_next : (s : Source) (p : ℕ) (found : Option Token) → IfSome found (λ t. slice_get s.tokens p ≡ Some t) → IfSome found (λ t. IsPlace s (p + 1) (t.offset + t.len))
some_next s p None h = tt
some_next s p (Some t) h = next_place s p t h

-- From the byte offset of a position, the text has the same ending.
pub ends_from : (s : Source) (p byte : ℕ) → IsRead s → IsPlace s p byte → EndsFrom s.setting byte s.ending
ends_from s p byte read h =
    subst (λ q. EndsFrom s.setting q s.ending) (sym h.byte_at) (record { tokens = drop p s.tokens; tiling = tails_are_raw s.setting s.tokens s.ending p read h.within })
