-- Lemmas about output that is written block by block.
use Rattle.std.proofs.Common.{◌≡◌, ◌+◌, ◌<◌, ℕ, map, get_or, List, [], ◌∷◌, ◌++◌, length, take, drop, refl, sym, ap, ◌∙◌, subst, append_assoc}
use Rattle.std.proofs.Math.Seq.{take-append-add, take-append_seam}
use Rattle.std.proofs.lemmas.List.{append-nil, take-append-drop, map_more, map-append}
use Rattle.std.proofs.lemmas.List.Concat.{flat_map-append}
use Rattle.std.specs.Prelude.{Option, Result, Ok, Err, OnOk, OnErr, flat_map}
use Rattle.std.specs.Io.KnownBytes.{Appends}
use Rattle.std.specs.Str.{IsUtf8, IsCharBoundary}
use Rattle.wat_lex.specs.tokens.EverySetting.{EachBoundaryHasTiling}
use Rattle.wat_lex.specs.tokens.Setting.{Setting}
use Rattle.wat_lex.specs.tokens.Tiling.{TokenAt, Tiling, EndsAt}
use Rattle.wat_lex.specs.declared.lexer.faults.LexFault.{LexFault}
use Rattle.wat_lex.specs.declared.lexer.kinds.Token.{Token}
use Rattle.wat_tokens_io.specs.Blocks.{Puts, AppendsEach, AppendsEachCut}
use Rattle.wat_tokens_io.specs.Streams.{AppendsPrefix}
use Rattle.wat_tokens_io.specs.lemmas.KnownBytes.{appends_none, appends_more}

-- Appending no bytes changes neither the output nor the block.
pub puts_none : (a : Option (List ℕ)) (block bytes : List ℕ) → bytes ≡ [] → Puts a a block block bytes
puts_none a block bytes e = record { written = []; appended = appends_none a; all = sym (ap (λ x. block ++ x) e ∙ append-nil block) }

pub puts_more : (a b c : Option (List ℕ)) (block block' block'' xs ys zs : List ℕ) → Puts a b block block' xs → Puts b c block' block'' ys → zs ≡ xs ++ ys → Puts a c block block'' zs
puts_more a b c block block' block'' xs ys zs h k e = record {
  written = h.written ++ k.written;
  appended = appends_more a b c h.written k.written (h.written ++ k.written) h.appended k.appended refl;
  all = append_assoc h.written k.written block'' ∙ ap (λ x. h.written ++ x) k.all ∙ sym (append_assoc h.written block' ys) ∙ ap (λ x. x ++ ys) h.all ∙ append_assoc block xs ys ∙ ap (λ x. block ++ x) (sym e);
}

-- If `written` was written, and then a prefix of `rest`, a prefix of both was written.
pub cut_after : (a b c : Option (List ℕ)) (written rest all : List ℕ) → Appends a b written → AppendsPrefix b c rest → all ≡ written ++ rest → AppendsPrefix a c all
cut_after a b c written rest all h k e = record {
  n = length written + k.n;
  appended = appends_more a b c written (take k.n rest) (take (length written + k.n) all) h k.appended (ap (λ x. take (length written + k.n) x) e ∙ take-append-add written rest k.n);
}

pub cut_more : (a b c : Option (List ℕ)) (block block' xs ys zs : List ℕ) → Puts a b block block' xs → AppendsPrefix b c (block' ++ ys) → zs ≡ xs ++ ys → AppendsPrefix a c (block ++ zs)
cut_more a b c block block' xs ys zs h k e =
    cut_after a b c h.written (block' ++ ys) (block ++ zs) h.appended k
    (ap (λ x. block ++ x) e ∙ sym (append_assoc block xs ys) ∙ ap (λ x. x ++ ys) (sym h.all) ∙ append_assoc h.written block' ys)

-- A prefix of `xs` is a prefix of any bytes that begin with `xs`.
pub cut_longer : (a b : Option (List ℕ)) (xs ys zs : List ℕ) → AppendsPrefix a b xs → zs ≡ xs ++ ys → AppendsPrefix a b zs
cut_longer a b xs ys zs h e =
    let split : zs ≡ take h.n xs ++ (drop h.n xs ++ ys) = e ∙ ap (λ x. x ++ ys) (sym (take-append-drop h.n xs)) ∙ append_assoc (take h.n xs) (drop h.n xs) ys in
    record {
      n = length (take h.n xs);
      appended = subst (λ x. Appends a b x) (sym (ap (λ x. take (length (take h.n xs)) x) split ∙ take-append_seam (take h.n xs) (drop h.n xs ++ ys))) h.appended;
    }

-- The bytes `each t` of the raw tokens before the offset `pos` were appended to an empty block. The output grew from
-- `old` to `new`, and the block holds the remaining bytes.
pub record Putting (each : Token → List ℕ) (s : Setting) (pos : ℕ) (old new : Option (List ℕ)) (block : List ℕ) : Type 0 where
  pub tokens : List Token
  pub tiling : Tiling s 0 pos tokens
  pub boundary : IsCharBoundary s.text pos
  pub puts : Puts old new [] block (flat_map each tokens)

pub putting_start : (each : Token → List ℕ) (s : Setting) (a : Option (List ℕ)) (block : List ℕ) → IsCharBoundary s.text 0 → block ≡ [] → Putting each s 0 a a block
putting_start each s a block b e = subst (λ x. Putting each s 0 a a x) (sym e) (record { tokens = []; tiling = refl; boundary = b; puts = puts_none a [] [] refl })

tiled_more : (s : Setting) (from to : ℕ) (ts : List Token) (t : Token) → Tiling s from to ts → TokenAt s to t → Tiling s from (t.offset + t.len) (ts ++ t ∷ [])
tiled_more s from to [] t h k = (subst (λ p. TokenAt s p t) (sym h) k, refl)
tiled_more s from to (u ∷ ts) t h k = (h.0, tiled_more s (u.offset + u.len) to ts t h.1 k)

tiled_on : (s : Setting) (from mid to : ℕ) (ts us : List Token) → Tiling s from mid ts → Tiling s mid to us → Tiling s from to (ts ++ us)
tiled_on s from mid to [] us h k = subst (λ p. Tiling s p to us) (sym h) k
tiled_on s from mid to (t ∷ ts) us h k = (h.0, tiled_on s (t.offset + t.len) mid to ts us h.1 k)

pub tiled_from : (s : Setting) (from : ℕ) (ts : List Token) (t : Token) (pos : ℕ) → Tiling s from pos ts → TokenAt s pos t → IsCharBoundary s.text (pos + t.len) → IsCharBoundary s.text (t.offset + t.len)
tiled_from s from ts t pos h k b = let o = k.offset in subst (λ p. IsCharBoundary s.text (p + t.len)) (sym o) b

one_more : (each : Token → List ℕ) (ts : List Token) (t : Token) → flat_map each (ts ++ t ∷ []) ≡ flat_map each ts ++ each t
one_more each ts t = flat_map-append each ts (t ∷ []) ∙ ap (λ x. flat_map each ts ++ x) (append-nil (each t))

pub putting_more : (each : Token → List ℕ) (s : Setting) (pos : ℕ) (a b c : Option (List ℕ)) (block block' : List ℕ) (t : Token) → Putting each s pos a b block → TokenAt s pos t → IsCharBoundary s.text (pos + t.len) → Puts b c block block' (each t)
    → Putting each s (t.offset + t.len) a c block'
putting_more each s pos a b c block block' t h k bound p = record {
  tokens = h.tokens ++ t ∷ [];
  tiling = tiled_more s 0 pos h.tokens t h.tiling k;
  boundary = tiled_from s 0 h.tokens t pos h.tiling k bound;
  puts = puts_more a b c [] block block' (flat_map each h.tokens) (each t) (flat_map each (h.tokens ++ t ∷ [])) h.puts p (one_more each h.tokens t);
}

-- If a write fails at the bytes of a token, a prefix of the bytes of all tokens was written.
pub putting_cut : EachBoundaryHasTiling → (each : Token → List ℕ) (s : Setting) (pos : ℕ) (a b c : Option (List ℕ)) (block : List ℕ) (t : Token) → IsUtf8 s.text → Putting each s pos a b block → TokenAt s pos t → IsCharBoundary s.text (pos + t.len) → AppendsPrefix b c (block ++ each t)
    → AppendsEachCut each s a c
putting_cut tiled each s pos a b c block t u h k bound p =
    let after = tiled s (t.offset + t.len) u (tiled_from s 0 h.tokens t pos h.tiling k bound) in
    let so_far = h.tokens ++ t ∷ [] in
    let all = flat_map-append each so_far after.0 in
    record {
      tokens = so_far ++ after.0;
      ending = after.1;
      tiling = record { to = after.2.to; tiling = tiled_on s 0 (t.offset + t.len) after.2.to so_far after.0 (tiled_more s 0 pos h.tokens t h.tiling k) after.2.tiling; ends = after.2.ends };
      appended = cut_longer a c (flat_map each so_far) (flat_map each after.0) (flat_map each (so_far ++ after.0))
          (cut_more a b c [] block (flat_map each h.tokens) (each t) (flat_map each so_far) h.puts p (one_more each h.tokens t)) all;
    }

pub putting_end : {T E : Type 0} (each : Token → List ℕ) (s : Setting) (pos : ℕ) (ending : Option LexFault) (a b c : Option (List ℕ)) (block : List ℕ) (r : Result T E) → Putting each s pos a b block → EndsAt s pos ending → OnOk r (Appends b c block)
    → OnOk r (AppendsEach each s a c)
putting_end each s pos ending a b c block (Ok t) h e p = record {
  tokens = h.tokens;
  ending = ending;
  tiling = record { to = pos; tiling = h.tiling; ends = e };
  appended = appends_more a b c h.puts.written block (flat_map each h.tokens) h.puts.appended p (sym h.puts.all);
}
putting_end each s pos ending a b c block (Err f) h e p = tt

pub putting_end_cut : {T E : Type 0} (each : Token → List ℕ) (s : Setting) (pos : ℕ) (ending : Option LexFault) (a b c : Option (List ℕ)) (block : List ℕ) (r : Result T E) → Putting each s pos a b block → EndsAt s pos ending → OnErr r (AppendsPrefix b c block)
    → OnErr r (AppendsEachCut each s a c)
putting_end_cut each s pos ending a b c block (Ok t) h e p = tt
putting_end_cut each s pos ending a b c block (Err f) h e p = record {
  tokens = h.tokens;
  ending = ending;
  tiling = record { to = pos; tiling = h.tiling; ends = e };
  appended = cut_after a b c h.puts.written block (flat_map each h.tokens) h.puts.appended p (sym h.puts.all);
}

-- Bytes that are longer than a block are written after those of the block.
pub put_long : {T E : Type 0} (a b c : Option (List ℕ)) (block block' bytes : List ℕ) (r : Result T E) → Appends a b block → OnOk r (Appends b c bytes) → block' ≡ [] → OnOk r (Puts a c block block' bytes)
put_long a b c block block' bytes (Ok t) h k e = record {
  written = block ++ bytes;
  appended = appends_more a b c block bytes (block ++ bytes) h k refl;
  all = ap (λ x. (block ++ bytes) ++ x) e ∙ append-nil (block ++ bytes);
}
put_long a b c block block' bytes (Err e) h k f = tt

pub put_long_cut : {T E : Type 0} (a b c : Option (List ℕ)) (block bytes : List ℕ) (r : Result T E) → Appends a b block → OnErr r (AppendsPrefix b c bytes) → OnErr r (AppendsPrefix a c (block ++ bytes))
put_long_cut a b c block bytes (Ok t) h k = tt
put_long_cut a b c block bytes (Err e) h k = cut_after a b c block bytes (block ++ bytes) h k refl

-- A fact holds after a failed call if it holds anyway.
pub on_err : {T E P : Type 0} (r : Result T E) → P → OnErr r P
on_err (Ok t) p = tt
on_err (Err e) p = p

pub ok_then : {T E A B : Type 0} (r : Result T E) → (A → B) → OnOk r A → OnOk r B
ok_then (Ok t) f a = f a
ok_then (Err e) f a = tt

pub err_then : {T E A B : Type 0} (r : Result T E) → (A → B) → OnErr r A → OnErr r B
err_then (Ok t) f a = tt
err_then (Err e) f a = f a

-- Appending the bytes of `map f xs` one by one.
pub puts_next : (f : ℕ → ℕ) (a b c : Option (List ℕ)) (block block' block'' xs : List ℕ) (i y : ℕ) → i < length xs → y ≡ f (get_or xs i 0) → Puts a b block block' (map f (take i xs)) → Puts b c block' block'' (y ∷ []) → Puts a c block block'' (map f (take (i + 1) xs))
puts_next f a b c block block' block'' xs i y lt e h k =
    puts_more a b c block block' block'' (map f (take i xs)) (y ∷ []) (map f (take (i + 1) xs)) h k (map_more f xs i 0 lt ∙ ap (λ x. map f (take i xs) ++ x ∷ []) (sym e))

pub puts_cut : (f : ℕ → ℕ) (a b c : Option (List ℕ)) (block block' xs : List ℕ) (i y : ℕ) → i < length xs → y ≡ f (get_or xs i 0) → Puts a b block block' (map f (take i xs)) → AppendsPrefix b c (block' ++ y ∷ []) → AppendsPrefix a c (block ++ map f xs)
puts_cut f a b c block block' xs i y lt e h k =
    let front = map f (take (i + 1) xs) in
    let rest = map f (drop (i + 1) xs) in
    let all : map f xs ≡ front ++ rest = ap (λ x. map f x) (sym (take-append-drop (i + 1) xs)) ∙ map-append f (take (i + 1) xs) (drop (i + 1) xs) in
    cut_longer a c (block ++ front) rest (block ++ map f xs)
    (cut_more a b c block block' (map f (take i xs)) (y ∷ []) front h k (map_more f xs i 0 lt ∙ ap (λ x. map f (take i xs) ++ x ∷ []) (sym e)))
    (ap (λ x. block ++ x) all ∙ sym (append_assoc block front rest))
