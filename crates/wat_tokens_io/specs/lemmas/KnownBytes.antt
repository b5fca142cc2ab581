-- Lemmas about sequences of reads and of writes.
use Rattle.std.proofs.Common.{◌≡◌, ℕ, List, [], ◌++◌, append_assoc, ap, sym, take, ◌∙◌}
use Rattle.std.specs.Prelude.{Some, None, Option, Result, Ok, Err}
use Rattle.std.specs.Io.KnownBytes.{Consumes, Appends, Keeps, IsAtEnd, WriteAppends}
use Rattle.std.proofs.lemmas.List.{append-nil}
use Rattle.wat_tokens_io.specs.Streams.{AppendsPrefix, WroteNothing}

pub consumes_none : (a : Option (List ℕ)) (bs : List ℕ) → bs ≡ [] → Consumes a a bs
consumes_none None bs e = tt
consumes_none (Some xs) bs e = ap (λ x. x ++ xs) (sym e)

pub consumes_more : (a b c : Option (List ℕ)) (xs ys zs : List ℕ) → Consumes a b xs → Consumes b c ys → zs ≡ xs ++ ys → Consumes a c zs
consumes_more None b c xs ys zs h g e = tt
consumes_more (Some x) None c xs ys zs h g e = absurd h
consumes_more (Some x) (Some y) None xs ys zs h g e = absurd g
consumes_more (Some x) (Some y) (Some z) xs ys zs h g e = h ∙ ap (λ v. xs ++ v) g ∙ sym (append_assoc xs ys z) ∙ ap (λ v. v ++ z) (sym e)

-- If the end was reached, all remaining bytes were read.
pub consumes_all : (x : List ℕ) (b : Option (List ℕ)) (xs : List ℕ) → Consumes (Some x) b xs → IsAtEnd b → xs ≡ x
consumes_all x None xs h e = absurd h
consumes_all x (Some y) xs h e = sym (h ∙ ap (λ v. xs ++ v) e ∙ append-nil xs)

pub appends_none : (a : Option (List ℕ)) → Appends a a []
appends_none None = tt
appends_none (Some xs) = sym (append-nil xs)

pub appends_more : (a b c : Option (List ℕ)) (xs ys zs : List ℕ) → Appends a b xs → Appends b c ys → zs ≡ xs ++ ys → Appends a c zs
appends_more None b c xs ys zs h g e = tt
appends_more (Some x) None c xs ys zs h g e = absurd h
appends_more (Some x) (Some y) None xs ys zs h g e = absurd g
appends_more (Some x) (Some y) (Some z) xs ys zs h g e = g ∙ ap (λ v. v ++ ys) h ∙ append_assoc x xs ys ∙ ap (λ v. x ++ v) (sym e)

pub appends_kept : (a b c : Option (List ℕ)) (xs : List ℕ) → Appends a b xs → Keeps b c → Appends a c xs
appends_kept None b c xs h k = tt
appends_kept (Some x) None c xs h k = absurd h
appends_kept (Some x) (Some y) None xs h k = absurd k
appends_kept (Some x) (Some y) (Some z) xs h k = k ∙ h

-- If a write of the bytes after the first `n` failed or consumed none of them, a prefix of all bytes was written.
pub cut_there : {E : Type 0} (a b c : Option (List ℕ)) (bytes rest : List ℕ) (n : ℕ) (r : Result ℕ E) → Appends a b (take n bytes) → WriteAppends b c r rest → WroteNothing r → AppendsPrefix a c bytes
cut_there a b c bytes rest n (Ok m) h w e = record { n = n; appended = appends_more a b c (take n bytes) (take m rest) (take n bytes) h w (sym (ap (λ k. take n bytes ++ take k rest) e ∙ append-nil (take n bytes))) }
cut_there a b c bytes rest n (Err e) h w t = record { n = n; appended = appends_kept a b c (take n bytes) h w }
