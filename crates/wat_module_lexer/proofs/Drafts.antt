-- Tokens that are packed one by one.
use Rattle.std.proofs.Common.{◌≡◌, ◌∙◌, ◌<◌, ◌≤◌, ℕ, suc, List, [], ◌∷◌, ◌++◌, get_or, length, map, sym, ap, subst, refl, arith, length-append, Some}
use Rattle.std.specs.Prelude.{slice_get}
use Rattle.std.proofs.lemmas.List.{get_or_append_left, map-append}
use Rattle.std.proofs.lemmas.List.Elements.{All-head, All-nil, All-push, All-tail}
use Rattle.std.proofs.lemmas.Option.{slice_get-get_or}
use Rattle.wat_module_tokens.specs.declared.stream.PackedU32.{PackedU32}
use Rattle.wat_module_tokens.specs.declared.stream.SideValue.{SideValue}
use Rattle.wat_module_tokens.specs.declared.stream.PackedToken.{PackedToken}
use Rattle.wat_module_tokens.specs.declared.stream.PackedToken.TheVariants as short
use Rattle.wat_module_tokens.specs.Terminals.{Terminal}
use Rattle.wat_module_lexer.specs.Drafts.{IsAtom}
use Rattle.wat_module_lexer.proofs.Groups.{joined_push}
use Rattle.wat_module_tokens.specs.Tokens.{AreReadable, IsReadable, joined, kept_or, kept_terminal, number_of, terminal_in, terminals_after, terminals_in}

same_get : (ks : List SideValue) (k : SideValue) (i : ℕ) → i < length ks → slice_get (ks ++ k ∷ []) i ≡ slice_get ks i
same_get ks k i h =
    slice_get-get_or (ks ++ k ∷ []) i k (omega (arith, h, length-append ks (k ∷ []))) ∙ ap Some (get_or_append_left ks (k ∷ []) k i h) ∙ sym (slice_get-get_or ks i k h)

last_get : (ks : List SideValue) (k : SideValue) → slice_get (ks ++ k ∷ []) (length ks) ≡ Some k
last_get [] k = refl
last_get (x ∷ ks) k = last_get ks k

-- a value more that is kept changes no token that could be read
same_one : (text : List ℕ) (ks : List SideValue) (k : SideValue) (t : PackedToken) → IsReadable text (length ks) t → terminal_in text (ks ++ k ∷ []) t ≡ terminal_in text ks t
same_one text ks k (short.Open e) h = refl
same_one text ks k short.Close h = refl
same_one text ks k (short.Word o n) h = refl
same_one text ks k (short.Id o n) h = refl
same_one text ks k (short.Integer s n) h = refl
same_one text ks k (short.Float o n) h = refl
same_one text ks k (short.Text o n) h = refl
same_one text ks k (short.SideValue i) h = ap kept_or (same_get ks k (number_of i) h)
same_one text ks k (short.KeywordGroup o n) h = refl
same_one text ks k short.Other h = refl

pub same : (text : List ℕ) (ks : List SideValue) (k : SideValue) (ts : List PackedToken) → AreReadable text (length ks) ts → map (terminals_in text (ks ++ k ∷ [])) ts ≡ map (terminals_in text ks) ts
same text ks k [] h = refl
same text ks k (t ∷ ts) h =
    ap (λ x. (x ∷ terminals_after text t) ∷ map (terminals_in text (ks ++ k ∷ [])) ts) (same_one text ks k t (All-head (IsReadable text (length ks)) t ts h))
    ∙ ap (λ x. terminals_in text ks t ∷ x) (same text ks k ts (All-tail (IsReadable text (length ks)) t ts h))

more_one : (text : List ℕ) (n m : ℕ) (t : PackedToken) → n ≤ m → IsReadable text n t → IsReadable text m t
more_one text n m (short.Open e) l h = tt
more_one text n m short.Close l h = tt
more_one text n m (short.Word o k) l h = h
more_one text n m (short.Id o k) l h = h
more_one text n m (short.Integer s k) l h = tt
more_one text n m (short.Float o k) l h = h
more_one text n m (short.Text o k) l h = h
more_one text n m (short.SideValue i) l h = omega (arith, l, h)
more_one text n m (short.KeywordGroup o k) l h = h
more_one text n m short.Other l h = tt

more : (text : List ℕ) (n m : ℕ) (ts : List PackedToken) → n ≤ m → AreReadable text n ts → AreReadable text m ts
more text n m ts l h = λ k d b. more_one text n m (get_or ts k d) l (h k d b)

-- A token that is not a parenthesis has one terminal.
pub one_terminal : (text : List ℕ) (t : PackedToken) → IsAtom (terminal_in text [] t) → terminals_after text t ≡ []
one_terminal text (short.Open e) a = refl
one_terminal text short.Close a = refl
one_terminal text (short.Word o n) a = refl
one_terminal text (short.Id o n) a = refl
one_terminal text (short.Integer s n) a = refl
one_terminal text (short.Float o n) a = refl
one_terminal text (short.Text o n) a = refl
one_terminal text (short.SideValue i) a = refl
one_terminal text (short.KeywordGroup o n) a = absurd a
one_terminal text short.Other a = refl

-- a token more
pub piece_short : (text : List ℕ) (ks : List SideValue) (ts us : List PackedToken) (t : PackedToken) (x : Terminal) → us ≡ ts ++ t ∷ [] → ((js : List SideValue) → terminal_in text js t ≡ x) → IsAtom x → map (terminals_in text ks) us ≡ map (terminals_in text ks) ts ++ (x ∷ []) ∷ []
piece_short text ks ts us t x e h a =
    let one : terminals_after text t ≡ [] = one_terminal text t (subst IsAtom (sym (h [])) a) in
    ap (λ v. map (terminals_in text ks) v) e ∙ map-append (terminals_in text ks) ts (t ∷ []) ∙ ap (λ y. map (terminals_in text ks) ts ++ (y ∷ terminals_after text t) ∷ []) (h ks)
    ∙ ap (λ v. map (terminals_in text ks) ts ++ (x ∷ v) ∷ []) one

pub with_short : (text : List ℕ) (ks : List SideValue) (ts us : List PackedToken) (t : PackedToken) (x : Terminal) → us ≡ ts ++ t ∷ [] → ((js : List SideValue) → terminal_in text js t ≡ x) → IsAtom x → joined (map (terminals_in text ks) us) ≡ joined (map (terminals_in text ks) ts) ++ x ∷ []
with_short text ks ts us t x e h a = ap joined (piece_short text ks ts us t x e h a) ∙ joined_push (map (terminals_in text ks) ts) (x ∷ [])

pub readable_short : (text : List ℕ) (n : ℕ) (ts us : List PackedToken) (t : PackedToken) → us ≡ ts ++ t ∷ [] → AreReadable text n ts → IsReadable text 0 t → AreReadable text n us
readable_short text n ts us t e h r = subst (AreReadable text n) (sym e) (All-push (IsReadable text n) ts t h (more_one text 0 n t (omega arith) r))

-- a value more, with its token
pub piece_kept : (text : List ℕ) (ks js : List SideValue) (ts us : List PackedToken) (k : SideValue) (i : PackedU32) (x : Terminal) → js ≡ ks ++ k ∷ [] → us ≡ ts ++ short.SideValue i ∷ [] → number_of i ≡ length ks → AreReadable text (length ks) ts → kept_terminal k ≡ x → map (terminals_in text js) us ≡ map (terminals_in text ks) ts ++ (x ∷ []) ∷ []
piece_kept text ks js ts us k i x e f o h r =
    let is : terminal_in text (ks ++ k ∷ []) (short.SideValue i) ≡ x = ap (λ n. kept_or (slice_get (ks ++ k ∷ []) n)) o ∙ ap kept_or (last_get ks k) ∙ r in
    ap (λ v. map (terminals_in text v) us) e ∙ ap (λ v. map (terminals_in text (ks ++ k ∷ [])) v) f ∙ map-append (terminals_in text (ks ++ k ∷ [])) ts (short.SideValue i ∷ [])
    ∙ ap (λ y. y ++ map (terminals_in text (ks ++ k ∷ [])) (short.SideValue i ∷ [])) (same text ks k ts h) ∙ ap (λ y. map (terminals_in text ks) ts ++ (y ∷ []) ∷ []) is

pub with_kept : (text : List ℕ) (ks js : List SideValue) (ts us : List PackedToken) (k : SideValue) (i : PackedU32) (x : Terminal) → js ≡ ks ++ k ∷ [] → us ≡ ts ++ short.SideValue i ∷ [] → number_of i ≡ length ks → AreReadable text (length ks) ts → kept_terminal k ≡ x → joined (map (terminals_in text js) us) ≡ joined (map (terminals_in text ks) ts) ++ x ∷ []
with_kept text ks js ts us k i x e f o h r = ap joined (piece_kept text ks js ts us k i x e f o h r) ∙ joined_push (map (terminals_in text ks) ts) (x ∷ [])

pub readable_kept : (text : List ℕ) (ks js : List SideValue) (ts us : List PackedToken) (k : SideValue) (i : PackedU32) → js ≡ ks ++ k ∷ [] → us ≡ ts ++ short.SideValue i ∷ [] → number_of i ≡ length ks → AreReadable text (length ks) ts → AreReadable text (length js) us
readable_kept text ks js ts us k i e f o h =
    let l : length js ≡ suc (length ks) = ap length e ∙ length-append ks (k ∷ []) ∙ omega arith in
    subst (λ n. AreReadable text n us) (sym l)
    (subst (AreReadable text (suc (length ks))) (sym f) (All-push (IsReadable text (suc (length ks))) ts (short.SideValue i) (more text (length ks) (suc (length ks)) ts (omega arith) h) (omega (arith, o))))

pub nothing : (text : List ℕ) (ks : List SideValue) (ts : List PackedToken) → ts ≡ [] → joined (map (terminals_in text ks) ts) ≡ []
nothing text ks ts e = ap (λ v. joined (map (terminals_in text ks) v)) e

pub readable_nothing : (text : List ℕ) (n : ℕ) (ts : List PackedToken) → ts ≡ [] → AreReadable text n ts
readable_nothing text n ts e = subst (AreReadable text n) (sym e) (All-nil (IsReadable text n))
