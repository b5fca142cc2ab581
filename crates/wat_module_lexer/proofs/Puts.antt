-- The invariant of packed tokens still holds with one more.
use Rattle.std.proofs.Common.{◌≡◌, ◌∙◌, ◌<◌, ◌-◌, ◌^◌, ℕ, suc, List, [], ◌∷◌, ◌++◌, length, map, refl, sym, ap, subst, Some}
use Rattle.std.specs.Prelude.{slice_get, slice_set}
use Rattle.std.proofs.lemmas.List.{length-map, map-append}
use Rattle.std.proofs.lemmas.List.Elements.{All-push, All-set}
use Rattle.wat_module_tokens.specs.declared.stream.PackedU32.{PackedU32}
use Rattle.wat_module_tokens.specs.declared.stream.SideValue.{SideValue}
use Rattle.wat_module_tokens.specs.declared.stream.SideValue.TheVariants as kept
use Rattle.wat_module_tokens.specs.declared.stream.PackedToken.{PackedToken}
use Rattle.wat_module_tokens.specs.declared.stream.PackedToken.TheVariants as short
use Rattle.wat_module_tokens.specs.Terminals.{Terminal, Open, Close}
use Rattle.wat_module_tokens.specs.Tokens.{AreLinked, AreReadable, IsReadable, joined, kept_terminal, number_of, terminal_in, terminals_in}
use Rattle.wat_module_lexer.specs.declared.PackedTokens.{PackedTokens}
use Rattle.wat_module_lexer.specs.Drafts.{AreLinkedBut, AreOpen, IsAtom, IsPacking, IsOpen, draft_pieces, draft_terminals}
use Rattle.wat_module_lexer.proofs.Drafts.{piece_kept, piece_short, readable_kept, readable_nothing, readable_short}
use Rattle.wat_module_lexer.proofs.Groups.{get_left, joined_push, linked, linked_close, linked_open, linked_other, open_atom, open_less, open_more, same_map}

pub as_draft : (text : List ℕ) (e : PackedTokens) (xs : List (List Terminal)) (ts : List PackedToken) (is js : List ℕ) → draft_pieces text e ≡ xs → e.tokens.items ≡ ts → is ≡ js → AreReadable text (length e.kept.items) e.tokens.items → AreOpen xs js → AreLinkedBut xs ts js → IsPacking text e is
as_draft text e xs ts is js x t i r g l = record {
  readable = r;
  groups = subst (λ v. AreOpen v is) (sym x) (subst (AreOpen xs) (sym i) g);
  linked = subst (λ v. AreLinkedBut v e.tokens.items is) (sym x) (subst (λ v. AreLinkedBut xs v is) (sym t) (subst (AreLinkedBut xs ts) (sym i) l));
}

-- the same values are kept
pub as_before : (text : List ℕ) (d e : PackedTokens) (ts : List PackedToken) → e.tokens.items ≡ ts → e.kept.items ≡ d.kept.items → draft_pieces text e ≡ map (terminals_in text d.kept.items) ts
as_before text d e ts t k = ap (λ ks. map (terminals_in text ks) e.tokens.items) k ∙ ap (λ us. map (terminals_in text d.kept.items) us) t

pub readable_as_before : (text : List ℕ) (d e : PackedTokens) → e.kept.items ≡ d.kept.items → AreReadable text (length d.kept.items) e.tokens.items → AreReadable text (length e.kept.items) e.tokens.items
readable_as_before text d e k r = subst (λ n. AreReadable text n e.tokens.items) (sym (ap length k)) r

pub many : (text : List ℕ) (d : PackedTokens) → length (draft_pieces text d) ≡ length d.tokens.items
many text d = length-map d.tokens.items (terminals_in text d.kept.items)

-- No token is packed yet.
pub none_put : (text : List ℕ) (d : PackedTokens) (is : List ℕ) → d.tokens.items ≡ [] → is ≡ [] → IsPacking text d is
none_put text d is t n = record {
  readable = readable_nothing text (length d.kept.items) d.tokens.items t;
  groups = subst (AreOpen (draft_pieces text d)) (sym n) tt;
  linked = λ i e g. let k : slice_get [] i ≡ Some (short.Open e) = subst (λ v. slice_get v i ≡ Some (short.Open e)) t g in cc;
}

-- All tokens are packed.
pub all_put : (text : List ℕ) (d : PackedTokens) (is : List ℕ) → length d.tokens.items < 2 ^ 32 → IsPacking text d is → AreLinked (draft_pieces text d) d.tokens.items
all_put text d is s h = linked (draft_pieces text d) d.tokens.items is (many text d) (subst (λ n. n < 2 ^ 32) (sym (many text d)) s) h.groups h.linked

pub put_open : (text : List ℕ) (d e : PackedTokens) (is js : List ℕ) (m : PackedU32) (n : ℕ) → e.tokens.items ≡ d.tokens.items ++ short.Open m ∷ [] → e.kept.items ≡ d.kept.items → js ≡ is ++ n ∷ [] → n ≡ length d.tokens.items → number_of m ≡ 2 ^ 32 - 1 → IsPacking text d is → IsPacking text e js
put_open text d e is js m n t k g l f h =
    let xs = draft_pieces text d in
    let ts = d.tokens.items in
    as_draft text e (xs ++ (Open ∷ []) ∷ []) (ts ++ short.Open m ∷ []) js (is ++ length xs ∷ [])
    (as_before text d e (ts ++ short.Open m ∷ []) t k ∙ map-append (terminals_in text d.kept.items) ts (short.Open m ∷ [])) t (g ∙ ap (λ i. is ++ i ∷ []) (l ∙ sym (many text d)))
    (readable_as_before text d e k (readable_short text (length d.kept.items) ts e.tokens.items (short.Open m) t h.readable tt))
    (open_more xs is h.groups) (linked_open xs ts m is (many text d) f h.linked)

-- where no group is open
pub put_close : (text : List ℕ) (d e : PackedTokens) (is js : List ℕ) → e.tokens.items ≡ d.tokens.items ++ short.Close ∷ [] → e.kept.items ≡ d.kept.items → is ≡ js → js ≡ [] → IsPacking text d is → IsPacking text e js
put_close text d e is js t k g n h =
    let xs = draft_pieces text d in
    let ts = d.tokens.items in
    as_draft text e (xs ++ (Close ∷ []) ∷ []) (ts ++ short.Close ∷ []) js []
    (as_before text d e (ts ++ short.Close ∷ []) t k ∙ map-append (terminals_in text d.kept.items) ts (short.Close ∷ [])) t n
    (readable_as_before text d e k (readable_short text (length d.kept.items) ts e.tokens.items short.Close t h.readable tt))
    tt (linked_other xs (Close ∷ []) ts short.Close [] (many text d) (λ m c. cc) (subst (AreLinkedBut xs ts) (g ∙ n) h.linked))

-- a group is open whose `(` is there
pub begun : (text : List ℕ) (d : PackedTokens) (is js : List ℕ) (i : ℕ) → is ≡ js ++ i ∷ [] → IsPacking text d is → IsOpen (draft_pieces text d) i 0
begun text d is js i g h = (open_less (draft_pieces text d) js i (subst (AreOpen (draft_pieces text d)) g h.groups)).1

-- `)` changes no token but by the end of the group
pub closed_pieces : (text : List ℕ) (d e : PackedTokens) (i : ℕ) (m : PackedU32) → e.tokens.items ≡ slice_set (d.tokens.items ++ short.Close ∷ []) i (short.Open m) → e.kept.items ≡ d.kept.items → IsOpen (draft_pieces text d) i 0 → draft_pieces text e ≡ draft_pieces text d ++ (Close ∷ []) ∷ []
closed_pieces text d e i m t k o =
    let f = terminals_in text d.kept.items in
    let ts = d.tokens.items in
    let joined : map f (ts ++ short.Close ∷ []) ≡ map f ts ++ (Close ∷ []) ∷ [] = map-append f ts (short.Close ∷ []) in
    as_before text d e (slice_set (ts ++ short.Close ∷ []) i (short.Open m)) t k
    ∙ same_map f (ts ++ short.Close ∷ []) i (short.Open m) (subst (λ xs. slice_get xs i ≡ Some (Open ∷ [])) (sym joined) (get_left (map f ts) ((Close ∷ []) ∷ []) i (Open ∷ []) o.begins))
    ∙ joined

pub closed_terminals : (text : List ℕ) (d e : PackedTokens) (i : ℕ) (m : PackedU32) → e.tokens.items ≡ slice_set (d.tokens.items ++ short.Close ∷ []) i (short.Open m) → e.kept.items ≡ d.kept.items → IsOpen (draft_pieces text d) i 0 → draft_terminals text e ≡ draft_terminals text d ++ Close ∷ []
closed_terminals text d e i m t k o = ap joined (closed_pieces text d e i m t k o) ∙ joined_push (draft_pieces text d) (Close ∷ [])

pub put_close_of : (text : List ℕ) (d e : PackedTokens) (is js : List ℕ) (i : ℕ) (m : PackedU32) → e.tokens.items ≡ slice_set (d.tokens.items ++ short.Close ∷ []) i (short.Open m) → e.kept.items ≡ d.kept.items → is ≡ js ++ i ∷ [] → number_of m ≡ suc (length d.tokens.items) → IsPacking text d is → IsPacking text e js
put_close_of text d e is js i m t k g f h =
    let xs = draft_pieces text d in
    let ts = d.tokens.items in
    let o : IsOpen xs i 0 = begun text d is js i g h in
    as_draft text e (xs ++ (Close ∷ []) ∷ []) (slice_set (ts ++ short.Close ∷ []) i (short.Open m)) js js
    (closed_pieces text d e i m t k o) t refl
    (readable_as_before text d e k (subst (AreReadable text (length d.kept.items)) (sym t) (All-set (IsReadable text (length d.kept.items)) (ts ++ short.Close ∷ []) i (short.Open m) tt (All-push (IsReadable text (length d.kept.items)) ts short.Close h.readable tt))))
    (open_less xs js i (subst (AreOpen xs) g h.groups)).0
    (linked_close xs ts m js i (many text d) (f ∙ ap suc (sym (many text d))) o (subst (AreLinkedBut xs ts) g h.linked))

pub put_short : (text : List ℕ) (d e : PackedTokens) (is : List ℕ) (t : PackedToken) (x : Terminal) → e.tokens.items ≡ d.tokens.items ++ t ∷ [] → e.kept.items ≡ d.kept.items → ((ks : List SideValue) → terminal_in text ks t ≡ x) → IsReadable text 0 t → IsAtom x → IsPacking text d is → IsPacking text e is
put_short text d e is t x i k r b a h =
    let xs = draft_pieces text d in
    let ts = d.tokens.items in
    as_draft text e (xs ++ (x ∷ []) ∷ []) (ts ++ t ∷ []) is is
    (as_before text d e (ts ++ t ∷ []) i k ∙ piece_short text d.kept.items ts (ts ++ t ∷ []) t x refl r a) i refl
    (readable_as_before text d e k (readable_short text (length d.kept.items) ts e.tokens.items t i h.readable b))
    (open_atom xs x is a h.groups)
    (linked_other xs (x ∷ []) ts t is (many text d) (λ m c. subst IsAtom (sym (subst (λ v. terminal_in text [] v ≡ x) c (r []))) a) h.linked)

kept_atom : (k : SideValue) → IsAtom (kept_terminal k)
kept_atom (kept.Word w) = tt
kept_atom (kept.Id x) = tt
kept_atom (kept.Integer s n) = tt
kept_atom (kept.Float w) = tt
kept_atom (kept.Text v) = tt

pub put_kept : (text : List ℕ) (d e : PackedTokens) (is : List ℕ) (v : SideValue) (i : PackedU32) (x : Terminal) → e.kept.items ≡ d.kept.items ++ v ∷ [] → e.tokens.items ≡ d.tokens.items ++ short.SideValue i ∷ [] → number_of i ≡ length d.kept.items → kept_terminal v ≡ x → IsPacking text d is → IsPacking text e is
put_kept text d e is v i x k t n r h =
    let xs = draft_pieces text d in
    let ts = d.tokens.items in
    as_draft text e (xs ++ (x ∷ []) ∷ []) (ts ++ short.SideValue i ∷ []) is is
    (piece_kept text d.kept.items e.kept.items ts e.tokens.items v i x k t n h.readable r) t refl
    (readable_kept text d.kept.items e.kept.items ts e.tokens.items v i k t n h.readable)
    (open_atom xs x is (subst IsAtom r (kept_atom v)) h.groups)
    (linked_other xs (x ∷ []) ts (short.SideValue i) is (many text d) (λ m c. cc) h.linked)
