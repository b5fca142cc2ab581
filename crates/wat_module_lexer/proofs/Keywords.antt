-- A group of two keywords becomes one packed token.
use Rattle.std.proofs.Common.{◌≡◌, ◌∙◌, ◌<◌, ◌≤◌, ◌+◌, ◌*◌, ◌/◌, ◌%◌, ◌-◌, ◌^◌, ℕ, zero, suc, List, [], ◌∷◌, ◌++◌, drop, take, length, map, refl, sym, ap, subst, inl, inr, Some, arith, append_assoc, append-nil, length-append}
use Rattle.std.specs.Prelude.{◌⊎◌, slice_get, slice_set}
use Rattle.std.specs.List.{Contains}
use Rattle.std.proofs.Math.ListN.{drop_of_length-le}
use Rattle.std.proofs.lemmas.List.{drop-append-le, get_or_append_left, length-map, map-append}
use Rattle.std.proofs.lemmas.List.Elements.{All-push, Contains-push_cases}
use Rattle.std.proofs.lemmas.Option.{get_or_from_slice_get, slice_get_within}
use Rattle.wat_module_tokens.specs.declared.stream.PackedU32.{PackedU32}
use Rattle.wat_module_tokens.specs.declared.stream.SideValue.{SideValue}
use Rattle.wat_module_tokens.specs.declared.stream.PackedToken.{PackedToken}
use Rattle.wat_module_tokens.specs.declared.stream.PackedToken.TheVariants as short
use Rattle.wat_module_tokens.specs.Terminals.{past, Terminal, Open, Close, Word, Id, Integer, Text, Float, Other}
use Rattle.wat_module_tokens.specs.Tokens.{AreCharacters, AreReadable, IsReadable, bytes_at, first_len, joined, number_of, second_at, second_len, terminals_in}
use Rattle.wat_module_lexer.specs.declared.PackedTokens.{PackedTokens}
use Rattle.wat_module_lexer.specs.Drafts.{AreKeywords, AreLinkedBut, AreOpen, HasEnded, IsPacking, IsOpen, draft_pieces, draft_terminals}
use Rattle.wat_module_lexer.proofs.Groups.{get_left, get_cases, joined_append, joined_push}
use Rattle.wat_module_lexer.proofs.Puts.{as_before, as_draft, begun, many, readable_as_before}

-- The last three of a list.
pub record Split {A : Type 0} (ts : List A) (b : ℕ) (y z : A) : Type 0 where
  pub before : List A
  pub x : A
  pub is : ts ≡ before ++ x ∷ y ∷ z ∷ []
  pub long : length before ≡ b

split : {A : Type 0} (ts : List A) (b : ℕ) (y z : A) → length ts ≡ b + 3 → slice_get ts (suc b) ≡ Some y → slice_get ts (suc (suc b)) ≡ Some z → Split ts b y z
split [] b y z l g h = absurd (omega (arith, l))
split (t ∷ []) zero y z l g h = absurd (omega (arith, l))
split (t ∷ u ∷ []) zero y z l g h = absurd (omega (arith, l))
split (t ∷ u ∷ v ∷ []) zero y z l g h = let e : u ≡ y = cc in let f : v ≡ z = cc in record { before = []; x = t; is = ap (λ w. t ∷ w ∷ v ∷ []) e ∙ ap (λ w. t ∷ y ∷ w ∷ []) f; long = refl }
split (t ∷ u ∷ v ∷ w ∷ ts) zero y z l g h = absurd (omega (arith, l))
split (t ∷ ts) (suc b) y z l g h =
    let rest = split ts b y z (omega (arith, l)) g h in
    record { before = t ∷ rest.before; x = rest.x; is = ap (λ us. t ∷ us) rest.is; long = ap suc rest.long }

-- The last three become one.
cut : {A : Type 0} (ps : List A) (x y z g : A) → take (suc (length ps)) (slice_set (ps ++ x ∷ y ∷ z ∷ []) (length ps) g) ≡ ps ++ g ∷ []
cut [] x y z g = refl
cut (p ∷ ps) x y z g = ap (λ v. p ∷ v) (cut ps x y z g)

-- Where a group ends among terminals before a `(`.
abbrev Goes : List Terminal → ℕ → Type 0
Goes ys d = ((n : ℕ) × ((rest : List Terminal) → past d (ys ++ Open ∷ rest) ≡ past (suc n) rest)) ⊎ ((zs : List Terminal) × ((rest : List Terminal) → past d (ys ++ Open ∷ rest) ≡ zs ++ Open ∷ rest))

goes : (ys : List Terminal) (d : ℕ) → Goes ys d
goes [] d = inl (d, λ rest. refl)
goes (Open ∷ ys) d = goes ys (suc d)
goes (Close ∷ ys) zero = inr (ys, λ rest. refl)
goes (Close ∷ ys) (suc d) = goes ys d
goes (Word w ∷ ys) d = goes ys d
goes (Id x ∷ ys) d = goes ys d
goes (Integer s n ∷ ys) d = goes ys d
goes (Text v ∷ ys) d = goes ys d
goes (Float narrow wide ∷ ys) d = goes ys d
goes (Other ∷ ys) d = goes ys d

module _ (P : List (List Terminal)) (v w : List ℕ) where
  abbrev pub three : List (List Terminal)
  three = (Open ∷ []) ∷ (Word v ∷ []) ∷ (Word w ∷ []) ∷ []

  abbrev pub four : List Terminal
  four = Open ∷ Word v ∷ Word w ∷ Close ∷ []

  from_old : (j : ℕ) (more : List Terminal) → j ≤ length P → joined (drop j (P ++ three)) ++ more ≡ joined (drop j P) ++ (Open ∷ Word v ∷ Word w ∷ more)
  from_old j more l = ap (λ x. joined x ++ more) (drop-append-le j P three l) ∙ ap (λ x. x ++ more) (joined_append (drop j P) three) ∙ append_assoc (joined (drop j P)) (Open ∷ Word v ∷ Word w ∷ []) more

  from_new : (j : ℕ) (more : List Terminal) → j ≤ length P → joined (drop j (P ++ four ∷ [])) ++ more ≡ joined (drop j P) ++ (Open ∷ Word v ∷ Word w ∷ Close ∷ more)
  from_new j more l = ap (λ x. joined x ++ more) (drop-append-le j P (four ∷ []) l) ∙ ap (λ x. x ++ more) (joined_append (drop j P) (four ∷ [])) ∙ append_assoc (joined (drop j P)) four more

  -- The same terminals, with the `)`.
  same_from : (j : ℕ) (more : List Terminal) → j ≤ length P → joined (drop j (P ++ four ∷ [])) ++ more ≡ joined (drop j (P ++ three)) ++ (Close ∷ more)
  same_from j more l = from_new j more l ∙ sym (from_old j (Close ∷ more) l)

  get_before : (j : ℕ) (xs : List Terminal) → slice_get (P ++ three) j ≡ Some xs → j < length P → slice_get (P ++ four ∷ []) j ≡ Some xs
  get_before j xs h l = by P j h l
    where
      by : (Q : List (List Terminal)) (j : ℕ) → slice_get (Q ++ three) j ≡ Some xs → j < length Q → slice_get (Q ++ four ∷ []) j ≡ Some xs
      by [] j h l = absurd (omega (arith, l))
      by (q ∷ Q) zero h l = h
      by (q ∷ Q) (suc j) h l = by Q j h (omega (arith, l))

  -- The index of a `(` is at most that of the group's.
  open_before : (Q : List (List Terminal)) (j : ℕ) → slice_get (Q ++ three) j ≡ Some (Open ∷ []) → j ≤ length Q
  open_before [] zero h = omega arith
  open_before [] (suc zero) h = cc
  open_before [] (suc (suc zero)) h = cc
  open_before [] (suc (suc (suc j))) h = cc
  open_before (q ∷ Q) zero h = omega arith
  open_before (q ∷ Q) (suc j) h = let k = open_before Q j h in omega (arith, k)

  -- An open group with another one in it is before the last one.
  not_last : (inner : ℕ) → ¬ (IsOpen (P ++ three) (length P) (suc inner))
  not_last inner o =
      let a : past 0 (joined (drop (suc (length P)) (P ++ three)) ++ (Close ∷ Word v ∷ [])) ≡ past (suc inner) (Close ∷ Word v ∷ []) = o.goes_on (Close ∷ Word v ∷ []) in
      let b : joined (drop (suc (length P)) (P ++ three)) ≡ Word v ∷ Word w ∷ [] = after_open P in
      let c : Word v ∷ [] ≡ [] = sym (ap (λ x. past 0 (x ++ (Close ∷ Word v ∷ []))) b) ∙ a ∙ none_left inner in
      cc
    where
      after_open : (Q : List (List Terminal)) → joined (drop (suc (length Q)) (Q ++ three)) ≡ Word v ∷ Word w ∷ []
      after_open [] = refl
      after_open (q ∷ Q) = after_open Q

      none_left : (inner : ℕ) → past (suc inner) (Close ∷ Word v ∷ []) ≡ []
      none_left inner = refl

  open_one : (j inner : ℕ) → IsOpen (P ++ three) j (suc inner) → IsOpen (P ++ four ∷ []) j inner
  open_one j inner o = record {
    begins = get_before j (Open ∷ []) o.begins before;
    goes_on = λ more. ap (past 0) (same_from (suc j) more (omega (arith, before))) ∙ o.goes_on (Close ∷ more);
  }
    where
      apart : ¬ (j ≡ length P)
      apart e = not_last inner (subst (λ k. IsOpen (P ++ three) k (suc inner)) e o)

      before : j < length P
      before = let k = open_before P j o.begins in omega (arith, k, apart)

  pub open_rest : (is : List ℕ) → AreOpen (P ++ three) (is ++ length P ∷ []) → AreOpen (P ++ four ∷ []) is
  open_rest [] h = tt
  open_rest (j ∷ is) h = (open_one j (length is) (subst (IsOpen (P ++ three) j) (omega (arith, length-append is (length P ∷ []))) h.0), open_rest is h.1)

  -- A group that has ended, has ended before the last one.
  ended_before : (j e : ℕ) → j < length P → HasEnded (P ++ three) j e → e ≤ length P
  ended_before j e l h = by (goes (joined (drop (suc j) P)) 0)
    where
      nothing_left : (e : ℕ) → length (joined (drop e [])) ≤ 2
      nothing_left zero = omega arith
      nothing_left (suc e) = omega arith

      tail_size : (Q : List (List Terminal)) (e : ℕ) → length Q < e → length (joined (drop e (Q ++ three))) ≤ 2
      tail_size [] zero k = absurd (omega (arith, k))
      tail_size [] (suc zero) k = omega arith
      tail_size [] (suc (suc zero)) k = omega arith
      tail_size [] (suc (suc (suc e))) k = nothing_left e
      tail_size (q ∷ Q) zero k = absurd (omega (arith, k))
      tail_size (q ∷ Q) (suc e) k = tail_size Q e (omega (arith, k))

      is_past : (more : List Terminal) → past 0 (joined (drop (suc j) P) ++ (Open ∷ Word v ∷ Word w ∷ more)) ≡ joined (drop e (P ++ three)) ++ more
      is_past more = sym (ap (past 0) (from_old (suc j) more (omega (arith, l)))) ∙ h.ended more

      late : length P < e → ⊥
      late k = wrong (goes (joined (drop (suc j) P)) 0)
        where
          wrong : Goes (joined (drop (suc j) P)) 0 → ⊥
          wrong (inl g) =
              let c : past (suc g.0) (Word v ∷ Word w ∷ Word v ∷ []) ≡ joined (drop e (P ++ three)) ++ Word v ∷ [] = sym (g.1 (Word v ∷ Word w ∷ Word v ∷ [])) ∙ is_past (Word v ∷ []) in
              let n = ap length c in
              omega (arith, n, length-append (joined (drop e (P ++ three))) (Word v ∷ []))
          wrong (inr g) =
              let c = sym (g.1 (Word v ∷ Word w ∷ [])) ∙ is_past [] in
              let n = ap length c in
              omega (arith, n, length-append g.0 (Open ∷ Word v ∷ Word w ∷ []), length-append (joined (drop e (P ++ three))) [], tail_size P e k)

      by : Goes (joined (drop (suc j) P)) 0 → e ≤ length P
      by g = omega (arith, late)

  ended_one : (j e : ℕ) → j < length P → HasEnded (P ++ three) j e → HasEnded (P ++ four ∷ []) j e
  ended_one j e l h =
      let k = ended_before j e l h in
      record {
        within = omega (arith, k, length-append P (four ∷ []));
        ended = λ more. ap (past 0) (same_from (suc j) more (omega (arith, l))) ∙ h.ended (Close ∷ more) ∙ sym (same_from e more k);
      }

  pub linked_rest : (ps : List PackedToken) (x y z g : PackedToken) (is : List ℕ) → length ps ≡ length P → ((e : PackedU32) → ¬ (g ≡ short.Open e)) → AreLinkedBut (P ++ three) (ps ++ x ∷ y ∷ z ∷ []) (is ++ length P ∷ []) → AreLinkedBut (P ++ four ∷ []) (ps ++ g ∷ []) is
  linked_rest ps x y z g is l n h = λ i e k. elim (get_cases ps g i (short.Open e) k) [
    | inl f ↦
        let small : i < length P = omega (arith, l, slice_get_within ps i (short.Open e) f) in
        elim (h i e (get_left ps (x ∷ y ∷ z ∷ []) i (short.Open e) f)) [
          | inl c ↦ elim (Contains-push_cases is (length P) i c.0) [ inl b ↦ inl (b, c.1) | inr b ↦ absurd (omega (arith, small, b)) ]
          | inr c ↦ inr (ended_one i (number_of e) small c)
        ]
    | inr f ↦ absurd (n e f.1)
  ]

get_at : {A : Type 0} (ps : List A) (x : A) (us : List A) → slice_get (ps ++ x ∷ us) (length ps) ≡ Some x
get_at [] x us = refl
get_at (p ∷ ps) x us = get_at ps x us

-- Both keywords, from the byte with their lengths.
first_is : (n m : ℕ) → m < 16 → first_len (n * 16 + m) ≡ n
first_is n m l = omega (arith, l)

second_is : (n m : ℕ) → m < 16 → second_len (n * 16 + m) ≡ m
second_is n m l = omega (arith, l)

pub record Joined (text : List ℕ) (d e : PackedTokens) (js : List ℕ) : Type 0 where
  pub terminals : draft_terminals text e ≡ draft_terminals text d ++ Close ∷ []
  pub packing : IsPacking text e js

pub put_keywords : (text : List ℕ) (d e : PackedTokens) (is js : List ℕ) (b : ℕ) (t : PackedToken) → AreKeywords d.tokens.items b t → e.tokens.items ≡ take (b + 1) (slice_set d.tokens.items b t) → e.kept.items ≡ d.kept.items → is ≡ js ++ b ∷ [] → IsPacking text d is → Joined text d e js
put_keywords text d e is js b t k i same g h = record {
  terminals = ap joined new_pieces ∙ all_same ∙ ap (λ xss. joined xss ++ Close ∷ []) (sym old_pieces);
  packing = as_draft text e (P ++ four P v w ∷ []) (ps ++ t ∷ []) js js new_pieces new_tokens refl
      (readable_as_before text d e same (subst (AreReadable text count) (sym new_tokens) (All-push (IsReadable text count) ps t (left_readable) t_readable)))
      (open_rest P v w js (subst (λ xss. AreOpen xss (js ++ length P ∷ [])) old_pieces (subst (λ n. AreOpen (draft_pieces text d) (js ++ n ∷ [])) (sym at) (subst (AreOpen (draft_pieces text d)) g h.groups))))
      (linked_rest P v w ps s.x y z t js (sym (length-map ps f)) not_open (subst (λ n. AreLinkedBut (P ++ three P v w) (ps ++ s.x ∷ y ∷ z ∷ []) (js ++ n ∷ [])) (sym at) (subst (λ us. AreLinkedBut (P ++ three P v w) us (js ++ b ∷ [])) s.is (subst (λ xss. AreLinkedBut xss ts (js ++ b ∷ [])) old_pieces (subst (AreLinkedBut (draft_pieces text d) ts) g h.linked)))));
}
  where
    ts : List PackedToken
    ts = d.tokens.items

    count : ℕ
    count = length d.kept.items

    f : PackedToken → List Terminal
    f = terminals_in text d.kept.items

    y : PackedToken
    y = short.Word k.first k.n

    z : PackedToken
    z = short.Word k.second k.m

    one_more : b + 1 ≡ suc b
    one_more = omega arith

    two_more : b + 2 ≡ suc (suc b)
    two_more = omega arith

    s : Split ts b y z
    s = split ts b y z k.long (subst (λ j. slice_get ts j ≡ Some y) one_more k.word) (subst (λ j. slice_get ts j ≡ Some z) two_more k.other)

    ps : List PackedToken
    ps = s.before

    P : List (List Terminal)
    P = map f ps

    v : List ℕ
    v = bytes_at text (number_of k.first) k.n

    w : List ℕ
    w = bytes_at text (number_of k.second) k.m

    at : length P ≡ b
    at = length-map ps f ∙ s.long

    cut_pieces : draft_pieces text d ≡ P ++ f s.x ∷ f y ∷ f z ∷ []
    cut_pieces = ap (map f) s.is ∙ map-append f ps (s.x ∷ y ∷ z ∷ [])

    opens : f s.x ≡ Open ∷ []
    opens =
        let a : slice_get (P ++ f s.x ∷ f y ∷ f z ∷ []) (length P) ≡ Some (Open ∷ []) = subst (λ n. slice_get (P ++ f s.x ∷ f y ∷ f z ∷ []) n ≡ Some (Open ∷ [])) (sym at) (subst (λ xss. slice_get xss b ≡ Some (Open ∷ [])) cut_pieces (begun text d is js b g h).begins) in
        let c : Some (f s.x) ≡ Some (Open ∷ []) = sym (get_at P (f s.x) (f y ∷ f z ∷ [])) ∙ a in
        let r : f s.x ≡ Open ∷ [] = cc in
        r

    old_pieces : draft_pieces text d ≡ P ++ three P v w
    old_pieces = cut_pieces ∙ ap (λ xs. P ++ xs ∷ f y ∷ f z ∷ []) opens

    new_tokens : e.tokens.items ≡ ps ++ t ∷ []
    new_tokens = i ∙ ap (λ j. take j (slice_set ts b t)) one_more ∙ ap (λ us. take (suc b) (slice_set us b t)) s.is ∙ ap (λ n. take (suc n) (slice_set (ps ++ s.x ∷ y ∷ z ∷ []) n t)) (sym s.long) ∙ cut ps s.x y z t

    n : ℕ
    n = k.n * 16 + k.m

    begins_at : second_at (number_of k.first) n ≡ number_of k.second
    begins_at = ap (λ j. number_of k.first + j + 1) (first_is k.n k.m k.fewer) ∙ sym k.near

    group_is : f t ≡ four P v w
    group_is = ap f k.are ∙ ap (λ j. Open ∷ Word (bytes_at text (number_of k.first) j) ∷ Word (bytes_at text (second_at (number_of k.first) n) (second_len n)) ∷ Close ∷ []) (first_is k.n k.m k.fewer)
        ∙ ap (λ j. Open ∷ Word v ∷ Word (bytes_at text (second_at (number_of k.first) n) j) ∷ Close ∷ []) (second_is k.n k.m k.fewer)
        ∙ ap (λ o. Open ∷ Word v ∷ Word (bytes_at text o k.m) ∷ Close ∷ []) begins_at

    new_pieces : draft_pieces text e ≡ P ++ four P v w ∷ []
    new_pieces = as_before text d e (ps ++ t ∷ []) new_tokens same ∙ map-append f ps (t ∷ []) ∙ ap (λ xs. P ++ xs ∷ []) group_is

    all_same : joined (P ++ four P v w ∷ []) ≡ joined (P ++ three P v w) ++ Close ∷ []
    all_same = sym (append-nil (joined (P ++ four P v w ∷ []))) ∙ same_from P v w 0 [] (omega arith)

    readable : AreReadable text count (ps ++ s.x ∷ y ∷ z ∷ [])
    readable = subst (AreReadable text count) s.is h.readable

    left_readable : AreReadable text count ps
    left_readable = λ j u l. subst (IsReadable text count) (get_or_append_left ps (s.x ∷ y ∷ z ∷ []) u j l) (readable j u (omega (arith, l, length-append ps (s.x ∷ y ∷ z ∷ []))))

    at_word : (j : ℕ) (u : PackedToken) → slice_get ts j ≡ Some u → IsReadable text count u
    at_word j u l = subst (IsReadable text count) (get_or_from_slice_get ts j u u l) (h.readable j u (slice_get_within ts j u l))

    t_readable : IsReadable text count t
    t_readable = subst (IsReadable text count) (sym k.are) (
      subst (λ j. AreCharacters text (number_of k.first) j) (sym (first_is k.n k.m k.fewer)) (at_word (b + 1) y k.word),
      subst (λ o. AreCharacters text o (second_len n)) (sym begins_at) (subst (λ j. AreCharacters text (number_of k.second) j) (sym (second_is k.n k.m k.fewer)) (at_word (b + 2) z k.other)),
      omega (arith, begins_at, k.small),
    )

    not_open : (m : PackedU32) → ¬ (t ≡ short.Open m)
    not_open m c = let r : short.KeywordGroup k.first n ≡ short.Open m = sym k.are ∙ c in cc
