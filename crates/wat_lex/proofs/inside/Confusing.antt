-- The search for confusing characters, by their first byte.
use Rattle.std.proofs.Common.{◌≡◌, ◌≢◌, ◌≤◌, ◌<◌, ◌+◌, ℕ, List, [], ◌∷◌, ◌++◌, length, take, drop, get_or, refl, arith, ap, sym, ◌∙◌, subst, length-append, length-drop, append_assoc, Bool, true, false, ◌&&◌, ◌||◌, inl, inr, eq-eqb}
use Rattle.std.specs.Prelude.{◌==◌, Some, None}
use Rattle.memchr.specs.Find.{IsFirstByte, is_byte}
use Rattle.std.proofs.lemmas.List.{length-take, append-nil, get_or-append-add, get_or-take, take-append-drop, drop-drop, length-take-le}
use Rattle.std.proofs.lemmas.Bool.{or_cases, eqb-true, ne_eqb, cases_Bool, cases_lt, both_ways}
use Rattle.std.proofs.lemmas.Str.{chars_past_char, drop_past_char, chars-append, encodes-append, encodes-chars, length-encode, len_utf8_bounds, IsUtf8-past_char, IsUtf8-take, IsUtf8-drop}
use Rattle.std.specs.Char.{len_utf8, char_set_contains}
use Rattle.std.specs.Str.{chars, NonePass, IsUtf8, IsCharBoundary}
use lib.Utf8.{encode, encodes}
use Rattle.wat_lex.specs.grammar.Classes.{is_confusing, size, Each}
use Rattle.wat_lex.specs.inside.ScannedLexemes.{FirstConfusing}
use Rattle.wat_lex.specs.inside.Blocks.{is_confusing_end, may_confuse, leads_at, IsLeadless, IsFirstLead}
use Rattle.wat_lex.proofs.inside.Leads.{no_third}

pub size-append : (xs ys : List ℕ) → size (xs ++ ys) ≡ size xs + size ys
size-append xs ys = ap length (encodes-append xs ys) ∙ length-append (encodes xs) (encodes ys)

pub size_one : (c : ℕ) → size (c ∷ []) ≡ len_utf8 c
size_one c = ap length (append-nil (encode c)) ∙ length-encode c

NonePass_push : (p : ℕ → Bool) (xs : List ℕ) (c : ℕ) → NonePass p xs → p c ≡ false → NonePass p (xs ++ c ∷ [])
NonePass_push p [] c h e = (e, tt)
NonePass_push p (x ∷ xs) c h e = (h.0, NonePass_push p xs c h.1 e)

-- The characters before the offset at are not confusing.
pub record Searched (text : List ℕ) (at : ℕ) : Type 0 where
  pub prefix : List ℕ
  pub cut : chars text ≡ prefix ++ chars (drop at text)
  pub clear : NonePass is_confusing prefix
  pub place : at ≡ size prefix
  pub range : at ≤ length text
  pub utf8 : IsUtf8 (drop at text)

-- the first byte of each confusing character
set_lead : (s : List ℕ) (c : ℕ) → Each (λ d. get_or (encode d) 0 0 == 0xE2) s → char_set_contains s c ≡ true → get_or (encode c) 0 0 ≡ 0xE2
set_lead [] c h e = cc
set_lead (d ∷ s) c h e =
    elim (or_cases (d == c) (char_set_contains s c) e) [
      | inl t ↦ eqb-true (get_or (encode c) 0 0) 0xE2 (subst (λ x. (get_or (encode x) 0 0 == 0xE2) ≡ true) (eqb-true d c t) h.0)
      | inr t ↦ set_lead s c h.1 t
    ]

pub lead : (c : ℕ) → is_confusing c ≡ true → get_or (encode c) 0 0 ≡ 0xE2
unfolding encode
lead c = set_lead (0x202A ∷ 0x202B ∷ 0x202D ∷ 0x202E ∷ 0x2066 ∷ 0x2067 ∷ 0x2068 ∷ 0x2069 ∷ 0x206C ∷ []) c (refl, (refl, (refl, (refl, (refl, (refl, (refl, (refl, (refl, tt)))))))))

-- the bytes of each confusing character, whatever follows it
set_leads : (s : List ℕ) (c : ℕ) (t : List ℕ) → Each (λ d. leads_at (encode d ++ t) 0) s → char_set_contains s c ≡ true → leads_at (encode c ++ t) 0 ≡ true
set_leads [] c t h e = cc
set_leads (d ∷ s) c t h e =
    elim (or_cases (d == c) (char_set_contains s c) e) [
      | inl q ↦ subst (λ x. leads_at (encode x ++ t) 0 ≡ true) (eqb-true d c q) h.0
      | inr q ↦ set_leads s c t h.1 q
    ]

pub leads : (c : ℕ) (t : List ℕ) → is_confusing c ≡ true → leads_at (encode c ++ t) 0 ≡ true
unfolding encode
leads c t = set_leads (0x202A ∷ 0x202B ∷ 0x202D ∷ 0x202E ∷ 0x2066 ∷ 0x2067 ∷ 0x2068 ∷ 0x2069 ∷ 0x206C ∷ []) c t (refl, (refl, (refl, (refl, (refl, (refl, (refl, (refl, (refl, tt)))))))))

same_bytes : (a b c d e f : ℕ) → a ≡ d → b ≡ e → c ≡ f → may_confuse a b c ≡ may_confuse d e f
same_bytes a b c d e f p q r = λ i. may_confuse (p i) (q i) (r i)

-- what is at an offset after a prefix
leads_past : (bs t : List ℕ) (k : ℕ) → leads_at (bs ++ t) (length bs + k) ≡ leads_at t k
leads_past bs t k =
    let one : length bs + k + 1 ≡ length bs + (k + 1) = omega arith in
    let two : length bs + k + 2 ≡ length bs + (k + 2) = omega arith in
    same_bytes _ _ _ _ _ _ (get_or-append-add bs t k 0) (ap (λ x. get_or (bs ++ t) x 0) one ∙ get_or-append-add bs t (k + 1) 0)
    (ap (λ x. get_or (bs ++ t) x 0) two ∙ get_or-append-add bs t (k + 2) 0)

-- what is at an offset of a prefix
leads_taken : (r : List ℕ) (n k : ℕ) → IsLeadless r n → k < n → leads_at (take n r) k ≡ false
leads_taken r n k h l =
    elim (cases_lt (k + 2) n) [
      | inl t ↦ same_bytes _ _ _ _ _ _ (get_or-take n r k 0 l) (get_or-take n r (k + 1) 0 (omega arith)) (get_or-take n r (k + 2) 0 t) ∙ h k l
      | inr t ↦ no_third (take n r) k (omega (arith, length-take n r))
    ]

pub encode_some : (c : ℕ) → 0 < length (encode c)
encode_some c = omega (arith, length-encode c, (len_utf8_bounds c).0)

-- a text without that byte has no confusing character
abbrev pub Leadless : List ℕ → Type 0
Leadless bs = (k : ℕ) → k < length bs → get_or bs k 0 ≢ 0xE2

-- and so none begins in it
pub unled : (bs : List ℕ) (n : ℕ) → ((k : ℕ) → k < n → get_or bs k 0 ≢ 0xE2) → IsLeadless bs n
unled bs n h k l =
    ap (λ x. ((x && (get_or bs (k + 1) 0 == 0x80)) || (x && (get_or bs (k + 1) 0 == 0x81))) && is_confusing_end (get_or bs (k + 2) 0)) (ne_eqb (get_or bs k 0) 0xE2 (h k l))

clear_chars : (cs : List ℕ) → IsLeadless (encodes cs) (length (encodes cs)) → NonePass is_confusing cs
clear_chars [] h = tt
clear_chars (c ∷ cs) h = (
  elim (cases_Bool (is_confusing c)) [
    | inl t ↦ absurd (both_ways (leads_at (encode c ++ encodes cs) 0) (h 0 (omega (arith, length-append (encode c) (encodes cs), encode_some c))) (leads c (encodes cs) t))
    | inr f ↦ f
  ],
  clear_chars cs (λ k l. sym (leads_past (encode c) (encodes cs) k) ∙ h (length (encode c) + k) (omega (arith, length-append (encode c) (encodes cs)))),
)

clear_bytes : (bs : List ℕ) → IsUtf8 bs → IsLeadless bs (length bs) → NonePass is_confusing (chars bs)
clear_bytes bs u h = clear_chars (chars bs) (subst (λ x. IsLeadless x (length x)) (sym (encodes-chars bs u)) h)

pub clear_text : (bs : List ℕ) → IsUtf8 bs → Leadless bs → NonePass is_confusing (chars bs)
clear_text bs u h = clear_bytes bs u (unled bs (length bs) h)

NonePass-append : (p : ℕ → Bool) (xs ys : List ℕ) → NonePass p xs → NonePass p ys → NonePass p (xs ++ ys)
NonePass-append p [] ys h g = g
NonePass-append p (x ∷ xs) ys h g = (h.0, NonePass-append p xs ys h.1 g)

-- Bytes with which confusing characters do not begin are skipped.
pub searched_skip : (text : List ℕ) (at n : ℕ) → Searched text at → IsCharBoundary (drop at text) n → IsLeadless (drop at text) n → Searched text (at + n)
searched_skip text at n h b l =
    let r = drop at text in
    let u = IsUtf8-take r n h.utf8 b in
    let past : drop n r ≡ drop (at + n) text = drop-drop n at text in
    let split : chars r ≡ chars (take n r) ++ chars (drop n r) = ap chars (sym (take-append-drop n r)) ∙ chars-append (take n r) (drop n r) u in
    let taken : size (chars (take n r)) ≡ n = ap length (encodes-chars (take n r) u) ∙ length-take-le n r b.0 in
    record {
      prefix = h.prefix ++ chars (take n r);
      cut = h.cut ∙ ap (λ x. h.prefix ++ x) split ∙ sym (append_assoc h.prefix (chars (take n r)) (chars (drop n r))) ∙ ap (λ x. (h.prefix ++ chars (take n r)) ++ chars x) past;
      clear = NonePass-append is_confusing h.prefix (chars (take n r)) h.clear (clear_bytes (take n r) u (λ k m. leads_taken r n k l (omega (arith, m, length-take n r))));
      place = sym (size-append h.prefix (chars (take n r)) ∙ ap (λ x. size h.prefix + x) taken ∙ ap (λ x. x + n) (sym h.place));
      range = let a = b.0 in let e = h.range in omega (arith, a, e, length-drop at text);
      utf8 = subst IsUtf8 past (IsUtf8-drop r n h.utf8 b);
    }

-- A character that is not confusing is skipped.
pub searched_more : (text next : List ℕ) (at c : ℕ) → Searched text at → drop at text ≡ encode c ++ next → is_confusing c ≡ false → Searched text (at + len_utf8 c)
searched_more text next at c h e f =
    let past : drop (at + len_utf8 c) text ≡ next = drop_past_char text next at c e in
    record {
      prefix = h.prefix ++ c ∷ [];
      cut = h.cut ∙ ap (λ x. h.prefix ++ x) (chars_past_char (drop at text) next c h.utf8 e) ∙ sym (append_assoc h.prefix (c ∷ []) (chars next)) ∙ ap (λ x. (h.prefix ++ c ∷ []) ++ chars x) (sym past);
      clear = NonePass-append is_confusing h.prefix (c ∷ []) h.clear (f, tt);
      place = ap (λ x. x + len_utf8 c) h.place ∙ ap (λ x. size h.prefix + x) (sym (size_one c)) ∙ sym (size-append h.prefix (c ∷ []));
      range = let k = h.range in omega (arith, k, ap length e, length-append (encode c) next, length-encode c, length-drop at text);
      utf8 = subst IsUtf8 (sym past) (IsUtf8-past_char (drop at text) next c h.utf8 e);
    }

pub searched_found : (text next : List ℕ) (at c : ℕ) → Searched text at → drop at text ≡ encode c ++ next → is_confusing c ≡ true → FirstConfusing text at c
searched_found text next at c h e f = record {
  prefix = h.prefix;
  after = chars next;
  cut = h.cut ∙ ap (λ x. h.prefix ++ x) (chars_past_char (drop at text) next c h.utf8 e);
  clear = h.clear;
  is = f;
  place = h.place;
}

pub searched_all : (text : List ℕ) (at : ℕ) → Searched text at → IsLeadless (drop at text) (length (drop at text)) → NonePass is_confusing (chars text)
searched_all text at h l = subst (NonePass is_confusing) (sym h.cut) (NonePass-append is_confusing h.prefix (chars (drop at text)) h.clear (clear_bytes (drop at text) h.utf8 l))

-- nothing is searched yet
pub searched_start : (text : List ℕ) → IsUtf8 text → Searched text 0
searched_start text u = record { prefix = []; cut = refl; clear = tt; place = refl; range = omega arith; utf8 = u }

-- up to the first byte that may begin one
pub searched_lead : (text hay : List ℕ) (at n : ℕ) → Searched text at → hay ≡ drop at text → IsFirstLead hay n → Searched text (at + n)
searched_lead text hay at n s e h =
    let f : IsFirstLead (drop at text) n = subst (λ x. IsFirstLead x n) e h in
    searched_skip text at n s (let a = f.range in omega arith, λ _ _. let a = f.lead in omega arith) f.before

-- no bytes begin one
pub searched_end : (text hay : List ℕ) (at : ℕ) → Searched text at → hay ≡ drop at text → IsLeadless hay (length hay) → NonePass is_confusing (chars text)
searched_end text hay at s e h = searched_all text at s (subst (λ x. IsLeadless x (length x)) e h)

-- the first byte 0xE2, by a search
pub lead_found : (hay : List ℕ) (n : ℕ) → IsFirstByte (is_byte 0xE2) hay (Some n) → IsFirstLead hay n
lead_found hay n h =
    let b = h.0 in record { range = b.high; lead = eqb-true (get_or hay n 0) 0xE2 h.1; before = unled hay n (λ k l q. b.before k (omega arith) l (eq-eqb (get_or hay k 0) 0xE2 q)) }

pub no_lead_found : (hay : List ℕ) → IsFirstByte (is_byte 0xE2) hay None → IsLeadless hay (length hay)
no_lead_found hay h = unled hay (length hay) (λ k l q. h k (omega arith) l (eq-eqb (get_or hay k 0) 0xE2 q))
