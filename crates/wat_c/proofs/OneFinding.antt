-- The result of a reader at an offset is unique, unless an allocation fails.
use Rattle.std.proofs.Common.{◌≡◌, ◌≢◌, ◌⊎◌, ℕ, List, [], refl, true≢false, ap, sym, ◌∙◌, subst, inl, inr}
use Rattle.std.specs.Prelude.{Bool, false, ◌||◌, ◌==◌, if◌then◌else◌, Option, Some, None, Result, Ok, Err, IfOk, IfSome, IsSome, alloc_error, unwrap_or}
use Rattle.std.specs.Option.{option_map}
use Rattle.std.specs.Cow.{cow_str_bytes}
use Rattle.std.specs.declared.borrow.CowStr.{CowStr}
use Rattle.wat_lex.specs.tokens.EverySetting.{ScanResultIsUnique, NamesAreUnique, CutsAreOne}
use Rattle.wat_lex.specs.tokens.ReadableTokens.{word_of}
use Rattle.wat_lex.specs.tokens.Setting.{Setting}
use Rattle.wat_lex.specs.tokens.Faults.{FaultAt}
use Rattle.wat_lex.specs.values.NumberValues.{joined, number_text, payload_text, FloatParts, IsOptionalText, IsFloatOf}
use Rattle.wat_lex.specs.values.UniqueValues.{OneValue, OneCut}
use Rattle.wat_lex.specs.values.WordValues.{empty_name}
use Rattle.wat_lex.specs.declared.lexer.faults.LexFault.{LexFault}
use Rattle.wat_lex.specs.declared.lexer.kinds.FloatKind.{FloatKind}
use Rattle.wat_lex.specs.declared.lexer.kinds.FloatKind.TheVariants as float_kind
use Rattle.wat_lex.specs.declared.lexer.kinds.IntegerKind.{IntegerKind}
use Rattle.wat_lex.specs.declared.lexer.kinds.Token.{Token}
use Rattle.wat_lex.specs.declared.lexer.kinds.TokenKind.{TokenKind}
use Rattle.wat_lex.specs.declared.lexer.kinds.TokenKind.TheVariants as kind
use Rattle.wat_lex.specs.declared.lexer.read.numbers.Float.{Float}
use Rattle.wat_lex.specs.declared.lexer.read.numbers.Float.TheVariants as value
use Rattle.wat_c.specs.Answers.{OneAnswer, answer_of, left_of, status_of}
use Rattle.wat_c.specs.Readings.{Finds, OtherAt, ReadAt, ReadsString, ReadsName, ReadsInteger, ReadsFloat, ReadsNameFault, FindsFault, NoFault, IsFloatToken, part_of, integral_part, fractional_part, exponent_part, payload_part, shown_fault}
use Rattle.wat_c.specs.declared.answers.Answer.{Answer}
use Rattle.wat_c.specs.declared.answers.Refusal.{Refusal}
use Rattle.wat_c.specs.declared.answers.Refusal.TheVariants.{Other, Memory, Absent, Fault}
use Rattle.wat_c.proofs.Texts.{bytes_of_text}

abbrev pub Finding : Type 0
Finding = Result (List ℕ) Refusal

-- Any two findings are equal, except allocation failures.
abbrev pub One : (Finding → Type 0) → Type 0
One Reads = (a b : Finding) → Reads a → Reads b → a ≢ Err (Memory alloc_error) → b ≢ Err (Memory alloc_error) → a ≡ b

found_memory : (answer : Answer) (found : Finding) → answer ≡ answer_of found → answer.status ≢ status_of (Memory alloc_error) → found ≢ Err (Memory alloc_error)
found_memory answer found known n e = n (ap (λ a. a.status) known ∙ ap (λ f. (answer_of f).status) e)

pub one_answer : (Reads : Finding → Type 0) (old : List ℕ) → One Reads → OneAnswer Reads old
unfolding OneAnswer
one_answer Reads old one new other answer known h k n m =
    let same = one h.found k.found h.reads k.reads (found_memory answer h.found h.known n) (found_memory known k.found k.known m) in
    (h.known ∙ ap answer_of same ∙ sym k.known, h.left ∙ ap (left_of old) same ∙ sym k.left)

-- ---- tokens

-- Either a token of these kinds is at the offset, or none is.
split : (Is : TokenKind → Type 0) (Reads : List ℕ → Token → Finding → Type 0) (s : Setting) (p : ℕ) (a : Finding) → Finds Is Reads s p a → ((a ≡ Err Other) × OtherAt Is s p) ⊎ ReadAt Is Reads s p a
split Is Reads s p (Ok bytes) h = inr h
split Is Reads s p (Err Other) h = inl (refl, h)
split Is Reads s p (Err (Memory refused)) h = inr h
split Is Reads s p (Err Absent) h = inr h
split Is Reads s p (Err (Fault e)) h = inr h

-- The result of a scan.
abbrev pub Answered : Type 0
Answered = Result (Option Token) LexFault

abbrev pub token_is_at : Token → Answered
token_is_at t = Ok (Some t)

pub some_token : (t u : Token) → token_is_at t ≡ token_is_at u → t ≡ u
some_token t u e = ap (λ r. elim r [ Ok (Some x) ↦ x | Ok None ↦ t | Err f ↦ t ]) e

module _ (is_at : ScanResultIsUnique) (Is : TokenKind → Type 0) (Reads : List ℕ → Token → Finding → Type 0) (s : Setting) (p : ℕ)
    (one : (t : Token) → Is t.kind → One (Reads s.text t)) where
  apart : (b : Finding) → OtherAt Is s p → ReadAt Is Reads s p b → ⊥
  apart b h k = subst (λ r. IfOk r (λ found. IfSome found (λ t. Is t.kind → ⊥))) (is_at s p h.answer (Ok (Some k.token)) h.is_at k.is_at) h.other k.kind

  both : (a b : Finding) → ReadAt Is Reads s p a → ReadAt Is Reads s p b → a ≢ Err (Memory alloc_error) → b ≢ Err (Memory alloc_error) → a ≡ b
  both a b h k n m =
      let same = some_token k.token h.token (is_at s p (Ok (Some k.token)) (Ok (Some h.token)) k.is_at h.is_at) in
      one h.token h.kind a b h.reads (subst (λ t. Reads s.text t b) same k.reads) n m

  pub one_finding : One (Finds Is Reads s p)
  one_finding a b h k n m =
      elim (split Is Reads s p a h) [
        | inl x ↦ elim (split Is Reads s p b k) [ inl y ↦ x.0 ∙ sym y.0 | inr y ↦ absurd (apart b x.1 y) ]
        | inr x ↦ elim (split Is Reads s p b k) [ inl y ↦ absurd (apart a y.1 x) | inr y ↦ both a b x y n m ]
      ]

-- ---- strings, names, integers

pub one_string : ((w : List ℕ) → OneValue w) → (text : List ℕ) (t : Token) → One (ReadsString text t)
one_string one text t (Ok a) (Ok b) h k n m = ap Ok (one (word_of text t) a b h k)
one_string one text t (Err (Memory refused)) b h k n m = absurd (n refl)
one_string one text t (Ok a) (Err (Memory refused)) h k n m = absurd (m refl)
one_string one text t (Ok a) (Err Other) h k n m = absurd k
one_string one text t (Ok a) (Err Absent) h k n m = absurd k
one_string one text t (Ok a) (Err (Fault e)) h k n m = absurd k
one_string one text t (Err Other) b h k n m = absurd h
one_string one text t (Err Absent) b h k n m = absurd h
one_string one text t (Err (Fault e)) b h k n m = absurd h

pub one_name : NamesAreUnique → (text : List ℕ) (t : Token) → One (ReadsName text t)
one_name one text t (Ok a) (Ok b) h k n m = ap Ok ((one (empty_name t.kind) (word_of text t)).name a b h.0 k.0)
one_name one text t (Err (Fault e)) (Err (Fault f)) h k n m = ap (λ e. Err (Fault e)) ((one (empty_name t.kind) (word_of text t)).fault e f h k)
one_name one text t (Ok a) (Err (Fault f)) h k n m = absurd ((one (empty_name t.kind) (word_of text t)).good a f h.0 h.1 h.2 k)
one_name one text t (Err (Fault e)) (Ok b) h k n m = absurd ((one (empty_name t.kind) (word_of text t)).good b e k.0 k.1 k.2 h)
one_name one text t (Err (Memory refused)) b h k n m = absurd (n refl)
one_name one text t (Ok a) (Err (Memory refused)) h k n m = absurd (m refl)
one_name one text t (Ok a) (Err Other) h k n m = absurd k
one_name one text t (Ok a) (Err Absent) h k n m = absurd k
one_name one text t (Err (Fault e)) (Err (Memory refused)) h k n m = absurd (m refl)
one_name one text t (Err (Fault e)) (Err Other) h k n m = absurd k
one_name one text t (Err (Fault e)) (Err Absent) h k n m = absurd k
one_name one text t (Err Other) b h k n m = absurd h
one_name one text t (Err Absent) b h k n m = absurd h

pub one_name_fault : NamesAreUnique → (text : List ℕ) (t : Token) → One (ReadsNameFault text t)
one_name_fault one text t (Ok a) (Ok b) h k n m =
    let same = (one (empty_name t.kind) (word_of text t)).fault h.0 k.0 h.1 k.1 in
    ap Ok (h.2 ∙ ap (λ e. shown_fault text (record { offset = t.offset; error = e })) same ∙ sym k.2)
one_name_fault one text t (Err Absent) (Err Absent) h k n m = refl
one_name_fault one text t (Ok a) (Err Absent) h k n m = absurd ((one (empty_name t.kind) (word_of text t)).good k.0 h.0 k.1 k.2 k.3 h.1)
one_name_fault one text t (Err Absent) (Ok b) h k n m = absurd ((one (empty_name t.kind) (word_of text t)).good h.0 k.0 h.1 h.2 h.3 k.1)
one_name_fault one text t (Err (Memory refused)) b h k n m = absurd (n refl)
one_name_fault one text t (Ok a) (Err (Memory refused)) h k n m = absurd (m refl)
one_name_fault one text t (Ok a) (Err Other) h k n m = absurd k
one_name_fault one text t (Ok a) (Err (Fault f)) h k n m = absurd k
one_name_fault one text t (Err Absent) (Err (Memory refused)) h k n m = absurd (m refl)
one_name_fault one text t (Err Absent) (Err Other) h k n m = absurd k
one_name_fault one text t (Err Absent) (Err (Fault f)) h k n m = absurd k
one_name_fault one text t (Err Other) b h k n m = absurd h
one_name_fault one text t (Err (Fault e)) b h k n m = absurd h

abbrev integer_kind : IntegerKind → TokenKind → IntegerKind
integer_kind d (kind.Integer k) = k
integer_kind d k = d

pub one_integer : (text : List ℕ) (t : Token) → One (ReadsInteger text t)
one_integer text t (Ok a) (Ok b) h k n m =
    let same : h.0 ≡ k.0 = ap (integer_kind h.0) (sym h.1 ∙ k.1) in
    ap Ok (h.2 ∙ ap (λ i. number_text i.hex (word_of text t)) same ∙ sym k.2)
one_integer text t (Err (Memory refused)) b h k n m = absurd (n refl)
one_integer text t (Ok a) (Err (Memory refused)) h k n m = absurd (m refl)
one_integer text t (Ok a) (Err Other) h k n m = absurd k
one_integer text t (Ok a) (Err Absent) h k n m = absurd k
one_integer text t (Ok a) (Err (Fault e)) h k n m = absurd k
one_integer text t (Err Other) b h k n m = absurd h
one_integer text t (Err Absent) b h k n m = absurd h
one_integer text t (Err (Fault e)) b h k n m = absurd h

-- ---- floating-point numbers

optional_bytes : {Z : Type 0} (again : Bool) (digits : Option (List ℕ)) (text : Option (CowStr Z)) → IsOptionalText again digits text → option_map cow_str_bytes text ≡ digits
optional_bytes again None None h = refl
optional_bytes again (Some d) (Some t) h = ap Some (bytes_of_text again d t h)
optional_bytes again None (Some t) h = absurd h
optional_bytes again (Some d) None h = absurd h

-- the four parts
abbrev Quarters : Type 0
Quarters = Option (List ℕ) × Option (List ℕ) × Option (List ℕ) × Option (List ℕ)

abbrev quarters : Float → Quarters
quarters f = (integral_part f, fractional_part f, exponent_part f, payload_part f)

-- The parts of a floating-point number's lexeme.
abbrev cut_quarters : Bool → List ℕ → Option (List ℕ) → Option (List ℕ) → Quarters
cut_quarters hex leading fraction power = (Some (number_text hex leading), option_map joined fraction, option_map (number_text false) power, None)

-- The facts about the parts of a floating-point number.
abbrev Quartered : FloatKind → List ℕ → Quarters → Type 0
Quartered (float_kind.Inf n) w q = q ≡ (None, None, None, None)
Quartered (float_kind.Nan n) w q = q ≡ (None, None, None, None)
Quartered (float_kind.NanVal n u) w q = q ≡ (None, None, None, Some (payload_text w))
Quartered (float_kind.Normal u hex) w q = (leading : List ℕ) × (fraction power : Option (List ℕ)) × FloatParts hex w leading fraction power × (q ≡ cut_quarters hex leading fraction power)

quartered : (k : FloatKind) (w : List ℕ) (f : Float) → IsFloatOf k w f → Quartered k w (quarters f)
quartered (float_kind.Inf n) w (value.Inf m) h = refl
quartered (float_kind.Inf n) w (value.Nan v m) h = absurd h
quartered (float_kind.Inf n) w (value.Val x i f e) h = absurd h
quartered (float_kind.Nan n) w (value.Nan None m) h = refl
quartered (float_kind.Nan n) w (value.Nan (Some v) m) h = absurd h
quartered (float_kind.Nan n) w (value.Inf m) h = absurd h
quartered (float_kind.Nan n) w (value.Val x i f e) h = absurd h
quartered (float_kind.NanVal n u) w (value.Nan (Some v) m) h = ap (λ d. (None, None, None, Some d)) (bytes_of_text u (payload_text w) v h.0)
quartered (float_kind.NanVal n u) w (value.Nan None m) h = absurd h
quartered (float_kind.NanVal n u) w (value.Inf m) h = absurd h
quartered (float_kind.NanVal n u) w (value.Val x i f e) h = absurd h
quartered (float_kind.Normal u hex) w (value.Val x i f e) h =
    let cut = h.1 in
    let first = ap Some (bytes_of_text (hex || u) (number_text hex cut.leading) i cut.integral_is) in
    let after = optional_bytes u (option_map joined cut.fraction) f cut.fractional_is in
    let power = optional_bytes u (option_map (number_text false) cut.power) e cut.exponent_is in
    (cut.leading, cut.fraction, cut.power, cut.parts, λ j. (first j, after j, power j, None))
quartered (float_kind.Normal u hex) w (value.Inf m) h = absurd h
quartered (float_kind.Normal u hex) w (value.Nan v m) h = absurd h

one_quarters : (w : List ℕ) (one : OneCut w) (k : FloatKind) (p q : Quarters) → Quartered k w p → Quartered k w q → p ≡ q
one_quarters w one (float_kind.Inf n) p q h g = h ∙ sym g
one_quarters w one (float_kind.Nan n) p q h g = h ∙ sym g
one_quarters w one (float_kind.NanVal n u) p q h g = h ∙ sym g
one_quarters w one (float_kind.Normal u hex) p q h g =
    let same = one.parts hex h.0 g.0 h.1 g.1 h.2 g.2 h.3 g.3 in
    let leading = same.0 in
    let fraction = same.1 in
    let power = same.2 in
    h.4 ∙ (λ i. cut_quarters hex (leading i) (fraction i) (power i)) ∙ sym g.4

abbrev quarter : ℕ → Quarters → Option (List ℕ)
quarter part q =
    if part == 0 then q.0
    else if part == 1 then q.1
    else if part == 2 then q.2
    else if part == 3 then q.3
    else None

abbrev float_kind_of : FloatKind → TokenKind → FloatKind
float_kind_of d (kind.Float k) = k
float_kind_of d k = d

same_part : CutsAreOne → (part : ℕ) (text : List ℕ) (t : Token) (f g : Float) → IsFloatToken text t f → IsFloatToken text t g → part_of part f ≡ part_of part g
same_part one part text t f g h k =
    let w = word_of text t in
    let kinds : h.0 ≡ k.0 = ap (float_kind_of h.0) (sym h.1 ∙ k.1) in
    ap (quarter part) (one_quarters w (one w) k.0 (quarters f) (quarters g) (subst (λ x. Quartered x w (quarters f)) kinds (quartered h.0 w f h.2)) (quartered k.0 w g k.2))

some_none : (a : List ℕ) → Some a ≡ None → ⊥
some_none a e = true≢false (sym (subst IsSome e refl))

pub one_float : CutsAreOne → (part : ℕ) (text : List ℕ) (t : Token) → One (ReadsFloat part text t)
one_float one part text t (Ok a) (Ok b) h k n m = ap (λ o. Ok (unwrap_or o [])) (sym h.2 ∙ same_part one part text t h.0 k.0 h.1 k.1 ∙ k.2)
one_float one part text t (Err Absent) (Err Absent) h k n m = refl
one_float one part text t (Ok a) (Err Absent) h k n m = absurd (some_none a (sym h.2 ∙ same_part one part text t h.0 k.0 h.1 k.1 ∙ k.2))
one_float one part text t (Err Absent) (Ok b) h k n m = absurd (some_none b (sym k.2 ∙ same_part one part text t k.0 h.0 k.1 h.1 ∙ h.2))
one_float one part text t (Err (Memory refused)) b h k n m = absurd (n refl)
one_float one part text t (Ok a) (Err (Memory refused)) h k n m = absurd (m refl)
one_float one part text t (Ok a) (Err Other) h k n m = absurd k
one_float one part text t (Ok a) (Err (Fault e)) h k n m = absurd k
one_float one part text t (Err Absent) (Err (Memory refused)) h k n m = absurd (m refl)
one_float one part text t (Err Absent) (Err Other) h k n m = absurd k
one_float one part text t (Err Absent) (Err (Fault e)) h k n m = absurd k
one_float one part text t (Err Other) b h k n m = absurd h
one_float one part text t (Err (Fault e)) b h k n m = absurd h

-- ---- lexical errors

abbrev fault_is_at : LexFault → Answered
fault_is_at f = Err f

some_fault : (f g : LexFault) → fault_is_at f ≡ fault_is_at g → f ≡ g
some_fault f g e = ap (λ r. elim r [ Err x ↦ x | Ok found ↦ f ]) e

no_fault : (s : Setting) (p : ℕ) (f : LexFault) → ScanResultIsUnique → FaultAt s p f → NoFault s p → ⊥
no_fault s p f is_at h k = subst (λ r. IfOk r (λ found. ⊥)) (is_at s p (Err f) (Ok k.found) h k.is_at) tt

pub one_fault : ScanResultIsUnique → (s : Setting) (p : ℕ) → One (FindsFault s p)
one_fault is_at s p (Ok a) (Ok b) h k n m = ap Ok (h.2 ∙ ap (shown_fault s.text) (some_fault h.0 k.0 (is_at s p (Err h.0) (Err k.0) h.1 k.1)) ∙ sym k.2)
one_fault is_at s p (Err Other) (Err Other) h k n m = refl
one_fault is_at s p (Ok a) (Err Other) h k n m = absurd (no_fault s p h.0 is_at h.1 k)
one_fault is_at s p (Err Other) (Ok b) h k n m = absurd (no_fault s p k.0 is_at k.1 h)
one_fault is_at s p (Ok a) (Err (Memory refused)) h k n m = absurd k
one_fault is_at s p (Ok a) (Err Absent) h k n m = absurd k
one_fault is_at s p (Ok a) (Err (Fault e)) h k n m = absurd k
one_fault is_at s p (Err Other) (Err (Memory refused)) h k n m = absurd k
one_fault is_at s p (Err Other) (Err Absent) h k n m = absurd k
one_fault is_at s p (Err Other) (Err (Fault e)) h k n m = absurd k
one_fault is_at s p (Err (Memory refused)) b h k n m = absurd h
one_fault is_at s p (Err Absent) b h k n m = absurd h
one_fault is_at s p (Err (Fault e)) b h k n m = absurd h
