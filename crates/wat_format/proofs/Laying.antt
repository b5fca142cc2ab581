-- The text that one token adds to a formatted text.
use Rattle.std.proofs.Common.{◌≡◌, ◌+◌, ◌-◌, ◌≤◌, ◌<◌, ℕ, false, List, [], ◌∷◌, ◌++◌, take, drop, refl, sym, ap, ◌∙◌, subst, arith, append_assoc}
use Rattle.std.proofs.lemmas.List.Elements.{All-weaker, All-cons, All-head, All-tail, All-nil}
use Rattle.std.specs.Prelude.{Result, Ok, Err, OnOk}
use Rattle.std.specs.List.{All}
use Rattle.wat_lex.specs.tokens.ReadableTokens.{token_text}
use Rattle.wat_lex.specs.declared.lexer.kinds.Token.{Token}
use Rattle.wat_format.specs.Gaps.{gap_text}
use Rattle.wat_format.specs.Layout.{State, Groups, laid, gap_before, line_level, after, groups_after, closed, is_white, start}
use Rattle.wat_format.specs.Sorts.{sort_of}
use Rattle.wat_format.specs.inside.Steps.{HasFew, Few, Writes, Lays}
use Rattle.wat_format.specs.declared.group.Group.{Group}
use Rattle.wat_format.specs.declared.sort.Sort.{Sort}
use Rattle.wat_format.specs.declared.sort.Sort.TheVariants.{Open, Close, Comment, Mark, At, Begins, Ends, Parts, Other}

pub on_ok : {T E : Type 0} {P Q : Type 0} → (r : Result T E) → (P → Q) → OnOk r P → OnOk r Q
on_ok (Ok x) f h = f h
on_ok (Err x) f h = tt

-- the text of a token, as it is cut out of the text
pub token_cut : (text : List ℕ) (t : Token) → take ((t.offset + t.len) - t.offset) (drop t.offset text) ≡ token_text text t
token_cut text t =
    let n : (t.offset + t.len) - t.offset ≡ t.len = omega arith in
    ap (λ n. take n (drop t.offset text)) n

pub lays_token : (text : List ℕ) (s s' : State) (t : Token) (out out' w : List ℕ) → is_white t.kind ≡ false → w ≡ token_text text t → Writes t.kind w s s' out out' → Lays text s t s' out out'
lays_token text s s' t out out' w e k h ts =
    let y : Sort = sort_of s.before t.kind (token_text text t) in
    let g = gap_before y s in
    let l : ℕ = line_level y g s in
    let h' = subst (λ w. Writes t.kind w s s' out out') k h in
    let piece : List ℕ = gap_text g l ++ token_text text t in
    let first : laid text s (t ∷ ts) ≡ piece ++ laid text (after y l s) ts = rw e refl in
    ap (λ x. out ++ x) first ∙ sym (append_assoc out piece (laid text (after y l s) ts)) ∙ ap (λ x. x ++ laid text (after y l s) ts) (sym h'.bytes) ∙ ap (λ x. out' ++ laid text x ts) (sym h'.state)

few_around : (n m : ℕ) (gs : List Group) → n ≤ m → All (HasFew n) gs → All (HasFew m) gs
few_around n m gs le h = All-weaker (HasFew n) (HasFew m) (λ g. λ (k : HasFew n g). let l : g.blocks ≤ n = k in omega arith) gs h

few_closed : (n m : ℕ) (g : Group) (gs : List Group) → n ≤ m → HasFew n g → All (HasFew n) gs → HasFew m (closed g gs).open_group × All (HasFew m) (closed g gs).around
few_closed n m g [] le h k = (omega (arith, h), few_around n m [] le k)
few_closed n m g (o ∷ gs) le h k = (let b : o.blocks ≤ n = All-head (HasFew n) o gs k in omega arith, few_around n m gs le (All-tail (HasFew n) o gs k))

few_groups : (n m l : ℕ) (y : Sort) (s : Groups) → n < m → HasFew n s.open_group → All (HasFew n) s.around → HasFew m (groups_after y l s).open_group × All (HasFew m) (groups_after y l s).around
few_groups n m l Open s lt h k = (omega arith, All-cons (HasFew m) s.open_group s.around (omega (arith, h)) (few_around n m s.around (omega arith) k))
few_groups n m l Close s lt h k = few_closed n m s.open_group s.around (omega arith) h k
few_groups n m l Begins s lt h k = (omega (arith, h), few_around n m s.around (omega arith) k)
few_groups n m l Ends s lt h k = (omega (arith, h), few_around n m s.around (omega arith) k)
few_groups n m l Parts s lt h k = (omega (arith, h), few_around n m s.around (omega arith) k)
few_groups n m l Comment s lt h k = (omega (arith, h), few_around n m s.around (omega arith) k)
few_groups n m l Mark s lt h k = (omega (arith, h), few_around n m s.around (omega arith) k)
few_groups n m l At s lt h k = (omega (arith, h), few_around n m s.around (omega arith) k)
few_groups n m l Other s lt h k = (omega (arith, h), few_around n m s.around (omega arith) k)

-- a token opens at most one block
pub few_after : (n m l : ℕ) (y : Sort) (s s' : State) → n < m → s' ≡ after y l s → Few n s → Few m s'
few_after n m l y s s' lt e h =
    let k = few_groups n m l y s.groups lt h.open_group h.around in
    subst (λ x. Few m x) (sym e) (record { open_group = k.0; around = k.1 })

pub few_start : (s : State) → s ≡ start → Few 0 s
few_start s e = subst (λ x. Few 0 x) (sym e) (record { open_group = omega arith; around = All-nil (HasFew 0) })

-- a text that is seen by another name
pub lays_in : (text text' : List ℕ) (s s' : State) (t : Token) (out out' : List ℕ) → text ≡ text' → Lays text s t s' out out' → Lays text' s t s' out out'
lays_in text text' s s' t out out' e h ts = subst (λ x. out ++ laid x s (t ∷ ts) ≡ out' ++ laid x s' ts) e (h ts)
