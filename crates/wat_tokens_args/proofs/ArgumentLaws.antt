-- Splitting off the first argument of a command line.
use Rattle.std.proofs.Common.{◌≡◌, ◌≤◌, ◌+◌, ℕ, Bool, true, false, List, [], ◌∷◌, ◌++◌, length, refl, sym, ap, ◌∙◌, arith}
use Rattle.std.specs.Prelude.{Option, Some, None, if◌then◌else◌, is_some}
use Rattle.std.proofs.lemmas.List.{nil_from_length}
use Rattle.wat_tokens_args.specs.Arguments.{Word, Given, IsNextArgument, alone, alone_kind, named_kind, named_or, leads, is_kind, args_of, after_front, times, first_of, files_in, names_file}
use Rattle.wat_tokens_args.specs.declared.arguments.Kind.{Kind}
use Rattle.wat_tokens_args.specs.declared.arguments.Kind.TheVariants.{Named, Output}

args_alone : (w : Word) (ws : List Word) → named_kind w ≡ None → args_of (w ∷ ws) ≡ alone w ∷ args_of ws
unfolding args_of
args_alone w [] e = refl
args_alone w (x ∷ ws) e = ap (λ o. named_or o x (args_of ws) (alone w ∷ args_of (x ∷ ws))) e

args_last : (w : Word) → args_of (w ∷ []) ≡ alone w ∷ args_of []
unfolding args_of
args_last w = refl

args_named : (w n : Word) (ws : List Word) (k : Kind) → named_kind w ≡ Some k → args_of (w ∷ n ∷ ws) ≡ record { kind = k; word = n } ∷ args_of ws
unfolding args_of
args_named w n ws k e = ap (λ o. named_or o n (args_of ws) (alone w ∷ args_of (n ∷ ws))) e

front_alone : (w : Word) (ws : List Word) → named_kind w ≡ None → after_front (w ∷ ws) ≡ (if leads (alone_kind w) then after_front ws else w ∷ ws)
unfolding after_front
front_alone w [] e = refl
front_alone w (x ∷ ws) e = ap (λ o. if is_some o then after_front ws else if leads (alone_kind w) then after_front (x ∷ ws) else w ∷ x ∷ ws) e

front_last : (w : Word) → after_front (w ∷ []) ≡ (if leads (alone_kind w) then after_front [] else w ∷ [])
unfolding after_front
front_last w = refl

either_leads : (a b : Bool) (k : Kind) → (if a then Some Named else if b then Some Output else None) ≡ Some k → leads k ≡ true
either_leads true b k e = ap (λ o. leads_in o) (sym e)
  where
    leads_in : Option Kind → Bool
    leads_in None = true
    leads_in (Some k) = leads k
either_leads false true k e = ap (λ o. leads_in o) (sym e)
  where
    leads_in : Option Kind → Bool
    leads_in None = true
    leads_in (Some k) = leads k
either_leads false false k e = cc

front_named : (w n : Word) (ws : List Word) (k : Kind) → named_kind w ≡ Some k → after_front (w ∷ n ∷ ws) ≡ (if leads k then after_front ws else w ∷ n ∷ ws)
unfolding after_front
front_named w n ws k e =
    ap (λ o. if is_some o then after_front ws else if leads (alone_kind w) then after_front (n ∷ ws) else w ∷ n ∷ ws) e
    ∙ sym (ap (λ b. if b then after_front ws else w ∷ n ∷ ws) (either_leads _ _ k e))

pub next_alone : (words rest : List Word) (w v : Word) (k : Kind) → words ≡ w ∷ rest → named_kind w ≡ None → k ≡ alone_kind w → v ≡ w → IsNextArgument words k v rest
next_alone words rest w v k e n h i =
    rw (e, h, i) (record { given = args_alone w rest n; front = front_alone w rest n; shorter = omega arith })

pub next_last : (words rest : List Word) (w v : Word) (k : Kind) → words ≡ w ∷ rest → length rest ≡ 0 → k ≡ alone_kind w → v ≡ w → IsNextArgument words k v rest
next_last words rest w v k e n h i =
    let none = nil_from_length rest n in
    let e' : words ≡ w ∷ [] = e ∙ ap (λ r. w ∷ r) none in
    rw (e', none, h, i) (record { given = args_last w; front = front_last w; shorter = omega arith })

pub next_named : (words rest : List Word) (w n : Word) (k : Kind) → words ≡ w ∷ n ∷ rest → named_kind w ≡ Some k → IsNextArgument words k n rest
next_named words rest w n k e h =
    rw e (record { given = args_named w n rest k h; front = front_named w n rest k h; shorter = omega arith })

pub args_empty : args_of [] ≡ []
unfolding args_of
args_empty = refl

front_empty : after_front [] ≡ []
unfolding after_front
front_empty = refl

-- The command line without words.
pub args_nil : (words : List Word) → words ≡ [] → args_of words ≡ []
args_nil words e = ap args_of e ∙ args_empty

pub front_nil : (words : List Word) → words ≡ [] → after_front words ≡ words
front_nil words e = ap after_front e ∙ front_empty ∙ sym e

-- Steps of the loops over the arguments.
pub times_step : (f k : Kind) (words rest : List Word) (w : Word) → IsNextArgument words k w rest → times f (args_of words) ≡ (if is_kind f k then 1 else 0) + times f (args_of rest)
times_step f k words rest w n = ap (times f) n.given

pub times_one : (f k : Kind) (words rest : List Word) (w : Word) → IsNextArgument words k w rest → is_kind f k ≡ true → times f (args_of words) ≡ 1 + times f (args_of rest)
times_one f k words rest w n e = times_step f k words rest w n ∙ ap (λ b. (if b then 1 else 0) + times f (args_of rest)) e

pub first_step : (f k : Kind) (words rest : List Word) (w : Word) → IsNextArgument words k w rest → first_of f (args_of words) ≡ (if is_kind f k then Some w else first_of f (args_of rest))
first_step f k words rest w n = ap (first_of f) n.given

pub files_step : (k : Kind) (words rest : List Word) (w : Word) → IsNextArgument words k w rest → files_in (args_of words) ≡ (if names_file k then w ∷ files_in (args_of rest) else files_in (args_of rest))
files_step k words rest w n = ap files_in n.given

once_le : (b : Bool) → (if b then 1 else 0) ≤ 1
once_le true = omega arith
once_le false = omega arith

args_le : (words : List Word) → length (args_of words) ≤ length words
unfolding args_of
args_le [] = omega arith
args_le (w ∷ []) = omega arith
args_le (w ∷ n ∷ ws) = named_le (named_kind w) n (args_of ws) (alone w ∷ args_of (n ∷ ws)) (length (w ∷ n ∷ ws)) (omega (arith, args_le ws)) (omega (arith, args_le (n ∷ ws)))
  where
    named_le : (o : Option Kind) (n : Word) (after other : List Given) (m : ℕ) → length after + 1 ≤ m → length other ≤ m → length (named_or o n after other) ≤ m
    named_le (Some k) n after other m h i = omega (arith, h)
    named_le None n after other m h i = i

times_in_le : (f : Kind) (args : List Given) → times f args ≤ length args
times_in_le f [] = omega arith
times_in_le f (a ∷ args) = omega (arith, once_le (is_kind f a.kind), times_in_le f args)

pub times_le : (f : Kind) (words : List Word) → times f (args_of words) ≤ length words
times_le f words = omega (arith, times_in_le f (args_of words), args_le words)

-- Concatenations of two lists of arguments.
abbrev pub or_else : Option Word → Option Word → Option Word
or_else (Some w) other = Some w
or_else None other = other

pub times_append : (f : Kind) (a b : List Given) → times f (a ++ b) ≡ times f a + times f b
times_append f [] b = omega arith
times_append f (x ∷ a) b = omega (arith, times_append f a b)

pub files_append : (a b : List Given) → files_in (a ++ b) ≡ files_in a ++ files_in b
files_append [] b = refl
files_append (x ∷ a) b = more (names_file x.kind) x.word (files_in (a ++ b)) (files_in a) (files_in b) (files_append a b)
  where
    more : (t : Bool) (w : Word) (all left right : List Word) → all ≡ left ++ right → (if t then w ∷ all else all) ≡ (if t then w ∷ left else left) ++ right
    more true w all left right e = ap (λ l. w ∷ l) e
    more false w all left right e = e

pub first_append : (f : Kind) (a b : List Given) → first_of f (a ++ b) ≡ or_else (first_of f a) (first_of f b)
first_append f [] b = refl
first_append f (x ∷ a) b = more (is_kind f x.kind) x.word (first_of f (a ++ b)) (first_of f a) (first_of f b) (first_append f a b)
  where
    more : (t : Bool) (w : Word) (all left right : Option Word) → all ≡ or_else left right → (if t then Some w else all) ≡ or_else (if t then Some w else left) right
    more true w all left right e = refl
    more false w all left right e = e
