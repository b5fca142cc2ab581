-- Splitting the command line into its parts.
use Rattle.std.proofs.Common.{◌≡◌, ◌-◌, ℕ, Bool, true, false, List, [], ◌∷◌, ◌++◌, length, take, refl, sym, ap, ◌∙◌}
use Rattle.std.specs.Prelude.{Option, Some, None, ◌&&◌, string_bytes}
use Rattle.std.specs.Option.{option_map}
use Rattle.wat_tokens_args.specs.Arguments.{Word, Given, IsNextArgument, args_of, after_front, first_of}
use Rattle.wat_tokens_args.specs.Options.{Parts, after_verb, owns_operands, parts, parts_of, take_all, takes, verb_of}
use Rattle.wat_tokens_args.specs.OptionSteps.{IsNext}
use Rattle.wat_tokens_args.specs.declared.arguments.Kind.{Kind}
use Rattle.wat_tokens_args.specs.declared.options.Verb.{Verb}
use Rattle.wat_tokens_args.proofs.ArgumentLaws.{args_empty, args_nil, first_append, or_else}

own_parts : (front : List Given) (v : Verb) (after : List Word) → owns_operands v ≡ true → record { front = front; verb = v; own = after; args = args_of []; last = [] } ≡ parts front v after (owns_operands v)
own_parts front v after h = ap (λ a. record { front = front; verb = v; own = after; args = a; last = [] }) args_empty ∙ sym (ap (parts front v after) h)

pub split_own : (words front rest own : List Word) (v : Verb) → rest ≡ after_front words → front ≡ take (length words - length rest) words → v ≡ verb_of rest → own ≡ after_verb rest → owns_operands v ≡ true
    → ◌≡◌ {A = Parts} (record { front = args_of front; verb = v; own = own; args = args_of []; last = [] }) (parts_of words)
split_own words front rest own v r f e a h =
    rw (f, e, a, r) (own_parts _ (verb_of (after_front words)) (after_verb (after_front words)) (sym (ap owns_operands (e ∙ ap verb_of r)) ∙ h))

-- The command accepts all arguments: steps and combinations.
pub take_step : (v : Verb) (k : Kind) (words rest : List Word) (w : Word) → IsNextArgument words k w rest → take_all v (args_of words) ≡ takes v k && take_all v (args_of rest)
take_step v k words rest w n = ap (take_all v) n.given

pub take_append : (v : Verb) (a b : List Given) → take_all v (a ++ b) ≡ take_all v a && take_all v b
take_append v [] b = refl
take_append v (x ∷ a) b = more (takes v x.kind) (take_all v (a ++ b)) (take_all v a) (take_all v b) (take_append v a b)
  where
    more : (t all left right : Bool) → all ≡ left && right → t && all ≡ (t && left) && right
    more true all left right e = e
    more false all left right e = refl

pub take_both : (v : Verb) (a b : List Given) (t r : Bool) → t ≡ take_all v a → t ≡ true → r ≡ take_all v b → r ≡ take_all v (a ++ b)
take_both v a b t r e h f = f ∙ ap (λ x. x && take_all v b) (sym h ∙ e) ∙ sym (take_append v a b)

pub take_not : (v : Verb) (a b : List Given) (r : Bool) → r ≡ take_all v a → r ≡ false → r ≡ take_all v (a ++ b)
take_not v a b r e h = h ∙ ap (λ x. x && take_all v b) (sym h ∙ e) ∙ sym (take_append v a b)

pub take_none : (v : Verb) (words : List Word) → words ≡ [] → take_all v (args_of words) ≡ true
take_none v words e = ap (take_all v) (args_nil words e)

-- The first argument of a kind, before or after the command.
pub first_front : (k : Kind) (a b : List Given) (w : Word) → Some w ≡ first_of k a → Some (string_bytes w) ≡ option_map string_bytes (first_of k (a ++ b))
first_front k a b w e = ap (λ o. option_map string_bytes (or_else o (first_of k b))) e ∙ sym (ap (option_map string_bytes) (first_append k a b))

pub first_args : (k : Kind) (a b : List Given) (o : Option Word) → None ≡ first_of k a → o ≡ first_of k b → option_map string_bytes o ≡ option_map string_bytes (first_of k (a ++ b))
first_args k a b o e f = ap (option_map string_bytes) f ∙ ap (λ x. option_map string_bytes (or_else x (first_of k b))) e ∙ sym (ap (option_map string_bytes) (first_append k a b))

-- The next input file: an option before the command, an argument after it, or a file after `--`.
pub next_front : (xs xs' ys : List Word) (w : Word) (text : List ℕ) → xs ≡ w ∷ xs' → text ≡ string_bytes w → IsNext (xs ++ ys) text (xs' ++ ys)
next_front xs xs' ys w text e t = record { word = w; text = sym t; all = ap (λ x. x ++ ys) e }

pub next_args : (xs ys ys' zs : List Word) (w : Word) (text : List ℕ) → xs ≡ [] → ys ≡ w ∷ ys' → text ≡ string_bytes w → IsNext (xs ++ (ys ++ zs)) text (xs ++ (ys' ++ zs))
next_args xs ys ys' zs w text n e t = rw n (record { word = w; text = sym t; all = ap (λ x. x ++ zs) e })

pub next_last : (xs ys zs zs' : List Word) (w : Word) (text : List ℕ) → xs ≡ [] → ys ≡ [] → zs ≡ w ∷ zs' → text ≡ string_bytes w → IsNext (xs ++ (ys ++ zs)) text (xs ++ (ys ++ zs'))
next_last xs ys zs zs' w text n m e t = rw (n, m) (record { word = w; text = sym t; all = e })
