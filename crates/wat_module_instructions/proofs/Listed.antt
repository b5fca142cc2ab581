-- What groups list, token by token.
use Rattle.std.proofs.Common.{◌≡◌, ℕ, Bool, true, false, List, [], ◌∷◌, ◌++◌, Option, Some, None, Result, Ok, Err, refl, sym, ap, subst, ◌∙◌}
use Rattle.std.specs.Prelude.{if◌then◌else◌, bytes_eq}
use Rattle.wat_module_ast.specs.declared.instruction.ValueType.{ValueType}
use Rattle.wat_module_ast.specs.declared.error.ParseFailure.{ParseFailure}
use Rattle.wat_module_ast.specs.declared.error.ParseFailure.TheVariants as refusal
use Rattle.wat_module_ast.specs.Grammar.{Fault, after, before_type, listed}
use Rattle.wat_module_instructions.specs.Parts.{Faults, before_all, fault_of}
use Rattle.wat_module_tokens.specs.Terminals.{Terminal, Open, Close, Word, Id, Integer, Text, Float, Other}

abbrev IsNone : Option (List Terminal) → Type 0
IsNone None = Unit {0}
IsNone (Some us) = ⊥

none_is_not_some : {us : List Terminal} → None ≡ Some us → ⊥
none_is_not_some e = subst IsNone e tt

abbrev or_none : List Terminal → Option (List Terminal) → List Terminal
or_none ts (Some us) = us
or_none ts None = ts

-- `(` and the word: a group
pub opens_group : (word : List ℕ) (ts us : List Terminal) → after word ts ≡ Some us → listed word false ts ≡ listed word true us
unfolding listed
opens_group word (Open ∷ Word w ∷ ts) us e = by (bytes_eq w word) e
  where
    by : (b : Bool) → (if b then Some ts else None) ≡ Some us → (if b then listed word true ts else Ok ([], Open ∷ Word w ∷ ts)) ≡ listed word true us
    by true e = ap (λ x. listed word true (or_none ts x)) e
    by false e = absurd (none_is_not_some e)
opens_group word [] us e = absurd (none_is_not_some e)
opens_group word (Open ∷ []) us e = absurd (none_is_not_some e)
opens_group word (Open ∷ Open ∷ ts) us e = absurd (none_is_not_some e)
opens_group word (Open ∷ Close ∷ ts) us e = absurd (none_is_not_some e)
opens_group word (Open ∷ Id x ∷ ts) us e = absurd (none_is_not_some e)
opens_group word (Open ∷ Integer s n ∷ ts) us e = absurd (none_is_not_some e)
opens_group word (Open ∷ Text v ∷ ts) us e = absurd (none_is_not_some e)
opens_group word (Open ∷ Float narrow wide ∷ ts) us e = absurd (none_is_not_some e)
opens_group word (Open ∷ Other ∷ ts) us e = absurd (none_is_not_some e)
opens_group word (Close ∷ ts) us e = absurd (none_is_not_some e)
opens_group word (Word v ∷ ts) us e = absurd (none_is_not_some e)
opens_group word (Id x ∷ ts) us e = absurd (none_is_not_some e)
opens_group word (Integer s n ∷ ts) us e = absurd (none_is_not_some e)
opens_group word (Text v ∷ ts) us e = absurd (none_is_not_some e)
opens_group word (Float narrow wide ∷ ts) us e = absurd (none_is_not_some e)
opens_group word (Other ∷ ts) us e = absurd (none_is_not_some e)

-- anything else: none
pub no_group : (word : List ℕ) (ts : List Terminal) → after word ts ≡ None → listed word false ts ≡ Ok ([], ts)
unfolding listed
no_group word (Open ∷ Word w ∷ ts) e = by (bytes_eq w word) e
  where
    by : (b : Bool) → (if b then Some ts else None) ≡ None → (if b then listed word true ts else Ok ([], Open ∷ Word w ∷ ts)) ≡ Ok ([], Open ∷ Word w ∷ ts)
    by true e = absurd (none_is_not_some (sym e))
    by false e = refl
no_group word [] e = refl
no_group word (Open ∷ []) e = refl
no_group word (Open ∷ Open ∷ ts) e = refl
no_group word (Open ∷ Close ∷ ts) e = refl
no_group word (Open ∷ Id x ∷ ts) e = refl
no_group word (Open ∷ Integer s n ∷ ts) e = refl
no_group word (Open ∷ Text v ∷ ts) e = refl
no_group word (Open ∷ Float narrow wide ∷ ts) e = refl
no_group word (Open ∷ Other ∷ ts) e = refl
no_group word (Close ∷ ts) e = refl
no_group word (Word v ∷ ts) e = refl
no_group word (Id x ∷ ts) e = refl
no_group word (Integer s n ∷ ts) e = refl
no_group word (Text v ∷ ts) e = refl
no_group word (Float narrow wide ∷ ts) e = refl
no_group word (Other ∷ ts) e = refl

pub before_more : (us vs : List ValueType) (q : Result (List ValueType × List Terminal) Fault) → before_all us (before_all vs q) ≡ before_all (us ++ vs) q
before_more [] vs q = refl
before_more (u ∷ us) vs q = ap (before_type u) (before_more us vs q)

pub before_end : (us : List ValueType) (ts : List Terminal) → before_all us (Ok ([], ts)) ≡ Ok (us, ts)
before_end [] ts = refl
before_end (u ∷ us) ts = ap (before_type u) (before_end us ts)

pub before_fault : (us : List ValueType) (f : Fault) → before_all us (Err f) ≡ Err f
before_fault [] f = refl
before_fault (u ∷ us) f = ap (before_type u) (before_fault us f)

-- The loop over tokens: what all list is what was found before what those that are left list.

pub listed_on : (all left next : Result (List ValueType × List Terminal) Fault) (found more after : List ValueType) → all ≡ before_all found left → left ≡ before_all more next → after ≡ found ++ more → all ≡ before_all after next
listed_on all left next found more after h k f = h ∙ ap (before_all found) k ∙ before_more found more next ∙ ap (λ x. before_all x next) (sym f)

pub listed_end : (all left : Result (List ValueType × List Terminal) Fault) (found after : List ValueType) (ts : List Terminal) → all ≡ before_all found left → left ≡ Ok ([], ts) → after ≡ found → all ≡ Ok (after, ts)
listed_end all left found after ts h k f = h ∙ ap (before_all found) k ∙ before_end found ts ∙ ap (λ x. Ok (x, ts)) (sym f)

pub listed_fault : (all left : Result (List ValueType × List Terminal) Fault) (found : List ValueType) (e : ParseFailure) → all ≡ before_all found left → Faults left e → Faults all e
listed_fault all left found (refusal.Text f) h k = h ∙ ap (before_all found) k ∙ before_fault found (fault_of f)
listed_fault all left found (refusal.Memory a) h k = tt
