-- Without an identifier directly after `block`, `loop` or `if` no label has one.
use Rattle.std.proofs.Common.{◌≡◌, ℕ, zero, suc, Bool, true, false, List, [], ◌∷◌, ◌++◌, Option, Some, None, take, drop, refl, ap, sym, ◌∙◌}
use Rattle.std.specs.Prelude.{if◌then◌else◌, bytes_eq, codes, is_some}
use Rattle.wat_module_ast.specs.Fields.{label_associations}
use Rattle.wat_module_ast.specs.Grammar.{is_then, label_of, structured}
use Rattle.wat_module_ast.specs.Names.{association, associations, block_labels, inside}
use Rattle.wat_module_parser.specs.Labels.{begins_block, is_identifier, is_labelled}
use Rattle.wat_module_tokens.specs.Terminals.{Terminal, Open, Close, Word, Id, Integer, Float, Text, Other, Label}

abbrev pub Unnamed : List Label → Type 0
Unnamed [] = Unit {0}
Unnamed (None ∷ ls) = Unnamed ls
Unnamed (Some x ∷ ls) = true ≡ false

no_name : (ts : List Terminal) → is_labelled true ts ≡ false → (label_of ts).0 ≡ None
no_name [] e = refl
no_name (Open ∷ ts) e = refl
no_name (Close ∷ ts) e = refl
no_name (Word w ∷ ts) e = refl
no_name (Id x ∷ ts) e = cc
no_name (Integer s n ∷ ts) e = refl
no_name (Float narrow wide ∷ ts) e = refl
no_name (Text v ∷ ts) e = refl
no_name (Other ∷ ts) e = refl

if_is_block : (w : List ℕ) → bytes_eq w (codes "if") ≡ true → is_some (structured w) ≡ true
if_is_block w e = by (bytes_eq w (codes "block")) (bytes_eq w (codes "loop")) (bytes_eq w (codes "if")) e
  where
    by : (a b c : Bool) → c ≡ true → is_some {T = ℕ} (if a then Some 0x02 else if b then Some 0x03 else if c then Some 0x04 else None) ≡ true
    by true b c e = refl
    by false true c e = refl
    by false false true e = refl
    by false false false e = cc

abbrev group : Bool → Bool → List Label → List ℕ → List Terminal → List Label
group b c ls w ts = if b then block_labels ((label_of ts).0 ∷ ls) ts else if c then take 1 ls ++ block_labels (drop 1 ls) ts else block_labels ls (Word w ∷ ts)

abbrev word : Bool → List Label → List Terminal → List Label
word b ls ts = if b then (label_of ts).0 ∷ block_labels ls ts else block_labels ls ts

-- What `unnamed` states of these tokens.
abbrev Holds : List Terminal → Type 0
Holds ts = (p : Bool) (n : ℕ) (ls : List Label) → is_labelled p ts ≡ false → Unnamed ls → associations n (block_labels ls ts) ≡ []

after_then : (w : List ℕ) (ts : List Terminal) (n : ℕ) (ms : List Label) → Holds ts → is_labelled (is_some (structured w)) ts ≡ false → Unnamed ms → associations n (take 1 ms ++ block_labels (drop 1 ms) ts) ≡ []
after_then w ts n [] holds e v = holds (is_some (structured w)) n [] e tt
after_then w ts n (None ∷ ms) holds e v = holds (is_some (structured w)) (suc n) ms e v
after_then w ts n (Some x ∷ ms) holds e v = cc

group_holds : (b c : Bool) (w : List ℕ) (ts : List Terminal) (n : ℕ) (ls : List Label) → Holds ts → associations n (block_labels ls (Word w ∷ ts)) ≡ [] → bytes_eq w (codes "if") ≡ b → is_labelled (is_some (structured w)) ts ≡ false → Unnamed ls → associations n (group b c ls w ts) ≡ []
group_holds true c w ts n ls holds rest k e u = let f : is_labelled true ts ≡ false = ap (λ x. is_labelled x ts) (sym (if_is_block w k)) ∙ e in ap (λ l. associations n (block_labels (l ∷ ls) ts)) (no_name ts f) ∙ holds true n (None ∷ ls) f u
group_holds false true w ts n ls holds rest k e u = after_then w ts n ls holds e u
group_holds false false w ts n ls holds rest k e u = rest

word_holds : (b : Bool) (ts : List Terminal) (n : ℕ) (ls : List Label) → Holds ts → is_labelled b ts ≡ false → Unnamed ls → associations n (word b ls ts) ≡ []
word_holds true ts n ls holds f u = ap (λ l. associations n (l ∷ block_labels ls ts)) (no_name ts f) ∙ holds true (suc n) ls f u
word_holds false ts n ls holds f u = holds false n ls f u

pub unnamed : (p : Bool) (n : ℕ) (ls : List Label) (ts : List Terminal) → is_labelled p ts ≡ false → Unnamed ls → associations n (block_labels ls ts) ≡ []
unfolding block_labels
unnamed p n ls [] e u = refl
unnamed p n ls (Open ∷ []) e u = refl
unnamed p n ls (Open ∷ Word w ∷ ts) e u = group_holds (bytes_eq w (codes "if")) (is_then w) w ts n ls (λ q m ms f v. unnamed q m ms ts f v) (unnamed false n ls (Word w ∷ ts) e u) refl e u
unnamed p n ls (Open ∷ Open ∷ ts) e u = unnamed false n ls (Open ∷ ts) e u
unnamed p n ls (Open ∷ Close ∷ ts) e u = unnamed false n ls (Close ∷ ts) e u
unnamed p n ls (Open ∷ Id x ∷ ts) e u = unnamed false n ls (Id x ∷ ts) e u
unnamed p n ls (Open ∷ Integer s m ∷ ts) e u = unnamed false n ls (Integer s m ∷ ts) e u
unnamed p n ls (Open ∷ Float narrow wide ∷ ts) e u = unnamed false n ls (Float narrow wide ∷ ts) e u
unnamed p n ls (Open ∷ Text v ∷ ts) e u = unnamed false n ls (Text v ∷ ts) e u
unnamed p n ls (Open ∷ Other ∷ ts) e u = unnamed false n ls (Other ∷ ts) e u
unnamed p n ls (Close ∷ ts) e u = unnamed false n ls ts e u
unnamed p n ls (Word w ∷ ts) e u = word_holds (is_some (structured w)) ts n ls (λ q m ms f v. unnamed q m ms ts f v) e u
unnamed true n ls (Id x ∷ ts) e u = cc
unnamed false n ls (Id x ∷ ts) e u = unnamed false n ls ts e u
unnamed p n ls (Integer s m ∷ ts) e u = unnamed false n ls ts e u
unnamed p n ls (Float narrow wide ∷ ts) e u = unnamed false n ls ts e u
unnamed p n ls (Text v ∷ ts) e u = unnamed false n ls ts e u
unnamed p n ls (Other ∷ ts) e u = unnamed false n ls ts e u

pub none_named : (ts : List Terminal) → is_labelled false (inside 0 ts) ≡ false → [] ≡ label_associations ts
none_named ts e = sym (unnamed false 0 [] (inside 0 ts) e tt)

pub starts_so : (ts : List Terminal) → is_labelled false (inside 0 ts) ≡ is_labelled (begins_block ts) (inside 0 ts)
starts_so [] = refl
starts_so (Open ∷ ts) = refl
starts_so (Close ∷ ts) = refl
starts_so (Word w ∷ ts) = refl
starts_so (Id x ∷ ts) = refl
starts_so (Integer s n ∷ ts) = refl
starts_so (Float narrow wide ∷ ts) = refl
starts_so (Text v ∷ ts) = refl
starts_so (Other ∷ ts) = refl

pub follows : (p : Bool) (t : Terminal) (ts us : List Terminal) → is_identifier t ≡ false → is_labelled p (t ∷ ts) ≡ is_labelled (begins_block (t ∷ us)) ts
follows p Open ts us e = refl
follows p Close ts us e = refl
follows p (Word w) ts us e = refl
follows p (Id x) ts us e = cc
follows p (Integer s n) ts us e = refl
follows p (Float narrow wide) ts us e = refl
follows p (Text v) ts us e = refl
follows p Other ts us e = refl

pub passes : (p : Bool) (t : Terminal) (ts us : List Terminal) → is_identifier t ≡ true → p ≡ false → is_labelled p (t ∷ ts) ≡ is_labelled (begins_block (t ∷ us)) ts
passes p Open ts us e f = cc
passes p Close ts us e f = cc
passes p (Word w) ts us e f = cc
passes p (Id x) ts us e f = ap (λ b. if b then true else is_labelled false ts) f
passes p (Integer s n) ts us e f = cc
passes p (Float narrow wide) ts us e f = cc
passes p (Text v) ts us e f = cc
passes p Other ts us e f = cc

pub stands : (p : Bool) (t : Terminal) (ts : List Terminal) → is_identifier t ≡ true → p ≡ true → is_labelled p (t ∷ ts) ≡ true
stands p Open ts e f = cc
stands p Close ts e f = cc
stands p (Word w) ts e f = cc
stands p (Id x) ts e f = ap (λ b. if b then true else is_labelled false ts) f
stands p (Integer s n) ts e f = cc
stands p (Float narrow wide) ts e f = cc
stands p (Text v) ts e f = cc
stands p Other ts e f = cc
