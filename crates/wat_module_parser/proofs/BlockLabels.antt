-- The labels of instructions, token by token.
use Rattle.std.proofs.Common.{◌≡◌, ℕ, zero, suc, Bool, true, false, List, [], ◌∷◌, ◌++◌, Option, Some, None, length, map, take, drop, refl, ap, sym, append-nil, arith, ◌∙◌}
use Rattle.std.specs.Prelude.{if◌then◌else◌, bytes_eq, codes, is_some}
use Rattle.wat_module_ast.specs.Grammar.{is_then, label_of, structured}
use Rattle.wat_module_ast.specs.Names.{NameAssociation, block_labels, inside}
use Rattle.wat_module_ast.specs.Views.{association_of}
use Rattle.wat_module_parser.specs.declared.labels.FoundLabels.{FoundLabels}
use Rattle.wat_module_parser.specs.Labels.{begins_word, found}
use Rattle.wat_module_tokens.specs.Terminals.{Terminal, Open, Close, Word, Id, Integer, Float, Text, Other, Label}

-- the label after a keyword is in the same group
label_inside : (d : ℕ) (ts : List Terminal) → (label_of (inside d ts)).0 ≡ (label_of ts).0
label_inside d [] = refl
label_inside d (Open ∷ ts) = refl
label_inside zero (Close ∷ ts) = refl
label_inside (suc d) (Close ∷ ts) = refl
label_inside d (Word w ∷ ts) = refl
label_inside d (Id x ∷ ts) = refl
label_inside d (Integer s n ∷ ts) = refl
label_inside d (Float narrow wide ∷ ts) = refl
label_inside d (Text v ∷ ts) = refl
label_inside d (Other ∷ ts) = refl

skips_label : (ls : List Label) (d : ℕ) (ts : List Terminal) → block_labels ls (inside d ts) ≡ block_labels ls (inside d (label_of ts).1)
unfolding block_labels
skips_label ls d [] = refl
skips_label ls d (Open ∷ ts) = refl
skips_label ls d (Close ∷ ts) = refl
skips_label ls d (Word w ∷ ts) = refl
skips_label ls d (Id x ∷ ts) = refl
skips_label ls d (Integer s n ∷ ts) = refl
skips_label ls d (Float narrow wide ∷ ts) = refl
skips_label ls d (Text v ∷ ts) = refl
skips_label ls d (Other ∷ ts) = refl

pub block_word : (ls : List Label) (d : ℕ) (w : List ℕ) (o : ℕ) (ts us : List Terminal) (l : Label) → structured w ≡ Some o → l ≡ (label_of ts).0 → us ≡ (label_of ts).1 → block_labels ls (Word w ∷ inside d ts) ≡ l ∷ block_labels ls (inside d us)
unfolding block_labels
block_word ls d w o ts us l s k e =
    ap (λ (x : Option ℕ). if is_some x then (label_of (inside d ts)).0 ∷ block_labels ls (inside d ts) else block_labels ls (inside d ts)) s
    ∙ ap (λ x. x ∷ block_labels ls (inside d ts)) (label_inside d ts ∙ sym k)
    ∙ ap (λ x. l ∷ x) (skips_label ls d ts ∙ ap (λ x. block_labels ls (inside d x)) (sym e))

pub other_word : (ls : List Label) (d : ℕ) (w : List ℕ) (ts : List Terminal) → structured w ≡ None → block_labels ls (Word w ∷ inside d ts) ≡ block_labels ls (inside d ts)
unfolding block_labels
other_word ls d w ts s = ap (λ (x : Option ℕ). if is_some x then (label_of (inside d ts)).0 ∷ block_labels ls (inside d ts) else block_labels ls (inside d ts)) s

abbrev group : Bool → Bool → List Label → List ℕ → List Terminal → List Label
group b c ls w ts = if b then block_labels ((label_of ts).0 ∷ ls) ts else if c then take 1 ls ++ block_labels (drop 1 ls) ts else block_labels ls (Word w ∷ ts)

group_is : (ls : List Label) (w : List ℕ) (ts : List Terminal) → block_labels ls (Open ∷ Word w ∷ ts) ≡ group (bytes_eq w (codes "if")) (is_then w) ls w ts
unfolding block_labels
group_is ls w ts = refl

pub folded_if : (ls : List Label) (d : ℕ) (w : List ℕ) (ts us : List Terminal) (l : Label) → bytes_eq w (codes "if") ≡ true → l ≡ (label_of ts).0 → us ≡ (label_of ts).1 → block_labels ls (Open ∷ Word w ∷ inside d ts) ≡ block_labels (l ∷ ls) (inside d us)
unfolding block_labels
folded_if ls d w ts us l b k e =
    group_is ls w (inside d ts) ∙ ap (λ x. group x (is_then w) ls w (inside d ts)) b
    ∙ ap (λ x. block_labels (x ∷ ls) (inside d ts)) (label_inside d ts ∙ sym k)
    ∙ (skips_label (l ∷ ls) d ts ∙ ap (λ x. block_labels (l ∷ ls) (inside d x)) (sym e))

pub folded_then : (ls : List Label) (d : ℕ) (w : List ℕ) (ts : List Terminal) → bytes_eq w (codes "if") ≡ false → is_then w ≡ true → block_labels ls (Open ∷ Word w ∷ inside d ts) ≡ take 1 ls ++ block_labels (drop 1 ls) (inside d ts)
unfolding block_labels
folded_then ls d w ts b c = group_is ls w (inside d ts) ∙ ap (λ x. group x (is_then w) ls w (inside d ts)) b ∙ ap (λ x. group false x ls w (inside d ts)) c

pub folded_other : (ls : List Label) (d : ℕ) (w : List ℕ) (ts : List Terminal) → bytes_eq w (codes "if") ≡ false → is_then w ≡ false → block_labels ls (Open ∷ Word w ∷ inside d ts) ≡ block_labels ls (Word w ∷ inside d ts)
unfolding block_labels
folded_other ls d w ts b c = group_is ls w (inside d ts) ∙ ap (λ x. group x (is_then w) ls w (inside d ts)) b ∙ ap (λ x. group false x ls w (inside d ts)) c

pub no_word : (ls : List Label) (d : ℕ) (ts : List Terminal) → begins_word ts ≡ false → block_labels ls (Open ∷ inside d ts) ≡ block_labels ls (inside d ts)
unfolding block_labels
no_word ls d [] e = refl
no_word ls d (Open ∷ ts) e = refl
no_word ls zero (Close ∷ ts) e = refl
no_word ls (suc d) (Close ∷ ts) e = refl
no_word ls d (Word w ∷ ts) e = cc
no_word ls d (Id x ∷ ts) e = refl
no_word ls d (Integer s n ∷ ts) e = refl
no_word ls d (Float narrow wide ∷ ts) e = refl
no_word ls d (Text v ∷ ts) e = refl
no_word ls d (Other ∷ ts) e = refl

pub at_close : (ls : List Label) (d k : ℕ) (ts : List Terminal) → d ≡ suc k → block_labels ls (inside d (Close ∷ ts)) ≡ block_labels ls (inside k ts)
unfolding block_labels
at_close ls d k ts e = ap (λ n. block_labels ls (inside n (Close ∷ ts))) e

pub names_are : (labels : FoundLabels) → map association_of labels.names.items ≡ found labels []
names_are labels = sym (append-nil (map association_of labels.names.items))

pub at_end : (labels : FoundLabels) (ls : List Label) (d : ℕ) (ts : List Terminal) → length ts ≡ 0 → map association_of labels.names.items ≡ found labels (block_labels ls (inside d ts))
unfolding block_labels
at_end labels ls d [] e = names_are labels
at_end labels ls d (t ∷ ts) e = absurd (omega (arith, e))
