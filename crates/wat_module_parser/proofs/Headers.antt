-- Parser and grammar agree on what precedes the instructions of a function; no rule consumes tokens of the next one.
use Rattle.std.proofs.Common.{◌≡◌, ℕ, Bool, true, false, List, ◌∷◌, Some, None, Ok, Err, refl, sym, ap, subst, ◌∙◌}
use Rattle.std.specs.Prelude.{if◌then◌else◌, bytes_eq, codes}
use Rattle.wat_module_ast.specs.declared.error.Expected.TheVariants as expected
use Rattle.wat_module_ast.specs.declared.error.FaultKind.TheVariants.{UnknownWord}
use Rattle.wat_module_ast.specs.declared.instruction.Instruction.{Instruction}
use Rattle.wat_module_ast.specs.Grammar.{Context, Fault, Instructions, plain, structured}
use Rattle.wat_module_ast.specs.Grammar as grammar
use Rattle.wat_module_ast.specs.Table.{mnemonics, low, high, prefixed, low_vectors, high_vectors}
use Rattle.wat_module_tokens.specs.Terminals.{Terminal, Close, Word, Id, Label}
use Rattle.wat_module_ast.specs.Fields.{Many, by_none, by_more, Group, by_named, by_listed, Variable}
use Rattle.wat_module_parser.specs.Reading.{Read, and_then, after, begun, group, group_item, params, results}
use Rattle.wat_module_parser.proofs.Items.{groups_read, word_is}
use Rattle.wat_module_parser.proofs.Manies.{Gives, and_then_inv, all_sound, all_complete}

-- no group of this word begins here
abbrev pub Ends : List ℕ → List Terminal → Type 0
Ends v ts = after v ts ≡ None

-- The keyword is not an instruction.
pub record IsNoInstruction (v : List ℕ) : Type 0 where
  pub plain_not : (context : Context) (ls : List Label) (ts : List Terminal) → plain context ls (Word v ∷ ts) ≡ Err (UnknownWord expected.Instruction, Word v ∷ ts)
  pub structured_not : structured v ≡ None

pub export_is_none : IsNoInstruction (codes "export")
unfolding plain mnemonics low high prefixed low_vectors high_vectors
export_is_none = record { plain_not = λ context ls ts. refl; structured_not = refl }

pub param_is_none : IsNoInstruction (codes "param")
unfolding plain mnemonics low high prefixed low_vectors high_vectors
param_is_none = record { plain_not = λ context ls ts. refl; structured_not = refl }

pub result_is_none : IsNoInstruction (codes "result")
unfolding plain mnemonics low high prefixed low_vectors high_vectors
result_is_none = record { plain_not = λ context ls ts. refl; structured_not = refl }

pub local_is_none : IsNoInstruction (codes "local")
unfolding plain mnemonics low high prefixed low_vectors high_vectors
local_is_none = record { plain_not = λ context ls ts. refl; structured_not = refl }

pub not_found : (v w : List ℕ) (ts : List Terminal) (b : Bool) → bytes_eq w v ≡ b → b ≡ false → (if b then Some ts else None) ≡ None
not_found v w ts true e f = cc
not_found v w ts false e f = refl

plain_differs : (v : List ℕ) → IsNoInstruction v → (context : Context) (ls : List Label) (w : List ℕ) (ts : List Terminal) (x : Instruction × List Terminal) → plain context ls (Word w ∷ ts) ≡ Ok x → (b : Bool) → bytes_eq w v ≡ b → b ≡ false
plain_differs v k context ls w ts x e true q =
    let f : plain context ls (Word w ∷ ts) ≡ Err (UnknownWord expected.Instruction, Word w ∷ ts) = subst (λ u. plain context ls (Word u ∷ ts) ≡ Err (UnknownWord expected.Instruction, Word u ∷ ts)) (sym (word_is w v q)) (k.plain_not context ls ts) in cc
plain_differs v k context ls w ts x e false q = refl

structured_differs : (v : List ℕ) → IsNoInstruction v → (w : List ℕ) (o : ℕ) → structured w ≡ Some o → (b : Bool) → bytes_eq w v ≡ b → b ≡ false
structured_differs v k w o e true q = let f : structured w ≡ None = subst (λ u. structured u ≡ None) (sym (word_is w v q)) k.structured_not in cc
structured_differs v k w o e false q = refl

-- instructions, and then `)`
pub ends_body : (v : List ℕ) → IsNoInstruction v → (context : Context) (ls : List Label) (ts : List Terminal) (is : List Instruction) (us r : List Terminal) → us ≡ Close ∷ r → Instructions context ls false ts is us → Ends v ts
ends_body v k context ls _ _ us r e grammar.by_none = subst (λ x. Ends v x) (sym e) refl
ends_body v k context _ _ _ us r e (grammar.by_plain s h more) = refl
ends_body v k context _ _ _ us r e (grammar.by_block s n h g l more) = refl
ends_body v k context _ _ _ us r e (grammar.by_if_else s i n h g l m f q more) = refl
ends_body v k context _ _ _ us r e (grammar.by_folded {ls = ls} {w = w} {ts = ts} {us = xs} {i = i} s h inner more) = not_found v w ts (bytes_eq w v) refl (plain_differs v k context ls w ts (i, xs) h (bytes_eq w v) refl)
ends_body v k context _ _ _ us r e (grammar.by_folded_block {w = w} {o = o} {ts = ts} s i n inner more) = not_found v w ts (bytes_eq w v) refl (structured_differs v k w o s (bytes_eq w v) refl)
ends_body v k context _ _ _ us r e (grammar.by_folded_if {w = w} {o = o} {ts = ts} s i n inner q g more) = not_found v w ts (bytes_eq w v) refl (structured_differs v k w o s (bytes_eq w v) refl)
ends_body v k context _ _ _ us r e (grammar.by_folded_if_else {w = w} {o = o} {ts = ts} s i n inner q g f m more) = not_found v w ts (bytes_eq w v) refl (structured_differs v k w o s (bytes_eq w v) refl)

pub other_word : (v word w : List ℕ) (ts : List Terminal) → bytes_eq word v ≡ false → w ≡ word → (if bytes_eq w v then Some ts else None) ≡ None
other_word v word w ts d e = ap (λ x. if bytes_eq x v then Some ts else None) e ∙ ap (λ (b : Bool). if b then Some ts else None) d

-- groups of another word
pub ends_groups : (v word : List ℕ) (may : Bool) → bytes_eq word v ≡ false → (ts : List Terminal) (vs : List Variable) (us : List Terminal) → Many (Group word may) ts vs us → Ends v us → Ends v ts
ends_groups v word may d _ _ us by_none h = h
ends_groups v word may d _ _ us (by_more (by_named {ts = ts} {v = w} {x = x} {w = t} m e type) rest) h = other_word v word w (Id x ∷ Word t ∷ Close ∷ ts) d e
ends_groups v word may d _ _ us (by_more (by_listed {ts = ts} {v = w} e m) rest) h = other_word v word w ts d e

pub item_ends : {V : Type 0} (rest : List Terminal → Read (List V)) (v : List ℕ) (ts : List Terminal) → Ends v ts → begun rest (after v ts) ≡ None
item_ends {V} rest v ts e = ap (λ o. begun rest o) e

-- Type uses.

pub record Listed (ps rs : List Variable) (ts ds : List Terminal) : Type 0 where
  pub bs : List Terminal
  pub params : Many (Group (codes "param") true) ts ps bs
  pub results : Many (Group (codes "result") false) bs rs ds

pub lists_sound : {V : Type 0} (next : List Variable → List Terminal → List Variable → List Terminal → Read V) (ts : List Terminal) (v : V) (r : List Terminal) → Gives (and_then (params ts) (λ ps us. and_then (results us) (λ rs vs. next ps us rs vs))) v r
    → (ps : List Variable) × (rs : List Variable) × (ds : List Terminal) × (k : Listed ps rs ts ds) × Gives (next ps k.bs rs ds) v r
lists_sound {V} next ts v r g =
    let (ps, bs, e1, g1) = and_then_inv (params ts) (λ ps us. and_then (results us) (λ rs vs. next ps us rs vs)) v r g in
    let (rs, ds, e2, g2) = and_then_inv (results bs) (λ rs vs. next ps bs rs vs) v r g1 in (
      ps,
      rs,
      ds,
      record {
        bs = bs;
        params = (all_sound (group_item (codes "param") true) (Group (codes "param") true) (groups_read (codes "param") true) ps ts bs e1).0;
        results = (all_sound (group_item (codes "result") false) (Group (codes "result") false) (groups_read (codes "result") false) rs bs ds e2).0;
      },
      g2,
    )

-- what comes next is neither a parameter nor a result
pub record NoLists (ds : List Terminal) : Type 0 where
  pub no_param : Ends (codes "param") ds
  pub no_result : Ends (codes "result") ds

pub lists_complete : {V : Type 0} (next : List Variable → List Terminal → List Variable → List Terminal → Read V) (ts : List Terminal) (ps rs : List Variable) (ds : List Terminal) (k : Listed ps rs ts ds) → NoLists ds → and_then (params ts) (λ ps us. and_then (results us) (λ rs vs. next ps us rs vs)) ≡ next ps k.bs rs ds
unfolding group_item
lists_complete {V} next ts ps rs ds k n =
    let result_groups = all_complete (group_item (codes "result") false) (Group (codes "result") false) (groups_read (codes "result") false) rs k.bs ds k.results (item_ends (group false) (codes "result") ds n.no_result) in
    let no_param = ends_groups (codes "param") (codes "result") false refl k.bs rs ds k.results n.no_param in
    let param_groups = all_complete (group_item (codes "param") true) (Group (codes "param") true) (groups_read (codes "param") true) ps ts k.bs k.params (item_ends (group true) (codes "param") k.bs no_param) in
    ap (λ q. and_then q (λ ps us. and_then (results us) (λ rs vs. next ps us rs vs))) param_groups ∙ ap (λ q. and_then q (λ rs vs. next ps k.bs rs vs)) result_groups

-- lists of other words
pub ends_lists : (v : List ℕ) → bytes_eq (codes "param") v ≡ false → bytes_eq (codes "result") v ≡ false → (ps rs : List Variable) (ts ds : List Terminal) → Listed ps rs ts ds → Ends v ds → Ends v ts
ends_lists v a b ps rs ts ds k h = ends_groups v (codes "param") true a ts ps k.bs k.params (ends_groups v (codes "result") false b k.bs rs ds k.results h)

pub type_is_none : IsNoInstruction (codes "type")
unfolding plain mnemonics low high prefixed low_vectors high_vectors
type_is_none = record { plain_not = λ env ls ts. refl; structured_not = refl }

pub import_is_none : IsNoInstruction (codes "import")
unfolding plain mnemonics low high prefixed low_vectors high_vectors
import_is_none = record { plain_not = λ env ls ts. refl; structured_not = refl }
