-- The items of parts of instructions.
use Rattle.std.proofs.Common.{◌≡◌, ◌∙◌, ℕ, Bool, true, false, List, [], ◌∷◌, ◌++◌, None, refl, sym, ap, subst}
use Rattle.wat_module_ast.specs.Grammar.{label_of}
use Rattle.wat_module_annotations.specs.declared.reading.Role.{Role}
use Rattle.wat_module_annotations.specs.declared.reading.Role.TheVariants as role
use Rattle.wat_module_annotations.specs.Items as item
use Rattle.wat_module_annotations.specs.Items.{Item, role_of}
use Rattle.wat_module_annotations.specs.Placed as placed
use Rattle.wat_module_annotations.specs.Placed.{InstructionsAre, opens}
use Rattle.wat_module_names_theorems.specs.TokenItems.{Declaring, Next, bare, has_label, items, of_keyword, opening, within}
use Rattle.wat_module_tokens.specs.Terminals.{Terminal, Open, Close, Word, Id, Integer, Text, Float, Other, Label}

-- Instructions, with the names of their labels.
abbrev pub Form : List Item → List Item → Type 0
Form is r = (ls : List Label) × InstructionsAre false is ls r

-- The items of the tokens `ts`, up to the rest `r`, are instructions, also if an identifier is still part of an item before.
abbrev pub Are : List Terminal → List Item → Type 0
Are ts r = (b : Bool) → Form (items (Next b) ts) r

-- The tokens `ts`, up to the rest `us`, can precede instructions.
abbrev pub Fills : List Terminal → List Terminal → Type 0
Fills ts us = (r : List Item) → Are us r → Are ts r

keyword_form : (k : Role) (ts : List Terminal) (r : List Item) → Are ts r → Form (of_keyword k ∷ items (Next (has_label k)) ts) r
keyword_form role.Open ts r h = let f = h false in (f.0, placed.by_token f.1)
keyword_form role.Close ts r h = let f = h false in (f.0, placed.by_token f.1)
keyword_form role.Module ts r h = let f = h false in (f.0, placed.by_token f.1)
keyword_form role.Func ts r h = let f = h false in (f.0, placed.by_token f.1)
keyword_form role.Field ts r h = let f = h false in (f.0, placed.by_token f.1)
keyword_form role.Import ts r h = let f = h false in (f.0, placed.by_token f.1)
keyword_form role.Header ts r h = let f = h false in (f.0, placed.by_token f.1)
keyword_form role.Param ts r h = let f = h false in (f.0, placed.by_token f.1)
keyword_form role.Local ts r h = let f = h false in (f.0, placed.by_token f.1)
keyword_form role.Block ts r h = let f = h true in (None ∷ f.0, placed.by_block f.1)
keyword_form role.If ts r h = let f = h true in (None ∷ f.0, placed.by_block f.1)
keyword_form role.Then ts r h = let f = h false in (f.0, placed.by_token f.1)
keyword_form role.Other ts r h = let f = h false in (f.0, placed.by_token f.1)

pub keyword_are : (w : List ℕ) (ts : List Terminal) (r : List Item) → Are ts r → Are (Word w ∷ ts) r
unfolding items
keyword_are w ts r h b = keyword_form (role_of w) ts r h

pub id_are : (x : List ℕ) (ts : List Terminal) (r : List Item) → Are ts r → Are (Id x ∷ ts) r
unfolding items
id_are x ts r h true = h false
id_are x ts r h false = let f = h false in (f.0, placed.by_token f.1)

pub other_are : (t : Terminal) (ts : List Terminal) (r : List Item) → ((b : Bool) → items (Next b) (t ∷ ts) ≡ item.Other ∷ items (Next false) ts) → Are ts r → Are (t ∷ ts) r
other_are t ts r e h b = let f = h false in (f.0, subst (λ is. InstructionsAre false is f.0 r) (sym (e b)) (placed.by_token f.1))

-- a token that is not a parenthesis
abbrev pub IsWithin : Terminal → Type 0
IsWithin Open = ⊥
IsWithin Close = ⊥
IsWithin t = Unit {0}

pub token_are : (t : Terminal) (ts : List Terminal) (r : List Item) → IsWithin t → Are ts r → Are (t ∷ ts) r
unfolding items
token_are Open ts r o h = absurd o
token_are Close ts r o h = absurd o
token_are (Word w) ts r o h = keyword_are w ts r h
token_are (Id x) ts r o h = id_are x ts r h
token_are (Integer s n) ts r o h = other_are (Integer s n) ts r (λ b. refl) h
token_are (Text v) ts r o h = other_are (Text v) ts r (λ b. refl) h
token_are (Float narrow wide) ts r o h = other_are (Float narrow wide) ts r (λ b. refl) h
token_are Other ts r o h = other_are Other ts r (λ b. refl) h

-- no instruction up to `)`
pub close_are : (ts : List Terminal) → Are (Close ∷ ts) (item.Close ∷ items (Next false) ts)
unfolding items
close_are ts b = ([], placed.by_no_instruction)

-- Groups.

pub group_items : (b : Bool) (w : List ℕ) (k : Role) (ts : List Terminal) → role_of w ≡ k → items (Next b) (Open ∷ Word w ∷ ts) ≡ opening k ++ items (within k) ts
unfolding items
group_items b w k ts e = ap (λ k. opening k ++ items (within k) ts) e

-- the roles of keywords whose groups have instructions inside, or tokens
abbrev pub IsGroup : Role → Type 0
IsGroup role.Func = Unit {0}
IsGroup role.Field = Unit {0}
IsGroup role.Header = Unit {0}
IsGroup role.Other = Unit {0}
IsGroup k = ⊥

-- the role of the keywords of plain instructions
abbrev pub is_other : Role → Bool
is_other role.Other = true
is_other k = false

pub other_role : (k : Role) → is_other k ≡ true → k ≡ role.Other
other_role role.Other e = refl
other_role k e = cc

grouped : (i : Item) (is us r : List Item) → opens false i ≡ true → Form is (item.Close ∷ us) → Form us r → Form (i ∷ is) r
grouped i is us r o f g = (f.0 ++ g.0, placed.by_group o f.1 g.1)

group_form : (k : Role) (ts us : List Terminal) (r : List Item) → IsGroup k → Are ts (item.Close ∷ items (Next false) us) → Are us r → Form (opening k ++ items (within k) ts) r
group_form role.Func ts us r o f g = grouped (item.Field bare) (items (Next true) ts) (items (Next false) us) r refl (f true) (g false)
group_form role.Field ts us r o f g = grouped (item.Field bare) (items (Next true) ts) (items (Next false) us) r refl (f true) (g false)
group_form role.Header ts us r o f g = grouped item.Header (items (Next false) ts) (items (Next false) us) r refl (f false) (g false)
group_form role.Other ts us r o f g = grouped item.Open (items (Next false) ts) (items (Next false) us) r refl (f false) (g false)
group_form k ts us r o f g = absurd o

pub group_are : (w : List ℕ) (k : Role) (ts us : List Terminal) (r : List Item) → role_of w ≡ k → IsGroup k → Fills ts (Close ∷ us) → Are us r → Are (Open ∷ Word w ∷ ts) r
group_are w k ts us r e o f g b = subst (λ is. Form is r) (sym (group_items b w k ts e)) (group_form k ts us r o (f (item.Close ∷ items (Next false) us) (close_are us)) g)

-- Types in a group `(param ..)` or `(result ..)`.

abbrev pub list_role : Bool → Role
list_role true = role.Param
list_role false = role.Header

-- the items of the types `ts` of parameters or locals, up to the rest `us` after their `)`
abbrev pub Declares : List Terminal → List Terminal → Type 0
Declares ts us = (p : Bool) (ns : List Label) → (ms : List Label) × (items (Declaring p ns) ts ≡ item.Variables p ms ∷ items (Next false) us)

pub close_declares : (ts : List Terminal) → Declares (Close ∷ ts) ts
unfolding items
close_declares ts p ns = (ns, refl)

pub type_declares : (w : List ℕ) (ts us : List Terminal) → Declares ts us → Declares (Word w ∷ ts) us
unfolding items
type_declares w ts us h p ns = h p (ns ++ (None ∷ []))

pub list_are : (p : Bool) (w : List ℕ) (ts us : List Terminal) (r : List Item) → role_of w ≡ list_role p → Declares ts us → Fills ts (Close ∷ us) → Are us r → Are (Open ∷ Word w ∷ ts) r
list_are false w ts us r e d f g b = group_are w role.Header ts us r e tt f g b
list_are true w ts us r e d f g b =
    let m = d true [] in let q = g false in (q.0, subst (λ is. InstructionsAre false is q.0 r) (sym (group_items b w role.Param ts e ∙ m.1)) (placed.by_params q.1))

-- Structured instructions.

pub block_are : (w : List ℕ) (ts us : List Terminal) (r : List Item) → role_of w ≡ role.Block → Fills ts (Close ∷ us) → Are us r → Are (Open ∷ Word w ∷ ts) r
block_are w ts us r e f g b =
    let x = f (item.Close ∷ items (Next false) us) (close_are us) true in
    let y = g false in
    subst (λ is. Form is r) (sym (group_items b w role.Block ts e)) (None ∷ (x.0 ++ y.0), placed.by_folded_block x.1 y.1)

then_are : (t : List ℕ) (cs : List Terminal) → role_of t ≡ role.Then → Are (Open ∷ Word t ∷ cs) (item.Then ∷ items (Next false) cs)
then_are t cs e b = ([], subst (λ is. InstructionsAre false is [] (item.Then ∷ items (Next false) cs)) (sym (group_items b t role.Then cs e)) placed.by_no_instruction)

pub if_are : (w t : List ℕ) (ts cs es us : List Terminal) (r : List Item) → role_of w ≡ role.If → role_of t ≡ role.Then → Fills ts (Open ∷ Word t ∷ cs) → Fills cs (Close ∷ es) → Fills es (Close ∷ us) → Are us r → Are (Open ∷ Word w ∷ ts) r
if_are w t ts cs es us r e k condition body other g b =
    let c = condition (item.Then ∷ items (Next false) cs) (then_are t cs k) true in
    let x = body (item.Close ∷ items (Next false) es) (close_are es) false in
    let y = other (item.Close ∷ items (Next false) us) (close_are us) false in
    let z = g false in
    subst (λ is. Form is r) (sym (group_items b w role.If ts e)) (c.0 ++ (None ∷ (x.0 ++ (y.0 ++ z.0))), placed.by_folded_if c.1 x.1 y.1 z.1)

-- an identifier, which may be there
pub label_are : (ts : List Terminal) (r : List Item) → Are (label_of ts).1 r → Are ts r
label_are [] r h = h
label_are (Id x ∷ ts) r h = id_are x ts r h
label_are (Open ∷ ts) r h = h
label_are (Close ∷ ts) r h = h
label_are (Word w ∷ ts) r h = h
label_are (Integer s n ∷ ts) r h = h
label_are (Text v ∷ ts) r h = h
label_are (Float narrow wide ∷ ts) r h = h
label_are (Other ∷ ts) r h = h
