-- The items of the instructions that the grammar derives are instructions.
use Rattle.std.proofs.Common.{◌≡◌, Bool, true, false, List, [], ◌∷◌, None, Ok, subst}
use Rattle.wat_module_ast.specs.declared.instruction.Instruction.{Instruction}
use Rattle.wat_module_ast.specs.Grammar as grammar
use Rattle.wat_module_ast.specs.Grammar.{Context, Instructions, end_label, label_of}
use Rattle.wat_module_annotations.specs.declared.reading.Role.TheVariants as role
use Rattle.wat_module_annotations.specs.Items as item
use Rattle.wat_module_annotations.specs.Items.{Item, role_of}
use Rattle.wat_module_names_theorems.specs.TokenForms.{BodiesHaveForm}
use Rattle.wat_module_names_theorems.specs.TokenItems.{Next, items}
use Rattle.wat_module_names_theorems.proofs.Filling.{Are, Fills, block_are, close_are, group_are, if_are, keyword_are, label_are, other_role}
use Rattle.wat_module_names_theorems.proofs.Keywords.{block_role, else_role, if_role, then_role}
use Rattle.wat_module_names_theorems.proofs.Opaque.{block_passes, end_rest, is_plain}
use Rattle.wat_module_tokens.specs.Terminals.{Terminal, Open, Close, Word, Label}

-- after `end` or `else`, its label
end_are : (l : Label) (ts us : List Terminal) (r : List Item) → end_label l ts ≡ Ok us → Are us r → Are ts r
end_are l ts us r e h = label_are ts r (subst (λ x. Are x r) (end_rest l ts us e) h)

pub instructions_fill : (context : Context) (ls : List Label) (folded : Bool) (ts : List Terminal) (is : List Instruction) (r : List Terminal) → Instructions context ls folded ts is r → Fills ts r
instructions_fill context _ _ _ _ r grammar.by_none q g = g
instructions_fill context _ _ _ _ r (grammar.by_plain {ls = ls} {w = w} {ts = ts} {us = us} {i = i} {is = is} s h more) q g =
    let p = is_plain context ls w ts i us h in keyword_are w ts q (p.immediate.fills q (instructions_fill context ls false us is r more q g))
instructions_fill context _ _ _ _ r (grammar.by_block {ls = ls} {w = w} {v = v} {o = o} {a = a} {ts = ts} {bs = bs} {us = us} {vs = vs} {body = body} {is = is} s n h e l more) q g =
    let after = end_are (label_of ts).0 us vs q l (instructions_fill context ls false vs is r more q g) in
    let inner = instructions_fill context ((label_of ts).0 ∷ ls) false bs body (Word v ∷ us) h q (keyword_are v us q after) in
    keyword_are w ts q (label_are ts q ((block_passes context.types (label_of ts).1 bs a n).fills q inner))
instructions_fill context _ _ _ _ r (grammar.by_if_else {ls = ls} {w = w} {v = v} {x = x} {o = o} {a = a} {ts = ts} {bs = bs} {us = us} {xs = xs} {ys = ys} {vs = vs} {body = body} {other = other} {is = is} s c n h e l k f m more) q g =
    let after = end_are (label_of ts).0 ys vs q m (instructions_fill context ls false vs is r more q g) in
    let second = instructions_fill context ((label_of ts).0 ∷ ls) false xs other (Word x ∷ ys) k q (keyword_are x ys q after) in
    let first = instructions_fill context ((label_of ts).0 ∷ ls) false bs body (Word v ∷ us) h q (keyword_are v us q (end_are (label_of ts).0 us xs q l second)) in
    keyword_are w ts q (label_are ts q ((block_passes context.types (label_of ts).1 bs a n).fills q first))
instructions_fill context _ _ _ _ r (grammar.by_folded {ls = ls} {folded = folded} {w = w} {ts = ts} {us = us} {vs = vs} {i = i} {operands = operands} {is = is} s h inner more) q g =
    let p = is_plain context ls w ts i us h in
    group_are w role.Other ts vs q (other_role (role_of w) p.role) tt (λ r k. p.immediate.fills r (instructions_fill context ls true us operands (Close ∷ vs) inner r k)) (instructions_fill context ls folded vs is r more q g)
instructions_fill context _ _ _ _ r (grammar.by_folded_block {ls = ls} {folded = folded} {w = w} {o = o} {a = a} {ts = ts} {bs = bs} {vs = vs} {body = body} {is = is} s c n inner more) q g =
    block_are w ts vs q (block_role w o s c) (λ r k. label_are ts r ((block_passes context.types (label_of ts).1 bs a n).fills r (instructions_fill context ((label_of ts).0 ∷ ls) false bs body (Close ∷ vs) inner r k))) (instructions_fill context ls folded vs is r more q g)
instructions_fill context _ _ _ _ r (grammar.by_folded_if {ls = ls} {folded = folded} {w = w} {t = t} {o = o} {a = a} {ts = ts} {bs = bs} {cs = cs} {vs = vs} {condition = condition} {body = body} {is = is} s c n inner k m more) q g =
    if_are w t ts cs (Close ∷ vs) vs q (if_role w o s c) (then_role t k) (λ r h. label_are ts r ((block_passes context.types (label_of ts).1 bs a n).fills r (instructions_fill context ls true bs condition (Open ∷ Word t ∷ cs) inner r h)))
    (instructions_fill context ((label_of ts).0 ∷ ls) false cs body (Close ∷ Close ∷ vs) m) (λ r h. h) (instructions_fill context ls folded vs is r more q g)
instructions_fill context _ _ _ _ r (grammar.by_folded_if_else {ls = ls} {folded = folded} {w = w} {t = t} {e = e} {o = o} {a = a} {ts = ts} {bs = bs} {cs = cs} {es = es} {vs = vs} {condition = condition} {body = body} {other = other} {is = is} s c n inner k m f d more) q g =
    if_are w t ts cs (Open ∷ Word e ∷ es) vs q (if_role w o s c) (then_role t k) (λ r h. label_are ts r ((block_passes context.types (label_of ts).1 bs a n).fills r (instructions_fill context ls true bs condition (Open ∷ Word t ∷ cs) inner r h)))
    (instructions_fill context ((label_of ts).0 ∷ ls) false cs body (Close ∷ Open ∷ Word e ∷ es) m)
    (λ r h. group_are e role.Other es (Close ∷ vs) r (else_role e f) tt (instructions_fill context ((label_of ts).0 ∷ ls) false es other (Close ∷ Close ∷ vs) d) h)
    (instructions_fill context ls folded vs is r more q g)

pub bodies_have_form : BodiesHaveForm
bodies_have_form context ts is r h = instructions_fill context (None ∷ []) false ts is (Close ∷ r) h (item.Close ∷ items (Next false) r) (close_are r) false
