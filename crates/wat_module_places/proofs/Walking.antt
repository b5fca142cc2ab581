-- The code finds the positions of the instructions that the grammar derives.
use Rattle.std.proofs.Common.{◌≡◌, ◌∙◌, ℕ, suc, Bool, true, false, List, [], ◌∷◌, ◌++◌, map, Some, refl, ap}
use Rattle.wat_module_ast.specs.declared.instruction.Instruction.{Instruction}
use Rattle.wat_module_ast.specs.Grammar as grammar
use Rattle.wat_module_ast.specs.Grammar.{Context, Instructions, end, instruction, is_else, is_end, is_if, is_then, label_of, otherwise, structured}
use Rattle.wat_module_places.specs.declared.keywords.Keyword.{Keyword}
use Rattle.wat_module_places.specs.declared.keywords.Keyword.TheVariants as keyword
use Rattle.wat_module_places.specs.Law.{InstructionsArePlaced, WalkIsGrammar, instruction_of, place_of}
use Rattle.wat_module_places.specs.Places.{Placed, at, placed}
use Rattle.wat_module_places.specs.Walk.{Condition, Ended, Group, Operands, Unplaced, block_kind, kind, opened, walk, worded}
use Rattle.wat_module_places.proofs.Passing.{end_passes, head_passes, is_plain}
use Rattle.wat_module_places.proofs.Words.{block_word, else_word, end_word, then_word}
use Rattle.wat_module_tokens.specs.Terminals.{Terminal, Open, Close, Word, Label, past}

-- One token.

word_step : (k : Keyword) (w : List ℕ) (ts : List Terminal) (gs : List Group) → kind w ≡ k → walk gs (Word w ∷ ts) ≡ worded k (Word w ∷ ts) ++ walk gs ts
unfolding walk
word_step k w ts gs e = ap (λ k. worded k (Word w ∷ ts) ++ walk gs ts) e

open_step : (k : Keyword) (w : List ℕ) (ts : List Terminal) (gs : List Group) → kind w ≡ k → walk gs (Open ∷ Word w ∷ ts) ≡ (opened k (Word w ∷ ts) gs).0 ++ walk (opened k (Word w ∷ ts) gs).1 ts
unfolding walk
open_step k w ts gs e = ap (λ k. (opened k (Word w ∷ ts) gs).0 ++ walk (opened k (Word w ∷ ts) gs).1 ts) e

worded_block : (b : Bool) (p : List Terminal) → worded (block_kind b) p ≡ p ∷ []
worded_block true p = refl
worded_block false p = refl

block_step : (w : List ℕ) (o : ℕ) (ts : List Terminal) (gs : List Group) → structured w ≡ Some o → walk gs (Word w ∷ ts) ≡ (Word w ∷ ts) ∷ walk gs ts
block_step w o ts gs e = word_step (block_kind (is_if o)) w ts gs (block_word w o e) ∙ ap (λ ps. ps ++ walk gs ts) (worded_block (is_if o) (Word w ∷ ts))

end_step : (w : List ℕ) (ts : List Terminal) (gs : List Group) → is_end w ≡ true → walk gs (Word w ∷ ts) ≡ (Word w ∷ ts) ∷ walk gs ts
end_step w ts gs e = word_step keyword.End w ts gs (end_word w e)

else_step : (w : List ℕ) (ts : List Terminal) (gs : List Group) → is_else w ≡ true → walk gs (Word w ∷ ts) ≡ (Word w ∷ ts) ∷ walk gs ts
else_step w ts gs e = word_step keyword.Else w ts gs (else_word w e)

folded_block_step : (w : List ℕ) (o : ℕ) (ts : List Terminal) (gs : List Group) → structured w ≡ Some o → is_if o ≡ false → walk gs (Open ∷ Word w ∷ ts) ≡ (Word w ∷ ts) ∷ walk (Ended ∷ gs) ts
folded_block_step w o ts gs e c = open_step keyword.Block w ts gs (block_word w o e ∙ ap block_kind c)

folded_if_step : (w : List ℕ) (o : ℕ) (ts : List Terminal) (gs : List Group) → structured w ≡ Some o → is_if o ≡ true → walk gs (Open ∷ Word w ∷ ts) ≡ walk (Condition (Word w ∷ ts) ∷ gs) ts
folded_if_step w o ts gs e c = open_step keyword.If w ts gs (block_word w o e ∙ ap block_kind c)

then_step : (w : List ℕ) (p ts : List Terminal) (gs : List Group) → is_then w ≡ true → walk (Condition p ∷ gs) (Open ∷ Word w ∷ ts) ≡ p ∷ walk (Unplaced ∷ Ended ∷ gs) ts
then_step w p ts gs e = open_step keyword.Then w ts (Condition p ∷ gs) (then_word w e)

folded_else_step : (w : List ℕ) (ts : List Terminal) (gs : List Group) → is_else w ≡ true → walk (Unplaced ∷ gs) (Close ∷ Open ∷ Word w ∷ ts) ≡ (Word w ∷ ts) ∷ walk (Unplaced ∷ gs) ts
unfolding walk
folded_else_step w ts gs e = open_step keyword.Else w ts gs (else_word w e)

operands_close : (p ts : List Terminal) (gs : List Group) → walk (Operands p ∷ gs) (Close ∷ ts) ≡ p ∷ walk gs ts
unfolding walk
operands_close p ts gs = refl

ended_close : (ts : List Terminal) (gs : List Group) → walk (Ended ∷ gs) (Close ∷ ts) ≡ (Close ∷ ts) ∷ walk gs ts
unfolding walk
ended_close ts gs = refl

twice_close : (ts : List Terminal) (gs : List Group) → walk (Unplaced ∷ Ended ∷ gs) (Close ∷ Close ∷ ts) ≡ (Close ∷ ts) ∷ walk gs ts
unfolding walk
twice_close ts gs = refl

-- Lists.

-- the positions of some instructions, of one, and of others
joined : (xs : List Placed) (y : Placed) (ys : List Placed) (zs : List (List Terminal)) → map place_of xs ++ (y.place ∷ (map place_of ys ++ zs)) ≡ map place_of (xs ++ (y ∷ ys)) ++ zs
joined [] y ys zs = refl
joined (x ∷ xs) y ys zs = ap (λ ps. x.place ∷ ps) (joined xs y ys zs)

pub walk_is : WalkIsGrammar
unfolding placed
walk_is context _ _ _ _ r grammar.by_none gs = refl
walk_is context _ _ _ _ r (grammar.by_plain {ls = ls} {w = w} {ts = ts} {us = us} {i = i} {is = is} s h more) gs =
    let p = is_plain context ls w ts i us h in
    word_step keyword.Plain w ts gs p.word ∙ ap (λ ps. (Word w ∷ ts) ∷ ps) (p.immediate.same gs ∙ walk_is context ls false us is r more gs)
walk_is context _ _ _ _ r (grammar.by_block {ls = ls} {w = w} {v = v} {o = o} {a = a} {ts = ts} {bs = bs} {us = us} {vs = vs} {body = body} {is = is} s n h e l more) gs =
    let tail = end_step v us gs e ∙ ap (λ ps. (Word v ∷ us) ∷ ps) ((end_passes (label_of ts).0 us vs l).same gs ∙ walk_is context ls false vs is r more gs) in
    block_step w o ts gs s
    ∙ ap (λ ps. (Word w ∷ ts) ∷ ps) ((head_passes context.types ts bs a n).same gs ∙ walk_is context ((label_of ts).0 ∷ ls) false bs body (Word v ∷ us) h gs ∙ ap (λ ps. map place_of (placed h) ++ ps) tail ∙ joined (placed h) (at end (Word v ∷ us)) (placed more) (walk gs r))
walk_is context _ _ _ _ r (grammar.by_if_else {ls = ls} {w = w} {v = v} {x = x} {o = o} {a = a} {ts = ts} {bs = bs} {us = us} {xs = xs} {ys = ys} {vs = vs} {body = body} {other = other} {is = is} s c n h e l k f m more) gs =
    let tail = end_step x ys gs f ∙ ap (λ ps. (Word x ∷ ys) ∷ ps) ((end_passes (label_of ts).0 ys vs m).same gs ∙ walk_is context ls false vs is r more gs) in
    let middle = else_step v us gs e ∙ ap (λ ps. (Word v ∷ us) ∷ ps) ((end_passes (label_of ts).0 us xs l).same gs ∙ walk_is context ((label_of ts).0 ∷ ls) false xs other (Word x ∷ ys) k gs ∙ ap (λ ps. map place_of (placed k) ++ ps) tail ∙ joined (placed k) (at end (Word x ∷ ys)) (placed more) (walk gs r)) in
    block_step w o ts gs s
    ∙ ap (λ ps. (Word w ∷ ts) ∷ ps) ((head_passes context.types ts bs a n).same gs ∙ walk_is context ((label_of ts).0 ∷ ls) false bs body (Word v ∷ us) h gs ∙ ap (λ ps. map place_of (placed h) ++ ps) middle
    ∙ joined (placed h) (at otherwise (Word v ∷ us)) (placed k ++ (at end (Word x ∷ ys) ∷ placed more)) (walk gs r))
walk_is context _ _ _ _ r (grammar.by_folded {ls = ls} {folded = folded} {w = w} {ts = ts} {us = us} {vs = vs} {i = i} {operands = operands} {is = is} s h inner more) gs =
    let p = is_plain context ls w ts i us h in
    let tail = operands_close (Word w ∷ ts) vs gs ∙ ap (λ ps. (Word w ∷ ts) ∷ ps) (walk_is context ls folded vs is r more gs) in
    open_step keyword.Plain w ts gs p.word ∙ p.immediate.same (Operands (Word w ∷ ts) ∷ gs) ∙ walk_is context ls true us operands (Close ∷ vs) inner (Operands (Word w ∷ ts) ∷ gs)
    ∙ ap (λ ps. map place_of (placed inner) ++ ps) tail ∙ joined (placed inner) (at i (Word w ∷ ts)) (placed more) (walk gs r)
walk_is context _ _ _ _ r (grammar.by_folded_block {ls = ls} {folded = folded} {w = w} {o = o} {a = a} {ts = ts} {bs = bs} {vs = vs} {body = body} {is = is} s c n inner more) gs =
    let tail = ended_close vs gs ∙ ap (λ ps. (Close ∷ vs) ∷ ps) (walk_is context ls folded vs is r more gs) in
    folded_block_step w o ts gs s c
    ∙ ap (λ ps. (Word w ∷ ts) ∷ ps) ((head_passes context.types ts bs a n).same (Ended ∷ gs) ∙ walk_is context ((label_of ts).0 ∷ ls) false bs body (Close ∷ vs) inner (Ended ∷ gs) ∙ ap (λ ps. map place_of (placed inner) ++ ps) tail ∙ joined (placed inner) (at end (Close ∷ vs)) (placed more) (walk gs r))
walk_is context _ _ _ _ r (grammar.by_folded_if {ls = ls} {folded = folded} {w = w} {t = t} {o = o} {a = a} {ts = ts} {bs = bs} {cs = cs} {vs = vs} {condition = condition} {body = body} {is = is} s c n inner k g more) gs =
    let tail = twice_close vs gs ∙ ap (λ ps. (Close ∷ vs) ∷ ps) (walk_is context ls folded vs is r more gs) in
    let middle = then_step t (Word w ∷ ts) cs gs k ∙ ap (λ ps. (Word w ∷ ts) ∷ ps) (walk_is context ((label_of ts).0 ∷ ls) false cs body (Close ∷ Close ∷ vs) g (Unplaced ∷ Ended ∷ gs) ∙ ap (λ ps. map place_of (placed g) ++ ps) tail ∙ joined (placed g) (at end (Close ∷ vs)) (placed more) (walk gs r)) in
    folded_if_step w o ts gs s c ∙ (head_passes context.types ts bs a n).same (Condition (Word w ∷ ts) ∷ gs) ∙ walk_is context ls true bs condition (Open ∷ Word t ∷ cs) inner (Condition (Word w ∷ ts) ∷ gs)
    ∙ ap (λ ps. map place_of (placed inner) ++ ps) middle ∙ joined (placed inner) (at (instruction o a) (Word w ∷ ts)) (placed g ++ (at end (Close ∷ vs) ∷ placed more)) (walk gs r)
walk_is context _ _ _ _ r (grammar.by_folded_if_else {ls = ls} {folded = folded} {w = w} {t = t} {e = e} {o = o} {a = a} {ts = ts} {bs = bs} {cs = cs} {es = es} {vs = vs} {condition = condition} {body = body} {other = other} {is = is} s c n inner k g f m more) gs =
    let tail = twice_close vs gs ∙ ap (λ ps. (Close ∷ vs) ∷ ps) (walk_is context ls folded vs is r more gs) in
    let last = folded_else_step e es (Ended ∷ gs) f ∙ ap (λ ps. (Word e ∷ es) ∷ ps) (walk_is context ((label_of ts).0 ∷ ls) false es other (Close ∷ Close ∷ vs) m (Unplaced ∷ Ended ∷ gs) ∙ ap (λ ps. map place_of (placed m) ++ ps) tail ∙ joined (placed m) (at end (Close ∷ vs)) (placed more) (walk gs r)) in
    let middle = then_step t (Word w ∷ ts) cs gs k
    ∙ ap (λ ps. (Word w ∷ ts) ∷ ps) (walk_is context ((label_of ts).0 ∷ ls) false cs body (Close ∷ Open ∷ Word e ∷ es) g (Unplaced ∷ Ended ∷ gs) ∙ ap (λ ps. map place_of (placed g) ++ ps) last ∙ joined (placed g) (at otherwise (Word e ∷ es)) (placed m ++ (at end (Close ∷ vs) ∷ placed more)) (walk gs r)) in
    folded_if_step w o ts gs s c ∙ (head_passes context.types ts bs a n).same (Condition (Word w ∷ ts) ∷ gs) ∙ walk_is context ls true bs condition (Open ∷ Word t ∷ cs) inner (Condition (Word w ∷ ts) ∷ gs)
    ∙ ap (λ ps. map place_of (placed inner) ++ ps) middle ∙ joined (placed inner) (at (instruction o a) (Word w ∷ ts)) (placed g ++ (at otherwise (Word e ∷ es) ∷ (placed m ++ (at end (Close ∷ vs) ∷ placed more)))) (walk gs r)

-- The instructions with positions are those of the grammar.

both : (xs : List Placed) (y : Placed) (ys : List Placed) → map instruction_of (xs ++ (y ∷ ys)) ≡ map instruction_of xs ++ (y.instruction ∷ map instruction_of ys)
both [] y ys = refl
both (x ∷ xs) y ys = ap (λ is. x.instruction ∷ is) (both xs y ys)

-- instructions `is` with positions, an instruction, and instructions `js` with positions
around : (xs : List Placed) (y : Placed) (ys : List Placed) (is js : List Instruction) → map instruction_of xs ≡ is → map instruction_of ys ≡ js → map instruction_of (xs ++ (y ∷ ys)) ≡ is ++ (y.instruction ∷ js)
around xs y ys is js e f = both xs y ys ∙ ap (λ is. is ++ (y.instruction ∷ map instruction_of ys)) e ∙ ap (λ js. is ++ (y.instruction ∷ js)) f

pub instructions_are : InstructionsArePlaced
unfolding placed
instructions_are context _ _ _ _ r grammar.by_none = refl
instructions_are context _ _ _ _ r (grammar.by_plain {ls = ls} {us = us} {i = i} {is = is} s h more) = ap (λ is. i ∷ is) (instructions_are context ls false us is r more)
instructions_are context _ _ _ _ r (grammar.by_block {ls = ls} {v = v} {o = o} {a = a} {ts = ts} {bs = bs} {us = us} {vs = vs} {body = body} {is = is} s n h e l more) =
    ap (λ is. instruction o a ∷ is) (around (placed h) (at end (Word v ∷ us)) (placed more) body is (instructions_are context ((label_of ts).0 ∷ ls) false bs body (Word v ∷ us) h) (instructions_are context ls false vs is r more))
instructions_are context _ _ _ _ r (grammar.by_if_else {ls = ls} {v = v} {x = x} {o = o} {a = a} {ts = ts} {bs = bs} {us = us} {xs = xs} {ys = ys} {vs = vs} {body = body} {other = other} {is = is} s c n h e l k f m more) =
    ap (λ is. instruction o a ∷ is) (around (placed h) (at otherwise (Word v ∷ us)) (placed k ++ (at end (Word x ∷ ys) ∷ placed more)) body (other ++ (end ∷ is)) (instructions_are context ((label_of ts).0 ∷ ls) false bs body (Word v ∷ us) h)
    (around (placed k) (at end (Word x ∷ ys)) (placed more) other is (instructions_are context ((label_of ts).0 ∷ ls) false xs other (Word x ∷ ys) k) (instructions_are context ls false vs is r more)))
instructions_are context _ _ _ _ r (grammar.by_folded {ls = ls} {folded = folded} {w = w} {ts = ts} {us = us} {vs = vs} {i = i} {operands = operands} {is = is} s h inner more) =
    around (placed inner) (at i (Word w ∷ ts)) (placed more) operands is (instructions_are context ls true us operands (Close ∷ vs) inner) (instructions_are context ls folded vs is r more)
instructions_are context _ _ _ _ r (grammar.by_folded_block {ls = ls} {folded = folded} {o = o} {a = a} {ts = ts} {bs = bs} {vs = vs} {body = body} {is = is} s c n inner more) =
    ap (λ is. instruction o a ∷ is) (around (placed inner) (at end (Close ∷ vs)) (placed more) body is (instructions_are context ((label_of ts).0 ∷ ls) false bs body (Close ∷ vs) inner) (instructions_are context ls folded vs is r more))
instructions_are context _ _ _ _ r (grammar.by_folded_if {ls = ls} {folded = folded} {w = w} {t = t} {o = o} {a = a} {ts = ts} {bs = bs} {cs = cs} {vs = vs} {condition = condition} {body = body} {is = is} s c n inner k g more) =
    around (placed inner) (at (instruction o a) (Word w ∷ ts)) (placed g ++ (at end (Close ∷ vs) ∷ placed more)) condition (body ++ (end ∷ is)) (instructions_are context ls true bs condition (Open ∷ Word t ∷ cs) inner)
    (around (placed g) (at end (Close ∷ vs)) (placed more) body is (instructions_are context ((label_of ts).0 ∷ ls) false cs body (Close ∷ Close ∷ vs) g) (instructions_are context ls folded vs is r more))
instructions_are context _ _ _ _ r (grammar.by_folded_if_else {ls = ls} {folded = folded} {w = w} {t = t} {e = e} {o = o} {a = a} {ts = ts} {bs = bs} {cs = cs} {es = es} {vs = vs} {condition = condition} {body = body} {other = other} {is = is} s c n inner k g f m more) =
    around (placed inner) (at (instruction o a) (Word w ∷ ts)) (placed g ++ (at otherwise (Word e ∷ es) ∷ (placed m ++ (at end (Close ∷ vs) ∷ placed more)))) condition (body ++ (otherwise ∷ (other ++ (end ∷ is)))) (instructions_are context ls true bs condition (Open ∷ Word t ∷ cs) inner)
    (around (placed g) (at otherwise (Word e ∷ es)) (placed m ++ (at end (Close ∷ vs) ∷ placed more)) body (other ++ (end ∷ is)) (instructions_are context ((label_of ts).0 ∷ ls) false cs body (Close ∷ Open ∷ Word e ∷ es) g)
    (around (placed m) (at end (Close ∷ vs)) (placed more) other is (instructions_are context ((label_of ts).0 ∷ ls) false es other (Close ∷ Close ∷ vs) m) (instructions_are context ls folded vs is r more)))

-- Instructions close each group that they open.

pub level : (context : Context) (ls : List Label) (folded : Bool) (ts : List Terminal) (is : List Instruction) (r : List Terminal) → Instructions context ls folded ts is r → (d : ℕ) → past d ts ≡ past d r
level context _ _ _ _ r grammar.by_none d = refl
level context _ _ _ _ r (grammar.by_plain {ls = ls} {w = w} {ts = ts} {us = us} {i = i} {is = is} s h more) d = (is_plain context ls w ts i us h).immediate.level d ∙ level context ls false us is r more d
level context _ _ _ _ r (grammar.by_block {ls = ls} {w = w} {v = v} {a = a} {ts = ts} {bs = bs} {us = us} {vs = vs} {body = body} {is = is} s n h e l more) d =
    (head_passes context.types ts bs a n).level d ∙ level context ((label_of ts).0 ∷ ls) false bs body (Word v ∷ us) h d ∙ (end_passes (label_of ts).0 us vs l).level d ∙ level context ls false vs is r more d
level context _ _ _ _ r (grammar.by_if_else {ls = ls} {w = w} {v = v} {x = x} {a = a} {ts = ts} {bs = bs} {us = us} {xs = xs} {ys = ys} {vs = vs} {body = body} {other = other} {is = is} s i n h e l k f m more) d =
    (head_passes context.types ts bs a n).level d ∙ level context ((label_of ts).0 ∷ ls) false bs body (Word v ∷ us) h d ∙ (end_passes (label_of ts).0 us xs l).level d
    ∙ level context ((label_of ts).0 ∷ ls) false xs other (Word x ∷ ys) k d ∙ (end_passes (label_of ts).0 ys vs m).level d ∙ level context ls false vs is r more d
level context _ _ _ _ r (grammar.by_folded {ls = ls} {folded = folded} {w = w} {ts = ts} {us = us} {vs = vs} {i = i} {operands = operands} {is = is} s h inner more) d =
    (is_plain context ls w ts i us h).immediate.level (suc d) ∙ level context ls true us operands (Close ∷ vs) inner (suc d) ∙ level context ls folded vs is r more d
level context _ _ _ _ r (grammar.by_folded_block {ls = ls} {folded = folded} {w = w} {a = a} {ts = ts} {bs = bs} {vs = vs} {body = body} {is = is} s i n inner more) d =
    (head_passes context.types ts bs a n).level (suc d) ∙ level context ((label_of ts).0 ∷ ls) false bs body (Close ∷ vs) inner (suc d) ∙ level context ls folded vs is r more d
level context _ _ _ _ r (grammar.by_folded_if {ls = ls} {folded = folded} {w = w} {t = t} {a = a} {ts = ts} {bs = bs} {cs = cs} {vs = vs} {condition = condition} {body = body} {is = is} s i n inner k g more) d =
    (head_passes context.types ts bs a n).level (suc d) ∙ level context ls true bs condition (Open ∷ Word t ∷ cs) inner (suc d) ∙ level context ((label_of ts).0 ∷ ls) false cs body (Close ∷ Close ∷ vs) g (suc (suc d)) ∙ level context ls folded vs is r more d
level context _ _ _ _ r (grammar.by_folded_if_else {ls = ls} {folded = folded} {w = w} {t = t} {e = e} {a = a} {ts = ts} {bs = bs} {cs = cs} {es = es} {vs = vs} {condition = condition} {body = body} {other = other} {is = is} s i n inner k g f o more) d =
    (head_passes context.types ts bs a n).level (suc d) ∙ level context ls true bs condition (Open ∷ Word t ∷ cs) inner (suc d) ∙ level context ((label_of ts).0 ∷ ls) false cs body (Close ∷ Open ∷ Word e ∷ es) g (suc (suc d))
    ∙ level context ((label_of ts).0 ∷ ls) false es other (Close ∷ Close ∷ vs) o (suc (suc d)) ∙ level context ls folded vs is r more d
