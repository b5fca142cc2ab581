-- The instructions that the grammar derives from tokens, and the structured control instructions among them.
use Rattle.std.proofs.Common.{◌≡◌, ◌∙◌, ℕ, Bool, true, false, List, [], ◌∷◌, ◌++◌, map, Option, Some, None, refl, sym, ap, subst}
use Rattle.std.proofs.lemmas.Grind.{flat_map-append}
use Rattle.std.proofs.lemmas.List.{map-append}
use Rattle.std.specs.List.{flat_map}
use Rattle.std.specs.Prelude.{bytes_eq, codes, not}
use Rattle.wat_module_ast.specs.declared.instruction.Argument.{Argument}
use Rattle.wat_module_ast.specs.declared.instruction.Instruction.{Instruction}
use Rattle.wat_module_ast.specs.declared.instruction.Opcode.TheVariants.{Byte}
use Rattle.wat_module_ast.specs.Fields.{label_associations}
use Rattle.wat_module_ast.specs.Grammar as grammar
use Rattle.wat_module_ast.specs.Grammar.{Context, Instructions, end, instruction, label_of, otherwise, structured}
use Rattle.wat_module_names_theorems.specs.BlockLabels as blocks
use Rattle.wat_module_names_theorems.specs.BlockLabels.{Structure, Structured, label_in, labelled, opcode_in}
use Rattle.wat_module_names_theorems.specs.Bodies.{BodiesHaveStructure, opcodes_in, structured_opcode}
use Rattle.wat_module_ast.specs.Names.{associations}
use Rattle.wat_module_names_theorems.specs.NameMaps.{IsNameMap}
use Rattle.wat_module_names_theorems.proofs.BlockLabels.{labels_are_listed}
use Rattle.wat_module_names_theorems.proofs.Keywords.{opcode}
use Rattle.wat_module_names_theorems.proofs.NameMaps.{are_name_map}
use Rattle.wat_module_names_theorems.proofs.Opaque.{block_passes, end_rest, is_plain}
use Rattle.wat_module_tokens.specs.Terminals.{Terminal, Open, Close, Word, Label}

-- The structured control instructions of the tokens `ts` up to the rest `r`, which have the opcodes of those among `is`.
record Found (ts : List Terminal) (is : List Instruction) (r : List Terminal) : Type 0 where
  pub all : List Structured
  pub structure : Structure ts all r
  pub opcodes : map opcode_in all ≡ flat_map opcodes_in is

abbrev number_in : Option ℕ → ℕ
number_in (Some n) = n
number_in None = 0

some_is : (n o : ℕ) → ◌≡◌ {A = Option ℕ} (Some n) (Some o) → n ≡ o
some_is n o e = ap number_in e

opcode_by : (b c d : Bool) (o : ℕ) → opcode b c d ≡ Some o → structured_opcode (Byte o) ≡ o ∷ []
opcode_by true c d o e = let f : 0x02 ≡ o = some_is 0x02 o e in subst (λ n. structured_opcode (Byte n) ≡ n ∷ []) f refl
opcode_by false true d o e = let f : 0x03 ≡ o = some_is 0x03 o e in subst (λ n. structured_opcode (Byte n) ≡ n ∷ []) f refl
opcode_by false false true o e = let f : 0x04 ≡ o = some_is 0x04 o e in subst (λ n. structured_opcode (Byte n) ≡ n ∷ []) f refl
opcode_by false false false o e = cc

block_opcode : (w : List ℕ) (o : ℕ) → structured w ≡ Some o → structured_opcode (Byte o) ≡ o ∷ []
block_opcode w o e = opcode_by (bytes_eq w (codes "block")) (bytes_eq w (codes "loop")) (bytes_eq w (codes "if")) o e

-- one sequence after another
both : (xs ys : List Structured) (is js : List Instruction) → map opcode_in xs ≡ flat_map opcodes_in is → map opcode_in ys ≡ flat_map opcodes_in js → map opcode_in (xs ++ ys) ≡ flat_map opcodes_in (is ++ js)
both xs ys is js e f = map-append opcode_in xs ys ∙ ap (λ os. os ++ map opcode_in ys) e ∙ ap (λ os. flat_map opcodes_in is ++ os) f ∙ sym (flat_map-append opcodes_in is js)

-- a structured instruction before others
headed : (w : List ℕ) (o : ℕ) (a : Argument) (l : Label) (xs : List Structured) (is : List Instruction) → structured w ≡ Some o → map opcode_in xs ≡ flat_map opcodes_in is → map opcode_in (labelled o l ∷ xs) ≡ flat_map opcodes_in (instruction o a ∷ is)
headed w o a l xs is s e = ap (λ os. o ∷ os) e ∙ sym (ap (λ os. os ++ flat_map opcodes_in is) (block_opcode w o s))

-- a plain instruction before others
after_plain : (i : Instruction) (xs : List Structured) (is : List Instruction) → opcodes_in i ≡ [] → map opcode_in xs ≡ flat_map opcodes_in is → map opcode_in xs ≡ flat_map opcodes_in (i ∷ is)
after_plain i xs is e f = f ∙ sym (ap (λ os. os ++ flat_map opcodes_in is) e)

found : (context : Context) (ls : List Label) (folded : Bool) (ts : List Terminal) (is : List Instruction) (r : List Terminal) → Instructions context ls folded ts is r → Found ts is r
found context _ _ _ _ r grammar.by_none = record { all = []; structure = blocks.by_none; opcodes = refl }
found context _ _ _ _ r (grammar.by_plain {ls = ls} {w = w} {ts = ts} {us = us} {i = i} {is = is} s h more) =
    let p = is_plain context ls w ts i us h in
    let f = found context ls false us is r more in
    record { all = f.all; structure = blocks.by_token (ap not p.word) (p.immediate.before f.all r f.structure); opcodes = after_plain i f.all is p.opcode f.opcodes }
found context _ _ _ _ r (grammar.by_block {ls = ls} {w = w} {v = v} {o = o} {a = a} {ts = ts} {bs = bs} {us = us} {vs = vs} {body = body} {is = is} s n h e l more) =
    let b = found context ((label_of ts).0 ∷ ls) false bs body (Word v ∷ us) h in
    let f = found context ls false vs is r more in
    record {
      all = labelled o (label_of ts).0 ∷ (b.all ++ f.all);
      structure = blocks.by_block s ((block_passes context.types (label_of ts).1 bs a n).before b.all (Word v ∷ us) b.structure) e (subst (λ ts. Structure ts f.all r) (end_rest (label_of ts).0 us vs l) f.structure);
      opcodes = headed w o a (label_of ts).0 (b.all ++ f.all) (body ++ (end ∷ is)) s (both b.all f.all body (end ∷ is) b.opcodes f.opcodes);
    }
found context _ _ _ _ r (grammar.by_if_else {ls = ls} {w = w} {v = v} {x = x} {o = o} {a = a} {ts = ts} {bs = bs} {us = us} {xs = xs} {ys = ys} {vs = vs} {body = body} {other = other} {is = is} s i n h e l k f m more) =
    let b = found context ((label_of ts).0 ∷ ls) false bs body (Word v ∷ us) h in
    let c = found context ((label_of ts).0 ∷ ls) false xs other (Word x ∷ ys) k in
    let g = found context ls false vs is r more in
    record {
      all = labelled o (label_of ts).0 ∷ (b.all ++ (c.all ++ g.all));
      structure = blocks.by_if_else s i ((block_passes context.types (label_of ts).1 bs a n).before b.all (Word v ∷ us) b.structure) e (subst (λ ts. Structure ts c.all (Word x ∷ ys)) (end_rest (label_of ts).0 us xs l) c.structure) f
          (subst (λ ts. Structure ts g.all r) (end_rest (label_of ts).0 ys vs m) g.structure);
      opcodes = headed w o a (label_of ts).0 (b.all ++ (c.all ++ g.all)) (body ++ (otherwise ∷ (other ++ (end ∷ is)))) s
          (both b.all (c.all ++ g.all) body (otherwise ∷ (other ++ (end ∷ is))) b.opcodes (both c.all g.all other (end ∷ is) c.opcodes g.opcodes));
    }
found context _ _ _ _ r (grammar.by_folded {ls = ls} {folded = folded} {w = w} {ts = ts} {us = us} {vs = vs} {i = i} {operands = operands} {is = is} s h inner more) =
    let p = is_plain context ls w ts i us h in
    let b = found context ls true us operands (Close ∷ vs) inner in
    let f = found context ls folded vs is r more in
    record {
      all = b.all ++ f.all;
      structure = blocks.by_group p.word (p.immediate.before b.all (Close ∷ vs) b.structure) f.structure;
      opcodes = both b.all f.all operands (i ∷ is) b.opcodes (after_plain i f.all is p.opcode f.opcodes);
    }
found context _ _ _ _ r (grammar.by_folded_block {ls = ls} {folded = folded} {w = w} {o = o} {a = a} {ts = ts} {bs = bs} {vs = vs} {body = body} {is = is} s i n inner more) =
    let b = found context ((label_of ts).0 ∷ ls) false bs body (Close ∷ vs) inner in
    let f = found context ls folded vs is r more in
    record {
      all = labelled o (label_of ts).0 ∷ (b.all ++ f.all);
      structure = blocks.by_folded_block s i ((block_passes context.types (label_of ts).1 bs a n).before b.all (Close ∷ vs) b.structure) f.structure;
      opcodes = headed w o a (label_of ts).0 (b.all ++ f.all) (body ++ (end ∷ is)) s (both b.all f.all body (end ∷ is) b.opcodes f.opcodes);
    }
found context _ _ _ _ r (grammar.by_folded_if {ls = ls} {folded = folded} {w = w} {t = t} {o = o} {a = a} {ts = ts} {bs = bs} {cs = cs} {vs = vs} {condition = condition} {body = body} {is = is} s i n inner k g more) =
    let q = found context ls true bs condition (Open ∷ Word t ∷ cs) inner in
    let b = found context ((label_of ts).0 ∷ ls) false cs body (Close ∷ Close ∷ vs) g in
    let f = found context ls folded vs is r more in
    record {
      all = q.all ++ (labelled o (label_of ts).0 ∷ (b.all ++ f.all));
      structure = blocks.by_folded_if s i ((block_passes context.types (label_of ts).1 bs a n).before q.all (Open ∷ Word t ∷ cs) q.structure) k b.structure f.structure;
      opcodes = both q.all (labelled o (label_of ts).0 ∷ (b.all ++ f.all)) condition (instruction o a ∷ (body ++ (end ∷ is))) q.opcodes
          (headed w o a (label_of ts).0 (b.all ++ f.all) (body ++ (end ∷ is)) s (both b.all f.all body (end ∷ is) b.opcodes f.opcodes));
    }
found context _ _ _ _ r (grammar.by_folded_if_else {ls = ls} {folded = folded} {w = w} {t = t} {e = e} {o = o} {a = a} {ts = ts} {bs = bs} {cs = cs} {es = es} {vs = vs} {condition = condition} {body = body} {other = other} {is = is} s i n inner k g m h more) =
    let q = found context ls true bs condition (Open ∷ Word t ∷ cs) inner in
    let b = found context ((label_of ts).0 ∷ ls) false cs body (Close ∷ Open ∷ Word e ∷ es) g in
    let c = found context ((label_of ts).0 ∷ ls) false es other (Close ∷ Close ∷ vs) h in
    let f = found context ls folded vs is r more in
    record {
      all = q.all ++ (labelled o (label_of ts).0 ∷ (b.all ++ (c.all ++ f.all)));
      structure = blocks.by_folded_if_else s i ((block_passes context.types (label_of ts).1 bs a n).before q.all (Open ∷ Word t ∷ cs) q.structure) k b.structure m c.structure f.structure;
      opcodes = both q.all (labelled o (label_of ts).0 ∷ (b.all ++ (c.all ++ f.all))) condition (instruction o a ∷ (body ++ (otherwise ∷ (other ++ (end ∷ is))))) q.opcodes
          (headed w o a (label_of ts).0 (b.all ++ (c.all ++ f.all)) (body ++ (otherwise ∷ (other ++ (end ∷ is)))) s
          (both b.all (c.all ++ f.all) body (otherwise ∷ (other ++ (end ∷ is))) b.opcodes (both c.all f.all other (end ∷ is) c.opcodes f.opcodes)));
    }

names : (ts r : List Terminal) (xs : List Structured) → Structure ts xs (Close ∷ r) → IsNameMap 0 (map label_in xs) (label_associations ts)
names ts r xs h = subst (λ ls. IsNameMap 0 (map label_in xs) (associations 0 ls)) (sym (labels_are_listed.body ts r xs h)) (are_name_map 0 (map label_in xs))

pub bodies_have_structure : BodiesHaveStructure
bodies_have_structure context ts is r h =
    let f = found context (None ∷ []) false ts is (Close ∷ r) h in (f.all, record { structure = f.structure; opcodes = f.opcodes; names = names ts r f.all f.structure })
