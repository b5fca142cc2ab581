-- Parser and grammar agree on segments and on the inline data of memories.
use Rattle.std.proofs.Common.{◌≡◌, ◌<◌, ◌≤◌, ℕ, suc, Bool, true, false, List, [], ◌∷◌, length, Option, Some, None, Ok, Err, refl, sym, ap, subst, ◌∙◌, arith}
use Rattle.std.specs.Prelude.{◌^◌, if◌then◌else◌, bytes_eq, codes}
use Rattle.wat_module_ast.specs.declared.error.Expected.TheVariants as expected
use Rattle.wat_module_ast.specs.declared.error.Range.TheVariants as range
use Rattle.wat_module_ast.specs.declared.error.Space.{Space}
use Rattle.wat_module_ast.specs.declared.error.Space.TheVariants as kind
use Rattle.wat_module_ast.specs.declared.error.FaultKind.TheVariants.{UnknownWord, OutOfRange}
use Rattle.wat_module_ast.specs.declared.instruction.Instruction.{Instruction}
use Rattle.wat_module_ast.specs.Grammar.{Context, Body, Folded, index, label_of, past}
use Rattle.wat_module_ast.specs.Grammar as grammar
use Rattle.wat_module_instructions.specs.Law.{FoldedIsGrammar, InstructionsAreBalanced, InstructionsTakeTokens, MachineIsGrammar}
use Rattle.wat_module_instructions.specs.Machine.{run, run_by, open_by, at_operands, folded}
use Rattle.wat_module_ast.specs.Table.{mnemonics, low, high, prefixed, low_vectors, high_vectors}
use Rattle.wat_module_tokens.specs.Terminals.{Terminal, Open, Close, Word, Id, Integer, Text, Float, Other, Label}
use Rattle.wat_module_ast.specs.Fields.{Many, by_none, by_more, IndexIs, StringIs, by_string, UseIs, by_use, by_no_use, ExpressionIs, by_word_expression, by_instruction, Target, target, Field, Memory, Data, FieldIs, by_passive_data, by_active_data, is_u32, pages_of}
use Rattle.wat_module_ast.specs.Types.{Types}
use Rattle.wat_module_parser.specs.Reading.{and_then, after, all, closed, closing, limits, string_item, memory_of, memory_data, used_by, used_at, one_at, expression_by, expression_at, data_strings, active_data, data_after, data_at, closed_or, skip_two_closes_or, after_strings}
use Rattle.wat_module_parser.proofs.Headers.{Ends, IsNoInstruction, not_found, other_word}
use Rattle.wat_module_parser.proofs.Items.{word_is, closing_inv, closed_is, Finds, begins, after_is, closed_or_is}
use Rattle.wat_module_parser.proofs.Manies.{Gives, gives_of, of_gives, and_then_inv, Brings, Reads, all_sound, all_complete, many_takes, many_past}
use Rattle.wat_module_parser.proofs.TypeRules.{index_sound, index_complete, index_pass, twice_closed_or_is}

-- what holds of instructions
pub record Laws : Type 0 where
  pub same : MachineIsGrammar
  pub folded : FoldedIsGrammar
  pub balanced : InstructionsAreBalanced
  pub taken : InstructionsTakeTokens

-- these tokens are at least as many, and open and close nothing
pub record Keeps (ts us : List Terminal) : Type 0 where
  pub short : length us ≤ length ts
  pub same : (d : ℕ) → past d ts ≡ past d us

pub finds_of : (o : Option (List Terminal)) (ts : List Terminal) → o ≡ Some ts → Finds o ts
finds_of o ts e = subst (λ x. Finds x ts) (sym e) refl

-- Strings.

string_sound : (ts : List Terminal) (vs : List ℕ) (us : List Terminal) → Brings (string_item ts) vs us → StringIs ts vs us
unfolding string_item
string_sound (Text v ∷ ts) vs us h = subst (λ x. StringIs (Text v ∷ ts) x us) h.0 (subst (λ x. StringIs (Text v ∷ ts) v x) h.1 by_string)
string_sound [] vs us h = absurd h
string_sound (Open ∷ ts) vs us h = absurd h
string_sound (Close ∷ ts) vs us h = absurd h
string_sound (Word w ∷ ts) vs us h = absurd h
string_sound (Id x ∷ ts) vs us h = absurd h
string_sound (Integer s n ∷ ts) vs us h = absurd h
string_sound (Float narrow wide ∷ ts) vs us h = absurd h
string_sound (Other ∷ ts) vs us h = absurd h

string_complete : (ts : List Terminal) (vs : List ℕ) (us : List Terminal) → StringIs ts vs us → Brings (string_item ts) vs us
unfolding string_item
string_complete _ _ us by_string = (refl, refl)

string_takes : (ts : List Terminal) (vs : List ℕ) (us : List Terminal) → StringIs ts vs us → length us < length ts
string_takes _ _ us by_string = omega arith

pub strings_read : Reads string_item StringIs
strings_read = record { sound = string_sound; complete = string_complete; takes = string_takes }

string_past : (d : ℕ) (ts : List Terminal) (vs : List ℕ) (us : List Terminal) → StringIs ts vs us → past d ts ≡ past d us
string_past d _ _ us by_string = refl

pub strings_keep : (ts : List Terminal) (bytes : List ℕ) (us : List Terminal) → Many StringIs ts bytes us → Keeps ts us
strings_keep ts bytes us m = record { short = many_takes StringIs string_takes ts bytes us m; same = λ d. many_past StringIs d (string_past d) ts bytes us m }

-- What a segment uses.

pub used_sound : (word : List ℕ) (s : Space) (names : List Label) (ts : List Terminal) (i : ℕ) (us : List Terminal) → Gives (used_at word s names ts) i us → UseIs word names ts i us
unfolding used_at
used_sound word s names ts i us g = by (after word ts) refl g
  where
    by : (o : Option (List Terminal)) → after word ts ≡ o → Gives (used_by s names o ts) i us → UseIs word names ts i us
    by None e h = subst (λ x. UseIs word names ts x us) h.0 (subst (λ x. UseIs word names ts 0 x) h.1 by_no_use)
    by (Some hs) e h =
        let b = begins word ts hs (finds_of (after word ts) hs e) in
        let (j, xs, e1, g1) = and_then_inv (index s names hs) (λ i us. closing i (closed us)) i us h in
        let (same, shut) = closing_inv j i (closed xs) us g1 in
        let n = index_sound s names hs j xs (gives_of _ j xs e1) in
        subst (λ x. UseIs word names x i us) (sym b.is) (by_use b.same (subst (λ x. IndexIs names hs x (Close ∷ us)) same (subst (λ x. IndexIs names hs j x) (closed_is xs us shut) n)))

pub used_complete : (word : List ℕ) (s : Space) (names : List Label) (ts : List Terminal) (i : ℕ) (us : List Terminal) → UseIs word names ts i us → Ends word us → used_at word s names ts ≡ Ok (i, us)
unfolding used_at
used_complete word s names _ i us (by_use {w = w} {ts = ts} e n) k = ap (λ o. used_by s names o (Open ∷ Word w ∷ ts)) (after_is word w ts e) ∙ ap (λ q. and_then q (λ i us. closing i (closed us))) (index_complete s names ts i (Close ∷ us) n)
used_complete word s names _ _ us by_no_use k = ap (λ o. used_by s names o us) k

pub used_keeps : (word : List ℕ) (names : List Label) (ts : List Terminal) (i : ℕ) (us : List Terminal) → UseIs word names ts i us → Keeps ts us
used_keeps word names _ i us (by_use {ts = ts} e n) = let p = index_pass names ts i (Close ∷ us) n in let s = p.short in record { short = omega arith; same = λ d. p.same (suc d) }
used_keeps word names _ _ us by_no_use = record { short = omega arith; same = λ d. refl }

-- Expressions.

pub memory_is_none : IsNoInstruction (codes "memory")
unfolding grammar.plain mnemonics low high prefixed low_vectors high_vectors
memory_is_none = record { plain_not = λ context ls ts. refl; structured_not = refl }

pub offset_is_none : IsNoInstruction (codes "offset")
unfolding grammar.plain mnemonics low high prefixed low_vectors high_vectors
offset_is_none = record { plain_not = λ context ls ts. refl; structured_not = refl }

one_sound : Laws → (context : Context) (ts : List Terminal) (is : List Instruction) (r : List Terminal) → Gives (one_at context ts) is r → Folded context ts is r
one_sound laws context (Open ∷ ts) is r g = (laws.folded context ts is r).0 (of_gives _ is r g)
one_sound laws context [] is r g = absurd g
one_sound laws context (Close ∷ ts) is r g = absurd g
one_sound laws context (Word w ∷ ts) is r g = absurd g
one_sound laws context (Id x ∷ ts) is r g = absurd g
one_sound laws context (Integer s n ∷ ts) is r g = absurd g
one_sound laws context (Text v ∷ ts) is r g = absurd g
one_sound laws context (Float narrow wide ∷ ts) is r g = absurd g
one_sound laws context (Other ∷ ts) is r g = absurd g

one_complete : Laws → (context : Context) (ts : List Terminal) (is : List Instruction) (r : List Terminal) → Folded context ts is r → one_at context ts ≡ Ok (is, r)
one_complete laws context _ is r (grammar.by_group {ts = ts} h p) = (laws.folded context ts is r).1 (grammar.by_group h p)

one_not : (v : List ℕ) → IsNoInstruction v → (context : Context) (ts : List Terminal) → folded context (Word v ∷ ts) ≡ Err (UnknownWord expected.Instruction, Word v ∷ ts)
one_not v k context ts = ap (λ o. run_by (run context (suc (length (Word v ∷ ts)))) (open_by context o (Word v ∷ ts) ts [])) k.structured_not ∙ ap (λ q. run_by (run context (suc (length (Word v ∷ ts)))) (at_operands q [])) (k.plain_not context [] ts)

one_differs : (v : List ℕ) → IsNoInstruction v → (context : Context) (w : List ℕ) (ts : List Terminal) (x : List Instruction × List Terminal) → folded context (Word w ∷ ts) ≡ Ok x → (b : Bool) → bytes_eq w v ≡ b → b ≡ false
one_differs v k context w ts x e true q = let f : folded context (Word w ∷ ts) ≡ Err (UnknownWord expected.Instruction, Word w ∷ ts) = subst (λ u. folded context (Word u ∷ ts) ≡ Err (UnknownWord expected.Instruction, Word u ∷ ts)) (sym (word_is w v q)) (one_not v k context ts) in cc
one_differs v k context w ts x e false q = refl

-- a folded instruction does not begin with a word that is none
ends_one : (v : List ℕ) → IsNoInstruction v → (context : Context) (ts : List Terminal) (is : List Instruction) (r : List Terminal) → one_at context ts ≡ Ok (is, r) → Ends v ts
ends_one v k context (Open ∷ Word w ∷ ts) is r e = not_found v w ts (bytes_eq w v) refl (one_differs v k context w ts (is, r) e (bytes_eq w v) refl)
ends_one v k context [] is r e = refl
ends_one v k context (Close ∷ ts) is r e = refl
ends_one v k context (Word w ∷ ts) is r e = refl
ends_one v k context (Id x ∷ ts) is r e = refl
ends_one v k context (Integer s n ∷ ts) is r e = refl
ends_one v k context (Text y ∷ ts) is r e = refl
ends_one v k context (Float narrow wide ∷ ts) is r e = refl
ends_one v k context (Other ∷ ts) is r e = refl
ends_one v k context (Open ∷ []) is r e = refl
ends_one v k context (Open ∷ Open ∷ ts) is r e = refl
ends_one v k context (Open ∷ Close ∷ ts) is r e = refl
ends_one v k context (Open ∷ Id x ∷ ts) is r e = refl
ends_one v k context (Open ∷ Integer s n ∷ ts) is r e = refl
ends_one v k context (Open ∷ Text y ∷ ts) is r e = refl
ends_one v k context (Open ∷ Float narrow wide ∷ ts) is r e = refl
ends_one v k context (Open ∷ Other ∷ ts) is r e = refl

pub expression_sound : Laws → (word : List ℕ) (context : Context) (ts : List Terminal) (is : List Instruction) (r : List Terminal) → Gives (expression_at word context ts) is r → ExpressionIs word context ts is r
unfolding expression_at
expression_sound laws word context ts is r g = by (after word ts) refl g
  where
    by : (o : Option (List Terminal)) → after word ts ≡ o → Gives (expression_by context o ts) is r → ExpressionIs word context ts is r
    by None e h = by_instruction (one_sound laws context ts is r h)
    by (Some hs) e h = let b = begins word ts hs (finds_of (after word ts) hs e) in subst (λ x. ExpressionIs word context x is r) (sym b.is) (by_word_expression b.same ((laws.same context hs is r).0 (of_gives _ is r h)))

pub expression_complete : Laws → (word : List ℕ) → IsNoInstruction word → (context : Context) (ts : List Terminal) (is : List Instruction) (r : List Terminal) → ExpressionIs word context ts is r → expression_at word context ts ≡ Ok (is, r)
unfolding expression_at
expression_complete laws word k context _ is r (by_word_expression {w = w} {ts = ts} e b) = ap (λ o. expression_by context o (Open ∷ Word w ∷ ts)) (after_is word w ts e) ∙ (laws.same context ts is r).1 b
expression_complete laws word k context ts is r (by_instruction f) =
    let one = one_complete laws context ts is r f in ap (λ o. expression_by context o ts) (ends_one word k context ts is r one) ∙ one

-- nor an expression
pub ends_expression : Laws → (v word : List ℕ) → IsNoInstruction v → bytes_eq word v ≡ false → (context : Context) (ts : List Terminal) (is : List Instruction) (r : List Terminal) → ExpressionIs word context ts is r → Ends v ts
ends_expression laws v word k d context _ is r (by_word_expression {w = w} {ts = ts} e b) = other_word v word w ts d e
ends_expression laws v word k d context ts is r (by_instruction f) = ends_one v k context ts is r (one_complete laws context ts is r f)

folded_keeps : Laws → (context : Context) (ts : List Terminal) (is : List Instruction) (r : List Terminal) → Folded context ts is r → Keeps ts r
folded_keeps laws context _ is r (grammar.by_group {ts = ts} h p) = record { short = laws.taken context [] true (Open ∷ ts) is r h; same = λ d. laws.balanced context [] true (Open ∷ ts) is r h d }

pub expression_keeps : Laws → (word : List ℕ) (context : Context) (ts : List Terminal) (is : List Instruction) (r : List Terminal) → ExpressionIs word context ts is r → Keeps ts r
expression_keeps laws word context _ is r (by_word_expression {ts = ts} e b) = let t = laws.taken context (None ∷ []) false ts is (Close ∷ r) b in record { short = omega arith; same = λ d. laws.balanced context (None ∷ []) false ts is (Close ∷ r) b (suc d) }
expression_keeps laws word context ts is r (by_instruction f) = folded_keeps laws context ts is r f

folded_opens : (context : Context) (ts : List Terminal) (is : List Instruction) (r : List Terminal) → Folded context ts is r → (us : List Terminal) × (ts ≡ Open ∷ us)
folded_opens context _ is r (grammar.by_group {ts = ts} h p) = (ts, refl)

pub expression_opens : (word : List ℕ) (context : Context) (ts : List Terminal) (is : List Instruction) (r : List Terminal) → ExpressionIs word context ts is r → (us : List Terminal) × (ts ≡ Open ∷ us)
expression_opens word context _ is r (by_word_expression {w = w} {ts = ts} e b) = (Word w ∷ ts, refl)
expression_opens word context ts is r (by_instruction f) = folded_opens context ts is r f

used_opens : (word : List ℕ) (names : List Label) (ts : List Terminal) (i : ℕ) (us : List Terminal) → UseIs word names ts i us → (vs : List Terminal) × (us ≡ Open ∷ vs) → (vs : List Terminal) × (ts ≡ Open ∷ vs)
used_opens word names _ i us (by_use {w = w} {ts = ts} e n) k = (Word w ∷ ts, refl)
used_opens word names _ _ us by_no_use k = k

-- Data segments.

data_strings_sound : (l : Label) (t : Option Target) (ts : List Terminal) (fs : List Field) (r : List Terminal) → Gives (data_strings l t ts) fs r → (bytes : List ℕ) × Many StringIs ts bytes (Close ∷ r) × (Data l t bytes ∷ [] ≡ fs)
data_strings_sound l t ts fs r g =
    let (bytes, bs, e1, g1) = and_then_inv (all string_item ts) (λ bytes us. closing (Data l t bytes ∷ []) (closed_or (after_strings t ts) us)) fs r g in
    let (same, shut) = closing_inv (Data l t bytes ∷ []) fs (closed_or (after_strings t ts) bs) r g1 in (bytes, subst (λ x. Many StringIs ts bytes x) (closed_or_is (after_strings t ts) bs r shut) (all_sound string_item StringIs strings_read bytes ts bs e1).0, same)

data_strings_complete : (l : Label) (t : Option Target) (ts : List Terminal) (bytes : List ℕ) (r : List Terminal) → Many StringIs ts bytes (Close ∷ r) → data_strings l t ts ≡ Ok (Data l t bytes ∷ [], r)
unfolding string_item
data_strings_complete l t ts bytes r m = ap (λ q. and_then q (λ bytes us. closing (Data l t bytes ∷ []) (closed_or (after_strings t ts) us))) (all_complete string_item StringIs strings_read bytes ts (Close ∷ r) m refl)

passive_sound : (types : Types) (context : Context) (w : List ℕ) (ts hs : List Terminal) (fs : List Field) (r : List Terminal) → w ≡ codes "data" → hs ≡ (label_of ts).1 → Gives (data_strings (label_of ts).0 None hs) fs r → FieldIs types context (Open ∷ Word w ∷ ts) fs r
passive_sound types context w ts hs fs r e k g =
    let (bytes, m, same) = data_strings_sound (label_of ts).0 None hs fs r g in subst (λ x. FieldIs types context (Open ∷ Word w ∷ ts) x r) same (by_passive_data e (subst (λ x. Many StringIs x bytes (Close ∷ r)) k m))

active_sound : Laws → (types : Types) (context : Context) (w : List ℕ) (ts hs : List Terminal) (fs : List Field) (r : List Terminal) → w ≡ codes "data" → hs ≡ (label_of ts).1 → Gives (active_data context (label_of ts).0 hs) fs r → FieldIs types context (Open ∷ Word w ∷ ts) fs r
active_sound laws types context w ts hs fs r e k g =
    let l = (label_of ts).0 in
    let (i, os, e1, g1) = and_then_inv (used_at (codes "memory") kind.Memory context.memories hs) (λ i us. and_then (expression_at (codes "offset") context us) (λ is vs. data_strings l (Some (target i is)) vs)) fs r g in
    let (is, bs, e2, g2) = and_then_inv (expression_at (codes "offset") context os) (λ is vs. data_strings l (Some (target i is)) vs) fs r g1 in
    let (bytes, m, same) = data_strings_sound l (Some (target i is)) bs fs r g2 in
    let u = used_sound (codes "memory") kind.Memory context.memories hs i os (gives_of _ i os e1) in
    let o = expression_sound laws (codes "offset") context os is bs (gives_of _ is bs e2) in
    subst (λ x. FieldIs types context (Open ∷ Word w ∷ ts) x r) same (by_active_data e (subst (λ x. UseIs (codes "memory") context.memories x i os) k u) o m)

data_after_sound : Laws → (types : Types) (context : Context) (w : List ℕ) (ts hs : List Terminal) (fs : List Field) (r : List Terminal) → w ≡ codes "data" → hs ≡ (label_of ts).1 → Gives (data_after context (label_of ts).0 hs) fs r → FieldIs types context (Open ∷ Word w ∷ ts) fs r
unfolding data_after
data_after_sound laws types context w ts (Open ∷ hs) fs r e k g = active_sound laws types context w ts (Open ∷ hs) fs r e k g
data_after_sound laws types context w ts [] fs r e k g = passive_sound types context w ts [] fs r e k g
data_after_sound laws types context w ts (Close ∷ hs) fs r e k g = passive_sound types context w ts (Close ∷ hs) fs r e k g
data_after_sound laws types context w ts (Word u ∷ hs) fs r e k g = passive_sound types context w ts (Word u ∷ hs) fs r e k g
data_after_sound laws types context w ts (Id x ∷ hs) fs r e k g = passive_sound types context w ts (Id x ∷ hs) fs r e k g
data_after_sound laws types context w ts (Integer s n ∷ hs) fs r e k g = passive_sound types context w ts (Integer s n ∷ hs) fs r e k g
data_after_sound laws types context w ts (Text v ∷ hs) fs r e k g = passive_sound types context w ts (Text v ∷ hs) fs r e k g
data_after_sound laws types context w ts (Float narrow wide ∷ hs) fs r e k g = passive_sound types context w ts (Float narrow wide ∷ hs) fs r e k g
data_after_sound laws types context w ts (Other ∷ hs) fs r e k g = passive_sound types context w ts (Other ∷ hs) fs r e k g

pub data_sound : Laws → (types : Types) (context : Context) (w : List ℕ) (ts : List Terminal) (fs : List Field) (r : List Terminal) → w ≡ codes "data" → Gives (data_at context (label_of ts)) fs r → FieldIs types context (Open ∷ Word w ∷ ts) fs r
data_sound laws types context w ts fs r e g = data_after_sound laws types context w ts (label_of ts).1 fs r e refl g

passive_is : (context : Context) (l : Label) (ts : List Terminal) (bytes : List ℕ) (r : List Terminal) → Many StringIs ts bytes (Close ∷ r) → data_after context l ts ≡ data_strings l None ts
unfolding data_after
passive_is context l _ _ r by_none = refl
passive_is context l _ _ r (by_more by_string rest) = refl

active_is : (context : Context) (l : Label) (ts us : List Terminal) → ts ≡ Open ∷ us → data_after context l ts ≡ active_data context l ts
unfolding data_after
active_is context l ts us e = subst (λ x. data_after context l x ≡ active_data context l x) (sym e) refl

pub passive_complete : (context : Context) (ts : List Terminal) (bytes : List ℕ) (r : List Terminal) → Many StringIs (label_of ts).1 bytes (Close ∷ r) → data_at context (label_of ts) ≡ Ok (Data (label_of ts).0 None bytes ∷ [], r)
passive_complete context ts bytes r m = passive_is context (label_of ts).0 (label_of ts).1 bytes r m ∙ data_strings_complete (label_of ts).0 None (label_of ts).1 bytes r m

pub active_complete : Laws → (context : Context) (ts os bs : List Terminal) (i : ℕ) (is : List Instruction) (bytes : List ℕ) (r : List Terminal) → UseIs (codes "memory") context.memories (label_of ts).1 i os → ExpressionIs (codes "offset") context os is bs → Many StringIs bs bytes (Close ∷ r)
    → data_at context (label_of ts) ≡ Ok (Data (label_of ts).0 (Some (target i is)) bytes ∷ [], r)
active_complete laws context ts os bs i is bytes r u o m =
    let l = (label_of ts).0 in
    let k = used_opens (codes "memory") context.memories (label_of ts).1 i os u (expression_opens (codes "offset") context os is bs o) in
    active_is context l (label_of ts).1 k.0 k.1
    ∙ ap (λ q. and_then q (λ i us. and_then (expression_at (codes "offset") context us) (λ is vs. data_strings l (Some (target i is)) vs))) (used_complete (codes "memory") kind.Memory context.memories (label_of ts).1 i os u (ends_expression laws (codes "memory") (codes "offset") memory_is_none refl context os is bs o))
    ∙ ap (λ q. and_then q (λ is vs. data_strings l (Some (target i is)) vs)) (expression_complete laws (codes "offset") offset_is_none context os is bs o) ∙ data_strings_complete l (Some (target i is)) bs bytes r m

-- Memories that bring their bytes.

memory_of_sound : (l : Label) (ns : List (List ℕ)) (xs : List Terminal) (bytes : List ℕ) (ts : List Terminal) (fs : List Field) (r : List Terminal) (b : Bool) → is_u32 (pages_of bytes) ≡ b → Gives (if b then Ok (Memory l ns (limits (pages_of bytes) (Some (pages_of bytes))) (Some bytes) ∷ [], ts) else Err (OutOfRange (range.Unsigned (2 ^ 31)), xs)) fs r
    → (is_u32 (pages_of bytes) ≡ true) × (Memory l ns (limits (pages_of bytes) (Some (pages_of bytes))) (Some bytes) ∷ [] ≡ fs) × (ts ≡ r)
memory_of_sound l ns xs bytes ts fs r true e g = (e, g.0, g.1)
memory_of_sound l ns xs bytes ts fs r false e g = absurd g

pub record IsMemoryData (l : Label) (ns : List (List ℕ)) (xs : List Terminal) (fs : List Field) (r : List Terminal) : Type 0 where
  pub bytes : List ℕ
  pub strings : Many StringIs xs bytes (Close ∷ Close ∷ r)
  pub low : is_u32 (pages_of bytes) ≡ true
  pub is : Memory l ns (limits (pages_of bytes) (Some (pages_of bytes))) (Some bytes) ∷ [] ≡ fs

pub memory_data_sound : (l : Label) (ns : List (List ℕ)) (xs : List Terminal) (fs : List Field) (r : List Terminal) → Gives (memory_data l ns xs) fs r → IsMemoryData l ns xs fs r
memory_data_sound l ns xs fs r g =
    let (first, us, e1, g1) = and_then_inv (all string_item xs) (λ bytes us. and_then (closing bytes (skip_two_closes_or expected.TextOrClose us)) (λ bytes vs. memory_of l ns xs bytes vs)) fs r g in
    let (bytes, vs, e2, g2) = and_then_inv (closing first (skip_two_closes_or expected.TextOrClose us)) (λ bytes vs. memory_of l ns xs bytes vs) fs r g1 in
    let (same, shut) = closing_inv first bytes (skip_two_closes_or expected.TextOrClose us) vs (gives_of _ bytes vs e2) in
    let (low, is, end) = memory_of_sound l ns xs bytes vs fs r (is_u32 (pages_of bytes)) refl g2 in
    let m = (all_sound string_item StringIs strings_read first xs us e1).0 in record {
      bytes = bytes;
      strings = subst (λ x. Many StringIs xs x (Close ∷ Close ∷ r)) same (subst (λ x. Many StringIs xs first (Close ∷ Close ∷ x)) end (subst (λ x. Many StringIs xs first x) (twice_closed_or_is expected.TextOrClose us vs shut) m));
      low = low;
      is = is;
    }

pub memory_data_complete : (l : Label) (ns : List (List ℕ)) (ts : List Terminal) (bytes : List ℕ) (r : List Terminal) → Many StringIs ts bytes (Close ∷ Close ∷ r) → is_u32 (pages_of bytes) ≡ true → memory_data l ns ts ≡ Ok (Memory l ns (limits (pages_of bytes) (Some (pages_of bytes))) (Some bytes) ∷ [], r)
unfolding string_item
memory_data_complete l ns ts bytes r m low =
    ap (λ q. and_then q (λ bytes us. and_then (closing bytes (skip_two_closes_or expected.TextOrClose us)) (λ bytes vs. memory_of l ns ts bytes vs))) (all_complete string_item StringIs strings_read bytes ts (Close ∷ Close ∷ r) m refl)
    ∙ ap (λ (b : Bool). if b then Ok (Memory l ns (limits (pages_of bytes) (Some (pages_of bytes))) (Some bytes) ∷ [], r) else Err (OutOfRange (range.Unsigned (2 ^ 31)), ts)) low
