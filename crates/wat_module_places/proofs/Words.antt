-- What the keywords of a module begin.
use Rattle.std.proofs.Common.{◌≡◌, ◌∙◌, ℕ, Bool, true, false, List, [], ◌∷◌, ◌++◌, Option, Some, None, refl, sym, ap, subst}
use Rattle.std.proofs.lemmas.Slice.Eq.{bytes_eq-Decides}
use Rattle.std.specs.Prelude.{if◌then◌else◌, not, ◌&&◌, ◌||◌, bytes_eq, codes, is_some}
use Rattle.wat_module_ast.specs.Fields.{space_of}
use Rattle.wat_module_ast.specs.Grammar.{heap_type, is_else, is_end, is_if, is_then, reference_type, shape, structured, value_type}
use Rattle.wat_module_ast.specs.Memory as memory
use Rattle.wat_module_ast.specs.Table.{Mnemonic, found, high, high_vectors, low, low_vectors, mnemonics, prefixed}
use Rattle.wat_module_places.specs.declared.keywords.Keyword.TheVariants as keyword
use Rattle.wat_module_places.specs.Walk.{block_kind, kind, kind_by}

pub same_word : (w v : List ℕ) → bytes_eq w v ≡ true → w ≡ v
same_word w v e = (bytes_eq-Decides w v).0 e

not_true : (b : Bool) → not b ≡ true → b ≡ false
not_true true e = sym e
not_true false e = refl

left_false : (b c : Bool) → (b || c) ≡ false → b ≡ false
left_false true c e = e
left_false false c e = refl

right_false : (b c : Bool) → (b || c) ≡ false → c ≡ false
right_false true c e = cc
right_false false c e = e

left_true : (b c : Bool) → b ≡ true → (b || c) ≡ true
left_true true c e = refl
left_true false c e = cc

right_true : (b c : Bool) → c ≡ true → (b || c) ≡ true
right_true true c e = refl
right_true false c e = e

none_by : {A : Type 0} (o : Option A) → is_some o ≡ false → o ≡ None
none_by None e = refl
none_by (Some a) e = cc

-- Returns `true` for the keywords of structured instructions and of their parts.
abbrev is_structural : List ℕ → Bool
is_structural w = is_some (structured w) || (is_then w || (is_else w || is_end w))

-- Returns `true` for other keywords of a module: of an immediate, a type, a field, or a part of these.
abbrev is_other : List ℕ → Bool
is_other w =
    is_some (memory.offset w) || (is_some (memory.align w) || (is_some (value_type w) || (is_some (heap_type w) || (is_some (shape w) || (is_some (reference_type w) || (is_some (space_of w)
    || (bytes_eq w (codes "type") || (bytes_eq w (codes "param") || (bytes_eq w (codes "result") || (bytes_eq w (codes "local") || (bytes_eq w (codes "export") || (bytes_eq w (codes "import")
    || (bytes_eq w (codes "mut") || (bytes_eq w (codes "start") || (bytes_eq w (codes "elem") || (bytes_eq w (codes "declare") || (bytes_eq w (codes "item") || (bytes_eq w (codes "data") || bytes_eq w (codes "offset")))))))))))))))))))

-- The table of plain instructions has none of these keywords.

abbrev is_plain_row : Mnemonic → Bool
is_plain_row m = not (is_structural m.word) && not (is_other m.word)

abbrev are_plain : List Mnemonic → Bool
are_plain [] = true
are_plain (m ∷ ms) = is_plain_row m && are_plain ms

first_true : (b c : Bool) → (b && c) ≡ true → b ≡ true
first_true true c e = refl
first_true false c e = e

second_true : (b c : Bool) → (b && c) ≡ true → c ≡ true
second_true true c e = e
second_true false c e = cc

both_true : (b c d : Bool) → (b && c) ≡ true → (c ≡ true → d ≡ true) → (b && d) ≡ true
both_true true c d e f = f e
both_true false c d e f = e

plain_on : (ms ns : List Mnemonic) → are_plain ms ≡ true → are_plain ns ≡ true → are_plain (ms ++ ns) ≡ true
plain_on [] ns e f = f
plain_on (m ∷ ms) ns e f = both_true (is_plain_row m) (are_plain ms) (are_plain (ms ++ ns)) e (λ g. plain_on ms ns g f)

plain_low : are_plain low ≡ true
unfolding low memory.after
plain_low = refl

plain_high : are_plain high ≡ true
unfolding high memory.after
plain_high = refl

plain_prefixed : are_plain prefixed ≡ true
unfolding prefixed memory.after
plain_prefixed = refl

plain_low_vectors : are_plain low_vectors ≡ true
unfolding low_vectors memory.after
plain_low_vectors = refl

plain_high_vectors : are_plain high_vectors ≡ true
unfolding high_vectors memory.after
plain_high_vectors = refl

plain_rows : are_plain mnemonics ≡ true
unfolding mnemonics
plain_rows = plain_on low (high ++ (prefixed ++ (low_vectors ++ high_vectors))) plain_low (plain_on high (prefixed ++ (low_vectors ++ high_vectors)) plain_high (plain_on prefixed (low_vectors ++ high_vectors) plain_prefixed (plain_on low_vectors high_vectors plain_low_vectors plain_high_vectors)))

record IsPlainRow (w : List ℕ) : Type 0 where
  word : is_structural w ≡ false
  other : is_other w ≡ false

row : (w : List ℕ) (m : Mnemonic) → m.word ≡ w → is_plain_row m ≡ true → IsPlainRow w
row w m e p = record {
  word = ap is_structural (sym e) ∙ not_true (is_structural m.word) (first_true (not (is_structural m.word)) (not (is_other m.word)) p);
  other = ap is_other (sym e) ∙ not_true (is_other m.word) (second_true (not (is_structural m.word)) (not (is_other m.word)) p);
}

row_by : (w : List ℕ) (b : Bool) (n m : Mnemonic) (ms : List Mnemonic) → bytes_eq n.word w ≡ b → (is_plain_row n && are_plain ms) ≡ true → (if b then Some n else found w ms) ≡ Some m → (are_plain ms ≡ true → found w ms ≡ Some m → IsPlainRow w) → IsPlainRow w
row_by w true n m ms e p f more = row w n (same_word n.word w e) (first_true (is_plain_row n) (are_plain ms) p)
row_by w false n m ms e p f more = more (second_true (is_plain_row n) (are_plain ms) p) f

row_of : (w : List ℕ) (ms : List Mnemonic) (m : Mnemonic) → are_plain ms ≡ true → found w ms ≡ Some m → IsPlainRow w
row_of w [] m p e = cc
row_of w (n ∷ ms) m p e = row_by w (bytes_eq n.word w) n m ms refl p e (row_of w ms m)

found_row : (w : List ℕ) (m : Mnemonic) → found w mnemonics ≡ Some m → IsPlainRow w
found_row w m e = row_of w mnemonics m plain_rows e

-- Keywords that are not structural.

none_kind : (b c d e : Bool) → b ≡ false → c ≡ false → d ≡ false → (if b then keyword.Then else if c then keyword.Else else if d then keyword.End else if e then keyword.Plain else keyword.Other) ≡ (if e then keyword.Plain else keyword.Other)
none_kind false false false e f g h = refl
none_kind true c d e f g h = cc
none_kind false true d e f g h = cc
none_kind false false true e f g h = cc

unstructured : (w : List ℕ) → is_structural w ≡ false → kind w ≡ (if is_some (found w mnemonics) then keyword.Plain else keyword.Other)
unfolding kind
unstructured w e =
    let f = right_false (is_some (structured w)) (is_then w || (is_else w || is_end w)) e in
    let g = right_false (is_then w) (is_else w || is_end w) f in
    ap (λ o. kind_by o w) (none_by (structured w) (left_false (is_some (structured w)) (is_then w || (is_else w || is_end w)) e))
    ∙ none_kind (is_then w) (is_else w) (is_end w) (is_some (found w mnemonics)) (left_false (is_then w) (is_else w || is_end w) f) (left_false (is_else w) (is_end w) g) (right_false (is_else w) (is_end w) g)

pub plain_word : (w : List ℕ) (m : Mnemonic) → found w mnemonics ≡ Some m → kind w ≡ keyword.Plain
plain_word w m e = unstructured w (found_row w m e).word ∙ ap (λ o. if is_some o then keyword.Plain else keyword.Other) e

abbrev opcode : Bool → Bool → Bool → Option ℕ
opcode b c d = if b then Some 0x02 else if c then Some 0x03 else if d then Some 0x04 else None

-- What holds of each structural keyword.
each : (P : List ℕ → Type 0) → P (codes "block") → P (codes "loop") → P (codes "if") → P (codes "then") → P (codes "else") → P (codes "end")
    → (w : List ℕ) (b c d e f g : Bool) → bytes_eq w (codes "block") ≡ b → bytes_eq w (codes "loop") ≡ c → bytes_eq w (codes "if") ≡ d → is_then w ≡ e → is_else w ≡ f → is_end w ≡ g
    → (is_some (opcode b c d) || (e || (f || g))) ≡ true → P w
each P block loop if_ then_ else_ end_ w true c d e f g i j k l m n h = subst P (sym (same_word w (codes "block") i)) block
each P block loop if_ then_ else_ end_ w false true d e f g i j k l m n h = subst P (sym (same_word w (codes "loop") j)) loop
each P block loop if_ then_ else_ end_ w false false true e f g i j k l m n h = subst P (sym (same_word w (codes "if") k)) if_
each P block loop if_ then_ else_ end_ w false false false true f g i j k l m n h = subst P (sym (same_word w (codes "then") l)) then_
each P block loop if_ then_ else_ end_ w false false false false true g i j k l m n h = subst P (sym (same_word w (codes "else") m)) else_
each P block loop if_ then_ else_ end_ w false false false false false true i j k l m n h = subst P (sym (same_word w (codes "end") n)) end_
each P block loop if_ then_ else_ end_ w false false false false false false i j k l m n h = cc

IsNotOther : List ℕ → Type 0
IsNotOther w = is_other w ≡ false

structural_is_not_other : (w : List ℕ) → is_structural w ≡ true → is_other w ≡ false
unfolding IsNotOther memory.after
structural_is_not_other w e = each IsNotOther refl refl refl refl refl refl w (bytes_eq w (codes "block")) (bytes_eq w (codes "loop")) (bytes_eq w (codes "if")) (is_then w) (is_else w) (is_end w) refl refl refl refl refl refl e

other_structural : (w : List ℕ) (b : Bool) → is_other w ≡ true → is_structural w ≡ b → b ≡ false
other_structural w false h e = refl
other_structural w true h e = let k = structural_is_not_other w e in cc

other_found : (w : List ℕ) (o : Option Mnemonic) → is_other w ≡ true → found w mnemonics ≡ o → o ≡ None
other_found w None h e = refl
other_found w (Some m) h e = let k = (found_row w m e).other in cc

pub other_word : (w : List ℕ) → is_other w ≡ true → kind w ≡ keyword.Other
other_word w h = unstructured w (other_structural w (is_structural w) h refl) ∙ ap (λ o. if is_some o then keyword.Plain else keyword.Other) (other_found w (found w mnemonics) h refl)

-- Each of these keywords.

pub offset_word : (w : List ℕ) → is_some (memory.offset w) ≡ true → kind w ≡ keyword.Other
offset_word w h = other_word w (left_true (is_some (memory.offset w)) (is_some (memory.align w) || (is_some (value_type w) || (is_some (heap_type w) || (is_some (shape w) || (is_some (reference_type w) || (is_some (space_of w) || (bytes_eq w (codes "type") || (bytes_eq w (codes "param") || (bytes_eq w (codes "result") || (bytes_eq w (codes "local") || (bytes_eq w (codes "export") || (bytes_eq w (codes "import") || (bytes_eq w (codes "mut") || (bytes_eq w (codes "start") || (bytes_eq w (codes "elem") || (bytes_eq w (codes "declare") || (bytes_eq w (codes "item") || (bytes_eq w (codes "data") || bytes_eq w (codes "offset"))))))))))))))))))) h)

pub align_word : (w : List ℕ) → is_some (memory.align w) ≡ true → kind w ≡ keyword.Other
align_word w h = other_word w (right_true (is_some (memory.offset w)) (is_some (memory.align w) || (is_some (value_type w) || (is_some (heap_type w) || (is_some (shape w) || (is_some (reference_type w) || (is_some (space_of w) || (bytes_eq w (codes "type") || (bytes_eq w (codes "param") || (bytes_eq w (codes "result") || (bytes_eq w (codes "local") || (bytes_eq w (codes "export") || (bytes_eq w (codes "import") || (bytes_eq w (codes "mut") || (bytes_eq w (codes "start") || (bytes_eq w (codes "elem") || (bytes_eq w (codes "declare") || (bytes_eq w (codes "item") || (bytes_eq w (codes "data") || bytes_eq w (codes "offset"))))))))))))))))))) (left_true (is_some (memory.align w)) (is_some (value_type w) || (is_some (heap_type w) || (is_some (shape w) || (is_some (reference_type w) || (is_some (space_of w) || (bytes_eq w (codes "type") || (bytes_eq w (codes "param") || (bytes_eq w (codes "result") || (bytes_eq w (codes "local") || (bytes_eq w (codes "export") || (bytes_eq w (codes "import") || (bytes_eq w (codes "mut") || (bytes_eq w (codes "start") || (bytes_eq w (codes "elem") || (bytes_eq w (codes "declare") || (bytes_eq w (codes "item") || (bytes_eq w (codes "data") || bytes_eq w (codes "offset")))))))))))))))))) h))

pub value_word : (w : List ℕ) → is_some (value_type w) ≡ true → kind w ≡ keyword.Other
value_word w h = other_word w (right_true (is_some (memory.offset w)) (is_some (memory.align w) || (is_some (value_type w) || (is_some (heap_type w) || (is_some (shape w) || (is_some (reference_type w) || (is_some (space_of w) || (bytes_eq w (codes "type") || (bytes_eq w (codes "param") || (bytes_eq w (codes "result") || (bytes_eq w (codes "local") || (bytes_eq w (codes "export") || (bytes_eq w (codes "import") || (bytes_eq w (codes "mut") || (bytes_eq w (codes "start") || (bytes_eq w (codes "elem") || (bytes_eq w (codes "declare") || (bytes_eq w (codes "item") || (bytes_eq w (codes "data") || bytes_eq w (codes "offset"))))))))))))))))))) (right_true (is_some (memory.align w)) (is_some (value_type w) || (is_some (heap_type w) || (is_some (shape w) || (is_some (reference_type w) || (is_some (space_of w) || (bytes_eq w (codes "type") || (bytes_eq w (codes "param") || (bytes_eq w (codes "result") || (bytes_eq w (codes "local") || (bytes_eq w (codes "export") || (bytes_eq w (codes "import") || (bytes_eq w (codes "mut") || (bytes_eq w (codes "start") || (bytes_eq w (codes "elem") || (bytes_eq w (codes "declare") || (bytes_eq w (codes "item") || (bytes_eq w (codes "data") || bytes_eq w (codes "offset")))))))))))))))))) (left_true (is_some (value_type w)) (is_some (heap_type w) || (is_some (shape w) || (is_some (reference_type w) || (is_some (space_of w) || (bytes_eq w (codes "type") || (bytes_eq w (codes "param") || (bytes_eq w (codes "result") || (bytes_eq w (codes "local") || (bytes_eq w (codes "export") || (bytes_eq w (codes "import") || (bytes_eq w (codes "mut") || (bytes_eq w (codes "start") || (bytes_eq w (codes "elem") || (bytes_eq w (codes "declare") || (bytes_eq w (codes "item") || (bytes_eq w (codes "data") || bytes_eq w (codes "offset"))))))))))))))))) h)))

pub heap_word : (w : List ℕ) → is_some (heap_type w) ≡ true → kind w ≡ keyword.Other
heap_word w h = other_word w (right_true (is_some (memory.offset w)) (is_some (memory.align w) || (is_some (value_type w) || (is_some (heap_type w) || (is_some (shape w) || (is_some (reference_type w) || (is_some (space_of w) || (bytes_eq w (codes "type") || (bytes_eq w (codes "param") || (bytes_eq w (codes "result") || (bytes_eq w (codes "local") || (bytes_eq w (codes "export") || (bytes_eq w (codes "import") || (bytes_eq w (codes "mut") || (bytes_eq w (codes "start") || (bytes_eq w (codes "elem") || (bytes_eq w (codes "declare") || (bytes_eq w (codes "item") || (bytes_eq w (codes "data") || bytes_eq w (codes "offset"))))))))))))))))))) (right_true (is_some (memory.align w)) (is_some (value_type w) || (is_some (heap_type w) || (is_some (shape w) || (is_some (reference_type w) || (is_some (space_of w) || (bytes_eq w (codes "type") || (bytes_eq w (codes "param") || (bytes_eq w (codes "result") || (bytes_eq w (codes "local") || (bytes_eq w (codes "export") || (bytes_eq w (codes "import") || (bytes_eq w (codes "mut") || (bytes_eq w (codes "start") || (bytes_eq w (codes "elem") || (bytes_eq w (codes "declare") || (bytes_eq w (codes "item") || (bytes_eq w (codes "data") || bytes_eq w (codes "offset")))))))))))))))))) (right_true (is_some (value_type w)) (is_some (heap_type w) || (is_some (shape w) || (is_some (reference_type w) || (is_some (space_of w) || (bytes_eq w (codes "type") || (bytes_eq w (codes "param") || (bytes_eq w (codes "result") || (bytes_eq w (codes "local") || (bytes_eq w (codes "export") || (bytes_eq w (codes "import") || (bytes_eq w (codes "mut") || (bytes_eq w (codes "start") || (bytes_eq w (codes "elem") || (bytes_eq w (codes "declare") || (bytes_eq w (codes "item") || (bytes_eq w (codes "data") || bytes_eq w (codes "offset"))))))))))))))))) (left_true (is_some (heap_type w)) (is_some (shape w) || (is_some (reference_type w) || (is_some (space_of w) || (bytes_eq w (codes "type") || (bytes_eq w (codes "param") || (bytes_eq w (codes "result") || (bytes_eq w (codes "local") || (bytes_eq w (codes "export") || (bytes_eq w (codes "import") || (bytes_eq w (codes "mut") || (bytes_eq w (codes "start") || (bytes_eq w (codes "elem") || (bytes_eq w (codes "declare") || (bytes_eq w (codes "item") || (bytes_eq w (codes "data") || bytes_eq w (codes "offset")))))))))))))))) h))))

pub shape_word : (w : List ℕ) → is_some (shape w) ≡ true → kind w ≡ keyword.Other
shape_word w h = other_word w (right_true (is_some (memory.offset w)) (is_some (memory.align w) || (is_some (value_type w) || (is_some (heap_type w) || (is_some (shape w) || (is_some (reference_type w) || (is_some (space_of w) || (bytes_eq w (codes "type") || (bytes_eq w (codes "param") || (bytes_eq w (codes "result") || (bytes_eq w (codes "local") || (bytes_eq w (codes "export") || (bytes_eq w (codes "import") || (bytes_eq w (codes "mut") || (bytes_eq w (codes "start") || (bytes_eq w (codes "elem") || (bytes_eq w (codes "declare") || (bytes_eq w (codes "item") || (bytes_eq w (codes "data") || bytes_eq w (codes "offset"))))))))))))))))))) (right_true (is_some (memory.align w)) (is_some (value_type w) || (is_some (heap_type w) || (is_some (shape w) || (is_some (reference_type w) || (is_some (space_of w) || (bytes_eq w (codes "type") || (bytes_eq w (codes "param") || (bytes_eq w (codes "result") || (bytes_eq w (codes "local") || (bytes_eq w (codes "export") || (bytes_eq w (codes "import") || (bytes_eq w (codes "mut") || (bytes_eq w (codes "start") || (bytes_eq w (codes "elem") || (bytes_eq w (codes "declare") || (bytes_eq w (codes "item") || (bytes_eq w (codes "data") || bytes_eq w (codes "offset")))))))))))))))))) (right_true (is_some (value_type w)) (is_some (heap_type w) || (is_some (shape w) || (is_some (reference_type w) || (is_some (space_of w) || (bytes_eq w (codes "type") || (bytes_eq w (codes "param") || (bytes_eq w (codes "result") || (bytes_eq w (codes "local") || (bytes_eq w (codes "export") || (bytes_eq w (codes "import") || (bytes_eq w (codes "mut") || (bytes_eq w (codes "start") || (bytes_eq w (codes "elem") || (bytes_eq w (codes "declare") || (bytes_eq w (codes "item") || (bytes_eq w (codes "data") || bytes_eq w (codes "offset"))))))))))))))))) (right_true (is_some (heap_type w)) (is_some (shape w) || (is_some (reference_type w) || (is_some (space_of w) || (bytes_eq w (codes "type") || (bytes_eq w (codes "param") || (bytes_eq w (codes "result") || (bytes_eq w (codes "local") || (bytes_eq w (codes "export") || (bytes_eq w (codes "import") || (bytes_eq w (codes "mut") || (bytes_eq w (codes "start") || (bytes_eq w (codes "elem") || (bytes_eq w (codes "declare") || (bytes_eq w (codes "item") || (bytes_eq w (codes "data") || bytes_eq w (codes "offset")))))))))))))))) (left_true (is_some (shape w)) (is_some (reference_type w) || (is_some (space_of w) || (bytes_eq w (codes "type") || (bytes_eq w (codes "param") || (bytes_eq w (codes "result") || (bytes_eq w (codes "local") || (bytes_eq w (codes "export") || (bytes_eq w (codes "import") || (bytes_eq w (codes "mut") || (bytes_eq w (codes "start") || (bytes_eq w (codes "elem") || (bytes_eq w (codes "declare") || (bytes_eq w (codes "item") || (bytes_eq w (codes "data") || bytes_eq w (codes "offset"))))))))))))))) h)))))

pub reference_word : (w : List ℕ) → is_some (reference_type w) ≡ true → kind w ≡ keyword.Other
reference_word w h = other_word w (right_true (is_some (memory.offset w)) (is_some (memory.align w) || (is_some (value_type w) || (is_some (heap_type w) || (is_some (shape w) || (is_some (reference_type w) || (is_some (space_of w) || (bytes_eq w (codes "type") || (bytes_eq w (codes "param") || (bytes_eq w (codes "result") || (bytes_eq w (codes "local") || (bytes_eq w (codes "export") || (bytes_eq w (codes "import") || (bytes_eq w (codes "mut") || (bytes_eq w (codes "start") || (bytes_eq w (codes "elem") || (bytes_eq w (codes "declare") || (bytes_eq w (codes "item") || (bytes_eq w (codes "data") || bytes_eq w (codes "offset"))))))))))))))))))) (right_true (is_some (memory.align w)) (is_some (value_type w) || (is_some (heap_type w) || (is_some (shape w) || (is_some (reference_type w) || (is_some (space_of w) || (bytes_eq w (codes "type") || (bytes_eq w (codes "param") || (bytes_eq w (codes "result") || (bytes_eq w (codes "local") || (bytes_eq w (codes "export") || (bytes_eq w (codes "import") || (bytes_eq w (codes "mut") || (bytes_eq w (codes "start") || (bytes_eq w (codes "elem") || (bytes_eq w (codes "declare") || (bytes_eq w (codes "item") || (bytes_eq w (codes "data") || bytes_eq w (codes "offset")))))))))))))))))) (right_true (is_some (value_type w)) (is_some (heap_type w) || (is_some (shape w) || (is_some (reference_type w) || (is_some (space_of w) || (bytes_eq w (codes "type") || (bytes_eq w (codes "param") || (bytes_eq w (codes "result") || (bytes_eq w (codes "local") || (bytes_eq w (codes "export") || (bytes_eq w (codes "import") || (bytes_eq w (codes "mut") || (bytes_eq w (codes "start") || (bytes_eq w (codes "elem") || (bytes_eq w (codes "declare") || (bytes_eq w (codes "item") || (bytes_eq w (codes "data") || bytes_eq w (codes "offset"))))))))))))))))) (right_true (is_some (heap_type w)) (is_some (shape w) || (is_some (reference_type w) || (is_some (space_of w) || (bytes_eq w (codes "type") || (bytes_eq w (codes "param") || (bytes_eq w (codes "result") || (bytes_eq w (codes "local") || (bytes_eq w (codes "export") || (bytes_eq w (codes "import") || (bytes_eq w (codes "mut") || (bytes_eq w (codes "start") || (bytes_eq w (codes "elem") || (bytes_eq w (codes "declare") || (bytes_eq w (codes "item") || (bytes_eq w (codes "data") || bytes_eq w (codes "offset")))))))))))))))) (right_true (is_some (shape w)) (is_some (reference_type w) || (is_some (space_of w) || (bytes_eq w (codes "type") || (bytes_eq w (codes "param") || (bytes_eq w (codes "result") || (bytes_eq w (codes "local") || (bytes_eq w (codes "export") || (bytes_eq w (codes "import") || (bytes_eq w (codes "mut") || (bytes_eq w (codes "start") || (bytes_eq w (codes "elem") || (bytes_eq w (codes "declare") || (bytes_eq w (codes "item") || (bytes_eq w (codes "data") || bytes_eq w (codes "offset"))))))))))))))) (left_true (is_some (reference_type w)) (is_some (space_of w) || (bytes_eq w (codes "type") || (bytes_eq w (codes "param") || (bytes_eq w (codes "result") || (bytes_eq w (codes "local") || (bytes_eq w (codes "export") || (bytes_eq w (codes "import") || (bytes_eq w (codes "mut") || (bytes_eq w (codes "start") || (bytes_eq w (codes "elem") || (bytes_eq w (codes "declare") || (bytes_eq w (codes "item") || (bytes_eq w (codes "data") || bytes_eq w (codes "offset")))))))))))))) h))))))

pub space_word : (w : List ℕ) → is_some (space_of w) ≡ true → kind w ≡ keyword.Other
space_word w h = other_word w (right_true (is_some (memory.offset w)) (is_some (memory.align w) || (is_some (value_type w) || (is_some (heap_type w) || (is_some (shape w) || (is_some (reference_type w) || (is_some (space_of w) || (bytes_eq w (codes "type") || (bytes_eq w (codes "param") || (bytes_eq w (codes "result") || (bytes_eq w (codes "local") || (bytes_eq w (codes "export") || (bytes_eq w (codes "import") || (bytes_eq w (codes "mut") || (bytes_eq w (codes "start") || (bytes_eq w (codes "elem") || (bytes_eq w (codes "declare") || (bytes_eq w (codes "item") || (bytes_eq w (codes "data") || bytes_eq w (codes "offset"))))))))))))))))))) (right_true (is_some (memory.align w)) (is_some (value_type w) || (is_some (heap_type w) || (is_some (shape w) || (is_some (reference_type w) || (is_some (space_of w) || (bytes_eq w (codes "type") || (bytes_eq w (codes "param") || (bytes_eq w (codes "result") || (bytes_eq w (codes "local") || (bytes_eq w (codes "export") || (bytes_eq w (codes "import") || (bytes_eq w (codes "mut") || (bytes_eq w (codes "start") || (bytes_eq w (codes "elem") || (bytes_eq w (codes "declare") || (bytes_eq w (codes "item") || (bytes_eq w (codes "data") || bytes_eq w (codes "offset")))))))))))))))))) (right_true (is_some (value_type w)) (is_some (heap_type w) || (is_some (shape w) || (is_some (reference_type w) || (is_some (space_of w) || (bytes_eq w (codes "type") || (bytes_eq w (codes "param") || (bytes_eq w (codes "result") || (bytes_eq w (codes "local") || (bytes_eq w (codes "export") || (bytes_eq w (codes "import") || (bytes_eq w (codes "mut") || (bytes_eq w (codes "start") || (bytes_eq w (codes "elem") || (bytes_eq w (codes "declare") || (bytes_eq w (codes "item") || (bytes_eq w (codes "data") || bytes_eq w (codes "offset"))))))))))))))))) (right_true (is_some (heap_type w)) (is_some (shape w) || (is_some (reference_type w) || (is_some (space_of w) || (bytes_eq w (codes "type") || (bytes_eq w (codes "param") || (bytes_eq w (codes "result") || (bytes_eq w (codes "local") || (bytes_eq w (codes "export") || (bytes_eq w (codes "import") || (bytes_eq w (codes "mut") || (bytes_eq w (codes "start") || (bytes_eq w (codes "elem") || (bytes_eq w (codes "declare") || (bytes_eq w (codes "item") || (bytes_eq w (codes "data") || bytes_eq w (codes "offset")))))))))))))))) (right_true (is_some (shape w)) (is_some (reference_type w) || (is_some (space_of w) || (bytes_eq w (codes "type") || (bytes_eq w (codes "param") || (bytes_eq w (codes "result") || (bytes_eq w (codes "local") || (bytes_eq w (codes "export") || (bytes_eq w (codes "import") || (bytes_eq w (codes "mut") || (bytes_eq w (codes "start") || (bytes_eq w (codes "elem") || (bytes_eq w (codes "declare") || (bytes_eq w (codes "item") || (bytes_eq w (codes "data") || bytes_eq w (codes "offset"))))))))))))))) (right_true (is_some (reference_type w)) (is_some (space_of w) || (bytes_eq w (codes "type") || (bytes_eq w (codes "param") || (bytes_eq w (codes "result") || (bytes_eq w (codes "local") || (bytes_eq w (codes "export") || (bytes_eq w (codes "import") || (bytes_eq w (codes "mut") || (bytes_eq w (codes "start") || (bytes_eq w (codes "elem") || (bytes_eq w (codes "declare") || (bytes_eq w (codes "item") || (bytes_eq w (codes "data") || bytes_eq w (codes "offset")))))))))))))) (left_true (is_some (space_of w)) (bytes_eq w (codes "type") || (bytes_eq w (codes "param") || (bytes_eq w (codes "result") || (bytes_eq w (codes "local") || (bytes_eq w (codes "export") || (bytes_eq w (codes "import") || (bytes_eq w (codes "mut") || (bytes_eq w (codes "start") || (bytes_eq w (codes "elem") || (bytes_eq w (codes "declare") || (bytes_eq w (codes "item") || (bytes_eq w (codes "data") || bytes_eq w (codes "offset"))))))))))))) h)))))))

pub type_word : kind (codes "type") ≡ keyword.Other
unfolding memory.after
type_word = other_word (codes "type") refl

pub param_word : kind (codes "param") ≡ keyword.Other
unfolding memory.after
param_word = other_word (codes "param") refl

pub result_word : kind (codes "result") ≡ keyword.Other
unfolding memory.after
result_word = other_word (codes "result") refl

pub local_word : kind (codes "local") ≡ keyword.Other
unfolding memory.after
local_word = other_word (codes "local") refl

pub export_word : kind (codes "export") ≡ keyword.Other
unfolding memory.after
export_word = other_word (codes "export") refl

pub import_word : kind (codes "import") ≡ keyword.Other
unfolding memory.after
import_word = other_word (codes "import") refl

pub mut_word : kind (codes "mut") ≡ keyword.Other
unfolding memory.after
mut_word = other_word (codes "mut") refl

pub start_word : kind (codes "start") ≡ keyword.Other
unfolding memory.after
start_word = other_word (codes "start") refl

pub elem_word : kind (codes "elem") ≡ keyword.Other
unfolding memory.after
elem_word = other_word (codes "elem") refl

pub declare_word : kind (codes "declare") ≡ keyword.Other
unfolding memory.after
declare_word = other_word (codes "declare") refl

pub item_word : kind (codes "item") ≡ keyword.Other
unfolding memory.after
item_word = other_word (codes "item") refl

pub data_word : kind (codes "data") ≡ keyword.Other
unfolding memory.after
data_word = other_word (codes "data") refl

pub offset_word_alone : kind (codes "offset") ≡ keyword.Other
unfolding memory.after
offset_word_alone = other_word (codes "offset") refl

pub func_word : kind (codes "func") ≡ keyword.Other
unfolding memory.after
func_word = other_word (codes "func") refl

pub table_word : kind (codes "table") ≡ keyword.Other
unfolding memory.after
table_word = other_word (codes "table") refl

pub memory_word : kind (codes "memory") ≡ keyword.Other
unfolding memory.after
memory_word = other_word (codes "memory") refl

pub global_word : kind (codes "global") ≡ keyword.Other
unfolding memory.after
global_word = other_word (codes "global") refl

-- The structural keywords.

pub block_word : (w : List ℕ) (o : ℕ) → structured w ≡ Some o → kind w ≡ block_kind (is_if o)
unfolding kind
block_word w o e = ap (λ o. kind_by o w) e

pub then_word : (w : List ℕ) → is_then w ≡ true → kind w ≡ keyword.Then
unfolding kind
then_word w e = ap kind (same_word w (codes "then") e)

pub else_word : (w : List ℕ) → is_else w ≡ true → kind w ≡ keyword.Else
unfolding kind
else_word w e = ap kind (same_word w (codes "else") e)

pub end_word : (w : List ℕ) → is_end w ≡ true → kind w ≡ keyword.End
unfolding kind
end_word w e = ap kind (same_word w (codes "end") e)
