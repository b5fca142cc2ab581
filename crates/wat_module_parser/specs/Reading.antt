-- How the code parses the fields of a module. A theorem (`ReadingIsGrammar` in `Law`) states that the parsed fields are
-- those of the grammar, so nothing here has to be trusted for them. The standard does not define which error a text
-- has; that is defined here. Section numbers are those of WebAssembly 2.0.
use Rattle.std.specs.Prelude.{ℕ, zero, suc, Bool, true, false, ◌^◌, List, [], ◌∷◌, ◌++◌, length, map, codes, bytes_eq, nat_lt, slice_get, is_some, ◌||◌, Option, Some, None, Result, Ok, Err, if◌then◌else◌}
use Rattle.std.specs.List.{flat_map}
use Rattle.std.specs.Str.{is_utf8}
use Rattle.wat_module_ast.specs.declared.instruction.Instruction.{Instruction}
use Rattle.wat_module_ast.specs.declared.error.Expected.{Expected}
use Rattle.wat_module_ast.specs.declared.error.Expected.TheVariants as expected
use Rattle.wat_module_ast.specs.declared.error.Range.TheVariants as range
use Rattle.wat_module_ast.specs.declared.error.Space.{Space}
use Rattle.wat_module_ast.specs.declared.error.Space.TheVariants as kind
use Rattle.wat_module_ast.specs.declared.error.FaultKind.TheVariants.{Unexpected, UnknownWord, UnknownName, OutOfRange, NotUtf8, OtherType}
use Rattle.wat_module_ast.specs.declared.instruction.ReferenceType.{ReferenceType}
use Rattle.wat_module_ast.specs.declared.instruction.ReferenceType.TheVariants as reference
use Rattle.wat_module_ast.specs.declared.instruction.ValueType.{ValueType}
pub use Rattle.wat_module_ast.specs.Grammar.{after, after_word}
use Rattle.wat_module_ast.specs.Grammar.{Context, Fault, index, is_index, label_of, reference_type, small, value_type}
use Rattle.wat_module_instructions.specs.Machine.{body, folded}
use Rattle.wat_module_ast.specs.Types.{FunctionType, Types, same_type}
use Rattle.wat_module_tokens.specs.Terminals.{Terminal, Open, Close, Word, Id, Integer, Text, Label}
use Rattle.wat_module_ast.specs.declared.fields.GlobalType.{GlobalType}
use Rattle.wat_module_ast.specs.declared.fields.IndexSpace.{IndexSpace}
use Rattle.wat_module_ast.specs.declared.fields.IndexSpace.TheVariants as space
use Rattle.wat_module_ast.specs.declared.fields.Limits.{Limits}
use Rattle.wat_module_ast.specs.declared.fields.TableType.{TableType}
use Rattle.wat_module_ast.specs.Fields.{Field, Func, Table, Memory, Global, Export, Import, TypeField, Start, Function, NamedUse, ExternType, FuncType, OfTable, OfMemory, OfGlobal, Definition, Binding, Variable, binding, definition, definition_type, function_type, label_associations, local_associations, named_use, variable, unnamed, name_of, names_of, context_of, type_of, types_in, with_locals, without_names, all_distinct, imports_first, space_of, starts_of, Data, Elem, ElemMode, Passive, Active, Declarative, Elements, ref_func, table_of, Target, target, is_u32, pages_of}
use Rattle.wat_module_ast.specs.Names.{are_distinct}
use Rattle.wat_module_ast.specs.Uses.{unknown}
use Rattle.wat_module_ast.specs.ImplicitTypes.{types_of}
use Rattle.wat_module_parser.specs.Places.{duplicate_item, duplicate_variable, import_fault, start_fault}

-- The result of a parser: a value and the tokens after it, or the error.
abbrev pub Read : Type 0 → Type 0
Read V = Result (V × List Terminal) Fault

-- The parser `next` after a result, or the error of the result.
abbrev pub and_then : {V W : Type 0} → Read V → (V → List Terminal → Read W) → Read W
and_then (Ok (v, ts)) next = next v ts
and_then (Err f) next = Err f

-- The result of a parser of optional items: `None` if no such item is next, otherwise the values of an
-- item and the tokens after it, or the error.
abbrev pub Item : Type 0 → Type 0
Item V = Option (Read (List V))

-- The values `vs` if no item is next, otherwise `next` with the values of the item appended, or the error of the item.
abbrev pub many_by : {V : Type 0} → (List V → List Terminal → Read (List V)) → List V → List Terminal → Item V → Read (List V)
many_by next vs ts None = Ok (vs, ts)
many_by next vs ts (Some (Ok (ws, us))) = next (vs ++ ws) us
many_by next vs ts (Some (Err f)) = Err f

-- The values of items, fewer than `n`, appended to `vs`.
unfoldable pub many : {V : Type 0} → (List Terminal → Item V) → ℕ → List V → List Terminal → Read (List V)
many item zero vs ts = Err (Unexpected expected.Close, ts)
many item (suc n) vs ts = many_by (many item n) vs ts (item ts)

-- 6.1.1, `item*`: the values of all items that follow.
unfoldable pub all : {V : Type 0} → (List Terminal → Item V) → List Terminal → Read (List V)
all item ts = many item (suc (length ts)) [] ts

-- The tokens after a `)`, which must be next; otherwise an error, with what the grammar accepts there.
abbrev pub closed_or : Expected → List Terminal → Result (List Terminal) Fault
closed_or e (Close ∷ ts) = Ok ts
closed_or e ts = Err (Unexpected e, ts)

-- The tokens after a `)`, which must be next, and which alone the grammar accepts there.
abbrev pub closed : List Terminal → Result (List Terminal) Fault
closed ts = closed_or expected.Close ts

-- The tokens after a second `)`, which must be next, by the result of the first.
abbrev pub closed_again : Result (List Terminal) Fault → Result (List Terminal) Fault
closed_again (Ok ts) = closed ts
closed_again (Err f) = Err f

-- The tokens after two `)`, which must be next; before the first, the grammar also accepts what `e` says.
abbrev pub skip_two_closes_or : Expected → List Terminal → Result (List Terminal) Fault
skip_two_closes_or e ts = closed_again (closed_or e ts)

-- The tokens after two `)`, which must be next, and which alone the grammar accepts there.
abbrev pub skip_two_closes : List Terminal → Result (List Terminal) Fault
skip_two_closes ts = skip_two_closes_or expected.Close ts

-- The value `v`, by the result of the `)` after it.
abbrev pub closing : {V : Type 0} → V → Result (List Terminal) Fault → Read V
closing v (Ok ts) = Ok (v, ts)
closing v (Err f) = Err f

-- The item that `rest` parses after its opening tokens, or `None` without them.
abbrev pub begun : {V : Type 0} → (List Terminal → Read (List V)) → Option (List Terminal) → Item V
begun rest None = None
begun rest (Some ts) = Some (rest ts)

-- 6.3.4, name: a string that is UTF-8.
abbrev pub utf8_text : List Terminal → Read (List ℕ)
utf8_text (Text n ∷ ts) = if is_utf8 n then Ok (n, ts) else Err (NotUtf8, Text n ∷ ts)
utf8_text ts = Err (Unexpected expected.Text, ts)

-- 6.6.5 to 6.6.8: an inline export after `(export`.
unfoldable pub export : List Terminal → Read (List (List ℕ))
export ts = and_then (utf8_text ts) (λ n us. closing (n ∷ []) (closed us))

-- 6.6.5 to 6.6.8: an inline export, if one is next.
unfoldable pub export_item : List Terminal → Item (List ℕ)
export_item ts = begun export (after (codes "export") ts)

-- The value type of a keyword, or an error at the tokens `all`, which begin with the keyword.
abbrev pub typed : Option ValueType → List Terminal → List Terminal → Read (List ValueType)
typed None all ts = Err (UnknownWord expected.ValueTypeOrClose, all)
typed (Some t) all ts = Ok (t ∷ [], ts)

-- 6.4.4, `valtype`, if a keyword is next.
unfoldable pub value_item : List Terminal → Item ValueType
value_item (Word w ∷ ts) = Some (typed (value_type w) (Word w ∷ ts) ts)
value_item ts = None

-- 6.4.5, 6.6.5: what the grammar accepts after the value types of a group, which begin at these tokens: another one, or
-- `)`. Before the first one, also an identifier, if the flag is true.
abbrev pub after_values : Bool → List Terminal → Expected
after_values true (Word w ∷ ts) = expected.ValueTypeOrClose
after_values true ts = expected.VariableOrClose
after_values false ts = expected.ValueTypeOrClose

-- 6.4.5: value types and the `)` of their group, as variables without an identifier.
unfoldable pub listed : Bool → List Terminal → Read (List Variable)
listed may_have_name ts = and_then (all value_item ts) (λ types us. closing (map unnamed types) (closed_or (after_values may_have_name ts) us))

-- A variable with the identifier `x` and the type of a keyword, and the `)` of its group.
abbrev pub named_type : List ℕ → Option ValueType → List Terminal → List Terminal → Read (List Variable)
named_type x None all ts = Err (UnknownWord expected.ValueType, all)
named_type x (Some t) all ts = closing (variable (Some x) t ∷ []) (closed ts)

-- 6.4.5: a value type and the `)` of its group, after the identifier `x`.
abbrev pub named_group : List ℕ → List Terminal → Read (List Variable)
named_group x (Word w ∷ ts) = named_type x (value_type w) (Word w ∷ ts) ts
named_group x ts = Err (Unexpected expected.ValueType, ts)

-- 6.4.5, 6.6.5: a group of parameters, results or locals after its keyword.
unfoldable pub group : Bool → List Terminal → Read (List Variable)
group may_have_name (Id x ∷ ts) = if may_have_name then named_group x ts else Err (Unexpected expected.ValueTypeOrClose, Id x ∷ ts)
group may_have_name ts = listed may_have_name ts

-- 6.4.5, 6.6.5: a group with the keyword `word`, if one is next.
unfoldable pub group_item : List ℕ → Bool → List Terminal → Item Variable
group_item word may_have_name ts = begun (group may_have_name) (after word ts)

-- 6.4.5: `param*`.
abbrev pub params : List Terminal → Read (List Variable)
params ts = all (group_item (codes "param") true) ts

-- 6.4.5: `result*`.
abbrev pub results : List Terminal → Read (List Variable)
results ts = all (group_item (codes "result") false) ts

-- 6.6.5: `local*`.
abbrev pub locals : List Terminal → Read (List Variable)
locals ts = all (group_item (codes "local") true) ts

-- 6.4.5: what the grammar accepts after the results of a function type, which begin at these tokens: further results, or
-- `)`. Before the first results, also parameters.
abbrev pub after_results : List Terminal → Expected
after_results ts = if is_some (after (codes "result") ts) then expected.ResultOrClose else expected.ParamOrResultOrClose

-- 6.6.3, type use without an index: `param* result*`.
abbrev pub listed_use : List Terminal → Read NamedUse
listed_use ts = and_then (params ts) (λ ps us. and_then (results us) (λ rs vs. Ok (named_use None ps rs, vs)))

-- A type use with the index `i` whose lists must be those of its type `t`; otherwise an error at
-- the tokens `all`, which begin with the index.
abbrev pub agreed_lists : ℕ → FunctionType → List Variable → List Variable → List Terminal → List Terminal → Read NamedUse
agreed_lists i t ps rs all ts = if same_type (function_type ps rs) t then Ok (named_use (Some i) ps rs, ts) else Err (OtherType, all)

-- Returns `true` if both lists are empty.
abbrev pub list_nothing : List Variable → List Variable → Bool
list_nothing [] [] = true
list_nothing ps rs = false

-- A type use with the index `i` and its type `t`. Empty lists mean those of `t`.
abbrev pub agreed : ℕ → FunctionType → List Variable → List Variable → List Terminal → List Terminal → Read NamedUse
agreed i t ps rs all ts = if list_nothing ps rs then Ok (named_use (Some i) (map unnamed t.params) (map unnamed t.results), ts) else agreed_lists i t ps rs all ts

-- The lists of a type use after its index `i`, by the type with this index; the tokens `all` begin with the index.
abbrev pub lists_after : ℕ → Option FunctionType → List Terminal → List Terminal → Read NamedUse
lists_after i None all ts = Err (UnknownName kind.Type, all)
lists_after i (Some t) all ts = and_then (params ts) (λ ps us. and_then (results us) (λ rs vs. agreed i t ps rs all vs))

-- The lists of a type use after its index `i` if the types are not known.
abbrev pub assumed_use : ℕ → List Terminal → Read NamedUse
assumed_use i ts = and_then (params ts) (λ ps us. and_then (results us) (λ rs vs. Ok (named_use (Some i) ps rs, vs)))

-- The lists of a type use after its index `i`; the types may be unknown.
abbrev pub either_use : Types → ℕ → List Terminal → List Terminal → Read NamedUse
either_use types i all ts = if types.are_known then lists_after i (slice_get types.types i) all ts else assumed_use i ts

-- 6.6.3, type use with an index, after `(type`.
abbrev pub indexed_use : Types → List Terminal → Read NamedUse
indexed_use types ts = and_then (index kind.Type types.names ts) (λ i us. and_then (closing i (closed us)) (λ i vs. either_use types i ts vs))

abbrev pub use_by : Types → Option (List Terminal) → List Terminal → Read NamedUse
use_by types None all = listed_use all
use_by types (Some ts) all = indexed_use types ts

-- 6.6.3, `typeuse`.
unfoldable pub use_at : Types → List Terminal → Read NamedUse
use_at types ts = use_by types (after (codes "type") ts) ts

-- 6.6.5: the function with this identifier, these inline exports, this type use, these locals and these instructions,
-- with which the tokens `ts` begin.
abbrev pub function : Label → List (List ℕ) → NamedUse → List Variable → List Terminal → List Instruction → Function
function l ns u ls ts is = record { name = l; exports = ns; uses = without_names u; locals = map type_of ls; body = is; local_names = local_associations u.params ls; label_names = label_associations ts }

-- 6.6.5: the instructions of a function, after its parameters `ps` and locals `ls`, whose identifiers must be distinct;
-- the tokens `start` begin with the type use.
unfoldable pub instructions : Context → List Variable → List Variable → List Terminal → List Terminal → Read (List Instruction)
instructions context ps ls start ts = if are_distinct (map name_of (ps ++ ls)) then body (with_locals context (ps ++ ls)) ts else Err (duplicate_variable start)

-- 6.6.5: a function after its identifier and its inline exports.
abbrev pub func_at : Types → Context → Label → List (List ℕ) → List Terminal → Read (List Field)
func_at types context l ns ts = and_then (use_at types ts) (λ u us. and_then (locals us) (λ ls vs. and_then (instructions context u.params ls ts vs) (λ is xs. Ok (Func (function l ns u ls vs is) ∷ [], xs))))

abbrev pub limits : ℕ → Option ℕ → Limits
limits n m = record { min = n; max = m }

-- 6.4.6: the maximum of limits, if there is one, after the minimum `n`.
abbrev pub max_at : ℕ → List Terminal → Read Limits
max_at n (Integer s m ∷ ts) = and_then (small s m (Integer s m ∷ ts) ts) (λ m us. Ok (limits n (Some m), us))
max_at n ts = Ok (limits n None, ts)

-- 6.4.6, `limits`; or an error, with what the grammar accepts there.
unfoldable pub limits_at : Expected → List Terminal → Read Limits
limits_at e (Integer s n ∷ ts) = and_then (small s n (Integer s n ∷ ts) ts) (λ n us. max_at n us)
limits_at e ts = Err (Unexpected e, ts)

-- 6.4.7: what the grammar accepts after the limits of a memory with this maximum: a maximum, if there is none, or `)`.
abbrev pub after_memory_limits : Option ℕ → Expected
after_memory_limits None = expected.MaximumOrClose
after_memory_limits (Some n) = expected.Close

-- 6.4.8: what the grammar accepts after the limits of a table with this maximum: a maximum, if there is none, or a
-- reference type.
abbrev pub after_table_limits : Option ℕ → Expected
after_table_limits None = expected.MaximumOrReferenceType
after_table_limits (Some n) = expected.ReferenceType

abbrev pub reference_by : Expected → Option ReferenceType → List Terminal → List Terminal → Read ReferenceType
reference_by e None all ts = Err (UnknownWord e, all)
reference_by e (Some t) all ts = Ok (t, ts)

-- 6.4.3, `reftype`; or an error, with what the grammar accepts there.
unfoldable pub reference_at : Expected → List Terminal → Read ReferenceType
reference_at e (Word w ∷ ts) = reference_by e (reference_type w) (Word w ∷ ts) ts
reference_at e ts = Err (Unexpected e, ts)

abbrev pub table_type : Limits → ReferenceType → TableType
table_type limits t = record { limits = limits; element = t }

-- 6.4.8, `tabletype`; or an error, with what the grammar accepts there if its limits are missing.
unfoldable pub table_type_at : Expected → List Terminal → Read TableType
table_type_at e ts = and_then (limits_at e ts) (λ limits us. and_then (reference_at (after_table_limits limits.max) us) (λ t vs. Ok (table_type limits t, vs)))

-- 6.5.10: one folded instruction, which must be next.
abbrev pub one_at : Context → List Terminal → Read (List Instruction)
one_at context (Open ∷ ts) = folded context ts
one_at context ts = Err (Unexpected expected.Expression, ts)

abbrev pub expression_by : Context → Option (List Terminal) → List Terminal → Read (List Instruction)
expression_by context None start = one_at context start
expression_by context (Some ts) start = body context ts

-- 6.6.11, 6.6.12: an expression `(word instr*)`, or one folded instruction.
unfoldable pub expression_at : List ℕ → Context → List Terminal → Read (List Instruction)
expression_at word context ts = expression_by context (after word ts) ts

-- The element with the instructions of a result.
abbrev pub one_element : Read (List Instruction) → Read Elements
one_element (Ok (is, ts)) = Ok (is ∷ [], ts)
one_element (Err f) = Err f

-- 6.6.11, `elemexpr`: an element by its instructions, if `(` is next.
unfoldable pub element_item : Context → List Terminal → Item (List Instruction)
element_item context (Open ∷ ts) = Some (one_element (expression_at (codes "item") context (Open ∷ ts)))
element_item context ts = None

-- The element `ref.func x` for the index `x` of a result.
abbrev pub one_function : Read ℕ → Read Elements
one_function (Ok (x, ts)) = Ok (ref_func x ∷ [], ts)
one_function (Err f) = Err f

-- 6.6.11: an element by the index of its function, if an integer or an identifier is next.
unfoldable pub function_item : Context → List Terminal → Item (List Instruction)
function_item context (Integer s n ∷ ts) = Some (one_function (index kind.Func context.funcs (Integer s n ∷ ts)))
function_item context (Id x ∷ ts) = Some (one_function (index kind.Func context.funcs (Id x ∷ ts)))
function_item context ts = None

-- 6.6.6: a table by its type, and its `)`.
abbrev pub table_limits : Label → List (List ℕ) → List Terminal → Read (List Field)
table_limits l ns ts = and_then (table_type_at expected.TableDefinition ts) (λ t us. closing (Table l ns t None ∷ []) (closed us))

-- 6.6.6: the inline elements of a table, all by their instructions or all by the indices of their functions.
unfoldable pub either_at : Context → List Terminal → Read Elements
either_at context (Open ∷ ts) = all (element_item context) (Open ∷ ts)
either_at context ts = all (function_item context) ts

-- 6.6.6: what the grammar accepts after the inline elements of a table, which begin at these tokens: another one of the
-- kind of the first, or `)`.
abbrev pub after_either : List Terminal → Expected
after_either (Open ∷ ts) = expected.ExpressionOrClose
after_either ts = if is_index ts then expected.FunctionOrClose else expected.ElementOrClose

-- 6.6.6: a table with inline elements, whose number must be a `u32`; otherwise an error at the tokens `start`.
abbrev pub table_with : Label → List (List ℕ) → ReferenceType → List Terminal → Elements → List Terminal → Read (List Field)
table_with l ns t start es ts = if is_u32 (length es) then Ok (Table l ns (table_of t es) (Some es) ∷ [], ts) else Err (OutOfRange (range.Unsigned (2 ^ 31)), start)

-- 6.6.6: a table with inline elements, after `(elem`.
abbrev pub table_elements : Context → Label → List (List ℕ) → ReferenceType → List Terminal → Read (List Field)
table_elements context l ns t ts = and_then (either_at context ts) (λ es us. and_then (closing es (skip_two_closes_or (after_either ts) us)) (λ es vs. table_with l ns t ts es vs))

-- 6.6.6: a table with inline elements, after its reference type; `(elem` must follow.
abbrev pub table_open : Context → Label → List (List ℕ) → ReferenceType → Option (List Terminal) → List Terminal → Read (List Field)
table_open context l ns t None start = Err (Unexpected expected.Elem, start)
table_open context l ns t (Some ts) start = table_elements context l ns t ts

abbrev pub table_by : Context → Label → List (List ℕ) → Option ReferenceType → List Terminal → List Terminal → Read (List Field)
table_by context l ns None start ts = Err (UnknownWord expected.TableDefinition, start)
table_by context l ns (Some t) start ts = table_open context l ns t (after (codes "elem") ts) ts

-- 6.6.6: a table after its identifier and its inline exports.
unfoldable pub table_at : Context → Label → List (List ℕ) → List Terminal → Read (List Field)
table_at context l ns (Word w ∷ ts) = table_by context l ns (reference_type w) (Word w ∷ ts) ts
table_at context l ns ts = table_limits l ns ts

-- 6.6.12: the bytes of a string, if one is next.
unfoldable pub string_item : List Terminal → Item ℕ
string_item (Text v ∷ ts) = Some (Ok (v, ts))
string_item ts = None

-- 6.6.7: a memory by its limits, and its `)`.
abbrev pub memory_type : Label → List (List ℕ) → List Terminal → Read (List Field)
memory_type l ns ts = and_then (limits_at expected.MemoryDefinition ts) (λ limits us. closing (Memory l ns limits None ∷ []) (closed_or (after_memory_limits limits.max) us))

-- 6.6.7: a memory with inline data, whose number of pages must be a `u32`; otherwise an error at the tokens `all`.
abbrev pub memory_of : Label → List (List ℕ) → List Terminal → List ℕ → List Terminal → Read (List Field)
memory_of l ns all bytes ts = if is_u32 (pages_of bytes) then Ok (Memory l ns (limits (pages_of bytes) (Some (pages_of bytes))) (Some bytes) ∷ [], ts) else Err (OutOfRange (range.Unsigned (2 ^ 31)), all)

-- 6.6.7: a memory with inline data, after `(data`.
abbrev pub memory_data : Label → List (List ℕ) → List Terminal → Read (List Field)
memory_data l ns ts = and_then (all string_item ts) (λ bytes us. and_then (closing bytes (skip_two_closes_or expected.TextOrClose us)) (λ bytes vs. memory_of l ns ts bytes vs))

abbrev pub memory_by : Label → List (List ℕ) → Option (List Terminal) → List Terminal → Read (List Field)
memory_by l ns None all = memory_type l ns all
memory_by l ns (Some ts) all = memory_data l ns ts

-- 6.6.7: a memory after its identifier and its inline exports.
abbrev pub memory_at : Label → List (List ℕ) → List Terminal → Read (List Field)
memory_at l ns ts = memory_by l ns (after (codes "data") ts) ts

abbrev pub global_type : Bool → ValueType → GlobalType
global_type b t = record { is_mutable = b; value = t }

abbrev pub constant_by : Expected → Option ValueType → List Terminal → List Terminal → Read GlobalType
constant_by e None all ts = Err (UnknownWord e, all)
constant_by e (Some t) all ts = Ok (global_type false t, ts)

abbrev pub mutable_by : Option ValueType → List Terminal → List Terminal → Read GlobalType
mutable_by None all ts = Err (UnknownWord expected.ValueType, all)
mutable_by (Some t) all ts = closing (global_type true t) (closed ts)

-- 6.4.9: a value type and `)`, after `(mut`.
abbrev pub mutable_type : List Terminal → Read GlobalType
mutable_type (Word w ∷ ts) = mutable_by (value_type w) (Word w ∷ ts) ts
mutable_type ts = Err (Unexpected expected.ValueType, ts)

-- 6.4.9: a mutable global type after `(`.
abbrev pub mutable_at : List Terminal → Read GlobalType
mutable_at (Word v ∷ ts) = if bytes_eq v (codes "mut") then mutable_type ts else Err (Unexpected expected.Mut, Word v ∷ ts)
mutable_at ts = Err (Unexpected expected.Mut, ts)

-- 6.4.9, `globaltype`; or an error, with what the grammar accepts there.
unfoldable pub global_type_at : Expected → List Terminal → Read GlobalType
global_type_at e (Word w ∷ ts) = constant_by e (value_type w) (Word w ∷ ts) ts
global_type_at e (Open ∷ ts) = mutable_at ts
global_type_at e ts = Err (Unexpected e, ts)

-- 6.6.8: a global after its identifier and its inline exports.
abbrev pub global_at : Context → Label → List (List ℕ) → List Terminal → Read (List Field)
global_at context l ns ts = and_then (global_type_at expected.GlobalDefinition ts) (λ t us. and_then (body context us) (λ is vs. Ok (Global l ns t is ∷ [], vs)))

-- 6.6.5 to 6.6.8: a definition after its identifier and its inline exports.
abbrev pub defined : Types → Context → IndexSpace → Label → List (List ℕ) → List Terminal → Read (List Field)
defined types context space.Func l ns ts = func_at types context l ns ts
defined types context space.Table l ns ts = table_at context l ns ts
defined types context space.Mem l ns ts = memory_at l ns ts
defined types context space.Global l ns ts = global_at context l ns ts

-- Imports.

-- 6.6.4: the two names of an import.
unfoldable pub import_names : List Terminal → Read (List ℕ × List ℕ)
import_names ts = and_then (utf8_text ts) (λ m us. and_then (utf8_text us) (λ n vs. Ok ((m, n), vs)))

-- 6.6.4: an imported function, whose parameters must have distinct identifiers; otherwise an error at the tokens `all`.
abbrev pub func_type : NamedUse → List Terminal → List Terminal → Read ExternType
func_type u all ts = if are_distinct (map name_of u.params) then Ok (FuncType (without_names u), ts) else Err (duplicate_variable all)

-- 6.6.4: an import description after its keyword and its identifier.
unfoldable pub extern_at : Types → IndexSpace → List Terminal → Read ExternType
extern_at types space.Func ts = and_then (use_at types ts) (λ u us. func_type u ts us)
extern_at types space.Table ts = and_then (table_type_at expected.Limits ts) (λ t us. Ok (OfTable t, us))
extern_at types space.Mem ts = and_then (limits_at expected.Limits ts) (λ limits us. Ok (OfMemory limits, us))
extern_at types space.Global ts = and_then (global_type_at expected.GlobalType ts) (λ t us. Ok (OfGlobal t, us))

-- 6.4.5: what the grammar accepts after a function type, by the result of its parameters.
abbrev pub after_params : Read (List Variable) → Expected
after_params (Ok (ps, ts)) = after_results ts
after_params (Err f) = expected.ParamOrResultOrClose

-- Returns `true` if parameters or results are next.
abbrev pub is_list : List Terminal → Bool
is_list ts = is_some (after (codes "param") ts) || is_some (after (codes "result") ts)

-- The tokens after an index and the `)` of its group.
abbrev pub after_index : List Terminal → List Terminal
after_index (t ∷ Close ∷ ts) = ts
after_index ts = ts

abbrev pub after_use_by : Option (List Terminal) → List Terminal → Expected
after_use_by (Some us) ts = after_params (params (after_index us))
after_use_by None ts = if is_list ts then after_params (params ts) else expected.TypeUseOrClose

-- 6.6.3: what the grammar accepts after a type use, which begins at these tokens: what a longer type use has next, or `)`.
abbrev pub after_use : List Terminal → Expected
after_use ts = after_use_by (after (codes "type") ts) ts

-- 6.6.4: what the grammar accepts after an import description, which begins at these tokens after its identifier.
abbrev pub after_extern : ExternType → List Terminal → Expected
after_extern (FuncType u) ts = after_use ts
after_extern (OfTable t) ts = expected.Close
after_extern (OfMemory l) ts = after_memory_limits l.max
after_extern (OfGlobal t) ts = expected.Close

-- 6.6.4: the import with this identifier, these inline exports, these two names and this description.
abbrev pub imported : Label → List (List ℕ) → List ℕ × List ℕ → ExternType → Field
imported l ns names t = Import names.0 names.1 l ns t

-- 6.6.5 to 6.6.8: an inline import after its identifier, its inline exports and `(import`.
abbrev pub inline_import : Types → IndexSpace → Label → List (List ℕ) → List Terminal → Read (List Field)
inline_import types s l ns ts = and_then (import_names ts) (λ names us. and_then (closing names (closed us)) (λ names vs. and_then (extern_at types s vs) (λ t xs. closing (imported l ns names t ∷ []) (closed_or (after_extern t vs) xs))))

-- 6.6.5 to 6.6.8: an inline import if `(import` is next, otherwise a definition.
abbrev pub item_by : Types → Context → IndexSpace → Label → List (List ℕ) → Option (List Terminal) → List Terminal → Read (List Field)
item_by types context s l ns None all = defined types context s l ns all
item_by types context s l ns (Some ts) all = inline_import types s l ns ts

-- 6.6.5 to 6.6.8: a function, a table, a memory or a global after its keyword, by
-- its identifier and the tokens after it.
abbrev pub item_at : Types → Context → IndexSpace → Label × List Terminal → Read (List Field)
item_at types context s p = and_then (all export_item p.1) (λ ns us. item_by types context s p.0 ns (after (codes "import") us) us)

-- The index space of errors for the items of an index space.
abbrev pub kind_of : IndexSpace → Space
kind_of space.Func = kind.Func
kind_of space.Table = kind.Table
kind_of space.Mem = kind.Memory
kind_of space.Global = kind.Global

abbrev pub external_by : Context → List ℕ → Option IndexSpace → List Terminal → List Terminal → Read (List Field)
external_by context n None all ts = Err (Unexpected expected.ItemKind, all)
external_by context n (Some s) all ts = and_then (index (kind_of s) (names_of context s) ts) (λ i us. closing (Export n s i ∷ []) (skip_two_closes us))

-- 6.6.9: the exported item after its `(`.
abbrev pub external_word : Context → List ℕ → List Terminal → Read (List Field)
external_word context n (Word v ∷ ts) = external_by context n (space_of v) (Word v ∷ ts) ts
external_word context n ts = Err (Unexpected expected.ItemKind, ts)

-- 6.6.9: the item that is exported under the name `n`.
unfoldable pub external_at : Context → List ℕ → List Terminal → Read (List Field)
external_at context n (Open ∷ ts) = external_word context n ts
external_at context n ts = Err (Unexpected expected.ExportDescription, ts)

-- 6.6.9: an export after its keyword.
abbrev pub export_at : Context → List Terminal → Read (List Field)
export_at context ts = and_then (utf8_text ts) (λ n us. external_at context n us)

-- 6.6.10: a start field after its keyword.
abbrev pub start_at : Context → List Terminal → Read (List Field)
start_at context ts = and_then (index kind.Func context.funcs ts) (λ i us. closing (Start i ∷ []) (closed us))

-- Segments.

-- The index after `(` and the keyword of a table or memory use, or 0 without these.
abbrev pub used_by : Space → List Label → Option (List Terminal) → List Terminal → Read ℕ
used_by s names None all = Ok (0, all)
used_by s names (Some ts) all = and_then (index s names ts) (λ i us. closing i (closed us))

-- 6.6.11, 6.6.12: the index of `tableuse` or `memuse`, which is 0 if it is absent.
unfoldable pub used_at : List ℕ → Space → List Label → List Terminal → Read ℕ
used_at word s names ts = used_by s names (after word ts) ts

-- 6.6.12: what the grammar accepts after the strings of a data segment, which begin at these tokens: another one, or `)`.
-- Before the first one of a passive segment, also what makes the segment active.
abbrev pub after_strings : Option Target → List Terminal → Expected
after_strings None (Text v ∷ ts) = expected.TextOrClose
after_strings None ts = expected.DataSegment
after_strings (Some t) ts = expected.TextOrClose

-- 6.6.12: the strings of a data segment, and its `)`.
abbrev pub data_strings : Label → Option Target → List Terminal → Read (List Field)
data_strings l t ts = and_then (all string_item ts) (λ bytes us. closing (Data l t bytes ∷ []) (closed_or (after_strings t ts) us))

-- 6.6.12: an active data segment after its identifier.
abbrev pub active_data : Context → Label → List Terminal → Read (List Field)
active_data context l ts = and_then (used_at (codes "memory") kind.Memory context.memories ts) (λ i us. and_then (expression_at (codes "offset") context us) (λ is vs. data_strings l (Some (target i is)) vs))

-- 6.6.12: a data segment after its identifier.
unfoldable pub data_after : Context → Label → List Terminal → Read (List Field)
data_after context l (Open ∷ ts) = active_data context l (Open ∷ ts)
data_after context l ts = data_strings l None ts

-- 6.6.12: a data segment after its keyword, by its identifier and the tokens after it.
abbrev pub data_at : Context → Label × List Terminal → Read (List Field)
data_at context p = data_after context p.0 p.1

-- 6.6.11, `elemlist`, after its first keyword `w`; the tokens `start` begin with the keyword.
abbrev pub elements_by : Expected → Context → List ℕ → Option ReferenceType → List Terminal → List Terminal → Read (ReferenceType × Elements)
elements_by e context w (Some t) start ts = and_then (all (element_item context) ts) (λ es us. Ok ((t, es), us))
elements_by e context w None start ts = if bytes_eq w (codes "func") then and_then (all (function_item context) ts) (λ es us. Ok ((reference.Func, es), us)) else Err (Unexpected e, start)

-- 6.6.11, `elemlist`; or an error, with what the grammar accepts there.
unfoldable pub elements_at : Expected → Context → List Terminal → Read (ReferenceType × Elements)
elements_at e context (Word w ∷ ts) = elements_by e context w (reference_type w) (Word w ∷ ts) ts
elements_at e context ts = Err (Unexpected e, ts)

-- 6.6.11: what the grammar accepts after an `elemlist`, which begins at these tokens: another element of the kind that its
-- keyword says, or `)`.
abbrev pub after_elements : List Terminal → Expected
after_elements ts = if is_some (after_word (codes "func") ts) then expected.FunctionOrClose else expected.ExpressionOrClose

-- 6.6.11: the `elemlist` of an element segment, and its `)`.
abbrev pub elem_list : Expected → Context → Label → ElemMode → List Terminal → Read (List Field)
elem_list e context l m ts = and_then (elements_at e context ts) (λ es us. closing (Elem l m es.0 es.1 ∷ []) (closed_or (after_elements ts) us))

-- 6.6.11: what the grammar accepts after function indices without `func`, which begin at these tokens: another one, or `)`.
-- Before the first one, also an `elemlist`.
abbrev pub after_functions : List Terminal → Expected
after_functions ts = if is_index ts then expected.FunctionOrClose else expected.ElementListOrFunction

-- 6.6.11: the indices of functions of an element segment, and its `)`.
abbrev pub functions_list : Context → Label → ElemMode → List Terminal → Read (List Field)
functions_list context l m ts = and_then (all (function_item context) ts) (λ es us. closing (Elem l m reference.Func es ∷ []) (closed_or (after_functions ts) us))

-- 6.6.11: the elements of a segment without `tableuse`, after its offset.
unfoldable pub implicit_table : Context → Label → ElemMode → List Terminal → Read (List Field)
implicit_table context l m (Word w ∷ ts) = elem_list expected.ElementListOrFunction context l m (Word w ∷ ts)
implicit_table context l m ts = functions_list context l m ts

-- 6.6.11: an active element segment with `tableuse`, after its identifier.
abbrev pub given_table : Context → Label → List Terminal → Read (List Field)
given_table context l ts = and_then (used_at (codes "table") kind.Table context.tables ts) (λ i us. and_then (expression_at (codes "offset") context us) (λ is vs. elem_list expected.ElementList context l (Active (target i is)) vs))

-- 6.6.11: an active element segment, after its identifier.
abbrev pub active_elem : Context → Label → Option (List Terminal) → List Terminal → Read (List Field)
active_elem context l None ts = and_then (expression_at (codes "offset") context ts) (λ is us. implicit_table context l (Active (target 0 is)) us)
active_elem context l (Some us) ts = given_table context l ts

-- 6.6.11: a passive or declarative element segment, after its identifier.
abbrev pub elem_word : Context → Label → List ℕ → List Terminal → List Terminal → Read (List Field)
elem_word context l w start ts = if bytes_eq w (codes "declare") then elem_list expected.ElementList context l Declarative ts else elem_list expected.ElementSegment context l Passive start

-- 6.6.11: an element segment after its identifier.
unfoldable pub elem_after : Context → Label → List Terminal → Read (List Field)
elem_after context l (Open ∷ ts) = active_elem context l (after (codes "table") (Open ∷ ts)) (Open ∷ ts)
elem_after context l (Word w ∷ ts) = elem_word context l w (Word w ∷ ts) ts
elem_after context l ts = Err (Unexpected expected.ElementSegment, ts)

-- 6.6.11: an element segment after its keyword, by its identifier and the tokens after it.
abbrev pub elem_at : Context → Label × List Terminal → Read (List Field)
elem_at context p = elem_after context p.0 p.1

-- 6.6.4: an import after its names and the keyword of its description, by the identifier and the tokens after it.
abbrev pub extern_after : Types → List ℕ × List ℕ → IndexSpace → Label × List Terminal → Read (List Field)
extern_after types names s p = and_then (extern_at types s p.1) (λ t us. closing (imported p.0 [] names t ∷ []) (skip_two_closes_or (after_extern t p.1) us))

abbrev pub import_by : Types → List ℕ × List ℕ → Option IndexSpace → List Terminal → List Terminal → Read (List Field)
import_by types names None all ts = Err (Unexpected expected.ItemKind, all)
import_by types names (Some s) all ts = extern_after types names s (label_of ts)

-- 6.6.4: the description of an import after its `(`.
abbrev pub import_word : Types → List ℕ × List ℕ → List Terminal → Read (List Field)
import_word types names (Word v ∷ ts) = import_by types names (space_of v) (Word v ∷ ts) ts
import_word types names ts = Err (Unexpected expected.ItemKind, ts)

-- 6.6.4: the description of an import, after its names.
unfoldable pub import_open : Types → List ℕ × List ℕ → List Terminal → Read (List Field)
import_open types names (Open ∷ ts) = import_word types names ts
import_open types names ts = Err (Unexpected expected.ImportDescription, ts)

-- 6.6.4: an import after its keyword.
abbrev pub import_at : Types → List Terminal → Read (List Field)
import_at types ts = and_then (import_names ts) (λ names us. import_open types names us)

-- Types.

-- 6.6.2: the parameters and results of a type definition, and its two `)`.
abbrev pub type_lists : Label → List Terminal → Read Definition
type_lists l ts = and_then (params ts) (λ ps us. and_then (results us) (λ rs vs. closing (definition l (function_type ps rs)) (skip_two_closes_or (after_results us) vs)))

abbrev pub type_by : Label → Option (List Terminal) → List Terminal → Read Definition
type_by l None all = Err (Unexpected expected.FunctionType, all)
type_by l (Some ts) all = type_lists l ts

-- 6.6.2: a type definition after its keyword.
unfoldable pub type_at : List Terminal → Read Definition
type_at ts = type_by (label_of ts).0 (after (codes "func") (label_of ts).1) (label_of ts).1

abbrev pub type_field : List Terminal → Read (List Field)
type_field ts = and_then (type_at ts) (λ d us. Ok (TypeField d.name d.type ∷ [], us))

-- 6.6.11, 6.6.12: a segment after its keyword `w`; the tokens `all` begin with the keyword.
abbrev pub segment_at : Context → List ℕ → List Terminal → List Terminal → Read (List Field)
segment_at context w all ts = if bytes_eq w (codes "data") then data_at context (label_of ts) else if bytes_eq w (codes "elem") then elem_at context (label_of ts) else Err (UnknownWord expected.Field, all)

-- A type, an import, an export, a start field or a segment, after its keyword `w`;
-- the tokens `all` begin with the keyword.
abbrev pub other_at : Types → Context → List ℕ → List Terminal → List Terminal → Read (List Field)
other_at types context w all ts =
    if bytes_eq w (codes "type") then type_field ts else if bytes_eq w (codes "import") then import_at types ts else if bytes_eq w (codes "export") then export_at context ts else if bytes_eq w (codes "start") then start_at context ts else segment_at context w all ts

-- A field after its keyword `w`; the tokens `all` begin with the keyword.
abbrev pub field_by : Types → Context → Option IndexSpace → List ℕ → List Terminal → List Terminal → Read (List Field)
field_by types context (Some s) w all ts = item_at types context s (label_of ts)
field_by types context None w all ts = other_at types context w all ts

-- 6.6.2 to 6.6.12: a field after its `(`.
abbrev pub field : Types → Context → List Terminal → Read (List Field)
field types context (Word w ∷ ts) = field_by types context (space_of w) w (Word w ∷ ts) ts
field types context ts = Err (Unexpected expected.Field, ts)

-- 6.6.2 to 6.6.12: a field, if `(` is next.
unfoldable pub field_item : Types → Context → List Terminal → Item Field
field_item types context (Open ∷ ts) = Some (field types context ts)
field_item types context ts = None

-- The tokens at which fields begin, and the items that the fields define, found by parentheses only.

-- A position: before the `(` of a field, or in a field with this many more groups open.
pub data Depth : Type 0 where
  Before : Depth
  Inside : ℕ → Depth

-- The position after a `)` in a field with this many more groups open.
abbrev pub after_close : ℕ → Depth
after_close zero = Before
after_close (suc d) = Inside d

-- The tokens after the `(` of each field, appended to `ss`. The search ends at the
-- first token between fields that is not `(`.
unfoldable pub starts : Depth → List (List Terminal) → List Terminal → List (List Terminal)
starts d ss [] = ss
starts Before ss (Open ∷ ts) = starts (Inside 0) (ss ++ ts ∷ []) ts
starts Before ss (t ∷ ts) = ss
starts (Inside d) ss (Open ∷ ts) = starts (Inside (suc d)) ss ts
starts (Inside d) ss (Close ∷ ts) = starts (after_close d) ss ts
starts (Inside d) ss (t ∷ ts) = starts (Inside d) ss ts

abbrev pub binding_by : Option IndexSpace → Label → List Binding
binding_by None l = []
binding_by (Some s) l = binding s l ∷ []

abbrev pub word_binding : List Terminal → List Binding
word_binding (Word v ∷ ts) = binding_by (space_of v) (label_of ts).0
word_binding ts = []

abbrev pub open_binding : List Terminal → List Binding
open_binding (Open ∷ ts) = word_binding ts
open_binding ts = []

abbrev pub text_binding : List Terminal → List Binding
text_binding (Text n ∷ ts) = open_binding ts
text_binding ts = []

-- The item that an import defines, by the tokens after its keyword.
abbrev pub import_binding : List Terminal → List Binding
import_binding (Text m ∷ ts) = text_binding ts
import_binding ts = []

-- The item that a field defines, by the tokens after its `(`.
unfoldable pub binding_at : List Terminal → List Binding
binding_at (Word w ∷ ts) = if bytes_eq w (codes "import") then import_binding ts else binding_by (space_of w) (label_of ts).0
binding_at ts = []

-- One segment without an identifier, if the tokens are there.
abbrev pub unnamed_by : Option (List Terminal) → List Label
unnamed_by None = []
unnamed_by (Some ts) = None ∷ []

-- The data segment of a memory with inline data, by the result of its inline exports.
abbrev pub inline_data : Read (List (List ℕ)) → List Label
inline_data (Ok (ns, ts)) = unnamed_by (after (codes "data") ts)
inline_data (Err f) = []

-- The identifier of the data segment that a field defines, by the tokens after its `(`.
unfoldable pub data_name_at : List Terminal → List Label
data_name_at (Word w ∷ ts) = if bytes_eq w (codes "data") then (label_of ts).0 ∷ [] else if bytes_eq w (codes "memory") then inline_data (all export_item (label_of ts).1) else []
data_name_at ts = []

-- The element segment of a table with inline elements, by the tokens from its reference type on.
abbrev pub elem_after_type : List Terminal → List Label
elem_after_type (Word w ∷ ts) = unnamed_by (after (codes "elem") ts)
elem_after_type ts = []

-- The element segment of a table with inline elements, by the result of its inline exports.
abbrev pub inline_elem : Read (List (List ℕ)) → List Label
inline_elem (Ok (ns, ts)) = elem_after_type ts
inline_elem (Err f) = []

-- The identifier of the element segment that a field defines, by the tokens after its `(`.
unfoldable pub elem_name_at : List Terminal → List Label
elem_name_at (Word w ∷ ts) = if bytes_eq w (codes "elem") then (label_of ts).0 ∷ [] else if bytes_eq w (codes "table") then inline_elem (all export_item (label_of ts).1) else []
elem_name_at ts = []

abbrev pub definition_by : Read Definition → List Definition
definition_by (Ok (d, ts)) = d ∷ []
definition_by (Err f) = []

-- The type that a field defines, by the tokens after its `(`.
unfoldable pub definition_at : List Terminal → List Definition
definition_at (Word w ∷ ts) = if bytes_eq w (codes "type") then definition_by (type_at ts) else []
definition_at ts = []

-- The fields `fs`, after which no token is left; otherwise an error, with what else the grammar accepts there.
abbrev pub end_after : Expected → List Field → List Terminal → Result (List Field) Fault
end_after e fs [] = Ok fs
end_after e fs (t ∷ ts) = Err (Unexpected e, t ∷ ts)

-- The fields of a result, after which the `)` of the module and the end must follow.
abbrev pub ended : Read (List Field) → Result (List Field) Fault
ended (Ok (fs, Close ∷ ts)) = end_after expected.End fs ts
ended (Ok (fs, ts)) = Err (Unexpected expected.FieldOrClose, ts)
ended (Err f) = Err f

-- The fields of a result, after which the end must follow.
abbrev pub at_end : Read (List Field) → Result (List Field) Fault
at_end (Ok (fs, ts)) = end_after expected.FieldOrEnd fs ts
at_end (Err f) = Err f

-- The fields of a result, after which the module must end; it is in parentheses if the flag is true.
abbrev pub ended_by : Bool → Read (List Field) → Result (List Field) Fault
ended_by true q = ended q
ended_by false q = at_end q

-- 6.6.13: the fields of a result, whose imports must precede all definitions and of which at most one is a start field;
-- otherwise an error (`Places`). The tokens `ts` begin with the fields.
abbrev pub ordered : List Terminal → Result (List Field) Fault → Result (List Field) Fault
ordered ts (Ok fs) = if imports_first fs then (if nat_lt (length (starts_of fs)) 2 then Ok fs else Err (start_fault fs (starts Before [] ts) ts)) else Err (import_fault fs (starts Before [] ts) ts)
ordered ts (Err f) = Err f

-- 6.1.3: the context with these types and the items of the fields that begin at `ss`.
abbrev pub context_by : List (List Terminal) → Types → Context
context_by ss types = context_of types (flat_map binding_at ss) (flat_map elem_name_at ss) (flat_map data_name_at ss)

-- 6.1.3: the types that the fields at `ss` define.
abbrev pub defined_types : List (List Terminal) → Types
defined_types ss = types_in (flat_map definition_at ss) (map definition_type (flat_map definition_at ss))

-- 6.1.3, 6.6.3: the types that the fields at `ss` define, followed by those that type uses of `fs` add.
abbrev pub all_types : List (List Terminal) → List Field → Types
all_types ss fs = types_in (flat_map definition_at ss) (types_of fs)

-- The fields at the front of `ts`, in the context with these types.
abbrev pub all_by : List (List Terminal) → Types → List Terminal → Read (List Field)
all_by ss types ts = all (field_item types (context_by ss types)) ts

-- 6.6.13: the fields of a module, in the context with these types; the module is in parentheses if `enclosed` is true.
abbrev pub fields_by : Bool → List (List Terminal) → Types → List Terminal → Result (List Field) Fault
fields_by enclosed ss types ts = ordered ts (ended_by enclosed (all_by ss types ts))

-- The error to report, of two errors: that of parsing with the types that fields define, and that of parsing
-- without knowing the types. An unknown index can be that of a type that a type use adds, so the second error is
-- reported; any other first error is reported itself.
abbrev pub fault_of : Fault → Fault → Fault
fault_of (UnknownName s, ts) g = g
fault_of f g = f

-- 6.6.13: the fields of a module in the context with all types, by the fields that were
-- parsed without knowing the types; or the error.
abbrev pub fields_again : Bool → List (List Terminal) → List Terminal → Fault → Read (List Field) → Result (List Field) Fault
fields_again enclosed ss ts f (Ok (fs, us)) = fields_by enclosed ss (all_types ss fs) ts
fields_again enclosed ss ts f (Err g) = Err (fault_of f g)

-- 6.6.13: the fields of a module in the context with the types that fields define, or, if that fails with
-- the error `f`, in the context with all types.
abbrev pub fields_or : Bool → List (List Terminal) → List Terminal → Result (List Field) Fault → Result (List Field) Fault
fields_or enclosed ss ts (Ok fs) = Ok fs
fields_or enclosed ss ts (Err f) = fields_again enclosed ss ts f (all_by ss (unknown (defined_types ss)) ts)

-- 6.6.13: the fields of a module, whose identifiers must be distinct.
abbrev pub fields_from : Bool → List (List Terminal) → List Terminal → Result (List Field) Fault
fields_from enclosed ss ts = if all_distinct (defined_types ss) (context_by ss (defined_types ss)) then fields_or enclosed ss ts (fields_by enclosed ss (defined_types ss) ts) else Err (duplicate_item ss ts)

-- 6.6.13: the fields of a module from the tokens `ts` on.
abbrev pub fields_at : Bool → List Terminal → Result (List Field) Fault
fields_at enclosed ts = fields_from enclosed (starts Before [] ts) ts

abbrev pub whole_by : Option (List Terminal) → List Terminal → Result (List Field) Fault
whole_by (Some us) ts = fields_at true (label_of us).1
whole_by None ts = fields_at false ts

-- 6.6.13, `module`: the fields of the module that the tokens `ts` are, or the error.
unfoldable pub whole : List Terminal → Result (List Field) Fault
whole ts = whole_by (after (codes "module") ts) ts
