-- WebAssembly 2.0, 6.2.2 (tokens: keywords), and the proposals for the custom, name, producers, dylink and branch hint
-- annotations. The table of standard words and its order are this project's own.
use Rattle.std.specs.Prelude.{ℕ, Bool, true, false, List, [], ◌++◌, codes, slice_index_or}
use Rattle.wat_lex.specs.grammar.SpacedWords.{words_of}

-- The word as messages print it: in backquotes, after `@` if it is the name of an annotation.
abbrev pub quoted : Bool → List ℕ → List ℕ
quoted true word = codes "`@" ++ word ++ codes "`"
quoted false word = codes "`" ++ word ++ codes "`"

-- The standard keywords, in the order of their indices.
unfoldable pub standard_words : List (List ℕ)
standard_words =
    words_of (codes "after alias any anyref arg array arrayref assert_exception assert_exhaustion assert_invalid") ++
    words_of (codes "assert_invalid_custom assert_malformed assert_malformed_custom assert_return assert_trap assert_unlinkable assert_suspension before binary block") ++
    words_of (codes "borrow catch catch_ref catch_all catch_all_ref code cont contref component data") ++
    words_of (codes "declare delegate descriptor describes do dtor elem end entry exact") ++
    words_of (codes "tag exn exnref export extern externref eq eqref f32 f32x4") ++
    words_of (codes "f64 f64x2 field first func funcref get global i16 i16x8") ++
    words_of (codes "i31 i31ref i32 i32x4 i64 i64x2 i8 i8x16 import implements") ++
    words_of (codes "instance instantiate interface invoke item last local memory module modulecode") ++
    words_of (codes "nan:arithmetic nan:canonical nocont nofunc noextern noexn none null nullcontref nullfuncref") ++
    words_of (codes "nullexternref nullexnref nullref offset on outer own pagesize param parent") ++
    words_of (codes "passive quote else if loop mut type ref ref.func ref.null") ++
    words_of (codes "register rec acqrel rep resource resource.new resource.drop resource.rep result seqcst") ++
    words_of (codes "shared start sub switch final table then try v128 value") ++
    words_of (codes "s8 s16 s32 s64 u8 u16 u32 u64 char case") ++
    words_of (codes "record string bool float32 float64 variant flags option tuple list") ++
    words_of (codes "map error canon lift lower enum string-encoding=utf8 string-encoding=utf16 string-encoding=latin1+utf16 struct") ++
    words_of (codes "structref realloc post-return with core core-type gc true false language") ++
    words_of (codes "sdk processed-by mem-info needed export-info import-info runtime-path target-arch thread thread.spawn-ref") ++
    words_of (codes "thread.spawn-indirect thread.available_parallelism backpressure.inc backpressure.dec task.return task.cancel subtask.drop subtask.cancel stream.new stream.read") ++
    words_of (codes "stream.write stream.forward stream.cancel-read stream.cancel-write stream.drop-readable stream.drop-writable future.new future.read future.write future.forward") ++
    words_of (codes "future.cancel-read future.cancel-write future.drop-readable future.drop-writable error-context.new error-context.debug-message error-context.drop wait definition async") ++
    words_of (codes "callback stream future error-context waitable-set.new waitable-set.wait waitable-set.poll waitable-set.drop waitable.join context.get") ++
    words_of (codes "context.set thread.index thread.new-indirect thread.resume-later thread.suspend thread.yield thread.suspend-then-resume thread.yield-then-resume thread.suspend-then-promote thread.yield-then-promote") ++
    words_of (codes "cancellable version-suffix external-id")

-- The standard annotation names, in the order of their indices.
unfoldable pub annotation_words : List (List ℕ)
annotation_words = words_of (codes "custom name producers dylink.0 metadata.code.branch_hint")

-- The standard keyword at an index, or the empty word after the last one.
unfoldable pub standard_word : ℕ → List ℕ
standard_word place = slice_index_or standard_words place []

-- The standard annotation name at an index, or the empty word after the last one.
unfoldable pub annotation_word : ℕ → List ℕ
annotation_word place = slice_index_or annotation_words place []
