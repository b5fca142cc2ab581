-- The result of `wat_check`, by that of the compiler.
use Rattle.std.proofs.Common.{◌≡◌, ◌≢◌, ◌∙◌, ℕ, List, refl, sym, ap, subst, Bool}
use Rattle.std.specs.Prelude.{Option, Some, None, Result, Ok, Err, IfSome, IsNone, Vec, alloc_error}
use Rattle.std.specs.declared.alloc.Global.{Global}
use Rattle.wat_lex.specs.errors.Errors.{Cause, Lexical, Custom, Report, lex_error_of, message_of, offset_of}
use Rattle.wat_lex.specs.errors.Rendering.{Excerpt}
use Rattle.wat_lex.specs.tokens.EverySetting.{ScanResultIsUnique, TilingsAreUnique}
use Rattle.wat_lex.specs.tokens.Setting.{Setting}
use Rattle.wat_lex.specs.declared.lexer.faults.LexError.{LexError}
use Rattle.wat_lexer_parser.specs.laws.ShownLaws.{AllShownIsOne}
use Rattle.wat_module_lexer.specs.TokenTerminals.{plain}
use Rattle.wat_modules.specs.Compiling as modules
use Rattle.wat_c_records.specs.Rows.{FoundAt, TokenFoundAt, found_row}
use Rattle.wat_c_records.specs.declared.rows.Found.{Found}
use Rattle.wat_c_records.specs.declared.rows.TokenRow.{TokenRow}
use Rattle.wat_c.specs.Answers.{answer_of, left_of}
use Rattle.wat_c.specs.Compiling.{Checks, Compilation, CompilesTo, IsErrorOf, LengthAt, MarkedLength, OneCheck, TextError, checked_of, left_of_check, LengthAt.lexed, LengthAt.inside}
use Rattle.wat_c.specs.inside.CompilerErrors.{GivesError}
use Rattle.wat_c.specs.declared.answers.Answer.{Answer}
use Rattle.wat_c.specs.declared.answers.Checked.{Checked}
use Rattle.wat_c.specs.declared.answers.Refusal.{Refusal}
use Rattle.wat_c.specs.declared.answers.Refusal.TheVariants.{Other, Memory, Absent, Fault as Faulty}
use Rattle.wat_c.proofs.Compilation.{HasResult, IsOfText, one_result}

-- ---- the length of an error

lexical_by : (text : List ℕ) (p : ℕ) (cause : Cause) (x : Option Excerpt) (e : LexError) → lex_error_of (Some (record { offset = p; cause = cause; excerpt = x })) ≡ Some e → MarkedLength text p cause 0
lexical_by text p (Lexical f) x e h = refl
lexical_by text p (Custom m) x e h = cc

pub lexical_length : (text : List ℕ) (error : Option Report) (e : LexError) → lex_error_of error ≡ Some e → IfSome error (λ r. MarkedLength text r.offset r.cause 0)
lexical_length text None e h = tt
lexical_length text (Some r) e h = lexical_by text r.offset r.cause r.excerpt e h

custom_by : (text : List ℕ) (p n : ℕ) (cause : Cause) (x : Option Excerpt) → lex_error_of (Some (record { offset = p; cause = cause; excerpt = x })) ≡ None → LengthAt text p n → MarkedLength text p cause n
custom_by text p n (Lexical f) x h l = cc
custom_by text p n (Custom m) x h l = l

pub custom_length : (text : List ℕ) (error : Option Report) (p n : ℕ) → lex_error_of error ≡ None → p ≡ offset_of error → LengthAt text p n → IfSome error (λ r. MarkedLength text r.offset r.cause n)
custom_length text None p n h e l = tt
custom_length text (Some r) p n h e l = custom_by text r.offset n r.cause r.excerpt h (subst (λ q. LengthAt text q n) e l)

-- ---- the error of the compiler

pub no_memory : (text : List ℕ) (error : Option Report) (old : List ℕ) (checked : Checked) → checked ≡ checked_of (Err (Memory alloc_error)) → GivesError text error old old checked
no_memory text None old checked known = record { found = Err (Memory alloc_error); is = refl; known = known; left = refl }
no_memory text (Some r) old checked known = record { found = Err (Memory alloc_error); is = tt; known = known; left = refl }

pub with_message : (text : List ℕ) (error : Option Report) (old new message : List ℕ) (p n : ℕ) (answer : Answer) (checked : Checked) → (IsNone error → ⊥) → p ≡ offset_of error → IfSome error (λ r. MarkedLength text r.offset r.cause n) → message ≡ message_of error
    → answer ≡ answer_of (Ok message) → new ≡ left_of old (Ok message) → checked ≡ record { offset = p; len = n; needed = answer.needed; status = answer.status } → GivesError text error old new checked
with_message text None old new message p n answer checked some e l m known left c = absurd (some refl)
with_message text (Some r) old new message p n answer checked some e l m known left c = record {
  found = Ok (record { offset = p; len = n; message = message });
  is = (e, m, l);
  known = c ∙ ap (λ a. record { offset = p; len = n; needed = a.needed; status = a.status }) known;
  left = left;
}

-- ---- the result for C

pub checked_none : (names : Bool) (text old : List ℕ) (bytes : Vec ℕ Global) (checked : Checked) → HasResult names text → IsOfText names text (Ok bytes) → checked ≡ checked_of (Err Absent) → Checks names text old old checked
checked_none names text old bytes checked t same known = record {
  result = Ok bytes.items;
  compiled = subst (CompilesTo names text) (same t.0 t.1) t.1;
  found = Err Absent;
  is = tt;
  known = known;
  left = refl;
}

memory_is : (text : List ℕ) (result : Compilation) → IsErrorOf text result (Err (Memory alloc_error))
memory_is text (Ok bytes) = tt
memory_is text (Err r) = tt

pub checked_error : (names : Bool) (text old new : List ℕ) (error : Option Report) (checked : Checked) → HasResult names text → IsOfText names text (Err error) → GivesError text error old new checked → Checks names text old new checked
checked_error names text old new None checked t same g = record {
  result = t.0;
  compiled = t.1;
  found = g.found;
  is = subst (IsErrorOf text t.0) (sym g.is) (memory_is text t.0);
  known = g.known;
  left = g.left;
}
checked_error names text old new (Some r) checked t same g = record {
  result = Err r;
  compiled = subst (CompilesTo names text) (same t.0 t.1) t.1;
  found = g.found;
  is = g.is;
  known = g.known;
  left = g.left;
}

-- ---- the result is unique

found_one : ScanResultIsUnique → (s : Setting) (p : ℕ) (a b : Found) → FoundAt s p a → FoundAt s p b → a ≡ b
found_one scan s p a b h k = h.known ∙ ap (found_row p) (scan s p h.answer k.answer h.is_at k.is_at) ∙ sym k.known

token_one : ScanResultIsUnique → (s : Setting) (p : ℕ) (a b : TokenRow) → TokenFoundAt s p a → TokenFoundAt s p b → a ≡ b
token_one scan s p a b h k = h.token ∙ ap (λ x. x.token) (found_one scan s p h.all k.all h.found k.found) ∙ sym k.token

length_one : ScanResultIsUnique → (text : List ℕ) (p n m : ℕ) → LengthAt text p n → LengthAt text p m → n ≡ m
length_one scan text p n m (lexed row b h e) (lexed other c k f) = e ∙ ap (λ x. x.len) (token_one scan (plain text) p row other h k) ∙ sym f
length_one scan text p n m (lexed row b h e) (inside out f) = absurd (out b)
length_one scan text p n m (inside out e) (lexed row b h f) = absurd (out b)
length_one scan text p n m (inside out e) (inside outside f) = e ∙ sym f

marked_one : ScanResultIsUnique → (text : List ℕ) (p n m : ℕ) (cause : Cause) → MarkedLength text p cause n → MarkedLength text p cause m → n ≡ m
marked_one scan text p n m (Lexical e) h k = h ∙ sym k
marked_one scan text p n m (Custom w) h k = length_one scan text p n m h k

same_error : (a b : TextError) → a.offset ≡ b.offset → a.len ≡ b.len → a.message ≡ b.message → a ≡ b
same_error a b e f g = λ i. record { offset = e i; len = f i; message = g i }

-- The status of a check that is not an allocation failure.
checked_memory : (checked : Checked) (found : Result TextError Refusal) → checked ≡ checked_of found → checked.status ≢ 2 → found ≢ Err (Memory alloc_error)
checked_memory checked found known n e = n (ap (λ c. c.status) known ∙ ap (λ f. (checked_of f).status) e)

error_one : ScanResultIsUnique → (text : List ℕ) (result : Result (List ℕ) Report) (a b : Result TextError Refusal) → IsErrorOf text result a → IsErrorOf text result b → a ≢ Err (Memory alloc_error) → b ≢ Err (Memory alloc_error) → a ≡ b
error_one scan text (Ok bytes) (Err Absent) (Err Absent) h k n m = refl
error_one scan text (Ok bytes) (Err Absent) (Ok e) h k n m = absurd k
error_one scan text (Ok bytes) (Err Absent) (Err Other) h k n m = absurd k
error_one scan text (Ok bytes) (Err Absent) (Err (Faulty e)) h k n m = absurd k
error_one scan text (Ok bytes) (Ok e) b h k n m = absurd h
error_one scan text (Ok bytes) (Err Other) b h k n m = absurd h
error_one scan text (Ok bytes) (Err (Faulty e)) b h k n m = absurd h
error_one scan text (Err r) (Ok e) (Ok f) h k n m =
    ap Ok (same_error e f (h.0 ∙ sym k.0) (marked_one scan text r.offset e.len f.len r.cause h.2 k.2) (h.1 ∙ sym k.1))
error_one scan text (Err r) (Ok e) (Err Absent) h k n m = absurd k
error_one scan text (Err r) (Ok e) (Err Other) h k n m = absurd k
error_one scan text (Err r) (Ok e) (Err (Faulty f)) h k n m = absurd k
error_one scan text (Err r) (Err Absent) b h k n m = absurd h
error_one scan text (Err r) (Err Other) b h k n m = absurd h
error_one scan text (Err r) (Err (Faulty e)) b h k n m = absurd h
error_one scan text result (Err (Memory refused)) b h k n m = absurd (n refl)
error_one scan text result a (Err (Memory refused)) h k n m = absurd (m refl)

pub one_check : ScanResultIsUnique → TilingsAreUnique → AllShownIsOne → modules.SectionsAreOne → (names : Bool) (text old : List ℕ) → OneCheck names text old
unfolding OneCheck
one_check scan tilings one sections names text old new other checked known h k n m =
    let result = one_result tilings one sections names text h.result k.result h.compiled k.compiled in
    let found = error_one scan text k.result h.found k.found (subst (λ r. IsErrorOf text r h.found) result h.is) k.is
    (checked_memory checked h.found h.known n) (checked_memory known k.found k.known m) in
    (h.known ∙ ap checked_of found ∙ sym k.known, h.left ∙ ap (left_of_check old) found ∙ sym k.left)
