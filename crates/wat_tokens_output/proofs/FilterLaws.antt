-- Lemmas about text that is passed on with its control characters replaced.
use Rattle.std.proofs.Common.{◌≡◌, ◌++◌, ◌∙◌, ℕ, List, [], ◌∷◌, sym, ap, subst, refl}
use Rattle.std.specs.Prelude.{encode_utf8_all, map, Result, Ok, Err, OnOk, IsOk}
use Rattle.std.specs.declared.fmt.Formatter.{Formatter}
use Rattle.std.specs.Fmt.{WritesInCalls, HasWritten, IsPlainFormatter}
use Rattle.std.specs.List.{FoldsTo, concat}
use Rattle.std.specs.Str.{IsUtf8, chars}
use Rattle.std.proofs.lemmas.List.{map-append}
use Rattle.std.proofs.lemmas.Str.{chars-append, chars-nil, encodes-append}
use Rattle.std.proofs.Output.{has_written_append, writes_in_calls_nil, writes_in_calls_append}
use Rattle.wat_tokens_output.specs.Places.{visible_lines, visible_in_lines}

visible_none : visible_lines [] ≡ []
visible_none = ap (λ cs. encode_utf8_all (map visible_in_lines cs)) chars-nil

visible_more : (xs ys : List ℕ) → IsUtf8 xs → visible_lines (xs ++ ys) ≡ visible_lines xs ++ visible_lines ys
visible_more xs ys u =
    ap (λ cs. encode_utf8_all (map visible_in_lines cs)) (chars-append xs ys u)
    ∙ ap encode_utf8_all (map-append visible_in_lines (chars xs) (chars ys))
    ∙ encodes-append (map visible_in_lines (chars xs)) (map visible_in_lines (chars ys))

-- Texts that were written to a plain formatter, one after another.
formatted : {W : Type 0} (took : W → List ℕ → W → Type 0) (f : Formatter W) (xs : List (List ℕ)) (g : Formatter W) → FoldsTo (λ s bs t. IsPlainFormatter s → HasWritten took s bs t) f xs g → IsPlainFormatter f → HasWritten took f (concat xs) g
formatted took f [] g calls plain = subst (HasWritten took f []) calls (record { wrote = writes_in_calls_nil took f.writer; plain = plain })
formatted took f (x ∷ xs) g calls plain =
    let first = calls.1 plain in
    has_written_append took f x calls.0 (concat xs) g first (formatted took calls.0 xs g calls.2 first.plain)

-- Texts that were passed on, one after another.
passed : {S W N : Type 0} (took : W → List ℕ → W → Type 0) (name : S → N) (inner : S → W) (s : S) (xs : List (List ℕ)) (t : S) → FoldsTo (λ a bs b. (name b ≡ name a) × IsUtf8 bs × WritesInCalls took (inner a) (visible_lines bs) (inner b)) s xs t
    → (name t ≡ name s) × WritesInCalls took (inner s) (visible_lines (concat xs)) (inner t)
passed took name inner s [] t calls =
    subst (λ x. (name x ≡ name s) × WritesInCalls took (inner s) (visible_lines []) (inner x)) calls
    (refl, subst (λ l. WritesInCalls took (inner s) l (inner s)) (sym visible_none) (writes_in_calls_nil took (inner s)))
passed took name inner s (x ∷ xs) t calls =
    let rest = passed took name inner calls.0 xs t calls.2 in
    (rest.0 ∙ calls.1.0, subst (λ l. WritesInCalls took (inner s) l (inner t)) (sym (visible_more x (concat xs) calls.1.1)) (writes_in_calls_append took _ _ _ _ _ calls.1.2 rest.1))

-- A text that was passed on to a plain formatter.
pub passed_on : {S W N : Type 0} (took : W → List ℕ → W → Type 0) (name : S → N) (inner : S → Formatter W) (s : S) (text : List ℕ) (t : S)
    → WritesInCalls (λ a bs b. (name b ≡ name a) × IsUtf8 bs × WritesInCalls (λ f cs g. IsPlainFormatter f → HasWritten took f cs g) (inner a) (visible_lines bs) (inner b)) s text t
    → IsPlainFormatter (inner s) → (name t ≡ name s) × HasWritten took (inner s) (visible_lines text) (inner t)
passed_on took name inner s text t wrote plain =
    let calls = passed (λ f cs g. IsPlainFormatter f → HasWritten took f cs g) name inner s wrote.parts t wrote.calls in
    (calls.0, subst (λ l. HasWritten took (inner s) l (inner t)) (calls.1.whole ∙ ap visible_lines wrote.whole) (formatted took (inner s) calls.1.parts (inner t) calls.1.calls plain))

pub if_ok : {T E P : Type 0} (r : Result T E) → IsOk r → OnOk r P → P
if_ok (Ok t) ok h = h
if_ok (Err e) ok h = cc
