use Rattle.std.proofs.Common.{◌≡◌, ◌++◌, ◌∙◌, ℕ, List, [], ap, rules, append-nil, Result, Ok, Err, IfSome}
use Rattle.std.specs.Prelude.{Option, Some, None, OnOk, IsOk}
use Rattle.std.specs.Io.KnownBytes.{Appends, Keeps, append_known}
use Rattle.std.proofs.KnownBytes.{Appends-of_writes}
use Rattle.wat_tokens_output.proofs.printer.print.Goals as goal

-- The text was printed, and the buffer was then written.
if_printed : {T E F : Type 0} (r : Result T E) (p : Result T F) (o : Option (List ℕ)) (P Q : List ℕ → Type 0) (K : Type 0) → OnOk r (IsOk p) → OnOk r K → OnOk p (IfSome o P) → (K → (bs : List ℕ) → P bs → Q bs) → OnOk r (IfSome o Q)
if_printed (Err e) p o P Q K ok k h f = tt
if_printed (Ok t) (Err e) o P Q K ok k h f = cc
if_printed (Ok t) (Ok u) None P Q K ok k h f = tt
if_printed (Ok t) (Ok u) (Some bs) P Q K ok k h f = f k bs h

-- Bytes that went through an empty buffer.
through : (a b c : Option (List ℕ)) (buffer bs : List ℕ) → buffer ≡ [] → Appends (append_known a buffer) b bs → Keeps b c → Appends a c bs
through None b c buffer bs e p q = tt
through (Some x) None c buffer bs e p q = absurd p
through (Some x) (Some y) None buffer bs e p q = absurd q
through (Some x) (Some y) (Some z) buffer bs e p q = q ∙ p ∙ ap (λ l. l ++ bs) (ap (λ l. x ++ l) e ∙ append-nil x)

pub returns : goal.returns
returns g c =
    let held = g.W.Write.contents in
    let done = c.finish-result.ensures in
    if_printed c.finish-result.result c.write-printed.result (g.D.Display.output c.args.value) _ _ _ done.printed done.written c.write-printed.ensures.writes
    (λ kept bs wrote.
    let (same, appended) = Appends-of_writes (λ s. s.output.ghost_name) (λ s. append_known (held s.output.now) s.buffer) _ bs _ wrote in
    let name = done.same ∙ same in
    let bytes = through _ _ _ _ bs c.new.ensures appended kept in
    search rules)
