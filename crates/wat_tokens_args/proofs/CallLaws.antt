-- Parsing the words of `play` as calls.
use Rattle.std.proofs.Common.{◌≡◌, ◌∙◌, ◌+◌, ◌<◌, ℕ, zero, suc, sym, ap, subst, List, [], ◌∷◌, ◌++◌, length, take, get_or, arith}
use Rattle.std.specs.Prelude.{String, string_bytes}
use Rattle.std.specs.declared.alloc.Global.{Global}
use Rattle.std.proofs.lemmas.List.{take_more}
use Rattle.wat_lexer_parser.specs.declared.parser.calls.Call.{Call}
use Rattle.wat_tokens_output.specs.Calls.{NamesCall, NamesNoCall}
use Rattle.wat_tokens_args.specs.Options.{NamesCalls}

spells_more : (words : List (String Global)) (calls : List Call) (word : String Global) (call : Call) → NamesCalls words calls → NamesCall (string_bytes word) call → NamesCalls (words ++ word ∷ []) (calls ++ call ∷ [])
spells_more [] [] word call h k = (k, tt)
spells_more [] (d ∷ calls) word call h k = absurd h
spells_more (v ∷ words) [] word call h k = absurd h
spells_more (v ∷ words) (d ∷ calls) word call h k = (h.0, spells_more words calls word call h.1 k)

-- A step of the loop: one more word, and the call that it denotes.
pub spells_next : (words : List (String Global)) (i : ℕ) (calls more : List Call) (word : String Global) (call : Call) → i < length words → word ≡ get_or words i word → NamesCalls (take i words) calls → NamesCall (string_bytes word) call → more ≡ calls ++ call ∷ [] → NamesCalls (take (i + 1) words) more
spells_next words i calls more word call lt at h k e =
    let next = take_more words i word lt ∙ ap (λ w. take i words ++ w ∷ []) (sym at) in
    subst (λ ws. NamesCalls ws more) (sym next) (subst (λ cs. NamesCalls (take i words ++ word ∷ []) cs) (sym e) (spells_more (take i words) calls word call h k))

-- If the words denote these calls, each word denotes a call.
spells_at : (words : List (String Global)) (calls : List Call) (i : ℕ) (d : String Global) → i < length words → NamesCalls words calls → (call : Call) × NamesCall (string_bytes (get_or words i d)) call
spells_at [] calls i d lt h = absurd (omega arith)
spells_at (word ∷ words) [] i d lt h = absurd h
spells_at (word ∷ words) (call ∷ calls) zero d lt h = (call, h.0)
spells_at (word ∷ words) (call ∷ calls) (suc i) d lt h = spells_at words calls i d (omega arith) h.1

-- If one word denotes no call, the words denote no calls.
pub spells_none : (words : List (String Global)) (i : ℕ) (word : String Global) → i < length words → word ≡ get_or words i word → NamesNoCall (string_bytes word) → (calls : List Call) → ¬ NamesCalls words calls
spells_none words i word lt at none calls h =
    let call = spells_at words calls i word lt h in
    none call.0 (subst (λ w. NamesCall (string_bytes w) call.0) (sym at) call.1)
