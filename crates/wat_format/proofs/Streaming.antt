-- A formatted text that is written block by block.
use Rattle.std.proofs.Common.{◌≡◌, ◌+◌, ℕ, List, [], ◌∷◌, ◌++◌, length, take, refl, sym, ap, ◌∙◌, subst, append_assoc}
use Rattle.std.proofs.Math.Seq.{take-append_seam}
use Rattle.std.proofs.lemmas.List.{append-nil}
use Rattle.std.specs.Prelude.{Option, Some, None, Result, Ok, Err, IfErr, IsErrAnd}
use Rattle.std.specs.Io.KnownBytes.{Appends}
use Rattle.wat_lex.specs.tokens.EverySetting.{ScanResultIsUnique}
use Rattle.wat_lex.specs.tokens.Setting.{Setting}
use Rattle.wat_lex.specs.tokens.Tiling.{TokenAt, MaximalTiling}
use Rattle.wat_lex.specs.tokens.UniqueTilings.{ResultAt, EndsFrom}
use Rattle.wat_lex.specs.declared.lexer.faults.LexFault.{LexFault}
use Rattle.wat_lex.specs.declared.lexer.kinds.Token.{Token}
use Rattle.wat_format.specs.Formatting.{Formatted}
use Rattle.wat_format.specs.Layout.{State, start, laid, layout}
use Rattle.wat_tokens_io.specs.Streams.{AppendsPrefix}
use Rattle.wat_tokens_io.specs.lemmas.BlockLaws.{cut_after, cut_longer}
use Rattle.wat_tokens_io.specs.lemmas.KnownBytes.{appends_none, appends_more}
use Rattle.wat_format.specs.Streams.{AppendsLayout, AppendsPart}
use Rattle.wat_format.specs.declared.stream.WriteError.{WriteError}
use Rattle.wat_format.specs.declared.stream.WriteError.TheVariants.{Memory, Fault, Failed}
use Rattle.wat_format.specs.inside.Steps.{Lays}
use Rattle.wat_format.specs.inside.Writing.{Drains, Remains, StopsShort, CutsShort}

answers : (s : Setting) (p : ℕ) (ts : List Token) → MaximalTiling s p ts None → (r : Result (Option Token) LexFault) × ResultAt s p r
answers s p [] m = (Ok None, m.tiling ∙ m.ends)
answers s p (t ∷ ts) m = (Ok (Some t), m.tiling.0)

-- Raw tokens that end at the end of the text do not end at a lexical error.
pub no_fault : (s : Setting) (p : ℕ) (ts : List Token) (r : Result (Option Token) LexFault) (f : LexFault) → MaximalTiling s p ts None → ((q : Result (Option Token) LexFault) → ResultAt s p q → q ≡ r) → r ≡ Err f → ⊥
no_fault s p [] r f m one e = let h = one (Ok None) (m.tiling ∙ m.ends) in cc
no_fault s p (t ∷ ts) r f m one e = let h = one (Ok (Some t)) m.tiling.0 in cc

module _ (s : Setting) (answer : List ℕ) (p : ℕ) (state : State) (old new : Option (List ℕ)) where
  next_by : ScanResultIsUnique → (written block block' : List ℕ) (state' : State) (ts : List Token) (t : Token) → Appends old new written → MaximalTiling s p ts None → answer ≡ written ++ (block ++ laid s.text state ts) → TokenAt s p t → Lays s.text state t state' block block'
      → Remains s answer (t.offset + t.len) state' old new block'
  next_by one written block block' state' [] t a m e k l =
      let h = one s p (Ok None) (Ok (Some t)) (m.tiling ∙ m.ends) k in absurd cc
  next_by one written block block' state' (u ∷ us) t a m e k l =
      let h = one s p (Ok (Some u)) (Ok (Some t)) m.tiling.0 k in
      let same : u ≡ t = cc in
      subst (λ x. Remains s answer (x.offset + x.len) state' old new block') same (record {
        written = written;
        appended = a;
        tokens = us;
        tiling = record { to = m.to; tiling = m.tiling.1; ends = m.ends };
        rest = e ∙ ap (λ x. written ++ (block ++ laid s.text state (x ∷ us))) same ∙ ap (λ x. written ++ x) (l us);
      })

  pub remains_next : ScanResultIsUnique → (block block' : List ℕ) (state' : State) (t : Token) → Remains s answer p state old new block → TokenAt s p t → Lays s.text state t state' block block' → Remains s answer (t.offset + t.len) state' old new block'
  remains_next one block block' state' t h k l = next_by one h.written block block' state' h.tokens t h.appended h.tiling h.rest k l

  -- the first bytes of a block are written
  pub remains_drained : (new' : Option (List ℕ)) (block block' : List ℕ) → Remains s answer p state old new block → Drains new new' block block' → Remains s answer p state old new' block'
  remains_drained new' block block' h k =
      let rest : List ℕ = laid s.text state h.tokens in
      record {
        written = h.written ++ k.first;
        appended = appends_more old new new' h.written k.first (h.written ++ k.first) h.appended k.appended refl;
        tokens = h.tokens;
        tiling = h.tiling;
        rest = h.rest ∙ ap (λ x. h.written ++ (x ++ rest)) k.all ∙ ap (λ x. h.written ++ x) (append_assoc k.first block' rest) ∙ sym (append_assoc h.written k.first (block' ++ rest));
      }

  -- nothing more is written
  pub part_only : (block : List ℕ) → Formatted s answer → Remains s answer p state old new block → AppendsPart s old new
  part_only block f h = record {
    answer = answer;
    formatted = f;
    appended = record { n = length h.written; appended = subst (λ x. Appends old new x) (sym (ap (λ x. take (length h.written) x) h.rest ∙ take-append_seam h.written (block ++ laid s.text state h.tokens))) h.appended };
  }

  part_more : (new' : Option (List ℕ)) (written block more : List ℕ) → Formatted s answer → Appends old new written → answer ≡ written ++ (block ++ more) → AppendsPrefix new new' block → AppendsPart s old new'
  part_more new' written block more f a e k = record {
    answer = answer;
    formatted = f;
    appended = cut_after old new new' written (block ++ more) answer a (cut_longer new new' block more (block ++ more) k refl) e;
  }

  -- a part of a block is written
  pub part_of_block : (new' : Option (List ℕ)) (block : List ℕ) → Formatted s answer → Remains s answer p state old new block → AppendsPrefix new new' block → AppendsPart s old new'
  part_of_block new' block f h k = part_more new' h.written block (laid s.text state h.tokens) f h.appended h.rest k

  last_by : ScanResultIsUnique → (ts : List Token) → MaximalTiling s p ts None → p ≡ length s.text → ts ≡ []
  last_by one [] m e = refl
  last_by one (t ∷ ts) m e = let h = one s p (Ok None) (Ok (Some t)) e m.tiling.0 in absurd cc

  last_rest : ScanResultIsUnique → (block last : List ℕ) → (h : Remains s answer p state old new block) → p ≡ length s.text → last ≡ block ++ laid s.text state [] → answer ≡ h.written ++ last
  last_rest one block last h e k = h.rest ∙ ap (λ x. h.written ++ (block ++ laid s.text state x)) (last_by one h.tokens h.tiling e) ∙ ap (λ x. h.written ++ x) (sym k)

  -- the last block is written
  pub all_written : ScanResultIsUnique → (new' : Option (List ℕ)) (block last : List ℕ) → Formatted s answer → Remains s answer p state old new block → p ≡ length s.text → last ≡ block ++ laid s.text state [] → Appends new new' last → AppendsLayout s old new'
  all_written one new' block last f h e k a = record {
    answer = answer;
    formatted = f;
    appended = appends_more old new new' h.written last answer h.appended a (last_rest one block last h e k);
  }

  -- or a part of it
  pub part_of_last : ScanResultIsUnique → (new' : Option (List ℕ)) (block last : List ℕ) → Formatted s answer → Remains s answer p state old new block → p ≡ length s.text → last ≡ block ++ laid s.text state [] → AppendsPrefix new new' last → AppendsPart s old new'
  part_of_last one new' block last f h e k a = part_more new' h.written last [] f h.appended (last_rest one block last h e k ∙ ap (λ x. h.written ++ x) (sym (append-nil last))) a

pub remains_start : (s : Setting) (state : State) (old : Option (List ℕ)) (block : List ℕ) → (h : EndsFrom s 0 None) → state ≡ start → block ≡ [] → Remains s (layout s.text h.tokens) 0 state old old block
remains_start s state old block h e k = record {
  written = [];
  appended = appends_none old;
  tokens = h.tokens;
  tiling = h.tiling;
  rest = ap (λ x. laid s.text x h.tokens) (sym e) ∙ ap (λ x. x ++ laid s.text state h.tokens) (sym k);
}

pub formatted_from : (s : Setting) → (h : EndsFrom s 0 None) → Formatted s (layout s.text h.tokens)
formatted_from s h = record { tokens = h.tokens; tiling = h.tiling; laid = refl }

-- nothing was written, or all
pub drains_none : (a : Option (List ℕ)) (block : List ℕ) → Drains a a block block
drains_none a block = record { first = []; all = refl; appended = appends_none a }

pub drains_all : (a b : Option (List ℕ)) (block block' : List ℕ) → Appends a b block → block' ≡ [] → Drains a b block block'
drains_all a b block block' h e = record { first = block; all = sym (ap (λ x. block ++ x) e ∙ append-nil block); appended = h }

-- The error of a sink, if a prefix of these bytes is a prefix of the formatted text.
pub cuts_short : (s : Setting) (old new new' : Option (List ℕ)) (bytes : List ℕ) (e : WriteError) → (AppendsPrefix new new' bytes → AppendsPart s old new') → StopsShort new new' bytes e → CutsShort s old new' e
cuts_short s old new new' bytes (Memory r) f h = absurd h
cuts_short s old new new' bytes (Fault r) f h = absurd h
cuts_short s old new new' bytes (Failed r) f h = f h

pub on_error : {T : Type 0} {P Q : WriteError → Type 0} → (r : Result T WriteError) → ((e : WriteError) → P e → Q e) → IfErr r P → IfErr r Q
on_error (Ok x) f h = tt
on_error (Err e) f h = f e h

-- an error that `?` hands on as it is
pub passed_on : {T : Type 0} (P : WriteError → Type 0) (r : Result T WriteError) (e : WriteError) → IsErrAnd r (λ x. x ≡ e) → P e → IfErr r P
passed_on P (Ok x) e h k = tt
passed_on P (Err x) e h k = subst P (sym h) k
