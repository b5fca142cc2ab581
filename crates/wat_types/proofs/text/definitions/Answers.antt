use Rattle.std.proofs.Common.{◌≡◌, ◌≤◌, ◌+◌, ◌∙◌, ◌++◌, ◌∷◌, [], length, true, false, arith, rules, sym, ap, subst, Ok}
use Rattle.std.specs.Prelude.{not}
use Rattle.std.proofs.lemmas.List.{map-append}
use Rattle.wat_lexer_parser.specs.lemmas.ReadingLaws.{advances_group}
use Rattle.wat_lexer_parser.specs.lemmas.WhileLaws.{IsSoFar, none_so_far, one_more_read, all_read_at}
use Rattle.wat_lexer_parser.specs.places.Places.{empty_of}
use Rattle.wat_lexer_parser.specs.readings.Readings.{group, more_comes}
use Rattle.wat_lexer_parser.specs.readings.Reads.{Reads}
use Rattle.wat_lexer_parser.specs.shown.Showing.{shown}
use Rattle.wat_types.specs.Meanings.{definition}
use Rattle.wat_types.specs.Signatures.{signature, signatures}
use Rattle.wat_types.specs.declared.text.Definition.{Definition}
use Rattle.wat_types.proofs.text.definitions.Goals as goal

pub loop-parser-init : goal.loop-parser-init
loop-parser-init c =
    let a = c.args.parser.now in
    record {
      kept = search rules;
      on = search rules;
      so_far = subst (λ vs. IsSoFar more_comes (group definition) a (signatures vs) a.place) (sym c.new-types.ensures.items) (none_so_far more_comes (group definition) a);
    }

pub loop-parser-preserved : goal.loop-parser-preserved
loop-parser-preserved c =
    let a = c.args.parser.now in
    let b = c.loop-parser.parser in
    let i = c.loop-parser.invariant in
    let empty : empty_of (shown b.source b.place b.names) ≡ false = search rules in
    let within : b.place ≤ length a.source.tokens = search rules in
    let d = c.in_ok-definition.definition in
    let q = c.parens_of.new.self.place in
    let read : Reads (λ (d : Definition). signature d.func) (group definition) b (Ok d) q = search rules in
    let items : c.push.new.self.items ≡ c.loop-parser.types.items ++ (d.func ∷ []) = search rules in
    let known : signatures c.push.new.self.items ≡ signatures c.loop-parser.types.items ++ (signature d.func ∷ []) = ap signatures items ∙ map-append signature c.loop-parser.types.items (d.func ∷ []) in
    record {
      kept = search rules;
      on = search rules;
      so_far = subst (λ vs. IsSoFar more_comes (group definition) a vs q) (sym known)
          (one_more_read (λ (d : Definition). signature d.func) more_comes (group definition) a b (signatures c.loop-parser.types.items) d q (advances_group definition) i.so_far i.kept within (ap (λ e. Ok (not e)) empty) read);
    }

pub loop-parser-smaller : goal.loop-parser-smaller
loop-parser-smaller c =
    let b = c.loop-parser.parser in
    let d = c.parens_of.new.self in
    let v = signature c.in_ok-definition.definition.func in
    let within : b.place ≤ length b.source.tokens = search rules in
    let read : (group definition b).answer ≡ Ok v = search rules in
    let far : b.place + (group definition b).passed ≡ d.place = search rules in
    let some = advances_group definition b v read in
    let same : length d.source.tokens ≡ length b.source.tokens = search rules in
    omega (arith, within, far, some, same)

pub returns-clause-reads : goal.returns-clause-reads
returns-clause-reads c =
    let b = c.loop-parser.parser in
    let empty : empty_of (shown b.source b.place b.names) ≡ true = search rules in
    let within : b.place ≤ length c.args.parser.now.source.tokens = search rules in
    all_read_at more_comes (group definition) c.args.parser.now b (signatures c.loop-parser.types.items) c.loop-parser.invariant.so_far c.loop-parser.invariant.kept within (ap (λ e. Ok (not e)) empty)
