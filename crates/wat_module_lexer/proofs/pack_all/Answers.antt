use Rattle.std.proofs.Common.{◌≡◌, ◌∙◌, ◌++◌, ◌∷◌, [], length, map, ap, sym, refl, subst, arith}
use Rattle.std.proofs.lemmas.List.{map-append}
use Rattle.wat_module_lexer.specs.TokenTerminals.{terminal_of}
use Rattle.wat_module_lexer.specs.Drafts.{draft_terminals}
use Rattle.wat_module_lexer.proofs.Drafts.{nothing}
use Rattle.wat_module_lexer.proofs.FewTokens.{few_tokens}
use Rattle.wat_module_lexer.proofs.Puts.{all_put, none_put}
use Rattle.wat_module_lexer.proofs.ShownLaws.{shown_start, shown_more, shown_end, shown_reported, seen_found}
use Rattle.wat_module_lexer.proofs.pack_all.Goals as goal

pub tokens-init : goal.tokens-init
tokens-init c =
    let start = c.args.parser.now in
    record {
      parser = refl;
      within = c.lemma_sound.ensures.sound.within;
      tokens = [];
      shown = shown_start start.source start.names start.place [] refl;
      are = nothing c.args.text.now c.new-2.result.items c.new.result.items c.new.ensures.items;
      sound = none_put c.args.text.now _ c.new-groups.result.items c.new.ensures.items c.new-groups.ensures.items;
      count = let e = ap length c.new.ensures.items in omega (arith, e);
      few = let e = ap length c.new-2.ensures.items in omega (arith, e);
    }

pub tokens-preserved : goal.tokens-preserved
tokens-preserved c =
    let start = c.args.parser.now in
    let t = c.in-Ok-Some.token in
    let before = c.tokens.invariant.tokens in
    let f = terminal_of c.args.text.now in
    let value = rw (c.in-Ok-Some.is, c.in-Ok-Some.field-0-is, c.tokens.invariant.parser) at c.next_visible.ensures.value in
    let parser = rw c.tokens.invariant.parser at c.next_visible.ensures.parser in
    let on = rw (c.in-Ok-Some.is, c.in-Ok-Some.field-0-is) at c.next_visible.ensures.on in
    let within = rw parser at c.next_visible.ensures.sound.within in
    record {
      parser = parser;
      within = within;
      tokens = before ++ t ∷ [];
      shown = shown_more c.all_shown.ensures.looks start.source start.names start.place c.tokens.parser.place c.next_visible.new.parser.place before (before ++ t ∷ []) t c.lemma_sound.ensures.sound.utf8 c.lemma_sound.ensures.sound.read
          c.tokens.invariant.shown (seen_found start.source start.names c.tokens.parser.place _ value) refl (rw (c.in-Ok-Some.is, c.in-Ok-Some.field-0-is, c.tokens.invariant.parser) at c.next_visible.ensures.reader);
      are = c.in_ok-push_token-in-Ok-Some.ensures.is ∙ ap (λ x. x ++ f t ∷ []) c.tokens.invariant.are ∙ sym (map-append f before (t ∷ []));
      sound = c.in_ok-push_token-in-Ok-Some.ensures.sound;
      count = omega (arith, on, c.tokens.invariant.count, c.in_ok-push_token-in-Ok-Some.ensures.count);
      few = omega (arith, on, c.tokens.invariant.few, c.in_ok-push_token-in-Ok-Some.ensures.few);
    }

pub returns-in-Ok-None-clause-shown : goal.returns-in-Ok-None-clause-shown
returns-in-Ok-None-clause-shown c =
    let start = c.args.parser.now in
    let value = rw (c.in-Ok-None.is, c.in-Ok-None.field-0-is, c.tokens.invariant.parser) at c.next_visible.ensures.value in
    record {
      tokens = c.tokens.invariant.tokens;
      shown = shown_end c.all_shown.ensures.looks start.source start.names start.place c.tokens.parser.place c.tokens.invariant.tokens c.lemma_sound.ensures.sound.utf8 c.lemma_sound.ensures.sound.read c.tokens.invariant.shown (seen_found start.source start.names c.tokens.parser.place _ value);
      are = subst (λ x. draft_terminals c.args.text.now c.tokens.packed ≡ map (terminal_of x) c.tokens.invariant.tokens) (sym c.requires) c.tokens.invariant.are;
    }

pub returns-in-Err-2-clause-shown : goal.returns-in-Err-2-clause-shown
returns-in-Err-2-clause-shown c =
    let here = record c.args.parser.now { place = c.tokens.parser.place } in
    record {
      tokens = c.tokens.invariant.tokens;
      shown = shown_reported c.all_shown.ensures.looks c.tokens.parser here c.args.parser.now.place c.tokens.parser.place c.tokens.invariant.tokens _ c.next_visible.result c.in-Err.error c.is_out_of_memory.result c.lemma_sound.ensures.sound.utf8 c.lemma_sound.ensures.sound.read
          c.tokens.invariant.shown c.next_visible.ensures.value c.in-Err.is c.tokens.invariant.parser c.if-is_out_of_memory.false c.is_out_of_memory.ensures.1;
      are = subst (λ x. draft_terminals c.args.text.now c.tokens.packed ≡ map (terminal_of x) c.tokens.invariant.tokens) (sym c.requires) c.tokens.invariant.are;
    }

pub returns-in-Ok-None-clause-linked : goal.returns-in-Ok-None-clause-linked
returns-in-Ok-None-clause-linked c =
    let few = few_tokens c.args.parser.now.source c.lemma_sound.ensures.sound.utf8 c.lemma_sound.ensures.sound.read in
    all_put c.args.text.now c.tokens.packed c.tokens.groups.items (omega (arith, few, c.tokens.invariant.within, c.tokens.invariant.count, c.lemma_sound.ensures.sound.short)) c.tokens.invariant.sound

pub returns-in-Err-2-clause-linked : goal.returns-in-Err-2-clause-linked
returns-in-Err-2-clause-linked c =
    let few = few_tokens c.args.parser.now.source c.lemma_sound.ensures.sound.utf8 c.lemma_sound.ensures.sound.read in
    all_put c.args.text.now c.tokens.packed c.tokens.groups.items (omega (arith, few, c.tokens.invariant.within, c.tokens.invariant.count, c.lemma_sound.ensures.sound.short)) c.tokens.invariant.sound

pub push_token-requires-clause-kept : goal.push_token-requires-clause-kept
push_token-requires-clause-kept c =
    let few = few_tokens c.args.parser.now.source c.lemma_sound.ensures.sound.utf8 c.lemma_sound.ensures.sound.read in
    omega (arith, few, c.tokens.invariant.within, c.tokens.invariant.few, c.lemma_sound.ensures.sound.short)

pub push_token-requires-clause-room : goal.push_token-requires-clause-room
push_token-requires-clause-room c =
    let few = few_tokens c.args.parser.now.source c.lemma_sound.ensures.sound.utf8 c.lemma_sound.ensures.sound.read in
    let on = rw (c.in-Ok-Some.is, c.in-Ok-Some.field-0-is) at c.next_visible.ensures.on in
    let parser = rw c.tokens.invariant.parser at c.next_visible.ensures.parser in
    let within = rw parser at c.next_visible.ensures.sound.within in
    omega (arith, few, within, on, c.tokens.invariant.count, c.lemma_sound.ensures.sound.short)
