use Rattle.std.proofs.Common.{◌≡◌, ◌≤◌, ◌<◌, ◌∙◌, ap, length, refl, rules, subst, suc, arith, length-append, ◌∷◌, []}
use Rattle.std.specs.Prelude.{slice_set}
use Rattle.std.specs.Vec.{with_item}
use Rattle.std.proofs.lemmas.List.{length-map, nil_from_length}
use Rattle.std.proofs.lemmas.Option.{slice_get_within}
use Rattle.wat_module_tokens.specs.declared.stream.PackedToken.TheVariants as short
use Rattle.wat_module_tokens.specs.Terminals.{Open}
use Rattle.wat_module_tokens.specs.Tokens.{number_of, terminals_in}
use Rattle.wat_module_lexer.specs.Drafts.{AreKeywords, IsOpen, draft_pieces}
use Rattle.wat_module_lexer.proofs.Keywords.{put_keywords}
use Rattle.wat_module_lexer.proofs.Puts.{begun, closed_terminals, put_close, put_close_of}
use Rattle.wat_module_lexer.proofs.push_close.Goals as goal

pub returns-in_default-clause-sound : goal.returns-in_default-clause-sound
returns-in_default-clause-sound c =
    let empty : length c.pop.new.self.items ≡ 0 = search rules in
    let none : c.pop.new.self.items ≡ [] = nil_from_length c.pop.new.self.items empty in
    put_close c.args.text.now c.args.packed.now _ c.args.groups.now.items c.pop.new.self.items c.in_ok-push.ensures.items refl (search rules) none c.requires.sound

pub keyword_group-requires : goal.keyword_group-requires
keyword_group-requires c =
    let d = c.args.packed.now in
    let o : IsOpen (draft_pieces c.args.text.now d) c.in-Some.begin 0 = begun c.args.text.now d c.args.groups.now.items c.pop.new.self.items c.in-Some.begin c.in-Some.ensures.items c.requires.sound in
    let within = slice_get_within (draft_pieces c.args.text.now d) c.in-Some.begin (Open ∷ []) o.begins in
    let many = length-map d.tokens.items (terminals_in c.args.text.now d.kept.items) in
    let value = ap length c.deref.ensures.value in
    omega (arith, within, many, value)

pub returns-in-Some-keyword_group-clause-is : goal.returns-in-Some-keyword_group-clause-is
returns-in-Some-keyword_group-clause-is c =
    let d = c.args.packed.now in
    let group = c.in-Some-keyword_group.group in
    let words : AreKeywords d.tokens.items c.in-Some.begin group = subst (λ ts. AreKeywords ts c.in-Some.begin group) c.deref.ensures.value c.in-Some-keyword_group.ensures in
    (put_keywords c.args.text.now d (record { tokens = c.truncate.new.self; kept = d.kept }) c.args.groups.now.items c.pop.new.self.items c.in-Some.begin group words c.truncate.ensures.items refl c.in-Some.ensures.items c.requires.sound).terminals

pub returns-in-Some-keyword_group-clause-sound : goal.returns-in-Some-keyword_group-clause-sound
returns-in-Some-keyword_group-clause-sound c =
    let d = c.args.packed.now in
    let group = c.in-Some-keyword_group.group in
    let words : AreKeywords d.tokens.items c.in-Some.begin group = subst (λ ts. AreKeywords ts c.in-Some.begin group) c.deref.ensures.value c.in-Some-keyword_group.ensures in
    (put_keywords c.args.text.now d (record { tokens = c.truncate.new.self; kept = d.kept }) c.args.groups.now.items c.pop.new.self.items c.in-Some.begin group words c.truncate.ensures.items refl c.in-Some.ensures.items c.requires.sound).packing

pub index_mut-requires-2 : goal.index_mut-requires-2
index_mut-requires-2 c =
    let d = c.args.packed.now in
    let o : IsOpen (draft_pieces c.args.text.now d) c.in-Some.begin 0 = begun c.args.text.now d c.args.groups.now.items c.pop.new.self.items c.in-Some.begin c.in-Some.ensures.items c.requires.sound in
    let within = slice_get_within (draft_pieces c.args.text.now d) c.in-Some.begin (Open ∷ []) o.begins in
    let many = length-map d.tokens.items (terminals_in c.args.text.now d.kept.items) in
    let more = ap length c.in_ok-push-2.ensures.items ∙ length-append d.tokens.items (short.Close ∷ []) in
    omega (arith, within, many, more)

pub returns-clause-is : goal.returns-clause-is
returns-clause-is c =
    let d = c.args.packed.now in
    let o : IsOpen (draft_pieces c.args.text.now d) c.in-Some.begin 0 = begun c.args.text.now d c.args.groups.now.items c.pop.new.self.items c.in-Some.begin c.in-Some.ensures.items c.requires.sound in
    closed_terminals c.args.text.now d (record { tokens = with_item c.push-2.new.self c.in-Some.begin (short.Open c.new-end.result); kept = d.kept }) c.in-Some.begin c.new-end.result (ap (λ v. slice_set v c.in-Some.begin (short.Open c.new-end.result)) c.in_ok-push-2.ensures.items) refl o

pub returns-clause-sound : goal.returns-clause-sound
returns-clause-sound c =
    let d = c.args.packed.now in
    let end : number_of c.new-end.result ≡ suc (length d.tokens.items) = search rules in
    put_close_of c.args.text.now d (record { tokens = with_item c.push-2.new.self c.in-Some.begin (short.Open c.new-end.result); kept = d.kept }) c.args.groups.now.items c.pop.new.self.items c.in-Some.begin c.new-end.result (ap (λ v. slice_set v c.in-Some.begin (short.Open c.new-end.result)) c.in_ok-push-2.ensures.items) refl c.in-Some.ensures.items end c.requires.sound
