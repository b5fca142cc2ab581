use Rattle.std.proofs.Common.{◌≡◌, ◌≢◌, List, [], ℕ, Bool, true, false, not, length, sym, ap, ◌∙◌, subst}
use Rattle.std.specs.Bool.{Decides}
use Rattle.std.specs.Prelude.{Ok, ◌==◌}
use Rattle.std.specs.Str.{chars}
use Rattle.std.proofs.lemmas.Bool.{false≢true, eqb-true}
use Rattle.std.proofs.lemmas.List.{nil_from_length}
use Rattle.wat_lex.specs.tokens.ReadableTokens.{word_of}
use Rattle.wat_lex.specs.values.Names.{IsNamed}
use Rattle.wat_lex.specs.values.WordValues.{empty_name, name_value, named_bytes}
use Rattle.wat_lex.proofs.values.Names.{NameTail, name_tail}
use Rattle.wat_lex.proofs.values.NameParts.{name_checked, has_some_name, has_no_name}
use Rattle.wat_lex.proofs.lexer.kinds.Token.has_name.Goals as goal
use Rattle.wat_lex.proofs.lexer.kinds.Token.has_name.Goals.{After-src}

tail : (c : After-src) → NameTail c.src.result.now
tail c = name_tail c.args.self.now.kind c.src.result.now c.src.utf8 c.requires.kind c.src.ensures.word

pub range_from-requires : goal.range_from-requires
range_from-requires c = let t = tail (goal.at.range_from-requires c).After-src in λ _. t.boundary

pub is_named-requires : goal.is_named-requires
is_named-requires c = let t = tail (goal.at.is_named-requires c).After-src in subst (λ x. IsNamed (chars x)) (sym c.range_from.ensures.value) t.named

some : (b : Bool) (n : List ℕ) → b ≡ false → b ≡ (length n == 0) → n ≢ []
some b n h k e = false≢true (sym h ∙ k ∙ ap (λ x. length x == 0) e)

pub returns-then-not-is_empty : goal.returns-then-not-is_empty
returns-then-not-is_empty c =
    let empty = empty_name c.args.self.now.kind in
    let t = tail (goal.at.returns-then-not-is_empty c).After-src in
    let v = named_bytes (chars c.range_from.result.now) in
    let name = c.args.name.now in
    let read = ap (λ x. name_value empty (chars x)) (sym c.src.ensures.text) ∙ name_checked empty c.src.result.now c.range_from.result.now t c.range_from.ensures.value in
    has_some_name empty (word_of c.args.s.now c.args.self.now) v name c.is_named.result read c.utf8.name (some c.is_empty.result name c.if-not-is_empty.true c.is_empty.ensures)
    (subst (λ x. Decides c.is_named.result (v ≡ x)) c.as_bytes.ensures.value c.is_named.ensures)

none : (b : Bool) (n : List ℕ) → b ≡ true → b ≡ (length n == 0) → n ≡ []
none b n h k = nil_from_length n (eqb-true (length n) 0 (sym k ∙ h))

pub returns-else-not-is_empty : goal.returns-else-not-is_empty
returns-else-not-is_empty c =
    let name = c.args.name.now in
    subst (λ b. Decides (not b) (name_value (empty_name c.args.self.now.kind) (word_of c.args.s.now c.args.self.now) ≡ Ok name)) (sym c.if-not-is_empty.false)
    (has_no_name (empty_name c.args.self.now.kind) (word_of c.args.s.now c.args.self.now) name (none c.is_empty.result name c.if-not-is_empty.false c.is_empty.ensures))
