use Rattle.std.proofs.Common.{◌≡◌, ◌≢◌, ◌≤◌, ℕ, List, [], Bool, true, false, length, refl, arith, ap, sym, ◌∙◌, subst}
use Rattle.std.specs.Prelude.{IfSome, IfNone, ◌↔◌, ◌==◌}
use Rattle.std.specs.Cow.{cow_str_bytes, IsBorrowedStr}
use Rattle.std.specs.Str.{chars, IsUtf8}
use Rattle.std.proofs.lemmas.Bool.{false≢true, eqb-true}
use Rattle.wat_lex.specs.values.Names.{Name, Named, NameFault, HasNoEscape, IsNamed}
use Rattle.wat_lex.specs.values.WordValues.{empty_name}
use Rattle.wat_lex.specs.declared.lexer.faults.LexError.TheVariants.{InvalidUtf8Id}
use Rattle.wat_lex.proofs.values.Names.{NameTail, name_tail, name_value as name_read, name_free, free_name, empty_fault, utf8_fault}
use Rattle.wat_lex.proofs.values.WordValues.{name_good, name_fault}
use Rattle.wat_lex.proofs.lexer.kinds.Token.name.Goals as goal
use Rattle.wat_lex.proofs.lexer.kinds.Token.name.Goals.{After-src}

tail : (c : After-src) → NameTail c.src.result.now
tail c = name_tail c.args.self.now.kind c.src.result.now c.src.utf8 c.requires.kind c.src.ensures.word

pub range_from-requires : goal.range_from-requires
range_from-requires c = let t = tail (goal.at.range_from-requires c).After-src in λ _. t.boundary

pub name-requires : goal.name-requires
name-requires c = let t = tail (goal.at.name-requires c).After-src in subst (λ x. IsNamed (chars x)) (sym c.range_from.ensures.value) t.named

pub returns-in_err-name-clause-free : goal.returns-in_err-name-clause-free
returns-in_err-name-clause-free c h =
    absurd (false≢true (c.in_err-name.ensures.free (free_name c.src.result.now c.range_from.result.now (tail (goal.at.returns-in_err-name-clause-free c).After-src) c.range_from.ensures.value (subst (λ x. HasNoEscape (chars x)) (sym c.src.ensures.text) h))))

-- ---- bytes that are not UTF-8

pub returns-in_default-clause-fault : goal.returns-in_default-clause-fault
returns-in_default-clause-fault c =
    subst (λ x. NameFault (empty_name c.args.self.now.kind) (chars x) InvalidUtf8Id) c.src.ensures.text
    (utf8_fault (empty_name c.args.self.now.kind) InvalidUtf8Id c.src.result.now c.range_from.result.now (tail (goal.at.returns-in_default-clause-fault c).After-src) c.range_from.ensures.value
    (subst (λ o. IfNone o ((bytes : List ℕ) × Named (chars c.range_from.result.now) bytes × (IsUtf8 bytes → ⊥))) c.in_default.is c.in_ok-name.ensures.none) refl)

pub returns-in_default-clause-value : goal.returns-in_default-clause-value
returns-in_default-clause-value c =
    sym (name_fault (empty_name c.args.self.now.kind) InvalidUtf8Id _ (subst (λ x. NameFault (empty_name c.args.self.now.kind) (chars x) InvalidUtf8Id) c.src.ensures.text
    (utf8_fault (empty_name c.args.self.now.kind) InvalidUtf8Id c.src.result.now c.range_from.result.now (tail (goal.at.returns-in_default-clause-value c).After-src) c.range_from.ensures.value
    (subst (λ o. IfNone o ((bytes : List ℕ) × Named (chars c.range_from.result.now) bytes × (IsUtf8 bytes → ⊥))) c.in_default.is c.in_ok-name.ensures.none) refl)))

-- ---- names that are empty

no_bytes : (b : Bool) (s v : List ℕ) → b ≡ true → b ≡ (length s == 0) → s ≡ v → length v ≤ 0
no_bytes b s v h k e = let n = eqb-true (length s) 0 (sym k ∙ h) in let l = ap length e in omega (arith, n, l)

pub returns-then-is_empty-clause-fault : goal.returns-then-is_empty-clause-fault
returns-then-is_empty-clause-fault c =
    subst (λ x. NameFault (empty_name c.args.self.now.kind) (chars x) c.empty_name.result) c.src.ensures.text
    (empty_fault (empty_name c.args.self.now.kind) c.empty_name.result c.src.result.now c.range_from.result.now (cow_str_bytes c.in-Some.name) (tail (goal.at.returns-then-is_empty-clause-fault c).After-src) c.range_from.ensures.value
    (subst (λ o. IfSome o (λ name. Named (chars c.range_from.result.now) (cow_str_bytes name))) c.in-Some.is c.in_ok-name.ensures.some)
    (no_bytes c.is_empty.result c.as_str.result.now (cow_str_bytes c.in-Some.name) c.if-is_empty.true c.is_empty.ensures c.as_str.ensures.value) c.empty_name.ensures)

pub returns-then-is_empty-clause-value : goal.returns-then-is_empty-clause-value
returns-then-is_empty-clause-value c =
    sym (name_fault (empty_name c.args.self.now.kind) c.empty_name.result _ (subst (λ x. NameFault (empty_name c.args.self.now.kind) (chars x) c.empty_name.result) c.src.ensures.text
    (empty_fault (empty_name c.args.self.now.kind) c.empty_name.result c.src.result.now c.range_from.result.now (cow_str_bytes c.in-Some.name) (tail (goal.at.returns-then-is_empty-clause-value c).After-src) c.range_from.ensures.value
    (subst (λ o. IfSome o (λ name. Named (chars c.range_from.result.now) (cow_str_bytes name))) c.in-Some.is c.in_ok-name.ensures.some)
    (no_bytes c.is_empty.result c.as_str.result.now (cow_str_bytes c.in-Some.name) c.if-is_empty.true c.is_empty.ensures c.as_str.ensures.value) c.empty_name.ensures)))

-- ---- names

some_bytes : (b : Bool) (s v : List ℕ) → b ≡ false → b ≡ (length s == 0) → s ≡ v → v ≢ []
some_bytes b s v h k e n = false≢true (sym h ∙ k ∙ ap (λ x. length x == 0) (e ∙ n))

pub returns-clause-name : goal.returns-clause-name
returns-clause-name c =
    subst (λ x. Name (chars x) (cow_str_bytes c.in-Some.name)) c.src.ensures.text
    (name_read c.src.result.now c.range_from.result.now (cow_str_bytes c.in-Some.name) (tail (goal.at.returns-clause-name c).After-src) c.range_from.ensures.value
    (subst (λ o. IfSome o (λ name. Named (chars c.range_from.result.now) (cow_str_bytes name))) c.in-Some.is c.in_ok-name.ensures.some))

pub returns-clause-value : goal.returns-clause-value
returns-clause-value c =
    sym (name_good (empty_name c.args.self.now.kind) _ (cow_str_bytes c.in-Some.name)
    (subst (λ x. Name (chars x) (cow_str_bytes c.in-Some.name)) c.src.ensures.text
    (name_read c.src.result.now c.range_from.result.now (cow_str_bytes c.in-Some.name) (tail (goal.at.returns-clause-value c).After-src) c.range_from.ensures.value
    (subst (λ o. IfSome o (λ name. Named (chars c.range_from.result.now) (cow_str_bytes name))) c.in-Some.is c.in_ok-name.ensures.some)))
    (subst IsUtf8 c.as_str.ensures.value c.as_str.utf8)
    (some_bytes c.is_empty.result c.as_str.result.now (cow_str_bytes c.in-Some.name) c.if-is_empty.false c.is_empty.ensures c.as_str.ensures.value))

pub returns-clause-borrowed : goal.returns-clause-borrowed
returns-clause-borrowed c =
    let t = tail (goal.at.returns-clause-borrowed c).After-src in
    let k : IsBorrowedStr c.in-Some.name ↔ HasNoEscape (chars c.range_from.result.now) =
    subst (λ o. IfSome o (λ name. IsBorrowedStr name ↔ HasNoEscape (chars c.range_from.result.now))) c.in-Some.is c.in_ok-name.ensures.borrowed in (
      λ h. subst (λ x. HasNoEscape (chars x)) c.src.ensures.text (name_free c.src.result.now c.range_from.result.now t c.range_from.ensures.value (k.0 h)),
      λ h. k.1 (free_name c.src.result.now c.range_from.result.now t c.range_from.ensures.value (subst (λ x. HasNoEscape (chars x)) (sym c.src.ensures.text) h)),
    )
