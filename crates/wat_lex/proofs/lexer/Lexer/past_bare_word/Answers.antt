use Rattle.std.proofs.Common.{◌≡◌, ◌+◌, ◌-◌, ℕ, List, length, take, drop, length-drop, get_or, get_or-drop, ap, ◌∙◌, arith, refl}
use Rattle.std.proofs.lemmas.List.{take_rest}
use Rattle.std.proofs.lemmas.Str.{IsUtf8-drop}
use Rattle.wat_lex.specs.tokens.BareWords.{bare_len}
use Rattle.wat_lex.proofs.tokens.BareWords.{bare, bare_fits, ends}
use Rattle.wat_lex.proofs.tokens.Scans.{token_at}
use Rattle.wat_lex.proofs.lexer.Lexer.past_bare_word.Goals as goal

measured : (text bs : List ℕ) (p n : ℕ) → bs ≡ text → n ≡ bare_len (take (length bs - p) (drop p bs)) → n ≡ bare_len (drop p text)
measured text bs p n e f = f ∙ ap bare_len (take_rest bs p ∙ ap (drop p) e)

first_is : (text : List ℕ) (p : ℕ) → get_or (drop p text) 0 0 ≡ get_or text p 0
first_is text p = let plus : p + 0 ≡ p = omega arith in get_or-drop p text 0 0 ∙ ap (λ i. get_or text i 0) plus

pub overflow_add-result : goal.overflow_add-result
overflow_add-result c =
    let text = c.args.self.now.text in
    let e = measured text c.as_bytes.result.now c.args.pos _ (c.as_bytes.ensures.value ∙ c.input-text.ensures.text) c.bare_len.ensures in
    record { fits = omega (arith, e, bare_fits (drop c.args.pos text), length-drop c.args.pos text, c.requires.0, c.input-text.ensures.short, ap length c.input-text.ensures.text) }

pub returns-clause-value : goal.returns-clause-value
returns-clause-value c =
    let e = measured c.args.self.now.text c.as_bytes.result.now c.args.pos _ (c.as_bytes.ensures.value ∙ c.input-text.ensures.text) c.bare_len.ensures in
    ap (λ n. c.args.pos + n) e

pub returns-clause-token : goal.returns-clause-token
returns-clause-token c = λ some.
    let s = c.args.self.now in
    let e = measured s.text c.as_bytes.result.now c.args.pos _ (c.as_bytes.ensures.value ∙ c.input-text.ensures.text) c.bare_len.ensures in
    let w = bare s.flags (drop c.args.pos s.text) c.bare_len.result (IsUtf8-drop s.text c.args.pos c.input-text.ensures.utf8 c.requires) e (omega (arith, some)) in
    record {
      token = _;
      there = token_at s (drop c.args.pos s.text) c.args.pos _ refl w.found;
      ends = refl;
      not_open = w.not_open;
      not_close = w.not_close;
      marked = λ a. w.marked (first_is s.text c.args.pos ∙ a);
    }

pub returns-clause-boundary : goal.returns-clause-boundary
returns-clause-boundary c =
    let s = c.args.self.now in
    let e = measured s.text c.as_bytes.result.now c.args.pos _ (c.as_bytes.ensures.value ∙ c.input-text.ensures.text) c.bare_len.ensures in
    ends s c.args.pos c.bare_len.result c.input-text.ensures.utf8 c.requires e
