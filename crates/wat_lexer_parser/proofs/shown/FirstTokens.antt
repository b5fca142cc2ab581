-- The classification of the first token at a position.
use lib.Utf8.{encode}
use Rattle.std.proofs.Common.{◌≡◌, ◌≤◌, ◌<◌, ◌+◌, ◌^◌, ◌∙◌, ℕ, List, [], ◌∷◌, ap, subst, arith, Bool, true, false, Some, None}
use Rattle.std.specs.Prelude.{◌==◌, Option, IfSome, slice_get, option_map, unwrap_or}
use Rattle.std.proofs.lemmas.Bool.{eqb-true}
use Rattle.wat_lex.specs.declared.lexer.kinds.Token.{Token}
use Rattle.wat_lex.specs.declared.lexer.kinds.TokenKind.TheVariants.{LParen}
use Rattle.wat_lex.specs.grammar.Classes.{at_sign, size}
use Rattle.wat_lex.specs.grammar.Words.{Word}
use Rattle.wat_lex.specs.tokens.Blanks.{is_marked}
use Rattle.wat_lex.specs.tokens.ReadableTokens.{IsTokenOf}
use Rattle.wat_lex.specs.tokens.Setting.{lenient}
use Rattle.wat_lexer_parser.specs.declared.parser.text_ref.Sight.{Sight}
use Rattle.wat_lexer_parser.specs.declared.parser.text_ref.Sight.TheVariants.{Plain, Blank, Marked, Nothing}
use Rattle.wat_lexer_parser.specs.inside.FirstTokens.{SightOf, IsMarkedAt, IsShownFrom, IsSight, not_passed}
use Rattle.wat_lexer_parser.specs.inside.Next.{IsNext, IsPlace}
use Rattle.wat_lexer_parser.specs.names.RegisteredNames.{Names}
use Rattle.wat_lexer_parser.specs.places.Source.{Source}
use Rattle.wat_lexer_parser.specs.shown.Showing.{shown}
use Rattle.wat_lexer_parser.proofs.places.Bytes.{next_place}
use Rattle.wat_lexer_parser.proofs.shown.Looks.{blank_passes, shown_passed, shown_taken}

one_byte : (text : List ℕ) (t : Token) → IsTokenOf text t → t.kind ≡ LParen → t.len ≡ 1
unfolding encode
one_byte text t r e =
    let w : r.word ≡ 40 ∷ [] = subst (λ k. Word k r.word lenient) e r.is in
    r.len ∙ ap size w

mark_is : (o : Option ℕ) → unwrap_or (option_map (λ b. b == at_sign) o) false ≡ true → o ≡ Some at_sign
mark_is None e = cc
mark_is (Some b) e = ap Some (eqb-true b at_sign e)

marked_at : (s : Source) (i : ℕ) (t : Token) → IsPlace s i t.offset → slice_get s.tokens i ≡ Some t → IsTokenOf s.setting.text t → t.kind ≡ LParen → is_marked s.setting.text t ≡ true → IsMarkedAt s i t.offset
marked_at s i t here there reader kind marked =
    let end : t.offset + t.len ≡ t.offset + 1 = ap (λ n. t.offset + n) (one_byte s.setting.text t reader kind) in
    record {
      paren = t;
      there = there;
      kind = kind;
      marked = marked;
      place = here;
      inner = subst (IsPlace s (i + 1)) end (next_place s i t there);
      mark = mark_is (slice_get s.setting.text (t.offset + 1)) marked;
    }

pub sighted : (s : Source) (p i : ℕ) (t : Token) (r : Sight) → p ≤ i → ((names : Names) → shown s p names ≡ shown s i names) → IsPlace s i t.offset → slice_get s.tokens i ≡ Some t → IsTokenOf s.setting.text t → t.offset + t.len < 2 ^ 32 → SightOf s t r → IsSight s p r t i
sighted s p i t Plain on same here there reader short h = λ names. record {
  value = same names ∙ shown_taken s names i t there (h names (slice_get s.tokens (i + 1)));
  on = omega (arith, on);
  after = record { place = next_place s i t there; reader = reader; short = short };
}
sighted s p i t Blank on same here there reader short h = record {
  on = on;
  same = λ names. same names ∙ shown_passed s names i t there (blank_passes s.setting.text names t (slice_get s.tokens (i + 1)) h);
  place = next_place s i t there;
  short = short;
}
sighted s p i t Marked on same here there reader short h = (record { on = on; same = same }, marked_at s i t here there reader h.0 h.1)
sighted s p i t Nothing on same here there reader short h = absurd h

-- The next token of a position is also that of an earlier one at which the same token is visible.
pub next_from : (s : Source) (p q : ℕ) (names : Names) (found : Option (Token × ℕ)) → IsShownFrom s p q → IfSome found (IsNext s q names) → IfSome found (IsNext s p names)
next_from s p q names None f h = tt
next_from s p q names (Some v) f h = record { value = f.same names ∙ h.value; on = omega (arith, f.on, h.on); after = h.after }

pub not_passed_most : (b : Bool) → not_passed b ≤ 1
not_passed_most true = omega arith
not_passed_most false = omega arith
