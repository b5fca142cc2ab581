use Rattle.std.proofs.Common.{◌≡◌, ℕ, List, sym, ◌∙◌, subst, true, false}
use Rattle.std.specs.Prelude.{None, Some, Option, is_some}
use Rattle.std.specs.Str.{chars, IsUtf8}
use Rattle.memchr.specs.Find.{IsFirstByte, is_byte}
use Rattle.wat_lex.specs.values.Names.{HasNone}
use Rattle.wat_c.proofs.WordPlaces.{no_backslash, has_backslash}
use Rattle.wat_c.proofs.words.has_backslash.Goals as goal

none : (b : List ℕ) (r : Option ℕ) → IsUtf8 b → IsFirstByte (is_byte 92) b r → is_some r ≡ false → HasNone 92 (chars b)
none b None u h e = no_backslash b u h
none b (Some i) u h e = let k : true ≡ false = e in absurd cc

some : (b : List ℕ) (r : Option ℕ) → IsUtf8 b → IsFirstByte (is_byte 92) b r → is_some r ≡ true → HasNone 92 (chars b) → ⊥
some b None u h e = let k : false ≡ true = e in absurd cc
some b (Some i) u h e = has_backslash b i u h

pub returns-clause-none : goal.returns-clause-none
returns-clause-none c e =
    none c.args.word.now c.memchr.result c.utf8.word (subst (λ x. IsFirstByte (is_byte 92) x c.memchr.result) c.as_bytes.ensures.value c.memchr.ensures) (sym c.is_some.ensures ∙ e)

pub returns-clause-some : goal.returns-clause-some
returns-clause-some c e =
    some c.args.word.now c.memchr.result c.utf8.word (subst (λ x. IsFirstByte (is_byte 92) x c.memchr.result) c.as_bytes.ensures.value c.memchr.ensures) (sym c.is_some.ensures ∙ e)
