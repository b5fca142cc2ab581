-- Results of the scanner for the text from an offset on, in bytes.
use Rattle.std.specs.Prelude.{◌≡◌, ◌≤◌, ◌+◌, ◌-◌, ℕ, List, ◌∷◌, ◌++◌, drop, length, slice_index, IsTrue}
use Rattle.std.specs.List.{prefix_len}
use Rattle.std.specs.Str.{chars, NonePass}
use Rattle.wat_lex.specs.grammar.Classes.{close_paren, semicolon, size, is_confusing}
use Rattle.wat_lex.specs.tokens.Faults.{Fault}
use Rattle.wat_lex.specs.grammar.Words.{WordIsAt}
use Rattle.wat_lex.specs.inside.Blocks.{is_plain_in_block}
use Rattle.wat_lex.specs.declared.lexer.settings.Settings.{Settings}
use Rattle.wat_lex.specs.declared.lexer.kinds.Lexeme.{Lexeme}
use Rattle.wat_lex.specs.declared.lexer.faults.LexFault.{LexFault}

-- `LexemeFound flags text lexeme`: the text begins with a lexeme of this kind and length.
pub record LexemeFound (flags : Settings) (text : List ℕ) (lexeme : Lexeme) : Type 0 where
  pub word : List ℕ
  pub rest : List ℕ
  pub is_at : WordIsAt flags (chars text) lexeme.kind word rest
  pub len : lexeme.len ≡ size word

-- `Refused flags text f`: the text begins with the lexical error `f`, whose offset counts from the start of the text.
pub record Refused (flags : Settings) (text : List ℕ) (f : LexFault) : Type 0 where
  pub at : List ℕ
  pub fault : Fault flags (chars text) f.error at
  pub place : f.offset + size at ≡ length text

-- `FirstConfusing text i c`: the first confusing character of the text is `c`, at byte `i`.
pub record FirstConfusing (text : List ℕ) (i c : ℕ) : Type 0 where
  pub prefix : List ℕ
  pub after : List ℕ
  pub cut : chars text ≡ prefix ++ c ∷ after
  pub clear : NonePass is_confusing prefix
  pub is : IsTrue (is_confusing c)
  pub place : i ≡ size prefix

-- `ClosesPlainly text n`: after two bytes, the text has bytes other than `(`, `;` and 0xE2, and then `;)`, which ends at
-- byte `n`.
pub record ClosesPlainly (text : List ℕ) (n : ℕ) : Type 0 where
  pub inside : n ≡ prefix_len is_plain_in_block (drop 2 text) + 4
  pub range : n ≤ length text
  pub first : slice_index text (n - 2) ≡ semicolon
  pub second : slice_index text (n - 1) ≡ close_paren
