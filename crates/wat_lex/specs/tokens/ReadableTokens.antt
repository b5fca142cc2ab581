-- WebAssembly 2.0, 6.2.2 (tokens): the precondition of the functions that return the value of a token. It does not
-- depend on the lexer that found the token.
use Rattle.std.specs.Prelude.{◌≡◌, ℕ, List, ◌++◌, take, drop}
use Rattle.std.specs.Str.{chars, IsCharBoundary}
use Rattle.wat_lex.specs.grammar.Classes.{size}
use Rattle.wat_lex.specs.tokens.Setting.{lenient}
use Rattle.wat_lex.specs.grammar.Words.{Word}
use Rattle.wat_lex.specs.declared.lexer.kinds.Token.{Token}

-- `IsTokenOf text t`: `t` is a token of the text. Its lexeme is in the language of its kind, under the most permissive
-- flags.
pub record IsTokenOf (text : List ℕ) (t : Token) : Type 0 where
  pub boundary : IsCharBoundary text t.offset
  pub word : List ℕ
  pub rest : List ℕ
  pub cut : chars (drop t.offset text) ≡ word ++ rest
  pub is : Word t.kind word lenient
  pub len : t.len ≡ size word

-- The bytes of a token in its text.
abbrev pub token_text : List ℕ → Token → List ℕ
token_text text t = take t.len (drop t.offset text)

-- The lexeme of a token of a text, if `IsTokenOf` holds.
abbrev pub word_of : List ℕ → Token → List ℕ
word_of text t = chars (token_text text t)
