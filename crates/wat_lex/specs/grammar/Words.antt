-- WebAssembly 2.0, 6.2.2 (tokens), 6.2.3 (whitespace) and 6.2.4 (comments), and the annotations proposal: the language
-- of each kind of token, and what may follow a lexeme of it. Unlike in the standard, each of `,` `;` `[` `]` `{` `}` is
-- a reserved token by itself and joins no run.
use Rattle.std.specs.Prelude.{◌≡◌, ◌≢◌, ℕ, ◌||◌, ◌==◌, ◌⊎◌, List, [], ◌∷◌, ◌++◌, IsTrue}
use Rattle.wat_lex.specs.grammar.Classes.{open_paren, close_paren, semicolon, is_whitespace, is_line_end, is_punctuation, is_run_char, Each, Begins, IsClear}
use Rattle.wat_lex.specs.grammar.Comments.{BlockComment as Commented, LineComment as CommentedLine}
use Rattle.wat_lex.specs.grammar.Runs.{RunWord}
use Rattle.wat_lex.specs.declared.lexer.settings.Settings.{Settings}
use Rattle.wat_lex.specs.declared.lexer.kinds.TokenKind.{TokenKind}
use Rattle.wat_lex.specs.declared.lexer.kinds.TokenKind.TheVariants.{LineComment, BlockComment, Whitespace, LParen, RParen, Reserved}

-- A reserved token of one character: one of `is_punctuation`, or `;`.
abbrev pub Punctuation : List ℕ → Type 0
Punctuation w = (c : ℕ) × (w ≡ c ∷ []) × IsTrue (is_punctuation c || c == semicolon)

-- `Word kind w flags`: `w` is in the language of this kind.
abbrev pub Word : TokenKind → List ℕ → Settings → Type 0
Word Whitespace w flags = (w ≢ []) × Each is_whitespace w
Word LineComment w flags = CommentedLine w × IsClear flags.allow w
Word BlockComment w flags = Commented w [] × IsClear flags.allow w
Word LParen w flags = w ≡ open_paren ∷ []
Word RParen w flags = w ≡ close_paren ∷ []
Word Reserved w flags = Punctuation w ⊎ RunWord Reserved w flags
Word kind w flags = RunWord kind w flags

-- Neither an idchar nor a string follows, so a run ends before `rest`.
abbrev pub EndsRun : List ℕ → Type 0
EndsRun rest = Begins is_run_char rest → ⊥

-- `MayFollow kind w rest`: `rest` may follow the lexeme `w` of this kind. This excludes a rest that would continue `w`.
abbrev pub MayFollow : TokenKind → List ℕ → List ℕ → Type 0
MayFollow Whitespace w rest = Begins is_whitespace rest → ⊥
MayFollow LineComment w rest = (rest ≡ []) ⊎ Begins is_line_end rest
MayFollow BlockComment w rest = Unit {0}
MayFollow LParen w rest = Begins (λ c. c == semicolon) rest → ⊥
MayFollow RParen w rest = Unit {0}
MayFollow Reserved w rest = (w ≡ semicolon ∷ [] → Begins (λ c. c == semicolon) rest → ⊥) × ((Punctuation w → ⊥) → EndsRun rest)
MayFollow kind w rest = EndsRun rest

-- `WordIsAt flags text kind w rest`: the text is `w` and then `rest`; `w` is a lexeme of this kind that `rest` may
-- follow.
pub record WordIsAt (flags : Settings) (text : List ℕ) (kind : TokenKind) (w rest : List ℕ) : Type 0 where
  pub cut : text ≡ w ++ rest
  pub word : Word kind w flags
  pub ends : MayFollow kind w rest
