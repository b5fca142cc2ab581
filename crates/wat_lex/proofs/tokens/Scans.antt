-- Results for the rest of a text hold at its offset in the text.
use Rattle.std.proofs.Common.{◌≡◌, ◌≤◌, ◌<◌, ◌+◌, ℕ, List, length, drop, arith, ap, subst, length-drop}
use Rattle.std.proofs.lemmas.Str.{encodes-chars}
use Rattle.std.specs.Str.{IsUtf8}
use lib.Utf8.{encodes}
use Rattle.wat_lex.specs.grammar.Classes.{size}
use Rattle.wat_lex.specs.tokens.Faults.{FaultAt}
use Rattle.wat_lex.specs.tokens.Tiling.{TokenAt}
use Rattle.wat_lex.specs.inside.ScannedLexemes.{LexemeFound, Refused}
use Rattle.wat_lex.specs.declared.lexer.kinds.TokenKind.{TokenKind}
use Rattle.std.specs.Str.{IsCharBoundary}
use Rattle.std.proofs.lemmas.Str.{IsCharBoundary-from_rest, length-encode, len_utf8_bounds}
use lib.Utf8.{encode}
use Rattle.std.proofs.Common.{◌≢◌, [], ◌∷◌, refl, inl, inr, length-append}
use Rattle.wat_lex.specs.grammar.Comments.{BlockComment as Commented, opened, LineComment as CommentedLine, begun}
use Rattle.wat_lex.specs.grammar.Runs.{Piece, Run, RunWord, none, idchar, string}
use Rattle.wat_lex.specs.tokens.Setting.{Setting}
use Rattle.wat_lex.specs.declared.lexer.settings.Settings.{Settings}
use Rattle.wat_lex.specs.declared.lexer.kinds.Lexeme.{Lexeme}
use Rattle.wat_lex.specs.declared.lexer.faults.LexFault.{LexFault}
use Rattle.wat_lex.specs.grammar.Words.{Word}
use Rattle.wat_lex.specs.declared.lexer.kinds.TokenKind.TheVariants.{LineComment, BlockComment, Whitespace, LParen, RParen, String, Id, Keyword, Annotation, Reserved, Integer, Float}
use Rattle.wat_lex.proofs.inside.CheckedComments.{boundary_at}
use Rattle.wat_lex.proofs.inside.Confusing.{size-append}
use Rattle.wat_lex.specs.declared.lexer.settings.Settings.{Settings}

pub found_fits : (flags : Settings) (text : List ℕ) (lexeme : Lexeme) → IsUtf8 text → LexemeFound flags text lexeme → lexeme.len ≤ length text
found_fits flags text lexeme u h = omega (arith, h.len, size-append h.word h.rest, ap size h.is_at.cut, ap length (encodes-chars text u))

pub token_at : (s : Setting) (part : List ℕ) (p : ℕ) (lexeme : Lexeme) → part ≡ drop p s.text → LexemeFound s.flags part lexeme → TokenAt s p (record { kind = lexeme.kind; offset = p; len = lexeme.len })
token_at s part p lexeme e h = let g = subst (λ x. LexemeFound s.flags x lexeme) e h in record { offset = refl; word = g.word; rest = g.rest; is_at = g.is_at; len = g.len }

pub fault_at : (s : Setting) (part : List ℕ) (p : ℕ) (f : LexFault) → p ≤ length s.text → part ≡ drop p s.text → Refused s.flags part f → FaultAt s p (record { offset = p + f.offset; error = f.error })
fault_at s part p f l k h = let g = subst (λ x. Refused s.flags x f) k h in record { at = g.at; fault = g.fault; place = let q = g.place in omega (arith, q, length-drop p s.text) }

pub part_ends : (s : Setting) (part : List ℕ) (p : ℕ) (lexeme : Lexeme) → p ≤ length s.text → part ≡ drop p s.text → IsUtf8 part → LexemeFound s.flags part lexeme → IsCharBoundary s.text (p + lexeme.len)
part_ends s part p lexeme l e u h = IsCharBoundary-from_rest s.text p lexeme.len l (subst (λ x. IsCharBoundary x lexeme.len) e (boundary_at s.flags part lexeme u h))

pub some_size : (w : List ℕ) → w ≢ [] → 0 < size w
some_size [] h = absurd (h refl)
some_size (c ∷ w) h = omega (arith, length-append (encode c) (encodes w), length-encode c, (len_utf8_bounds c).0)

run_some : (flags : Settings) (w : List ℕ) (ps : List Piece) → ps ≢ [] → Run flags w ps [] → w ≢ []
run_some flags w ps n none e = n refl
run_some flags w ps n (idchar i h) e = cc
run_some flags w ps n (string q h) e = cc

run_word : (kind : TokenKind) (w : List ℕ) (flags : Settings) → RunWord kind w flags → w ≢ []
run_word kind w flags h = run_some flags w h.0 h.1 h.2

line_some : (w : List ℕ) → CommentedLine w → w ≢ []
line_some w (begun k) e = cc

block_some : (w r : List ℕ) → Commented w r → w ≢ []
block_some w r (opened k) e = cc

pub word_some : (kind : TokenKind) (w : List ℕ) (flags : Settings) → Word kind w flags → w ≢ []
word_some Whitespace w flags h = h.0
word_some LineComment w flags h = line_some w h.0
word_some BlockComment w flags h = block_some w [] h.0
word_some LParen w flags h = λ e. cc
word_some RParen w flags h = λ e. cc
word_some Reserved w flags (inl m) = λ e. let k = m.1 in cc
word_some Reserved w flags (inr h) = run_word Reserved w flags h
word_some String w flags h = run_word String w flags h
word_some Id w flags h = run_word Id w flags h
word_some Keyword w flags h = run_word Keyword w flags h
word_some Annotation w flags h = run_word Annotation w flags h
word_some (Integer k) w flags h = run_word (Integer k) w flags h
word_some (Float k) w flags h = run_word (Float k) w flags h

pub found_some : (flags : Settings) (text : List ℕ) (lexeme : Lexeme) → LexemeFound flags text lexeme → 0 < lexeme.len
found_some flags text lexeme h = let k = some_size h.word (word_some lexeme.kind h.word flags h.is_at.word) in omega (arith, h.len)
