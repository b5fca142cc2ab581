-- Lemmas on the tokens of a text, for the crates above. Each has its proof in `proofs/tokens`, which is private to this crate.
use Rattle.std.proofs.Common.{◌≡◌, ◌≢◌, ◌<◌, ℕ, List, drop, get_or}
use Rattle.std.specs.List.{prefix_len}
use Rattle.std.specs.Str.{IsUtf8, IsCharBoundary}
use Rattle.wat_lex.specs.grammar.Classes.{is_idchar}
use Rattle.wat_lex.specs.tokens.BareWords.{bare_len}
use Rattle.wat_lex.specs.tokens.EverySetting.{EachBoundaryHasTiling, ScanResultIsUnique, TokensEndAtBoundaries}
use Rattle.wat_lex.specs.tokens.ReadableTokens.{IsTokenOf}
use Rattle.wat_lex.specs.tokens.Setting.{Setting}
use Rattle.wat_lex.specs.tokens.Tiling.{TokenAt, Tiling}
use Rattle.wat_lex.specs.declared.lexer.kinds.Token.{Token}
use Rattle.wat_lex.proofs.tokens.BareWords as bare_words
use Rattle.wat_lex.proofs.tokens.MovedTexts as moved_texts
use Rattle.wat_lex.proofs.tokens.OneTilings as one_tilings
use Rattle.wat_lex.proofs.tokens.RawLaws as raw_laws
use Rattle.wat_lex.proofs.tokens.ReadableTokens as readable_tokens
use Rattle.wat_lex.proofs.tokens.SomeTilings as some_tilings

-- A token, the end of the text, or a lexical error is at an offset, and only one of them.
pub one_thing_is_at : ScanResultIsUnique
one_thing_is_at s p q r at also = one_tilings.is_at_one s p q r at also

-- There is a maximal tiling from each character boundary on.
pub some_tiling : EachBoundaryHasTiling
some_tiling s p utf8 boundary = some_tilings.some_tiling s p utf8 boundary

-- A tiling that begins at a character boundary ends at one.
pub tiling_ends_at_boundary : (s : Setting) (from to : ℕ) (ts : List Token) → IsUtf8 s.text → IsCharBoundary s.text from → Tiling s from to ts → IsCharBoundary s.text to
tiling_ends_at_boundary s from to ts utf8 boundary tiling = moved_texts.tiling_ends s from to ts utf8 boundary tiling

-- A token that begins at a character boundary ends at one.
pub token_ends_at_boundary : TokensEndAtBoundaries
token_ends_at_boundary s p t utf8 boundary at = raw_laws.after s p t utf8 boundary at

-- The length of a token that is known to be one, from its offset on, is a character boundary too.
pub token_len_is_boundary : (text : List ℕ) (t : Token) → IsUtf8 text → IsTokenOf text t → IsCharBoundary (drop t.offset text) t.len
token_len_is_boundary text t utf8 token = readable_tokens.token_ends text t utf8 token

-- A token is not empty.
pub token_is_not_empty : (s : Setting) (p : ℕ) (t : Token) → TokenAt s p t → 0 < t.len
token_is_not_empty s p t at = raw_laws.token_some s p t at

-- The length of a word of idchars alone is that of the idchars at its start, and no quotation mark follows them.
pub bare_word_is_idchars : (text : List ℕ) → 0 < bare_len text → (bare_len text ≡ prefix_len is_idchar text) × (get_or text (prefix_len is_idchar text) 0 ≢ 34)
bare_word_is_idchars text some = bare_words.measured text some
