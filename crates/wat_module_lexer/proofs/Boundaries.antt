-- A token of the lexer is one of characters of the text.
use Rattle.std.proofs.Common.{◌≡◌, ◌+◌, ℕ, List, ap, subst, sym}
use Rattle.std.specs.Str.{IsCharBoundary, IsUtf8}
use Rattle.std.proofs.lemmas.Str.{IsCharBoundary-from_rest}
use Rattle.wat_module_tokens.specs.declared.stream.PackedU32.{PackedU32}
use Rattle.wat_module_tokens.specs.Tokens.{AreCharacters, bytes_at, number_of}
use Rattle.wat_lex.proofs.lemmas.Tokens.{token_len_is_boundary}
use Rattle.wat_lex.specs.declared.lexer.kinds.Token.{Token}
use Rattle.wat_lex.specs.tokens.ReadableTokens.{IsTokenOf, token_text}

pub ends : (text : List ℕ) (t : Token) → IsUtf8 text → IsTokenOf text t → IsCharBoundary text (t.offset + t.len)
ends text t u h = IsCharBoundary-from_rest text t.offset t.len h.boundary.0 (token_len_is_boundary text t u h)

-- the characters at the token's offset, in halves, are the token's
pub at_token : (text : List ℕ) (t : Token) (offset : PackedU32) → IsUtf8 text → IsTokenOf text t → number_of offset ≡ t.offset → (bytes_at text (number_of offset) t.len ≡ token_text text t) × AreCharacters text (number_of offset) t.len
at_token text t offset u h e = (ap (λ o. bytes_at text o t.len) e, subst (λ o. AreCharacters text o t.len) (sym e) (h.boundary, ends text t u h))
